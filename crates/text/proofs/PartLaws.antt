-- A part of a list, taken apart.
-- Assumes nothing.
use mathlib.Core.Path.{◌≡◌}
use mathlib.Core.List.{List, []}
use Prim.Native.Nat.{ℕ, ◌-◌, ◌≤◌}
use native.Mathlib.Omega.{arith}
use lib.ListN.{length, drop, length-drop}
use lib.Seq.{length-take-le}
use Rattle.text.specs.Text.{part}

pub part_none : (s : List ℕ) (a e : ℕ) → e ≤ a → part a e s ≡ []
part_none s a e h =
    let none : e - a ≡ 0 = omega arith in
    rw none

pub part_length : (s : List ℕ) (a e : ℕ) → a ≤ e → e ≤ length s → length (part a e s) ≡ e - a
part_length s a e less inside = length-take-le (e - a) (drop a s) (simp length-drop (omega arith))
