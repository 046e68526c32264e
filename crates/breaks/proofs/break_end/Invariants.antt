-- `breaks::break_end` meets its contract. The invariant: the end of the break from i on is the end from the beginning on.
use mathlib.Core.Path.{◌≡◌}
use Prim.Native.Nat.{◌-◌, ◌≤◌}
use lib.ListN.{length, drop}
use Rattle.dollars.specs.Places.{next_place}
use Rattle.breaks.specs.Breaks.{no_line_end}
use Rattle.breaks.proofs.break_end.Given as goal

abbrev pub invariant-loop-w : goal.invariant-loop-w
invariant-loop-w l =
    (next_place no_line_end l.initial.i (drop l.initial.i l.s) ≡ next_place no_line_end l.i (drop l.i l.s)) × (l.initial.i ≤ l.i) × (l.i ≤ length l.s)

abbrev pub decreases-loop-w : goal.decreases-loop-w
decreases-loop-w l = length l.s - l.i
