-- `text::any` meets its contract. The invariant: a byte passes the test if the flag says so or one from the index on does.
use mathlib.Core.Bool.{◌||◌}
use Rattle.std.specs.Prelude.{◌≡◌, ℕ, Bool, drop}
use Rattle.text.specs.Any.{any}
use Rattle.text.proofs.any.Given as goal

abbrev pub invariant-loop-b : goal.invariant-loop-b
invariant-loop-b g l =
    (test : ℕ → Bool) → ((b : ℕ) (r : Bool) → g.F.Fn.post l.passes (b, tt) r → r ≡ test b) → any test l.s ≡ (l.found || any test (drop l.b-index l.s))
