-- `dollars::is_prose` meets its contract. The invariant: a byte is unusual, or a dollar, if the flag says so or one from there on is.
use mathlib.Core.Path.{◌≡◌}
use mathlib.Core.Bool.{◌||◌}
use lib.ListN.{drop}
use Rattle.text.specs.Any.{any, contains}
use Rattle.dollars.specs.Dollars.{unusual}
use Rattle.dollars.proofs.is_prose.Given as goal

abbrev pub invariant-loop-b : goal.invariant-loop-b
invariant-loop-b l =
    (any unusual l.s ≡ (l.unusual || any unusual (drop l.b-index l.s))) × (contains 36 l.s ≡ (l.dollar || contains 36 (drop l.b-index l.s)))
