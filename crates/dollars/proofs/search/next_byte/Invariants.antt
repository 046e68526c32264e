-- `dollars::search::next_byte` meets its contract. The invariant: the next b from i on is the next from the beginning on.
use mathlib.Core.Path.{◌≡◌}
use lib.ListN.{drop}
use Rattle.dollars.specs.Places.{next_place}
use Rattle.dollars.specs.Search.{starts_with}
use Rattle.dollars.proofs.search.next_byte.Given as goal

abbrev pub invariant-loop-i : goal.invariant-loop-i
invariant-loop-i l =
    next_place (starts_with l.b) l.from (drop l.from l.s) ≡ next_place (starts_with l.b) l.i (drop l.i l.s)
