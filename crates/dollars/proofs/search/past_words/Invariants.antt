-- `dollars::search::past_words` meets its contract. The invariant: the next b from i on is the next from the beginning on.
use mathlib.Core.Path.{◌≡◌}
use Prim.Native.Nat.{◌+◌, ◌*◌}
use lib.ListN.{drop}
use Rattle.dollars.specs.Places.{next_place}
use Rattle.dollars.specs.Search.{starts_with}
use Rattle.dollars.proofs.search.past_words.Given as goal

abbrev pub invariant-loop-word : goal.invariant-loop-word
invariant-loop-word l =
    (next_place (starts_with l.b) l.from (drop l.from l.s) ≡ next_place (starts_with l.b) l.i (drop l.i l.s)) × (l.i ≡ l.from + 8 * l.word-index)
