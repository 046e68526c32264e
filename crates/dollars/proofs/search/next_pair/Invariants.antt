-- `dollars::search::next_pair` meets its contract. The invariant: the next two b from i on are the next from the beginning on.
use mathlib.Core.Path.{◌≡◌}
use Prim.Native.Nat.{◌-◌, ◌≤◌}
use lib.ListN.{length, drop}
use Rattle.dollars.specs.Places.{next_place}
use Rattle.dollars.specs.Search.{pair}
use Rattle.dollars.proofs.search.next_pair.Given as goal

abbrev pub invariant-loop-first : goal.invariant-loop-first
invariant-loop-first l =
    (next_place (pair l.b) l.initial.i (drop l.initial.i l.s) ≡ next_place (pair l.b) l.i (drop l.i l.s)) × (l.initial.i ≤ l.i) × (l.i ≤ length l.s)

abbrev pub decreases-loop-first : goal.decreases-loop-first
decreases-loop-first l = length l.s - l.i
