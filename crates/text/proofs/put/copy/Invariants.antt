-- `text::put::copy` meets its contract. The invariant: as many bytes of the piece as the index says are in the place.
use mathlib.Core.Path.{◌≡◌}
use lib.Seq.{paste}
use Rattle.text.proofs.put.copy.Given as goal

abbrev pub invariant-loop-i : goal.invariant-loop-i
invariant-loop-i l = l.place ≡ paste l.initial.place 0 l.piece l.i
