-- `vectors::case::read_head` meets its contract.
use lib.ListN.{length}
use Prim.Native.Nat.{◌≤◌}
use Rattle.vectors.proofs.case.read_head.Given as goal

abbrev pub invariant-loop-letter : goal.invariant-loop-letter
invariant-loop-letter l = length l.line.now ≤ length l.initial.line.now

abbrev pub decreases-loop-letter : goal.decreases-loop-letter
decreases-loop-letter l = length l.line.now
