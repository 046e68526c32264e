-- `vectors::replay_all` meets its contract: each line that was replayed took a byte at least off the list.
use Rattle.vectors.specs.Counts.{AtMost}
use lib.ListN.{length}
use Prim.Native.Nat.{ℕ, ◌*◌, ◌+◌, ◌≤◌}
use Rattle.vectors.proofs.replay_all.Given as goal

abbrev pub invariant-loop-line : goal.invariant-loop-line
invariant-loop-line g l = (n : ℕ) × (n + length l.rest ≤ 524288) × AtMost l.tally (3 * n)

abbrev pub decreases-loop-line : goal.decreases-loop-line
decreases-loop-line g l = length l.rest
