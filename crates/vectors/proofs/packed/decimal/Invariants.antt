-- `vectors::packed::decimal` meets its contract.
use lib.ListN.{length}
use Prim.Native.Nat.{◌≤◌, ◌<◌}
use Rattle.vectors.proofs.packed.decimal.Given as goal

abbrev pub invariant-loop-b : goal.invariant-loop-b
invariant-loop-b l = (length l.line.now ≤ length l.initial.line.now) × (l.value < 1000000)

abbrev pub decreases-loop-b : goal.decreases-loop-b
decreases-loop-b l = length l.line.now
