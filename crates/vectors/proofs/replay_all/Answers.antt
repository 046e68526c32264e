use Rattle.vectors.proofs.CountLaws.{weaken}
use Prim.Native.Nat.{◌+◌, ◌*◌}
use native.Mathlib.Omega.{arith}
use Rattle.vectors.proofs.replay_all.Goals as goal

pub loop-line-preserved : goal.loop-line-preserved
loop-line-preserved g c =
    let l = c.loop-line.invariant in
    (l.0 + 1, omega (arith, c.in-Some.ensures, l.1), weaken (c.replay-tally.ensures (3 * l.0) l.2) (omega arith))
