-- `parse::body::parse_nodes` meets its contract.
use mathlib.Core.Path.{◌≡◌}
use Prim.Native.Nat.{◌-◌}
use lib.ListN.{length}
use Rattle.parse.proofs.BodyLaws.{BodyLoop}
use Rattle.parse.proofs.body.parse_nodes.Given as goal

abbrev pub invariant-loop-store : goal.invariant-loop-store
invariant-loop-store l =
    (length l.store ≡ length l.initial.store) × BodyLoop l.depth l.s l.initial.store l.store l.q l.nodes.first l.nodes.last l.nodes.count

abbrev pub decreases-loop-store : goal.decreases-loop-store
decreases-loop-store l = length l.s - l.q.cur.start
