-- `make::make_row` meets its contract.
use Rattle.make.proofs.MakeLaws.{group_of_one, group_made}
use Rattle.make.proofs.make_row.Goals as goal

pub returns-then-nodes-eq1 : goal.returns-then-nodes-eq1
returns-then-nodes-eq1 c = group_of_one c.args.store.now c.args.p c.args.nodes.first c.args.nodes.count c.if-nodes-eq1.true

pub returns : goal.returns
returns c =
    group_made c.args.p c.args.nodes.first c.args.nodes.count c.if-nodes-eq1.false (rw c.row.ensures at c.put_node.ensures) c.done.ensures
