-- `make::make_leaf` meets its contract.
use Rattle.make.proofs.MakeLaws.{leaf_made}
use Rattle.make.proofs.make_leaf.Goals as goal

pub returns : goal.returns
returns c =
    leaf_made c.args.p c.done.ensures c.args.l (rw c.fields.ensures at c.put_node.ensures)
