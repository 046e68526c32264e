-- `make::make_leaf_second` meets its contract.
use Rattle.make.proofs.MakeLaws.{leaf_second_made}
use Rattle.make.proofs.make_leaf_second.Goals as goal

pub returns : goal.returns
returns c =
    leaf_second_made c.args.p c.done.ensures c.args.l c.requires.3 (rw c.fields.ensures at c.put_node.ensures) c.args.k c.args.a (rw c.from.ensures at c.put_node-2.ensures)
