-- `make::make_leaf_first` meets its contract.
use Rattle.make.proofs.MakeLaws.{leaf_first_made}
use Rattle.make.proofs.make_leaf_first.Goals as goal

pub returns : goal.returns
returns c =
    leaf_first_made c.args.p c.done.ensures c.args.l c.requires.3 (rw c.fields.ensures at c.put_node.ensures) c.args.k c.args.b (rw c.from.ensures at c.put_node-2.ensures)
