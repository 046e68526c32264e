-- `make::make_one` meets its contract.
use Rattle.make.proofs.MakeLaws.{one_made}
use Rattle.make.proofs.make_one.Goals as goal

pub returns : goal.returns
returns c =
    one_made c.args.p c.done.ensures c.args.k c.args.a (rw c.from.ensures at c.put_node.ensures)
