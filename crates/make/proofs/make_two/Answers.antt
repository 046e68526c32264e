-- `make::make_two` meets its contract.
use Rattle.make.proofs.MakeLaws.{two_made}
use Rattle.make.proofs.make_two.Goals as goal

pub returns : goal.returns
returns c =
    two_made c.args.p c.done.ensures c.args.k c.args.a c.args.b (rw c.from.ensures at c.put_node.ensures)
