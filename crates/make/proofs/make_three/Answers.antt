-- `make::make_three` meets its contract.
use Rattle.make.proofs.MakeLaws.{three_made}
use Rattle.make.proofs.make_three.Goals as goal

pub returns : goal.returns
returns c =
    three_made c.args.p c.done.ensures c.args.k c.args.a c.args.b c.args.c (rw c.from.ensures at c.put_node.ensures)
