-- `make::make_binom` meets its contract.
use Rattle.make.proofs.MakeLaws.{binomial_made, styled_made}
use Rattle.make.proofs.make_binom.Goals as goal

pub returns-in-None : goal.returns-in-None
returns-in-None c =
    rw c.in-None.is (binomial_made c.args.p c.args.a c.args.b (rw c.from.ensures at c.put_node.ensures) (rw c.from-2.ensures at c.put_node-2.ensures) c.done.ensures)

pub returns-in-Some : goal.returns-in-Some
returns-in-Some c =
    rw c.in-Some.is (styled_made c.args.p c.args.a c.args.b (rw c.from.ensures at c.put_node.ensures) (rw c.from-2.ensures at c.put_node-2.ensures) c.in-Some.display (rw c.row.ensures at c.put_node-in-Some.ensures) (rw c.from-in-Some.ensures at c.put_node-in-Some-2.ensures) c.done-in-Some.ensures)
