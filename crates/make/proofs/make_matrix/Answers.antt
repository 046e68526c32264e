-- `make::make_matrix` meets its contract.
use Rattle.make.proofs.MakeLaws.{matrix_made, fenced_matrix_made}
use Rattle.parser.specs.Parse.{in_environment}
use Rattle.attribute.specs.declared.ColumnAlign.{ColumnAlign}
use Rattle.make.proofs.make_matrix.Goals as goal

pub returns-in-Bare : goal.returns-in-Bare
unfolding in_environment
returns-in-Bare c =
    rw c.in-Bare.is (matrix_made c.args.p c.done.ensures c.in-Bare.align c.args.first c.args.count (rw c.matrix.ensures at c.put_node.ensures))

pub returns-in-Between : goal.returns-in-Between
unfolding in_environment
returns-in-Between c =
    rw c.in-Between.is (fenced_matrix_made c.args.p ColumnAlign.Center c.in-Between.t c.in-Between.u c.args.first c.args.count (rw c.matrix-in-Between.ensures at c.put_node-in-Between.ensures) (rw c.from.ensures at c.put_node-in-Between-2.ensures) c.done-in-Between.ensures)
