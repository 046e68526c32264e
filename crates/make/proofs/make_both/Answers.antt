-- `make::make_both` meets its contract.
use Rattle.make.proofs.MakeLaws.{both_made}
use Rattle.ast.specs.declared.Leaf.{Leaf}
use mathlib.Core.Path.{refl}
use Rattle.make.proofs.make_both.Goals as goal

pub returns : goal.returns
returns c =
    both_made c.args.p c.done.ensures (Leaf.Operator c.args.c) refl (rw c.fields.ensures at c.put_node.ensures) c.args.k c.args.x c.args.y (rw c.from.ensures at c.put_node-2.ensures)
