-- `make::make_explained` meets its contract.
use Rattle.make.proofs.MakeLaws.{explained_made}
use Rattle.ast.specs.declared.Leaf.{Leaf}
use mathlib.Core.Path.{refl}
use Rattle.make.proofs.make_explained.Goals as goal

pub returns : goal.returns
returns c =
    explained_made c.args.p c.done.ensures (Leaf.Operator c.args.x) refl c.args.k c.args.target c.args.expl (rw c.fields.ensures at c.put_node.ensures) (rw c.from.ensures at c.put_node-2.ensures) (rw c.from-2.ensures at c.put_node-3.ensures)
