-- `ast::store::set_attr` meets its contract.
use Rattle.ast.proofs.StoreLaws.{attr_law}
use Rattle.ast.proofs.store.set_attr.Goals as goal

pub returns : goal.returns
returns c = attr_law c.args.store.now c.args.i c.args.attr (c.requires)
