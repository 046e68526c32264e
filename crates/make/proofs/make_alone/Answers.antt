-- `make::make_alone` meets its contract.
use Rattle.make.proofs.MakeLaws.{operator_of_either}
use Rattle.make.proofs.make_alone.Goals as goal

pub returns : goal.returns
returns c = rw (operator_of_either c.args.k c.in-BigOp.is) c.make_leaf.ensures
