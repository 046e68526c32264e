-- `make::make_sub_sup` meets its contract.
use Rattle.parser.specs.Parse.{sub_sup}
use Rattle.make.proofs.MakeLaws.{turned_inside}
use Rattle.make.proofs.make_sub_sup.Goals as goal

pub returns-in-Under : goal.returns-in-Under
unfolding sub_sup
returns-in-Under c = rw c.in-Under.is c.make_three.ensures

pub returns-in-Over : goal.returns-in-Over
unfolding sub_sup
returns-in-Over c = rw c.in-Over.is (λ lo m n o h. c.make_three-in-Over.ensures lo m o n (turned_inside h))
