-- `make::make_pair` meets its contract.
use Rattle.parser.specs.Parse.{of_pair}
use Rattle.ast.proofs.HeldLaws.{turned_round}
use Rattle.make.proofs.make_pair.Goals as goal

pub returns-in-Frac : goal.returns-in-Frac
unfolding of_pair
returns-in-Frac c = rw c.in-Frac.is c.make_two.ensures

pub returns-in-Binom : goal.returns-in-Binom
returns-in-Binom c = rw c.in-Binom.is c.make_binom.ensures

pub returns-in-Overset : goal.returns-in-Overset
unfolding of_pair
returns-in-Overset c = rw c.in-Overset.is (λ lo m n h. c.make_two-in-Overset.ensures lo n m (turned_round h))

pub returns-in-Underset : goal.returns-in-Underset
unfolding of_pair
returns-in-Underset c = rw c.in-Underset.is (λ lo m n h. c.make_two-in-Underset.ensures lo n m (turned_round h))
