-- `make::make_limits` meets its contract.
use Rattle.ast.proofs.HeldLaws.{turned_round}
use Rattle.parser.specs.Parse.{with_both}
use Rattle.make.proofs.make_limits.Goals as goal

pub returns-in-BigOp-Under : goal.returns-in-BigOp-Under
unfolding with_both
returns-in-BigOp-Under c = rw (c.in-BigOp-Under.is-0, c.in-BigOp-Under.is-1) c.make_both.ensures

pub returns-in-BigOp-Over : goal.returns-in-BigOp-Over
unfolding with_both
returns-in-BigOp-Over c =
    rw (c.in-BigOp-Over.is-0, c.in-BigOp-Over.is-1) (λ lo m n h. c.make_both-in-BigOp-Over.ensures lo n m (turned_round h))

pub returns-in-Integral-Under : goal.returns-in-Integral-Under
unfolding with_both
returns-in-Integral-Under c = rw (c.in-Integral-Under.is-0, c.in-Integral-Under.is-1) c.make_both-in-Integral-Under.ensures

pub returns-in-Integral-Over : goal.returns-in-Integral-Over
unfolding with_both
returns-in-Integral-Over c =
    rw (c.in-Integral-Over.is-0, c.in-Integral-Over.is-1) (λ lo m n h. c.make_both-in-Integral-Over.ensures lo n m (turned_round h))
