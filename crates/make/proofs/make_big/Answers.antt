-- `make::make_big` meets its contract.
use mathlib.Core.Path.{sym, ◌∙◌, ap}
use Rattle.parser.specs.Parse.{refused, sized}
use Rattle.parser.proofs.AnswerLaws.{handed_on, none_or}
use Rattle.make.proofs.make_big.Goals as goal

pub returns-in_err-t : goal.returns-in_err-t
unfolding sized
returns-in_err-t c =
    let n = none_or _ c.in_err-t.ensures.value in
    λ lo g. rw (handed_on c.from_residual.result c.from_residual.ensures.1) (rw (sym c.paren_of.ensures ∙ n.0) (ap (λ x. refused x) (sym n.1)))

pub returns : goal.returns
unfolding sized
returns c = rw (sym c.paren_of.ensures ∙ c.in_ok-t.ensures.ok_part) c.make_leaf.ensures
