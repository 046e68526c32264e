-- `make::make_fenced` meets its contract.
use mathlib.Core.Path.{sym, ◌∙◌, ap}
use Rattle.parser.specs.Parse.{refused, with_fence, fenced}
use Rattle.parser.proofs.AnswerLaws.{handed_on, none_or}
use Rattle.make.proofs.make_fenced.Goals as goal

pub returns-in_err-second : goal.returns-in_err-second
unfolding fenced with_fence
returns-in_err-second c =
    let n = none_or _ c.in_err-second.ensures.value in
    λ lo m h. rw (handed_on c.from_residual.result c.from_residual.ensures.1) (rw (sym c.fence_of.ensures ∙ n.0) (ap (λ x. refused x) (sym n.1)))

pub returns : goal.returns
unfolding fenced with_fence
returns c = rw (sym c.fence_of.ensures ∙ c.in_ok-second.ensures.ok_part) c.make_one.ensures
