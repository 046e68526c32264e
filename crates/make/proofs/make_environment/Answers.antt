-- `make::make_environment` meets its contract.
use mathlib.Core.Path.{sym, ap}
use borrow.Enum.Refused.{opened}
use Rattle.parser.specs.Parse.{refused, in_environment}
use Rattle.parser.proofs.AnswerLaws.{handed_on, none_or}
use Rattle.make.proofs.MakeLaws.{opened_row, opened_other}
use Rattle.make.proofs.make_environment.Goals as goal

pub returns-in_err-env : goal.returns-in_err-env
unfolding in_environment
returns-in_err-env c =
    let n = none_or _ c.in_err-env.ensures.value in
    λ lo m h. rw (handed_on c.from_residual.result c.from_residual.ensures.1) (rw n.0 (ap (λ x. refused x) (sym n.1)))

pub returns-in-Row : goal.returns-in-Row
returns-in-Row c =
    rw c.in_ok-env.ensures.ok_part (opened_row c.args.store.now c.args.content c.get_record-r.ensures.0 c.from.ensures c.make_matrix.new.store c.args.p c.make_matrix.result _ c.in-Row.n c.in-Row.is c.make_matrix.ensures)

pub returns-in_default : goal.returns-in_default
returns-in_default c =
    rw c.in_ok-env.ensures.ok_part (opened_other c.args.store.now c.args.content c.get_record-r.ensures.0 c.from.ensures c.make_matrix-in_default.new.store c.args.p c.make_matrix-in_default.result _ (opened c.in_default.in_default-own.keys2) c.make_matrix-in_default.ensures)
