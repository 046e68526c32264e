-- `parser::digit_or_token` meets its contract.
use borrow.Enum.Refused.{opened}
use Rattle.parser.proofs.DigitLaws.{among_others, digit_taken, token_left, number_left}
use native.Mathlib.Omega.{arith}
use Rattle.parser.proofs.digit_or_token.Goals as goal

pub returns-in-Number : goal.returns-in-Number
returns-in-Number c =
    λ t acts. digit_taken c.args.s.now c.args.at _ c.token_from-next.ensures.0 t acts c.in-Number.is c.if-begin-at.true

pub returns-in_default : goal.returns-in_default
returns-in_default c =
    λ t acts. number_left c.args.s.now c.args.at _ c.token_from-next.ensures.0 t acts c.in-Number.is (λ here. omega (arith, c.if-begin-at.false))

pub returns-in_default-2 : goal.returns-in_default-2
returns-in_default-2 c =
    λ t acts. token_left c.args.s.now c.args.at _ c.token_from-next.ensures.0 t acts (among_others (opened c.in_default.in_default-own.keys2))
