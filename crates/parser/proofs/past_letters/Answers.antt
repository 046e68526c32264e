-- `parser::past_letters` meets its contract.
use borrow.Enum.Refused.{opened}
use Rattle.lexer.proofs.LettersLaws.{no_letter}
use Rattle.parser.proofs.TextLaws.{passing_first, passing_all, passing_more, passing_less}
use native.Mathlib.Omega.{arith}
use Rattle.parser.proofs.past_letters.Goals as goal

pub loop-l-init : goal.loop-l-init
loop-l-init c =
    let n = c.token_from-l in
    passing_first c.past_alphabetic.ensures.0 c.past_alphabetic.ensures.1 n.ensures.0 n.ensures.1

pub loop-l-preserved : goal.loop-l-preserved
loop-l-preserved c =
    let run = c.past_alphabetic-in-Letter in
    let n = c.token_from-l-in-Letter in
    passing_more c.loop-l.invariant _ _ c.in-Letter.is (passing_first run.ensures.0 run.ensures.1 n.ensures.0 n.ensures.1)

pub loop-l-smaller : goal.loop-l-smaller
loop-l-smaller c =
    let run = c.past_alphabetic-in-Letter in
    let n = c.token_from-l-in-Letter in
    omega (arith, passing_less c.loop-l.invariant _ _ c.in-Letter.is (omega (arith, run.ensures.0)) run.ensures.1 n.ensures.0)

pub returns : goal.returns
returns c =
    (passing_all c.loop-l.invariant (no_letter c.loop-l.l.token (opened c.in_default.in_default-own.keys2)), c.loop-l.invariant.ends)
