-- `lexer::letters::letter_at` meets its contract.
use borrow.Enum.Refused.{opened}
use Rattle.lexer.proofs.LettersLaws.{letter_here, letter_none}
use Rattle.lexer.proofs.letters.letter_at.Goals as goal

pub returns-in-Letter : goal.returns-in-Letter
returns-in-Letter c =
    letter_here c.args.t.now c.args.i c.requires c.letter_or_token-next.result c.letter_or_token-next.ensures.0 _ _ c.in-Letter.is

pub returns-in_default : goal.returns-in_default
returns-in_default c =
    letter_none c.args.t.now c.args.i c.letter_or_token-next.result c.letter_or_token-next.ensures.0 (opened c.in_default.in_default-own.keys2)
