-- `parser::Parser::parse_text` meets its contract.
use mathlib.Core.Path.{sym}
use borrow.Enum.Refused.{opened}
use Rattle.lexer.proofs.LettersLaws.{no_letter}
use Rattle.parser.proofs.TextLaws.{text_none, text_some}
use Rattle.parser.proofs.Parser.parse_text.Goals as goal

pub returns-in-Letter : goal.returns-in-Letter
returns-in-Letter c =
    rw c.following-peek.ensures (sym (text_some c.args.s.now c.args.self c.requires _ _ c.in-Letter.is c.past_letters-cur.result c.past_letters-cur.ensures.0))

pub returns-in_default : goal.returns-in_default
returns-in_default c =
    rw c.next_token.ensures (sym (text_none c.args.s.now c.args.self (no_letter c.args.self.peek.token (opened c.in_default.in_default-own.keys2))))
