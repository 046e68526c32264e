-- `lexer::Cursor::next_token` meets its contract.
use mathlib.Core.Path.{◌∙◌, ap}
use Rattle.lexer.proofs.NextLaws.{next_read, next_spans}
use Rattle.lexer.proofs.Cursor.next_token.Goals as goal

pub returns : goal.returns
returns c =
    let read = c.token_at.ensures ∙ next_read c.args.s.now c.args.self.at c.skip_whitespace-here.result.at c.skip_whitespace-here.ensures.0 in
    (read, rw (ap (λ t. t.end) read) (next_spans c.args.s.now c.args.self.at c.requires).inside)
