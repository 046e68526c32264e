-- `lexer::Cursor::read_number` meets its contract.
use Rattle.lexer.specs.Lex.{number_at}
use Rattle.lexer.proofs.Cursor.read_number.Goals as goal

pub returns : goal.returns
unfolding number_at
returns c = rw (c.new.ensures, c.skip_number-end.ensures.0)
