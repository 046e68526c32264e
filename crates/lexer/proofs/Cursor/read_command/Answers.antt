-- `lexer::Cursor::read_command` meets its contract.
use mathlib.Core.Path.{◌∙◌}
use Rattle.lexer.proofs.NextLaws.{command_read}
use Rattle.lexer.proofs.Cursor.read_command.Goals as goal

pub returns : goal.returns
returns c =
    c.new.ensures ∙ rw c.from_command-token.ensures (command_read c.args.s.now c.args.self.at c.skip_name-end.result.at c.skip_name-end.ensures.0)
