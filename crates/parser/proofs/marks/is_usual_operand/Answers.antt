-- `parser::marks::is_usual_operand` meets its contract.
use mathlib.Core.Path.{sym, ◌∙◌}
use mathlib.Core.Bool.{false≢true}
use Rattle.parser.proofs.MarkLaws.{usual_alone}
use Rattle.parser.proofs.marks.is_usual_operand.Goals as goal
use Rattle.parser.proofs.marks.is_usual_operand.Goals.{in-Letter, in_default}

pub returns-then-matches : goal.returns-then-matches
returns-then-matches c =
    elim c.match-matches.branch [
      | in-Letter w ↦ λ e. usual_alone c.args.t c.args.behind w.in-Letter.in-Letter-own.keys1 (rw c.is_put_on.ensures at e)
      | in_default w ↦ absurd (false≢true (sym w.matches-is ∙ c.if-matches.true))
    ]
