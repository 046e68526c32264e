-- `ast::sum::fate_at` meets its contract.
use mathlib.Core.Path.{sym, ◌∙◌}
use Rattle.ast.proofs.CellLaws.{fate_read, fate_last}
use native.Mathlib.Omega.{arith}
use Rattle.ast.proofs.sum.fate_at.Goals as goal

pub returns-then-behind-top : goal.returns-then-behind-top
returns-then-behind-top c =
    c.fate_by.ensures ∙ fate_read c.args.store.now c.args.top c.args.i c.if-behind-top.true c.get_record.ensures.0 c.get_record-then-behind-top.ensures.0

pub returns-else-behind-top : goal.returns-else-behind-top
returns-else-behind-top c = sym (fate_last c.args.store.now c.args.top c.args.i (omega arith))
