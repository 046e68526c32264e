-- `token::debug::escaped_in` meets its contract.
use native.Mathlib.Omega.{arith}
use Rattle.token.proofs.DebugLaws.{marked_in, unmarked_in, letter_stays}
use Rattle.token.proofs.debug.escaped_in.Goals as goal

pub returns-in-65-to-91 : goal.returns-in-65-to-91
returns-in-65-to-91 c = letter_stays c.args.b (omega arith) (omega arith) (λ e. omega arith) (λ e. grind arith) c.args.dialect

pub returns-in-38 : goal.returns-in-38
returns-in-38 c = marked_in c.args.dialect c.args.b c.reference.result c.in-38.is (rw c.from.ensures at c.reference.ensures)

pub returns-in_default : goal.returns-in_default
returns-in_default c =
    rw (unmarked_in c.args.b (omega arith) (λ e. grind arith) (λ e. grind arith) (λ e. grind arith) c.args.dialect) c.escaped_twice.ensures
