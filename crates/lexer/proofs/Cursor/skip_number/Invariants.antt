-- `lexer::Cursor::skip_number` meets its contract. The loop's invariant: what is left of the number ends where the whole number ends.
use mathlib.Core.Path.{◌≡◌}
use mathlib.Core.Bool.{false}
use Prim.Native.Nat.{◌+◌}
use lib.ListN.{drop}
use Rattle.lexer.specs.Lex.{read_number}
use Rattle.lexer.proofs.Cursor.skip_number.Given as goal

abbrev pub invariant-loop-i : goal.invariant-loop-i
invariant-loop-i l =
    l.fn.self.at + read_number false (drop l.fn.self.at l.s) ≡ l.i + read_number l.has_period (drop l.i l.s)
