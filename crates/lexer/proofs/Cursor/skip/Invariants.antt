-- `lexer::Cursor::skip` meets its contract. The loop's invariant: what is left of the run ends where the whole run ends.
use Rattle.std.specs.Prelude.{◌≡◌, ℕ, Bool, ◌+◌, drop}
use Rattle.lexer.specs.Lex.{run}
use Rattle.lexer.proofs.Cursor.skip.Given as goal

abbrev pub invariant-loop-i : goal.invariant-loop-i
invariant-loop-i g l =
    (test : ℕ → Bool) → ((b : ℕ) (r : Bool) → g.F.Fn.post l.passes (b, tt) r → r ≡ test b) → l.fn.self.at + run test (drop l.fn.self.at l.s) ≡ l.i + run test (drop l.i l.s)
