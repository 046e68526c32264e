-- `token::compare` meets its contract. The loop's invariant: what the names have from the byte i on decides.
use Rattle.std.specs.Prelude.{◌≡◌, ◌≤◌, drop, length}
use Rattle.token.specs.Key.{cmp}
use Rattle.token.proofs.compare.Given as goal

abbrev pub invariant-loop-i : goal.invariant-loop-i
invariant-loop-i l = cmp (drop l.i l.row) (drop l.i l.name) ≡ cmp l.row l.name
