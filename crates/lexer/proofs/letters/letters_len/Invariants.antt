-- `lexer::letters::letters_len` meets its contract. The loop's invariant: the letters before the place i are counted.
use mathlib.Core.Path.{◌≡◌}
use Prim.Native.Nat.{ℕ, ◌+◌, ◌-◌}
use lib.ListN.{length}
use Rattle.text.specs.Xml.{in_text}
use Rattle.lexer.specs.Letters.{letters, encode_all}
use Rattle.lexer.proofs.LettersLaws.{Reading, left}
use Rattle.lexer.proofs.letters.letters_len.Given as goal

abbrev pub invariant-loop-letter : goal.invariant-loop-letter
invariant-loop-letter l =
    (budget : ℕ) × Reading l.t l.i budget × (length (in_text l.dialect (encode_all (letters l.t))) ≡ l.n + length (left l.dialect l.t l.i budget))

abbrev pub decreases-loop-letter : goal.decreases-loop-letter
decreases-loop-letter l = length l.t - l.i
