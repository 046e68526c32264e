-- What the code finds of a letter at a place of a text.
-- Assumes nothing.
use Rattle.std.specs.Prelude.{◌≡◌, List, ℕ, ◌+◌, ◌<◌, ◌≤◌, length, drop, Option, Some, None}
use Rattle.std.proofs.Math.Option.{none, some}
use Rattle.token.specs.Roles.{letter_of}
use Rattle.lexer.specs.declared.letters.Letter.{Letter}
use Rattle.lexer.specs.Lex.{next_token}

-- the next token of the text from a place on is a letter, which takes a byte or more and ends within the text, or it is none
abbrev pub LetterAt : List ℕ → ℕ → Option Letter → Type 0
LetterAt t i (Some l) =
    (letter_of (next_token 0 (drop i t)).token ≡ some l.code) × (l.end ≡ i + (next_token 0 (drop i t)).end) × (i < l.end) × (l.end ≤ length t)
LetterAt t i None = letter_of (next_token 0 (drop i t)).token ≡ none
