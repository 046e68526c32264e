-- The text of the letters at the head of a list of bytes, which the parser's parse_text reads.
-- Assumes nothing.
use Rattle.std.specs.Prelude.{List, [], ◌∷◌, ◌++◌, ℕ, zero, suc, length, drop}
use Rattle.std.proofs.Math.Option.{none, some}
use Rattle.text.specs.Utf8.{encode}
use Rattle.token.specs.Roles.{letter_of}
use Rattle.lexer.specs.Lex.{next_token}

-- the characters of the first tokens that are letters, at most k of them
unfoldable pub letters_within : ℕ → List ℕ → List ℕ
letters_within zero l = []
letters_within (suc k) l =
    elim (letter_of (next_token 0 l).token) [ none ↦ [] | some c ↦ c ∷ letters_within k (drop (next_token 0 l).end l) ]

-- the characters of the first tokens that are letters, each of which takes a byte or more
unfoldable pub letters : List ℕ → List ℕ
letters l = letters_within (length l) l

-- the bytes of a list of code points
unfoldable pub encode_all : List ℕ → List ℕ
encode_all [] = []
encode_all (c ∷ cs) = encode c ++ encode_all cs
