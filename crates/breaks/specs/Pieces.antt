-- The paragraphs of a document and the breaks between them.
-- Assumes nothing.
use Rattle.std.specs.Prelude.{true, false, List, [], ◌∷◌, ◌++◌, ℕ, suc, eqb, ltb}
use Prim.Native.Char.{code}
use Rattle.breaks.specs.Breaks.{in_line_end}

-- a last paragraph, or a paragraph, the break behind it and the pieces that follow
pub data Pieces : Type 0 where
  last : List ℕ → Pieces
  piece : (paragraph break : List ℕ) → Pieces → Pieces

-- how many line ends these are, one behind the other: each has one line feed
unfoldable pub count_ends : List ℕ → ℕ
count_ends [] = 0
count_ends (b ∷ l) = elim (eqb b (code "\n")) [ true ↦ suc (count_ends l) | false ↦ count_ends l ]

-- the pieces of what is read and what is ahead: a paragraph so far, the line ends behind it, and the bytes ahead
unfoldable pub cut : List ℕ → List ℕ → List ℕ → Pieces
cut paragraph ends [] =
    elim (ltb 1 (count_ends ends)) [ true ↦ piece paragraph ends (last []) | false ↦ last (paragraph ++ ends) ]
cut paragraph ends (b ∷ l) =
    elim (in_line_end (b ∷ l)) [
      | true ↦ cut paragraph (ends ++ b ∷ []) l
      | false ↦
          elim (ltb 1 (count_ends ends)) [
            | true ↦ piece paragraph ends (cut (b ∷ []) [] l)
            | false ↦ cut (paragraph ++ ends ++ b ∷ []) [] l
          ]
    ]

-- a break is a maximal run of two or more line ends
unfoldable pub pieces : List ℕ → Pieces
pieces document = cut [] [] document

-- the number of paragraphs
unfoldable pub paragraphs : Pieces → ℕ
paragraphs (last paragraph) = 1
paragraphs (piece paragraph break rest) = suc (paragraphs rest)
