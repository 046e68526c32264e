-- What the right cut of a document is: the breaks are its maximal runs of two or more line ends.
-- Assumes nothing.
use Rattle.std.specs.Prelude.{◌≡◌, Bool, true, false, not, ◌&&◌, ℕ, ◌≤◌, length}
use mathlib.Core.List.{List, [], ◌∷◌, ◌++◌, flat_map}
use Prim.Native.Char.{code}
use Rattle.breaks.specs.Pieces.{Pieces, last, piece}
use Rattle.breaks.specs.Breaks.{in_line_end, two_line_ends}

-- the pieces joined: the document that they are cut from
unfoldable pub typed_all : Pieces → List ℕ
typed_all (last p) = p
typed_all (piece p b rest) = p ++ b ++ typed_all rest

-- no two line ends stand side by side, so no break is inside
unfoldable pub unbroken : List ℕ → Bool
unbroken [] = true
unbroken (b ∷ l) = not (two_line_ends (b ∷ l)) && unbroken l

-- the last byte of a text belongs to a line end, where the bytes l stand behind it: LF, or CR before the LF that l begins with
unfoldable pub last_in_line_end : List ℕ → List ℕ → Bool
last_in_line_end [] l = false
last_in_line_end (b ∷ []) l = in_line_end (b ∷ l)
last_in_line_end (b ∷ c ∷ p) l = last_in_line_end (c ∷ p) l

-- the two line ends
pub data Ending : Type 0 where
  lf : Ending
  crlf : Ending

unfoldable pub typed_end : Ending → List ℕ
typed_end lf = code "\n" ∷ []
typed_end crlf = code "\r" ∷ code "\n" ∷ []

-- two or more line ends and nothing else
pub record IsBreak (b : List ℕ) : Type 0 where
  pub ends : List Ending
  pub two : 2 ≤ length ends
  pub only : b ≡ flat_map typed_end ends

-- a paragraph, the break behind it and the text that follows: no line end stands beside the break, so that it is the whole run
pub record RightPiece (p b follows : List ℕ) : Type 0 where
  pub whole : unbroken p ≡ true
  pub break : IsBreak b
  pub before : last_in_line_end p b ≡ false
  pub behind : in_line_end follows ≡ false

abbrev pub RightCut : Pieces → Type 0
RightCut (last p) = unbroken p ≡ true
RightCut (piece p b rest) = RightPiece p b (typed_all rest) × RightCut rest
