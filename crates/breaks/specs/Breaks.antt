-- Line ends, and where a break begins and ends.
-- Assumes nothing.
use Rattle.std.specs.Prelude.{◌≡◌, Bool, true, false, not, ◌&&◌, List, [], ◌∷◌, ℕ, ◌+◌, ◌≤◌, ◌<◌, eqb, length, drop, Option, MatchOption}
use Prim.Native.Char.{code}

-- the bytes begin with a line feed
unfoldable pub line_feed : List ℕ → Bool
line_feed [] = false
line_feed (b ∷ l) = eqb b (code "\n")

-- a line end is LF or CR LF, and a CR alone is text: how many bytes the line end at the head has, 0 where none stands there
unfoldable pub line_end : List ℕ → ℕ
line_end [] = 0
line_end (b ∷ l) =
    elim (eqb b (code "\n")) [
      | true ↦ 1
      | false ↦ elim (eqb b (code "\r") && line_feed l) [ true ↦ 2 | false ↦ 0 ]
    ]

-- the line end at the place i of a text, all of which is in the text, is found, or none stands there
abbrev pub FindsEnd : List ℕ → ℕ → Option ℕ → Type 0
FindsEnd s i found = MatchOption found (line_end (drop i s) ≡ 0) (λ w. (w ≡ line_end (drop i s)) × (0 < w) × (i + w ≤ length s))

-- the first byte belongs to a line end
unfoldable pub in_line_end : List ℕ → Bool
in_line_end l = not (eqb (line_end l) 0)

-- the bytes begin with no line end, with two
unfoldable pub no_line_end : List ℕ → Bool
no_line_end l = not (in_line_end l)

unfoldable pub two_line_ends : List ℕ → Bool
two_line_ends l = in_line_end l && in_line_end (drop (line_end l) l)
