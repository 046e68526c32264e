-- What the code keeps of a row of the table while it reads on: how many bytes follow, and the range of the next one.
-- Assumes nothing.
use Rattle.std.specs.Prelude.{Bool, true, false, List, [], ◌∷◌, ℕ, zero, suc, replicate, Some, None}
use Rattle.std.specs.Prelude as std
use Rattle.std.proofs.Math.Option.{Option, none, some}
use Rattle.text.specs.Utf8.{Range, ◌to◌, goes_on, begins, value, replacement}
use Rattle.text.specs.declared.CodePoint.{CodePoint}
use Rattle.text.specs.declared.Follow.{Follow}

-- the ranges of n bytes: the next from low to high, and any continuation bytes after it
abbrev pub pending : ℕ → ℕ → ℕ → List Range
pending zero low high = []
pending (suc n) low high = low to high ∷ replicate n (0x80 to 0xbf)

-- the ranges that an answer of the code stands for
abbrev pub ranges : std.Option Follow → Option (List Range)
ranges None = none
ranges (Some f) = some (pending f.left f.low f.high)

-- whether the bytes l go on with a byte in each of the ranges, where there are any, and then with whole rows
abbrev pub after : Option (List Range) → List ℕ → Bool
after none l = false
after (some rs) l = goes_on rs l

-- the code point of the width whose first bytes gave v and whose last bytes, one in each range, are to begin l
unfoldable pub read : ℕ → ℕ → List Range → List ℕ → CodePoint
read width v rs l = elim (begins rs l) [ true ↦ record { code = value v rs l; width = width } | false ↦ replacement ]
