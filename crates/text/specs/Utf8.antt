-- Well-formed UTF-8 by the Unicode standard's table 3-7, the code point at the head of a list of bytes, and a code point's bytes.
-- Assumes nothing.
use Rattle.std.specs.Prelude.{Bool, true, false, ◌&&◌, List, [], ◌∷◌, ℕ, suc, ◌+◌, ◌-◌, ◌*◌, ◌/◌, ◌%◌, leb, ltb, length, get_or}
use Rattle.std.proofs.Math.Option.{Option, none, some}
use Rattle.text.specs.declared.CodePoint.{CodePoint}

-- the bytes from `low` to `high`, both included
pub record Range : Type 0 where
  pub low : ℕ
  pub high : ℕ

infix 70 ◌to◌
abbrev pub ◌to◌ : ℕ → ℕ → Range
a to b = record { low = a; high = b }

-- a row of the table: the range of the first byte, and the ranges of the bytes after it
pub record Row : Type 0 where
  pub first : Range
  pub after : List Range

infix 60 ◌then◌
abbrev pub ◌then◌ : Range → List Range → Row
r then rs = record { first = r; after = rs }

-- table 3-7, well-formed UTF-8 byte sequences
unfoldable pub table : List Row
table =
    (0x00 to 0x7f then []) ∷
    (0xc2 to 0xdf then 0x80 to 0xbf ∷ []) ∷
    (0xe0 to 0xe0 then 0xa0 to 0xbf ∷ 0x80 to 0xbf ∷ []) ∷
    (0xe1 to 0xec then 0x80 to 0xbf ∷ 0x80 to 0xbf ∷ []) ∷
    (0xed to 0xed then 0x80 to 0x9f ∷ 0x80 to 0xbf ∷ []) ∷
    (0xee to 0xef then 0x80 to 0xbf ∷ 0x80 to 0xbf ∷ []) ∷
    (0xf0 to 0xf0 then 0x90 to 0xbf ∷ 0x80 to 0xbf ∷ 0x80 to 0xbf ∷ []) ∷
    (0xf1 to 0xf3 then 0x80 to 0xbf ∷ 0x80 to 0xbf ∷ 0x80 to 0xbf ∷ []) ∷
    (0xf4 to 0xf4 then 0x80 to 0x8f ∷ 0x80 to 0xbf ∷ 0x80 to 0xbf ∷ []) ∷
    []

abbrev pub within : Range → ℕ → Bool
within r b = leb r.low b && leb b r.high

-- the ranges of the bytes after the first byte b, by the row that has b
unfoldable pub follow : ℕ → List Row → Option (List Range)
follow b [] = none
follow b (row ∷ rows) = elim (within row.first b) [ true ↦ some row.after | false ↦ follow b rows ]

-- the bytes begin with one byte in each range, and go on with whole rows to their end
unfoldable pub goes_on : List Range → List ℕ → Bool
goes_on [] [] = true
goes_on (r ∷ rs) [] = false
goes_on [] (b ∷ l) = elim (follow b table) [ none ↦ false | some rs ↦ goes_on rs l ]
goes_on (r ∷ rs) (b ∷ l) = elim (within r b) [ true ↦ goes_on rs l | false ↦ false ]

unfoldable pub well_formed : List ℕ → Bool
well_formed l = goes_on [] l

-- the bytes begin with one byte in each range
unfoldable pub begins : List Range → List ℕ → Bool
begins [] l = true
begins (r ∷ rs) [] = false
begins (r ∷ rs) (b ∷ l) = elim (within r b) [ true ↦ begins rs l | false ↦ false ]

-- v with six bits of each byte in a range behind it
unfoldable pub value : ℕ → List Range → List ℕ → ℕ
value v [] l = v
value v (r ∷ rs) [] = v
value v (r ∷ rs) (b ∷ l) = value (v * 64 + (b - 0x80)) rs l

-- the marking bits of a first byte, by the number of bytes after it
unfoldable pub lead : ℕ → ℕ
lead n = get_or (0x00 ∷ 0xc0 ∷ 0xe0 ∷ 0xf0 ∷ []) n 0

-- a byte that begins no row of the table reads as U+FFFD
abbrev pub replacement : CodePoint
replacement = record { code = 0xfffd; width = 1 }

-- the code point at the head of the bytes and its length; the end of the bytes reads as NUL of length 0
unfoldable pub code_point : List ℕ → CodePoint
code_point [] = record { code = 0; width = 0 }
code_point (b ∷ l) =
    elim (follow b table) [
      | none ↦ replacement
      | some rs ↦
          elim (begins rs l) [
            | true ↦ record { code = value (b - lead (length rs)) rs l; width = suc (length rs) }
            | false ↦ replacement
          ]
    ]

-- the bytes of a code point
unfoldable pub encode : ℕ → List ℕ
encode c =
    elim (ltb c 0x80) [
      | true ↦ c ∷ []
      | false ↦
          elim (ltb c 0x800) [
            | true ↦ (0xc0 + c / 64) ∷ (0x80 + c % 64) ∷ []
            | false ↦
                elim (ltb c 0x10000) [
                  | true ↦ (0xe0 + c / 4096) ∷ (0x80 + c / 64 % 64) ∷ (0x80 + c % 64) ∷ []
                  | false ↦ (0xf0 + c / 262144 % 8) ∷ (0x80 + c / 4096 % 64) ∷ (0x80 + c / 64 % 64) ∷ (0x80 + c % 64) ∷ []
                ]
          ]
    ]
