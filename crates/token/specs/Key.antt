-- The command table as the search reads it: the name and the token at a place, the order of names, and the rows.
-- Assumes nothing.
use Rattle.std.specs.Prelude.{ℕ, ◌+◌, nat_lt, List, map, slice_index_or, slice_range, count_by}
use Rattle.std.specs.List.{range_with_len}
use Rattle.std.specs.Cmp.Lexicographic.{slice_cmp}
use Rattle.std.specs.Ordering.{nat_cmp}
use Rattle.std.specs.declared.cmp.Ordering.{Ordering}
use mathlib.Core.List as L
use denote.Ref.{Bor}
use Prim.Native.Char.{code}
use Prim.Native.String.{String, [], ◌∷◌}
use Rattle.token.specs.declared.Token.{Token}
use Rattle.token.specs.declared.Token.TheVariants.{EOF}
use Rattle.token.specs.Spell.{Arm, ◌=>◌}
use Rattle.token.specs.Table.{size, entries}

-- the code points of a name, which are its bytes, since each name is ASCII
abbrev pub codes : String → List ℕ
codes [] = L.[]
codes (c ∷ t) = L.◌∷◌ (code c) (codes t)

-- what stands in the table at a place; past its end any entry serves
abbrev pub entry_at : ℕ → Arm Token
entry_at i = slice_index_or entries i ("" => EOF)

-- the bytes of the name at a place
unfoldable pub name_at : ℕ → List ℕ
name_at i = codes (entry_at i).name

-- the token at a place
unfoldable pub token_at : ℕ → Token
token_at i = (entry_at i).gives

-- the order of two names, by the first byte that differs
abbrev pub cmp : List ℕ → List ℕ → Ordering
cmp = slice_cmp nat_cmp

-- what the table holds: the bytes of each name, and its token
unfoldable pub rows : List (List ℕ × Token)
rows = map (λ e. (codes e.name, e.gives)) entries

-- a row of the static as one of these: there the name is borrowed
abbrev pub row_of : Bor (List ℕ) × Token → List ℕ × Token
row_of r = (r.0.now, r.1)

-- the first byte of a name
abbrev pub first_byte : String → ℕ
first_byte [] = 0
first_byte (c ∷ t) = code c

-- for each b up to 128, how many names begin with a byte less than b
unfoldable pub starts : List ℕ
starts = map (λ b. count_by (λ e. nat_lt (first_byte e.name) b) entries) (range_with_len 0 129)

-- the place where the names begin whose first byte is not less than b; past 128 there is none
unfoldable pub start : ℕ → ℕ
start b = slice_index_or starts b size

-- the rows whose names begin with b
unfoldable pub rows_of : ℕ → List (List ℕ × Token)
rows_of b = slice_range rows (start b) (start (b + 1))
