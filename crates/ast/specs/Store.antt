-- The records of a store: what stands at an index, and what putting one there changes.
-- Assumes nothing.
use Rattle.std.specs.Prelude.{◌≡◌, List, ℕ, ◌+◌, ◌*◌, ◌≤◌, ◌<◌, get_or}
use Rattle.ast.specs.declared.Record.{Record}

-- the number in two bytes from o on, the low byte first, and in four
abbrev pub two : List ℕ → ℕ → ℕ
two st o = get_or st o 0 + get_or st (o + 1) 0 * 256

abbrev pub four : List ℕ → ℕ → ℕ
four st o = two st o + two st (o + 2) * 65536

-- the record at the byte o
unfoldable pub record_of : List ℕ → ℕ → Record
record_of st o = record {
  tag = get_or st o 0;
  attr = get_or st (o + 1) 0;
  a = two st (o + 2);
  b = two st (o + 4);
  c = two st (o + 6);
  next = two st (o + 8);
  x = four st (o + 10);
  y = four st (o + 14);
}

-- the record at the index i
unfoldable pub record_at : List ℕ → ℕ → Record
record_at st i = record_of st (i * 24)

-- the numbers of a record that take two bytes each fit them
pub record Small (r : Record) : Type 0 where
  pub a : r.a < 65536
  pub b : r.b < 65536
  pub c : r.c < 65536
  pub next : r.next < 65536

-- st' is st with r at the index i: of the record's 24 bytes 18 are r's, and every other byte of the store is as it was, so every other record is
pub record Put (st st' : List ℕ) (i : ℕ) (r : Record) : Type 0 where
  pub same : record_at st' i ≡ r
  pub rest : (p : ℕ) → (i * 24 ≤ p → p < i * 24 + 18 → ⊥) → get_or st' p 0 ≡ get_or st p 0
  pub other : (j : ℕ) → (j ≡ i → ⊥) → record_at st' j ≡ record_at st j
