-- Laws of what the code keeps of a row while it reads on.
-- Assumes nothing.
use mathlib.Core.Path.{◌≡◌, refl, sym, ap}
use mathlib.Core.Bool.{true, false, ◌&&◌, and-eq-true_iff}
use mathlib.Core.List.{List, [], ◌∷◌}
use mathlib.Core.Option.{Option, some}
use Prim.Native.Nat.{ℕ, zero, suc, ◌+◌, ◌-◌, ◌*◌, ◌≤◌, ◌<◌}
use native.Mathlib.Numerals.{add-one}
use native.Mathlib.Omega.{arith}
use lib.Dec.{leb, eqb, eqb-suc-zero}
use lib.ListN.{length, drop, get_or, replicate, length-replicate, drop_of_length-le}
use lib.Seq.{drop-cons}
use borrow.Author.Tests.{leb-true}
use Rattle.text.specs.Utf8.{Range, ◌to◌, table, within, follow, goes_on, begins, value, lead, replacement, code_point}
use Rattle.text.specs.Follow.{pending, after, read}
use Rattle.text.proofs.Utf8Laws.{rows_high, found, begins_in, begins_out, point_some}

-- the byte at i, and what is behind it
pub byte_at : (s : List ℕ) (i : ℕ) → i < length s → drop i s ≡ get_or s i 0 ∷ drop (i + 1) s
byte_at s i h = rw (add-one, drop-cons s i 0)

-- what holds of the byte at i before any bytes holds of the bytes from i on
pub goes_on_lem : (s : List ℕ) (i : ℕ) (rs : List Range) (o : Option (List Range))
    → i < length s
    → ((l : List ℕ) → goes_on rs (get_or s i 0 ∷ l) ≡ after o l)
    → goes_on rs (drop i s) ≡ after o (drop (i + 1) s)
goes_on_lem s i rs o h f = rw (byte_at s i h) (f (drop (i + 1) s))

-- any continuation bytes are pending behind any other
any : (n : ℕ) → pending n 0x80 0xbf ≡ replicate n (0x80 to 0xbf)
any zero = refl
any (suc n) = refl

-- where bytes are left, the next is in its range and any continuation bytes follow
pub pending_more : (left low high : ℕ) → (left ≡ 0 → ⊥) → pending left low high ≡ low to high ∷ pending (left - 1) 0x80 0xbf
pending_more zero low high h = absurd (h refl)
pending_more (suc n) low high h =
    let e : suc n - 1 ≡ n = omega arith in
    rw (e, any n)

-- n bytes are pending
pending_length : (n low high : ℕ) → length (pending n low high) ≡ n
pending_length zero low high = refl
pending_length (suc n) low high = ap suc (length-replicate n (0x80 to 0xbf))

-- at the end of the bytes nothing may be pending
pub goes_end : (left low high : ℕ) → eqb left 0 ≡ goes_on (pending left low high) []
unfolding goes_on
goes_end zero low high = refl
goes_end (suc n) low high = eqb-suc-zero n

-- what is known of a first byte that n bytes follow, the next from `low`
pub record Begun (b n low : ℕ) : Type 0 where
  pub few : n ≤ 3
  pub marked : lead n ≤ b
  pub high : (n ≡ 0 → ⊥) → 128 ≤ low

-- .. by the table's rows
pub begun : (b n low high : ℕ) → some (pending n low high) ≡ follow b table → Begun b n low
unfolding table lead
begun b n low high e =
    let rs = pending n low high in
    let f = found (λ row. leb (length row.after) 3 && leb (lead (length row.after)) row.first.low) b rs table refl (sym e) in
    let t = (and-eq-true_iff _ _).0 (rw (f.is, pending_length n low high) at f.passes) in
    record {
      few = leb-true n 3 t.0;
      marked = omega (arith, leb-true (lead n) f.row.first.low t.1, f.low);
      high = λ h. leb-true 128 low ((and-eq-true_iff _ _).0 (rw (pending_more n low high h) at (rows_high b rs (sym e)))).0;
    }

-- the code point of a first byte that n bytes follow
pub point_read : (b n low high : ℕ) (l : List ℕ)
    → some (pending n low high) ≡ follow b table
    → code_point (b ∷ l) ≡ read (suc n) (b - lead n) (pending n low high) l
point_read b n low high l e = rw (pending_length n low high) at (point_some b (pending n low high) l e)

-- Reading on by one byte, from the place i.
module _ (s : List ℕ) (i width v left low high : ℕ) where
  pub read_done : left ≡ 0 → read width v (pending left low high) (drop i s) ≡ record { code = v; width = width }
  unfolding read begins value
  read_done e = rw e

  pub read_end : (left ≡ 0 → ⊥) → length s ≤ i → read width v (pending left low high) (drop i s) ≡ replacement
  unfolding read begins
  read_end h k = rw (pending_more left low high h, drop_of_length-le s k)

  pub read_not : (left ≡ 0 → ⊥) → i < length s → within (low to high) (get_or s i 0) ≡ false → read width v (pending left low high) (drop i s) ≡ replacement
  unfolding read
  read_not h k e = rw (pending_more left low high h, byte_at s i k, begins_out _ _ _ _ e, read)

  pub read_more : (left ≡ 0 → ⊥) → i < length s → within (low to high) (get_or s i 0) ≡ true
      → read width v (pending left low high) (drop i s) ≡ read width (v * 64 + (get_or s i 0 - 0x80)) (pending (left - 1) 0x80 0xbf) (drop (i + 1) s)
  unfolding read value
  read_more h k e = rw (pending_more left low high h, byte_at s i k) (rw (begins_in _ _ _ _ e, read))

-- what the value read so far is below, by the number of bytes that are left
pub room : ℕ → ℕ
room left = get_or (0x20000000 ∷ 0x400000 ∷ 0x8000 ∷ 0x100 ∷ []) left 0

-- a first byte leaves room
pub room_begins : (n v : ℕ) → n ≤ 3 → v < 256 → v < room n
unfolding room
room_begins zero v h k = omega arith
room_begins (suc zero) v h k = omega arith
room_begins (suc (suc zero)) v h k = omega arith
room_begins (suc (suc (suc zero))) v h k = omega arith
room_begins (suc (suc (suc (suc n)))) v h k = absurd (omega arith)

-- .. so one more byte leaves it in u32
pub room_more : (left v b : ℕ) → (left ≡ 0 → ⊥) → v < room left → b < 256 → (v * 64 + b < room (left - 1)) × (v * 64 + b < 0x20000000)
unfolding room
room_more zero v b h k l = absurd (h refl)
room_more (suc zero) v b h k l = omega arith
room_more (suc (suc zero)) v b h k l = omega arith
room_more (suc (suc (suc zero))) v b h k l = omega arith
room_more (suc (suc (suc (suc n)))) v b h k l = absurd (omega arith)
