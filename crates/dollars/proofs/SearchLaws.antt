-- A byte found by words: the test of a word goes byte by byte, since no sum reaches the next byte; and two bytes alike.
-- Assumes nothing.
use mathlib.Core.Path.{◌≡◌, refl, sym, ◌∙◌, ap, ap₂}
use mathlib.Core.Bool.{Bool, true, false, not, not-not, ◌&&◌, ◌||◌, and-false}
use mathlib.Core.List.{List, [], ◌∷◌}
use Prim.Native.Nat.{ℕ, zero, suc, ◌+◌, ◌-◌, ◌*◌, ◌/◌, ◌%◌, ◌≤◌, ◌<◌}
use native.Mathlib.Nat.{mod-lt, lt_of_le_of_lt, add-zero, div-div-eq-div-mul}
use native.Mathlib.Omega.{arith}
use lib.Dec.{eqb, ltb, lit<}
use lib.Arith.{digits_div, digits_mod}
use lib.ListN.{length, take, drop, get_or, length-drop, drop_of_length-le, get_or-eq_default}
use lib.Seq.{drop-cons, drop-drop}
use lib.Pow.{pow_pos, split}
use lib.Bits.{bit_and, bit_or, bit_xor, and_block, or_block, xor_block, and_le_l, and_le_r, and_zero_r, or_lt, xor_lt, xor_self, xor_add_and}
use borrow.Author.Tests.{eqb-true, eqb-false, eq-eqb, ne_eqb, ltb-true, ltb-false}
use Rattle.std.specs.Prelude.{Option, Some, None, is_some, IfSome}
use Rattle.std.specs.Borrow.{Bor}
use Rattle.std.specs.Option.{option_eq}
use Rattle.std.specs.Int.{w64, to_le_bytes, from_le_bytes}
use Rattle.std.specs.Simd.{first_chunks}
use Rattle.std.proofs.lemmas.List.{take_rest}
use Rattle.std.proofs.lemmas.Nat.{le_bytes_8}
use Rattle.std.proofs.lemmas.Simd.{get_or-chunk, length-chunk}
use Rattle.text.specs.Any.{any, contains}
use Rattle.text.specs.Put.{digits}
use Rattle.dollars.specs.Places.{next_place}
use Rattle.dollars.specs.Search.{starts_with, pair}
use Rattle.text.proofs.AnyLaws.{none_cons}
use Rattle.text.proofs.Cases.{by_test, by_order}
use Rattle.text.proofs.Tabled.{each}
use Rattle.dollars.proofs.PlaceLaws.{next_here, next_more, next_end, next_within, next_is}

-- n bytes that are all c
unfoldable pub all : ℕ → ℕ → ℕ
all zero c = 0
all (suc n) c = all n c * 256 + c

-- the high bit of each of n bytes that is not 0, as the code finds it; of one byte
abbrev pub marks : ℕ → ℕ → ℕ
marks n w = bit_and (bit_or (bit_and w (all n 127) + all n 127) w) (all n 128)

abbrev mark : ℕ → ℕ
mark b = bit_and (bit_or (bit_and b 127 + 127) b) 128

unfoldable wanted : ℕ → ℕ
wanted b = elim (eqb b 0) [ true ↦ 0 | false ↦ 128 ]

mark_is : (b : ℕ) → b < 256 → mark b ≡ wanted b
unfolding wanted
mark_is b h = each mark wanted 256 refl b h

-- one byte more
marks_more : (n a b : ℕ) → b < 256 → marks (suc n) (a * 256 + b) ≡ marks n a * 256 + mark b
unfolding all
marks_more n a b h =
    let seven : bit_and b 127 < 128 = lt_of_le_of_lt (and_le_r b 127) (lit< tt) in
    let k : ℕ = bit_and a (all n 127) + all n 127 in
    let low : ℕ = bit_and b 127 + 127 in
    let sum : bit_and (a * 256 + b) (all n 127 * 256 + 127) + (all n 127 * 256 + 127) ≡ k * 256 + low =
    rw (and_block 8 a (all n 127) b 127 h (lit< tt)) (omega arith) in
    ap (λ x. bit_and (bit_or x (a * 256 + b)) (all n 128 * 256 + 128)) sum
    ∙ ap (λ x. bit_and x (all n 128 * 256 + 128)) (or_block 8 k a low b (omega arith) h)
    ∙ and_block 8 (bit_or k a) (all n 128) (bit_or low b) 128 (or_lt 8 low b (omega arith) h) (lit< tt)

-- equal bytes at the low end are of no account
low_alike : (m n b : ℕ) → eqb (m * 256 + b) (n * 256 + b) ≡ eqb m n
low_alike m n b =
    by_test (eqb m n)
    (λ t. let e = eqb-true m n t in rw t (eq-eqb (m * 256 + b) (n * 256 + b) (omega arith)))
    (λ t. rw t (ne_eqb (m * 256 + b) (n * 256 + b) (λ e. eqb-false m n t (omega arith))))

-- all high bits are found exactly where no byte is 0
marked : (n w : ℕ) → eqb (marks n w) (all n 128) ≡ not (contains 0 (digits n w))
unfolding all digits any wanted
marked zero w = eq-eqb (marks 0 w) 0 (and_zero_r (bit_or (bit_and w 0 + 0) w))
marked (suc n) w =
    let a : ℕ = w / 256 in
    let b : ℕ = w % 256 in
    let m : ℕ = marks n a in
    let h : b < 256 = mod-lt w (pow_pos 8) in
    ap (λ x. eqb (marks (suc n) x) (all n 128 * 256 + 128)) (sym (split w 8))
    ∙ ap (λ x. eqb x (all n 128 * 256 + 128)) (marks_more n a b h ∙ ap (λ k. m * 256 + k) (mark_is b h))
    ∙ by_test (eqb b 0)
    (λ t. rw (wanted, t) (ne_eqb (m * 256 + 0) (all n 128 * 256 + 128) (λ e. omega arith)))
    (λ t. rw (wanted, t) (low_alike m (all n 128) 128 ∙ marked n a))

-- two bytes differ in no bit where they are equal
same_bits : (b c : ℕ) → eqb (bit_xor b c) 0 ≡ eqb b c
same_bits b c =
    by_test (eqb b c)
    (λ t. rw t (eq-eqb (bit_xor b c) 0 (rw (eqb-true b c t) (xor_self c))))
    (λ t. rw t (ne_eqb (bit_xor b c) 0 (λ e. eqb-false b c t (omega (arith, e, xor_add_and b c, and_le_l b c, and_le_r b c)))))

-- the bytes of a word
low_byte : (n a b : ℕ) → b < 256 → digits (suc n) (a * 256 + b) ≡ b ∷ digits n a
unfolding digits
low_byte n a b h = ap₂ (λ x y. x ∷ digits n y) (digits_mod a h) (digits_div a h)

-- a byte of a word is c exactly where the bits that differ from c are none
turned : (n w c : ℕ) → c < 256 → contains 0 (digits n (bit_xor w (all n c))) ≡ contains c (digits n w)
unfolding all digits any
turned zero w c h = refl
turned (suc n) w c h =
    let a : ℕ = w / 256 in
    let b : ℕ = w % 256 in
    let l : b < 256 = mod-lt w (pow_pos 8) in
    ap (λ x. contains 0 (digits (suc n) (bit_xor x (all n c * 256 + c)))) (sym (split w 8))
    ∙ ap (λ x. contains 0 (digits (suc n) x)) (xor_block 8 a (all n c) b c l h)
    ∙ ap (contains 0) (low_byte n (bit_xor a (all n c)) (bit_xor b c) (xor_lt 8 b c l h))
    ∙ ap₂ ◌||◌ (same_bits b c) (turned n a c h)

-- some high bit is missing exactly where one of the n bytes is c
pub exact : (n w c : ℕ) → c < 256 → not (eqb (marks n (bit_xor w (all n c))) (all n 128)) ≡ contains c (digits n w)
exact n w c h = ap not (marked n (bit_xor w (all n c))) ∙ not-not (contains 0 (digits n (bit_xor w (all n c)))) ∙ turned n w c h

-- n bytes without b are passed
pub passed : (b n : ℕ) (s : List ℕ) (i : ℕ) → i + n ≤ length s → contains b (take n (drop i s)) ≡ false
    → next_place (starts_with b) i (drop i s) ≡ next_place (starts_with b) (i + n) (drop (i + n) s)
unfolding starts_with next_place
passed b zero s i h e = rw add-zero
passed b (suc n) s i h e =
    let inside : i < length s = omega arith in
    let none = none_cons (λ c. eqb c b) (get_or s i 0) (take n (drop (suc i) s)) (rw (drop-cons s i 0 inside) at e) in
    let k : suc i + n ≡ i + suc n = omega arith in
    rw (drop-cons s i 0 inside, next_place, starts_with, none.0) (passed b n s (suc i) (omega arith) none.1 ∙ ap (λ j. next_place (starts_with b) j (drop j s)) k)

-- the bytes of a word are those that it was read from
module _ (s : List ℕ) (i : ℕ) (inside : i + 8 ≤ length s) (low : (j : ℕ) → get_or s j 0 < 256) where
  word_low : (j : ℕ) → get_or (take 8 (drop i s)) j 0 < 256
  word_low j =
      by_order j 8
      (λ l. rw (get_or-chunk i 8 s j 0 l) (low (i + j)))
      (λ l. rw (get_or-eq_default (take 8 (drop i s)) 0 {n = j} (omega (arith, length-chunk i 8 s inside))) (lit< tt))

  pub word_bytes : (w : ℕ) → w ≡ from_le_bytes w64 (take 8 (drop i s)) → digits 8 w ≡ take 8 (drop i s)
  unfolding digits
  word_bytes w e =
      let same : digits 8 w ≡ to_le_bytes w64 w = simp div-div-eq-div-mul in
      same ∙ le_bytes_8 (take 8 (drop i s)) w (length-chunk i 8 s inside) word_low e

-- the words of a text, one behind the other
chunk_at : (n : ℕ) (xs : List ℕ) (k : ℕ) → k < n → get_or (first_chunks 8 n xs) k [] ≡ take 8 (drop (8 * k) xs)
chunk_at zero xs k h = absurd (omega arith)
chunk_at (suc n) xs zero h = refl
chunk_at (suc n) xs (suc k) h =
    let e : 8 + 8 * k ≡ 8 * suc k = omega arith in
    chunk_at n (drop 8 xs) k (omega arith) ∙ rw (drop-drop (8 * k) 8 xs, e)

module _ (s : List ℕ) (from : ℕ) (h : from ≤ length s) where
  abbrev rest : List ℕ
  rest = take (length s - from) (drop from s)

  pub word_at : (words : List (List ℕ)) (k : ℕ) → words ≡ first_chunks 8 (length rest / 8) rest → length words ≡ length rest / 8 → k < length words
      → (from + 8 * k + 8 ≤ length s) × (get_or words k [] ≡ take 8 (drop (from + 8 * k) s))
  word_at words k e n l =
      let whole = take_rest s from in
      let long : length rest ≡ length s - from = rw whole (length-drop from s) in
      let there : drop (8 * k) rest ≡ drop (from + 8 * k) s = rw whole (drop-drop (8 * k) from s) in
      (omega arith, ap (λ (z : List (List ℕ)). get_or z k []) e ∙ chunk_at (length rest / 8) rest k (omega arith) ∙ ap (take 8) there)

-- a byte is at the head where it stands
starts_at : (b : ℕ) (s : List ℕ) (i d : ℕ) → i < length s → starts_with b (drop i s) ≡ eqb (get_or s i d) b
unfolding starts_with
starts_at b s i d h = rw (drop-cons s i d h)

module _ (b : ℕ) (s : List ℕ) (i : ℕ) (h : i < length s) where
  pub starts_is : get_or s i 0 ≡ b → starts_with b (drop i s) ≡ true
  starts_is e = starts_at b s i 0 h ∙ eq-eqb _ _ e

  pub starts_not : (get_or s i 0 ≡ b → ⊥) → starts_with b (drop i s) ≡ false
  starts_not e = starts_at b s i 0 h ∙ ne_eqb _ _ e

-- no byte stands behind the end
pub starts_end : (b : ℕ) (s : List ℕ) (i : ℕ) → length s ≤ i → starts_with b (drop i s) ≡ false
unfolding starts_with
starts_end b s i h = rw (drop_of_length-le s h)

-- a byte is at the head where the one that `get` finds is it
pub starts_found : (b : ℕ) (s : List ℕ) (i : ℕ) (found : Option (Bor ℕ)) (q : Bor ℕ) → q.now ≡ b → is_some found ≡ ltb i (length s)
    → IfSome found (λ x. x.now ≡ get_or s i x.now) → option_eq (λ x y. eqb x.now y.now) found (Some q) ≡ starts_with b (drop i s)
starts_found b s i None q e none is = sym (starts_end b s i (ltb-false i (length s) (sym none)))
starts_found b s i (Some x) q e some is = rw (e, starts_at b s i x.now (ltb-true i (length s) (sym some)), ← is) refl

-- what stands behind the first of some bytes
second_at : (b : ℕ) (l : List ℕ) → 2 ≤ length l → starts_with b (drop 1 l) ≡ eqb (get_or l 1 0) b
unfolding starts_with
second_at b [] h = absurd (omega arith)
second_at b (x ∷ []) h = absurd (omega arith)
second_at b (x ∷ y ∷ l) h = refl

second_short : (b : ℕ) (l : List ℕ) → length l < 2 → starts_with b (drop 1 l) ≡ false
unfolding starts_with
second_short b [] h = refl
second_short b (x ∷ []) h = refl
second_short b (x ∷ y ∷ l) h = absurd (omega arith)

-- whether a byte stands behind the place i, by what stands from there on
module _ (b : ℕ) (s : List ℕ) (i : ℕ) where
  abbrev onward : List ℕ
  onward = take (length s - i) (drop i s)

  at_second : starts_with b (drop (i + 1) s) ≡ starts_with b (drop 1 onward)
  at_second = rw (take_rest s i, drop-drop 1 i s)

  pub second_is : 2 ≤ length onward → get_or onward 1 0 ≡ b → starts_with b (drop (i + 1) s) ≡ true
  second_is h e = at_second ∙ second_at b onward h ∙ eq-eqb _ _ e

  pub second_not : 2 ≤ length onward → (get_or onward 1 0 ≡ b → ⊥) → starts_with b (drop (i + 1) s) ≡ false
  second_not h e = at_second ∙ second_at b onward h ∙ ne_eqb _ _ e

  pub second_none : length onward < 2 → starts_with b (drop (i + 1) s) ≡ false
  second_none h = at_second ∙ second_short b onward h

pair_at : (b : ℕ) (s : List ℕ) (i : ℕ) (x y : Bool) → starts_with b (drop i s) ≡ x → starts_with b (drop (i + 1) s) ≡ y → pair b (drop i s) ≡ (x && y)
unfolding pair
pair_at b s i x y first next = rw (first, drop-drop 1 i s, next)

-- The next two b from i on, where r is the next b.
module _ (b : ℕ) (s : List ℕ) (i r : ℕ) (h : i ≤ length s) (e : r ≡ next_place (starts_with b) i (drop i s)) where
  from_there : next_place (pair b) i (drop i s) ≡ next_place (pair b) r (drop r s)
  from_there = next_within (starts_with b) s (pair b) (λ j failed. pair_at b s j false _ failed refl) i r h e

  module _ (l : r < length s) where
    pub pair_here : starts_with b (drop (r + 1) s) ≡ true → next_place (pair b) i (drop i s) ≡ r
    pair_here second =
        let first = (rw (← e) at (next_is (starts_with b) s i h)).passes l in
        from_there ∙ next_here (pair b) s r l (pair_at b s r true true first second)

    pub pair_more : starts_with b (drop (r + 1) s) ≡ false → next_place (pair b) i (drop i s) ≡ next_place (pair b) (r + 1) (drop (r + 1) s)
    pair_more other = from_there ∙ next_more (pair b) s r l (pair_at b s r _ false refl other ∙ and-false (starts_with b (drop r s)))

  pub pair_none : r ≡ length s → next_place (pair b) i (drop i s) ≡ length s
  pair_none none = from_there ∙ next_end (pair b) s r (omega arith) ∙ none
