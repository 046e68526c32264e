-- Dollars side by side, and whether marks are odd in number.
-- Assumes nothing.
use mathlib.Core.Path.{◌≡◌, refl, sym, ◌∙◌, ap, fun_ext}
use mathlib.Core.Bool.{Bool, true, false, not, xor, beq, ◌&&◌, ◌||◌, and-false, or-true, or-false, false≢true}
use mathlib.Core.List.{List, [], ◌∷◌}
use Prim.Native.Nat.{ℕ, zero, suc, ◌+◌, ◌-◌, ◌≤◌, ◌<◌, ◌%◌}
use native.Mathlib.Omega.{arith}
use native.Mathlib.Numerals.{add-one}
use lib.Dec.{eqb, ltb}
use lib.ListN.{length, drop, get_or, drop_of_length-le}
use lib.Seq.{drop-drop}
use borrow.Author.Tests.{eqb-true, eqb-false, eq-eqb, ne_eqb, lt-ltb, ltb-false, not-true}
use Rattle.text.specs.Any.{any, contains}
use Rattle.text.specs.Plain.{plain}
use Rattle.text.proofs.AnyLaws.{any_here, any_more}
use Rattle.text.proofs.Cases.{never, by_test, by_order}
use Rattle.text.proofs.PlainLaws.{plain_is, plain_cons, plain_drop}
use Rattle.dollars.specs.declared.Delimiter.{Delimiter}
use Rattle.dollars.specs.declared.Delimiter.TheVariants.{Single, Double}
use Rattle.dollars.specs.Dollars.{dollar, two_dollars, three_dollars, mark, width, unusual, is_prose}
use Rattle.dollars.specs.Places.{places, odd, next_place}
use Rattle.dollars.specs.Search.{starts_with, pair}
use Rattle.dollars.proofs.PlaceLaws.{next_is, next_none, places_here, places_more, places_end, places_none, places_first, skipped}

-- a dollar is a byte that is looked for by words
pub dollar_starts : dollar ≡ starts_with 36
unfolding dollar starts_with
dollar_starts = fun_ext same
  where
    same : (l : List ℕ) → dollar l ≡ starts_with 36 l
    same [] = refl
    same (b ∷ l) = refl

-- .. and two dollars are two bytes alike
pub two_pair : two_dollars ≡ pair 36
unfolding two_dollars pair
two_pair = fun_ext (λ l. rw dollar_starts)

-- a byte is a dollar where it stands
dollar_at : (s : List ℕ) (i : ℕ) → dollar (drop i s) ≡ eqb (get_or s i 0) 36
unfolding dollar
dollar_at [] zero = refl
dollar_at [] (suc i) = refl
dollar_at (b ∷ s) zero = refl
dollar_at (b ∷ s) (suc i) = dollar_at s i

module _ (s : List ℕ) (i : ℕ) where
  pub dollar_is : get_or s i 0 ≡ 36 → dollar (drop i s) ≡ true
  dollar_is e = dollar_at s i ∙ eq-eqb _ _ e

  pub dollar_not : (get_or s i 0 ≡ 36 → ⊥) → dollar (drop i s) ≡ false
  dollar_not e = dollar_at s i ∙ ne_eqb _ _ e

  -- two dollars are a dollar before a dollar, three are two before a dollar
  two_at : (a b : Bool) → dollar (drop i s) ≡ a → dollar (drop (i + 1) s) ≡ b → two_dollars (drop i s) ≡ (a && b)
  unfolding two_dollars
  two_at a b first last = rw (first, drop-drop 1 i s, last)

  three_at : (a b : Bool) → two_dollars (drop i s) ≡ a → dollar (drop (i + 2) s) ≡ b → three_dollars (drop i s) ≡ (a && b)
  unfolding three_dollars
  three_at a b first last = rw (first, drop-drop 2 i s, last)

-- no dollar stands behind the end
pub dollar_end : (s : List ℕ) (i : ℕ) → length s ≤ i → dollar (drop i s) ≡ false
unfolding dollar
dollar_end s i h = rw (drop_of_length-le s h)

-- The places of three dollars from i on, where r is the next place of two.
module _ (s : List ℕ) (i r : ℕ) (h : i ≤ length s) (e : r ≡ next_place two_dollars i (drop i s)) where
  three_next : places three_dollars i (drop i s) ≡ places three_dollars r (drop r s)
  three_next =
      rw e (skipped two_dollars s (λ j. places three_dollars j (drop j s)) (λ j l failed. places_more three_dollars s j l (three_at s j false _ failed refl)) i h)

  first_two : r < length s → two_dollars (drop r s) ≡ true
  first_two l = (rw (← e) at (next_is two_dollars s i h)).passes l

  pub three_none : r ≤ length s → length s - r < 3 → places three_dollars i (drop i s) ≡ []
  three_none k short =
      let none = next_none three_dollars s r k (λ j l. three_at s j _ false refl (dollar_end s (j + 2) (omega arith)) ∙ and-false (two_dollars (drop j s))) in
      three_next ∙ places_none three_dollars s r (length s) k (sym none) refl

  module _ (l : r < length s) where
    pub three_here : dollar (drop (r + 2) s) ≡ true → true ≡ ltb 0 (length (places three_dollars i (drop i s)))
    three_here third =
        rw (three_next, places_here three_dollars s r l (three_at s r true true (first_two l) third))
        (sym (lt-ltb 0 (suc (length (places three_dollars (r + 1) (drop (r + 1) s)))) (omega arith)))

    pub three_more : dollar (drop (r + 2) s) ≡ false → places three_dollars i (drop i s) ≡ places three_dollars (r + 1) (drop (r + 1) s)
    three_more other = three_next ∙ places_more three_dollars s r l (three_at s r true false (first_two l) other)

-- one more byte, where the flag f says of those before whether one passes
pub any_next : (test : ℕ → Bool) (s : List ℕ) (i : ℕ) (f : Bool) → i < length s
    → (f || any test (drop i s)) ≡ ((f || test (get_or s i 0)) || any test (drop (i + 1) s))
any_next test s i f l =
    by_test (test (get_or s i 0))
    (λ t. any_here test s i f l t ∙ rw (t, or-true f))
    (λ t. any_more test s i f l t ∙ rw (t, or-false f))

-- no flag says that a text is no prose
pub prose_flags : (s : List ℕ) (u d : Bool) → any unusual s ≡ u → contains 36 s ≡ d → not (u || d) ≡ is_prose s
unfolding is_prose
prose_flags s u d e f = rw (← e, ← f, plain_is s) (not_either (any unusual s) (contains 36 s))
  where
    not_either : (a b : Bool) → not (a || b) ≡ (not a && not b)
    not_either true b = refl
    not_either false b = refl

-- one more place makes odd even and even odd
odd_more : (r : ℕ) (l : List ℕ) → odd (r ∷ l) ≡ not (odd l)
unfolding odd
odd_more r l =
    let n = length l in
    by_test (eqb (n % 2) 1)
    (λ t. let one : n % 2 ≡ 1 = eqb-true _ _ t in rw t (ne_eqb (suc n % 2) 1 (λ (e : suc n % 2 ≡ 1). omega arith)))
    (λ t. let other : n % 2 ≡ 1 → ⊥ = eqb-false _ _ t in rw t (eq-eqb (suc n % 2) 1 (omega arith)))

flipped : (o b : Bool) → xor o (not b) ≡ xor (not o) b
unfolding xor
flipped true true = refl
flipped true false = refl
flipped false true = refl
flipped false false = refl

pub false_xor : (b : Bool) → b ≡ xor false b
unfolding xor
false_xor true = refl
false_xor false = refl

xor_false : (o : Bool) → xor o false ≡ o
unfolding xor
xor_false true = refl
xor_false false = refl

flip_here : (o : Bool) → not (beq o true) ≡ not o
flip_here true = refl
flip_here false = refl

flip_past : (o : Bool) → not (beq o false) ≡ o
flip_past true = refl
flip_past false = refl

-- Whether the dollars from i on are odd in number, with o for those before.
module _ (s : List ℕ) (i : ℕ) (o : Bool) where
  pub odd_more_bytes : i < length s
      → xor o (odd (places dollar i (drop i s))) ≡ xor (not (beq o (eqb (get_or s i 0) 36))) (odd (places dollar (i + 1) (drop (i + 1) s)))
  odd_more_bytes l =
      by_test (eqb (get_or s i 0) 36)
      (λ t. rw (t, flip_here, places_here dollar s i l (dollar_is s i (eqb-true _ _ t)), odd_more) (flipped o _))
      (λ t. rw (t, flip_past, places_more dollar s i l (dollar_not s i (eqb-false _ _ t))))

  pub odd_end : length s ≤ i → xor o (odd (places dollar i (drop i s))) ≡ o
  unfolding odd
  odd_end h = rw (places_end dollar s i h) (xor_false o)

-- Whether the places from i on are odd in number, with o for those before; r is the next.
module _ (test : List ℕ → Bool) (s : List ℕ) (i r : ℕ) (o : Bool) (h : i ≤ length s) (e : r ≡ next_place test i (drop i s)) where
  pub odd_none : r ≡ length s → xor o (odd (places test i (drop i s))) ≡ o
  unfolding odd
  odd_none l = rw (places_none test s i r h e l) (xor_false o)

  pub odd_next : r < length s → xor o (odd (places test i (drop i s))) ≡ xor (not o) (odd (places test (r + 1) (drop (r + 1) s)))
  odd_next l = rw (places_first test s i r h e l, odd_more) (flipped o _)

-- Marks that do not overlap.
module _ (test : List ℕ → Bool) (s : List ℕ) (none : places test 0 s ≡ []) where
  none_from : (k : ℕ) → k ≤ length s → places test k (drop k s) ≡ []
  none_from zero h = none
  none_from (suc k) h =
      let before = none_from k (omega arith) in
      by_test (test (drop k s))
      (λ passed. let z = places_here test s k (omega arith) passed in never cc)
      (λ failed. rw (← add-one k) (sym (places_more test s k (omega arith) failed) ∙ before))

  -- no place passes where none is listed
  none_passes : (k : ℕ) → k < length s → test (drop k s) ≡ false
  none_passes k h =
      by_test (test (drop k s))
      (λ passed.
      let z = places_here test s k h passed in
      let y = none_from k (omega arith) in
      never cc)
      (λ failed. failed)

none_listed : (l : List ℕ) → ltb 0 (length l) ≡ false → l ≡ []
none_listed [] e = refl
none_listed (b ∷ l) e = let z = ltb-false 0 (suc (length l)) e in absurd (omega arith)

-- a text without dollars has no marks
mark_none : (delimiter : Delimiter) (s : List ℕ) (j : ℕ) → dollar (drop j s) ≡ false → mark delimiter (drop j s) ≡ false
mark_none Double s j e = two_at s j false _ e refl
mark_none Single s j e = e

dollarless : (l : List ℕ) → plain l ≡ true → dollar l ≡ false
unfolding dollar
dollarless [] h = refl
dollarless (b ∷ l) h = not-true (eqb b 36) (plain_cons b l h).0

pub plain_none : (delimiter : Delimiter) (s : List ℕ) → plain s ≡ true → next_place (mark delimiter) 0 s ≡ length s
plain_none delimiter s h =
    next_none (mark delimiter) s 0 (omega arith) (λ j l. mark_none delimiter s j (dollarless (drop j s) (plain_drop j s h)))

-- where no three dollars stand in a row, the marks behind a mark are those behind its last dollar
pub record Behind (delimiter : Delimiter) (s : List ℕ) (a : ℕ) : Type 0 where
  pub inside : a + width delimiter ≤ length s
  pub marks : places (mark delimiter) (a + 1) (drop (a + 1) s) ≡ places (mark delimiter) (a + width delimiter) (drop (a + width delimiter) s)

pub behind : (delimiter : Delimiter) (s : List ℕ) (a : ℕ) → (delimiter ≡ Double → ltb 0 (length (places three_dollars 0 s)) ≡ false)
    → a < length s → mark delimiter (drop a s) ≡ true → Behind delimiter s a
behind Double s a apart l passed =
    let next : dollar (drop (a + 1) s) ≡ true =
    by_test (dollar (drop (a + 1) s))
    (λ t. t)
    (λ t. let z : two_dollars (drop a s) ≡ false = two_at s a _ false refl t ∙ and-false (dollar (drop a s)) in never cc) in
    let inner : a + 1 < length s = by_order (a + 1) (length s) (λ h. h) (λ h. let z = dollar_end s (a + 1) h in never cc) in
    let three = none_passes three_dollars s (none_listed (places three_dollars 0 s) (apart refl)) a l in
    let two : a + 1 + 1 ≡ a + 2 = omega arith in
    let third : dollar (drop (a + 1 + 1) s) ≡ false = rw two (sym (three_at s a true _ passed refl) ∙ three) in
    record { inside = omega arith; marks = rw (← two) (places_more two_dollars s (a + 1) inner (two_at s (a + 1) true false next third)) }
behind Single s a apart l passed = record { inside = omega arith; marks = refl }

-- two marks more leave the marks odd or even
even_rest : (a b : ℕ) (l : List ℕ) → odd (a ∷ b ∷ l) ≡ false → odd l ≡ false
even_rest a b l e =
    let z = odd_more a (b ∷ l) in
    let y = odd_more b l in
    by_test (odd l) (λ t. let x = rw t at y in let w = rw x at z in never cc) (λ t. t)

some_wide : (delimiter : Delimiter) → 1 ≤ width delimiter
some_wide Double = omega arith
some_wide Single = omega arith

-- the marks from a place on are a first and a second one, and those behind it
pub record Pair (delimiter : Delimiter) (s : List ℕ) (w from a b : ℕ) : Type 0 where
  pub marks : places (mark delimiter) from (drop from s) ≡ a ∷ b ∷ places (mark delimiter) (b + w) (drop (b + w) s)
  pub some : 1 ≤ w
  pub first : from ≤ a
  pub gap : a + w ≤ b
  pub last : b + w ≤ length s
  pub even : odd (places (mark delimiter) (b + w) (drop (b + w) s)) ≡ false

module _ (delimiter : Delimiter) (s : List ℕ) (apart : delimiter ≡ Double → ltb 0 (length (places three_dollars 0 s)) ≡ false) (w : ℕ) (wide : w ≡ width delimiter) where
  -- a mark that is next has its dollars in the text
  pub mark_next : (from a : ℕ) → from ≤ length s → a ≡ next_place (mark delimiter) from (drop from s) → a < length s → Behind delimiter s a
  mark_next from a h e l = behind delimiter s a apart l ((rw (← e) at (next_is (mark delimiter) s from h)).passes l)

  pub mark_inside : (from a : ℕ) → from ≤ length s → a ≡ next_place (mark delimiter) from (drop from s) → a < length s → a + w ≤ length s
  mark_inside from a h e l = rw wide (mark_next from a h e l).inside

  marks_next : (from a : ℕ) → from ≤ length s → a ≡ next_place (mark delimiter) from (drop from s) → a < length s
      → places (mark delimiter) from (drop from s) ≡ a ∷ places (mark delimiter) (a + w) (drop (a + w) s)
  marks_next from a h e l = places_first (mark delimiter) s from a h e l ∙ rw wide (ap (λ z. a ∷ z) (mark_next from a h e l).marks)

  pub pair_next : (from a b : ℕ) → from ≤ length s → odd (places (mark delimiter) from (drop from s)) ≡ false
      → a ≡ next_place (mark delimiter) from (drop from s) → a < length s → b ≡ next_place (mark delimiter) (a + w) (drop (a + w) s) → Pair delimiter s w from a b
  unfolding odd
  pair_next from a b h even e l f =
      let test = mark delimiter in
      let x = next_is test s from h in
      let inner = mark_inside from a h e l in
      let y = next_is test s (a + w) inner in
      let one = marks_next from a h e l in
      let more : b < length s =
      by_order b (length s)
      (λ k. k)
      (λ k. let z = one ∙ ap (λ z. a ∷ z) (places_none test s (a + w) b inner f (omega (arith, y.inside))) in absurd (false≢true (sym (rw z at even)))) in
      let both-marks : places test from (drop from s) ≡ a ∷ b ∷ places test (b + w) (drop (b + w) s) =
      one ∙ ap (λ z. a ∷ z) (marks_next (a + w) b inner f more) in
      record {
        marks = both-marks;
        some = rw wide (some_wide delimiter);
        first = omega (arith, x.from);
        gap = omega (arith, y.from);
        last = mark_inside (a + w) b inner f more;
        even = even_rest a b (places test (b + w) (drop (b + w) s)) (rw both-marks at even);
      }
