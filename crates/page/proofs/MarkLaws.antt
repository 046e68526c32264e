-- The marks of a pass: none in bytes without a dollar, one at a run of its own width.
-- Assumes nothing.
use mathlib.Core.Path.{◌≡◌, refl, ◌∙◌, ap}
use mathlib.Core.Bool.{true, false}
use mathlib.Core.List.{List, [], ◌∷◌, ◌++◌, append_assoc}
use Prim.Native.Nat.{ℕ, suc, ◌+◌}
use native.Mathlib.Omega.{arith}
use lib.Dec.{eqb}
use lib.ListN.{length, length-append}
use borrow.Author.Tests.{not-true}
use Rattle.text.specs.Plain.{plain}
use Rattle.text.proofs.PlainLaws.{plain_cons}
use Rattle.dollars.specs.declared.Delimiter.{Delimiter}
use Rattle.dollars.specs.declared.Delimiter.TheVariants.{Single, Double}
use Rattle.dollars.specs.Dollars.{dollar, two_dollars, mark, width}
use Rattle.dollars.specs.Places.{places}
use Rattle.page.specs.Words.{dollars, Some}

-- ---- the first byte

pub plain_first : (l : List ℕ) → plain l ≡ true → dollar l ≡ false
unfolding dollar
plain_first [] h = refl
plain_first (b ∷ l) h = not-true (eqb b 36) (plain_cons b l h).0

pub some_first : (t l : List ℕ) → Some t → plain t ≡ true → dollar (t ++ l) ≡ false
unfolding dollar
some_first [] l some h = absurd some
some_first (b ∷ t) l some h = plain_first (b ∷ t) h

-- ---- the places

-- no mark begins at a byte that is no dollar
quiet : (delimiter : Delimiter) (b : ℕ) (l : List ℕ) → eqb b 36 ≡ false → mark delimiter (b ∷ l) ≡ false
unfolding dollar two_dollars
quiet Double b l h = rw h
quiet Single b l h = h

places_other : (delimiter : Delimiter) (b : ℕ) (l : List ℕ) (at : ℕ) → eqb b 36 ≡ false → places (mark delimiter) at (b ∷ l) ≡ places (mark delimiter) (suc at) l
unfolding places
places_other delimiter b l at h = rw (places, quiet delimiter b l h)

pub places_plain : (delimiter : Delimiter) (t l : List ℕ) (at : ℕ) → plain t ≡ true → places (mark delimiter) at (t ++ l) ≡ places (mark delimiter) (at + length t) l
places_plain delimiter [] l at h = let e : at + 0 ≡ at = omega arith in rw e
places_plain delimiter (b ∷ t) l at h =
    let k = plain_cons b t h in
    let e : at + suc (length t) ≡ suc at + length t = omega arith in
    rw e (places_other delimiter b (t ++ l) at (not-true (eqb b 36) k.0) ∙ places_plain delimiter t l (suc at) k.1)

-- one at a run of its own width: two dollars are a run where no third follows
places_mark : (delimiter : Delimiter) (l : List ℕ) (at : ℕ) → (delimiter ≡ Double → dollar l ≡ false)
    → places (mark delimiter) at (dollars (width delimiter) ++ l) ≡ at ∷ places (mark delimiter) (at + width delimiter) l
unfolding places dollar two_dollars
places_mark Double l at h = let e : at + 2 ≡ suc (suc at) = omega arith in rw (e, h refl)
places_mark Single l at h = let e : at + 1 ≡ suc at = omega arith in rw e

-- a run of one dollar is no mark of two
places_single : (l : List ℕ) (at : ℕ) → dollar l ≡ false → places two_dollars at (dollars 1 ++ l) ≡ places two_dollars (at + 1) l
unfolding places dollar two_dollars
places_single l at h = let e : at + 1 ≡ suc at = omega arith in rw (e, places, h)

-- ---- a body between two runs

module _ (b l : List ℕ) (at : ℕ) (plain_body : plain b ≡ true) where
  pub places_body : (delimiter : Delimiter) → (delimiter ≡ Double → Some b × (dollar l ≡ false))
      → places (mark delimiter) at (dollars (width delimiter) ++ (b ++ (dollars (width delimiter) ++ l)))
      ≡ at ∷ (at + width delimiter + length b) ∷ places (mark delimiter) (at + width delimiter + length b + width delimiter) l
  places_body delimiter h =
      places_mark delimiter _ at (λ e. some_first b _ (h e).0 plain_body)
      ∙ ap (λ (r : List ℕ). at ∷ r) (places_plain delimiter b _ (at + width delimiter) plain_body ∙ places_mark delimiter l _ (λ e. (h e).1))

  -- a body between single dollars has no mark of two
  pub places_inline : Some b → dollar l ≡ false
      → places two_dollars at (dollars 1 ++ (b ++ dollars 1) ++ l) ≡ places two_dollars (at + length (dollars 1 ++ (b ++ dollars 1))) l
  places_inline some h =
      let n = length-append b (dollars 1) in
      let e : at + suc (length (b ++ dollars 1)) ≡ at + 1 + length b + 1 = omega arith in
      rw (e, append_assoc b (dollars 1) l)
      (places_single _ at (some_first b _ some plain_body) ∙ places_plain Double b _ (at + 1) plain_body ∙ places_single l _ h)
