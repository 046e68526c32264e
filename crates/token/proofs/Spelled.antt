-- What `spells` and `first` say of a name: one text has one spelling, and where the bytes are no known name, `first` gives `other`.
-- Assumes nothing.
use Rattle.std.specs.Prelude.{◌≡◌, ℕ, zero, suc, ◌<◌, Bool, true, false, eqb, List}
use mathlib.Core.Path.{refl, sym, ◌∙◌}
use mathlib.Core.Bool.{false≢true}
use mathlib.Core.List as L
use native.Mathlib.Nat.{le_refl, le_trans, le-suc}
use Prim.Native.Char.{code}
use Prim.Native.String.{String, [], ◌∷◌}
use borrow.Author.Tests.{eqb-true}
use Rattle.token.specs.Spell.{Arm, spells, first}
use Rattle.text.proofs.Cases.{by_test, both}
use Rattle.text.proofs.Tabled.{tab}

-- one text has one spelling
pub spells_one : (s t : List ℕ) (n : String) → spells s n ≡ true → spells t n ≡ true → s ≡ t
spells_one L.[] L.[] [] p q = refl
spells_one L.[] L.[] (c ∷ n) p q = refl
spells_one L.[] (L.◌∷◌ y t) [] p q = absurd (false≢true q)
spells_one L.[] (L.◌∷◌ y t) (c ∷ n) p q = absurd (false≢true p)
spells_one (L.◌∷◌ x s) L.[] [] p q = absurd (false≢true p)
spells_one (L.◌∷◌ x s) L.[] (c ∷ n) p q = absurd (false≢true q)
spells_one (L.◌∷◌ x s) (L.◌∷◌ y t) [] p q = absurd (false≢true p)
spells_one (L.◌∷◌ x s) (L.◌∷◌ y t) (c ∷ n) p q =
    let p' = both (eqb x (code c)) (spells s n) p in
    let q' = both (eqb y (code c)) (spells t n) q in
    let e : x ≡ y = eqb-true x (code c) p'.0 ∙ sym (eqb-true y (code c) q'.0) in
    let r : s ≡ t = spells_one s t n p'.1 q'.1 in
    cc

-- some name of the list is spelled so
abbrev pub listed : List (List ℕ) → String → Bool
listed L.[] n = false
listed (L.◌∷◌ s ss) n = elim (spells s n) [ true ↦ true | false ↦ listed ss n ]

-- each arm's name is one of the list
abbrev pub all_listed : {A : Type 0} → List (List ℕ) → List (Arm A) → Bool
all_listed ss L.[] = true
all_listed ss (L.◌∷◌ arm rest) = elim (listed ss arm.name) [ true ↦ all_listed ss rest | false ↦ false ]

-- bytes that spell a listed name are at some place of the list
listed_here : (k : ℕ → List ℕ) (s : List ℕ) (n : String) → spells s n ≡ true → (m : ℕ) → ((i : ℕ) → i < m → k i ≡ s → ⊥) → listed (tab k m) n ≡ true → ⊥
listed_here k s n h zero none e = false≢true e
listed_here k s n h (suc m) none e =
    by_test (spells (k m) n) (λ q. none m (le_refl (suc m)) (spells_one (k m) s n q h))
    (λ q. listed_here k s n h m (λ i l. none i (le_trans l (le-suc m))) (rw (q, listed) at e))

-- where the bytes are no name of the list, and each arm's name is one of it, no arm has them
pub first_none : {A : Type 0} (k : ℕ → List ℕ) (m : ℕ) (s : List ℕ) (other : A)
    → ((i : ℕ) → i < m → k i ≡ s → ⊥)
    → (xs : List (Arm A)) → all_listed (tab k m) xs ≡ true → first s other xs ≡ other
first_none k m s other none L.[] e = refl
first_none k m s other none (L.◌∷◌ arm rest) e =
    let here = both (listed (tab k m) arm.name) (all_listed (tab k m) rest) e in
    by_test (spells s arm.name) (λ q. absurd (listed_here k s arm.name q m none here.0))
    (λ q. rw (q, first) (first_none k m s other none rest here.1))
