-- The letters of a text are compared with a name one by one, and the first name that they spell gives the environment.
-- Assumes nothing.
use mathlib.Core.Path.{◌≡◌, refl, sym, ap, ◌∙◌}
use mathlib.Core.Bool.{Bool, true, false, not, false≢true}
use mathlib.Core.List.{List}
use mathlib.Core.List as L
use Prim.Native.Nat.{ℕ, ◌+◌, ◌-◌, ◌≤◌, ◌<◌, zero-le}
use Prim.Native.Char.{code}
use Prim.Native.String.{String, [], ◌∷◌}
use native.Mathlib.Omega.{arith}
use native.Mathlib.Numerals.{add-one}
use lib.Dec.{eqb}
use lib.ListN.{length, drop, get_or, drop_of_length-le}
use lib.Seq.{drop-cons}
use borrow.Author.Tests.{eq-eqb, ne_eqb}
use Rattle.text.proofs.Cases.{by_order}
use Rattle.token.specs.Spell.{Arm, spells, first}
use Rattle.token.specs.Key.{codes}
use Rattle.std.specs.Prelude.{Option, Some, None, is_some}
use Rattle.lexer.specs.declared.letters.Letter.{Letter}
use Rattle.lexer.specs.Letters.{letters_within, letters}
use Rattle.lexer.specs.LetterAt.{LetterAt}
use Rattle.lexer.proofs.LettersLaws.{within_none, letters_on}
use Rattle.parser.specs.Environment.{same}

-- no letters are the part of a name from k on where that is its end
same_end : (name : List ℕ) (k : ℕ) → k ≤ length name → same L.[] (drop k name) ≡ eqb k (length name)
same_end name k h =
    by_order k (length name)
    (λ less. rw (drop-cons name k 0, ne_eqb k (length name) (λ e. omega arith)))
    (λ more. rw (drop_of_length-le name {i = k}, eq-eqb k (length name) (omega arith)))

-- on the way: the letters before the place i are those of the name before k, and of the letters behind it the budget is enough
pub record Comparing (t name : List ℕ) (i k : ℕ) : Type 0 where
  pub budget : ℕ
  pub enough : length t ≤ i + budget
  pub inside : i ≤ length t
  pub short : k ≤ length name
  pub is : same (letters t) name ≡ same (letters_within budget (drop i t)) (drop k name)

pub comparing_none : (t name : List ℕ) → Comparing t name 0 0
unfolding letters
comparing_none t name = record { budget = length t; enough = omega arith; inside = zero-le; short = zero-le; is = refl }

module _ {t name : List ℕ} {i k : ℕ} (w : Comparing t name i k) where
  -- where the next token is no letter, the name must end too
  comparing_end : LetterAt t i None → same (letters t) name ≡ eqb k (length name)
  comparing_end none_here = w.is ∙ rw (within_none w.budget (drop i t) none_here) (same_end name k w.short)

  pub comparing_short : LetterAt t i None → k < length name → same (letters t) name ≡ false
  comparing_short none_here h = comparing_end none_here ∙ ne_eqb k (length name) (λ z. omega arith)

  module _ (l : Letter) (here : LetterAt t i (Some l)) where
    split : same (letters t) name ≡ same (L.◌∷◌ l.code (letters_within (w.budget - 1) (drop l.end t))) (drop k name)
    split = w.is ∙ rw (letters_on w.budget t i l here w.enough)

    -- where it is a letter, the name has it too
    pub comparing_other : k < length name → (l.code ≡ get_or name k 0 → ⊥) → same (letters t) name ≡ false
    comparing_other h differs = split ∙ rw (drop-cons name k 0, same, ne_eqb l.code (get_or name k 0) differs)

    pub comparing_more : k < length name → l.code ≡ get_or name k 0 → Comparing t name l.end (k + 1)
    comparing_more h like =
        let enough = w.enough in
        record {
          budget = w.budget - 1;
          enough = omega (arith, here.2);
          inside = here.3;
          short = omega arith;
          is = split ∙ rw (drop-cons name k 0, same, eq-eqb l.code (get_or name k 0) like, add-one);
        }

  -- behind the name there is no letter more
  pub comparing_all : (o : Option Letter) → LetterAt t i o → (no_more : Bool) → is_some o ≡ not no_more → length name ≤ k → no_more ≡ same (letters t) name
  comparing_all None here true e h = let short = w.short in sym (comparing_end here ∙ eq-eqb k (length name) (omega arith))
  comparing_all None here false e h = absurd (false≢true e)
  comparing_all (Some l) here true e h = absurd (false≢true (sym e))
  comparing_all (Some l) here false e h = sym (split l here ∙ rw (drop_of_length-le name {i = k}))

-- letters spell a name where they are its code points
spelled : (l : List ℕ) (n : String) → spells l n ≡ same l (codes n)
spelled L.[] [] = refl
spelled L.[] (c ∷ n) = refl
spelled (L.◌∷◌ x l) [] = refl
spelled (L.◌∷◌ x l) (c ∷ n) = ap (λ b. elim (eqb x (code c)) [ true ↦ b | false ↦ false ]) (spelled l n)

-- .. so the first arm that they spell is found by their comparisons with the names
abbrev pub tried : {A : Type 0} → List ℕ → A → List (Arm A) → A
tried l other L.[] = other
tried l other (L.◌∷◌ arm rest) = elim (same l (codes arm.name)) [ true ↦ arm.gives | false ↦ tried l other rest ]

pub first_tried : {A : Type 0} (l : List ℕ) (other : A) (arms : List (Arm A)) → first l other arms ≡ tried l other arms
first_tried l other L.[] = refl
first_tried l other (L.◌∷◌ arm rest) =
    rw (spelled l arm.name, first)
    (ap (λ a. elim (same l (codes arm.name)) [ true ↦ arm.gives | false ↦ a ]) (first_tried l other rest))
