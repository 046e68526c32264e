-- Pieces of a well-formed text: it may be cut at its start, at its end, and before and behind any of its ASCII bytes.
-- Assumes nothing.
use mathlib.Core.Path.{◌≡◌, refl, sym, ap, ◌∙◌}
use mathlib.Core.Bool.{true, and-eq-true_iff}
use mathlib.Core.List.{List, [], ◌∷◌, ◌++◌}
use Prim.Native.Nat.{ℕ, suc, ◌+◌, ◌-◌, ◌≤◌, ◌<◌}
use native.Mathlib.Omega.{arith}
use native.Mathlib.Numerals.{add-one}
use lib.ListN.{length, get_or, take, drop, length-drop, drop_of_length-le}
use lib.Seq.{split_at, take-suc, take_all, drop-cons, get_or-drop}
use Rattle.text.specs.Utf8.{goes_on, well_formed}
use Rattle.text.specs.Text.{part}
use Rattle.text.proofs.Cases.{by_order}
use Rattle.text.proofs.PartLaws.{part_none}
use Rattle.text.proofs.Utf8Laws.{ascii_splits, goes_ascii}

-- a place where a text may be cut
pub data Cut (s : List ℕ) (i : ℕ) : Type 0 where
  start : i ≡ 0 → Cut s i
  end : length s ≤ i → Cut s i
  before : i < length s → get_or s i 0 < 128 → Cut s i
  behind : (j : ℕ) → i ≡ j + 1 → j < length s → get_or s j 0 < 128 → Cut s i

-- what is before an ASCII byte and what is behind it
pub both_sides : (xs ys : List ℕ) (a : ℕ) → a < 128 → well_formed (xs ++ a ∷ ys) ≡ true → (well_formed xs ≡ true) × (well_formed ys ≡ true)
both_sides xs ys a h e = (and-eq-true_iff (well_formed xs) (well_formed ys)).0 (sym (ascii_splits xs ys a h) ∙ e)

none_well : well_formed [] ≡ true
unfolding well_formed goes_on
none_well = refl

ascii_well : (b : ℕ) (l : List ℕ) → b < 128 → well_formed l ≡ true → well_formed (b ∷ l) ≡ true
unfolding well_formed
ascii_well b l h e = goes_ascii b l h ∙ e

module _ (s : List ℕ) (well : well_formed s ≡ true) where
  sides : (i : ℕ) → i < length s → get_or s i 0 < 128 → (well_formed (take i s) ≡ true) × (well_formed (drop (suc i) s) ≡ true)
  sides i inside ascii =
      both_sides (take i s) (drop (suc i) s) (get_or s i 0) ascii (ap well_formed (sym (split_at s i 0 inside)) ∙ well)

  -- both pieces are well-formed
  pub cut_well : (i : ℕ) → Cut s i → (well_formed (take i s) ≡ true) × (well_formed (drop i s) ≡ true)
  cut_well i (start e) = rw e (none_well, well)
  cut_well i (end h) = (rw (take_all i s h) well, rw (drop_of_length-le s h) none_well)
  cut_well i (before h k) =
      let z = sides i h k in
      (z.0, rw (drop-cons s i 0 h) (ascii_well (get_or s i 0) (drop (suc i) s) k z.1))
  cut_well i (behind j e h k) =
      let z = sides j h k in
      let front : well_formed (take (suc j) s) ≡ true =
      rw (take-suc s j 0 h, ascii_splits (take j s) [] (get_or s j 0) k, z.0) none_well in
      rw (e, add-one j) (front, z.1)

-- a place to cut the text is one of the text behind another
shifted : (s : List ℕ) (a e : ℕ) → a < e → Cut s e → Cut (drop a s) (e - a)
shifted s a e less (start z) = absurd (omega arith)
shifted s a e less (end h) = end (simp length-drop (omega arith))
shifted s a e less (before h k) =
    let there : a + (e - a) ≡ e = omega arith in
    before (simp length-drop (omega arith)) (rw (get_or-drop a s (e - a) 0, there) k)
shifted s a e less (behind j z h k) =
    let there : a + (j - a) ≡ j = omega arith in
    behind (j - a) (omega arith) (simp length-drop (omega arith)) (rw (get_or-drop a s (j - a) 0, there) k)

-- a part between two places to cut
pub part_well : (s : List ℕ) (a e : ℕ) → Cut s a → Cut s e → well_formed s ≡ true → well_formed (part a e s) ≡ true
part_well s a e first last well =
    by_order a e
    (λ less. (cut_well (drop a s) (cut_well s well a first).1 (e - a) (shifted s a e less last)).0)
    (λ none. rw (part_none s a e none) none_well)
