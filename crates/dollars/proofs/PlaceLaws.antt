-- The places of a text that pass a test, from one to the next.
-- Assumes nothing.
use mathlib.Core.Path.{◌≡◌, refl, sym, ◌∙◌}
use mathlib.Core.Bool.{Bool, true, false, false≢true}
use mathlib.Core.List.{List, [], ◌∷◌}
use Prim.Native.Nat.{ℕ, zero, suc, ◌+◌, ◌-◌, ◌≤◌, ◌<◌}
use native.Mathlib.Numerals.{add-one}
use native.Mathlib.Omega.{arith}
use lib.ListN.{length, drop, drop_of_length-le}
use lib.Seq.{drop-cons}
use Rattle.text.proofs.Cases.{by_test, by_order}
use Rattle.dollars.specs.Places.{places, next_place}

module _ (test : List ℕ → Bool) (s : List ℕ) (i : ℕ) where
  -- the place i passes, fails, or is the end
  pub next_here : i < length s → test (drop i s) ≡ true → next_place test i (drop i s) ≡ i
  unfolding next_place
  next_here inside passed = rw (drop-cons s i 0 inside, next_place, rw (drop-cons s i 0 inside) at passed)

  pub next_more : i < length s → test (drop i s) ≡ false → next_place test i (drop i s) ≡ next_place test (i + 1) (drop (i + 1) s)
  unfolding next_place
  next_more inside failed = rw (add-one, drop-cons s i 0 inside, next_place, rw (drop-cons s i 0 inside) at failed)

  pub next_end : length s ≤ i → next_place test i (drop i s) ≡ i
  unfolding next_place
  next_end h = rw (drop_of_length-le s h)

  pub places_here : i < length s → test (drop i s) ≡ true → places test i (drop i s) ≡ i ∷ places test (i + 1) (drop (i + 1) s)
  unfolding places
  places_here inside passed = rw (add-one, drop-cons s i 0 inside, places, rw (drop-cons s i 0 inside) at passed)

  pub places_more : i < length s → test (drop i s) ≡ false → places test i (drop i s) ≡ places test (i + 1) (drop (i + 1) s)
  unfolding places
  places_more inside failed = rw (add-one, drop-cons s i 0 inside, places, rw (drop-cons s i 0 inside) at failed)

  pub places_end : length s ≤ i → places test i (drop i s) ≡ []
  unfolding places
  places_end h = rw (drop_of_length-le s h)

module _ (test : List ℕ → Bool) (s : List ℕ) where
  -- what holds at the end and at a place that passes, and is handed down over one that fails, holds of a place and the next that passes
  up_to_next : (P : ℕ → ℕ → Type 0)
      → P (length s) (length s)
      → ((i : ℕ) → i < length s → test (drop i s) ≡ true → P i i)
      → ((i r : ℕ) → i < length s → test (drop i s) ≡ false → P (i + 1) r → P i r)
      → (k i : ℕ) → i + k ≡ length s → P i (next_place test i (drop i s))
  up_to_next P at-end here more zero i e =
      let last : i ≡ length s = omega arith in
      rw (next_end test s i (omega arith), last) at-end
  up_to_next P at-end here more (suc k) i e =
      let inside : i < length s = omega arith in
      by_test (test (drop i s))
      (λ passed. rw (next_here test s i inside passed) (here i inside passed))
      (λ failed. rw (next_more test s i inside failed) (more i _ inside failed (up_to_next P at-end here more k (i + 1) (omega arith))))

  -- what is the same over each place that fails is the same at the next that passes
  pub skipped : {A : Type 0} (f : ℕ → A)
      → ((i : ℕ) → i < length s → test (drop i s) ≡ false → f i ≡ f (i + 1))
      → (i : ℕ) → i ≤ length s → f i ≡ f (next_place test i (drop i s))
  skipped f same i h =
      up_to_next (λ j r. f j ≡ f r) refl (λ j inside t. refl) (λ j r inside failed e. same j inside failed ∙ e) (length s - i) i (omega arith)

  -- where no place fails that passes another test, the next that passes the other is the next from there on
  pub next_within : (other : List ℕ → Bool) → ((j : ℕ) → test (drop j s) ≡ false → other (drop j s) ≡ false)
      → (i r : ℕ) → i ≤ length s → r ≡ next_place test i (drop i s) → next_place other i (drop i s) ≡ next_place other r (drop r s)
  next_within other within i r h e =
      rw e (skipped (λ j. next_place other j (drop j s)) (λ j l failed. next_more other s j l (within j failed)) i h)

  -- the next place that passes is not before i, nor behind the end, and passes unless it is the end
  pub record Next (i r : ℕ) : Type 0 where
    pub from : i ≤ r
    pub inside : r ≤ length s
    pub passes : r < length s → test (drop r s) ≡ true

  pub next_is : (i : ℕ) → i ≤ length s → Next i (next_place test i (drop i s))
  next_is i h =
      up_to_next
      Next
      (record { from = omega arith; inside = omega arith; passes = λ l. absurd (omega arith) })
      (λ j l t. record { from = omega arith; inside = omega arith; passes = λ k. t })
      (λ j r l failed n. record { from = omega (arith, n.from); inside = n.inside; passes = n.passes })
      (length s - i)
      i
      (omega arith)

  -- the next place is the end where all places fail
  pub next_none : (i : ℕ) → i ≤ length s → ((j : ℕ) → i ≤ j → test (drop j s) ≡ false) → next_place test i (drop i s) ≡ length s
  next_none i h fails =
      let n = next_is i h in
      let r = next_place test i (drop i s) in
      by_order r (length s)
      (λ l. absurd (false≢true (sym (fails r n.from) ∙ n.passes l)))
      (λ l. omega (arith, n.inside))

  -- the places from i on are those from the next on: none at the end, else it is the first
  pub places_next : (i r : ℕ) → i ≤ length s → r ≡ next_place test i (drop i s) → places test i (drop i s) ≡ places test r (drop r s)
  places_next i r h e = rw e (skipped (λ j. places test j (drop j s)) (places_more test s) i h)

  pub places_none : (i r : ℕ) → i ≤ length s → r ≡ next_place test i (drop i s) → r ≡ length s → places test i (drop i s) ≡ []
  places_none i r h e none = places_next i r h e ∙ places_end test s r (omega arith)

  pub places_first : (i r : ℕ) → i ≤ length s → r ≡ next_place test i (drop i s) → r < length s
      → places test i (drop i s) ≡ r ∷ places test (r + 1) (drop (r + 1) s)
  places_first i r h e l = places_next i r h e ∙ places_here test s r l ((rw (← e) at (next_is i h)).passes l)
