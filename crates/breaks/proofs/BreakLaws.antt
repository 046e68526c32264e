-- The line ends at a place of a text, where the next break begins, and where it ends.
-- Assumes nothing.
use mathlib.Core.Path.{◌≡◌, refl, sym, ◌∙◌, ap}
use mathlib.Core.Bool.{Bool, true, false, not, ◌&&◌, and-false, and-eq-true_iff, true≢false, false≢true}
use mathlib.Core.List.{List, [], ◌∷◌}
use Prim.Native.Nat.{ℕ, zero, suc, ◌+◌, ◌-◌, ◌≤◌, ◌<◌}
use native.Mathlib.Nat.{add-zero}
use native.Mathlib.Omega.{arith}
use lib.Dec.{eqb}
use lib.ListN.{length, take, drop, get_or, length-drop, get_or-eq_default}
use lib.Seq.{drop-drop}
use borrow.Author.Tests.{eqb-true, eqb-false, ne_eqb}
use Rattle.std.specs.Option.{is_some, option_eq}
use Rattle.std.specs.Prelude.{Option, Some, None}
use Rattle.std.proofs.lemmas.List.{take_rest}
use Rattle.text.proofs.Cases.{by_test, by_order}
use Rattle.dollars.specs.Places.{next_place}
use Rattle.dollars.specs.Search.{starts_with}
use Rattle.dollars.proofs.PlaceLaws.{next_here, next_more, next_end, next_within, next_is}
use Rattle.breaks.specs.Breaks.{FindsEnd, line_feed, line_end, in_line_end, two_line_ends, no_line_end}
use Rattle.breaks.proofs.LineEndLaws.{by_head, feed_one, end_fits, none_in, none_two}

-- The line end at the head of some bytes, by the first of them and the next.
head_feed : (l : List ℕ) → get_or l 0 0 ≡ 10 → line_end l ≡ 1
unfolding line_end
head_feed [] e = absurd (omega arith)
head_feed (b ∷ l) e = rw (line_end, e)

head_return : (l : List ℕ) → get_or l 0 0 ≡ 13 → get_or l 1 0 ≡ 10 → line_end l ≡ 2
unfolding line_end line_feed
head_return [] e f = absurd (omega arith)
head_return (b ∷ []) e f = absurd (omega arith)
head_return (b ∷ c ∷ l) e f = rw (e, f)

head_other : (l : List ℕ) → (get_or l 0 0 ≡ 10 → ⊥) → (get_or l 0 0 ≡ 13 → ⊥) → line_end l ≡ 0
unfolding line_end
head_other [] e f = refl
head_other (b ∷ l) e f = rw (line_end, ne_eqb b 10 e, ne_eqb b 13 f)

head_alone : (l : List ℕ) → (get_or l 0 0 ≡ 10 → ⊥) → (get_or l 1 0 ≡ 10 → ⊥) → line_end l ≡ 0
unfolding line_end line_feed
head_alone [] e f = refl
head_alone (b ∷ []) e f = rw (line_end, ne_eqb b 10 e, and-false (eqb b 13))
head_alone (b ∷ c ∷ l) e f = rw (line_end, ne_eqb b 10 e, ne_eqb c 10 f, and-false (eqb b 13))

-- The line end at the place i of a text, by what stands from there on.
module _ (s : List ℕ) (i : ℕ) where
  abbrev rest : List ℕ
  rest = take (length s - i) (drop i s)

  at_rest : line_end (drop i s) ≡ line_end rest
  at_rest = ap line_end (sym (take_rest s i))

  pub end_feed : get_or rest 0 0 ≡ 10 → 1 ≡ line_end (drop i s)
  end_feed e = sym (at_rest ∙ head_feed rest e)

  pub end_return : get_or rest 0 0 ≡ 13 → get_or rest 1 0 ≡ 10 → 2 ≡ line_end (drop i s)
  end_return e f = sym (at_rest ∙ head_return rest e f)

  pub end_other : (get_or rest 0 0 ≡ 10 → ⊥) → (get_or rest 0 0 ≡ 13 → ⊥) → line_end (drop i s) ≡ 0
  end_other e f = at_rest ∙ head_other rest e f

  pub end_alone : (get_or rest 0 0 ≡ 10 → ⊥) → (get_or rest 1 0 ≡ 10 → ⊥) → line_end (drop i s) ≡ 0
  end_alone e f = at_rest ∙ head_alone rest e f

  pub end_none : length rest < 1 → line_end (drop i s) ≡ 0
  end_none h = end_other (λ e. omega (arith, get_or-eq_default rest 0 {n = 0} (omega arith))) (λ e. omega (arith, get_or-eq_default rest 0 {n = 0} (omega arith)))

  pub end_short : length rest < 2 → (get_or rest 0 0 ≡ 10 → ⊥) → line_end (drop i s) ≡ 0
  end_short h e = end_alone e (λ f. omega (arith, get_or-eq_default rest 0 {n = 1} (omega arith)))

  -- two line ends are a line end, of w bytes, and one behind it
  pub two_at : (w : ℕ) → w ≡ line_end (drop i s) → two_line_ends (drop i s) ≡ (not (eqb w 0) && not (eqb (line_end (drop (i + w) s)) 0))
  unfolding two_line_ends in_line_end
  two_at w e = rw (e, ← drop-drop (line_end (drop i s)) i s)

pub ruleset ends = (end_feed, end_return, end_other, end_alone, end_none, end_short)

-- What is found says whether a line end has bytes, and whether it has two.
module _ (s : List ℕ) (i : ℕ) where
  pub some_end : (found : Option ℕ) → FindsEnd s i found → true ≡ is_some found → line_end (drop i s) ≡ 0 → ⊥
  some_end None h e z = true≢false e
  some_end (Some w) h e z = omega (arith, h.0, h.1)

  pub none_end : (found : Option ℕ) → FindsEnd s i found → false ≡ is_some found → line_end (drop i s) ≡ 0
  none_end None h e = h
  none_end (Some w) h e = absurd (false≢true e)

  pub both_end : (found : Option ℕ) → FindsEnd s i found → true ≡ option_eq eqb found (Some 2) → line_end (drop i s) ≡ 2
  both_end None h e = absurd (true≢false e)
  both_end (Some w) h e = sym h.0 ∙ eqb-true w 2 (sym e)

  pub other_end : (found : Option ℕ) → FindsEnd s i found → false ≡ option_eq eqb found (Some 2) → line_end (drop i s) ≡ 2 → ⊥
  other_end None h e two = omega (arith, h)
  other_end (Some w) h e two = eqb-false w 2 (sym e) (h.0 ∙ two)

-- a line feed that a blank line follows
abbrev pub blank_behind : List ℕ → Bool
blank_behind l = line_feed l && two_line_ends l

starts_feed : (l : List ℕ) → starts_with 10 l ≡ line_feed l
unfolding starts_with line_feed
starts_feed [] = refl
starts_feed (b ∷ l) = refl

-- The next such line feed from i on, where r is the next line feed at all.
module _ (s : List ℕ) (i r : ℕ) (h : i ≤ length s) (e : r ≡ next_place (starts_with 10) i (drop i s)) where
  to_feed : next_place blank_behind i (drop i s) ≡ next_place blank_behind r (drop r s)
  to_feed = next_within (starts_with 10) s blank_behind (λ j failed. rw (← starts_feed (drop j s), failed)) i r h e

  module _ (l : r < length s) where
    by_behind : blank_behind (drop r s) ≡ not (eqb (line_end (drop (r + 1) s)) 0)
    by_behind =
        let feed = sym (starts_feed (drop r s)) ∙ rw (← e) at (next_is (starts_with 10) s i h).passes l in
        rw feed (two_at s r 1 (sym (feed_one (drop r s) feed)))

    pub blank_here : (line_end (drop (r + 1) s) ≡ 0 → ⊥) → next_place blank_behind i (drop i s) ≡ r
    blank_here some = to_feed ∙ next_here blank_behind s r l (by_behind ∙ rw (ne_eqb _ 0 some))

    pub blank_more : line_end (drop (r + 1) s) ≡ 0 → next_place blank_behind i (drop i s) ≡ next_place blank_behind (r + 1) (drop (r + 1) s)
    blank_more none = to_feed ∙ next_more blank_behind s r l (by_behind ∙ rw none)

  pub blank_none : r ≡ length s → next_place blank_behind i (drop i s) ≡ length s
  blank_none none = to_feed ∙ next_end blank_behind s r (omega arith) ∙ none

-- Two line ends begin at such a line feed, or at a CR directly before it.
two_none : (l : List ℕ) → blank_behind l ≡ false → (line_end l ≡ 2 → blank_behind (drop 1 l) ≡ false) → two_line_ends l ≡ false
unfolding line_feed line_end in_line_end two_line_ends
two_none [] first second = refl
two_none (b ∷ l) first second =
    by_head (λ b l. blank_behind (b ∷ l) ≡ false → (line_end (b ∷ l) ≡ 2 → blank_behind l ≡ false) → two_line_ends (b ∷ l) ≡ false)
    (λ l f g. f)
    (λ l f g. g refl)
    (λ b l none f g. none_two (b ∷ l) (none_in (b ∷ l) none))
    b
    l
    first
    second

module _ (s : List ℕ) where
  not_here : (i : ℕ) → i < length s → i < next_place blank_behind i (drop i s) → blank_behind (drop i s) ≡ false
  not_here i inside l =
      by_test (blank_behind (drop i s))
      (λ t. absurd (omega (arith, next_here blank_behind s i inside t)))
      (λ t. t)

  blank_far : (k i : ℕ) → i + k < length s → next_place blank_behind i (drop i s) ≡ i + k + 1
      → (next_place two_line_ends i (drop i s) ≡ next_place two_line_ends (i + k) (drop (i + k) s)) × (blank_behind (drop (i + k) s) ≡ false)
  blank_far zero i h e = rw (add-zero i) (refl, not_here i (omega arith) (omega arith))
  blank_far (suc k) i h e =
      let inside : i < length s = omega arith in
      let first = not_here i inside (omega arith) in
      let next = next_more blank_behind s i inside first in
      let second = not_here (i + 1) (omega arith) (omega arith) in
      let same : i + 1 + k ≡ i + suc k = omega arith in
      let far = rw same at (blank_far k (i + 1) (omega arith) (omega arith)) in
      (next_more two_line_ends s i inside (two_none (drop i s) first (λ w. rw (drop-drop 1 i s) second)) ∙ far.0, far.1)

-- The next two line ends from i on, where r is the next such line feed.
module _ (s : List ℕ) (i r : ℕ) (h : i ≤ length s) (e : r ≡ next_place blank_behind i (drop i s)) where
  at_two : r < length s → (line_feed (drop r s) ≡ true) × (two_line_ends (drop r s) ≡ true)
  at_two l = (and-eq-true_iff (line_feed (drop r s)) (two_line_ends (drop r s))).0 (rw (← e) at (next_is blank_behind s i h).passes l)

  pub one_there : r < length s → 1 ≡ line_end (drop r s)
  one_there l = sym (feed_one (drop r s) (at_two l).0)

  there : next_place two_line_ends r (drop r s) ≡ r
  there = by_order r (length s) (λ l. next_here two_line_ends s r l (at_two l).1) (λ l. next_end two_line_ends s r l)

  pub at_feed : r ≡ i → next_place two_line_ends i (drop i s) ≡ r
  at_feed same = ap (λ j. next_place two_line_ends j (drop j s)) (sym same) ∙ there

  module _ (l : i < r) where
    before : (next_place two_line_ends i (drop i s) ≡ next_place two_line_ends (r - 1) (drop (r - 1) s)) × (blank_behind (drop (r - 1) s) ≡ false) × (r ≤ length s)
    before =
        let inside : r ≤ length s = rw (← e) at (next_is blank_behind s i h).inside in
        let k : i + (r - 1 - i) ≡ r - 1 = omega arith in
        let far = rw k at (blank_far s (r - 1 - i) i (omega arith) (omega arith)) in
        (far.0, far.1, inside)

    not_last : line_end (drop (r - 1) s) ≡ 2 → r < length s
    not_last two = omega (arith, end_fits (drop (r - 1) s), length-drop (r - 1) s)

    pub before_feed : line_end (drop (r - 1) s) ≡ 2 → next_place two_line_ends i (drop i s) ≡ r - 1
    before_feed two =
        let more = not_last two in
        let k : r - 1 + 2 ≡ r + 1 = omega arith in
        before.0
        ∙ next_here two_line_ends s (r - 1) (omega arith) (two_at s (r - 1) 2 (sym two) ∙ rw k (sym (two_at s r 1 (one_there more)) ∙ (at_two more).1))

    pub not_before : (line_end (drop (r - 1) s) ≡ 2 → ⊥) → next_place two_line_ends i (drop i s) ≡ r
    not_before other =
        let b = before in
        let k : r - 1 + 1 ≡ r = omega arith in
        let none = two_none (drop (r - 1) s) b.1 (λ two. absurd (other two)) in
        b.0 ∙ rw k at (next_more two_line_ends s (r - 1) (omega arith) none) ∙ there

  -- so what holds of r, and of the place before it where CR LF stands there, holds of the place of the two
  pub begins : (P : ℕ → Type 0) → P r → (0 < r → r < length s → line_end (drop (r - 1) s) ≡ 2 → P (r - 1)) → P (next_place two_line_ends i (drop i s))
  begins P same return =
      by_order i r
      (λ l. by_test (eqb (line_end (drop (r - 1) s)) 2)
      (λ t. let two = eqb-true (line_end (drop (r - 1) s)) 2 t in rw (before_feed l two) (return (omega arith) (not_last l two) two))
      (λ t. rw (not_before l (λ two. false≢true (sym t ∙ rw two))) same))
      (λ l. rw (at_feed (omega (arith, (next_is blank_behind s i h).from))) same)

-- The end of a break.
end_next : (at : ℕ) (l : List ℕ) → next_place no_line_end at l ≡ next_place no_line_end (at + line_end l) (drop (line_end l) l)
unfolding next_place no_line_end in_line_end line_end line_feed
end_next at [] = rw add-zero
end_next at (b ∷ l) =
    by_head (λ b l. next_place no_line_end at (b ∷ l) ≡ next_place no_line_end (at + line_end (b ∷ l)) (drop (line_end (b ∷ l)) (b ∷ l)))
    (λ l. ap (λ k. next_place no_line_end k l) (omega arith))
    (λ l. ap (λ k. next_place no_line_end k l) (omega arith))
    (λ b l none. rw (none, add-zero))
    b
    l

module _ (s : List ℕ) (i w : ℕ) (is : w ≡ line_end (drop i s)) where
  -- it is not before the end of a line end
  pub end_past : next_place no_line_end i (drop i s) ≡ next_place no_line_end (i + w) (drop (i + w) s)
  end_past = rw (is, ← drop-drop (line_end (drop i s)) i s) (end_next i (drop i s))

  pub end_here : w ≡ 0 → next_place no_line_end i (drop i s) ≡ i
  unfolding next_place no_line_end
  end_here none = stays (drop i s) (sym is ∙ none)
    where
      stays : (l : List ℕ) → line_end l ≡ 0 → next_place no_line_end i l ≡ i
      stays [] e = refl
      stays (b ∷ l) e = rw (next_place, no_line_end, none_in (b ∷ l) e)
