-- The pieces of a document from the places where its breaks begin and end.
-- Assumes nothing.
use mathlib.Core.Path.{◌≡◌, sym, ◌∙◌, ap}
use mathlib.Core.Bool.{Bool, true, false, false≢true}
use mathlib.Core.List.{List, [], ◌∷◌, append-nil}
use Prim.Native.Nat.{ℕ, zero, suc, ◌+◌, ◌-◌, ◌≤◌, ◌<◌}
use native.Mathlib.Numerals.{add-one}
use native.Mathlib.Nat.{add-zero}
use native.Mathlib.Omega.{arith}
use lib.Dec.{eqb}
use lib.ListN.{length, take, drop, get_or, length-drop, drop_of_length-le}
use lib.Seq.{drop-cons, drop-drop, take-suc}
use borrow.Author.Tests.{not-true, not-false}
use Rattle.text.specs.Text.{part}
use Rattle.text.proofs.Cases.{by_test, by_order}
use Rattle.dollars.specs.Places.{next_place}
use Rattle.dollars.proofs.PlaceLaws.{skipped, next_is}
use Rattle.breaks.specs.Pieces.{last, piece, count_ends, cut, pieces}
use Rattle.breaks.specs.Breaks.{line_feed, line_end, in_line_end, two_line_ends, no_line_end}
use Rattle.breaks.proofs.LineEndLaws.{by_head, none_in, none_two}
use Rattle.breaks.proofs.CutLaws.{byte_more, end_more, broken}

-- The next place of a text that begins at `at` lies as far behind `at` as that of the text by itself lies behind 0.
shifted : (test : List ℕ → Bool) (at : ℕ) (l : List ℕ) → next_place test at l ≡ at + next_place test 0 l
unfolding next_place
shifted test at [] = sym (add-zero at)
shifted test at (b ∷ l) =
    by_test (test (b ∷ l))
    (λ passed. rw (next_place, passed, add-zero))
    (λ failed. rw (next_place, failed, shifted test (suc at) l, shifted test 1 l) (omega arith))

-- a paragraph takes byte after byte up to the first break, or the end
up_to_break : (l : List ℕ) → let e = next_place two_line_ends 0 l in pieces l ≡ cut (take e l) [] (drop e l)
unfolding pieces
up_to_break l =
    skipped two_line_ends l (λ i. cut (take i l) [] (drop i l))
    (λ i inside e. rw (add-one, drop-cons l i 0 inside, take-suc l i 0 inside) (byte_more (take i l) (get_or l i 0) (drop (suc i) l) (rw (drop-cons l i 0 inside) at e)))
    0
    (omega arith)

-- the run of line ends takes them to its end
module _ (l : List ℕ) where
  abbrev run : ℕ
  run = next_place no_line_end 0 l

  through_run : (p : List ℕ) → cut p [] l ≡ cut p (take run l) (drop run l)
  unfolding no_line_end
  through_run p =
      skipped no_line_end l (λ i. cut p (take i l) (drop i l))
      (λ i inside e. rw (add-one, drop-cons l i 0 inside, take-suc l i 0 inside) (end_more p (take i l) (get_or l i 0) (drop (suc i) l) (not-false _ (rw (drop-cons l i 0 inside) at e))))
      0
      (omega arith)

  -- no line end stands behind the run
  run_ends : in_line_end (drop run l) ≡ false
  unfolding in_line_end line_end no_line_end
  run_ends =
      by_order run (length l)
      (λ h. not-true _ ((next_is no_line_end l 0 (omega arith)).passes h))
      (λ h. rw (drop_of_length-le l h))

-- how many line ends the run has
abbrev ran : List ℕ → ℕ
ran l = count_ends (take (run l) l)

-- a line end at its head is one more
run_feed : (l : List ℕ) → ran (10 ∷ l) ≡ suc (ran l)
unfolding no_line_end in_line_end line_end next_place count_ends
run_feed l =
    let k : 1 + run l ≡ suc (run l) = omega arith in
    rw (next_place, no_line_end, in_line_end, shifted no_line_end 1 l, k)

run_return : (l : List ℕ) → ran (13 ∷ 10 ∷ l) ≡ suc (ran l)
unfolding no_line_end in_line_end line_end line_feed next_place count_ends
run_return l =
    let k : 2 + run l ≡ suc (suc (run l)) = omega arith in
    rw (next_place, no_line_end, in_line_end, line_feed, shifted no_line_end 2 l, k)

-- a line end at the head is a run of one at least
run_some : (l : List ℕ) → in_line_end l ≡ true → 1 ≤ ran l
unfolding in_line_end line_end
run_some [] e = absurd (false≢true e)
run_some (b ∷ l) e =
    by_head (λ b l. in_line_end (b ∷ l) ≡ true → 1 ≤ ran (b ∷ l))
    (λ l e. omega (arith, run_feed l))
    (λ l e. omega (arith, run_return l))
    (λ b l none e. absurd (false≢true (sym (none_in (b ∷ l) none) ∙ e)))
    b
    l
    e

-- two are a run of two at least
run_wide : (l : List ℕ) → two_line_ends l ≡ true → 1 < ran l
unfolding two_line_ends in_line_end line_end line_feed
run_wide [] e = absurd (false≢true e)
run_wide (b ∷ l) e =
    by_head (λ b l. two_line_ends (b ∷ l) ≡ true → 1 < ran (b ∷ l))
    (λ l e. omega (arith, run_feed l, run_some l e))
    (λ l e. omega (arith, run_return l, run_some l e))
    (λ b l none e. absurd (false≢true (sym (none_two (b ∷ l) (none_in (b ∷ l) none)) ∙ e)))
    b
    l
    e

-- each line end has a byte
count_most : (n : ℕ) (l : List ℕ) → count_ends (take n l) ≤ n
unfolding count_ends
count_most zero l = omega arith
count_most (suc n) [] = omega arith
count_most (suc n) (b ∷ l) =
    let h = count_most n l in
    by_test (eqb b 10) (λ t. rw (count_ends, t) (omega arith)) (λ t. rw (count_ends, t) (omega arith))

-- The pieces of a document from a place on, behind which e is the first place of a break, or the end.
module _ (s : List ℕ) (from e : ℕ) (inside : from ≤ length s) (first : e ≡ next_place two_line_ends from (drop from s)) where
  pub pieces_last : e ≡ length s → pieces (drop from s) ≡ last (part from e s)
  unfolding cut count_ends
  pieces_last none =
      let l = drop from s in
      let j = next_place two_line_ends 0 l in
      let here = shifted two_line_ends from l in
      let end : length l ≤ j = simp length-drop (omega arith) in
      let long : e - from ≡ j = omega arith in
      up_to_break l ∙ rw (long, drop_of_length-le l end, append-nil (take j l))

  pub pieces_more : e < length s → (b : ℕ) → b ≡ next_place no_line_end e (drop e s)
      → (e + 2 ≤ b) × (pieces (drop from s) ≡ piece (part from e s) (part e b s) (pieces (drop b s)))
  pieces_more more b end =
      let l = drop from s in
      let j = next_place two_line_ends 0 l in
      let m = drop e s in
      let k : e ≡ from + j = first ∙ shifted two_line_ends from l in
      let n : b ≡ e + run m = end ∙ shifted no_line_end e m in
      let passes = (rw (← first) at (next_is two_line_ends s from inside)).passes more in
      let wide = run_wide m passes in
      let most = count_most (run m) m in
      let long : e - from ≡ j = omega arith in
      let broad : b - e ≡ run m = omega arith in
      let here : drop j l ≡ m = drop-drop j from s ∙ ap (λ i. drop i s) (sym k) in
      let there : drop (run m) m ≡ drop b s = drop-drop (run m) e s ∙ ap (λ i. drop i s) (sym n) in
      (omega arith, up_to_break l ∙ rw (here, long, broad, ← there, through_run m (take j l)) (broken (take j l) (take (run m) m) (drop (run m) m) wide (run_ends m)))
