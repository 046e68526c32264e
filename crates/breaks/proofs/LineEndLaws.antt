-- What stands at the head of some bytes: LF, CR LF, or no line end.
-- Assumes nothing.
use mathlib.Core.Path.{◌≡◌, refl, sym, ◌∙◌}
use mathlib.Core.Bool.{true, false, ◌&&◌, false≢true, and-false, and-eq-true_iff}
use mathlib.Core.List.{List, [], ◌∷◌}
use Prim.Native.Nat.{ℕ, ◌≤◌}
use native.Mathlib.Omega.{arith}
use lib.Dec.{eqb}
use lib.ListN.{length}
use borrow.Author.Tests.{eqb-true}
use Rattle.text.proofs.Cases.{by_test}
use Rattle.breaks.specs.Breaks.{line_feed, line_end, in_line_end, two_line_ends}

-- what holds where the bytes begin with LF, with CR LF and with no line end holds of all bytes but none
module _ (P : ℕ → List ℕ → Type 0) (feed : (l : List ℕ) → P 10 l) (return : (l : List ℕ) → P 13 (10 ∷ l))
    (text : (b : ℕ) (l : List ℕ) → line_end (b ∷ l) ≡ 0 → P b l) where
  by_return : (b : ℕ) (l : List ℕ) → (eqb b 13 && line_feed l) ≡ true → P b l
  unfolding line_feed
  by_return b [] e = absurd (false≢true (sym (and-false (eqb b 13)) ∙ e))
  by_return b (c ∷ l) e =
      let h = (and-eq-true_iff (eqb b 13) (eqb c 10)).0 e in
      rw (eqb-true b 13 h.0, eqb-true c 10 h.1) (return l)

  pub by_head : (b : ℕ) (l : List ℕ) → P b l
  unfolding line_end
  by_head b l =
      by_test (eqb b 10)
      (λ t. rw (eqb-true b 10 t) (feed l))
      (λ t. by_test (eqb b 13 && line_feed l) (λ u. by_return b l u) (λ u. text b l (rw (line_end, t, u))))

-- an LF at the head is a line end of one byte
pub feed_one : (l : List ℕ) → line_feed l ≡ true → line_end l ≡ 1
unfolding line_feed line_end
feed_one [] e = absurd (false≢true e)
feed_one (b ∷ l) e = rw (line_end, e)

-- a line end has no more bytes than there are
pub end_fits : (l : List ℕ) → line_end l ≤ length l
unfolding line_end line_feed
end_fits [] = omega arith
end_fits (b ∷ l) =
    by_head (λ b l. line_end (b ∷ l) ≤ length (b ∷ l)) (λ l. omega arith) (λ l. omega arith) (λ b l none. rw none (omega arith)) b l

-- where none stands at the head the tests say so
pub none_in : (l : List ℕ) → line_end l ≡ 0 → in_line_end l ≡ false
unfolding in_line_end
none_in l e = rw e

pub none_two : (l : List ℕ) → in_line_end l ≡ false → two_line_ends l ≡ false
unfolding two_line_ends
none_two l e = rw e

-- of the bytes behind a byte only the first counts
pub same_behind : (b : ℕ) (l m : List ℕ) → line_feed l ≡ line_feed m → in_line_end (b ∷ l) ≡ in_line_end (b ∷ m)
unfolding in_line_end line_end
same_behind b l m e = by_test (eqb b 10) (λ t. rw (in_line_end, line_end, t)) (λ t. rw (in_line_end, line_end, t, e))

-- bytes that begin with no line end begin with no LF, and their first byte belongs to none with nothing behind it
pub none_feed : (l : List ℕ) → in_line_end l ≡ false → line_feed l ≡ false
unfolding in_line_end line_end line_feed
none_feed [] e = refl
none_feed (b ∷ l) e = by_test (eqb b 10) (λ t. absurd (false≢true (sym (rw (in_line_end, line_end, t) at e)))) (λ t. t)

pub none_alone : (b : ℕ) (l : List ℕ) → in_line_end (b ∷ l) ≡ false → in_line_end (b ∷ []) ≡ false
unfolding in_line_end line_end line_feed
none_alone b l e = rw (in_line_end, line_end, none_feed (b ∷ l) e, and-false (eqb b 13))

-- the last byte of a text begins no two
pub last_two : (b : ℕ) → two_line_ends (b ∷ []) ≡ false
unfolding two_line_ends in_line_end line_end line_feed
last_two b =
    by_test (eqb b 10)
    (λ t. rw (eqb-true b 10 t))
    (λ t. none_two (b ∷ []) (rw (in_line_end, line_end, t, and-false (eqb b 13))))
