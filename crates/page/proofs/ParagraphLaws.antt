-- A paragraph as it comes out, by what the replacement gives for it.
-- Assumes nothing.
use mathlib.Core.Path.{◌≡◌, sym, ◌∙◌}
use mathlib.Core.Bool.{Bool, true, false}
use mathlib.Core.List.{List, ◌++◌}
use Prim.Native.Nat.{ℕ, ◌+◌, ◌*◌, ◌≤◌}
use native.Mathlib.Omega.{arith}
use lib.ListN.{length, take, drop, length-append}
use lib.Seq.{take_at, length-take-le}
use Rattle.std.specs.Int.{from_bool}
use Rattle.text.specs.Put.{put, RoomAt, PutsAt}
use Rattle.text.proofs.Cases.{never}
use Rattle.error.specs.declared.Refusal.{Refusal}
use Rattle.latex2mathml.specs.declared.Manner.{Manner}
use Rattle.latex2mathml.specs.Outcome.{accepted, refused}
use Rattle.latex2mathml.specs.Replace.{replacement}
use Rattle.latex2mathml.specs.Laid.{Laid, LaidThere, Fits, WrittenThere, growth}
use Rattle.latex2mathml.proofs.OutcomeLaws.{by_outcome}
use Rattle.page.specs.Page.{shown, left}
use Rattle.page.specs.Marks.{is_left, Drafted}

-- what is laid stands behind what lies before its place
pub laid_next : (d d' bs : List ℕ) (at n : ℕ) → n ≡ at + length bs → n ≤ length d → Laid d d' at bs → take n d' ≡ take at d ++ bs
unfolding put
laid_next d d' bs at n place fits laid =
    rw (laid.0 (omega arith)) (take_at (take at d ++ bs) (drop (at + length bs) d) n (length-append (take at d) bs ∙ rw (length-take-le at d (omega arith)) (sym place)))

module _ (manner : Manner) (p : List ℕ) (store work : ℕ) where
  -- the paragraph is replaced, or left as typed
  pub shown_replaced : (text : List ℕ) → replacement manner p store work ≡ accepted text → shown manner store work p ≡ text
  unfolding shown
  shown_replaced text e = rw (shown, e)

  pub left_replaced : (text : List ℕ) → replacement manner p store work ≡ accepted text → left manner store work p ≡ 0
  unfolding left
  left_replaced text e = rw (left, e)

  pub shown_typed : (r : Refusal) → replacement manner p store work ≡ refused r → shown manner store work p ≡ p
  unfolding shown
  shown_typed r e = rw (shown, e)

  pub left_typed : (r : Refusal) → replacement manner p store work ≡ refused r → left manner store work p ≡ 1
  unfolding left
  left_typed r e = rw (left, e)

  -- its mark
  pub mark_replaced : (text : List ℕ) → replacement manner p store work ≡ accepted text → is_left manner store work p ≡ false
  unfolding is_left
  mark_replaced text e = rw (is_left, e)

  pub mark_typed : (r : Refusal) → replacement manner p store work ≡ refused r → is_left manner store work p ≡ true
  unfolding is_left
  mark_typed r e = rw (is_left, e)

  -- .. counts it
  pub mark_counts : from_bool (is_left manner store work p) ≡ left manner store work p
  mark_counts =
      by_outcome (replacement manner p store work)
      (λ text e. rw (mark_replaced text e, left_replaced text e))
      (λ r e. rw (mark_typed r e, left_typed r e))

  pub left_most : left manner store work p ≤ 1
  left_most =
      by_outcome (replacement manner p store work) (λ text e. omega (arith, left_replaced text e)) (λ r e. omega (arith, left_typed r e))

  -- what is drafted of it
  module _ (d d' : List ℕ) (at : ℕ) where
    pub drafted_replaced : (x : Bool) (z : ℕ) → x ≡ false → LaidThere (replacement manner p store work) d d' at z → z ≤ at + length p * (growth * growth)
        → Drafted manner p store work d d' at x z
    drafted_replaced x z is h most =
        let e = shown_replaced h.text h.is in
        rw is
        (record {
          place = rw e h.place;
          most = most;
          front = λ fits. rw e (laid_next d d' h.text at z h.place fits h.laid);
          mark = rw (mark_replaced h.text h.is);
        })

    pub drafted_typed : (x : Bool) (r : Refusal) (n : ℕ) (d₁ : List ℕ) → x ≡ true → replacement manner p store work ≡ refused r → take at d₁ ≡ take at d → length d₁ ≡ length d
        → n ≡ at + length p → Laid d₁ d' at p → Drafted manner p store work d d' at x n
    drafted_typed x r n d₁ is e kept same place laid =
        let shows = shown_typed r e in
        rw is
        (record {
          place = rw shows place;
          most = omega arith;
          front = λ fits. rw (shows, ← kept) (laid_next d₁ d' p at n place (omega arith) laid);
          mark = rw (mark_typed r e);
        })

  -- what is written of it
  pub fits_replaced : (o : List ℕ) (at : ℕ) → is_left manner store work p ≡ false → RoomAt o at (length (shown manner store work p)) → Fits (replacement manner p store work) o at
  fits_replaced o at none room =
      by_outcome (replacement manner p store work)
      (λ text e. record { text = text; is = e; inside = rw (shown_replaced text e) at room.inside })
      (λ r e. let typed = mark_typed r e in never cc)

  pub puts_replaced : (o o' : List ℕ) (at r : ℕ) → WrittenThere (replacement manner p store work) o o' at r → PutsAt o o' at (shown manner store work p) r
  puts_replaced o o' at r h = rw (shown_replaced h.text h.is) h.puts

  pub shown_left : is_left manner store work p ≡ true → shown manner store work p ≡ p
  shown_left some =
      by_outcome (replacement manner p store work) (λ text e. let replaced = mark_replaced text e in never cc) (λ r e. shown_typed r e)
