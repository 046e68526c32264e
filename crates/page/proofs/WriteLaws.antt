-- A page written paragraph by paragraph.
-- Assumes nothing.
use mathlib.Core.Path.{◌≡◌, refl, sym, ap}
use mathlib.Core.Bool.{Bool, false}
use mathlib.Core.List.{List, [], ◌∷◌, ◌++◌, append_assoc, append-nil}
use Prim.Native.Nat.{ℕ, ◌+◌, ◌≤◌, ◌<◌}
use native.Mathlib.Numerals.{add-one}
use native.Mathlib.Omega.{arith}
use lib.ListN.{length, drop, get_or, length-drop, take-append-drop}
use lib.Seq.{drop-cons}
use Rattle.text.specs.Text.{part}
use Rattle.text.specs.Put.{RoomAt, PutsAt}
use Rattle.text.proofs.PutLaws.{PuttingAt, putting_at_none, putting_at_room, putting_at_more, putting_at_all}
use Rattle.text.proofs.Cases.{by_order}
use Rattle.dollars.specs.Places.{next_place}
use Rattle.latex2mathml.specs.declared.Manner.{Manner}
use Rattle.breaks.specs.Pieces.{Pieces, last, piece, pieces, paragraphs}
use Rattle.breaks.specs.Breaks.{two_line_ends, no_line_end}
use Rattle.page.specs.Page.{shown, shown_all}
use Rattle.page.specs.Marks.{is_left, marks, Marked}
use Rattle.breaks.proofs.PieceLaws.{pieces_last, pieces_more}

-- the first of the bytes from k on
first_from : (m : List Bool) (k : ℕ) (f : Bool) (l : List Bool) → drop k m ≡ f ∷ l → (k < length m) × (get_or m k false ≡ f) × (drop (k + 1) m ≡ l)
first_from m k f l e =
    let some : k < length m = omega (arith, simp length-drop at (ap length e)) in
    let same = rw (drop-cons m k false some, ← add-one k) at e in
    (some, cc, cc)

-- of the document s the bytes before `from` are written, k paragraphs with the breaks behind them,
-- and the marks of those to come stand in m from k on
pub record Writing (manner : Manner) (s : List ℕ) (m : List Bool) (store work : ℕ) (o₀ o : List ℕ) (from at k : ℕ) : Type 0 where
  pub inside : from ≤ length s
  pub putting : PuttingAt o₀ o 0 at (shown_all manner store work (pieces s)) (shown_all manner store work (pieces (drop from s)))
  pub behind : List Bool
  pub marked : drop k m ≡ marks manner store work (pieces (drop from s)) ++ behind

pub writing_none : (manner : Manner) (s : List ℕ) (m : List Bool) (store work : ℕ) (o : List ℕ) → Marked manner s store work m → Writing manner s m store work o o 0 0 0
writing_none manner s m store work o marked = record {
  inside = omega arith;
  putting = putting_at_none o 0 (shown_all manner store work (pieces s));
  behind = drop (paragraphs (pieces s)) m;
  marked = rw (← marked) (sym (take-append-drop (paragraphs (pieces s)) m));
}

-- what is to be written and the marks begin with those of the next paragraph
record Begins (manner : Manner) (all : Pieces) (store work : ℕ) (p : List ℕ) : Type 0 where
  bytes : List ℕ
  further : List Bool
  shows : shown_all manner store work all ≡ shown manner store work p ++ bytes
  marked : marks manner store work all ≡ is_left manner store work p ∷ further

begins_last : (manner : Manner) (p : List ℕ) (store work : ℕ) → Begins manner (last p) store work p
unfolding shown_all marks
begins_last manner p store work = record { bytes = []; further = []; shows = sym (append-nil (shown manner store work p)); marked = refl }

begins_piece : (manner : Manner) (p break : List ℕ) (rest : Pieces) (store work : ℕ) → Begins manner (piece p break rest) store work p
unfolding shown_all marks
begins_piece manner p break rest store work = record {
  bytes = break ++ shown_all manner store work rest;
  further = marks manner store work rest;
  shows = append_assoc (shown manner store work p) break (shown_all manner store work rest);
  marked = refl;
}

module _ {manner : Manner} {s : List ℕ} {m : List Bool} {store work : ℕ} {o₀ o : List ℕ} {from at k : ℕ} (room : RoomAt o₀ 0 (length (shown_all manner store work (pieces s))))
    (h : Writing manner s m store work o₀ o from at k) (e : ℕ) (first : e ≡ next_place two_line_ends from (drop from s)) (within : e ≤ length s) where
  begins : Begins manner (pieces (drop from s)) store work (part from e s)
  begins =
      by_order e (length s)
      (λ more. rw (pieces_more s from e h.inside first more (next_place no_line_end e (drop e s)) refl).1 (begins_piece manner _ _ _ store work))
      (λ end. rw (pieces_last s from e h.inside first (omega arith)) (begins_last manner _ store work))

  -- the mark of the next paragraph, and the room for it
  pub writing_mark : (k < length m) × (get_or m k false ≡ is_left manner store work (part from e s))
  writing_mark =
      let b = begins in
      let f = first_from m k _ _ (rw b.marked at h.marked) in
      (f.0, f.1)

  pub writing_room : RoomAt o at (length (shown manner store work (part from e s)))
  writing_room =
      let b = begins in
      putting_at_room (shown manner store work (part from e s)) b.bytes room (rw b.shows at h.putting)

  pub writing_last : e ≡ length s → {o' : List ℕ} {r : ℕ} → PutsAt o o' at (shown manner store work (part from e s)) r → PutsAt o₀ o' 0 (shown_all manner store work (pieces s)) r
  unfolding shown_all
  writing_last end puts =
      putting_at_all (putting_at_more (shown manner store work (part from e s)) [] room (rw (pieces_last s from e h.inside first end, ← append-nil (shown manner store work (part from e s))) at h.putting) puts)

  module _ {o₁ : List ℕ} {at₁ : ℕ} (puts : PutsAt o o₁ at (shown manner store work (part from e s)) at₁) (b : ℕ) (more : e < length s)
      (end : b ≡ next_place no_line_end e (drop e s)) where
    are : pieces (drop from s) ≡ piece (part from e s) (part e b s) (pieces (drop b s))
    are = (pieces_more s from e h.inside first more b end).1

    -- the break behind the paragraph comes next
    putting_break : PuttingAt o₀ o₁ 0 at₁ (shown_all manner store work (pieces s)) (part e b s ++ shown_all manner store work (pieces (drop b s)))
    unfolding shown_all
    putting_break =
        let rest = shown_all manner store work (pieces (drop b s)) in
        putting_at_more (shown manner store work (part from e s)) (part e b s ++ rest) room
        (rw (are, append_assoc (shown manner store work (part from e s)) (part e b s) rest) at h.putting)
        puts

    pub break_room : RoomAt o₁ at₁ (length (part e b s))
    break_room = putting_at_room (part e b s) (shown_all manner store work (pieces (drop b s))) room putting_break

    pub writing_more : b ≤ length s → {o₂ : List ℕ} {at₂ : ℕ} → PutsAt o₁ o₂ at₁ (part e b s) at₂ → Writing manner s m store work o₀ o₂ b at₂ (k + 1)
    unfolding marks
    writing_more inside put = record {
      inside = inside;
      putting = putting_at_more (part e b s) (shown_all manner store work (pieces (drop b s))) room putting_break put;
      behind = h.behind;
      marked = (first_from m k _ _ (rw are at h.marked)).2;
    }
