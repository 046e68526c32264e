-- A page drafted paragraph by paragraph.
-- Assumes nothing.
use mathlib.Core.Path.{◌≡◌, sym, ◌∙◌, ap}
use mathlib.Core.Bool.{Bool, false}
use mathlib.Core.List.{List, [], ◌∷◌, ◌++◌, append_assoc}
use Prim.Native.Nat.{ℕ, ◌+◌, ◌*◌, ◌≤◌, ◌<◌}
use native.Mathlib.Numerals.{add-one}
use native.Mathlib.Omega.{arith}
use lib.ListN.{length, take, drop, get_or, length-append, set}
use lib.Seq.{take-suc-set, get_or-set_same, append_snoc}
use Rattle.std.specs.Int.{from_bool}
use Rattle.text.specs.Text.{part}
use Rattle.text.proofs.PartLaws.{part_length}
use Rattle.latex2mathml.specs.declared.Manner.{Manner}
use Rattle.dollars.specs.Places.{next_place}
use Rattle.latex2mathml.specs.Laid.{Laid, growth}
use Rattle.breaks.specs.Pieces.{piece, pieces, paragraphs}
use Rattle.breaks.specs.Breaks.{two_line_ends, no_line_end}
use Rattle.page.specs.Page.{shown, left, shown_all, left_all}
use Rattle.page.specs.Marks.{is_left, marks, Drafted, Totalled}
use Rattle.breaks.proofs.PieceLaws.{pieces_last, pieces_more}
use Rattle.page.proofs.ParagraphLaws.{left_most, mark_counts, laid_next}

-- of the document s the bytes before `from` are drafted: k paragraphs with the breaks behind them, which take `at` bytes of the draft d if they
-- fit there, `refused` of them left as typed, with their marks in m
pub record Drafting (manner : Manner) (s : List ℕ) (store work from at k refused : ℕ) (d : List ℕ) (m : List Bool) : Type 0 where
  pub inside : from ≤ length s
  pub few : 2 * k ≤ from
  pub fewer : refused ≤ k
  pub most : at ≤ from * (growth * growth)
  pub done : List ℕ
  pub whole : shown_all manner store work (pieces s) ≡ done ++ shown_all manner store work (pieces (drop from s))
  pub size : at ≡ length done
  pub front : at ≤ length d → take at d ≡ done
  pub counted : paragraphs (pieces s) ≡ k + paragraphs (pieces (drop from s))
  pub kept : left_all manner store work (pieces s) ≡ refused + left_all manner store work (pieces (drop from s))
  pub marked : marks manner store work (pieces s) ≡ take k m ++ marks manner store work (pieces (drop from s))

regrouped : (a b c l : List ℕ) → a ++ (b ++ c ++ l) ≡ a ++ b ++ c ++ l
regrouped a b c l = simp append_assoc

module _ {manner : Manner} {s : List ℕ} {store work from at k refused : ℕ} {d d' : List ℕ} {m : List Bool} {x : Bool} (h : Drafting manner s store work from at k refused d m) (e n : ℕ)
    (first : e ≡ next_place two_line_ends from (drop from s)) (room : k < length m) (p : Drafted manner (part from e s) store work d d' at x n) where
  -- the mark of the paragraph that is drafted next stands behind those before it
  mark_is : get_or (set m k x) k false ≡ is_left manner store work (part from e s)
  mark_is = rw p.mark (get_or-set_same m k (is_left manner store work (part from e s)) false room)

  mark_counted : from_bool (get_or (set m k x) k false) ≡ left manner store work (part from e s)
  mark_counted = rw mark_is (mark_counts manner (part from e s) store work)

  marks_are : take (k + 1) (set m k x) ≡ take k m ++ is_left manner store work (part from e s) ∷ []
  marks_are = rw (p.mark, add-one) (take-suc-set m k (is_left manner store work (part from e s)) room)

  -- the paragraph stands behind what is done
  front_next : n ≤ length d → take n d' ≡ h.done ++ shown manner store work (part from e s)
  front_next fits =
      let place = p.place in
      p.front fits ∙ rw (h.front (omega arith))

  size_next : n ≡ length (h.done ++ shown manner store work (part from e s))
  size_next =
      let place = p.place in
      let size = h.size in
      let both = length-append h.done (shown manner store work (part from e s)) in
      omega arith

  pub drafting_last : e ≡ length s → length d' ≡ length d → Totalled manner s store work d' (set m k x) (record { length = n; paragraphs = k + 1; left = refused + from_bool (get_or (set m k x) k false) })
  unfolding shown_all paragraphs left_all marks
  drafting_last end same =
      let are = pieces_last s from e h.inside first end in
      let counted : paragraphs (pieces s) ≡ k + 1 = h.counted ∙ rw are in
      let whole : shown_all manner store work (pieces s) ≡ h.done ++ shown manner store work (part from e s) = h.whole ∙ rw are in
      record {
        long = size_next ∙ sym (ap length whole);
        front = λ fits. front_next (omega arith) ∙ sym whole;
        counted = sym counted;
        kept = sym (h.kept ∙ rw (are, mark_counted));
        marked = rw counted (marks_are ∙ sym (h.marked ∙ rw are));
      }

  module _ (b : ℕ) (behind : from ≤ e) (more : e < length s) (end : b ≡ next_place no_line_end e (drop e s)) (inside : b ≤ length s) where
    are : (e + 2 ≤ b) × (pieces (drop from s) ≡ piece (part from e s) (part e b s) (pieces (drop b s)))
    are = pieces_more s from e h.inside first more b end

    -- the places stay numbers of the machine
    pub place_most : n + length (part e b s) ≤ b * (growth * growth)
    place_most =
        let before = h.most in
        let here = p.most in
        let size = part_length s from e behind (omega arith) in
        let break = part_length s e b (omega (arith, are.0)) inside in
        let wide = are.0 in
        omega arith

    pub drafting_more : (d'' : List ℕ) (at' : ℕ) → at' ≡ n + length (part e b s) → Laid d' d'' n (part e b s) → length d' ≡ length d → length d'' ≡ length d'
        → Drafting manner s store work b at' (k + 1) (refused + from_bool (get_or (set m k x) k false)) d'' (set m k x)
    unfolding shown_all paragraphs left_all marks
    drafting_more d'' at' place laid same same' =
        let rest = pieces (drop b s) in
        let wide = are.0 in
        let most = place_most in
        record {
          inside = inside;
          few = omega (arith, h.few);
          fewer = omega (arith, h.fewer, mark_counted, left_most manner (part from e s) store work);
          most = omega arith;
          done = (h.done ++ shown manner store work (part from e s)) ++ part e b s;
          whole = h.whole ∙ rw are.1 (regrouped h.done (shown manner store work (part from e s)) (part e b s) (shown_all manner store work rest));
          size = place ∙ rw size_next (sym (length-append (h.done ++ shown manner store work (part from e s)) (part e b s)));
          front = λ fits. laid_next d' d'' (part e b s) n at' place (omega arith) laid ∙ rw (front_next (omega arith));
          counted = h.counted ∙ rw are.1 (omega arith);
          kept = h.kept ∙ rw (are.1, mark_counted) (omega arith);
          marked = h.marked ∙ rw (are.1, marks_are, append_snoc (take k m) (is_left manner store work (part from e s)) (marks manner store work rest));
        }
