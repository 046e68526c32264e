-- The paragraphs of a document are counted from break to break.
-- Assumes nothing.
use mathlib.Core.Path.{◌≡◌, refl, sym, ◌∙◌}
use mathlib.Core.List.{List}
use Prim.Native.Nat.{ℕ, ◌+◌, ◌-◌, ◌*◌, ◌≤◌, ◌<◌}
use native.Mathlib.Omega.{arith}
use lib.ListN.{length, drop}
use Rattle.dollars.specs.Places.{next_place}
use Rattle.dollars.proofs.PlaceLaws.{next_is}
use Rattle.breaks.specs.Breaks.{two_line_ends, no_line_end}
use Rattle.breaks.specs.Pieces.{pieces, paragraphs}
use Rattle.breaks.proofs.BreakLaws.{blank_behind, begins, one_there, end_past}
use Rattle.breaks.proofs.PieceLaws.{pieces_last, pieces_more}

-- of the document s the paragraph at `from` is the k-th, counted from 1
pub record Counting (s : List ℕ) (from k : ℕ) : Type 0 where
  pub inside : from ≤ length s
  pub few : 2 * k ≤ from + 2
  pub counted : paragraphs (pieces s) + 1 ≡ k + paragraphs (pieces (drop from s))

module _ {s : List ℕ} {from k : ℕ} (h : Counting s from k) (feed : ℕ) (first : feed ≡ next_place blank_behind from (drop from s)) where
  -- where the break begins
  abbrev e : ℕ
  e = next_place two_line_ends from (drop from s)

  pub counting_last : feed ≡ length s → k ≡ paragraphs (pieces s)
  unfolding paragraphs
  counting_last end =
      let none = begins s from feed h.inside first (λ i. i ≡ length s) end (λ some more two. absurd (omega arith)) in
      let last = rw (pieces_last s from e h.inside refl none) at h.counted in
      omega arith

  -- it ends where it ends from the line feed on
  same_end : feed < length s → (e < length s) × (next_place no_line_end e (drop e s) ≡ next_place no_line_end (feed + 1) (drop (feed + 1) s))
  same_end more =
      begins s from feed h.inside first (λ i. (i < length s) × (next_place no_line_end i (drop i s) ≡ next_place no_line_end (feed + 1) (drop (feed + 1) s)))
      (more, end_past s feed 1 (one_there s from feed h.inside first more))
      (λ some less two. let k : feed - 1 + 2 ≡ feed + 1 = omega arith in (omega arith, rw k at (end_past s (feed - 1) 2 (sym two))))

  pub counting_more : (b : ℕ) → feed < length s → b ≡ next_place no_line_end (feed + 1) (drop (feed + 1) s) → b ≤ length s → Counting s b (k + 1)
  unfolding paragraphs
  counting_more b more end inside =
      let same = same_end more in
      let are = pieces_more s from e h.inside refl same.0 b (end ∙ sym same.1) in
      let counted = rw are.1 at h.counted in
      let wide = are.0 in
      let few = h.few in
      let behind = (next_is two_line_ends s from h.inside).from in
      record { inside = inside; few = omega arith; counted = omega arith }
