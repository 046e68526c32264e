-- A page of prose is the prose, and no paragraph of it is left.
-- Assumes nothing.
use mathlib.Core.Path.{◌≡◌, sym, ◌∙◌}
use mathlib.Core.Bool.{true, not, and-eq-true_iff}
use mathlib.Core.List.{List, ◌++◌}
use Prim.Native.Nat.{ℕ, ◌≤◌, ◌<◌}
use native.Mathlib.Omega.{arith}
use lib.ListN.{length, length-append}
use borrow.Author.Tests.{lt-ltb, le-ltb, not-true}
use Rattle.std.specs.Prelude.{Ok, Err}
use Rattle.text.specs.Any.{any}
use Rattle.text.specs.Plain.{plain}
use Rattle.text.specs.Put.{PutsAt}
use Rattle.text.proofs.AnyLaws.{none_sides}
use Rattle.text.proofs.PlainLaws.{plain_append}
use Rattle.text.proofs.PutLaws.{puts_all}
use Rattle.error.specs.declared.Refusal.{Refusal}
use Rattle.latex2mathml.specs.declared.Manner.{Manner}
use Rattle.latex2mathml.specs.Outcome.{accepted, ◌>>=◌, refuse, document_limit, number_of}
use Rattle.dollars.specs.Dollars.{unusual, is_prose}
use Rattle.latex2mathml.specs.Written.{over}
use Rattle.latex2mathml.proofs.ProseLaws.{prose_typed}
use Rattle.breaks.specs.Pieces.{Pieces, last, piece, pieces, paragraphs}
use Rattle.breaks.specs.Cut.{typed_all}
use Rattle.page.specs.Page.{shown_all, left_all, page, output_of, paragraphs_of, left_of}
use Rattle.page.specs.Run.{answer_number, answer_length, answer_paragraphs, answer_left, Pages}
use Rattle.breaks.proofs.CutLaws.{cut_joins}
use Rattle.page.proofs.ParagraphLaws.{shown_replaced, left_replaced}
use Rattle.page.proofs.PageLaws.{pages_refused}

-- both sides of prose are prose
prose_both : (l m : List ℕ) → is_prose (l ++ m) ≡ true → (is_prose l ≡ true) × (is_prose m ≡ true)
unfolding is_prose
prose_both l m h =
    let sides = (and-eq-true_iff (not (any unusual (l ++ m))) (plain (l ++ m))).0 h in
    let low = none_sides unusual l m (not-true (any unusual (l ++ m)) sides.0) in
    let bare = (and-eq-true_iff (plain l) (plain m)).0 (sym (plain_append l m) ∙ sides.1) in
    (rw (is_prose, low.0, bare.0), rw (is_prose, low.1, bare.1))

module _ (manner : Manner) (store work : ℕ) where
  -- every paragraph comes out as typed
  typed : (ps : Pieces) → is_prose (typed_all ps) ≡ true → length (typed_all ps) ≤ 32768 → length (typed_all ps) ≤ work
      → (shown_all manner store work ps ≡ typed_all ps) × (left_all manner store work ps ≡ 0)
  unfolding typed_all shown_all left_all
  typed (last p) prose short fits =
      let e = prose_typed manner p store work prose short fits in
      (shown_replaced manner p store work p e, left_replaced manner p store work p e)
  typed (piece p b rest) prose short fits =
      let front = prose_both (p ++ b) (typed_all rest) prose in
      let size = length-append (p ++ b) (typed_all rest) in
      let size' = length-append p b in
      let e = prose_typed manner p store work (prose_both p b front.0).0 (omega arith) (omega arith) in
      let r = typed rest front.1 (omega arith) (omega arith) in
      (rw (shown_replaced manner p store work p e, r.0), rw (left_replaced manner p store work p e, r.1))

-- The page operation on prose.
module _ (d : List ℕ) (prose : is_prose d ≡ true) (short : length d ≤ 32768) (manner : Manner) (store work : ℕ) (fits : length d ≤ work) (o : List ℕ) where
  as_typed : (shown_all manner store work (pieces d) ≡ d) × (left_all manner store work (pieces d) ≡ 0)
  as_typed =
      let whole = cut_joins d in
      let t = typed manner store work (pieces d) (rw whole prose) (rw whole short) (rw whole fits) in
      (t.0 ∙ whole, t.1)

  pub prose_full : length o < length d → Pages manner d store work (Err Refusal.OutputTooSmall) o o
  unfolding page document_limit ◌>>=◌ refuse
  prose_full l =
      pages_refused manner d store work Refusal.OutputTooSmall o (rw (page, le-ltb 32768 (length d) short, as_typed.0, lt-ltb (length o) (length d) l))

  accepts : length d ≤ length o
      → page manner d store work (length o) ≡ accepted (record { output = d; paragraphs = paragraphs (pieces d); left = 0 })
  unfolding page document_limit ◌>>=◌ refuse
  accepts l = rw (page, le-ltb 32768 (length d) short, as_typed.0, as_typed.1, le-ltb (length o) (length d) l)

  pub prose_paged : length d ≤ length o → (k : ℕ) → k ≡ paragraphs (pieces d) → {o' : List ℕ} {n : ℕ} → PutsAt o o' 0 d n
      → Pages manner d store work (Ok (record { length = n; paragraphs = k; left = 0 })) o o'
  unfolding answer_number answer_length answer_paragraphs answer_left number_of output_of paragraphs_of left_of over
  prose_paged l k counted {o'} {n} p =
      let place = p.place in
      let long : n ≡ length d = omega arith in
      record {
        number = rw (accepts l);
        size = rw (accepts l) long;
        paragraphs = rw (accepts l) counted;
        left = rw (accepts l);
        output = rw (accepts l) (puts_all p);
      }
