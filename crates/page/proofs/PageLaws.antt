-- The page operation's answer, by what was measured.
-- Assumes nothing.
use mathlib.Core.Path.{◌≡◌}
use mathlib.Core.Bool.{Bool}
use mathlib.Core.List.{List}
use Prim.Native.Nat.{ℕ, ◌≤◌, ◌<◌}
use native.Mathlib.Omega.{arith}
use lib.ListN.{length, take}
use borrow.Author.Tests.{lt-ltb, le-ltb}
use Rattle.std.specs.Prelude.{Ok, Err}
use Rattle.text.specs.Put.{PutsAt}
use Rattle.text.proofs.PutLaws.{puts_all}
use Rattle.error.specs.declared.Refusal.{Refusal}
use Rattle.latex2mathml.specs.declared.Manner.{Manner}
use Rattle.latex2mathml.specs.Outcome.{accepted, refused, ◌>>=◌, refuse, document_limit, number_of}
use Rattle.latex2mathml.specs.Written.{over}
use Rattle.page.specs.declared.Totals.{Totals}
use Rattle.breaks.specs.Pieces.{pieces, paragraphs}
use Rattle.page.specs.Page.{shown_all, left_all, page, output_of, paragraphs_of, left_of}
use Rattle.page.specs.Run.{answer_number, answer_length, answer_paragraphs, answer_left, Pages}
use Rattle.page.specs.Marks.{Totalled}

-- a refused page leaves the output as it was
pub pages_refused : (manner : Manner) (document : List ℕ) (store work : ℕ) (r : Refusal) (o : List ℕ) → page manner document store work (length o) ≡ refused r
    → Pages manner document store work (Err r) o o
unfolding answer_number answer_length answer_paragraphs answer_left number_of output_of paragraphs_of left_of over
pages_refused manner document store work r o e = record { number = rw e; size = rw e; paragraphs = rw e; left = rw e; output = rw e }

module _ (manner : Manner) (document : List ℕ) (store work : ℕ) (o : List ℕ) where
  pub pages_long : 32768 < length document → Pages manner document store work (Err Refusal.TooLong) o o
  unfolding page document_limit ◌>>=◌ refuse
  pages_long h = pages_refused manner document store work Refusal.TooLong o (rw (page, lt-ltb 32768 (length document) h))

  module _ {d : List ℕ} {m : List Bool} {t : Totals} (few : length document ≤ 32768) (h : Totalled manner document store work d m t) where
    pub pages_full : length o < t.length → Pages manner document store work (Err Refusal.OutputTooSmall) o o
    unfolding page document_limit ◌>>=◌ refuse
    pages_full full =
        let over-long = lt-ltb (length o) (length (shown_all manner store work (pieces document))) (omega (arith, h.long)) in
        pages_refused manner document store work Refusal.OutputTooSmall o (rw (page, le-ltb 32768 (length document) few, over-long))

    accepts : t.length ≤ length o
        → page manner document store work (length o)
        ≡ accepted (record {
          output = shown_all manner store work (pieces document);
          paragraphs = paragraphs (pieces document);
          left = left_all manner store work (pieces document);
        })
    unfolding page document_limit ◌>>=◌ refuse
    accepts room =
        rw (page, le-ltb 32768 (length document) few, le-ltb (length o) (length (shown_all manner store work (pieces document))) (omega (arith, h.long)))

    pub pages_written : t.length ≤ length o → {o' : List ℕ} {r : ℕ} → PutsAt o o' 0 (shown_all manner store work (pieces document)) r
        → Pages manner document store work (Ok t) o o'
    unfolding answer_number answer_length answer_paragraphs answer_left number_of output_of paragraphs_of left_of over
    pages_written room puts = record {
      number = rw (accepts room);
      size = rw (accepts room) h.long;
      paragraphs = rw (accepts room) h.counted;
      left = rw (accepts room) h.kept;
      output = rw (accepts room) (puts_all puts);
    }

    -- a page that fits into the draft is its front
    module _ (room : t.length ≤ length o) (fits : t.length ≤ length d) where
      pub pages_copied : (o' : List ℕ) {r : ℕ} → PutsAt o o' 0 (take t.length d) r → Pages manner document store work (Ok t) o o'
      pages_copied o' puts = pages_written room (rw (h.front fits) at puts)
