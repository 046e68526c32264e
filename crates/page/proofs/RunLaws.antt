-- A run for each document, lent sizes and output: the answer that says what the definition hands back.
-- Assumes nothing.
use mathlib.Core.Path.{◌≡◌, refl}
use mathlib.Core.List.{List}
use Prim.Native.Nat.{ℕ}
use lib.ListN.{length}
use Rattle.std.specs.Prelude.{Result, Ok, Err}
use Rattle.error.specs.declared.Refusal.{Refusal}
use Rattle.latex2mathml.specs.declared.Manner.{Manner}
use Rattle.latex2mathml.specs.Outcome.{Outcome, accepted, refused, number_of}
use Rattle.latex2mathml.specs.Written.{over}
use Rattle.page.specs.declared.Totals.{Totals}
use Rattle.page.specs.Page.{Paged, page, output_of, paragraphs_of, left_of}
use Rattle.page.specs.Run.{answer_number, answer_length, answer_paragraphs, answer_left}
use Rattle.page.specs.Words.{Run}

abbrev pub answering : Outcome Paged → Result Totals Refusal
answering (accepted p) = Ok (record { length = length p.output; paragraphs = p.paragraphs; left = p.left })
answering (refused r) = Err r

pub says_number : (want : Outcome Paged) → answer_number (answering want) ≡ number_of want
unfolding answer_number number_of
says_number (accepted p) = refl
says_number (refused r) = refl

pub says_length : (want : Outcome Paged) → answer_length (answering want) ≡ length (output_of want)
unfolding answer_length output_of
says_length (accepted p) = refl
says_length (refused r) = refl

pub says_paragraphs : (want : Outcome Paged) → answer_paragraphs (answering want) ≡ paragraphs_of want
unfolding answer_paragraphs paragraphs_of
says_paragraphs (accepted p) = refl
says_paragraphs (refused r) = refl

pub says_left : (want : Outcome Paged) → answer_left (answering want) ≡ left_of want
unfolding answer_left left_of
says_left (accepted p) = refl
says_left (refused r) = refl

abbrev pub ran : (manner : Manner) (document : List ℕ) (store work : ℕ) (entry exit : List ℕ) → exit ≡ over (output_of (page manner document store work (length entry))) entry → Run
ran manner document store work entry exit is =
    let want = page manner document store work (length entry) in
    record {
      manner = manner;
      document = document;
      store = store;
      work = work;
      entry = entry;
      answer = answering want;
      exit = exit;
      promise = record { number = says_number want; size = says_length want; paragraphs = says_paragraphs want; left = says_left want; output = is };
    }
