-- Demand 3 of the page program: what it writes for a document that it does not refuse is the output of a run with the sizes that it lends.
-- Assumes nothing.
use mathlib.Core.Path.{◌≡◌, refl, sym, ◌∙◌}
use mathlib.Core.List.{List}
use Prim.Native.Nat.{ℕ}
use lib.ListN.{length, drop, replicate, length-replicate}
use lib.Seq.{take_at}
use Rattle.std.specs.Prelude.{Ok}
use Rattle.latex2mathml.specs.Manner.{old}
use Rattle.latex2mathml.specs.Written.{over}
use Rattle.page.specs.declared.Totals.{Totals}
use Rattle.page.specs.Page.{Paged, page, output_of}
use Rattle.page.specs.Run.{answer_length}
use Rattle.page.specs.Words.{Run, output, DifferInParagraph}
use Rattle.page.specs.Demand.{OneRun, TwoRuns}
use Rattle.page.proofs.RunLaws.{ran}
use Rattle.page.proofs.DemandLaws.{demand3}
use Rattle.page_main.specs.Program.{program}
use Rattle.page_main.specs.Demand.{Accepts, DemandOfProgram}
use Rattle.page_main.proofs.ProgramLaws.{accepted_page}

-- the totals of a page
abbrev totals : Paged → Totals
totals p = record { length = length p.output; paragraphs = p.paragraphs; left = p.left }

-- over any output buffer of the program's size
module _ (o : List ℕ) (long : length o ≡ 65536) where
  abbrev run_of : List ℕ → Run
  run_of document = ran old document 61440 65536 o (over (output_of (page old document 61440 65536 (length o))) o) refl

  written : (document : List ℕ) (p : Paged) → Accepts document p → output (run_of document) ≡ program document
  unfolding output answer_length output_of over
  written document p is =
      rw (long, is) (take_at p.output (drop (length p.output) o) (length p.output) refl ∙ sym (accepted_page document p is))

  not_refused : (document : List ℕ) (p : Paged) → Accepts document p → (run_of document).answer ≡ Ok (totals p)
  not_refused document p is = rw (long, is)

  one_document_lem : (document : List ℕ) (p : Paged) → Accepts document p → OneRun old document 61440 65536 (program document) p.paragraphs p.left
  one_document_lem document p is =
      rw (← written document p is) (demand3.one_run (run_of document) (totals p) (not_refused document p is))

  two_documents_lem : (a b : List ℕ) (m n : Paged) → Accepts a m → Accepts b n → {p q : List ℕ} (d : DifferInParagraph a b p q)
      → TwoRuns old a b 61440 65536 d (program a) (program b)
  two_documents_lem a b m n e f d =
      rw (← written a m e, ← written b n f)
      (demand3.two_runs (run_of a) (run_of b)
      (totals m, not_refused a m e)
      (totals n, not_refused b n f)
      (record { manner = refl; store = refl; work = refl; room = refl })
      d)

pub demand_of_program : DemandOfProgram
demand_of_program =
    let o = replicate {A = ℕ} 65536 0 in
    let long = length-replicate {A = ℕ} 65536 0 in
    record { one_document = one_document_lem o long; two_documents = two_documents_lem o long }
