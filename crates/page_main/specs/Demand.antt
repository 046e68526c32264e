-- Demand 3 of the page program: of what it writes for one document and for any two.
-- Assumes nothing.
use Rattle.std.specs.Prelude.{◌≡◌, List, ℕ}
use Rattle.latex2mathml.specs.Manner.{old}
use Rattle.latex2mathml.specs.Outcome.{accepted}
use Rattle.page.specs.Page.{Paged, page}
use Rattle.page.specs.Words.{DifferInParagraph}
use Rattle.page.specs.Demand.{OneRun, TwoRuns}
use Rattle.page_main.specs.Program.{program}

-- the program does not refuse the document, and its page has these counts
abbrev pub Accepts : List ℕ → Paged → Type 0
Accepts document p = page old document 61440 65536 65536 ≡ accepted p

pub record DemandOfProgram : Type 0 where
  pub one_document : (document : List ℕ) (p : Paged) → Accepts document p → OneRun old document 61440 65536 (program document) p.paragraphs p.left
  pub two_documents : (a b : List ℕ) (m n : Paged) → Accepts a m → Accepts b n → {p q : List ℕ} (d : DifferInParagraph a b p q)
      → TwoRuns old a b 61440 65536 d (program a) (program b)
