-- Demand 3 of the exported `latex_page_in` and `latex_page`: of one call and of any two in one dialect.
-- Assumes nothing.
use Rattle.std.specs.Prelude.{◌≡◌, List, ℕ, length}
use Rattle.page.specs.Words.{DifferInParagraph}
use Rattle.page.specs.Demand.{OneRun, TwoRuns}
use Rattle.panel.specs.Calls.{manner_of, Call, output_of_call}

-- a call that returns 0, and two such calls in one dialect with equal lent sizes
pub record DemandOfCalls : Type 0 where
  pub one_call : (a : Call) → a.number ≡ 0 → OneRun (manner_of a.strict) a.document a.store a.work (output_of_call a) a.paragraphs a.left
  pub two_calls : (a b : Call) → a.number ≡ 0 → b.number ≡ 0 → a.strict ≡ b.strict → a.store ≡ b.store → a.work ≡ b.work → length a.entry ≡ length b.entry
      → {p q : List ℕ} (d : DifferInParagraph a.document b.document p q)
      → TwoRuns (manner_of a.strict) a.document b.document a.store a.work d (output_of_call a) (output_of_call b)
