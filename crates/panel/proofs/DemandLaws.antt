-- Demand 3 of calls of the exported `latex_page_in` and `latex_page`: each is a run of the page operation.
-- Assumes nothing.
use mathlib.Core.Path.{◌≡◌, sym, ap, ◌∙◌}
use mathlib.Core.List.{List}
use Prim.Native.Nat.{ℕ}
use native.Mathlib.Omega.{arith}
use lib.ListN.{length, take}
use Rattle.std.specs.Prelude.{Ok}
use Rattle.latex2mathml.specs.Outcome.{Outcome, accepted, refused, number_of}
use Rattle.latex2mathml.proofs.OutcomeLaws.{number_range}
use Rattle.page.specs.declared.Totals.{Totals}
use Rattle.page.specs.Page.{Paged, page, output_of, paragraphs_of, left_of}
use Rattle.page.specs.Words.{Run, output, DifferInParagraph}
use Rattle.page.specs.Demand.{OneRun, TwoRuns}
use Rattle.page.proofs.RunLaws.{answering, says_length, ran}
use Rattle.page.proofs.DemandLaws.{demand3}
use Rattle.panel.specs.Calls.{manner_of, PageCall, Call, output_of_call}
use Rattle.panel.specs.Demand.{DemandOfCalls}

-- the run that a call is, with the same output
abbrev run_of : Call → Run
run_of call = ran (manner_of call.strict) call.document call.store call.work call.entry call.exit call.promise.output

same_output : (call : Call) → output (run_of call) ≡ output_of_call call
unfolding output output_of_call
same_output call =
    let want = page (manner_of call.strict) call.document call.store call.work (length call.entry) in
    ap (λ n. take n call.exit) (says_length want ∙ sym call.promise.size)

-- the totals that a call writes
abbrev totals : ℕ → ℕ → ℕ → Totals
totals l p q = record { length = l; paragraphs = p; left = q }

-- a call that returns 0 is a run that is not refused
not_refused : (want : Outcome Paged) {n l p q : ℕ} {o o' : List ℕ} → PageCall want n l p q o o' → n ≡ 0 → answering want ≡ Ok (totals l p q)
unfolding number_of output_of paragraphs_of left_of
not_refused (accepted page) c e = rw (c.size, c.paragraphs, c.left)
not_refused (refused r) c e = let n = c.number in absurd (omega (arith, number_range r))

one_call_lem : (a : Call) → a.number ≡ 0 → OneRun (manner_of a.strict) a.document a.store a.work (output_of_call a) a.paragraphs a.left
one_call_lem a e = rw (← same_output a) (demand3.one_run (run_of a) (totals a.size a.paragraphs a.left) (not_refused _ a.promise e))

two_calls_lem : (a b : Call) → a.number ≡ 0 → b.number ≡ 0 → a.strict ≡ b.strict → a.store ≡ b.store → a.work ≡ b.work → length a.entry ≡ length b.entry
    → {p q : List ℕ} (d : DifferInParagraph a.document b.document p q)
    → TwoRuns (manner_of a.strict) a.document b.document a.store a.work d (output_of_call a) (output_of_call b)
two_calls_lem a b e f strict store work room d =
    rw (← same_output a, ← same_output b)
    (demand3.two_runs (run_of a) (run_of b)
    (totals a.size a.paragraphs a.left, not_refused _ a.promise e)
    (totals b.size b.paragraphs b.left, not_refused _ b.promise f)
    (record { manner = ap manner_of strict; store = store; work = work; room = room })
    d)

pub demand_of_calls : DemandOfCalls
demand_of_calls = record { one_call = one_call_lem; two_calls = two_calls_lem }
