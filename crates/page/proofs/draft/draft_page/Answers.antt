use mathlib.Core.Path.{◌∙◌}
use Rattle.page.proofs.DraftLaws.{drafting_last, drafting_more}
use Rattle.breaks.proofs.PieceLaws.{pieces_more}
use lib.ListN.{length-set}
use native.Mathlib.Omega.{arith}
use Rattle.page.proofs.draft.draft_page.Goals as goal

pub returns-then-e-document : goal.returns-then-e-document
returns-then-e-document c =
    let i = c.loop-manner.invariant in
    let b = c.next_break-e.ensures in
    let p = rw (i.0, i.1) at c.draft_paragraph-at.ensures in
    rw c.from-refused.ensures (drafting_last i.4 c.next_break-e.result c.draft_paragraph-at.result b.0 (omega arith) p c.if-e-document.true c.draft_paragraph-at.auto.draft)

pub loop-manner-smaller : goal.loop-manner-smaller
loop-manner-smaller c =
    let h = c.loop-manner.invariant.4 in
    let b = c.next_break-e.ensures in
    let d = c.break_end-from.ensures in
    let wide = (pieces_more c.args.document.now c.loop-manner.from c.next_break-e.result h.inside b.0 (omega arith) c.break_end-from.result d.0).0 in
    omega arith

pub loop-manner-preserved : goal.loop-manner-preserved
loop-manner-preserved c =
    let i = c.loop-manner.invariant in
    let b = c.next_break-e.ensures in
    let d = c.break_end-from.ensures in
    let p = rw (i.0, i.1) at c.draft_paragraph-at.ensures in
    let few = c.requires.1 in
    let q = c.draft_paragraph-at.auto in
    (q.store ∙ i.0, q.work ∙ i.1, c.lay-at.auto.out ∙ q.draft ∙ i.2, length-set _ _ _ ∙ i.3, rw c.from-refused.ensures (drafting_more i.4 c.next_break-e.result c.draft_paragraph-at.result b.0 (omega arith) p c.break_end-from.result b.1 (omega arith) d.0 d.2 c.lay-at.new.out c.lay-at.result c.lay-at.ensures.0 c.lay-at.ensures.1 q.draft c.lay-at.auto.out))
