use mathlib.Core.Path.{refl, ◌∙◌}
use Rattle.page.proofs.WriteLaws.{writing_none, writing_mark, writing_room, writing_last, break_room, writing_more}
use Rattle.breaks.proofs.PieceLaws.{pieces_more}
use native.Mathlib.Omega.{arith}
use Rattle.page.proofs.write.write_page.Goals as goal

pub loop-manner-init : goal.loop-manner-init
loop-manner-init c = (refl, refl, refl, writing_none _ _ _ _ _ _ c.requires.0)

pub bounds-left-k : goal.bounds-left-k
bounds-left-k c =
    let i = c.loop-manner.invariant in
    let b = c.next_break-e.ensures in
    (writing_mark c.requires.1 i.3 c.next_break-e.result b.0 b.2).0

pub write_paragraph-at-requires : goal.write_paragraph-at-requires
write_paragraph-at-requires c =
    let i = c.loop-manner.invariant in
    let b = c.next_break-e.ensures in
    rw (i.0, i.1) ((writing_mark c.requires.1 i.3 c.next_break-e.result b.0 b.2).1, writing_room c.requires.1 i.3 c.next_break-e.result b.0 b.2)

pub returns-then-e-document : goal.returns-then-e-document
returns-then-e-document c =
    let i = c.loop-manner.invariant in
    let b = c.next_break-e.ensures in
    let p = rw (i.0, i.1) at c.write_paragraph-at.ensures in
    writing_last c.requires.1 i.3 c.next_break-e.result b.0 b.2 c.if-e-document.true p

pub put-at-requires : goal.put-at-requires
put-at-requires c =
    let i = c.loop-manner.invariant in
    let b = c.next_break-e.ensures in
    let d = c.break_end-from.ensures in
    let p = rw (i.0, i.1) at c.write_paragraph-at.ensures in
    break_room c.requires.1 i.3 c.next_break-e.result b.0 b.2 p c.break_end-from.result (omega arith) d.0

pub overflow_add-k : goal.overflow_add-k
overflow_add-k c =
    let i = c.loop-manner.invariant in
    let b = c.next_break-e.ensures in
    let mark = writing_mark c.requires.1 i.3 c.next_break-e.result b.0 b.2 in
    omega (arith, c.well_formed.1.1.1.1.1.0.0)

pub loop-manner-smaller : goal.loop-manner-smaller
loop-manner-smaller c =
    let h = c.loop-manner.invariant.3 in
    let b = c.next_break-e.ensures in
    let d = c.break_end-from.ensures in
    let wide = (pieces_more c.args.document.now c.loop-manner.from c.next_break-e.result h.inside b.0 (omega arith) c.break_end-from.result d.0).0 in
    omega arith

pub loop-manner-preserved : goal.loop-manner-preserved
loop-manner-preserved c =
    let i = c.loop-manner.invariant in
    let b = c.next_break-e.ensures in
    let d = c.break_end-from.ensures in
    let p = rw (i.0, i.1) at c.write_paragraph-at.ensures in
    let q = c.write_paragraph-at.auto in
    (q.store ∙ i.0, q.work ∙ i.1, c.put-at.auto.out ∙ q.out ∙ i.2, writing_more c.requires.1 i.3 c.next_break-e.result b.0 b.2 p c.break_end-from.result (omega arith) d.0 d.2 c.put-at.ensures)
