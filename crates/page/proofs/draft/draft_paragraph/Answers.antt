-- `page::draft::draft_paragraph` meets its contract.
use lib.ListN.{length}
use Rattle.page.proofs.ParagraphLaws.{drafted_replaced, drafted_typed}
use Rattle.page.proofs.draft.draft_paragraph.Goals as goal

pub returns-in-Ok : goal.returns-in-Ok
returns-in-Ok c =
    let a = c.args in
    let q = rw c.in-Ok.is at c.lay_replacement-answer.ensures in
    drafted_replaced a.manner a.p.now (length a.store.now) (length a.work.now) a.draft.now c.lay_replacement-answer.new.out a.at _ c.in-Ok.end (rw (c.is_err.ensures.value, c.in-Ok.is)) q.0 q.1

pub returns-in-Err : goal.returns-in-Err
returns-in-Err c =
    let a = c.args in
    let q = rw c.in-Err.is at c.lay_replacement-answer.ensures in
    drafted_typed a.manner a.p.now (length a.store.now) (length a.work.now) a.draft.now c.lay.new.out a.at _ c.in-Err.field-0 c.lay.result c.lay_replacement-answer.new.out (rw (c.is_err.ensures.value, c.in-Err.is)) q.0.0 q.0.1 c.lay_replacement-answer.auto.out c.lay.ensures.0 c.lay.ensures.1
