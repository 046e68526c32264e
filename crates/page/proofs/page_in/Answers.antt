-- `page::page_in` meets its contract.
use mathlib.Core.Path.{◌∙◌}
use lib.ListN.{length}
use Rattle.page.proofs.PageLaws.{pages_full, pages_copied, pages_written}
use Rattle.page.proofs.page_in.Goals as goal

pub returns-then-out-n : goal.returns-then-out-n
returns-then-out-n c =
    (pages_full c.args.manner c.args.document.now (length c.args.store.now) (length c.args.work.now) c.args.out.now c.requires.0 c.draft_page-totals.ensures c.if-out-n.true, c.draft_page-totals.auto.store, c.draft_page-totals.auto.work)

pub returns-then-n-draft : goal.returns-then-n-draft
returns-then-n-draft c =
    (pages_copied c.args.manner c.args.document.now (length c.args.store.now) (length c.args.work.now) c.args.out.now c.requires.0 c.draft_page-totals.ensures c.if-out-n.false c.if-n-draft.true _ c.put.ensures, c.draft_page-totals.auto.store, c.draft_page-totals.auto.work)

pub returns : goal.returns
returns c =
    let q = c.draft_page-totals.auto in
    (pages_written c.args.manner c.args.document.now (length c.args.store.now) (length c.args.work.now) c.args.out.now c.requires.0 c.draft_page-totals.ensures c.if-out-n.false (rw (q.store, q.work) at c.write_page.ensures), c.write_page.auto.store ∙ c.draft_page-totals.auto.store, c.write_page.auto.work ∙ c.draft_page-totals.auto.work)
