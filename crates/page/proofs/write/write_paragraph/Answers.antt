-- `page::write::write_paragraph` meets its contract.
use mathlib.Core.Path.{sym, ◌∙◌}
use lib.ListN.{length}
use Rattle.page.proofs.ParagraphLaws.{fits_replaced, puts_replaced, shown_left}
use Rattle.page.proofs.write.write_paragraph.Goals as goal

pub put-requires : goal.put-requires
put-requires c =
    let a = c.args in
    rw (shown_left a.manner a.p.now (length a.store.now) (length a.work.now) (sym c.requires.0 ∙ c.if-typed.true)) at c.requires.1

pub returns-then-typed : goal.returns-then-typed
returns-then-typed c =
    let a = c.args in
    rw (shown_left a.manner a.p.now (length a.store.now) (length a.work.now) (sym c.requires.0 ∙ c.if-typed.true)) c.put.ensures

pub write_replacement-requires : goal.write_replacement-requires
write_replacement-requires c =
    let a = c.args in
    fits_replaced a.manner a.p.now (length a.store.now) (length a.work.now) a.out.now a.at (sym c.requires.0 ∙ c.if-typed.false) c.requires.1

pub returns-else-typed : goal.returns-else-typed
returns-else-typed c =
    let a = c.args in
    puts_replaced a.manner a.p.now (length a.store.now) (length a.work.now) a.out.now _ a.at c.write_replacement.result c.write_replacement.ensures
