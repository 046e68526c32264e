-- `page::page` meets its contract.
use mathlib.Core.Path.{refl}
use lib.ListN.{length}
use Rattle.page.proofs.PageLaws.{pages_long}
use Rattle.page.proofs.page.Goals as goal

pub returns-then-document-gt32768 : goal.returns-then-document-gt32768
returns-then-document-gt32768 c =
    (pages_long c.args.manner c.args.document.now (length c.args.store.now) (length c.args.work.now) c.args.out.now c.if-document-gt32768.true, refl, refl)
