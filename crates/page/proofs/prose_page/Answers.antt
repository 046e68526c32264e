-- `page::prose_page` meets its contract.
use Rattle.page.proofs.ProseLaws.{prose_full, prose_paged}
use Rattle.page.proofs.prose_page.Goals as goal

pub returns-then-out-document : goal.returns-then-out-document
returns-then-out-document c =
    λ manner store work fits. prose_full c.args.document.now c.requires.0 c.requires.1 manner store work fits c.args.out.now c.if-out-document.true

pub returns : goal.returns
returns c =
    λ manner store work fits. prose_paged c.args.document.now c.requires.0 c.requires.1 manner store work fits c.args.out.now c.if-out-document.false c.count_paragraphs.result c.count_paragraphs.ensures c.put-n.ensures
