-- `panel::latex_page_in` meets its contract.
use Rattle.panel.proofs.CallLaws.{page_accepts, page_refuses}
use Rattle.panel.proofs.latex_page_in.Goals as goal

pub returns-in-Ok : goal.returns-in-Ok
returns-in-Ok c =
    (page_accepts (rw c.manner_of-manner.ensures at c.in-Ok.ensures.0), c.page.ensures.1, c.page.ensures.2)

pub returns-in-Err : goal.returns-in-Err
returns-in-Err c =
    (page_refuses c.from.ensures (rw c.manner_of-manner.ensures at c.in-Err.ensures.0), c.page.ensures.1, c.page.ensures.2)
