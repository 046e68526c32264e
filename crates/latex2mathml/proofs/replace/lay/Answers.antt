-- `latex2mathml::replace::lay` meets its contract.
use Rattle.latex2mathml.proofs.LayLaws.{laid_puts}
use native.Mathlib.Omega.{arith}
use Rattle.latex2mathml.proofs.replace.lay.Goals as goal

pub returns-else-out-end : goal.returns-else-out-end
returns-else-out-end c =
    let room = c.if-out-end.false in
    (c.put.ensures.place, laid_puts (omega arith) c.put.ensures)
