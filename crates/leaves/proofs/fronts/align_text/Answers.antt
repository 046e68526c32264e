-- `leaves::fronts::align_text` meets its contract.
use Rattle.text.specs.Examples.{text_opens}
use Rattle.markup.specs.Print.{align_text}
use Rattle.leaves.proofs.fronts.align_text.Goals as goal

pub returns-in-Old : goal.returns-in-Old
unfolding align_text
returns-in-Old c = rw c.in-Old.is c.attribute.ensures

pub returns-in-Center : goal.returns-in-Center
unfolding text_opens align_text
returns-in-Center c = rw (c.in-Strict.is, c.in-Center.is)

pub returns-in-Left : goal.returns-in-Left
unfolding text_opens align_text
returns-in-Left c = rw (c.in-Strict.is, c.in-Left.is)
