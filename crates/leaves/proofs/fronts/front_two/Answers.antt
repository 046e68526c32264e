-- `leaves::fronts::front_two` meets its contract.
use Rattle.text.specs.Examples.{text_opens}
use Rattle.attribute.specs.Names.{line_thickness}
use Rattle.markup.specs.Fronts.{front_two}
use Rattle.leaves.proofs.fronts.front_two.Goals as goal

pub returns-in-Frac-Medium : goal.returns-in-Frac-Medium
unfolding text_opens line_thickness front_two
returns-in-Frac-Medium c = rw (c.in-Frac-Medium.is, rw c.in-Frac-Medium.is at c.in-Frac-Medium.field-0-is)

pub returns-in-Frac-Zero : goal.returns-in-Frac-Zero
unfolding text_opens line_thickness front_two
returns-in-Frac-Zero c = rw (c.in-Frac-Zero.is, rw c.in-Frac-Zero.is at c.in-Frac-Zero.field-0-is)
