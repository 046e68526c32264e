-- `attribute::LineThickness::attribute` meets its contract.
use mathlib.Core.Path.{refl}
use Rattle.text.specs.Examples.{text_opens}
use Rattle.attribute.specs.Names.{line_thickness}
use Rattle.attribute.proofs.LineThickness.attribute.Goals as goal

pub returns-in-Medium : goal.returns-in-Medium
unfolding text_opens line_thickness
returns-in-Medium c = rw c.in-Medium.is refl

pub returns-in-Zero : goal.returns-in-Zero
unfolding text_opens line_thickness
returns-in-Zero c = rw c.in-Zero.is refl
