-- `attribute::ColumnAlign::attribute` meets its contract.
use mathlib.Core.Path.{refl}
use Rattle.text.specs.Examples.{text_opens}
use Rattle.attribute.specs.Names.{column_align}
use Rattle.attribute.proofs.ColumnAlign.attribute.Goals as goal

pub returns-in-Center : goal.returns-in-Center
unfolding text_opens column_align
returns-in-Center c = rw c.in-Center.is refl

pub returns-in-Left : goal.returns-in-Left
unfolding text_opens column_align
returns-in-Left c = rw c.in-Left.is refl
