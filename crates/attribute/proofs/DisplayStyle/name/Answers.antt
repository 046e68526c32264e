-- `attribute::DisplayStyle::name` meets its contract.
use mathlib.Core.Path.{refl}
use Rattle.text.specs.Examples.{text_opens}
use Rattle.attribute.specs.Names.{display_style}
use Rattle.attribute.proofs.DisplayStyle.name.Goals as goal

pub returns-in-Block : goal.returns-in-Block
unfolding text_opens display_style
returns-in-Block c = rw c.in-Block.is refl

pub returns-in-Inline : goal.returns-in-Inline
unfolding text_opens display_style
returns-in-Inline c = rw c.in-Inline.is refl
