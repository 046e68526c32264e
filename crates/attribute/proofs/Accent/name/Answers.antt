-- `attribute::Accent::name` meets its contract.
use mathlib.Core.Path.{refl}
use Rattle.text.specs.Examples.{text_opens}
use Rattle.attribute.specs.Names.{accent}
use Rattle.attribute.proofs.Accent.name.Goals as goal

pub returns-in-True : goal.returns-in-True
unfolding text_opens accent
returns-in-True c = rw c.in-True.is refl

pub returns-in-False : goal.returns-in-False
unfolding text_opens accent
returns-in-False c = rw c.in-False.is refl
