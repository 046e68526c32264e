-- `text::xml::reference` meets its contract.
use mathlib.Core.Path.{refl}
use Rattle.text.specs.Xml.{in_text}
use Rattle.text.proofs.xml.reference.Goals as goal

pub returns-in-Old : goal.returns-in-Old
unfolding in_text
returns-in-Old c = rw c.in-Old.is refl
