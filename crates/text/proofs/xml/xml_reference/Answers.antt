-- `text::xml::xml_reference` meets its contract.
use mathlib.Core.Path.{refl, sym}
use Rattle.text.specs.Xml.{xml_escape, xml_text, in_text}
use Rattle.text.specs.Examples.{text_opens}
use Rattle.text.proofs.XmlLaws.{other_same}
use Rattle.text.proofs.xml.xml_reference.Goals as goal

pub returns-in-38 : goal.returns-in-38
unfolding text_opens xml_escape xml_text in_text
returns-in-38 c = rw c.in-38.is refl

pub returns-in-60 : goal.returns-in-60
unfolding text_opens xml_escape xml_text in_text
returns-in-60 c = rw c.in-60.is refl

pub returns-in-62 : goal.returns-in-62
unfolding text_opens xml_escape xml_text in_text
returns-in-62 c = rw c.in-62.is refl

pub returns-in_default : goal.returns-in_default
unfolding in_text
returns-in_default c =
    let rest = c.in_default.in_default-own.rest in
    sym (other_same c.args.c rest.0.0.1 rest.0.1 rest.1)
