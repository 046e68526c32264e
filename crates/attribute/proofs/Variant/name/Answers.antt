-- `attribute::Variant::name` meets its contract.
use mathlib.Core.Path.{refl}
use Rattle.text.specs.Examples.{text_opens}
use Rattle.attribute.specs.Names.{variant}
use Rattle.attribute.proofs.Variant.name.Goals as goal

pub returns-in-Normal : goal.returns-in-Normal
unfolding text_opens variant
returns-in-Normal c = rw c.in-Normal.is refl

pub returns-in-Italic : goal.returns-in-Italic
unfolding text_opens variant
returns-in-Italic c = rw c.in-Italic.is refl

pub returns-in-Bold : goal.returns-in-Bold
unfolding text_opens variant
returns-in-Bold c = rw c.in-Bold.is refl

pub returns-in-BoldItalic : goal.returns-in-BoldItalic
unfolding text_opens variant
returns-in-BoldItalic c = rw c.in-BoldItalic.is refl

pub returns-in-DoubleStruck : goal.returns-in-DoubleStruck
unfolding text_opens variant
returns-in-DoubleStruck c = rw c.in-DoubleStruck.is refl

pub returns-in-BoldFraktur : goal.returns-in-BoldFraktur
unfolding text_opens variant
returns-in-BoldFraktur c = rw c.in-BoldFraktur.is refl

pub returns-in-Script : goal.returns-in-Script
unfolding text_opens variant
returns-in-Script c = rw c.in-Script.is refl

pub returns-in-BoldScript : goal.returns-in-BoldScript
unfolding text_opens variant
returns-in-BoldScript c = rw c.in-BoldScript.is refl

pub returns-in-Fraktur : goal.returns-in-Fraktur
unfolding text_opens variant
returns-in-Fraktur c = rw c.in-Fraktur.is refl

pub returns-in-SansSerif : goal.returns-in-SansSerif
unfolding text_opens variant
returns-in-SansSerif c = rw c.in-SansSerif.is refl

pub returns-in-BoldSansSerif : goal.returns-in-BoldSansSerif
unfolding text_opens variant
returns-in-BoldSansSerif c = rw c.in-BoldSansSerif.is refl

pub returns-in-SansSerifItalic : goal.returns-in-SansSerifItalic
unfolding text_opens variant
returns-in-SansSerifItalic c = rw c.in-SansSerifItalic.is refl

pub returns-in-SansSerifBoldItalic : goal.returns-in-SansSerifBoldItalic
unfolding text_opens variant
returns-in-SansSerifBoldItalic c = rw c.in-SansSerifBoldItalic.is refl

pub returns-in-Monospace : goal.returns-in-Monospace
unfolding text_opens variant
returns-in-Monospace c = rw c.in-Monospace.is refl
