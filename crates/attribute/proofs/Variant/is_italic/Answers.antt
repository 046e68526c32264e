-- `attribute::Variant::is_italic` meets its contract: the variants are compared by their places among the enum's.
use mathlib.Core.Path.{◌≡◌, refl, ◌∙◌}
use denote.Enum.Bare.{sameb}
use Rattle.attribute.specs.declared.Variant.{Variant}
use Rattle.attribute.specs.declared.Variant.TheVariants.{Normal, Italic, Bold, BoldItalic, DoubleStruck, BoldFraktur, Script, BoldScript, Fraktur, SansSerif, BoldSansSerif, SansSerifItalic, SansSerifBoldItalic, Monospace}
use Rattle.attribute.specs.Names.{is_italic}
use Rattle.attribute.specs.contracts.Variant.{the_type}
use Rattle.attribute.proofs.Variant.is_italic.Goals as goal

compared : (v : Variant) → sameb the_type v Italic ≡ is_italic v
unfolding is_italic
compared Normal = refl
compared Italic = refl
compared Bold = refl
compared BoldItalic = refl
compared DoubleStruck = refl
compared BoldFraktur = refl
compared Script = refl
compared BoldScript = refl
compared Fraktur = refl
compared SansSerif = refl
compared BoldSansSerif = refl
compared SansSerifItalic = refl
compared SansSerifBoldItalic = refl
compared Monospace = refl

pub returns : goal.returns
returns c = c.eq.ensures ∙ compared c.args.self
