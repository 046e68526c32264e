-- What is printed for an attribute has no dollar.
-- Assumes nothing.
use mathlib.Core.Path.{◌≡◌, refl}
use mathlib.Core.Bool.{true}
use Rattle.text.proofs.PlainLaws.{text_plain}
use Rattle.attribute.specs.declared.Variant.{Variant}
use Rattle.attribute.specs.declared.Variant.TheVariants.{Normal, Italic, Bold, BoldItalic, DoubleStruck, BoldFraktur, Script, BoldScript, Fraktur, SansSerif, BoldSansSerif, SansSerifItalic, SansSerifBoldItalic, Monospace}
use Rattle.attribute.specs.declared.Accent.{Accent}
use Rattle.attribute.specs.declared.Accent.TheVariants.{True, False}
use Rattle.attribute.specs.declared.LineThickness.{LineThickness}
use Rattle.attribute.specs.declared.LineThickness.TheVariants.{Medium, Zero}
use Rattle.attribute.specs.declared.ColumnAlign.{ColumnAlign}
use Rattle.attribute.specs.declared.ColumnAlign.TheVariants.{Center, Left}
use Rattle.attribute.specs.declared.DisplayStyle.{DisplayStyle}
use Rattle.attribute.specs.declared.DisplayStyle.TheVariants.{Block, Inline}
use Rattle.attribute.specs.Names.{variant, accent, line_thickness, column_align, display_style}

pub variant_plain : (v : Variant) → text_plain (variant v) ≡ true
unfolding variant
variant_plain Normal = refl
variant_plain Italic = refl
variant_plain Bold = refl
variant_plain BoldItalic = refl
variant_plain DoubleStruck = refl
variant_plain BoldFraktur = refl
variant_plain Script = refl
variant_plain BoldScript = refl
variant_plain Fraktur = refl
variant_plain SansSerif = refl
variant_plain BoldSansSerif = refl
variant_plain SansSerifItalic = refl
variant_plain SansSerifBoldItalic = refl
variant_plain Monospace = refl

pub accent_plain : (acc : Accent) → text_plain (accent acc) ≡ true
unfolding accent
accent_plain True = refl
accent_plain False = refl

pub line_plain : (lt : LineThickness) → text_plain (line_thickness lt) ≡ true
unfolding line_thickness
line_plain Medium = refl
line_plain Zero = refl

pub align_plain : (align : ColumnAlign) → text_plain (column_align align) ≡ true
unfolding column_align
align_plain Center = refl
align_plain Left = refl

pub display_plain : (display : DisplayStyle) → text_plain (display_style display) ≡ true
unfolding display_style
display_plain Block = refl
display_plain Inline = refl
