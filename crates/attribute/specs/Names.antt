-- What is printed for each attribute: `Display` of the Rust's attribute.rs, and of `DisplayStyle` in its lib.rs.
-- Assumes nothing.
use Rattle.std.specs.Prelude.{Bool, true, false}
use Prim.Native.String.{String}
use Rattle.attribute.specs.declared.Variant.{Variant}
use Rattle.attribute.specs.declared.Variant.TheVariants.{
  Normal,
  Italic,
  Bold,
  BoldItalic,
  DoubleStruck,
  BoldFraktur,
  Script,
  BoldScript,
  Fraktur,
  SansSerif,
  BoldSansSerif,
  SansSerifItalic,
  SansSerifBoldItalic,
  Monospace,
}
use Rattle.attribute.specs.declared.Accent.{Accent}
use Rattle.attribute.specs.declared.Accent.TheVariants.{True, False}
use Rattle.attribute.specs.declared.LineThickness.{LineThickness}
use Rattle.attribute.specs.declared.LineThickness.TheVariants.{Medium, Zero}
use Rattle.attribute.specs.declared.ColumnAlign.{ColumnAlign}
use Rattle.attribute.specs.declared.ColumnAlign.TheVariants.{Center, Left}
use Rattle.attribute.specs.declared.DisplayStyle.{DisplayStyle}
use Rattle.attribute.specs.declared.DisplayStyle.TheVariants.{Block, Inline}

unfoldable pub variant : Variant → String
variant Normal = "normal"
variant Italic = "italic"
variant Bold = "bold"
variant BoldItalic = "bold-italic"
variant DoubleStruck = "double-struck"
variant BoldFraktur = "bold-fraktur"
variant Script = "script"
variant BoldScript = "bold-script"
variant Fraktur = "fraktur"
variant SansSerif = "sans-serif"
variant BoldSansSerif = "bold-sans-serif"
variant SansSerifItalic = "sans-serif-italic"
variant SansSerifBoldItalic = "sans-serif-bold-italic"
variant Monospace = "monospace"

-- italic is the variant of a letter that needs no attribute
unfoldable pub is_italic : Variant → Bool
is_italic Normal = false
is_italic Italic = true
is_italic Bold = false
is_italic BoldItalic = false
is_italic DoubleStruck = false
is_italic BoldFraktur = false
is_italic Script = false
is_italic BoldScript = false
is_italic Fraktur = false
is_italic SansSerif = false
is_italic BoldSansSerif = false
is_italic SansSerifItalic = false
is_italic SansSerifBoldItalic = false
is_italic Monospace = false

unfoldable pub accent : Accent → String
accent True = "true"
accent False = "false"

unfoldable pub line_thickness : LineThickness → String
line_thickness Medium = ""
line_thickness Zero = " linethickness=\"0\""

-- left alignment has no quotes
unfoldable pub column_align : ColumnAlign → String
column_align Center = ""
column_align Left = " columnalign=left"

unfoldable pub display_style : DisplayStyle → String
display_style Block = "block"
display_style Inline = "inline"

-- whoever unfolds this unfolds all definitions of this crate, as an example has to
unfoldable pub attribute_opens : Unit {0}
unfolding variant is_italic accent line_thickness column_align display_style
attribute_opens = tt
