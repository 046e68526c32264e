-- A number for each attribute, as a record holds it, and the attribute of a number.
-- Assumes nothing.
use Rattle.std.specs.Prelude.{List, [], ◌∷◌, ℕ, get_or}
use Rattle.attribute.specs.declared.Variant.{Variant}
use Rattle.attribute.specs.declared.Accent.{Accent}
use Rattle.attribute.specs.declared.LineThickness.{LineThickness}
use Rattle.attribute.specs.declared.ColumnAlign.{ColumnAlign}
use Rattle.attribute.specs.declared.DisplayStyle.{DisplayStyle}

abbrev pub variant_code : Variant → ℕ
variant_code Variant.Normal = 0
variant_code Variant.Italic = 1
variant_code Variant.Bold = 2
variant_code Variant.BoldItalic = 3
variant_code Variant.DoubleStruck = 4
variant_code Variant.BoldFraktur = 5
variant_code Variant.Script = 6
variant_code Variant.BoldScript = 7
variant_code Variant.Fraktur = 8
variant_code Variant.SansSerif = 9
variant_code Variant.BoldSansSerif = 10
variant_code Variant.SansSerifItalic = 11
variant_code Variant.SansSerifBoldItalic = 12
variant_code Variant.Monospace = 13

unfoldable pub variants : List Variant
variants =
    Variant.Normal ∷
    Variant.Italic ∷
    Variant.Bold ∷
    Variant.BoldItalic ∷
    Variant.DoubleStruck ∷
    Variant.BoldFraktur ∷
    Variant.Script ∷
    Variant.BoldScript ∷
    Variant.Fraktur ∷
    Variant.SansSerif ∷
    Variant.BoldSansSerif ∷
    Variant.SansSerifItalic ∷
    Variant.SansSerifBoldItalic ∷
    []

unfoldable pub variant_of : ℕ → Variant
variant_of n = get_or variants n Variant.Monospace

abbrev pub accent_code : Accent → ℕ
accent_code Accent.True = 0
accent_code Accent.False = 1

unfoldable pub accent_of : ℕ → Accent
accent_of n = get_or (Accent.True ∷ []) n Accent.False

abbrev pub thickness_code : LineThickness → ℕ
thickness_code LineThickness.Medium = 0
thickness_code LineThickness.Zero = 1

unfoldable pub thickness_of : ℕ → LineThickness
thickness_of n = get_or (LineThickness.Medium ∷ []) n LineThickness.Zero

abbrev pub align_code : ColumnAlign → ℕ
align_code ColumnAlign.Center = 0
align_code ColumnAlign.Left = 1

unfoldable pub align_of : ℕ → ColumnAlign
align_of n = get_or (ColumnAlign.Center ∷ []) n ColumnAlign.Left

abbrev pub display_code : DisplayStyle → ℕ
display_code DisplayStyle.Block = 0
display_code DisplayStyle.Inline = 1

unfoldable pub display_of : ℕ → DisplayStyle
display_of n = get_or (DisplayStyle.Block ∷ []) n DisplayStyle.Inline
