-- The attribute of an attribute's number is the attribute.
-- Assumes nothing.
use mathlib.Core.Path.{◌≡◌, refl}
use Rattle.attribute.specs.declared.Variant.{Variant}
use Rattle.attribute.specs.declared.Accent.{Accent}
use Rattle.attribute.specs.declared.LineThickness.{LineThickness}
use Rattle.attribute.specs.declared.ColumnAlign.{ColumnAlign}
use Rattle.attribute.specs.declared.DisplayStyle.{DisplayStyle}
use Rattle.attribute.specs.Codes.{variant_code, variants, variant_of, accent_code, accent_of, thickness_code, thickness_of, align_code, align_of, display_code, display_of}

pub variant_back : (v : Variant) → variant_of (variant_code v) ≡ v
unfolding variant_of variants
variant_back Variant.Normal = refl
variant_back Variant.Italic = refl
variant_back Variant.Bold = refl
variant_back Variant.BoldItalic = refl
variant_back Variant.DoubleStruck = refl
variant_back Variant.BoldFraktur = refl
variant_back Variant.Script = refl
variant_back Variant.BoldScript = refl
variant_back Variant.Fraktur = refl
variant_back Variant.SansSerif = refl
variant_back Variant.BoldSansSerif = refl
variant_back Variant.SansSerifItalic = refl
variant_back Variant.SansSerifBoldItalic = refl
variant_back Variant.Monospace = refl

pub accent_back : (v : Accent) → accent_of (accent_code v) ≡ v
unfolding accent_of
accent_back Accent.True = refl
accent_back Accent.False = refl

pub thickness_back : (v : LineThickness) → thickness_of (thickness_code v) ≡ v
unfolding thickness_of
thickness_back LineThickness.Medium = refl
thickness_back LineThickness.Zero = refl

pub align_back : (v : ColumnAlign) → align_of (align_code v) ≡ v
unfolding align_of
align_back ColumnAlign.Center = refl
align_back ColumnAlign.Left = refl

pub display_back : (v : DisplayStyle) → display_of (display_code v) ≡ v
unfolding display_of
display_back DisplayStyle.Block = refl
display_back DisplayStyle.Inline = refl
