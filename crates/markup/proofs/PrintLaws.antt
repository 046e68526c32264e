-- Markup as the pieces that are put.
-- Assumes nothing.
use mathlib.Core.Path.{◌≡◌, refl}
use mathlib.Core.Bool.{true, false}
use mathlib.Core.List.{List, ◌++◌, append_assoc}
use Prim.Native.Nat.{ℕ}
use borrow.Author.Tests.{ne_eqb}
use Rattle.text.specs.Text.{bytes}
use Rattle.text.specs.declared.Dialect.{Dialect}
use Rattle.text.specs.Xml.{xml_escape, xml_text, in_text}
use Rattle.text.specs.Examples.{text_opens}
use Rattle.text.proofs.XmlLaws.{text_append}
use Rattle.attribute.specs.declared.Variant.{Variant}
use Rattle.attribute.specs.Names.{variant, is_italic}
use Rattle.markup.specs.Print.{variant_text, letter_markup, operator_markup, character, operator_text, parse_error}

regroup : (p q b r g c k : List ℕ) → p ++ (q ++ b ++ r) ++ g ++ c ++ k ≡ (p ++ q) ++ b ++ ((r ++ g) ++ c ++ k)
regroup p q b r g c k = simp append_assoc

-- a letter with its variant, of which `back` is what follows the character
pub variant_pieces : (d : Dialect) (c : ℕ) (v : Variant) (back : List ℕ)
    → bytes "<mi" ++ variant_text v ++ bytes ">" ++ character d c ++ back ≡ bytes "<mi mathvariant=\"" ++ bytes (variant v) ++ (bytes "\">" ++ character d c ++ back)
unfolding text_opens variant_text
variant_pieces d c v back = regroup (bytes "<mi") (bytes " mathvariant=\"") (bytes (variant v)) (bytes "\"") (bytes ">") (character d c) back

pub italic_letter : (d : Dialect) (c : ℕ) (v : Variant) → is_italic v ≡ true → letter_markup d c v ≡ bytes "<mi>" ++ character d c ++ bytes "</mi>"
unfolding text_opens letter_markup
italic_letter d c v e = rw (letter_markup, e)

pub other_letter : (d : Dialect) (c : ℕ) (v : Variant) → is_italic v ≡ false → letter_markup d c v ≡ bytes "<mi" ++ variant_text v ++ bytes ">" ++ character d c ++ bytes "</mi>"
unfolding letter_markup
other_letter d c v e = rw (letter_markup, e)

pub other_operator : (d : Dialect) (c : ℕ) → (c ≡ 8706 → ⊥) → operator_markup d c ≡ bytes "<mo>" ++ operator_text d c ++ bytes "</mo>"
unfolding operator_markup
other_operator d c other = rw (operator_markup, ne_eqb c 8706 other)

-- a sized parenthesis in two pieces and what is behind them
pub sized_pieces : (z t end : List ℕ)
    → bytes "<mrow><mo maxsize=\"" ++ z ++ bytes "\" minsize=\"" ++ z ++ bytes "\">" ++ t ++ end
    ≡ bytes "<mrow><mo maxsize=\"" ++ z ++ (bytes "\" minsize=\"" ++ z ++ (bytes "\">" ++ t ++ end))
sized_pieces z t end = simp append_assoc

around : (p q t r g : List ℕ) → p ++ (q ++ t ++ r) ++ g ≡ (p ++ q) ++ t ++ (r ++ g)
around p q t r g = simp append_assoc

-- the pieces of an error text hold nothing that is escaped
undefined_front : (d : Dialect) → in_text d (bytes "Undefined(\"") ≡ bytes "Undefined(\""
unfolding text_opens xml_escape xml_text in_text
undefined_front Dialect.Old = refl
undefined_front Dialect.Strict = refl

undefined_back : (d : Dialect) → in_text d (bytes "\")") ≡ bytes "\")"
unfolding text_opens xml_escape xml_text in_text
undefined_back Dialect.Old = refl
undefined_back Dialect.Strict = refl

-- the error text of a token in three pieces
pub undefined_pieces : (d : Dialect) (t : List ℕ)
    → parse_error d (bytes "Undefined(\"" ++ t ++ bytes "\")") ≡ bytes "<mtext>[PARSE ERROR: Undefined(\"" ++ in_text d t ++ bytes "\")]</mtext>"
unfolding text_opens parse_error
undefined_pieces d t =
    rw (text_append d (bytes "Undefined(\"" ++ t) (bytes "\")"), text_append d (bytes "Undefined(\"") t, undefined_front d, undefined_back d)
    (around (bytes "<mtext>[PARSE ERROR: ") (bytes "Undefined(\"") (in_text d t) (bytes "\")") (bytes "]</mtext>"))

-- the error texts of an ampersand and of a new line
pub error_ampersand : (d : Dialect) → parse_error d (bytes "Ampersand") ≡ bytes "<mtext>[PARSE ERROR: Ampersand]</mtext>"
unfolding text_opens xml_escape xml_text in_text parse_error
error_ampersand Dialect.Old = refl
error_ampersand Dialect.Strict = refl

pub error_new_line : (d : Dialect) → parse_error d (bytes "NewLine") ≡ bytes "<mtext>[PARSE ERROR: NewLine]</mtext>"
unfolding text_opens xml_escape xml_text in_text parse_error
error_new_line Dialect.Old = refl
error_new_line Dialect.Strict = refl
