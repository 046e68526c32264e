-- Worked examples, which antt computes.
-- Assumes nothing.
use Rattle.std.specs.Prelude.{◌≡◌, refl, true, false, [], ◌∷◌, map, ◌/◌}
use Rattle.text.specs.Utf8.{table, follow, goes_on, well_formed, begins, value, lead, code_point, encode}
use Rattle.text.specs.Text.{bytes}
use Rattle.text.specs.Put.{digits}
use Rattle.text.specs.Any.{any}
use Rattle.text.specs.Xml.{allows, forbidden, xml_escape, xml_text, in_text}
use Rattle.text.specs.declared.Dialect.{Dialect}

-- whoever unfolds this unfolds all definitions of this crate but those of Xml, as an example has to; the second does so for these
unfoldable pub text_opens : Unit {0}
unfolding table follow goes_on well_formed begins value lead code_point encode bytes digits any
text_opens = tt

unfoldable pub xml_opens : Unit {0}
unfolding allows forbidden xml_escape xml_text in_text
xml_opens = tt

-- the first and the last code point of each row, and a text of every width
accepted : map well_formed ([] ∷ bytes "a¢€😀\0\u{7f}\u{80}\u{7ff}\u{800}\u{fff}က\u{d7ff}\u{e000}\u{ffff}𐀀\u{10ffff}" ∷ []) ≡ true ∷ true ∷ []
unfolding text_opens
accepted = refl

-- a lone continuation, an overlong form of each width, a surrogate, a value past U+10FFFF, and a sequence cut short
refused : map well_formed
    ((0x80 ∷ [])
    ∷ (0xc1 ∷ 0xbf ∷ [])
    ∷ (0xe0 ∷ 0x9f ∷ 0xbf ∷ [])
    ∷ (0xf0 ∷ 0x8f ∷ 0xbf ∷ 0xbf ∷ [])
    ∷ (0xed ∷ 0xa0 ∷ 0x80 ∷ [])
    ∷ (0xf4 ∷ 0x90 ∷ 0x80 ∷ 0x80 ∷ [])
    ∷ (0x61 ∷ 0xe2 ∷ 0x82 ∷ [])
    ∷ [])
    ≡ false ∷ false ∷ false ∷ false ∷ false ∷ false ∷ false ∷ []
unfolding text_opens
refused = refl

-- the bytes of one code point of each width, and what is read from them
encoded : bytes "a¢€😀" ≡ 0x61 ∷ 0xc2 ∷ 0xa2 ∷ 0xe2 ∷ 0x82 ∷ 0xac ∷ 0xf0 ∷ 0x9f ∷ 0x98 ∷ 0x80 ∷ []
unfolding text_opens
encoded = refl

decoded : map code_point
    (bytes "a" ∷ bytes "¢b" ∷ bytes "€b" ∷ bytes "😀" ∷ [] ∷ (0x80 ∷ 0x80 ∷ []) ∷ (0xe2 ∷ 0x82 ∷ []) ∷ [])
    ≡ record { code = 0x61; width = 1 }
    ∷ record { code = 0xa2; width = 2 }
    ∷ record { code = 0x20ac; width = 3 }
    ∷ record { code = 0x1f600; width = 4 }
    ∷ record { code = 0; width = 0 }
    ∷ record { code = 0xfffd; width = 1 }
    ∷ record { code = 0xfffd; width = 1 }
    ∷ []
unfolding text_opens
decoded = refl

-- a word of three bytes with their number in the highest one: as many digits of it, from the lowest on
packed : digits (0x0300_0000_0069_6d6c / 0x100_0000_0000_0000) 0x0300_0000_0069_6d6c ≡ bytes "lmi"
unfolding text_opens
packed = refl

-- the ends of the ranges of production 2, and the characters beside them
allowed : map allows (0x9 ∷ 0xa ∷ 0xd ∷ 0x20 ∷ 0x7f ∷ 0xd7ff ∷ 0xe000 ∷ 0xfffd ∷ 0x10000 ∷ 0x10ffff ∷ [])
    ≡ true ∷ true ∷ true ∷ true ∷ true ∷ true ∷ true ∷ true ∷ true ∷ true ∷ []
unfolding xml_opens
allowed = refl

not_allowed : map allows (0x0 ∷ 0x8 ∷ 0xb ∷ 0xe ∷ 0x1f ∷ 0xd800 ∷ 0xdfff ∷ 0xfffe ∷ 0xffff ∷ 0x110000 ∷ [])
    ≡ false ∷ false ∷ false ∷ false ∷ false ∷ false ∷ false ∷ false ∷ false ∷ false ∷ []
unfolding xml_opens
not_allowed = refl

-- a forbidden character somewhere; a place inside an allowed one counts for nothing
forbids : map forbidden (bytes "a\tb€😀\u{7f}\u{85}" ∷ bytes "a\u{1}" ∷ bytes "€\u{fffe}b" ∷ []) ≡ false ∷ true ∷ true ∷ []
unfolding text_opens xml_opens
forbids = refl

escaped_text : map (λ d. in_text d (bytes "a<b & c>\"d\"")) (Dialect.Old ∷ Dialect.Strict ∷ [])
    ≡ bytes "a<b & c>\"d\"" ∷ bytes "a&lt;b &amp; c&gt;\"d\"" ∷ []
unfolding text_opens xml_opens
escaped_text = refl
