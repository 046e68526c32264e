-- The characters of XML 1.0, and a formula's text in a dialect.
-- Assumes nothing.
use Rattle.std.specs.Prelude.{◌≡◌, Bool, true, false, not, ◌&&◌, ◌||◌, List, [], ◌∷◌, ◌++◌, ℕ, eqb, leb, Option, Some, None}
use Rattle.std.specs.Borrow.{Bor}
use Prim.Native.Char.{code}
use Rattle.text.specs.Utf8.{code_point, encode}
use Rattle.text.specs.Text.{bytes}
use Rattle.text.specs.declared.Dialect.{Dialect}

-- a character that XML 1.0 allows: its production 2, Char
unfoldable pub allows : ℕ → Bool
allows c =
    eqb c 0x9 || eqb c 0xa || eqb c 0xd || leb 0x20 c && leb c 0xd7ff || leb 0xe000 c && leb c 0xfffd || leb 0x10000 c && leb c 0x10ffff

-- a character stands somewhere that XML 1.0 forbids; a place inside a character reads as U+FFFD, which it allows
unfoldable pub forbidden : List ℕ → Bool
forbidden [] = false
forbidden (b ∷ l) = not (allows (code_point (b ∷ l)).code) || forbidden l

-- the bytes of a text with what XML would read as markup written as references
unfoldable pub xml_escape : ℕ → List ℕ
xml_escape b =
    elim (eqb b (code "<")) [
      | true ↦ bytes "&lt;"
      | false ↦ elim (eqb b (code ">")) [ true ↦ bytes "&gt;" | false ↦ elim (eqb b (code "&")) [ true ↦ bytes "&amp;" | false ↦ b ∷ [] ] ]
    ]

unfoldable pub xml_text : List ℕ → List ℕ
xml_text [] = []
xml_text (b ∷ l) = xml_escape b ++ xml_text l

-- a formula's text as a dialect prints it: the old one escapes nothing
unfoldable pub in_text : Dialect → List ℕ → List ℕ
in_text Dialect.Old l = l
in_text Dialect.Strict l = xml_text l

-- the reference that a dialect prints for a character, or that the character stands as itself
abbrev pub Reference : Dialect → ℕ → Option (Bor (List ℕ)) → Type 0
Reference d c (Some text) = text.now ≡ in_text d (encode c)
Reference d c None = encode c ≡ in_text d (encode c)
