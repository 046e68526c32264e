-- A reader of XML 1.0, character by character, for a document that is one element with nothing before or behind it. What it takes is well-formed XML,
-- and the numbers in brackets are those of XML's productions; it does not take all of XML, but only what the printer needs.
-- Assumes nothing.
use Rattle.std.specs.Prelude.{◌≡◌, Bool, true, false, not, ◌&&◌, ◌||◌, List, [], ◌∷◌, ◌++◌, ℕ, eqb, leb}
use Prim.Native.Char.{code}
use Prim.Native.String.{String}
use Prim.Native.String as S
use Rattle.text.specs.Xml.{allows}
use Rattle.lexer.specs.Letters.{encode_all}

-- the characters of a quoted text
unfoldable pub characters : String → List ℕ
characters S.[] = []
characters (S.◌∷◌ c t) = code c ∷ characters t

-- ---- names

-- a character of a Name [5]: a small letter
unfoldable pub named : ℕ → Bool
named c = leb (code "a") c && leb c (code "z")

unfoldable pub same : List ℕ → List ℕ → Bool
same [] [] = true
same [] (d ∷ m) = false
same (c ∷ l) [] = false
same (c ∷ l) (d ∷ m) = eqb c d && same l m

unfoldable pub among : List ℕ → List (List ℕ) → Bool
among n [] = false
among n (m ∷ ms) = same n m || among n ms

-- what may stand between the `&` and the `;` of a Reference [67]: an entity that XML itself declares, or the number of U+0338
unfoldable pub known : List ℕ → Bool
known n = among n (characters "lt" ∷ characters "gt" ∷ characters "amp" ∷ characters "#x0338" ∷ [])

-- ---- where the reader is

-- an STag [40] or an EmptyElemTag [44] as far as it is read: the element's Name, and those of its attributes
pub record Tag : Type 0 where
  pub element : List ℕ
  pub attributes : List (List ℕ)

-- where the reader is inside the document
pub data Mode : Type 0 where
  content : Mode  -- in the content [43] of an element, where characters are CharData [14]
  reference : List ℕ → Mode  -- behind the `&` of a Reference [67]
  tag : Mode  -- behind the `<` of a tag
  name : List ℕ → Mode  -- in the Name of an STag or an EmptyElemTag
  blank : Tag → Mode  -- behind the S [3] before an Attribute [41]
  attribute : Tag → List ℕ → Mode  -- in its Name
  equals : Tag → Mode  -- behind its Eq [25]
  value : Tag → Mode  -- in its AttValue [10]
  valued : Tag → Mode  -- behind that
  slash : Tag → Mode  -- behind the `/` of an EmptyElemTag
  closing : List ℕ → Mode  -- in the Name of an ETag [42]

pub data Reader : Type 0 where
  begin : Reader  -- before the root element [39]
  within : Mode → List (List ℕ) → Reader  -- in it, with the names of the elements that are open, the innermost first
  done : List ℕ → Reader  -- behind it, with its name
  wrong : Reader  -- what was read is no beginning of a document

-- ---- how it moves

-- by the character, the first pair that has it, or else `other`
infix 70 ◌=>◌
abbrev pub ◌=>◌ : ℕ → Reader → ℕ × Reader
c => r = (c, r)

unfoldable pub pick : List (ℕ × Reader) → Reader → ℕ → Reader
pick [] other c = other
pick (p ∷ ps) other c = elim (eqb c p.0) [ true ↦ p.1 | false ↦ pick ps other c ]

unfoldable pub only : Bool → Reader → Reader
only true r = r
only false r = wrong

-- an element ends: the reader is in the content of the one around it, or behind the root
unfoldable pub ended : List ℕ → List (List ℕ) → Reader
ended n [] = done n
ended n (o ∷ outer) = within content (o ∷ outer)

-- the Name in an ETag is the one in the STag (XML's constraint Element Type Match)
unfoldable pub close : List ℕ → List (List ℕ) → Reader
close n [] = wrong
close n (o ∷ outer) = only (same n o) (ended o outer)

-- an attribute more: no Name stands twice in a tag (XML's constraint Unique Att Spec)
unfoldable pub more : List ℕ → Tag → List (List ℕ) → Reader
more a t outer = only (not (among a t.attributes)) (within (equals (record { element = t.element; attributes = a ∷ t.attributes })) outer)

-- what may follow the Name of a tag, or an AttValue
unfoldable pub follow : Tag → List (List ℕ) → List (ℕ × Reader)
follow t outer = code ">" => within content (t.element ∷ outer) ∷ code " " => within (blank t) outer ∷ code "/" => within (slash t) outer ∷ []

unfoldable pub move : Mode → List (List ℕ) → ℕ → Reader
move content outer c = pick (code "<" => within tag outer ∷ code "&" => within (reference []) outer ∷ code ">" => wrong ∷ []) (within content outer) c
move (reference n) outer c = pick (code ";" => only (known n) (within content outer) ∷ []) (within (reference (n ++ c ∷ [])) outer) c
move tag outer c = pick (code "/" => within (closing []) outer ∷ []) (only (named c) (within (name (c ∷ [])) outer)) c
move (name n) outer c = pick (follow (record { element = n; attributes = [] }) outer) (only (named c) (within (name (n ++ c ∷ [])) outer)) c
move (blank t) outer c = only (named c) (within (attribute t (c ∷ [])) outer)
move (attribute t a) outer c = pick (code "=" => more a t outer ∷ []) (only (named c) (within (attribute t (a ++ c ∷ [])) outer)) c
move (equals t) outer c = pick (code "\"" => within (value t) outer ∷ []) wrong c
move (value t) outer c = pick (code "\"" => within (valued t) outer ∷ code "<" => wrong ∷ code "&" => wrong ∷ []) (within (value t) outer) c
move (valued t) outer c = pick (follow t outer) wrong c
move (slash t) outer c = pick (code ">" => ended t.element outer ∷ []) wrong c
move (closing n) outer c = pick (code ">" => close n outer ∷ []) (only (named c) (within (closing (n ++ c ∷ [])) outer)) c

-- every character is a Char [2]
unfoldable pub read : Reader → ℕ → Reader
read begin c = pick (code "<" => within tag [] ∷ []) wrong c
read (within m outer) c = elim (allows c) [ true ↦ move m outer c | false ↦ wrong ]
read (done n) c = wrong
read wrong c = wrong

unfoldable pub read_all : Reader → List ℕ → Reader
read_all r [] = r
read_all r (c ∷ cs) = read_all (read r c) cs

-- the bytes m are characters in UTF-8 that take the reader from r to q
pub record Reads (r : Reader) (m : List ℕ) (q : Reader) : Type 0 where
  pub cs : List ℕ
  pub is : m ≡ encode_all cs
  pub reads : read_all r cs ≡ q

-- one element `math`, with nothing before or behind it
abbrev pub Document : List ℕ → Type 0
Document m = Reads begin m (done (characters "math"))

-- whoever unfolds this unfolds the definitions above, as an example has to
unfoldable pub nest_opens : Unit {0}
unfolding allows characters named same among known pick only ended close more follow move read read_all
nest_opens = tt
