-- How readings compose, and the readings of quoted texts and of characters that are escaped.
-- Assumes nothing.
use mathlib.Core.Path.{◌≡◌, refl, sym, ap, ◌∙◌}
use mathlib.Core.Bool.{true, false, and-eq-true_iff}
use mathlib.Core.List.{List, [], ◌∷◌, ◌++◌, append_assoc, append-nil}
use Prim.Native.Nat.{ℕ, ◌≤◌, ◌<◌}
use Prim.Native.Char.{code}
use Prim.Native.String.{String}
use Prim.Native.String as S
use native.Mathlib.Omega.{arith}
use lib.Dec.{leb}
use borrow.Author.Tests.{leb-true, eqb-true, ne_eqb}
use Rattle.text.specs.Utf8.{encode}
use Rattle.text.specs.Text.{bytes}
use Rattle.text.specs.Xml.{allows, xml_escape, xml_text}
use Rattle.text.specs.Examples.{text_opens}
use Rattle.text.proofs.Cases.{by_test, by_order}
use Rattle.text.proofs.Tabled.{tab, each}
use Rattle.text.proofs.EncodeLaws.{encode_1}
use Rattle.text.proofs.Utf8Laws.{every}
use Rattle.text.proofs.XmlLaws.{xml_append, high_same}
use Rattle.lexer.specs.Lex.{is_digit}
use Rattle.lexer.specs.Letters.{encode_all}
use Rattle.lexer.proofs.CleanLaws.{Clean, numeral}
use Rattle.markup.specs.Nest.{characters, Tag, content, value, Reader, within, pick, move, read, read_all, Reads, nest_opens}

-- elements and text: inside an element the reader is where it was, with the same elements open
abbrev pub Nested : List ℕ → Type 0
Nested m = (o : List ℕ) (outer : List (List ℕ)) → Reads (within content (o ∷ outer)) m (within content (o ∷ outer))

-- .. and so for the text of an attribute's value
abbrev pub Quoted : List ℕ → Type 0
Quoted m = (t : Tag) (outer : List (List ℕ)) → Reads (within (value t) outer) m (within (value t) outer)

-- ---- one text behind another

read_append : (r : Reader) (l m : List ℕ) → read_all r (l ++ m) ≡ read_all (read_all r l) m
unfolding read_all
read_append r [] m = refl
read_append r (c ∷ l) m = read_append (read r c) l m

encode_append : (l m : List ℕ) → encode_all (l ++ m) ≡ encode_all l ++ encode_all m
unfolding encode_all
encode_append [] m = refl
encode_append (c ∷ l) m = rw (encode_append l m) (simp append_assoc)

infixl 40 ◌and◌
pub ◌and◌ : {r q p : Reader} {m n : List ℕ} → Reads r m q → Reads q n p → Reads r (m ++ n) p
◌and◌ {r} {q} {p} {m} {n} a b = record {
  cs = a.cs ++ b.cs;
  is = rw (a.is, b.is) (sym (encode_append a.cs b.cs));
  reads = read_append r a.cs b.cs ∙ rw a.reads b.reads;
}

-- the same bytes
pub same_bytes : {r q : Reader} {m n : List ℕ} → m ≡ n → Reads r n q → Reads r m q
same_bytes e a = record { cs = a.cs; is = e ∙ a.is; reads = a.reads }

-- ---- quoted texts

bytes_characters : (t : String) → bytes t ≡ encode_all (characters t)
unfolding bytes encode_all characters
bytes_characters S.[] = refl
bytes_characters (S.◌∷◌ c t) = ap (λ x. encode (code c) ++ x) (bytes_characters t)

pub fixed : (t : String) {r q : Reader} → read_all r (characters t) ≡ q → Reads r (bytes t) q
fixed t e = record { cs = characters t; is = bytes_characters t; reads = e }

pub clean_quoted : (t : String) → every allows (characters t) ≡ true → Clean (bytes t)
clean_quoted t h = record { cs = characters t; is = bytes_characters t; all = h }

-- a text by its number, where each of n texts leaves the reader where it is, and any other number has the empty text
pub listed : (f : ℕ → String) (n : ℕ) {r : Reader} → tab (λ i. read_all r (characters (f i))) n ≡ tab (λ i. r) n → ((t : ℕ) → n ≤ t → f t ≡ "")
    → (t : ℕ) → Reads r (bytes (f t)) r
unfolding characters read_all
listed f n {r} test past t =
    by_order t n
    (λ h. fixed (f t) (each (λ i. read_all r (characters (f i))) (λ i. r) n test t h))
    (λ h. fixed (f t) (rw (past t h)))

-- ---- characters

numeral_small : (b : ℕ) → numeral b ≡ true → b < 128
numeral_small b h =
    by_test (is_digit b)
    (λ e. let k = leb-true b 57 ((and-eq-true_iff (leb 48 b) (leb b 57)).0 e).1 in omega arith)
    (λ e. let k = eqb-true b 46 (rw e at h) in omega arith)

module _ (o : List ℕ) (outer : List (List ℕ)) where
  abbrev here : Reader
  here = within content (o ∷ outer)

  -- an escaped character of ASCII: it spells itself, and the reader stays where it is
  ascii_spelled : tab (λ i. xml_escape i ++ []) 128 ≡ tab (λ i. encode_all (xml_escape i)) 128
  unfolding text_opens xml_escape encode_all
  ascii_spelled = refl

  ascii_read : tab (λ i. elim (allows i) [ true ↦ read_all here (xml_escape i) | false ↦ here ]) 128 ≡ tab (λ i. here) 128
  unfolding text_opens xml_escape nest_opens
  ascii_read = refl

  high_read : (c : ℕ) → 128 ≤ c → allows c ≡ true → read_all here (c ∷ []) ≡ here
  unfolding read_all read move pick
  high_read c a h =
      rw (read, h, move, pick, ne_eqb c 60 (λ e. omega arith), pick, ne_eqb c 38 (λ e. omega arith), pick, ne_eqb c 62 (λ e. omega arith))

  -- a character that XML allows
  pub character_read : (c : ℕ) → allows c ≡ true → Reads here (xml_text (encode c)) here
  unfolding xml_text encode_all
  character_read c h =
      by_order c 128
      (λ a. record {
        cs = xml_escape c;
        is = ap xml_text (encode_1 c a) ∙ each (λ i. xml_escape i ++ []) (λ i. encode_all (xml_escape i)) 128 ascii_spelled c a;
        reads = rw h at (each (λ i. elim (allows i) [ true ↦ read_all here (xml_escape i) | false ↦ here ]) (λ i. here) 128 ascii_read c a);
      })
      (λ a. record { cs = c ∷ []; is = high_same c a ∙ sym (append-nil (encode c)); reads = high_read c a h })

  characters_read : (cs : List ℕ) → every allows cs ≡ true → Reads here (xml_text (encode_all cs)) here
  unfolding xml_text encode_all read_all
  characters_read [] h = record { cs = []; is = refl; reads = refl }
  characters_read (c ∷ cs) h =
      let k = (and-eq-true_iff (allows c) (every allows cs)).0 h in
      same_bytes (xml_append (encode c) (encode_all cs)) (character_read c k.0 and characters_read cs k.1)

  -- the bytes of a number
  numeral_test : tab (λ i. elim (numeral i) [ true ↦ read_all here (i ∷ []) | false ↦ here ]) 128 ≡ tab (λ i. here) 128
  unfolding nest_opens
  numeral_test = refl

  numeral_read : (b : ℕ) → numeral b ≡ true → Reads here (b ∷ []) here
  unfolding encode_all
  numeral_read b h =
      let small = numeral_small b h in
      record {
        cs = b ∷ [];
        is = rw (encode_1 b small);
        reads = rw h at (each (λ i. elim (numeral i) [ true ↦ read_all here (i ∷ []) | false ↦ here ]) (λ i. here) 128 numeral_test b small);
      }

  number_read : (l : List ℕ) → every numeral l ≡ true → Reads here l here
  unfolding encode_all read_all
  number_read [] h = record { cs = []; is = refl; reads = refl }
  number_read (b ∷ l) h =
      let k = (and-eq-true_iff (numeral b) (every numeral l)).0 h in
      numeral_read b k.0 and number_read l k.1

-- characters that XML allows, escaped
pub character_nested : (c : ℕ) → allows c ≡ true → Nested (xml_text (encode c))
character_nested c h o outer = character_read o outer c h

pub characters_nested : (cs : List ℕ) → every allows cs ≡ true → Nested (xml_text (encode_all cs))
characters_nested cs h o outer = characters_read o outer cs h

pub clean_nested : {l : List ℕ} → Clean l → Nested (xml_text l)
clean_nested a o outer = same_bytes (rw a.is) (characters_read o outer a.cs a.all)

pub number_nested : (l : List ℕ) → every numeral l ≡ true → Nested l
number_nested l h o outer = number_read o outer l h
