-- The markup is short: a node takes no more bytes than a number that the length of the body gives.
-- Assumes nothing.
use mathlib.Core.Path.{◌≡◌, refl}
use mathlib.Core.Bool.{true}
use mathlib.Core.List.{List, [], ◌∷◌}
use mathlib.Core.Option.{none, some}
use Prim.Native.Nat.{ℕ, zero, suc, ◌+◌, ◌*◌, ◌≤◌, max, zero-le}
use Prim.Native.String.{String}
use native.Mathlib.Nat.{mul-le-mul_right}
use native.Mathlib.Omega.{arith}
use lib.Dec.{ltb, eqb}
use borrow.Author.Tests.{ltb-true}
use lib.ListN.{length, get_or, drop, length-append, length-take, length-drop}
use Rattle.text.specs.Utf8.{encode}
use Rattle.text.specs.Text.{bytes, part}
use Rattle.text.specs.declared.Dialect.{Dialect}
use Rattle.text.specs.Xml.{xml_escape, xml_text, in_text}
use Rattle.text.specs.Examples.{text_opens}
use Rattle.text.proofs.Cases.{by_test, by_order}
use Rattle.text.proofs.EncodeLaws.{encode_1, encode_2, encode_3, encode_4}
use Rattle.text.proofs.Tabled.{tab, each}
use Rattle.text.proofs.XmlLaws.{text_append}
use Rattle.attribute.specs.declared.Variant.{Variant}
use Rattle.attribute.specs.declared.Variant.TheVariants.{Normal, Italic, Bold, BoldItalic, DoubleStruck, BoldFraktur, Script, BoldScript, Fraktur, SansSerif, BoldSansSerif, SansSerifItalic, SansSerifBoldItalic, Monospace}
use Rattle.attribute.specs.declared.Accent.{Accent}
use Rattle.attribute.specs.declared.Accent.TheVariants.{True, False}
use Rattle.attribute.specs.declared.LineThickness.{LineThickness}
use Rattle.attribute.specs.declared.LineThickness.TheVariants.{Medium, Zero}
use Rattle.attribute.specs.declared.ColumnAlign.{ColumnAlign}
use Rattle.attribute.specs.declared.ColumnAlign.TheVariants.{Center, Left}
use Rattle.attribute.specs.declared.DisplayStyle.{DisplayStyle}
use Rattle.attribute.specs.declared.DisplayStyle.TheVariants.{Block, Inline}
use Rattle.attribute.specs.Names.{variant, is_italic, accent, line_thickness, column_align}
use Rattle.token.specs.declared.Undefined.{Undefined}
use Rattle.token.specs.Texts.{texts, printed_widths, text_of, text_in, width_of}
use Rattle.token.specs.Command.{operator_in}
use Rattle.token.specs.Debug.{digit, hexadecimal, control, escapes, escape_by, escape, or_nul, command_name, debug, command_text}
use Rattle.token.proofs.DebugLaws.{plain_byte, plain_twice, twice_cons, command_pieces}
use Rattle.token.specs.Roles.{letter_of}
use Rattle.lexer.specs.Lex.{next_token}
use Rattle.lexer.specs.Letters.{letters_within, letters, encode_all}
use Rattle.ast.specs.declared.Stretched.{Stretched}
use Rattle.ast.specs.declared.Leaf.{Leaf}
use Rattle.ast.specs.declared.One.{One}
use Rattle.ast.specs.declared.Two.{Two}
use Rattle.ast.specs.declared.Three.{Three}
use Rattle.ast.specs.Tree.{Node, leaf, one, two, three, row, matrix, Nodes, empty, ◌then◌, size, sizes}
use Rattle.markup.specs.Print.{fixed_text, width_text, letter_text, character, operator_text, stretched_text, variant_text, letter_markup, operator_markup, sized_end, sized_markup, undefined_markup, print_leaf, slash_leaf, slash, display_text, print_one, print_two, print_three, cell_leaf, cell, align_text, print, print_all, print_cells}
use Rattle.markup.proofs.PrintLaws.{italic_letter, other_letter, error_ampersand, error_new_line, undefined_pieces}

-- the bytes that a node of a body of n bytes takes at most
abbrev pub most : ℕ → ℕ
most n = 36 * n + 400

-- the greatest of what f gives at the elements of a list
abbrev greatest : {A : Type 0} → (A → ℕ) → List A → ℕ
greatest f [] = 0
greatest f (a ∷ l) = max (f a) (greatest f l)

-- a text that a list gives by number is one of its texts, or empty
listed_short : (l : List String) (i : ℕ) → length (bytes (get_or l i "")) ≤ greatest (λ t. length (bytes t)) l
unfolding bytes
listed_short [] i = zero-le
listed_short (t ∷ l) zero = omega arith
listed_short (t ∷ l) (suc i) = omega (arith, listed_short l i)

pub fixed_short : (d : Dialect) (t : ℕ) → length (fixed_text d t) ≤ 7
unfolding text_opens fixed_text text_of texts
fixed_short d t = listed_short texts (text_in d t)

pub width_short : (w : ℕ) → length (width_text w) ≤ 11
unfolding text_opens width_text width_of printed_widths
width_short w = listed_short printed_widths w

-- a character
pub encode_short : (c : ℕ) → length (encode c) ≤ 4
encode_short c =
    by_order c 0x80
    (λ a. rw (encode_1 c a) (omega arith))
    (λ a.
    by_order c 0x800
    (λ b. rw (encode_2 c a b) (omega arith))
    (λ b.
    by_order c 0x10000
    (λ d. rw (encode_3 c b d) (omega arith))
    (λ d. rw (encode_4 c d) (omega arith))))

-- a formula's text: `&amp;` is the longest reference
xml_byte_short : (b : ℕ) → length (xml_escape b) ≤ 5
unfolding text_opens xml_escape
xml_byte_short b =
    by_test (eqb b 60)
    (λ e. rw (xml_escape, e) (omega arith))
    (λ e.
    by_test (eqb b 62)
    (λ f. rw (xml_escape, e, f) (omega arith))
    (λ f. by_test (eqb b 38) (λ g. rw (xml_escape, e, f, g) (omega arith)) (λ g. rw (xml_escape, e, f, g) (omega arith))))

xml_short : (l : List ℕ) → length (xml_text l) ≤ 5 * length l
unfolding xml_text
xml_short [] = zero-le
xml_short (b ∷ l) = simp length-append (omega (arith, xml_byte_short b, xml_short l))

text_short : (d : Dialect) (l : List ℕ) → length (in_text d l) ≤ 5 * length l
unfolding in_text
text_short Dialect.Old l = omega arith
text_short Dialect.Strict l = xml_short l

pub character_short : (d : Dialect) (c : ℕ) → length (character d c) ≤ 20
unfolding character
character_short d c = omega (arith, text_short d (encode c), encode_short c)

pub operator_text_short : (d : Dialect) (c : ℕ) → length (operator_text d c) ≤ 20
unfolding operator_text
operator_text_short d c = character_short d (operator_in d c)

-- a variant's attribute, the longest for sans-serif-bold-italic
pub variant_short : (v : Variant) → length (variant_text v) ≤ 37
unfolding text_opens variant_text variant
variant_short Normal = omega arith
variant_short Italic = omega arith
variant_short Bold = omega arith
variant_short BoldItalic = omega arith
variant_short DoubleStruck = omega arith
variant_short BoldFraktur = omega arith
variant_short Script = omega arith
variant_short BoldScript = omega arith
variant_short Fraktur = omega arith
variant_short SansSerif = omega arith
variant_short BoldSansSerif = omega arith
variant_short SansSerifItalic = omega arith
variant_short SansSerifBoldItalic = omega arith
variant_short Monospace = omega arith

-- a part of the body has no more bytes than the body, and no more letters than bytes
part_short : (s : List ℕ) (a e : ℕ) → length (part a e s) ≤ length s
part_short s a e = simp (length-take, length-drop) (omega arith)

within_short : (k : ℕ) (l : List ℕ) → length (letters_within k l) ≤ k
unfolding letters_within
within_short zero l = zero-le
within_short (suc k) l =
    let more = within_short k (drop (next_token 0 l).end l) in
    elim (letter_of (next_token 0 l).token) as (λ o. length {A = ℕ} (elim o [ none ↦ [] | some c ↦ c ∷ letters_within k (drop (next_token 0 l).end l) ]) ≤ suc k) [
      | none ↦ zero-le
      | some c ↦ omega arith
    ]

encoded_short : (cs : List ℕ) → length (encode_all cs) ≤ 4 * length cs
unfolding encode_all
encoded_short [] = zero-le
encoded_short (c ∷ cs) = simp length-append (omega (arith, encode_short c, encoded_short cs))

pub letters_short : (d : Dialect) (s : List ℕ) (a e : ℕ) → length (letter_text d s a e) ≤ 20 * length s
unfolding letter_text letters
letters_short d s a e =
    let l = part a e s in
    omega (arith, text_short d (encode_all (letters l)), encoded_short (letters l), within_short (length l) l, part_short s a e)

-- a byte is escaped in six bytes at most, as `\u{1f}`
hexadecimal_short : (b : ℕ) → length (hexadecimal b) ≤ 2
unfolding hexadecimal
hexadecimal_short b = by_test (ltb b 16) (λ e. rw (hexadecimal, e) (omega arith)) (λ e. rw (hexadecimal, e) (omega arith))

unlisted_short : (b : ℕ) → length (escape_by [] b) ≤ 6
unfolding text_opens escape_by
unlisted_short b =
    by_test (control b)
    (λ e. rw (escape_by, e) (simp length-append (omega (arith, hexadecimal_short b))))
    (λ e. rw (escape_by, e) (omega arith))

byte_short : (es : List (ℕ × List ℕ)) (b : ℕ) → length (escape_by es b) ≤ max 6 (greatest (λ e. length e.1) es)
unfolding escape_by
byte_short [] b = omega (arith, unlisted_short b)
byte_short (e ∷ es) b =
    by_test (eqb b e.0)
    (λ q. rw (escape_by, q) (omega arith))
    (λ q. rw (escape_by, q) (omega (arith, byte_short es b)))

-- .. and so are the bytes of a text
pub escape_short : (l : List ℕ) → length (escape l) ≤ 6 * length l
unfolding escape escapes text_opens
escape_short [] = zero-le
escape_short (b ∷ l) = simp length-append (omega (arith, byte_short escapes b, escape_short l))

-- .. and in seven at most where it is escaped twice and printed, as `\\u{1f}`
twice_test : (d : Dialect) → tab (λ i. ltb (length (in_text d (escape (escape_by escapes i)))) 8) 128 ≡ tab (λ i. true) 128
unfolding text_opens xml_escape xml_text in_text digit hexadecimal control escapes escape_by escape
twice_test Dialect.Old = refl
twice_test Dialect.Strict = refl

twice_byte : (d : Dialect) (b : ℕ) → length (in_text d (escape (escape_by escapes b))) ≤ 7
twice_byte d b =
    by_order b 0x80
    (λ a.
    let k = ltb-true (length (in_text d (escape (escape_by escapes b)))) 8 (each (λ i. ltb (length (in_text d (escape (escape_by escapes i)))) 8) (λ i. true) 128 (twice_test d) b a) in
    omega arith)
    (λ a.
    let same = plain_twice b (plain_byte b (omega arith) (λ e. omega arith) (λ e. omega arith) (λ e. omega arith)) in
    rw same (omega (arith, text_short d (b ∷ []))))

twice_short : (d : Dialect) (l : List ℕ) → length (in_text d (escape (escape l))) ≤ 7 * length l
unfolding escape
twice_short d [] = omega (arith, text_short d [])
twice_short d (b ∷ l) =
    rw (twice_cons b l, text_append d (escape (escape_by escapes b)) (escape (escape l)))
    (simp length-append (omega (arith, twice_byte d b, twice_short d l)))

-- the Debug text of a token that is no node
nul_short : (l : List ℕ) → length (or_nul l) ≤ length l + 1
unfolding or_nul
nul_short [] = omega arith
nul_short (b ∷ l) = omega arith

-- a text is escaped and printed in thirty bytes at most for each of its own
once_short : (d : Dialect) (l : List ℕ) → length (in_text d (escape l)) ≤ 30 * length l
once_short d l = omega (arith, text_short d (escape l), escape_short l)

pub debug_short : (d : Dialect) (s : List ℕ) (u : Undefined) → length (in_text d (escape (debug s u))) ≤ 7 * length s + 340
unfolding text_opens debug command_name command_text
debug_short d s Undefined.EOF = omega (arith, once_short d (bytes "EOF"))
debug_short d s Undefined.End = omega (arith, once_short d (bytes "End"))
debug_short d s Undefined.Right = omega (arith, once_short d (bytes "Right"))
debug_short d s Undefined.RBrace = omega (arith, once_short d (bytes "RBrace"))
debug_short d s Undefined.Underscore = omega (arith, once_short d (bytes "Underscore"))
debug_short d s Undefined.Circumflex = omega (arith, once_short d (bytes "Circumflex"))
debug_short d s (Undefined.Command a e) =
    let name = command_name s a e in
    rw (command_pieces d (part a e s))
    (simp length-append (omega (arith, escape_short (bytes "Command(\""), twice_short d name, nul_short (part a e s), part_short s a e, escape_short (bytes "\")"))))

-- a leaf, of which the longest is the Debug text, escaped twice
stretched_short : (d : Dialect) (o : Stretched) → length (stretched_text d o) ≤ 20
unfolding stretched_text
stretched_short d (Stretched.Character c) = operator_text_short d c
stretched_short d (Stretched.Fixed t) = omega (arith, fixed_short d t)

letter_short : (d : Dialect) (c : ℕ) (v : Variant) → length (letter_markup d c v) ≤ 66
unfolding text_opens
letter_short d c v =
    by_test (is_italic v)
    (λ e. rw (italic_letter d c v e) (simp length-append (omega (arith, character_short d c))))
    (λ e. rw (other_letter d c v e) (simp length-append (omega (arith, character_short d c, variant_short v))))

operator_short : (d : Dialect) (c : ℕ) → length (operator_markup d c) ≤ 33
unfolding text_opens operator_markup
operator_short d c =
    by_test (eqb c 8706)
    (λ e. rw (operator_markup, e) (omega arith))
    (λ e. rw (operator_markup, e) (simp length-append (omega (arith, operator_text_short d c))))

pub sized_end_short : (d : Dialect) → length (sized_end d) ≤ 13
unfolding text_opens sized_end
sized_end_short Dialect.Old = omega arith
sized_end_short Dialect.Strict = omega arith

undefined_short : (d : Dialect) (s : List ℕ) (u : Undefined) → length (undefined_markup d s u) ≤ most (length s)
unfolding text_opens undefined_markup
undefined_short d s u = rw (undefined_pieces d (escape (debug s u))) (simp length-append (omega (arith, debug_short d s u)))

leaf_short : (d : Dialect) (s : List ℕ) (l : Leaf) → length (print_leaf d s l) ≤ most (length s)
unfolding text_opens print_leaf sized_markup
leaf_short d s (Leaf.Number a e) = simp length-append (omega (arith, part_short s a e))
leaf_short d s (Leaf.Letter c v) = omega (arith, letter_short d c v)
leaf_short d s (Leaf.Operator c) = omega (arith, operator_short d c)
leaf_short d s (Leaf.Function t) = simp length-append (omega (arith, fixed_short d t))
leaf_short d s (Leaf.FunctionName a e) = simp length-append (omega (arith, letters_short d s a e))
leaf_short d s (Leaf.Space w) = simp length-append (omega (arith, width_short w))
leaf_short d s (Leaf.StrechedOp o) = simp length-append (omega (arith, stretched_short d o))
leaf_short d s (Leaf.OtherOperator t) = simp length-append (omega (arith, fixed_short d t))
leaf_short d s (Leaf.SizedParen z t) = simp length-append (omega (arith, fixed_short d z, fixed_short d t, sized_end_short d))
leaf_short d s (Leaf.Text a e) = simp length-append (omega (arith, letters_short d s a e))
leaf_short d s Leaf.Ampersand = rw (error_ampersand d) (omega arith)
leaf_short d s Leaf.NewLine = rw (error_new_line d) (omega arith)
leaf_short d s (Leaf.Undefined u) = undefined_short d s u

-- of a node with the markup m, what stands under a slash and in a matrix is no longer, or short itself
abbrev Kept : List ℕ → List ℕ → Type 0
Kept m x = length x ≤ max 74 (length m)

leaf_kept : (d : Dialect) (l : Leaf) (m : List ℕ) → Kept m (slash_leaf d l m) × Kept m (cell_leaf l m)
unfolding text_opens slash_leaf cell_leaf
leaf_kept d (Leaf.Number a e) m = omega arith
leaf_kept d (Leaf.Letter c v) m = (simp length-append (omega (arith, character_short d c, variant_short v)), omega arith)
leaf_kept d (Leaf.Operator c) m = (simp length-append (omega (arith, operator_text_short d c)), omega arith)
leaf_kept d (Leaf.Function t) m = omega arith
leaf_kept d (Leaf.FunctionName a e) m = omega arith
leaf_kept d (Leaf.Space w) m = omega arith
leaf_kept d (Leaf.StrechedOp o) m = omega arith
leaf_kept d (Leaf.OtherOperator t) m = omega arith
leaf_kept d (Leaf.SizedParen z t) m = omega arith
leaf_kept d (Leaf.Text a e) m = omega arith
leaf_kept d Leaf.Ampersand m = omega arith
leaf_kept d Leaf.NewLine m = omega arith
leaf_kept d (Leaf.Undefined u) m = omega arith

kept : (d : Dialect) (t : Node) (m : List ℕ) → Kept m (slash d t m) × Kept m (cell t m)
unfolding slash cell
kept d (leaf l) m = leaf_kept d l m
kept d (one k a) m = omega arith
kept d (two k a b) m = omega arith
kept d (three k a b c) m = omega arith
kept d (row ns) m = omega arith
kept d (matrix align ns) m = omega arith

-- what a node adds to the markup of its parts is at most 400 bytes
pub accent_short : (acc : Accent) → length (bytes (accent acc)) ≤ 5
unfolding text_opens accent
accent_short True = omega arith
accent_short False = omega arith

pub display_short : (st : DisplayStyle) → length (display_text st) ≤ 5
unfolding text_opens display_text
display_short Block = omega arith
display_short Inline = omega arith

pub line_short : (lt : LineThickness) → length (bytes (line_thickness lt)) ≤ 18
unfolding text_opens line_thickness
line_short Medium = omega arith
line_short Zero = omega arith

pub align_short : (d : Dialect) (align : ColumnAlign) → length (align_text d align) ≤ 19
unfolding text_opens column_align align_text
align_short Dialect.Old Center = omega arith
align_short Dialect.Old Left = omega arith
align_short Dialect.Strict Center = omega arith
align_short Dialect.Strict Left = omega arith

one_short : (d : Dialect) (k : One) (a : Node) (m : List ℕ) → length (print_one d k a m) ≤ length m + 400
unfolding text_opens print_one
one_short d (One.OverOp c acc) a m = simp length-append (omega (arith, accent_short acc, character_short d c))
one_short d (One.UnderOp c acc) a m = simp length-append (omega (arith, accent_short acc, character_short d c))
one_short d One.Sqrt a m = simp length-append (omega arith)
one_short d (One.Fenced t u) a m = simp length-append (omega (arith, fixed_short d t, fixed_short d u))
one_short d One.Slashed a m = omega (arith, (kept d a m).0)
one_short d (One.Style st) a m = simp length-append (omega (arith, display_short st))

two_short : (k : Two) (m n : List ℕ) → length (print_two k m n) ≤ length m + length n + 400
unfolding text_opens print_two
two_short Two.Subscript m n = simp length-append (omega arith)
two_short Two.Superscript m n = simp length-append (omega arith)
two_short Two.Overset m n = simp length-append (omega arith)
two_short Two.Underset m n = simp length-append (omega arith)
two_short Two.Under m n = simp length-append (omega arith)
two_short Two.Root m n = simp length-append (omega arith)
two_short (Two.Frac lt) m n = simp length-append (omega (arith, line_short lt))

three_short : (k : Three) (m n o : List ℕ) → length (print_three k m n o) ≤ length m + length n + length o + 400
unfolding text_opens print_three
three_short Three.SubSup m n o = simp length-append (omega arith)
three_short Three.UnderOver m n o = simp length-append (omega arith)

-- a tree has a node
size_some : (t : Node) → 1 ≤ size t
unfolding size
size_some (leaf l) = omega arith
size_some (one k a) = omega arith
size_some (two k a b) = omega arith
size_some (three k a b c) = omega arith
size_some (row ns) = omega arith
size_some (matrix align ns) = omega arith

-- a tree takes `most` bytes at most for each of its nodes
mutual
  unfolding text_opens print size

  pub short : (d : Dialect) (s : List ℕ) (t : Node) → length (print d s t) ≤ size t * most (length s)
  short d s (leaf l) = omega (arith, leaf_short d s l)
  short d s (one k a) = omega (arith, one_short d k a (print d s a), short d s a)
  short d s (two k a b) = omega (arith, two_short k (print d s a) (print d s b), short d s a, short d s b)
  short d s (three k a b c) = omega (arith, three_short k (print d s a) (print d s b) (print d s c), short d s a, short d s b, short d s c)
  short d s (row ns) = simp length-append (omega (arith, short_all d s ns))
  short d s (matrix align ns) = simp length-append (omega (arith, align_short d align, short_cells d s ns))

  pub short_all : (d : Dialect) (s : List ℕ) (ns : Nodes) → length (print_all d s ns) ≤ sizes ns * most (length s)
  short_all d s empty = omega arith
  short_all d s (n then ns) = simp length-append (omega (arith, short d s n, short_all d s ns))

  short_cells : (d : Dialect) (s : List ℕ) (ns : Nodes) → length (print_cells d s ns) ≤ sizes ns * most (length s)
  short_cells d s empty = omega arith
  short_cells d s (n then ns) =
      simp length-append (omega (arith, short d s n, (kept d n (print d s n)).1, mul-le-mul_right (most (length s)) (size_some n), short_cells d s ns))
