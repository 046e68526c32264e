-- The printer in both dialects: the old one is `Display` of the Rust's `Node`, and the strict one differs where it is said.
-- Assumes nothing.
use Rattle.std.specs.Prelude.{true, false, List, ◌++◌, ℕ, eqb}
use Prim.Native.Char.{code}
use Rattle.text.specs.Utf8.{encode}
use Rattle.text.specs.Text.{bytes, part}
use Rattle.text.specs.declared.Dialect.{Dialect}
use Rattle.text.specs.Xml.{in_text}
use Rattle.attribute.specs.declared.Variant.{Variant}
use Rattle.attribute.specs.declared.ColumnAlign.{ColumnAlign}
use Rattle.attribute.specs.declared.DisplayStyle.{DisplayStyle}
use Rattle.attribute.specs.Names.{variant, is_italic, accent, line_thickness, column_align}
use Rattle.token.specs.declared.Undefined.{Undefined}
use Rattle.token.specs.Texts.{text_of, text_in, width_of}
use Rattle.token.specs.Command.{operator_in}
use Rattle.token.specs.Debug.{escape, debug}
use Rattle.lexer.specs.Letters.{letters, encode_all}
use Rattle.ast.specs.declared.Stretched.{Stretched}
use Rattle.ast.specs.declared.Leaf.{Leaf}
use Rattle.ast.specs.declared.One.{One}
use Rattle.ast.specs.declared.Two.{Two}
use Rattle.ast.specs.declared.Three.{Three}
use Rattle.ast.specs.Tree.{Node, Nodes, empty, ◌then◌}
use Rattle.markup.specs.declared.Place.{Place}

-- the bytes of a fixed text, of a width, and of the letters of the body s from a up to e
unfoldable pub fixed_text : Dialect → ℕ → List ℕ
fixed_text d t = bytes (text_of (text_in d t))

unfoldable pub width_text : ℕ → List ℕ
width_text w = bytes (width_of w)

unfoldable pub letter_text : Dialect → List ℕ → ℕ → ℕ → List ℕ
letter_text d s a e = in_text d (encode_all (letters (part a e s)))

-- the bytes of a letter and of an operator
unfoldable pub character : Dialect → ℕ → List ℕ
character d c = in_text d (encode c)

unfoldable pub operator_text : Dialect → ℕ → List ℕ
operator_text d c = character d (operator_in d c)

unfoldable pub stretched_text : Dialect → Stretched → List ℕ
stretched_text d (Stretched.Character c) = operator_text d c
stretched_text d (Stretched.Fixed t) = fixed_text d t

unfoldable pub variant_text : Variant → List ℕ
variant_text v = bytes " mathvariant=\"" ++ bytes (variant v) ++ bytes "\""

-- a letter: italic needs no attribute
unfoldable pub letter_markup : Dialect → ℕ → Variant → List ℕ
letter_markup d c v =
    bytes "<mi" ++ elim (is_italic v) [ true ↦ bytes "" | false ↦ variant_text v ] ++ bytes ">" ++ character d c ++ bytes "</mi>"

-- an operator: ∂ is italic
unfoldable pub operator_markup : Dialect → ℕ → List ℕ
operator_markup d c =
    elim (eqb c (code "∂")) [
      | true ↦ bytes "<mo mathvariant=\"italic\">∂</mo>"
      | false ↦ bytes "<mo>" ++ operator_text d c ++ bytes "</mo>"
    ]

-- the error text, of which t is the node's Debug text
unfoldable pub parse_error : Dialect → List ℕ → List ℕ
parse_error d t = bytes "<mtext>[PARSE ERROR: " ++ in_text d t ++ bytes "]</mtext>"

-- a sized parenthesis: the old dialect closes it with `</mro>`
unfoldable pub sized_end : Dialect → List ℕ
sized_end Dialect.Old = bytes "</mro></mrow>"
sized_end Dialect.Strict = bytes "</mo></mrow>"

unfoldable pub sized_markup : Dialect → ℕ → ℕ → List ℕ
sized_markup d z t =
    bytes "<mrow><mo maxsize=\"" ++ fixed_text d z ++ bytes "\" minsize=\"" ++ fixed_text d z ++ bytes "\">" ++ fixed_text d t ++ sized_end d

-- the token that is no node, its Debug text escaped once more
unfoldable pub undefined_markup : Dialect → List ℕ → Undefined → List ℕ
undefined_markup d s u = parse_error d (bytes "Undefined(\"" ++ escape (debug s u) ++ bytes "\")")

unfoldable pub print_leaf : Dialect → List ℕ → Leaf → List ℕ
print_leaf d s (Leaf.Number a e) = bytes "<mn>" ++ part a e s ++ bytes "</mn>"
print_leaf d s (Leaf.Letter c v) = letter_markup d c v
print_leaf d s (Leaf.Operator c) = operator_markup d c
print_leaf d s (Leaf.Function t) = bytes "<mi>" ++ fixed_text d t ++ bytes "</mi>"
print_leaf d s (Leaf.FunctionName a e) = bytes "<mi>" ++ letter_text d s a e ++ bytes "</mi>"
print_leaf d s (Leaf.Space w) = bytes "<mspace width=\"" ++ width_text w ++ bytes "em\"/>"
print_leaf d s (Leaf.StrechedOp o) = bytes "<mo stretchy=\"true\">" ++ stretched_text d o ++ bytes "</mo>"
print_leaf d s (Leaf.OtherOperator t) = bytes "<mo>" ++ fixed_text d t ++ bytes "</mo>"
print_leaf d s (Leaf.SizedParen z t) = sized_markup d z t
print_leaf d s (Leaf.Text a e) = bytes "<mtext>" ++ letter_text d s a e ++ bytes "</mtext>"
print_leaf d s Leaf.Ampersand = parse_error d (bytes "Ampersand")
print_leaf d s Leaf.NewLine = parse_error d (bytes "NewLine")
print_leaf d s (Leaf.Undefined u) = undefined_markup d s u

-- a letter or an operator under a slash; m is the leaf's own markup
unfoldable pub slash_leaf : Dialect → Leaf → List ℕ → List ℕ
slash_leaf d (Leaf.Number a e) m = m
slash_leaf d (Leaf.Letter c v) m = bytes "<mi" ++ variant_text v ++ bytes ">" ++ character d c ++ bytes "&#x0338;</mi>"
slash_leaf d (Leaf.Operator c) m = bytes "<mo>" ++ operator_text d c ++ bytes "&#x0338;</mo>"
slash_leaf d (Leaf.Function t) m = m
slash_leaf d (Leaf.FunctionName a e) m = m
slash_leaf d (Leaf.Space w) m = m
slash_leaf d (Leaf.StrechedOp o) m = m
slash_leaf d (Leaf.OtherOperator t) m = m
slash_leaf d (Leaf.SizedParen z t) m = m
slash_leaf d (Leaf.Text a e) m = m
slash_leaf d Leaf.Ampersand m = m
slash_leaf d Leaf.NewLine m = m
slash_leaf d (Leaf.Undefined u) m = m

-- any other node under a slash is its own markup
unfoldable pub slash : Dialect → Node → List ℕ → List ℕ
slash d (Node.leaf l) m = slash_leaf d l m
slash d (Node.one k a) m = m
slash d (Node.two k a b) m = m
slash d (Node.three k a b c) m = m
slash d (Node.row ns) m = m
slash d (Node.matrix align ns) m = m

unfoldable pub display_text : DisplayStyle → List ℕ
display_text DisplayStyle.Block = bytes "true"
display_text DisplayStyle.Inline = bytes "false"

-- a node with one part a, of which m is the markup
unfoldable pub print_one : Dialect → One → Node → List ℕ → List ℕ
print_one d (One.OverOp c acc) a m =
    bytes "<mover>" ++ m ++ bytes "<mo accent=\"" ++ bytes (accent acc) ++ bytes "\">" ++ character d c ++ bytes "</mo></mover>"
print_one d (One.UnderOp c acc) a m =
    bytes "<munder>" ++ m ++ bytes "<mo accent=\"" ++ bytes (accent acc) ++ bytes "\">" ++ character d c ++ bytes "</mo></munder>"
print_one d One.Sqrt a m = bytes "<msqrt>" ++ m ++ bytes "</msqrt>"
print_one d (One.Fenced t u) a m =
    bytes "<mrow><mo stretchy=\"true\" form=\"prefix\">" ++ fixed_text d t ++ bytes "</mo>" ++ m ++ bytes "<mo stretchy=\"true\" form=\"postfix\">" ++ fixed_text d u ++ bytes "</mo></mrow>"
print_one d One.Slashed a m = slash d a m
print_one d (One.Style st) a m = bytes "<mstyle displaystyle=\"" ++ display_text st ++ bytes "\">" ++ m ++ bytes "</mstyle>"

-- a node with two parts, of which m and n are the markups
unfoldable pub print_two : Two → List ℕ → List ℕ → List ℕ
print_two Two.Subscript m n = bytes "<msub>" ++ m ++ n ++ bytes "</msub>"
print_two Two.Superscript m n = bytes "<msup>" ++ m ++ n ++ bytes "</msup>"
print_two Two.Overset m n = bytes "<mover>" ++ m ++ n ++ bytes "</mover>"
print_two Two.Underset m n = bytes "<munder>" ++ m ++ n ++ bytes "</munder>"
print_two Two.Under m n = bytes "<munder>" ++ m ++ n ++ bytes "</munder>"
print_two Two.Root m n = bytes "<mroot>" ++ m ++ n ++ bytes "</mroot>"
print_two (Two.Frac lt) m n = bytes "<mfrac" ++ bytes (line_thickness lt) ++ bytes ">" ++ m ++ n ++ bytes "</mfrac>"

unfoldable pub print_three : Three → List ℕ → List ℕ → List ℕ → List ℕ
print_three Three.SubSup m n o = bytes "<msubsup>" ++ m ++ n ++ o ++ bytes "</msubsup>"
print_three Three.UnderOver m n o = bytes "<munderover>" ++ m ++ n ++ o ++ bytes "</munderover>"

-- a leaf that is a direct part of a matrix: an ampersand begins a cell, a new line a row; m is the leaf's own markup
unfoldable pub cell_leaf : Leaf → List ℕ → List ℕ
cell_leaf (Leaf.Number a e) m = m
cell_leaf (Leaf.Letter c v) m = m
cell_leaf (Leaf.Operator c) m = m
cell_leaf (Leaf.Function t) m = m
cell_leaf (Leaf.FunctionName a e) m = m
cell_leaf (Leaf.Space w) m = m
cell_leaf (Leaf.StrechedOp o) m = m
cell_leaf (Leaf.OtherOperator t) m = m
cell_leaf (Leaf.SizedParen z t) m = m
cell_leaf (Leaf.Text a e) m = m
cell_leaf Leaf.Ampersand m = bytes "</mtd><mtd>"
cell_leaf Leaf.NewLine m = bytes "</mtd></mtr><mtr><mtd>"
cell_leaf (Leaf.Undefined u) m = m

unfoldable pub cell : Node → List ℕ → List ℕ
cell (Node.leaf l) m = cell_leaf l m
cell (Node.one k a) m = m
cell (Node.two k a b) m = m
cell (Node.three k a b c) m = m
cell (Node.row ns) m = m
cell (Node.matrix align ns) m = m

-- the markup m of a node as it is printed at a place
unfoldable pub at_place : Dialect → Place → Node → List ℕ → List ℕ
at_place d Place.Plain t m = m
at_place d Place.Slashed t m = slash d t m
at_place d Place.Cell t m = cell t m

-- the alignment of a matrix: the old dialect has no quotes
unfoldable pub align_text : Dialect → ColumnAlign → List ℕ
align_text Dialect.Old align = bytes (column_align align)
align_text Dialect.Strict ColumnAlign.Center = bytes ""
align_text Dialect.Strict ColumnAlign.Left = bytes " columnalign=\"left\""

-- the markup of a node of the body s
unfoldable mutual
  pub print : Dialect → List ℕ → Node → List ℕ
  print d s (Node.leaf l) = print_leaf d s l
  print d s (Node.one k a) = print_one d k a (print d s a)
  print d s (Node.two k a b) = print_two k (print d s a) (print d s b)
  print d s (Node.three k a b c) = print_three k (print d s a) (print d s b) (print d s c)
  print d s (Node.row ns) = bytes "<mrow>" ++ print_all d s ns ++ bytes "</mrow>"
  print d s (Node.matrix align ns) =
      bytes "<mtable" ++ align_text d align ++ bytes "><mtr><mtd>" ++ print_cells d s ns ++ bytes "</mtd></mtr></mtable>"

  pub print_all : Dialect → List ℕ → Nodes → List ℕ
  print_all d s empty = bytes ""
  print_all d s (n then ns) = print d s n ++ print_all d s ns

  pub print_cells : Dialect → List ℕ → Nodes → List ℕ
  print_cells d s empty = bytes ""
  print_cells d s (n then ns) = cell n (print d s n) ++ print_cells d s ns
