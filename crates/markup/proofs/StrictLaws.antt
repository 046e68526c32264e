-- The strict markup of a tree is elements and text of characters that XML 1.0 allows, where those of the tree are such.
-- Assumes nothing.
use mathlib.Core.Path.{◌≡◌, refl}
use mathlib.Core.Bool.{true, false}
use mathlib.Core.List.{List, ◌∷◌, ◌++◌}
use Prim.Native.Nat.{ℕ, ◌≤◌}
use native.Mathlib.Omega.{arith}
use lib.Dec.{eqb}
use lib.ListN.{get_or-eq_default}
use borrow.Author.Tests.{ne_eqb}
use Rattle.text.specs.Text.{bytes, part}
use Rattle.text.specs.Xml.{allows, forbidden, in_text}
use Rattle.text.specs.declared.Dialect.{Dialect}
use Rattle.text.proofs.Cases.{by_test}
use Rattle.attribute.specs.declared.Variant.{Variant}
use Rattle.attribute.specs.declared.Variant.TheVariants.{Normal, Italic, Bold, BoldItalic, DoubleStruck, BoldFraktur, Script, BoldScript, Fraktur, SansSerif, BoldSansSerif, SansSerifItalic, SansSerifBoldItalic, Monospace}
use Rattle.attribute.specs.declared.Accent.{Accent}
use Rattle.attribute.specs.declared.Accent.TheVariants.{True, False}
use Rattle.attribute.specs.declared.LineThickness.TheVariants.{Medium, Zero}
use Rattle.attribute.specs.declared.ColumnAlign.{ColumnAlign}
use Rattle.attribute.specs.declared.ColumnAlign.TheVariants.{Center, Left}
use Rattle.attribute.specs.declared.DisplayStyle.{DisplayStyle}
use Rattle.attribute.specs.declared.DisplayStyle.TheVariants.{Block, Inline}
use Rattle.attribute.specs.Names.{variant, is_italic, accent, line_thickness}
use Rattle.token.specs.declared.Undefined.{Undefined}
use Rattle.token.specs.Texts.{texts, text, text_of, text_in, width_of, printed_widths}
use Rattle.token.specs.Command.{operator_in}
use Rattle.token.specs.Debug.{debug}
use Rattle.lexer.specs.Letters.{letters}
use Rattle.lexer.proofs.CleanLaws.{Clean, clean_append, clean_escaped, command_clean, allowed, letters_allowed}
use Rattle.ast.specs.declared.Stretched.{Stretched}
use Rattle.ast.specs.declared.Leaf.{Leaf}
use Rattle.ast.specs.declared.One.{One}
use Rattle.ast.specs.declared.Two.{Two}
use Rattle.ast.specs.declared.Three.{Three}
use Rattle.ast.specs.Tree.{Node, leaf, one, two, three, row, matrix, Nodes, empty, ◌then◌}
use Rattle.ast.proofs.FitLaws.{UndefinedFit, StretchedFit, LeafFit, OneFit, TreeFit, AllFit}
use Rattle.markup.specs.Print.{fixed_text, width_text, letter_text, character, operator_text, stretched_text, variant_text, letter_markup, operator_markup, parse_error, sized_end, sized_markup, undefined_markup, print_leaf, slash_leaf, slash, display_text, print_one, print_two, print_three, cell_leaf, cell, align_text, print, print_all, print_cells}
use Rattle.markup.specs.Nest.{characters, content, within, Reads, nest_opens}
use Rattle.markup.proofs.NestLaws.{Nested, Quoted, ◌and◌, same_bytes, fixed, clean_quoted, listed, character_nested, characters_nested, clean_nested, number_nested}

abbrev strict : Dialect
strict = Dialect.Strict

-- ---- the texts of numbers and attributes

past_texts : (t : ℕ) → 56 ≤ t → text_of (text_in strict t) ≡ ""
unfolding text texts text_of text_in
past_texts t h = rw (text_in, ne_eqb t 7 (λ e. omega arith), ne_eqb t 8 (λ e. omega arith)) (get_or-eq_default texts "" h)

fixed_nested : (t : ℕ) → Nested (fixed_text strict t)
unfolding fixed_text text texts text_of text_in nest_opens
fixed_nested t o outer = listed (λ i. text_of (text_in strict i)) 56 refl past_texts t

fixed_quoted : (t : ℕ) → Quoted (fixed_text strict t)
unfolding fixed_text text texts text_of text_in nest_opens
fixed_quoted t tag outer = listed (λ i. text_of (text_in strict i)) 56 refl past_texts t

width_quoted : (w : ℕ) → Quoted (width_text w)
unfolding width_text width_of printed_widths nest_opens
width_quoted w tag outer = listed width_of 6 refl (λ t h. get_or-eq_default printed_widths "" h) w

variant_quoted : (v : Variant) → Quoted (bytes (variant v))
unfolding variant nest_opens
variant_quoted Normal tag outer = fixed (variant Normal) refl
variant_quoted Italic tag outer = fixed (variant Italic) refl
variant_quoted Bold tag outer = fixed (variant Bold) refl
variant_quoted BoldItalic tag outer = fixed (variant BoldItalic) refl
variant_quoted DoubleStruck tag outer = fixed (variant DoubleStruck) refl
variant_quoted BoldFraktur tag outer = fixed (variant BoldFraktur) refl
variant_quoted Script tag outer = fixed (variant Script) refl
variant_quoted BoldScript tag outer = fixed (variant BoldScript) refl
variant_quoted Fraktur tag outer = fixed (variant Fraktur) refl
variant_quoted SansSerif tag outer = fixed (variant SansSerif) refl
variant_quoted BoldSansSerif tag outer = fixed (variant BoldSansSerif) refl
variant_quoted SansSerifItalic tag outer = fixed (variant SansSerifItalic) refl
variant_quoted SansSerifBoldItalic tag outer = fixed (variant SansSerifBoldItalic) refl
variant_quoted Monospace tag outer = fixed (variant Monospace) refl

accent_quoted : (a : Accent) → Quoted (bytes (accent a))
unfolding accent nest_opens
accent_quoted True tag outer = fixed (accent True) refl
accent_quoted False tag outer = fixed (accent False) refl

display_quoted : (st : DisplayStyle) → Quoted (display_text st)
unfolding display_text nest_opens
display_quoted Block tag outer = fixed "true" refl
display_quoted Inline tag outer = fixed "false" refl

-- ---- leaves

stretched_nested : (s : List ℕ) (o : Stretched) → StretchedFit (allowed s) o → Nested (stretched_text strict o)
unfolding stretched_text operator_text character in_text operator_in
stretched_nested s (Stretched.Character c) h = character_nested c h
stretched_nested s (Stretched.Fixed t) h = fixed_nested t

variant_letter : (c : ℕ) (v : Variant) (o : List ℕ) (outer : List (List ℕ)) → allows c ≡ true
    → Reads (within content (o ∷ outer)) (bytes "<mi" ++ variant_text v ++ bytes ">" ++ character strict c) (within content (characters "mi" ∷ o ∷ outer))
unfolding variant_text character in_text nest_opens
variant_letter c v o outer h =
    fixed "<mi" refl and (fixed " mathvariant=\"" refl and variant_quoted v _ _ and fixed "\"" refl) and fixed ">" refl and character_nested c h _ _

letter_nested : (c : ℕ) (v : Variant) → allows c ≡ true → Nested (letter_markup strict c v)
unfolding letter_markup character in_text nest_opens
letter_nested c v h o outer =
    by_test (is_italic v)
    (λ e. same_bytes (rw (letter_markup, e)) (fixed "<mi" refl and fixed "" refl and fixed ">" refl and character_nested c h _ _ and fixed "</mi>" refl))
    (λ e. same_bytes (rw (letter_markup, e)) (variant_letter c v o outer h and fixed "</mi>" refl))

operator_nested : (c : ℕ) → allows c ≡ true → Nested (operator_markup strict c)
unfolding operator_markup operator_text character in_text operator_in nest_opens
operator_nested c h o outer =
    by_test (eqb c 8706)
    (λ e. same_bytes (rw (operator_markup, e)) (fixed "<mo mathvariant=\"italic\">∂</mo>" refl))
    (λ e. same_bytes (rw (operator_markup, e)) (fixed "<mo>" refl and character_nested c h _ _ and fixed "</mo>" refl))

error_nested : {l : List ℕ} → Clean l → Nested (parse_error strict l)
unfolding parse_error in_text nest_opens
error_nested h o outer = fixed "<mtext>[PARSE ERROR: " refl and clean_nested h _ _ and fixed "]</mtext>" refl

slash_leaf_nested : (s : List ℕ) (l : Leaf) (m : List ℕ) → LeafFit (allowed s) l → Nested m → Nested (slash_leaf strict l m)
unfolding slash_leaf operator_text character in_text operator_in nest_opens
slash_leaf_nested s (Leaf.Number a e) m h k o outer = k o outer
slash_leaf_nested s (Leaf.Letter c v) m h k o outer = variant_letter c v o outer h and fixed "&#x0338;</mi>" refl
slash_leaf_nested s (Leaf.Operator c) m h k o outer = fixed "<mo>" refl and character_nested c h _ _ and fixed "&#x0338;</mo>" refl
slash_leaf_nested s (Leaf.Function t) m h k o outer = k o outer
slash_leaf_nested s (Leaf.FunctionName a e) m h k o outer = k o outer
slash_leaf_nested s (Leaf.Space w) m h k o outer = k o outer
slash_leaf_nested s (Leaf.StrechedOp p) m h k o outer = k o outer
slash_leaf_nested s (Leaf.OtherOperator t) m h k o outer = k o outer
slash_leaf_nested s (Leaf.SizedParen z t) m h k o outer = k o outer
slash_leaf_nested s (Leaf.Text a e) m h k o outer = k o outer
slash_leaf_nested s Leaf.Ampersand m h k o outer = k o outer
slash_leaf_nested s Leaf.NewLine m h k o outer = k o outer
slash_leaf_nested s (Leaf.Undefined u) m h k o outer = k o outer

-- what a matrix's direct parts print stands between `<mtr><mtd>` and `</mtd></mtr>`
abbrev Celled : List ℕ → Type 0
Celled m =
    (o : List ℕ) (outer : List (List ℕ)) → Reads (within content (characters "mtd" ∷ characters "mtr" ∷ o ∷ outer)) m (within content (characters "mtd" ∷ characters "mtr" ∷ o ∷ outer))

cell_leaf_nested : (l : Leaf) (m : List ℕ) → Nested m → Celled (cell_leaf l m)
unfolding cell_leaf nest_opens
cell_leaf_nested (Leaf.Number a e) m k o outer = k _ _
cell_leaf_nested (Leaf.Letter c v) m k o outer = k _ _
cell_leaf_nested (Leaf.Operator c) m k o outer = k _ _
cell_leaf_nested (Leaf.Function t) m k o outer = k _ _
cell_leaf_nested (Leaf.FunctionName a e) m k o outer = k _ _
cell_leaf_nested (Leaf.Space w) m k o outer = k _ _
cell_leaf_nested (Leaf.StrechedOp p) m k o outer = k _ _
cell_leaf_nested (Leaf.OtherOperator t) m k o outer = k _ _
cell_leaf_nested (Leaf.SizedParen z t) m k o outer = k _ _
cell_leaf_nested (Leaf.Text a e) m k o outer = k _ _
cell_leaf_nested Leaf.Ampersand m k o outer = fixed "</mtd><mtd>" refl
cell_leaf_nested Leaf.NewLine m k o outer = fixed "</mtd></mtr><mtr><mtd>" refl
cell_leaf_nested (Leaf.Undefined u) m k o outer = k _ _

-- ---- nodes over the markup of their parts

slash_nested : (s : List ℕ) (t : Node) (m : List ℕ) → TreeFit (allowed s) t → Nested m → Nested (slash strict t m)
unfolding slash
slash_nested s (leaf l) m h k = slash_leaf_nested s l m h k
slash_nested s (one x a) m h k = k
slash_nested s (two x a b) m h k = k
slash_nested s (three x a b c) m h k = k
slash_nested s (row ns) m h k = k
slash_nested s (matrix align ns) m h k = k

cell_nested : (t : Node) (m : List ℕ) → Nested m → Celled (cell t m)
unfolding cell
cell_nested (leaf l) m k o outer = cell_leaf_nested l m k o outer
cell_nested (one x a) m k o outer = k _ _
cell_nested (two x a b) m k o outer = k _ _
cell_nested (three x a b c) m k o outer = k _ _
cell_nested (row ns) m k o outer = k _ _
cell_nested (matrix align ns) m k o outer = k _ _

one_nested : (s : List ℕ) (x : One) (a : Node) (m : List ℕ) → OneFit (allowed s) x → TreeFit (allowed s) a → Nested m → Nested (print_one strict x a m)
unfolding print_one character in_text nest_opens
one_nested s (One.OverOp c acc) a m h t k o outer =
    fixed "<mover>" refl and k _ _ and fixed "<mo accent=\"" refl and accent_quoted acc _ _ and fixed "\">" refl and character_nested c h _ _ and fixed "</mo></mover>" refl
one_nested s (One.UnderOp c acc) a m h t k o outer =
    fixed "<munder>" refl and k _ _ and fixed "<mo accent=\"" refl and accent_quoted acc _ _ and fixed "\">" refl and character_nested c h _ _ and fixed "</mo></munder>" refl
one_nested s One.Sqrt a m h t k o outer = fixed "<msqrt>" refl and k _ _ and fixed "</msqrt>" refl
one_nested s (One.Fenced x y) a m h t k o outer =
    fixed "<mrow><mo stretchy=\"true\" form=\"prefix\">" refl and fixed_nested x _ _ and fixed "</mo>" refl and k _ _ and fixed "<mo stretchy=\"true\" form=\"postfix\">" refl and fixed_nested y _ _ and fixed "</mo></mrow>" refl
one_nested s One.Slashed a m h t k o outer = slash_nested s a m t k o outer
one_nested s (One.Style st) a m h t k o outer =
    fixed "<mstyle displaystyle=\"" refl and display_quoted st _ _ and fixed "\">" refl and k _ _ and fixed "</mstyle>" refl

two_nested : (x : Two) (m n : List ℕ) → Nested m → Nested n → Nested (print_two x m n)
unfolding print_two nest_opens line_thickness
two_nested Two.Subscript m n h k o outer = fixed "<msub>" refl and h _ _ and k _ _ and fixed "</msub>" refl
two_nested Two.Superscript m n h k o outer = fixed "<msup>" refl and h _ _ and k _ _ and fixed "</msup>" refl
two_nested Two.Overset m n h k o outer = fixed "<mover>" refl and h _ _ and k _ _ and fixed "</mover>" refl
two_nested Two.Underset m n h k o outer = fixed "<munder>" refl and h _ _ and k _ _ and fixed "</munder>" refl
two_nested Two.Under m n h k o outer = fixed "<munder>" refl and h _ _ and k _ _ and fixed "</munder>" refl
two_nested Two.Root m n h k o outer = fixed "<mroot>" refl and h _ _ and k _ _ and fixed "</mroot>" refl
two_nested (Two.Frac Medium) m n h k o outer = fixed "<mfrac" refl and fixed "" refl and fixed ">" refl and h _ _ and k _ _ and fixed "</mfrac>" refl
two_nested (Two.Frac Zero) m n h k o outer =
    fixed "<mfrac" refl and fixed " linethickness=\"0\"" refl and fixed ">" refl and h _ _ and k _ _ and fixed "</mfrac>" refl

three_nested : (x : Three) (m n p : List ℕ) → Nested m → Nested n → Nested p → Nested (print_three x m n p)
unfolding print_three nest_opens
three_nested Three.SubSup m n p h k l o outer = fixed "<msubsup>" refl and h _ _ and k _ _ and l _ _ and fixed "</msubsup>" refl
three_nested Three.UnderOver m n p h k l o outer = fixed "<munderover>" refl and h _ _ and k _ _ and l _ _ and fixed "</munderover>" refl

align_read : (align : ColumnAlign) (o : List ℕ) (outer : List (List ℕ))
    → Reads (within content (o ∷ outer)) (bytes "<mtable" ++ align_text strict align ++ bytes "><mtr><mtd>")
    (within content (characters "mtd" ∷ characters "mtr" ∷ characters "mtable" ∷ o ∷ outer))
unfolding align_text nest_opens
align_read Center o outer = fixed "<mtable" refl and fixed "" refl and fixed "><mtr><mtd>" refl
align_read Left o outer = fixed "<mtable" refl and fixed " columnalign=\"left\"" refl and fixed "><mtr><mtd>" refl

-- ---- trees of a body that holds no forbidden character

undefined_clean : (s : List ℕ) (u : Undefined) → UndefinedFit (allowed s) u → Clean (debug s u)
unfolding debug nest_opens
undefined_clean s Undefined.EOF h = clean_quoted "EOF" refl
undefined_clean s Undefined.End h = clean_quoted "End" refl
undefined_clean s Undefined.Right h = clean_quoted "Right" refl
undefined_clean s Undefined.RBrace h = clean_quoted "RBrace" refl
undefined_clean s Undefined.Underscore h = clean_quoted "Underscore" refl
undefined_clean s Undefined.Circumflex h = clean_quoted "Circumflex" refl
undefined_clean s (Undefined.Command a e) h = command_clean s a e h

undefined_nested : (s : List ℕ) (u : Undefined) → UndefinedFit (allowed s) u → Nested (undefined_markup strict s u)
unfolding undefined_markup nest_opens
undefined_nested s u h =
    error_nested (clean_append (clean_append (clean_quoted "Undefined(\"" refl) (clean_escaped (undefined_clean s u h))) (clean_quoted "\")" refl))

module _ (s : List ℕ) (clean : forbidden s ≡ false) where
  name_nested : (a e : ℕ) → Nested (letter_text strict s a e)
  unfolding letter_text in_text
  name_nested a e = characters_nested (letters (part a e s)) (letters_allowed s clean a e)

  leaf_nested : (l : Leaf) → LeafFit (allowed s) l → Nested (print_leaf strict s l)
  unfolding print_leaf sized_markup sized_end nest_opens
  leaf_nested (Leaf.Number a e) h o outer = fixed "<mn>" refl and number_nested (part a e s) h _ _ and fixed "</mn>" refl
  leaf_nested (Leaf.Letter c v) h o outer = letter_nested c v h o outer
  leaf_nested (Leaf.Operator c) h o outer = operator_nested c h o outer
  leaf_nested (Leaf.Function t) h o outer = fixed "<mi>" refl and fixed_nested t _ _ and fixed "</mi>" refl
  leaf_nested (Leaf.FunctionName a e) h o outer = fixed "<mi>" refl and name_nested a e _ _ and fixed "</mi>" refl
  leaf_nested (Leaf.Space w) h o outer = fixed "<mspace width=\"" refl and width_quoted w _ _ and fixed "em\"/>" refl
  leaf_nested (Leaf.StrechedOp p) h o outer = fixed "<mo stretchy=\"true\">" refl and stretched_nested s p h _ _ and fixed "</mo>" refl
  leaf_nested (Leaf.OtherOperator t) h o outer = fixed "<mo>" refl and fixed_nested t _ _ and fixed "</mo>" refl
  leaf_nested (Leaf.SizedParen z t) h o outer =
      fixed "<mrow><mo maxsize=\"" refl and fixed_quoted z _ _ and fixed "\" minsize=\"" refl and fixed_quoted z _ _ and fixed "\">" refl and fixed_nested t _ _ and fixed "</mo></mrow>" refl
  leaf_nested (Leaf.Text a e) h o outer = fixed "<mtext>" refl and name_nested a e _ _ and fixed "</mtext>" refl
  leaf_nested Leaf.Ampersand h o outer = error_nested (clean_quoted "Ampersand" refl) o outer
  leaf_nested Leaf.NewLine h o outer = error_nested (clean_quoted "NewLine" refl) o outer
  leaf_nested (Leaf.Undefined u) h o outer = undefined_nested s u h o outer

  mutual
    unfolding print nest_opens

    print_nested : (t : Node) → TreeFit (allowed s) t → Nested (print strict s t)
    print_nested (leaf l) h o outer = leaf_nested l h o outer
    print_nested (one k a) h o outer = one_nested s k a (print strict s a) h.0 h.1 (λ p q. print_nested a h.1 p q) o outer
    print_nested (two k a b) h o outer =
        two_nested k (print strict s a) (print strict s b) (λ p q. print_nested a h.0 p q) (λ p q. print_nested b h.1 p q) o outer
    print_nested (three k a b c) h o outer =
        three_nested k (print strict s a) (print strict s b) (print strict s c) (λ p q. print_nested a h.0 p q) (λ p q. print_nested b h.1 p q)
        (λ p q. print_nested c h.2 p q) o outer
    print_nested (row ns) h o outer = fixed "<mrow>" refl and all_nested ns h _ _ and fixed "</mrow>" refl
    print_nested (matrix align ns) h o outer = align_read align o outer and cells_nested ns h _ _ and fixed "</mtd></mtr></mtable>" refl

    pub all_nested : (ns : Nodes) → AllFit (allowed s) ns → Nested (print_all strict s ns)
    all_nested empty h o outer = fixed "" refl
    all_nested (n then ns) h o outer = print_nested n h.0 _ _ and all_nested ns h.1 _ _

    cells_nested : (ns : Nodes) → AllFit (allowed s) ns → Celled (print_cells strict s ns)
    cells_nested empty h o outer = fixed "" refl
    cells_nested (n then ns) h o outer = cell_nested n (print strict s n) (λ p q. print_nested n h.0 p q) _ _ and cells_nested ns h.1 _ _
