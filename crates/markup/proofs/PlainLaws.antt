-- The markup of a tree without a dollar over a body without one has none.
-- Assumes nothing.
use mathlib.Core.Path.{◌≡◌, refl}
use mathlib.Core.Bool.{true}
use mathlib.Core.List.{List, ◌++◌}
use Prim.Native.Nat.{ℕ}
use lib.Dec.{eqb}
use Rattle.text.specs.Utf8.{encode}
use Rattle.text.specs.Text.{bytes, part}
use Rattle.text.specs.declared.Dialect.{Dialect}
use Rattle.text.specs.Plain.{no_dollar, plain}
use Rattle.text.proofs.Cases.{by_test}
use Rattle.text.proofs.PlainLaws.{plain_part, plain_encode, plain_bytes, plain_text, joined}
use Rattle.attribute.specs.declared.Variant.{Variant}
use Rattle.attribute.specs.declared.ColumnAlign.{ColumnAlign}
use Rattle.attribute.specs.declared.DisplayStyle.{DisplayStyle}
use Rattle.attribute.specs.declared.DisplayStyle.TheVariants.{Block, Inline}
use Rattle.attribute.specs.Names.{is_italic}
use Rattle.attribute.proofs.PlainLaws.{variant_plain, accent_plain, line_plain, align_plain}
use Rattle.token.specs.declared.Undefined.{Undefined}
use Rattle.token.specs.Texts.{text_of, text_in}
use Rattle.token.specs.Command.{operator_in}
use Rattle.token.specs.Debug.{escape, debug}
use Rattle.token.proofs.PlainLaws.{dollarless, text_plain_lem, width_plain, escape_plain, debug_plain}
use Rattle.lexer.proofs.PlainLaws.{letters_plain}
use Rattle.ast.specs.declared.Stretched.{Stretched}
use Rattle.ast.specs.declared.Leaf.{Leaf}
use Rattle.ast.specs.declared.One.{One}
use Rattle.ast.specs.declared.Two.{Two}
use Rattle.ast.specs.declared.Three.{Three}
use Rattle.ast.specs.Tree.{Node, leaf, one, two, three, row, matrix, Nodes, empty, ◌then◌}
use Rattle.ast.proofs.FitLaws.{StretchedFit, LeafFit, OneFit, TreeFit, AllFit}
use Rattle.markup.specs.Print.{fixed_text, width_text, letter_text, character, operator_text, stretched_text, variant_text, letter_markup, operator_markup, parse_error, sized_end, sized_markup, undefined_markup, print_leaf, slash_leaf, slash, display_text, print_one, print_two, print_three, cell_leaf, cell, align_text, print, print_all, print_cells}
use Rattle.markup.proofs.PrintLaws.{italic_letter, other_letter}

-- ---- the texts of numbers and attributes

fixed_plain : (d : Dialect) (t : ℕ) → plain (fixed_text d t) ≡ true
unfolding fixed_text
fixed_plain d t = plain_bytes (text_of (text_in d t)) (text_plain_lem (text_in d t))

attribute_plain : (v : Variant) → plain (variant_text v) ≡ true
unfolding variant_text
attribute_plain v = simp (joined, variant_plain v)

style_plain : (st : DisplayStyle) → plain (display_text st) ≡ true
unfolding display_text
style_plain Block = plain_bytes _ refl
style_plain Inline = plain_bytes _ refl

align_in_plain : (d : Dialect) (align : ColumnAlign) → plain (align_text d align) ≡ true
unfolding align_text
align_in_plain Dialect.Old align = plain_bytes _ (align_plain align)
align_in_plain Dialect.Strict ColumnAlign.Center = plain_bytes _ refl
align_in_plain Dialect.Strict ColumnAlign.Left = plain_bytes _ refl

sized_end_plain : (d : Dialect) → plain (sized_end d) ≡ true
unfolding sized_end
sized_end_plain Dialect.Old = plain_bytes _ refl
sized_end_plain Dialect.Strict = plain_bytes _ refl

-- ---- characters

character_plain : (d : Dialect) (c : ℕ) → no_dollar c ≡ true → plain (character d c) ≡ true
unfolding character
character_plain d c h = plain_text d (encode c) (plain_encode c h)

operator_in_plain : (d : Dialect) (c : ℕ) → no_dollar c ≡ true → no_dollar (operator_in d c) ≡ true
unfolding operator_in
operator_in_plain Dialect.Old c h = by_test (eqb c 8715) (λ e. rw (operator_in, e)) (λ e. rw (operator_in, e) h)
operator_in_plain Dialect.Strict c h = h

operator_text_plain : (d : Dialect) (c : ℕ) → no_dollar c ≡ true → plain (operator_text d c) ≡ true
unfolding operator_text
operator_text_plain d c h = character_plain d (operator_in d c) (operator_in_plain d c h)

-- ---- leaves

stretched_plain : (d : Dialect) (o : Stretched) → StretchedFit dollarless o → plain (stretched_text d o) ≡ true
unfolding stretched_text
stretched_plain d (Stretched.Character c) h = operator_text_plain d c h
stretched_plain d (Stretched.Fixed t) h = fixed_plain d t

letter_plain : (d : Dialect) (c : ℕ) (v : Variant) → no_dollar c ≡ true → plain (letter_markup d c v) ≡ true
letter_plain d c v h =
    by_test (is_italic v)
    (λ e. rw (italic_letter d c v e) (simp (joined, character_plain d c h)))
    (λ e. rw (other_letter d c v e) (simp (joined, character_plain d c h, attribute_plain v)))

operator_plain : (d : Dialect) (c : ℕ) → no_dollar c ≡ true → plain (operator_markup d c) ≡ true
unfolding operator_markup
operator_plain d c h =
    by_test (eqb c 8706) (λ e. rw (operator_markup, e) (plain_bytes _ refl)) (λ e. rw (operator_markup, e) (simp (joined, operator_text_plain d c h)))

-- of a leaf with the plain markup m, what stands under a slash and in a matrix is plain
slash_leaf_plain : (d : Dialect) (l : Leaf) (m : List ℕ) → LeafFit dollarless l → plain m ≡ true → plain (slash_leaf d l m) ≡ true
unfolding slash_leaf
slash_leaf_plain d (Leaf.Number a e) m h k = k
slash_leaf_plain d (Leaf.Letter c v) m h k = simp (joined, attribute_plain v, character_plain d c h)
slash_leaf_plain d (Leaf.Operator c) m h k = simp (joined, operator_text_plain d c h)
slash_leaf_plain d (Leaf.Function t) m h k = k
slash_leaf_plain d (Leaf.FunctionName a e) m h k = k
slash_leaf_plain d (Leaf.Space w) m h k = k
slash_leaf_plain d (Leaf.StrechedOp o) m h k = k
slash_leaf_plain d (Leaf.OtherOperator t) m h k = k
slash_leaf_plain d (Leaf.SizedParen z t) m h k = k
slash_leaf_plain d (Leaf.Text a e) m h k = k
slash_leaf_plain d Leaf.Ampersand m h k = k
slash_leaf_plain d Leaf.NewLine m h k = k
slash_leaf_plain d (Leaf.Undefined u) m h k = k

cell_leaf_plain : (l : Leaf) (m : List ℕ) → plain m ≡ true → plain (cell_leaf l m) ≡ true
unfolding cell_leaf
cell_leaf_plain (Leaf.Number a e) m k = k
cell_leaf_plain (Leaf.Letter c v) m k = k
cell_leaf_plain (Leaf.Operator c) m k = k
cell_leaf_plain (Leaf.Function t) m k = k
cell_leaf_plain (Leaf.FunctionName a e) m k = k
cell_leaf_plain (Leaf.Space w) m k = k
cell_leaf_plain (Leaf.StrechedOp o) m k = k
cell_leaf_plain (Leaf.OtherOperator t) m k = k
cell_leaf_plain (Leaf.SizedParen z t) m k = k
cell_leaf_plain (Leaf.Text a e) m k = k
cell_leaf_plain Leaf.Ampersand m k = plain_bytes _ refl
cell_leaf_plain Leaf.NewLine m k = plain_bytes _ refl
cell_leaf_plain (Leaf.Undefined u) m k = k

-- ---- nodes over the markup of their parts

slash_plain : (d : Dialect) (t : Node) (m : List ℕ) → TreeFit dollarless t → plain m ≡ true → plain (slash d t m) ≡ true
unfolding slash
slash_plain d (leaf l) m h k = slash_leaf_plain d l m h k
slash_plain d (one x a) m h k = k
slash_plain d (two x a b) m h k = k
slash_plain d (three x a b c) m h k = k
slash_plain d (row ns) m h k = k
slash_plain d (matrix align ns) m h k = k

cell_plain : (t : Node) (m : List ℕ) → plain m ≡ true → plain (cell t m) ≡ true
unfolding cell
cell_plain (leaf l) m k = cell_leaf_plain l m k
cell_plain (one x a) m k = k
cell_plain (two x a b) m k = k
cell_plain (three x a b c) m k = k
cell_plain (row ns) m k = k
cell_plain (matrix align ns) m k = k

one_plain : (d : Dialect) (x : One) (a : Node) (m : List ℕ) → OneFit dollarless x → TreeFit dollarless a → plain m ≡ true → plain (print_one d x a m) ≡ true
unfolding print_one
one_plain d (One.OverOp c acc) a m h t k = simp (joined, k, accent_plain acc, character_plain d c h)
one_plain d (One.UnderOp c acc) a m h t k = simp (joined, k, accent_plain acc, character_plain d c h)
one_plain d One.Sqrt a m h t k = simp (joined, k)
one_plain d (One.Fenced x y) a m h t k = simp (joined, k, fixed_plain)
one_plain d One.Slashed a m h t k = slash_plain d a m t k
one_plain d (One.Style st) a m h t k = simp (joined, k, style_plain st)

two_plain : (x : Two) (m n : List ℕ) → plain m ≡ true → plain n ≡ true → plain (print_two x m n) ≡ true
unfolding print_two
two_plain Two.Subscript m n h k = simp (joined, h, k)
two_plain Two.Superscript m n h k = simp (joined, h, k)
two_plain Two.Overset m n h k = simp (joined, h, k)
two_plain Two.Underset m n h k = simp (joined, h, k)
two_plain Two.Under m n h k = simp (joined, h, k)
two_plain Two.Root m n h k = simp (joined, h, k)
two_plain (Two.Frac lt) m n h k = simp (joined, line_plain lt, h, k)

three_plain : (x : Three) (m n o : List ℕ) → plain m ≡ true → plain n ≡ true → plain o ≡ true → plain (print_three x m n o) ≡ true
unfolding print_three
three_plain Three.SubSup m n o h k l = simp (joined, h, k, l)
three_plain Three.UnderOver m n o h k l = simp (joined, h, k, l)

-- ---- trees over a plain body

module _ (d : Dialect) (s : List ℕ) (body : plain s ≡ true) where
  name_plain : (a e : ℕ) → plain (letter_text d s a e) ≡ true
  unfolding letter_text
  name_plain a e = plain_text d _ (letters_plain (part a e s) (plain_part a e s body))

  undefined_plain : (u : Undefined) → plain (undefined_markup d s u) ≡ true
  unfolding undefined_markup parse_error
  undefined_plain u =
      let once = escape_plain (debug s u) (debug_plain s u body) in
      let whole : plain (bytes "Undefined(\"" ++ escape (debug s u) ++ bytes "\")") ≡ true = simp (joined, once) in
      simp (joined, plain_text d _ whole)

  leaf_plain : (l : Leaf) → LeafFit dollarless l → plain (print_leaf d s l) ≡ true
  unfolding print_leaf width_text sized_markup parse_error
  leaf_plain (Leaf.Number a e) h = simp (joined, plain_part a e s body)
  leaf_plain (Leaf.Letter c v) h = letter_plain d c v h
  leaf_plain (Leaf.Operator c) h = operator_plain d c h
  leaf_plain (Leaf.Function t) h = simp (joined, fixed_plain)
  leaf_plain (Leaf.FunctionName a e) h = simp (joined, name_plain a e)
  leaf_plain (Leaf.Space w) h = simp (joined, width_plain w)
  leaf_plain (Leaf.StrechedOp o) h = simp (joined, stretched_plain d o h)
  leaf_plain (Leaf.OtherOperator t) h = simp (joined, fixed_plain)
  leaf_plain (Leaf.SizedParen z t) h = simp (joined, fixed_plain, sized_end_plain d)
  leaf_plain (Leaf.Text a e) h = simp (joined, name_plain a e)
  leaf_plain Leaf.Ampersand h = simp (joined, plain_text d _ (plain_bytes "Ampersand" refl))
  leaf_plain Leaf.NewLine h = simp (joined, plain_text d _ (plain_bytes "NewLine" refl))
  leaf_plain (Leaf.Undefined u) h = undefined_plain u

  mutual
    unfolding print

    pub print_plain : (t : Node) → TreeFit dollarless t → plain (print d s t) ≡ true
    print_plain (leaf l) h = leaf_plain l h
    print_plain (one k a) h = one_plain d k a (print d s a) h.0 h.1 (print_plain a h.1)
    print_plain (two k a b) h = two_plain k (print d s a) (print d s b) (print_plain a h.0) (print_plain b h.1)
    print_plain (three k a b c) h =
        three_plain k (print d s a) (print d s b) (print d s c) (print_plain a h.0) (print_plain b h.1) (print_plain c h.2)
    print_plain (row ns) h = simp (joined, all_plain ns h)
    print_plain (matrix align ns) h = simp (joined, align_in_plain d align, cells_plain ns h)

    pub all_plain : (ns : Nodes) → AllFit dollarless ns → plain (print_all d s ns) ≡ true
    all_plain empty h = plain_bytes "" refl
    all_plain (n then ns) h = simp (joined, print_plain n h.0, all_plain ns h.1)

    cells_plain : (ns : Nodes) → AllFit dollarless ns → plain (print_cells d s ns) ≡ true
    cells_plain empty h = plain_bytes "" refl
    cells_plain (n then ns) h = simp (joined, cell_plain n (print d s n) (print_plain n h.0), cells_plain ns h.1)
