-- The length of what a record prints without its parts, and of a leaf at a place, kind by kind, as the numbers that the code adds.
-- Assumes nothing.
use mathlib.Core.Path.{◌≡◌, refl, sym, ap, ◌∙◌}
use mathlib.Core.Bool.{Bool, true, false}
use mathlib.Core.List.{List}
use Prim.Native.Nat.{ℕ, ◌+◌, ◌-◌, ◌^◌, ◌≤◌, ◌<◌}
use native.Mathlib.Omega.{arith}
use types.Run.{OneOf}
use denote.Enum.Declared.{tag_of}
use lib.Dec.{eqb, ltb}
use borrow.Author.Tests.{lt-ltb, le-ltb}
use lib.ListN.{length, get_or, length-append, length-take, length-drop, get_or-eq_default}
use Rattle.text.specs.Text.{bytes}
use Rattle.text.specs.declared.Dialect.{Dialect}
use Rattle.text.specs.Xml.{in_text}
use Rattle.text.specs.Examples.{text_opens}
use Rattle.text.proofs.Cases.{by_order}
use Rattle.text.proofs.Tabled.{tab, each}
use Rattle.attribute.specs.declared.Variant.{Variant}
use Rattle.attribute.specs.declared.Accent.{Accent}
use Rattle.attribute.specs.declared.LineThickness.{LineThickness}
use Rattle.attribute.specs.declared.ColumnAlign.{ColumnAlign}
use Rattle.attribute.specs.declared.DisplayStyle.{DisplayStyle}
use Rattle.attribute.specs.Names.{is_italic, accent, line_thickness, column_align}
use Rattle.token.specs.declared.Undefined.{Undefined}
use Rattle.token.specs.Texts.{width_of}
use Rattle.token.specs.Debug.{escape, debug}
use Rattle.ast.specs.declared.Stretched.{Stretched}
use Rattle.ast.specs.declared.Leaf.{Leaf}
use Rattle.ast.specs.declared.One.{One}
use Rattle.ast.specs.declared.Two.{Two}
use Rattle.ast.specs.declared.Shape.{Shape}
use Rattle.ast.specs.declared.Fields.{Fields}
use Rattle.ast.specs.Shape.{shapes, matrix_shape, shape_of}
use Rattle.ast.specs.Tree.{leaf}
use Rattle.markup.specs.declared.Place.{Place}
use Rattle.markup.specs.contracts.Place.{the_type}
use Rattle.markup.specs.Print.{fixed_text, width_text, letter_text, character, operator_text, stretched_text, variant_text, letter_markup, operator_markup, parse_error, sized_end, sized_markup, undefined_markup, print_leaf, slash_leaf, slash, cell_leaf, align_text, display_text, at_place}
use Rattle.markup.specs.Fronts.{accent_text, style_front, front_one, back_one, front_two, back_two}
use Rattle.markup.specs.Own.{under, own_text, own_errors}
use Rattle.markup.proofs.PrintLaws.{italic_letter, other_letter, error_ampersand, error_new_line, undefined_pieces}
use Rattle.markup.proofs.ShortLaws.{debug_short}
use Rattle.leaves.proofs.LeafLaws.{anywhere, unslashed, uncelled, no_slash, no_cell}

-- ---- a letter and an operator, plain and under a slash
pub letter_under : (d : Dialect) (c : ℕ) (v : Variant) → length (at_place d Place.Slashed (leaf (Leaf.Letter c v)) (letter_markup d c v)) ≡ 17 + length (variant_text v) + length (character d c)
unfolding text_opens at_place slash slash_leaf
letter_under d c v = simp length-append (omega arith)

pub letter_italic : (d : Dialect) (c : ℕ) (v : Variant) → is_italic v ≡ true → length (at_place d Place.Plain (leaf (Leaf.Letter c v)) (letter_markup d c v)) ≡ 9 + length (character d c)
unfolding text_opens at_place
letter_italic d c v e = rw (italic_letter d c v e) (simp length-append (omega arith))

pub letter_other : (d : Dialect) (c : ℕ) (v : Variant) → is_italic v ≡ false → length (at_place d Place.Plain (leaf (Leaf.Letter c v)) (letter_markup d c v)) ≡ 9 + length (variant_text v) + length (character d c)
unfolding text_opens at_place
letter_other d c v e = rw (other_letter d c v e) (simp length-append (omega arith))

pub operator_under : (d : Dialect) (c : ℕ) → length (at_place d Place.Slashed (leaf (Leaf.Operator c)) (operator_markup d c)) ≡ 17 + length (operator_text d c)
unfolding text_opens at_place slash slash_leaf
operator_under d c = simp length-append (omega arith)

pub operator_italic : (d : Dialect) (c : ℕ) → c ≡ 8706 → length (at_place d Place.Plain (leaf (Leaf.Operator c)) (operator_markup d c)) ≡ 33
unfolding text_opens at_place operator_markup
operator_italic d c e = rw e refl

pub operator_other : (d : Dialect) (c : ℕ) → eqb c 8706 ≡ false → length (at_place d Place.Plain (leaf (Leaf.Operator c)) (operator_markup d c)) ≡ 9 + length (operator_text d c)
unfolding text_opens at_place operator_markup
operator_other d c e = rw (operator_markup, e) (simp length-append (omega arith))

-- ---- an error text
pub undefined_long : (d : Dialect) (s : List ℕ) (u : Undefined) → length (undefined_markup d s u) ≡ 43 + length (in_text d (escape (debug s u)))
unfolding text_opens undefined_markup
undefined_long d s u = rw (undefined_pieces d (escape (debug s u))) (simp length-append (omega arith))

-- .. which is a number of the machine where the body is as short as one that is read
pub undefined_fits : (d : Dialect) (s : List ℕ) (u : Undefined) → length s ≤ 4096 → length (undefined_markup d s u) < 2 ^ 64
undefined_fits d s u short = rw (undefined_long d s u) (omega (arith, debug_short d s u))

-- ---- any kind, by its tag
pub tagged : (d : Dialect) (b : Bool) (s : List ℕ) (f : Fields) (tag : ℕ) {n : ℕ} → f.tag ≡ tag → n ≡ length (own_text d (under b) s (get_or shapes tag matrix_shape f.attr f.x f.y))
    → n ≡ length (own_text d (under b) s (shape_of f))
unfolding shape_of
tagged d b s f tag e h = rw e h

pub tagged_last : (d : Dialect) (b : Bool) (s : List ℕ) (f : Fields) {n : ℕ} → 36 ≤ f.tag → n ≡ length (own_text d (under b) s (matrix_shape f.attr f.x f.y))
    → n ≡ length (own_text d (under b) s (shape_of f))
unfolding shape_of shapes
tagged_last d b s f {n} le h = h ∙ sym (ap (λ g. length (own_text d (under b) s (g f.attr f.x f.y))) (get_or-eq_default shapes matrix_shape le))

-- a leaf that is the same under a slash
same_under : (d : Dialect) (b : Bool) (s : List ℕ) (l : Leaf) → slash_leaf d l (print_leaf d s l) ≡ print_leaf d s l → length (own_text d (under b) s (Shape.Leaf l)) ≡ length (print_leaf d s l)
unfolding own_text at_place slash
same_under d true s l e = ap (λ m. length m) e
same_under d false s l e = refl

pub own_letter : (d : Dialect) (b : Bool) (s : List ℕ) (c : ℕ) (v : Variant) → length (own_text d (under b) s (Shape.Leaf (Leaf.Letter c v))) ≡ length (at_place d (under b) (leaf (Leaf.Letter c v)) (letter_markup d c v))
unfolding own_text print_leaf
own_letter d b s c v = refl

pub own_operator : (d : Dialect) (b : Bool) (s : List ℕ) (c : ℕ) → length (own_text d (under b) s (Shape.Leaf (Leaf.Operator c))) ≡ length (at_place d (under b) (leaf (Leaf.Operator c)) (operator_markup d c))
unfolding own_text print_leaf
own_operator d b s c = refl

pub own_number : (d : Dialect) (b : Bool) (s : List ℕ) (a e : ℕ) → a ≤ e → e ≤ length s → length (own_text d (under b) s (Shape.Leaf (Leaf.Number a e))) ≡ 9 + (e - a)
unfolding text_opens print_leaf slash_leaf
own_number d b s a e le in_Body = same_under d b s (Leaf.Number a e) refl ∙ simp (length-append, length-take, length-drop) (omega arith)

pub own_function : (d : Dialect) (b : Bool) (s : List ℕ) (t : ℕ) → length (own_text d (under b) s (Shape.Leaf (Leaf.Function t))) ≡ 9 + length (fixed_text d t)
unfolding text_opens print_leaf slash_leaf
own_function d b s t = same_under d b s (Leaf.Function t) refl ∙ simp length-append (omega arith)

pub own_name : (d : Dialect) (b : Bool) (s : List ℕ) (a e : ℕ) → length (own_text d (under b) s (Shape.Leaf (Leaf.FunctionName a e))) ≡ 9 + length (letter_text d s a e)
unfolding text_opens print_leaf slash_leaf
own_name d b s a e = same_under d b s (Leaf.FunctionName a e) refl ∙ simp length-append (omega arith)

pub own_space : (d : Dialect) (b : Bool) (s : List ℕ) (w : ℕ) → length (own_text d (under b) s (Shape.Leaf (Leaf.Space w))) ≡ 20 + length (bytes (width_of w))
unfolding text_opens print_leaf slash_leaf width_text
own_space d b s w = same_under d b s (Leaf.Space w) refl ∙ simp length-append (omega arith)

pub own_stretched : (d : Dialect) (b : Bool) (s : List ℕ) (c : ℕ) → length (own_text d (under b) s (Shape.Leaf (Leaf.StrechedOp (Stretched.Character c)))) ≡ 25 + length (operator_text d c)
unfolding text_opens print_leaf slash_leaf stretched_text
own_stretched d b s c = same_under d b s (Leaf.StrechedOp (Stretched.Character c)) refl ∙ simp length-append (omega arith)

pub own_stretched_text : (d : Dialect) (b : Bool) (s : List ℕ) (t : ℕ) → length (own_text d (under b) s (Shape.Leaf (Leaf.StrechedOp (Stretched.Fixed t)))) ≡ 25 + length (fixed_text d t)
unfolding text_opens print_leaf slash_leaf stretched_text
own_stretched_text d b s t = same_under d b s (Leaf.StrechedOp (Stretched.Fixed t)) refl ∙ simp length-append (omega arith)

pub own_other : (d : Dialect) (b : Bool) (s : List ℕ) (t : ℕ) → length (own_text d (under b) s (Shape.Leaf (Leaf.OtherOperator t))) ≡ 9 + length (fixed_text d t)
unfolding text_opens print_leaf slash_leaf
own_other d b s t = same_under d b s (Leaf.OtherOperator t) refl ∙ simp length-append (omega arith)

pub own_sized : (d : Dialect) (b : Bool) (s : List ℕ) (z t : ℕ) → length (own_text d (under b) s (Shape.Leaf (Leaf.SizedParen z t))) ≡ 32 + length (fixed_text d z) + length (fixed_text d z) + length (fixed_text d t) + length (sized_end d)
unfolding text_opens print_leaf slash_leaf sized_markup
own_sized d b s z t = same_under d b s (Leaf.SizedParen z t) refl ∙ simp length-append (omega arith)

pub own_text_lem : (d : Dialect) (b : Bool) (s : List ℕ) (a e : ℕ) → length (own_text d (under b) s (Shape.Leaf (Leaf.Text a e))) ≡ 15 + length (letter_text d s a e)
unfolding text_opens print_leaf slash_leaf
own_text_lem d b s a e = same_under d b s (Leaf.Text a e) refl ∙ simp length-append (omega arith)

pub own_ampersand : (d : Dialect) (b : Bool) (s : List ℕ) → length (own_text d (under b) s (Shape.Leaf Leaf.Ampersand)) ≡ 39
unfolding text_opens print_leaf slash_leaf parse_error
own_ampersand d b s = same_under d b s Leaf.Ampersand refl ∙ ap (λ m. length m) (error_ampersand d)

pub own_new_line : (d : Dialect) (b : Bool) (s : List ℕ) → length (own_text d (under b) s (Shape.Leaf Leaf.NewLine)) ≡ 37
unfolding text_opens print_leaf slash_leaf parse_error
own_new_line d b s = same_under d b s Leaf.NewLine refl ∙ ap (λ m. length m) (error_new_line d)

pub own_undefined : (d : Dialect) (b : Bool) (s : List ℕ) (u : Undefined) → length (own_text d (under b) s (Shape.Leaf (Leaf.Undefined u))) ≡ length (undefined_markup d s u)
unfolding print_leaf slash_leaf
own_undefined d b s u = same_under d b s (Leaf.Undefined u) refl

-- ---- a leaf at any place, where it neither bears a slash nor breaks a matrix
pub at_any : (d : Dialect) (place : Place) (s : List ℕ) (l : Leaf) {n : ℕ} → slash_leaf d l (print_leaf d s l) ≡ print_leaf d s l → cell_leaf l (print_leaf d s l) ≡ print_leaf d s l
    → length (own_text d Place.Plain s (Shape.Leaf l)) ≡ n → n ≡ length (at_place d place (leaf l) (print_leaf d s l))
unfolding own_text at_place
at_any d place s l a b h = sym (ap (λ m. length m) (anywhere d place (print_leaf d s l) refl a b) ∙ h)

-- .. and a letter or an operator where it has no slash to bear
pub letter_unslashed : (d : Dialect) (place : Place) (c : ℕ) (v : Variant) → OneOf unslashed (tag_of the_type place)
    → length (at_place d Place.Plain (leaf (Leaf.Letter c v)) (letter_markup d c v)) ≡ length (at_place d place (leaf (Leaf.Letter c v)) (letter_markup d c v))
unfolding at_place cell_leaf
letter_unslashed d place c v h = ap (λ m. length m) (sym (no_slash d place (Leaf.Letter c v) (letter_markup d c v) h refl))

pub operator_unslashed : (d : Dialect) (place : Place) (c : ℕ) → OneOf unslashed (tag_of the_type place)
    → length (at_place d Place.Plain (leaf (Leaf.Operator c)) (operator_markup d c)) ≡ length (at_place d place (leaf (Leaf.Operator c)) (operator_markup d c))
unfolding at_place cell_leaf
operator_unslashed d place c h = ap (λ m. length m) (sym (no_slash d place (Leaf.Operator c) (operator_markup d c) h refl))

-- .. and an ampersand or a new line where it has no matrix to break
pub ampersand_uncelled : (d : Dialect) (place : Place) (s : List ℕ) → OneOf uncelled (tag_of the_type place)
    → 39 ≡ length (at_place d place (leaf Leaf.Ampersand) (print_leaf d s Leaf.Ampersand))
unfolding text_opens print_leaf slash_leaf
ampersand_uncelled d place s h = ap (λ m. length m) (sym (no_cell d place Leaf.Ampersand (print_leaf d s Leaf.Ampersand) h refl ∙ error_ampersand d))

pub new_line_uncelled : (d : Dialect) (place : Place) (s : List ℕ) → OneOf uncelled (tag_of the_type place)
    → 37 ≡ length (at_place d place (leaf Leaf.NewLine) (print_leaf d s Leaf.NewLine))
unfolding text_opens print_leaf slash_leaf
new_line_uncelled d place s h = ap (λ m. length m) (sym (no_cell d place Leaf.NewLine (print_leaf d s Leaf.NewLine) h refl ∙ error_new_line d))

-- ---- around parts
pub own_over : (d : Dialect) (b : Bool) (s : List ℕ) (c : ℕ) (acc : Accent) → length (own_text d (under b) s (Shape.One (One.OverOp c acc))) ≡ 34 + length (bytes (accent acc)) + length (character d c)
unfolding text_opens own_text front_one back_one accent_text
own_over d b s c acc = simp length-append (omega arith)

pub own_under : (d : Dialect) (b : Bool) (s : List ℕ) (c : ℕ) (acc : Accent) → length (own_text d (under b) s (Shape.One (One.UnderOp c acc))) ≡ 36 + length (bytes (accent acc)) + length (character d c)
unfolding text_opens own_text front_one back_one accent_text
own_under d b s c acc = simp length-append (omega arith)

pub own_fenced : (d : Dialect) (b : Bool) (s : List ℕ) (t u : ℕ) → length (own_text d (under b) s (Shape.One (One.Fenced t u))) ≡ 92 + length (fixed_text d t) + length (fixed_text d u)
unfolding text_opens own_text front_one back_one
own_fenced d b s t u = simp length-append (omega arith)

pub own_style : (d : Dialect) (b : Bool) (s : List ℕ) (st : DisplayStyle) → length (own_text d (under b) s (Shape.One (One.Style st))) ≡ 33 + length (display_text st)
unfolding text_opens own_text front_one back_one style_front
own_style d b s st = simp length-append (omega arith)

pub own_frac : (d : Dialect) (b : Bool) (s : List ℕ) (l : LineThickness) → length (own_text d (under b) s (Shape.Two (Two.Frac l))) ≡ 15 + length (bytes (line_thickness l))
unfolding text_opens own_text front_two back_two
own_frac d b s l = simp length-append (omega arith)

pub own_matrix : (d : Dialect) (b : Bool) (s : List ℕ) (align : ColumnAlign) (n : ℕ) → length (own_text d (under b) s (Shape.Matrix align n)) ≡ 39 + length (align_text d align)
unfolding text_opens own_text
own_matrix d b s align n = simp length-append (omega arith)

-- ---- error texts: the tags from 11 to 19
error_tag : ℕ → ℕ
error_tag tag = elim (ltb tag 11) [ true ↦ 0 | false ↦ elim (ltb tag 20) [ true ↦ 1 | false ↦ 0 ] ]

errors_tab : (v x y : ℕ) → tab (λ i. own_errors (get_or shapes i matrix_shape v x y)) 36 ≡ tab (λ i. error_tag i) 36
unfolding shapes error_tag
errors_tab v x y = refl

errors_tagged : (f : Fields) {n : ℕ} → n ≡ elim (ltb f.tag 11) [ true ↦ 0 | false ↦ elim (ltb f.tag 20) [ true ↦ 1 | false ↦ 0 ] ] → n ≡ own_errors (shape_of f)
unfolding shape_of shapes error_tag
errors_tagged f {n} h =
    by_order f.tag 36
    (λ lt. h ∙ sym (each (λ i. own_errors (get_or shapes i matrix_shape f.attr f.x f.y)) (λ i. error_tag i) 36 (errors_tab f.attr f.x f.y) f.tag lt))
    (λ ge. h ∙ rw (le-ltb f.tag 11 (omega arith), le-ltb f.tag 20 (omega arith)) (sym (ap (λ g. own_errors (g f.attr f.x f.y)) (get_or-eq_default shapes matrix_shape ge))))

pub errors_below : (f : Fields) → f.tag < 11 → 0 ≡ own_errors (shape_of f)
errors_below f lt = errors_tagged f (rw (lt-ltb f.tag 11 lt) refl)

pub errors_one : (f : Fields) → 11 ≤ f.tag → f.tag < 20 → 1 ≡ own_errors (shape_of f)
errors_one f le lt = errors_tagged f (rw (le-ltb f.tag 11 le, lt-ltb f.tag 20 lt) refl)

pub errors_above : (f : Fields) → 20 ≤ f.tag → 0 ≡ own_errors (shape_of f)
errors_above f le = errors_tagged f (rw (le-ltb f.tag 11 (omega arith), le-ltb f.tag 20 le) refl)
