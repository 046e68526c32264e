-- The node of a node's numbers is the node, and the tags that have no role of their own.
-- Assumes nothing.
use mathlib.Core.Path.{◌≡◌, refl, sym, ap, ◌∙◌}
use mathlib.Core.Bool.{true, false}
use mathlib.Core.List.{List, [], ◌∷◌}
use Prim.Native.Nat.{ℕ, ◌<◌, ◌≤◌}
use borrow.Author.Tests.{le-leb, lt-leb}
use lib.Dec.{leb}
use lib.ListN.{get_or, get_or-eq_default}
use Rattle.text.proofs.Cases.{by_order}
use Rattle.text.proofs.Tabled.{each}
use Rattle.text.proofs.Keys.{NoneOf, elsewhere}
use Rattle.attribute.proofs.CodeLaws.{variant_back, accent_back, thickness_back, align_back, display_back}
use Rattle.token.specs.declared.Undefined.{Undefined}
use Rattle.ast.specs.declared.Stretched.{Stretched}
use Rattle.ast.specs.declared.Leaf.{Leaf}
use Rattle.ast.specs.declared.One.{One}
use Rattle.ast.specs.declared.Two.{Two}
use Rattle.ast.specs.declared.Three.{Three}
use Rattle.ast.specs.declared.Shape.{Shape}
use Rattle.ast.specs.declared.Role.{Role}
use Rattle.ast.specs.Shape.{numbers, fields, shapes, matrix_shape, shape_of, role_of, is_matrix}

pub shape_back : (k : Shape) → shape_of (fields k) ≡ k
unfolding shape_of shapes
shape_back (Shape.Leaf (Leaf.Number a e)) = refl
shape_back (Shape.Leaf (Leaf.Letter c v)) = ap (λ w. Shape.Leaf (Leaf.Letter c w)) (variant_back v)
shape_back (Shape.Leaf (Leaf.Operator c)) = refl
shape_back (Shape.Leaf (Leaf.Function t)) = refl
shape_back (Shape.Leaf (Leaf.FunctionName a e)) = refl
shape_back (Shape.Leaf (Leaf.Space w)) = refl
shape_back (Shape.Leaf (Leaf.StrechedOp (Stretched.Character c))) = refl
shape_back (Shape.Leaf (Leaf.StrechedOp (Stretched.Fixed t))) = refl
shape_back (Shape.Leaf (Leaf.OtherOperator t)) = refl
shape_back (Shape.Leaf (Leaf.SizedParen z t)) = refl
shape_back (Shape.Leaf (Leaf.Text a e)) = refl
shape_back (Shape.Leaf Leaf.Ampersand) = refl
shape_back (Shape.Leaf Leaf.NewLine) = refl
shape_back (Shape.Leaf (Leaf.Undefined Undefined.EOF)) = refl
shape_back (Shape.Leaf (Leaf.Undefined Undefined.End)) = refl
shape_back (Shape.Leaf (Leaf.Undefined Undefined.Right)) = refl
shape_back (Shape.Leaf (Leaf.Undefined Undefined.RBrace)) = refl
shape_back (Shape.Leaf (Leaf.Undefined Undefined.Underscore)) = refl
shape_back (Shape.Leaf (Leaf.Undefined Undefined.Circumflex)) = refl
shape_back (Shape.Leaf (Leaf.Undefined (Undefined.Command a e))) = refl
shape_back (Shape.One (One.OverOp c v)) = ap (λ w. Shape.One (One.OverOp c w)) (accent_back v)
shape_back (Shape.One (One.UnderOp c v)) = ap (λ w. Shape.One (One.UnderOp c w)) (accent_back v)
shape_back (Shape.One One.Sqrt) = refl
shape_back (Shape.One (One.Fenced t u)) = refl
shape_back (Shape.One One.Slashed) = refl
shape_back (Shape.One (One.Style d)) = ap (λ w. Shape.One (One.Style w)) (display_back d)
shape_back (Shape.Two Two.Subscript) = refl
shape_back (Shape.Two Two.Superscript) = refl
shape_back (Shape.Two Two.Overset) = refl
shape_back (Shape.Two Two.Underset) = refl
shape_back (Shape.Two Two.Under) = refl
shape_back (Shape.Two Two.Root) = refl
shape_back (Shape.Two (Two.Frac l)) = ap (λ w. Shape.Two (Two.Frac w)) (thickness_back l)
shape_back (Shape.Three Three.SubSup) = refl
shape_back (Shape.Three Three.UnderOver) = refl
shape_back (Shape.Row n) = refl
shape_back (Shape.Matrix align n) = ap (λ w. Shape.Matrix w n) (align_back align)

-- the tags of a letter, of the operators and of a row, the last first
abbrev pub roled : List ℕ
roled = 35 ∷ 8 ∷ 2 ∷ 1 ∷ []

pub other_role : (tag v x y : ℕ) → NoneOf roled tag → role_of (shape_of (numbers tag v x y)) ≡ Role.Other
unfolding shape_of shapes
other_role tag v x y h =
    by_order tag 36
    (λ lt. elsewhere (λ n. role_of (get_or shapes n matrix_shape v x y)) Role.Other roled 36 refl tag lt h)
    (λ ge. ap (λ g. role_of (g v x y)) (get_or-eq_default shapes matrix_shape ge))

-- the tags below 36 are no matrix's, all others are
pub no_matrix : (tag v x y : ℕ) → tag < 36 → is_matrix (shape_of (numbers tag v x y)) ≡ false
unfolding shape_of shapes
no_matrix tag v x y lt = each (λ n. is_matrix (get_or shapes n matrix_shape v x y)) (λ n. false) 36 refl tag lt

pub a_matrix : (tag v x y : ℕ) → 36 ≤ tag → is_matrix (shape_of (numbers tag v x y)) ≡ true
unfolding shape_of shapes
a_matrix tag v x y ge = ap (λ g. is_matrix (g v x y)) (get_or-eq_default shapes matrix_shape ge)

pub matrix_tag : (tag v x y : ℕ) → leb 36 tag ≡ is_matrix (shape_of (numbers tag v x y))
matrix_tag tag v x y =
    by_order tag 36
    (λ lt. lt-leb 36 tag lt ∙ sym (no_matrix tag v x y lt))
    (λ ge. le-leb 36 tag ge ∙ sym (a_matrix tag v x y ge))
