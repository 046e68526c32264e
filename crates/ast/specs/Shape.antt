-- What node a record is, as numbers, and the node of such numbers.
-- Assumes nothing.
use Rattle.std.specs.Prelude.{Bool, true, false, List, [], ◌∷◌, ℕ, ◌^◌, ◌<◌, get_or}
use Rattle.attribute.specs.Codes.{variant_code, variant_of, accent_code, accent_of, thickness_code, thickness_of, align_code, align_of, display_code, display_of}
use Rattle.token.specs.declared.Undefined.{Undefined}
use Rattle.ast.specs.declared.Stretched.{Stretched}
use Rattle.ast.specs.declared.Leaf.{Leaf}
use Rattle.ast.specs.declared.One.{One}
use Rattle.ast.specs.declared.Two.{Two}
use Rattle.ast.specs.declared.Three.{Three}
use Rattle.ast.specs.declared.Shape.{Shape}
use Rattle.ast.specs.declared.Role.{Role}
use Rattle.ast.specs.declared.Fields.{Fields}
use Rattle.ast.specs.declared.Record.{Record}

abbrev pub numbers : ℕ → ℕ → ℕ → ℕ → Fields
numbers tag attr x y = record { tag = tag; attr = attr; x = x; y = y }

-- a tag for each kind of node, which its other numbers follow
abbrev pub leaf_fields : Leaf → Fields
leaf_fields (Leaf.Number a e) = numbers 0 0 a e
leaf_fields (Leaf.Letter c v) = numbers 1 (variant_code v) c 0
leaf_fields (Leaf.Operator c) = numbers 2 0 c 0
leaf_fields (Leaf.Function t) = numbers 3 0 t 0
leaf_fields (Leaf.FunctionName a e) = numbers 4 0 a e
leaf_fields (Leaf.Space w) = numbers 5 0 w 0
leaf_fields (Leaf.StrechedOp (Stretched.Character c)) = numbers 6 0 c 0
leaf_fields (Leaf.StrechedOp (Stretched.Fixed t)) = numbers 7 0 t 0
leaf_fields (Leaf.OtherOperator t) = numbers 8 0 t 0
leaf_fields (Leaf.SizedParen z t) = numbers 9 0 z t
leaf_fields (Leaf.Text a e) = numbers 10 0 a e
leaf_fields Leaf.Ampersand = numbers 11 0 0 0
leaf_fields Leaf.NewLine = numbers 12 0 0 0
leaf_fields (Leaf.Undefined Undefined.EOF) = numbers 13 0 0 0
leaf_fields (Leaf.Undefined Undefined.End) = numbers 14 0 0 0
leaf_fields (Leaf.Undefined Undefined.Right) = numbers 15 0 0 0
leaf_fields (Leaf.Undefined Undefined.RBrace) = numbers 16 0 0 0
leaf_fields (Leaf.Undefined Undefined.Underscore) = numbers 17 0 0 0
leaf_fields (Leaf.Undefined Undefined.Circumflex) = numbers 18 0 0 0
leaf_fields (Leaf.Undefined (Undefined.Command a e)) = numbers 19 0 a e

abbrev pub one_fields : One → Fields
one_fields (One.OverOp c v) = numbers 20 (accent_code v) c 0
one_fields (One.UnderOp c v) = numbers 21 (accent_code v) c 0
one_fields One.Sqrt = numbers 22 0 0 0
one_fields (One.Fenced t u) = numbers 23 0 t u
one_fields One.Slashed = numbers 24 0 0 0
one_fields (One.Style d) = numbers 25 (display_code d) 0 0

abbrev pub two_fields : Two → Fields
two_fields Two.Subscript = numbers 26 0 0 0
two_fields Two.Superscript = numbers 27 0 0 0
two_fields Two.Overset = numbers 28 0 0 0
two_fields Two.Underset = numbers 29 0 0 0
two_fields Two.Under = numbers 30 0 0 0
two_fields Two.Root = numbers 31 0 0 0
two_fields (Two.Frac l) = numbers 32 (thickness_code l) 0 0

abbrev pub three_fields : Three → Fields
three_fields Three.SubSup = numbers 33 0 0 0
three_fields Three.UnderOver = numbers 34 0 0 0

abbrev pub fields : Shape → Fields
fields (Shape.Leaf l) = leaf_fields l
fields (Shape.One k) = one_fields k
fields (Shape.Two k) = two_fields k
fields (Shape.Three k) = three_fields k
fields (Shape.Row n) = numbers 35 0 n 0
fields (Shape.Matrix align n) = numbers 36 (align_code align) n 0

-- the node of each tag
unfoldable pub shapes : List (ℕ → ℕ → ℕ → Shape)
shapes =
    (λ v x y. Shape.Leaf (Leaf.Number x y)) ∷
    (λ v x y. Shape.Leaf (Leaf.Letter x (variant_of v))) ∷
    (λ v x y. Shape.Leaf (Leaf.Operator x)) ∷
    (λ v x y. Shape.Leaf (Leaf.Function x)) ∷
    (λ v x y. Shape.Leaf (Leaf.FunctionName x y)) ∷
    (λ v x y. Shape.Leaf (Leaf.Space x)) ∷
    (λ v x y. Shape.Leaf (Leaf.StrechedOp (Stretched.Character x))) ∷
    (λ v x y. Shape.Leaf (Leaf.StrechedOp (Stretched.Fixed x))) ∷
    (λ v x y. Shape.Leaf (Leaf.OtherOperator x)) ∷
    (λ v x y. Shape.Leaf (Leaf.SizedParen x y)) ∷
    (λ v x y. Shape.Leaf (Leaf.Text x y)) ∷
    (λ v x y. Shape.Leaf Leaf.Ampersand) ∷
    (λ v x y. Shape.Leaf Leaf.NewLine) ∷
    (λ v x y. Shape.Leaf (Leaf.Undefined Undefined.EOF)) ∷
    (λ v x y. Shape.Leaf (Leaf.Undefined Undefined.End)) ∷
    (λ v x y. Shape.Leaf (Leaf.Undefined Undefined.Right)) ∷
    (λ v x y. Shape.Leaf (Leaf.Undefined Undefined.RBrace)) ∷
    (λ v x y. Shape.Leaf (Leaf.Undefined Undefined.Underscore)) ∷
    (λ v x y. Shape.Leaf (Leaf.Undefined Undefined.Circumflex)) ∷
    (λ v x y. Shape.Leaf (Leaf.Undefined (Undefined.Command x y))) ∷
    (λ v x y. Shape.One (One.OverOp x (accent_of v))) ∷
    (λ v x y. Shape.One (One.UnderOp x (accent_of v))) ∷
    (λ v x y. Shape.One One.Sqrt) ∷
    (λ v x y. Shape.One (One.Fenced x y)) ∷
    (λ v x y. Shape.One One.Slashed) ∷
    (λ v x y. Shape.One (One.Style (display_of v))) ∷
    (λ v x y. Shape.Two Two.Subscript) ∷
    (λ v x y. Shape.Two Two.Superscript) ∷
    (λ v x y. Shape.Two Two.Overset) ∷
    (λ v x y. Shape.Two Two.Underset) ∷
    (λ v x y. Shape.Two Two.Under) ∷
    (λ v x y. Shape.Two Two.Root) ∷
    (λ v x y. Shape.Two (Two.Frac (thickness_of v))) ∷
    (λ v x y. Shape.Three Three.SubSup) ∷
    (λ v x y. Shape.Three Three.UnderOver) ∷
    (λ v x y. Shape.Row x) ∷
    []

abbrev pub matrix_shape : ℕ → ℕ → ℕ → Shape
matrix_shape v x y = Shape.Matrix (align_of v) x

unfoldable pub shape_of : Fields → Shape
shape_of f = get_or shapes f.tag matrix_shape f.attr f.x f.y

-- what set_variant, `\middle` and an environment ask of a node
abbrev pub leaf_role : Leaf → Role
leaf_role (Leaf.Number a e) = Role.Other
leaf_role (Leaf.Letter c v) = Role.Letter
leaf_role (Leaf.Operator c) = Role.Operator c
leaf_role (Leaf.Function t) = Role.Other
leaf_role (Leaf.FunctionName a e) = Role.Other
leaf_role (Leaf.Space w) = Role.Other
leaf_role (Leaf.StrechedOp o) = Role.Other
leaf_role (Leaf.OtherOperator t) = Role.OtherOperator t
leaf_role (Leaf.SizedParen z t) = Role.Other
leaf_role (Leaf.Text a e) = Role.Other
leaf_role Leaf.Ampersand = Role.Other
leaf_role Leaf.NewLine = Role.Other
leaf_role (Leaf.Undefined u) = Role.Other

abbrev pub role_of : Shape → Role
role_of (Shape.Leaf l) = leaf_role l
role_of (Shape.One k) = Role.Other
role_of (Shape.Two k) = Role.Other
role_of (Shape.Three k) = Role.Other
role_of (Shape.Row n) = Role.Row n
role_of (Shape.Matrix align n) = Role.Other

abbrev pub is_matrix : Shape → Bool
is_matrix (Shape.Leaf l) = false
is_matrix (Shape.One k) = false
is_matrix (Shape.Two k) = false
is_matrix (Shape.Three k) = false
is_matrix (Shape.Row n) = false
is_matrix (Shape.Matrix align n) = true

abbrev pub fields_of : Record → Fields
fields_of r = numbers r.tag r.attr r.x r.y

-- the places that a leaf carries fit four bytes
abbrev pub Placed : Leaf → Type 0
Placed (Leaf.Number a e) = (a < 2 ^ 32) × (e < 2 ^ 32)
Placed (Leaf.Letter c v) = Unit {0}
Placed (Leaf.Operator c) = Unit {0}
Placed (Leaf.Function t) = Unit {0}
Placed (Leaf.FunctionName a e) = (a < 2 ^ 32) × (e < 2 ^ 32)
Placed (Leaf.Space w) = Unit {0}
Placed (Leaf.StrechedOp (Stretched.Character c)) = Unit {0}
Placed (Leaf.StrechedOp (Stretched.Fixed t)) = Unit {0}
Placed (Leaf.OtherOperator t) = Unit {0}
Placed (Leaf.SizedParen z t) = Unit {0}
Placed (Leaf.Text a e) = (a < 2 ^ 32) × (e < 2 ^ 32)
Placed Leaf.Ampersand = Unit {0}
Placed Leaf.NewLine = Unit {0}
Placed (Leaf.Undefined Undefined.EOF) = Unit {0}
Placed (Leaf.Undefined Undefined.End) = Unit {0}
Placed (Leaf.Undefined Undefined.Right) = Unit {0}
Placed (Leaf.Undefined Undefined.RBrace) = Unit {0}
Placed (Leaf.Undefined Undefined.Underscore) = Unit {0}
Placed (Leaf.Undefined Undefined.Circumflex) = Unit {0}
Placed (Leaf.Undefined (Undefined.Command a e)) = (a < 2 ^ 32) × (e < 2 ^ 32)
