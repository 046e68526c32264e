-- What node the record of a held tree is, and its role.
-- Assumes nothing.
use mathlib.Core.Path.{◌≡◌, ap, ◌∙◌}
use mathlib.Core.List.{List}
use Prim.Native.Nat.{ℕ}
use Rattle.text.proofs.Cases.{never}
use Rattle.ast.specs.declared.Leaf.{Leaf}
use Rattle.ast.specs.declared.Shape.{Shape}
use Rattle.ast.specs.declared.Role.{Role}
use Rattle.ast.specs.Shape.{fields, fields_of, shape_of, leaf_role, role_of}
use Rattle.ast.specs.Store.{record_at}
use Rattle.ast.specs.Tree.{Node, leaf, one, two, three, row, matrix}
use Rattle.ast.specs.Held.{count, Holds}
use Rattle.ast.proofs.ShapeLaws.{shape_back}

-- the kind of a tree's root
abbrev pub kind_of : Node → Shape
kind_of (leaf l) = Shape.Leaf l
kind_of (one k a) = Shape.One k
kind_of (two k a b) = Shape.Two k
kind_of (three k a b c) = Shape.Three k
kind_of (row ns) = Shape.Row (count ns)
kind_of (matrix align ns) = Shape.Matrix align (count ns)

-- the root's record has the numbers of its kind
pub kind_held : (st : List ℕ) (lo i : ℕ) (t : Node) → Holds st lo i t → fields_of (record_at st i) ≡ fields (kind_of t)
kind_held st lo i (leaf l) h = h.1.kind
kind_held st lo i (one k a) h = h.stands.kind
kind_held st lo i (two k a b) h = h.stands.kind
kind_held st lo i (three k a b c) h = h.stands.kind
kind_held st lo i (row ns) h = h.stands.kind
kind_held st lo i (matrix align ns) h = h.rowed.stands.kind

-- so what is read there is the kind
pub shape_held : (st : List ℕ) (lo i : ℕ) (t : Node) → Holds st lo i t → shape_of (fields_of (record_at st i)) ≡ kind_of t
shape_held st lo i t h = ap (λ f. shape_of f) (kind_held st lo i t h) ∙ shape_back (kind_of t)

-- .. and so is the role
pub role_held : (st : List ℕ) (lo i : ℕ) (t : Node) → Holds st lo i t → role_of (shape_of (fields_of (record_at st i))) ≡ role_of (kind_of t)
role_held st lo i t h = ap (λ k. role_of k) (shape_held st lo i t h)

-- no leaf has the role of a row
pub leaf_no_row : (l : Leaf) (n : ℕ) → leaf_role l ≡ Role.Row n → ⊥
leaf_no_row (Leaf.Number a e) n h = never cc
leaf_no_row (Leaf.Letter c v) n h = never cc
leaf_no_row (Leaf.Operator c) n h = never cc
leaf_no_row (Leaf.Function t) n h = never cc
leaf_no_row (Leaf.FunctionName a e) n h = never cc
leaf_no_row (Leaf.Space w) n h = never cc
leaf_no_row (Leaf.StrechedOp o) n h = never cc
leaf_no_row (Leaf.OtherOperator t) n h = never cc
leaf_no_row (Leaf.SizedParen z t) n h = never cc
leaf_no_row (Leaf.Text a e) n h = never cc
leaf_no_row Leaf.Ampersand n h = never cc
leaf_no_row Leaf.NewLine n h = never cc
leaf_no_row (Leaf.Undefined u) n h = never cc
