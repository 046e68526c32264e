-- The places that a leaf carries lie in a body of n bytes.
-- Assumes nothing.
use Rattle.std.specs.Prelude.{ℕ, ◌≤◌}
use Rattle.token.specs.Debug.{Inside}
use Rattle.ast.specs.declared.Leaf.{Leaf}
use Rattle.ast.specs.declared.Shape.{Shape}
use Rattle.ast.specs.Tree.{Node, leaf, one, two, three, row, matrix, Nodes, empty, ◌then◌}

abbrev pub LeafInside : ℕ → Leaf → Type 0
LeafInside n (Leaf.Number a e) = (a ≤ e) × (e ≤ n)
LeafInside n (Leaf.Letter c v) = Unit {0}
LeafInside n (Leaf.Operator c) = Unit {0}
LeafInside n (Leaf.Function t) = Unit {0}
LeafInside n (Leaf.FunctionName a e) = (a ≤ e) × (e ≤ n)
LeafInside n (Leaf.Space w) = Unit {0}
LeafInside n (Leaf.StrechedOp o) = Unit {0}
LeafInside n (Leaf.OtherOperator t) = Unit {0}
LeafInside n (Leaf.SizedParen z t) = Unit {0}
LeafInside n (Leaf.Text a e) = (a ≤ e) × (e ≤ n)
LeafInside n Leaf.Ampersand = Unit {0}
LeafInside n Leaf.NewLine = Unit {0}
LeafInside n (Leaf.Undefined u) = Inside n u

-- .. of the leaf that a record is
abbrev pub ShapeInside : ℕ → Shape → Type 0
ShapeInside n (Shape.Leaf l) = LeafInside n l
ShapeInside n (Shape.One k) = Unit {0}
ShapeInside n (Shape.Two k) = Unit {0}
ShapeInside n (Shape.Three k) = Unit {0}
ShapeInside n (Shape.Row c) = Unit {0}
ShapeInside n (Shape.Matrix align c) = Unit {0}

-- .. of every leaf of a tree
abbrev mutual
  pub TreeInside : ℕ → Node → Type 0
  TreeInside n (leaf l) = LeafInside n l
  TreeInside n (one k a) = TreeInside n a
  TreeInside n (two k a b) = TreeInside n a × TreeInside n b
  TreeInside n (three k a b c) = TreeInside n a × TreeInside n b × TreeInside n c
  TreeInside n (row ns) = AllInside n ns
  TreeInside n (matrix align ns) = AllInside n ns

  pub AllInside : ℕ → Nodes → Type 0
  AllInside n empty = Unit {0}
  AllInside n (a then ns) = TreeInside n a × AllInside n ns
