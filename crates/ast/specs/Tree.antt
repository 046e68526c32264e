-- The Rust's `Node`, its cases grouped by the number of parts, which stand in the order in which they are printed.
-- Assumes nothing.
use Rattle.std.specs.Prelude.{ℕ, suc, ◌+◌}
use Rattle.attribute.specs.declared.Variant.{Variant}
use Rattle.attribute.specs.declared.ColumnAlign.{ColumnAlign}
use Rattle.ast.specs.declared.Leaf.{Leaf}
use Rattle.ast.specs.declared.One.{One}
use Rattle.ast.specs.declared.Two.{Two}
use Rattle.ast.specs.declared.Three.{Three}

mutual
  pub data Node : Type 0 where
    leaf : Leaf → Node
    one : One → Node → Node
    two : Two → Node → Node → Node
    three : Three → Node → Node → Node → Node
    row : Nodes → Node
    matrix : ColumnAlign → Nodes → Node

  pub data Nodes : Type 0 where
    empty : Nodes
    ◌then◌ : Node → Nodes → Nodes

infixr 20 ◌then◌
-- with one more node at the end
unfoldable pub snoc : Nodes → Node → Nodes
snoc empty n = n then empty
snoc (m then ns) n = m then (snoc ns n)

-- a letter with the variant v
unfoldable pub set_leaf : Variant → Leaf → Leaf
set_leaf v (Leaf.Number a e) = Leaf.Number a e
set_leaf v (Leaf.Letter c u) = Leaf.Letter c v
set_leaf v (Leaf.Operator c) = Leaf.Operator c
set_leaf v (Leaf.Function t) = Leaf.Function t
set_leaf v (Leaf.FunctionName a e) = Leaf.FunctionName a e
set_leaf v (Leaf.Space w) = Leaf.Space w
set_leaf v (Leaf.StrechedOp o) = Leaf.StrechedOp o
set_leaf v (Leaf.OtherOperator t) = Leaf.OtherOperator t
set_leaf v (Leaf.SizedParen z t) = Leaf.SizedParen z t
set_leaf v (Leaf.Text a e) = Leaf.Text a e
set_leaf v Leaf.Ampersand = Leaf.Ampersand
set_leaf v Leaf.NewLine = Leaf.NewLine
set_leaf v (Leaf.Undefined u) = Leaf.Undefined u

-- the Rust's `set_variant`: letters only, through rows inside rows
unfoldable mutual
  pub set_variant : Variant → Node → Node
  set_variant v (leaf l) = leaf (set_leaf v l)
  set_variant v (one k a) = one k a
  set_variant v (two k a b) = two k a b
  set_variant v (three k a b c) = three k a b c
  set_variant v (row ns) = row (set_variants v ns)
  set_variant v (matrix align ns) = matrix align ns

  pub set_variants : Variant → Nodes → Nodes
  set_variants v empty = empty
  set_variants v (n then ns) = set_variant v n then set_variants v ns

-- how many nodes a tree has, and how many some trees have together
unfoldable mutual
  pub size : Node → ℕ
  size (leaf l) = 1
  size (one k a) = suc (size a)
  size (two k a b) = suc (size a + size b)
  size (three k a b c) = suc (size a + size b + size c)
  size (row ns) = suc (sizes ns)
  size (matrix align ns) = suc (sizes ns)

  pub sizes : Nodes → ℕ
  sizes empty = 0
  sizes (n then ns) = size n + sizes ns

-- whoever unfolds this unfolds the definitions above, as an example has to
unfoldable pub ast_opens : Unit {0}
unfolding snoc set_leaf set_variant size
ast_opens = tt
