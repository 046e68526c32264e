-- The length of the markup is what its nodes add.
-- Assumes nothing.
use mathlib.Core.Path.{◌≡◌, refl, ap, ◌∙◌}
use mathlib.Core.List.{List, ◌++◌}
use Prim.Native.Nat.{ℕ, ◌+◌}
use native.Mathlib.Omega.{arith}
use lib.ListN.{length, length-append}
use Rattle.text.specs.Text.{bytes}
use Rattle.text.specs.declared.Dialect.{Dialect}
use Rattle.text.specs.Examples.{text_opens}
use Rattle.attribute.specs.declared.ColumnAlign.{ColumnAlign}
use Rattle.ast.specs.declared.Leaf.{Leaf}
use Rattle.ast.specs.declared.One.{One}
use Rattle.ast.specs.declared.Two.{Two}
use Rattle.ast.specs.declared.Three.{Three}
use Rattle.ast.specs.declared.Shape.{Shape}
use Rattle.ast.specs.Tree.{Node, leaf, one, two, three, row, matrix, Nodes, empty, ◌then◌}
use Rattle.ast.specs.Held.{count}
use Rattle.ast.specs.Sum.{leaf_or, mark_or, cell_or, part_sum, tree_sum, tree_sums, cell_sums}
use Rattle.markup.specs.Print.{print_leaf, slash, print_one, print_two, print_three, cell_leaf, cell, align_text, at_place, print, print_all, print_cells}
use Rattle.markup.specs.Own.{own_text, own}
use Rattle.markup.proofs.FrontLaws.{between, one_pieces, two_pieces, three_pieces}

-- under a slash
slash_own : (d : Dialect) (s : List ℕ) (a : Node) (m : List ℕ) → print d s a ≡ m → length m ≡ tree_sum (own d s) a → length (slash d a m) ≡ leaf_or (own d s).slashed a (tree_sum (own d s) a)
unfolding slash at_place print own own_text
slash_own d s (leaf l) m e h = rw (← e) refl
slash_own d s (one k a) m e h = h
slash_own d s (two k a b) m e h = h
slash_own d s (three k a b c) m e h = h
slash_own d s (row ns) m e h = h
slash_own d s (matrix align ns) m e h = h

between_own : (d : Dialect) (s : List ℕ) (k : One) (a : Node) (m : List ℕ) → print d s a ≡ m → length m ≡ tree_sum (own d s) a → length (between d k a m) ≡ part_sum (own d s) k a (tree_sum (own d s) a)
between_own d s (One.OverOp c acc) a m e h = h
between_own d s (One.UnderOp c acc) a m e h = h
between_own d s One.Sqrt a m e h = h
between_own d s (One.Fenced t u) a m e h = h
between_own d s One.Slashed a m e h = slash_own d s a m e h
between_own d s (One.Style st) a m e h = h

-- in a matrix
mark_own : (d : Dialect) (s : List ℕ) (l : Leaf) (m : List ℕ) → print_leaf d s l ≡ m → length (cell_leaf l m) ≡ mark_or (own d s).cell l (length m)
unfolding cell_leaf cell at_place own own_text
mark_own d s (Leaf.Number a e) m h = refl
mark_own d s (Leaf.Letter c v) m h = refl
mark_own d s (Leaf.Operator c) m h = refl
mark_own d s (Leaf.Function t) m h = refl
mark_own d s (Leaf.FunctionName a e) m h = refl
mark_own d s (Leaf.Space w) m h = refl
mark_own d s (Leaf.StrechedOp o) m h = refl
mark_own d s (Leaf.OtherOperator t) m h = refl
mark_own d s (Leaf.SizedParen z t) m h = refl
mark_own d s (Leaf.Text a e) m h = refl
mark_own d s Leaf.Ampersand m h = refl
mark_own d s Leaf.NewLine m h = refl
mark_own d s (Leaf.Undefined u) m h = refl

cell_own : (d : Dialect) (s : List ℕ) (n : Node) (m : List ℕ) → print d s n ≡ m → length m ≡ tree_sum (own d s) n → length (cell n m) ≡ cell_or (own d s).cell n (tree_sum (own d s) n)
unfolding cell print
cell_own d s (leaf l) m e h = mark_own d s l m e ∙ ap (λ x. mark_or (own d s).cell l x) h
cell_own d s (one k a) m e h = h
cell_own d s (two k a b) m e h = h
cell_own d s (three k a b c) m e h = h
cell_own d s (row ns) m e h = h
cell_own d s (matrix align ns) m e h = h

one_own : (d : Dialect) (s : List ℕ) (k : One) (a : Node) (m : List ℕ) (n : ℕ) → length (between d k a m) ≡ n → length (print_one d k a m) ≡ (own d s).around (Shape.One k) + n
unfolding own own_text
one_own d s k a m n h = rw (one_pieces d k a m) (simp length-append (omega arith))

two_own : (d : Dialect) (s : List ℕ) (k : Two) (m n : List ℕ) → length (print_two k m n) ≡ (own d s).around (Shape.Two k) + (length m + length n)
unfolding own own_text
two_own d s k m n = rw (two_pieces k m n) (simp length-append (omega arith))

three_own : (d : Dialect) (s : List ℕ) (k : Three) (m n o : List ℕ) → length (print_three k m n o) ≡ (own d s).around (Shape.Three k) + (length m + (length n + length o))
unfolding own own_text
three_own d s k m n o = rw (three_pieces k m n o) (simp length-append (omega arith))

leaf_own : (d : Dialect) (s : List ℕ) (l : Leaf) → length (print_leaf d s l) ≡ (own d s).plain l
unfolding own own_text at_place
leaf_own d s l = refl

row_own : (d : Dialect) (s : List ℕ) (c : ℕ) (m : List ℕ) (n : ℕ) → length m ≡ n → length (bytes "<mrow>" ++ m ++ bytes "</mrow>") ≡ (own d s).around (Shape.Row c) + n
unfolding own own_text
row_own d s c m n h = simp length-append (omega arith)

matrix_own : (d : Dialect) (s : List ℕ) (align : ColumnAlign) (c : ℕ) (m : List ℕ) (n : ℕ) → length m ≡ n
    → length (bytes "<mtable" ++ align_text d align ++ bytes "><mtr><mtd>" ++ m ++ bytes "</mtd></mtr></mtable>") ≡ (own d s).around (Shape.Matrix align c) + n
unfolding own own_text
matrix_own d s align c m n h = simp length-append (omega arith)

empty_own : length (bytes "") ≡ 0
unfolding text_opens
empty_own = refl

mutual
  unfolding print tree_sum

  -- the markup of a tree is as long as the tree's sum
  pub print_own : (d : Dialect) (s : List ℕ) (t : Node) → length (print d s t) ≡ tree_sum (own d s) t
  print_own d s (leaf l) = leaf_own d s l
  print_own d s (one k a) = one_own d s k a (print d s a) _ (between_own d s k a (print d s a) refl (print_own d s a))
  print_own d s (two k a b) = let x = print_own d s a in let y = print_own d s b in let z = two_own d s k (print d s a) (print d s b) in omega arith
  print_own d s (three k a b c) =
      let x = print_own d s a in
      let y = print_own d s b in
      let z = print_own d s c in
      let u = three_own d s k (print d s a) (print d s b) (print d s c) in
      omega arith
  print_own d s (row ns) = let x = print_all_own d s ns in row_own d s (count ns) (print_all d s ns) _ x
  print_own d s (matrix align ns) = let x = print_cells_own d s ns in matrix_own d s align (count ns) (print_cells d s ns) _ x

  pub print_all_own : (d : Dialect) (s : List ℕ) (ns : Nodes) → length (print_all d s ns) ≡ tree_sums (own d s) ns
  print_all_own d s empty = empty_own
  print_all_own d s (n then ns) = let x = print_own d s n in let y = print_all_own d s ns in length-append (print d s n) (print_all d s ns) ∙ (omega arith)

  pub print_cells_own : (d : Dialect) (s : List ℕ) (ns : Nodes) → length (print_cells d s ns) ≡ cell_sums (own d s) ns
  print_cells_own d s empty = empty_own
  print_cells_own d s (n then ns) =
      let x = cell_own d s n (print d s n) refl (print_own d s n) in
      let y = print_cells_own d s ns in
      length-append (cell n (print d s n)) (print_cells d s ns) ∙ (omega arith)
