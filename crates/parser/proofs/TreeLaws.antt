-- The sizes of the trees that the parser makes, and the places in them.
-- Assumes nothing.
use mathlib.Core.Path.{◌≡◌, refl, ap, ap₂}
use Prim.Native.Nat.{ℕ, suc, ◌+◌, ◌≤◌}
use native.Mathlib.Omega.{arith}
use Rattle.attribute.specs.declared.Variant.{Variant}
use Rattle.ast.specs.declared.Leaf.{Leaf}
use Rattle.ast.specs.Tree.{Node, leaf, one, two, three, row, matrix, Nodes, empty, ◌then◌, snoc, set_leaf, set_variant, set_variants, size, sizes}
use Rattle.ast.specs.Inside.{LeafInside, TreeInside, AllInside}
use Rattle.parser.specs.Parse.{opened}

-- ---- one node more

pub snoc_sizes : (ns : Nodes) (n : Node) → sizes (snoc ns n) ≡ sizes ns + size n
unfolding snoc sizes
snoc_sizes empty n = omega arith
snoc_sizes (m then ns) n = let more = snoc_sizes ns n in omega arith

pub snoc_inside : (k : ℕ) (ns : Nodes) (n : Node) → AllInside k ns → TreeInside k n → AllInside k (snoc ns n)
unfolding snoc
snoc_inside k empty n all here = (here, tt)
snoc_inside k (m then ns) n all here = (all.0, snoc_inside k ns n all.1 here)

-- ---- a variant that is set

leaf_inside : (k : ℕ) (v : Variant) (l : Leaf) → LeafInside k l → LeafInside k (set_leaf v l)
unfolding set_leaf
leaf_inside k v (Leaf.Number a e) h = h
leaf_inside k v (Leaf.Letter c u) h = h
leaf_inside k v (Leaf.Operator c) h = h
leaf_inside k v (Leaf.Function t) h = h
leaf_inside k v (Leaf.FunctionName a e) h = h
leaf_inside k v (Leaf.Space w) h = h
leaf_inside k v (Leaf.StrechedOp o) h = h
leaf_inside k v (Leaf.OtherOperator t) h = h
leaf_inside k v (Leaf.SizedParen z t) h = h
leaf_inside k v (Leaf.Text a e) h = h
leaf_inside k v Leaf.Ampersand h = h
leaf_inside k v Leaf.NewLine h = h
leaf_inside k v (Leaf.Undefined u) h = h

mutual
  unfolding set_variant set_variants size sizes

  pub variant_size : (v : Variant) (n : Node) → size (set_variant v n) ≡ size n
  variant_size v (leaf l) = refl
  variant_size v (one k a) = refl
  variant_size v (two k a b) = refl
  variant_size v (three k a b c) = refl
  variant_size v (row ns) = ap suc (variant_sizes v ns)
  variant_size v (matrix align ns) = refl

  pub variant_sizes : (v : Variant) (ns : Nodes) → sizes (set_variants v ns) ≡ sizes ns
  variant_sizes v empty = refl
  variant_sizes v (n then ns) = ap₂ ◌+◌ (variant_size v n) (variant_sizes v ns)

mutual
  unfolding set_variant set_variants

  pub variant_inside : (k : ℕ) (v : Variant) (n : Node) → TreeInside k n → TreeInside k (set_variant v n)
  variant_inside k v (leaf l) h = leaf_inside k v l h
  variant_inside k v (one x a) h = h
  variant_inside k v (two x a b) h = h
  variant_inside k v (three x a b c) h = h
  variant_inside k v (row ns) h = variants_inside k v ns h
  variant_inside k v (matrix align ns) h = h

  pub variants_inside : (k : ℕ) (v : Variant) (ns : Nodes) → AllInside k ns → AllInside k (set_variants v ns)
  variants_inside k v empty h = tt
  variants_inside k v (n then ns) h = (variant_inside k v n h.0, variants_inside k v ns h.1)

-- ---- a row that is opened

pub opened_sizes : (n : Node) → sizes (opened n) ≤ size n
unfolding opened size sizes
opened_sizes (leaf l) = omega arith
opened_sizes (one k a) = omega arith
opened_sizes (two k a b) = omega arith
opened_sizes (three k a b c) = omega arith
opened_sizes (row ns) = omega arith
opened_sizes (matrix align ns) = omega arith

pub opened_inside : (k : ℕ) (n : Node) → TreeInside k n → AllInside k (opened n)
unfolding opened
opened_inside k (leaf l) h = (h, tt)
opened_inside k (one x a) h = (h, tt)
opened_inside k (two x a b) h = (h, tt)
opened_inside k (three x a b c) h = (h, tt)
opened_inside k (row ns) h = h
opened_inside k (matrix align ns) h = (h, tt)
