-- What is asked of the tokens that are read, asked of a tree: of the characters that its nodes carry, and of the places of its numbers and of
-- the names of unknown commands. A node more and a variant that is set keep it.
-- Assumes nothing.
use Rattle.attribute.specs.declared.Variant.{Variant}
use Rattle.token.specs.declared.Undefined.{Undefined}
use Rattle.token.proofs.FitLaws.{Asks}
use Rattle.ast.specs.declared.Stretched.{Stretched}
use Rattle.ast.specs.declared.Leaf.{Leaf}
use Rattle.ast.specs.declared.One.{One}
use Rattle.ast.specs.Tree.{Node, leaf, one, two, three, row, matrix, Nodes, empty, ◌then◌, snoc, set_leaf, set_variant, set_variants}

module _ (asks : Asks) where
  abbrev pub UndefinedFit : Undefined → Type 0
  UndefinedFit Undefined.EOF = Unit {0}
  UndefinedFit Undefined.End = Unit {0}
  UndefinedFit Undefined.Right = Unit {0}
  UndefinedFit Undefined.RBrace = Unit {0}
  UndefinedFit Undefined.Underscore = Unit {0}
  UndefinedFit Undefined.Circumflex = Unit {0}
  UndefinedFit (Undefined.Command a e) = asks.name a e

  abbrev pub StretchedFit : Stretched → Type 0
  StretchedFit (Stretched.Character c) = asks.ok c
  StretchedFit (Stretched.Fixed t) = Unit {0}

  abbrev pub LeafFit : Leaf → Type 0
  LeafFit (Leaf.Number a e) = asks.digits a e
  LeafFit (Leaf.Letter c v) = asks.ok c
  LeafFit (Leaf.Operator c) = asks.ok c
  LeafFit (Leaf.Function t) = Unit {0}
  LeafFit (Leaf.FunctionName a e) = Unit {0}
  LeafFit (Leaf.Space w) = Unit {0}
  LeafFit (Leaf.StrechedOp o) = StretchedFit o
  LeafFit (Leaf.OtherOperator t) = Unit {0}
  LeafFit (Leaf.SizedParen z t) = Unit {0}
  LeafFit (Leaf.Text a e) = Unit {0}
  LeafFit Leaf.Ampersand = Unit {0}
  LeafFit Leaf.NewLine = Unit {0}
  LeafFit (Leaf.Undefined u) = UndefinedFit u

  abbrev pub OneFit : One → Type 0
  OneFit (One.OverOp c acc) = asks.ok c
  OneFit (One.UnderOp c acc) = asks.ok c
  OneFit One.Sqrt = Unit {0}
  OneFit (One.Fenced t u) = Unit {0}
  OneFit One.Slashed = Unit {0}
  OneFit (One.Style d) = Unit {0}

  abbrev mutual
    pub TreeFit : Node → Type 0
    TreeFit (leaf l) = LeafFit l
    TreeFit (one k a) = OneFit k × TreeFit a
    TreeFit (two k a b) = TreeFit a × TreeFit b
    TreeFit (three k a b c) = TreeFit a × TreeFit b × TreeFit c
    TreeFit (row ns) = AllFit ns
    TreeFit (matrix align ns) = AllFit ns

    pub AllFit : Nodes → Type 0
    AllFit empty = Unit {0}
    AllFit (n then ns) = TreeFit n × AllFit ns

  -- one node more
  pub snoc_fit : (ns : Nodes) (n : Node) → AllFit ns → TreeFit n → AllFit (snoc ns n)
  unfolding snoc
  snoc_fit empty n all here = (here, tt)
  snoc_fit (m then ns) n all here = (all.0, snoc_fit ns n all.1 here)

  -- a variant that is set
  set_fit : (v : Variant) (l : Leaf) → LeafFit l → LeafFit (set_leaf v l)
  unfolding set_leaf
  set_fit v (Leaf.Number a e) h = h
  set_fit v (Leaf.Letter c u) h = h
  set_fit v (Leaf.Operator c) h = h
  set_fit v (Leaf.Function t) h = h
  set_fit v (Leaf.FunctionName a e) h = h
  set_fit v (Leaf.Space w) h = h
  set_fit v (Leaf.StrechedOp o) h = h
  set_fit v (Leaf.OtherOperator t) h = h
  set_fit v (Leaf.SizedParen z t) h = h
  set_fit v (Leaf.Text a e) h = h
  set_fit v Leaf.Ampersand h = h
  set_fit v Leaf.NewLine h = h
  set_fit v (Leaf.Undefined u) h = h

  mutual
    unfolding set_variant set_variants

    pub variant_fit : (v : Variant) (n : Node) → TreeFit n → TreeFit (set_variant v n)
    variant_fit v (leaf l) h = set_fit v l h
    variant_fit v (one k a) h = h
    variant_fit v (two k a b) h = h
    variant_fit v (three k a b c) h = h
    variant_fit v (row ns) h = variants_fit v ns h
    variant_fit v (matrix align ns) h = h

    variants_fit : (v : Variant) (ns : Nodes) → AllFit ns → AllFit (set_variants v ns)
    variants_fit v empty h = tt
    variants_fit v (n then ns) h = (variant_fit v n h.0, variants_fit v ns h.1)
