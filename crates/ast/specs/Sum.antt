-- A measure of trees: what each node adds, added along the tree, and added over the records as they lie in the store.
-- Assumes nothing.
use Rattle.std.specs.Prelude.{Bool, true, false, List, ℕ, zero, suc, ◌+◌, ◌-◌, ◌*◌, ◌≤◌, length, ltb}
use Rattle.std.proofs.Math.Option.{Option, none, some}
use Rattle.ast.specs.declared.Leaf.{Leaf}
use Rattle.ast.specs.declared.One.{One}
use Rattle.ast.specs.declared.Shape.{Shape}
use Rattle.ast.specs.declared.Fate.{Fate}
use Rattle.ast.specs.Shape.{fields_of, shape_of}
use Rattle.ast.specs.Store.{record_at}
use Rattle.ast.specs.Tree.{Node, leaf, one, two, three, row, matrix, Nodes, empty, ◌then◌}
use Rattle.ast.specs.Held.{count, operand_of, row_at}

-- what is added for a leaf, for one under a slash, for an `&` or `\\` that is a direct part of a matrix, and for a node around its parts
pub record Weigh : Type 0 where
  pub plain : Leaf → ℕ
  pub slashed : Leaf → ℕ
  pub cell : Leaf → ℕ
  pub around : Shape → ℕ

-- ---- along the tree

-- f of a leaf; any other node adds m
abbrev pub leaf_or : (Leaf → ℕ) → Node → ℕ → ℕ
leaf_or f (leaf l) m = f l
leaf_or f (one k a) m = m
leaf_or f (two k a b) m = m
leaf_or f (three k a b c) m = m
leaf_or f (row ns) m = m
leaf_or f (matrix align ns) m = m

-- an `&` or `\\`, which is something else where it is a direct part of a matrix
abbrev pub is_mark : Leaf → Bool
is_mark (Leaf.Number a e) = false
is_mark (Leaf.Letter c v) = false
is_mark (Leaf.Operator c) = false
is_mark (Leaf.Function t) = false
is_mark (Leaf.FunctionName a e) = false
is_mark (Leaf.Space w) = false
is_mark (Leaf.StrechedOp o) = false
is_mark (Leaf.OtherOperator t) = false
is_mark (Leaf.SizedParen z t) = false
is_mark (Leaf.Text a e) = false
is_mark Leaf.Ampersand = true
is_mark Leaf.NewLine = true
is_mark (Leaf.Undefined u) = false

abbrev pub either : Bool → ℕ → ℕ → ℕ
either true c m = c
either false c m = m

-- f of a mark; any other leaf adds m
abbrev pub mark_or : (Leaf → ℕ) → Leaf → ℕ → ℕ
mark_or f l m = either (is_mark l) (f l) m

-- .. and so does any other node
abbrev pub cell_or : (Leaf → ℕ) → Node → ℕ → ℕ
cell_or f (leaf l) m = mark_or f l m
cell_or f (one k a) m = m
cell_or f (two k a b) m = m
cell_or f (three k a b c) m = m
cell_or f (row ns) m = m
cell_or f (matrix align ns) m = m

-- the part a of a node of the kind k, which adds m elsewhere
abbrev pub part_sum : Weigh → One → Node → ℕ → ℕ
part_sum w (One.OverOp c acc) a m = m
part_sum w (One.UnderOp c acc) a m = m
part_sum w One.Sqrt a m = m
part_sum w (One.Fenced t u) a m = m
part_sum w One.Slashed a m = leaf_or w.slashed a m
part_sum w (One.Style d) a m = m

unfoldable mutual
  pub tree_sum : Weigh → Node → ℕ
  tree_sum w (leaf l) = w.plain l
  tree_sum w (one k a) = w.around (Shape.One k) + part_sum w k a (tree_sum w a)
  tree_sum w (two k a b) = w.around (Shape.Two k) + (tree_sum w a + tree_sum w b)
  tree_sum w (three k a b c) = w.around (Shape.Three k) + (tree_sum w a + (tree_sum w b + tree_sum w c))
  tree_sum w (row ns) = w.around (Shape.Row (count ns)) + tree_sums w ns
  tree_sum w (matrix align ns) = w.around (Shape.Matrix align (count ns)) + cell_sums w ns

  pub tree_sums : Weigh → Nodes → ℕ
  tree_sums w empty = 0
  tree_sums w (n then ns) = tree_sum w n + tree_sums w ns

  pub cell_sums : Weigh → Nodes → ℕ
  cell_sums w empty = 0
  cell_sums w (n then ns) = cell_or w.cell n (tree_sum w n) + cell_sums w ns

-- ---- over the records

unfoldable pub shape_at : List ℕ → ℕ → Shape
shape_at st i = shape_of (fields_of (record_at st i))

abbrev pub operand_fate : Option Leaf → Fate
operand_fate none = Fate.Counted
operand_fate (some l) = Fate.Dropped

abbrev pub part_fate : One → Fate
part_fate (One.OverOp c acc) = Fate.Counted
part_fate (One.UnderOp c acc) = Fate.Counted
part_fate One.Sqrt = Fate.Counted
part_fate (One.Fenced t u) = Fate.Counted
part_fate One.Slashed = Fate.Slashed
part_fate (One.Style d) = Fate.Counted

-- .. by the record behind it, and by whether it is a row's: the operand of a stretched operator is dropped, and the row of which the nodes are
-- those of a matrix
abbrev pub fate : Shape → Bool → Fate
fate (Shape.Leaf l) r = operand_fate (operand_of l)
fate (Shape.One k) r = part_fate k
fate (Shape.Two k) r = Fate.Counted
fate (Shape.Three k) r = Fate.Counted
fate (Shape.Row n) r = Fate.Counted
fate (Shape.Matrix align n) r = elim r [ true ↦ Fate.Dropped | false ↦ Fate.Counted ]

-- .. of the record at i, of `top` records
unfoldable pub fate_at : List ℕ → ℕ → ℕ → Fate
fate_at st top i = elim (ltb (suc i) top) [ true ↦ fate (shape_at st (suc i)) (row_at st i) | false ↦ Fate.Counted ]

abbrev pub mark_sum : (Leaf → ℕ) → Shape → ℕ
mark_sum f (Shape.Leaf l) = mark_or f l 0
mark_sum f (Shape.One k) = 0
mark_sum f (Shape.Two k) = 0
mark_sum f (Shape.Three k) = 0
mark_sum f (Shape.Row n) = 0
mark_sum f (Shape.Matrix align n) = 0

-- f of the marks among n nodes, each the next of the one before, from the index k on
unfoldable pub cells : (Leaf → ℕ) → List ℕ → ℕ → ℕ → ℕ
cells f st zero k = 0
cells f st (suc n) k = mark_sum f (shape_at st k) + cells f st n (record_at st k).next

-- n nodes from the index k on are in the store
unfoldable pub Chain : List ℕ → ℕ → ℕ → Type 0
Chain st zero k = Unit {0}
Chain st (suc n) k = (k * 24 + 24 ≤ length st) × Chain st n (record_at st k).next

-- a number for each mark
abbrev pub marks : ℕ → ℕ → Leaf → ℕ
marks amp line (Leaf.Number a e) = 0
marks amp line (Leaf.Letter c v) = 0
marks amp line (Leaf.Operator c) = 0
marks amp line (Leaf.Function t) = 0
marks amp line (Leaf.FunctionName a e) = 0
marks amp line (Leaf.Space w) = 0
marks amp line (Leaf.StrechedOp o) = 0
marks amp line (Leaf.OtherOperator t) = 0
marks amp line (Leaf.SizedParen z t) = 0
marks amp line (Leaf.Text a e) = 0
marks amp line Leaf.Ampersand = amp
marks amp line Leaf.NewLine = line
marks amp line (Leaf.Undefined u) = 0

-- what a record of the kind k, of which the first part is at a, adds where its leaf adds f; a matrix adds its cells
abbrev pub own_sum : Weigh → (Leaf → ℕ) → List ℕ → Shape → ℕ → ℕ
own_sum w f st (Shape.Leaf l) a = f l
own_sum w f st (Shape.One k) a = w.around (Shape.One k)
own_sum w f st (Shape.Two k) a = w.around (Shape.Two k)
own_sum w f st (Shape.Three k) a = w.around (Shape.Three k)
own_sum w f st (Shape.Row n) a = w.around (Shape.Row n)
own_sum w f st (Shape.Matrix align n) a = w.around (Shape.Matrix align n) + cells w.cell st n a

-- .. and what a matrix takes back, which its cells have added
abbrev pub own_taken : Weigh → List ℕ → Shape → ℕ → ℕ
own_taken w st (Shape.Leaf l) a = 0
own_taken w st (Shape.One k) a = 0
own_taken w st (Shape.Two k) a = 0
own_taken w st (Shape.Three k) a = 0
own_taken w st (Shape.Row n) a = 0
own_taken w st (Shape.Matrix align n) a = cells w.plain st n a

abbrev pub added_by : Weigh → List ℕ → Fate → ℕ → ℕ
added_by w st Fate.Counted i = own_sum w w.plain st (shape_at st i) (record_at st i).a
added_by w st Fate.Slashed i = own_sum w w.slashed st (shape_at st i) (record_at st i).a
added_by w st Fate.Dropped i = 0

abbrev pub taken_by : Weigh → List ℕ → Fate → ℕ → ℕ
taken_by w st Fate.Counted i = own_taken w st (shape_at st i) (record_at st i).a
taken_by w st Fate.Slashed i = own_taken w st (shape_at st i) (record_at st i).a
taken_by w st Fate.Dropped i = 0

-- what the first k of `top` records add, and what they take back
unfoldable pub added : Weigh → List ℕ → ℕ → ℕ → ℕ
added w st top zero = 0
added w st top (suc k) = added w st top k + added_by w st (fate_at st top k) k

unfoldable pub taken : Weigh → List ℕ → ℕ → ℕ → ℕ
taken w st top zero = 0
taken w st top (suc k) = taken w st top k + taken_by w st (fate_at st top k) k

-- the sum over `top` records
unfoldable pub store_sum : Weigh → List ℕ → ℕ → ℕ
store_sum w st top = added w st top top - taken w st top top
