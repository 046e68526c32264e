-- What it is for a store to hold a tree at an index: the tree's records, and those that were dropped on the way, are the ones from an index
-- on up to the root, each at one place of the tree.
-- Assumes nothing.
use Rattle.std.specs.Prelude.{◌≡◌, Bool, true, false, List, ℕ, suc, ◌≤◌}
use Rattle.std.proofs.Math.Option.{Option, none, some}
use Rattle.ast.specs.declared.Stretched.{Stretched}
use Rattle.ast.specs.declared.Leaf.{Leaf}
use Rattle.ast.specs.declared.One.{One}
use Rattle.ast.specs.declared.Two.{Two}
use Rattle.ast.specs.declared.Three.{Three}
use Rattle.ast.specs.declared.Role.{Role}
use Rattle.ast.specs.declared.Shape.{Shape}
use Rattle.ast.specs.Shape.{fields, fields_of, shape_of, role_of}
use Rattle.ast.specs.Store.{record_at}
use Rattle.ast.specs.Tree.{Node, leaf, one, two, three, row, matrix, Nodes, empty, ◌then◌}

-- the record at i is a node of the kind k with parts at the indices p, q and r; its next sibling is of no account
pub record Stands (st : List ℕ) (i : ℕ) (k : Shape) (p q r : ℕ) : Type 0 where
  pub kind : fields_of (record_at st i) ≡ fields k
  pub a : (record_at st i).a ≡ p
  pub b : (record_at st i).b ≡ q
  pub c : (record_at st i).c ≡ r

-- the node at x, in the records from l on, ends before u
pub record Fills (H : ℕ → ℕ → Type 0) (x l u : ℕ) : Type 0 where
  pub here : H l x
  pub ends : suc x ≡ u

-- the records from lo on up to hi are those of two, the one's behind the other's, in either order
pub data Beside (F G : ℕ → ℕ → Type 0) (lo hi : ℕ) : Type 0 where
  in_order : (mid : ℕ) → F lo mid → G mid hi → Beside F G lo hi
  swapped : (mid : ℕ) → G lo mid → F mid hi → Beside F G lo hi

pub record HoldsOne (st : List ℕ) (F : ℕ → ℕ → Type 0) (lo i : ℕ) (k : One) : Type 0 where
  pub x : ℕ
  pub part : Fills F x lo i
  pub stands : Stands st i (Shape.One k) x 0 0

pub record HoldsTwo (st : List ℕ) (F G : ℕ → ℕ → Type 0) (lo i : ℕ) (k : Two) : Type 0 where
  pub x : ℕ
  pub y : ℕ
  pub parts : Beside (λ l u. Fills F x l u) (λ l u. Fills G y l u) lo i
  pub stands : Stands st i (Shape.Two k) x y 0

pub record HoldsThree (st : List ℕ) (F G H : ℕ → ℕ → Type 0) (lo i : ℕ) (k : Three) : Type 0 where
  pub x : ℕ
  pub y : ℕ
  pub z : ℕ
  pub parts : Beside (λ l u. Fills F x l u) (λ l u. Beside (λ m v. Fills G y m v) (λ m v. Fills H z m v) l u) lo i
  pub stands : Stands st i (Shape.Three k) x y z

-- a node of a row, and the nodes after it from the index behind it on
pub record Link (H K : ℕ → Type 0) (f : ℕ) : Type 0 where
  pub here : H f
  pub rest : K (suc f)

-- a row's nodes begin at f, and l is the last of them
pub record Rowed (st : List ℕ) (K : ℕ → ℕ → ℕ → Type 0) (i : ℕ) (k : Shape) : Type 0 where
  pub f : ℕ
  pub p : ℕ
  pub l : ℕ
  pub nodes : K f p l
  pub stands : Stands st i k f 0 0

unfoldable pub count : Nodes → ℕ
count empty = 0
count (n then ns) = suc (count ns)

-- the operand of which `\middle` made the leaf: its record is dropped
abbrev pub operand_leaf : Stretched → Leaf
operand_leaf (Stretched.Character c) = Leaf.Operator c
operand_leaf (Stretched.Fixed t) = Leaf.OtherOperator t

abbrev pub operand_of : Leaf → Option Leaf
operand_of (Leaf.Number a e) = none
operand_of (Leaf.Letter c v) = none
operand_of (Leaf.Operator c) = none
operand_of (Leaf.Function t) = none
operand_of (Leaf.FunctionName a e) = none
operand_of (Leaf.Space w) = none
operand_of (Leaf.StrechedOp o) = some (operand_leaf o)
operand_of (Leaf.OtherOperator t) = none
operand_of (Leaf.SizedParen z t) = none
operand_of (Leaf.Text a e) = none
operand_of Leaf.Ampersand = none
operand_of Leaf.NewLine = none
operand_of (Leaf.Undefined u) = none

-- the records from lo on up to i are those of the operand
abbrev pub Before : List ℕ → ℕ → ℕ → Option Leaf → Type 0
Before st lo i none = lo ≡ i
Before st lo i (some l) = (suc lo ≡ i) × (fields_of (record_at st lo) ≡ fields (Shape.Leaf l))

abbrev pub is_row : Role → Bool
is_row Role.Letter = false
is_row (Role.Operator c) = false
is_row (Role.OtherOperator t) = false
is_row (Role.Row n) = true
is_row Role.Other = false

-- whether the record at an index is a row's
unfoldable pub row_at : List ℕ → ℕ → Bool
row_at st i = is_row (role_of (shape_of (fields_of (record_at st i))))

-- between the nodes of a matrix, which end before hi, and its record at i there is the row that was opened, and is dropped; or the matrix has
-- one node, at x, which is no row
pub data Roof (st : List ℕ) (lo hi i : ℕ) : Type 0 where
  opened : suc hi ≡ i → lo ≤ hi → row_at st hi ≡ true → Roof st lo hi i
  alone : (x : ℕ) → lo ≤ x → suc x ≡ i → hi ≡ i → row_at st x ≡ false → Roof st lo hi i

pub record Roofed (st : List ℕ) (K : ℕ → ℕ → ℕ → ℕ → Type 0) (lo i : ℕ) (k : Shape) : Type 0 where
  pub hi : ℕ
  pub roof : Roof st lo hi i
  pub rowed : Rowed st (λ f p l. K f p l hi) i k

abbrev mutual
  -- st holds the tree at the index i, and the records from lo on up to i are its own
  pub Holds : List ℕ → ℕ → ℕ → Node → Type 0
  Holds st lo i (leaf l) = Before st lo i (operand_of l) × Stands st i (Shape.Leaf l) 0 0 0
  Holds st lo i (one k a) = HoldsOne st (λ l x. Holds st l x a) lo i k
  Holds st lo i (two k a b) = HoldsTwo st (λ l x. Holds st l x a) (λ l y. Holds st l y b) lo i k
  Holds st lo i (three k a b c) =
      HoldsThree st (λ l x. Holds st l x a) (λ l y. Holds st l y b) (λ l z. Holds st l z c) lo i k
  Holds st lo i (row ns) = Rowed st (λ f p l. HoldsAll st lo f p l i ns) i (Shape.Row (count ns))
  Holds st lo i (matrix align ns) = Roofed st (λ f p l hi. HoldsAll st lo f p l hi ns) lo i (Shape.Matrix align (count ns))

  -- the nodes from the index f on, linked by `next`, one node's records behind the other's, from lo on up to hi; p stands before them and l is
  -- the last
  pub HoldsAll : List ℕ → ℕ → ℕ → ℕ → ℕ → ℕ → Nodes → Type 0
  HoldsAll st lo f p l hi empty = (l ≡ p) × (lo ≡ hi)
  HoldsAll st lo f p l hi (n then ns) =
      Link (λ i. Holds st lo i n) (λ mid. HoldsAll st mid (record_at st f).next f l hi ns) f

-- the node t at x, in the records from l on, ends before u
abbrev pub FillsTree : List ℕ → ℕ → Node → ℕ → ℕ → Type 0
FillsTree st x t l u = Fills (λ m y. Holds st m y t) x l u
