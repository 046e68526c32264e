-- What is known of every record that a body's tree was made with, held or dropped.
-- Assumes nothing.
use mathlib.Core.Path.{◌≡◌, refl, ap, ◌∙◌}
use mathlib.Core.Bool.{true}
use mathlib.Core.List.{List}
use mathlib.Core.Option.{Option, none, some}
use Prim.Native.Nat.{ℕ, suc, ◌+◌, ◌*◌, ◌≤◌, ◌<◌, zero-le}
use native.Mathlib.Omega.{arith}
use native.Mathlib.Nat.{le_refl}
use lib.ListN.{length}
use Rattle.text.proofs.Cases.{by_three, never}
use Rattle.ast.specs.declared.Stretched.{Stretched}
use Rattle.ast.specs.declared.Leaf.{Leaf}
use Rattle.ast.specs.declared.Shape.{Shape}
use Rattle.ast.specs.Shape.{shape_of, role_of}
use Rattle.ast.specs.Store.{record_at}
use Rattle.ast.specs.Tree.{Node, leaf, one, two, three, row, matrix, Nodes, empty, ◌then◌}
use Rattle.ast.specs.Held.{Stands, Beside, in_order, swapped, Roof, count, operand_of, Before, is_row, row_at, Holds, HoldsAll, FillsTree}
use Rattle.ast.specs.Inside.{LeafInside, TreeInside, AllInside}
use Rattle.ast.specs.Sum.{shape_at, Chain}
use Rattle.ast.proofs.ShapeLaws.{shape_back}
use Rattle.ast.proofs.HeldLaws.{low, low_all, roof_below, beside_low, tree_low}
use Rattle.ast.proofs.SumLaws.{leaf_no_row}

-- the places of a leaf lie in the body, and a matrix's nodes in the store
abbrev pub Fine : ℕ → List ℕ → ℕ → Shape → ℕ → Type 0
Fine n st top (Shape.Leaf l) a = LeafInside n l
Fine n st top (Shape.One k) a = Unit {0}
Fine n st top (Shape.Two k) a = Unit {0}
Fine n st top (Shape.Three k) a = Unit {0}
Fine n st top (Shape.Row c) a = Unit {0}
Fine n st top (Shape.Matrix align c) a = Chain st c a × (c ≤ top)

operand_inside : (n : ℕ) (l m : Leaf) → operand_of l ≡ some m → LeafInside n m
operand_inside n (Leaf.Number a e) m h = never cc
operand_inside n (Leaf.Letter c v) m h = never cc
operand_inside n (Leaf.Operator c) m h = never cc
operand_inside n (Leaf.Function t) m h = never cc
operand_inside n (Leaf.FunctionName a e) m h = never cc
operand_inside n (Leaf.Space w) m h = never cc
operand_inside n (Leaf.StrechedOp (Stretched.Character c)) m h = let e : Leaf.Operator c ≡ m = cc in rw (← e) tt
operand_inside n (Leaf.StrechedOp (Stretched.Fixed t)) m h = let e : Leaf.OtherOperator t ≡ m = cc in rw (← e) tt
operand_inside n (Leaf.OtherOperator t) m h = never cc
operand_inside n (Leaf.SizedParen z t) m h = never cc
operand_inside n (Leaf.Text a e) m h = never cc
operand_inside n Leaf.Ampersand m h = never cc
operand_inside n Leaf.NewLine m h = never cc
operand_inside n (Leaf.Undefined u) m h = never cc

module _ (n : ℕ) (st : List ℕ) (top : ℕ) (fits : top * 24 ≤ length st) where
  -- of the record at j
  abbrev pub FineAt : ℕ → Type 0
  FineAt j = Fine n st top (shape_at st j) (record_at st j).a

  -- .. of those from l on up to u
  abbrev AllFine : ℕ → ℕ → Type 0
  AllFine l u = (j : ℕ) → l ≤ j → j < u → FineAt j

  row_fine : (k : Shape) (a : ℕ) → is_row (role_of k) ≡ true → Fine n st top k a
  row_fine (Shape.Leaf l) a h = let e = leaf_no_row l in never cc
  row_fine (Shape.One k) a h = tt
  row_fine (Shape.Two k) a h = tt
  row_fine (Shape.Three k) a h = tt
  row_fine (Shape.Row c) a h = tt
  row_fine (Shape.Matrix align c) a h = never cc

  stands_fine : (i : ℕ) (k : Shape) (p q r : ℕ) → Stands st i k p q r → Fine n st top k p → FineAt i
  unfolding shape_at
  stands_fine i k p q r s h =
      let is : shape_at st i ≡ k = ap (λ f. shape_of f) s.kind ∙ shape_back k in
      rw (is, s.a) h

  -- the root behind its parts
  and_root : (lo i : ℕ) → AllFine lo i → FineAt i → AllFine lo (suc i)
  and_root lo i all root j a b = by_three j i (λ lt. all j a lt) (λ lt. absurd (omega arith)) (λ e. rw e root)

  and_then : (lo mid hi : ℕ) → AllFine lo mid → AllFine mid hi → AllFine lo hi
  and_then lo mid hi f g j a b = by_three j mid (λ lt. f j a lt) (λ lt. g j (omega arith) b) (λ e. g j (omega arith) b)

  none_fine : (lo hi : ℕ) → lo ≡ hi → AllFine lo hi
  none_fine lo hi e j a b = absurd (omega arith)

  beside_fine : (F G : ℕ → ℕ → Type 0) (lo hi : ℕ) → ((l u : ℕ) → F l u → u ≤ hi → AllFine l u) → ((l u : ℕ) → G l u → u ≤ hi → AllFine l u)
      → ((l u : ℕ) → F l u → l ≤ u) → ((l u : ℕ) → G l u → l ≤ u) → Beside F G lo hi → AllFine lo hi
  beside_fine F G lo hi f g lf lg (in_order mid a b) = and_then lo mid hi (f lo mid a (lg mid hi b)) (g mid hi b (le_refl hi))
  beside_fine F G lo hi f g lf lg (swapped mid a b) = and_then lo mid hi (g lo mid a (lf mid hi b)) (f mid hi b (le_refl hi))

  before_fine : (lo i : ℕ) (l : Leaf) (o : Option Leaf) → operand_of l ≡ o → Before st lo i o → AllFine lo i
  unfolding shape_at
  before_fine lo i l none e h = none_fine lo i h
  before_fine lo i l (some m) e h =
      let next = h.0 in
      let is : shape_at st lo ≡ Shape.Leaf m = ap (λ f. shape_of f) h.1 ∙ shape_back (Shape.Leaf m) in
      λ j a b. let same : j ≡ lo = omega arith in rw (same, is) (operand_inside n l m e)

  roof_fine : (lo hi i : ℕ) → Roof st lo hi i → AllFine lo hi → AllFine lo i
  unfolding row_at shape_at
  roof_fine lo hi i (Roof.opened e le r) all j a b = and_root lo hi all (row_fine (shape_at st hi) (record_at st hi).a r) j a (omega arith)
  roof_fine lo hi i (Roof.alone x le e f r) all j a b = all j a (omega arith)

  chain_fine : (lo f p l hi : ℕ) (ns : Nodes) → HoldsAll st lo f p l hi ns → hi ≤ top → Chain st (count ns) f × (count ns + lo ≤ hi)
  unfolding Chain count
  chain_fine lo f p l hi empty h le = let e = h.1 in (tt, omega arith)
  chain_fine lo f p l hi (m then ns) h le =
      let a = low st lo f m h.here in
      let b = low_all st (suc f) (record_at st f).next f l hi ns h.rest in
      let c = chain_fine (suc f) (record_at st f).next f l hi ns h.rest le in
      let d = c.1 in
      ((omega arith, c.0), omega arith)

  mutual
    fine : (lo i : ℕ) (t : Node) → Holds st lo i t → TreeInside n t → i < top → AllFine lo (suc i)
    fine lo i (leaf l) h g lt = and_root lo i (before_fine lo i l (operand_of l) refl h.0) (stands_fine i (Shape.Leaf l) 0 0 0 h.1 g)
    fine lo i (one k a) h g lt =
        let e = h.part.ends in
        and_root lo i (λ j p q. fine lo h.x a h.part.here g (omega arith) j p (omega arith)) (stands_fine i (Shape.One k) h.x 0 0 h.stands tt)
    fine lo i (two k a b) h g lt =
        and_root lo i
        (beside_fine (λ l u. FillsTree st h.x a l u) (λ l u. FillsTree st h.y b l u) lo i
        (λ l u q le j p r. let d = q.ends in fine l h.x a q.here g.0 (omega arith) j p (omega arith))
        (λ l u q le j p r. let d = q.ends in fine l h.y b q.here g.1 (omega arith) j p (omega arith))
        (λ l u q. let d = tree_low st h.x l u a q in omega arith)
        (λ l u q. let d = tree_low st h.y l u b q in omega arith)
        h.parts)
        (stands_fine i (Shape.Two k) h.x h.y 0 h.stands tt)
    fine lo i (three k a b c) h g lt =
        and_root lo i
        (beside_fine (λ l u. FillsTree st h.x a l u) (λ l u. Beside (λ m v. FillsTree st h.y b m v) (λ m v. FillsTree st h.z c m v) l u) lo i
        (λ l u q le j p r. let d = q.ends in fine l h.x a q.here g.0 (omega arith) j p (omega arith))
        (λ l u q le. beside_fine (λ m v. FillsTree st h.y b m v) (λ m v. FillsTree st h.z c m v) l u
        (λ m v o le' j p r. let d = o.ends in fine m h.y b o.here g.1 (omega arith) j p (omega arith))
        (λ m v o le' j p r. let d = o.ends in fine m h.z c o.here g.2 (omega arith) j p (omega arith))
        (λ m v o. let d = tree_low st h.y m v b o in omega arith)
        (λ m v o. let d = tree_low st h.z m v c o in omega arith)
        q)
        (λ l u q. let d = tree_low st h.x l u a q in omega arith)
        (λ l u q. let d = beside_low (λ m v o. tree_low st h.y m v b o) (λ m v o. tree_low st h.z m v c o) q in omega arith)
        h.parts)
        (stands_fine i (Shape.Three k) h.x h.y h.z h.stands tt)
    fine lo i (row ns) h g lt =
        and_root lo i (fine_all lo h.f h.p h.l i ns h.nodes g (omega arith)) (stands_fine i (Shape.Row (count ns)) h.f 0 0 h.stands tt)
    fine lo i (matrix align ns) h g lt =
        let o = h.rowed in
        let d = roof_below st lo h.hi i h.roof in
        let c = chain_fine lo o.f o.p o.l h.hi ns o.nodes (omega arith) in
        let e = c.1 in
        and_root lo i (roof_fine lo h.hi i h.roof (fine_all lo o.f o.p o.l h.hi ns o.nodes g (omega arith)))
        (stands_fine i (Shape.Matrix align (count ns)) o.f 0 0 o.stands (c.0, omega arith))

    fine_all : (lo f p l hi : ℕ) (ns : Nodes) → HoldsAll st lo f p l hi ns → AllInside n ns → hi ≤ top → AllFine lo hi
    fine_all lo f p l hi empty h g le = none_fine lo hi h.1
    fine_all lo f p l hi (m then ns) h g le =
        let b = low_all st (suc f) (record_at st f).next f l hi ns h.rest in
        and_then lo (suc f) hi (fine lo f m h.here g.0 (omega arith)) (fine_all (suc f) (record_at st f).next f l hi ns h.rest g.1 le)

  pub all_fine : (f p l : ℕ) (ns : Nodes) → HoldsAll st 0 f p l top ns → AllInside n ns → (j : ℕ) → j < top → FineAt j
  all_fine f p l ns h g j lt = fine_all 0 f p l top ns h g (le_refl top) j zero-le lt
