-- The sum over the records is the sum along the tree.
-- Assumes nothing.
use mathlib.Core.Path.{◌≡◌, refl, sym, ap, ◌∙◌}
use mathlib.Core.Bool.{Bool, true, false}
use mathlib.Core.List.{List}
use mathlib.Core.Option.{Option, none, some}
use Prim.Native.Nat.{ℕ, suc, ◌+◌, ◌≤◌, ◌<◌}
use native.Mathlib.Omega.{arith}
use native.Mathlib.Nat.{le_refl}
use borrow.Author.Tests.{lt-ltb, le-ltb}
use Rattle.text.proofs.Cases.{never}
use Rattle.attribute.specs.declared.ColumnAlign.{ColumnAlign}
use Rattle.ast.specs.declared.Stretched.{Stretched}
use Rattle.ast.specs.declared.Leaf.{Leaf}
use Rattle.ast.specs.declared.One.{One}
use Rattle.ast.specs.declared.Shape.{Shape}
use Rattle.ast.specs.declared.Fate.{Fate}
use Rattle.ast.specs.Shape.{shape_of, leaf_role, role_of}
use Rattle.ast.specs.Store.{record_at}
use Rattle.ast.specs.Tree.{Node, leaf, one, two, three, row, matrix, Nodes, empty, ◌then◌}
use Rattle.ast.specs.Held.{Stands, Beside, in_order, swapped, Roof, count, operand_of, Before, is_row, row_at, Holds, HoldsAll, FillsTree}
use Rattle.ast.specs.Sum.{Weigh, leaf_or, is_mark, either, cell_or, part_sum, tree_sum, tree_sums, cell_sums, shape_at, operand_fate, fate, fate_at, mark_sum, cells, own_sum, own_taken, added_by, taken_by, added, taken, store_sum}
use Rattle.ast.proofs.ShapeLaws.{shape_back}
use Rattle.ast.proofs.KindLaws.{shape_held}
use Rattle.ast.proofs.HeldLaws.{low_all, beside_low, tree_low}

-- a leaf that was an operand is of none, and drops nothing
operand_plain : (l m : Leaf) → operand_of l ≡ some m → operand_of m ≡ none
operand_plain (Leaf.Number a e) m h = never cc
operand_plain (Leaf.Letter c v) m h = never cc
operand_plain (Leaf.Operator c) m h = never cc
operand_plain (Leaf.Function t) m h = never cc
operand_plain (Leaf.FunctionName a e) m h = never cc
operand_plain (Leaf.Space w) m h = never cc
operand_plain (Leaf.StrechedOp (Stretched.Character c)) m h = let e : Leaf.Operator c ≡ m = cc in rw (← e) refl
operand_plain (Leaf.StrechedOp (Stretched.Fixed t)) m h = let e : Leaf.OtherOperator t ≡ m = cc in rw (← e) refl
operand_plain (Leaf.OtherOperator t) m h = never cc
operand_plain (Leaf.SizedParen z t) m h = never cc
operand_plain (Leaf.Text a e) m h = never cc
operand_plain Leaf.Ampersand m h = never cc
operand_plain Leaf.NewLine m h = never cc
operand_plain (Leaf.Undefined u) m h = never cc

pub leaf_no_row : (l : Leaf) → is_row (leaf_role l) ≡ false
leaf_no_row (Leaf.Number a e) = refl
leaf_no_row (Leaf.Letter c v) = refl
leaf_no_row (Leaf.Operator c) = refl
leaf_no_row (Leaf.Function t) = refl
leaf_no_row (Leaf.FunctionName a e) = refl
leaf_no_row (Leaf.Space w) = refl
leaf_no_row (Leaf.StrechedOp o) = refl
leaf_no_row (Leaf.OtherOperator t) = refl
leaf_no_row (Leaf.SizedParen z t) = refl
leaf_no_row (Leaf.Text a e) = refl
leaf_no_row Leaf.Ampersand = refl
leaf_no_row Leaf.NewLine = refl
leaf_no_row (Leaf.Undefined u) = refl

mark_sum_lem : (b : Bool) (p c : ℕ) → p + either b c 0 ≡ either b c p + either b p 0
mark_sum_lem true p c = omega arith
mark_sum_lem false p c = omega arith

-- a row drops nothing
row_counts : (k : Shape) → is_row (role_of k) ≡ true → (r : Bool) → fate k r ≡ Fate.Counted
row_counts (Shape.Leaf l) h r = let e = leaf_no_row l in never cc
row_counts (Shape.One k) h r = never cc
row_counts (Shape.Two k) h r = refl
row_counts (Shape.Three k) h r = refl
row_counts (Shape.Row n) h r = refl
row_counts (Shape.Matrix align n) h r = never cc

module _ (w : Weigh) (st : List ℕ) (top : ℕ) where
  -- the record before u is neither Fate.Dropped nor slashed
  abbrev End : ℕ → Type 0
  End u = (x : ℕ) → suc x ≡ u → fate_at st top x ≡ Fate.Counted

  -- the records from lo on up to hi add n
  abbrev Whole : ℕ → ℕ → ℕ → Type 0
  Whole lo hi n = added w st top hi + taken w st top lo ≡ added w st top lo + (n + taken w st top hi)

  fate_by : (x u : ℕ) (k : Shape) → suc x ≡ u → u < top → shape_at st u ≡ k → fate_at st top x ≡ fate k (row_at st x)
  unfolding fate_at
  fate_by x u k e lt is =
      let at : shape_at st (suc x) ≡ k = ap (λ j. shape_at st j) e ∙ is in
      rw (fate_at, lt-ltb (suc x) top (omega arith), at) refl

  -- a record that drops nothing
  end_by : (u : ℕ) (k : Shape) → u < top → shape_at st u ≡ k → ((r : Bool) → fate k r ≡ Fate.Counted) → End u
  end_by u k lt is h x e = fate_by x u k e lt is ∙ h (row_at st x)

  end_as : (u v : ℕ) → u ≡ v → End u → End v
  end_as u v e h x f = h x (f ∙ sym e)

  -- the root at i of the tree t, whose records begin at lo: what is before it and what it adds itself
  record Sums (lo i : ℕ) (t : Node) : Type 0 where
    plain : added w st top i + added_by w st Fate.Counted i + taken w st top lo ≡ added w st top lo + (tree_sum w t + (taken w st top i + taken_by w st Fate.Counted i))
    under : added w st top i + added_by w st Fate.Slashed i + taken w st top lo ≡ added w st top lo + (leaf_or w.slashed t (tree_sum w t) + (taken w st top i + taken_by w st Fate.Slashed i))
    begins : End lo

  -- what fills some records
  record Piece (lo hi n : ℕ) : Type 0 where
    whole : Whole lo hi n
    begins : End lo

  closed : (lo x u : ℕ) (t : Node) → Sums lo x t → suc x ≡ u → End u → Piece lo u (tree_sum w t)
  unfolding added taken
  closed lo x u t s e end =
      let f = end x e in
      let p = s.plain in
      let a : added w st top u ≡ added w st top x + added_by w st Fate.Counted x = sym (ap (λ j. added w st top j) e) ∙ ap (λ q. added w st top x + added_by w st q x) f in
      let b : taken w st top u ≡ taken w st top x + taken_by w st Fate.Counted x = sym (ap (λ j. taken w st top j) e) ∙ ap (λ q. taken w st top x + taken_by w st q x) f in
      record { whole = omega arith; begins = s.begins }

  beside_piece : (F G : ℕ → ℕ → Type 0) (lo hi m n : ℕ) → ((l u : ℕ) → F l u → u ≤ top → End u → Piece l u m) → ((l u : ℕ) → G l u → u ≤ top → End u → Piece l u n)
      → ((l u : ℕ) → F l u → l ≤ u) → ((l u : ℕ) → G l u → l ≤ u)
      → Beside F G lo hi → hi ≤ top → End hi → Piece lo hi (m + n)
  beside_piece F G lo hi m n f g lf lg (in_order mid a b) le end =
      let k = lg mid hi b in
      let y = g mid hi b le end in
      let x = f lo mid a (omega arith) y.begins in
      let p = x.whole in
      let q = y.whole in
      record { whole = omega arith; begins = x.begins }
  beside_piece F G lo hi m n f g lf lg (swapped mid a b) le end =
      let k = lf mid hi b in
      let y = f mid hi b le end in
      let x = g lo mid a (omega arith) y.begins in
      let p = x.whole in
      let q = y.whole in
      record { whole = omega arith; begins = x.begins }

  -- ---- the roots

  -- a root of which the record is known
  record Root (i : ℕ) (k : Shape) (a : ℕ) : Type 0 where
    plain : added_by w st Fate.Counted i ≡ own_sum w w.plain st k a
    under : added_by w st Fate.Slashed i ≡ own_sum w w.slashed st k a
    back : taken_by w st Fate.Counted i ≡ own_taken w st k a
    back_under : taken_by w st Fate.Slashed i ≡ own_taken w st k a

  root_of : (i : ℕ) (k : Shape) (p q r : ℕ) → Stands st i k p q r → Root i k p
  unfolding shape_at
  root_of i k p q r s =
      let is : shape_at st i ≡ k = ap (λ f. shape_of f) s.kind ∙ shape_back k in
      let at = s.a in
      record { plain = rw (is, at) refl; under = rw (is, at) refl; back = rw (is, at) refl; back_under = rw (is, at) refl }

  stands_shape : (i : ℕ) (k : Shape) (p q r : ℕ) → Stands st i k p q r → shape_at st i ≡ k
  unfolding shape_at
  stands_shape i k p q r s = ap (λ f. shape_of f) s.kind ∙ shape_back k

  -- a leaf, behind its operand if it has one
  leaf_sums : (lo i : ℕ) (l : Leaf) (o : Option Leaf) → operand_of l ≡ o → Before st lo i o → Stands st i (Shape.Leaf l) 0 0 0 → i < top → Sums lo i (leaf l)
  unfolding tree_sum added taken shape_at
  leaf_sums lo i l none e h s lt =
      let r = root_of i (Shape.Leaf l) 0 0 0 s in
      let p = r.plain in
      let u = r.under in
      let b = r.back in
      let c = r.back_under in
      let ad : added w st top lo ≡ added w st top i = ap (λ j. added w st top j) h in
      let tk : taken w st top lo ≡ taken w st top i = ap (λ j. taken w st top j) h in
      let no : operand_fate (operand_of l) ≡ Fate.Counted = rw e refl in
      record {
        plain = omega arith;
        under = omega arith;
        begins = end_as i lo (sym h) (end_by i (Shape.Leaf l) lt (stands_shape i (Shape.Leaf l) 0 0 0 s) (λ x. no));
      }
  leaf_sums lo i l (some m) e h s lt =
      let r = root_of i (Shape.Leaf l) 0 0 0 s in
      let p = r.plain in
      let u = r.under in
      let b = r.back in
      let c = r.back_under in
      let next : suc lo ≡ i = h.0 in
      let gone : fate_at st top lo ≡ Fate.Dropped = fate_by lo i (Shape.Leaf l) next lt (stands_shape i (Shape.Leaf l) 0 0 0 s) ∙ ap (λ q. operand_fate q) e in
      let ad : added w st top i ≡ added w st top lo + 0 = sym (ap (λ j. added w st top j) next) ∙ ap (λ q. added w st top lo + added_by w st q lo) gone in
      let tk : taken w st top i ≡ taken w st top lo + 0 = sym (ap (λ j. taken w st top j) next) ∙ ap (λ q. taken w st top lo + taken_by w st q lo) gone in
      let is : shape_at st lo ≡ Shape.Leaf m = ap (λ f. shape_of f) h.1 ∙ shape_back (Shape.Leaf m) in
      let no : operand_fate (operand_of m) ≡ Fate.Counted = ap (λ q. operand_fate q) (operand_plain l m e) in
      record { plain = omega arith; under = omega arith; begins = end_by lo (Shape.Leaf m) (omega arith) is (λ x. no) }

  -- the part of a node with one part
  part_sums : (lo x i : ℕ) (k : One) (a : Node) → Sums lo x a → suc x ≡ i → i < top → shape_at st i ≡ Shape.One k → Whole lo i (part_sum w k a (tree_sum w a))
  unfolding added taken
  part_sums lo x i (One.OverOp c acc) a s e lt is = (closed lo x i a s e (end_by i (Shape.One (One.OverOp c acc)) lt is (λ r. refl))).whole
  part_sums lo x i (One.UnderOp c acc) a s e lt is = (closed lo x i a s e (end_by i (Shape.One (One.UnderOp c acc)) lt is (λ r. refl))).whole
  part_sums lo x i One.Sqrt a s e lt is = (closed lo x i a s e (end_by i (Shape.One One.Sqrt) lt is (λ r. refl))).whole
  part_sums lo x i (One.Fenced t u) a s e lt is = (closed lo x i a s e (end_by i (Shape.One (One.Fenced t u)) lt is (λ r. refl))).whole
  part_sums lo x i One.Slashed a s e lt is =
      let f = fate_by x i (Shape.One One.Slashed) e lt is in
      let p = s.under in
      let ad : added w st top i ≡ added w st top x + added_by w st Fate.Slashed x = sym (ap (λ j. added w st top j) e) ∙ ap (λ q. added w st top x + added_by w st q x) f in
      let tk : taken w st top i ≡ taken w st top x + taken_by w st Fate.Slashed x = sym (ap (λ j. taken w st top j) e) ∙ ap (λ q. taken w st top x + taken_by w st q x) f in
      omega arith
  part_sums lo x i (One.Style d) a s e lt is = (closed lo x i a s e (end_by i (Shape.One (One.Style d)) lt is (λ r. refl))).whole

  -- a root whose parts fill what is before it, and which adds the same at each place
  over : (lo i n : ℕ) (k : Shape) (p own back : ℕ) (t : Node) → Root i k p → Whole lo i n → End lo
      → own_sum w w.plain st k p ≡ own → own_sum w w.slashed st k p ≡ own → own_taken w st k p ≡ back → leaf_or w.slashed t (tree_sum w t) ≡ tree_sum w t
      → n + own ≡ tree_sum w t + back → Sums lo i t
  over lo i n k p own back t r h begins e f g same sum =
      let a = r.plain in
      let b = r.under in
      let c = r.back in
      let d = r.back_under in
      record { plain = omega arith; under = omega arith; begins = begins }

  -- a node as a cell
  cell_sum : (lo f : ℕ) (n : Node) → Holds st lo f n → tree_sum w n + mark_sum w.cell (shape_at st f) ≡ cell_or w.cell n (tree_sum w n) + mark_sum w.plain (shape_at st f)
  unfolding tree_sum shape_at
  cell_sum lo f (leaf l) h = rw (shape_held st lo f (leaf l) h) (mark_sum_lem (is_mark l) (w.plain l) (w.cell l))
  cell_sum lo f (one k a) h = rw (shape_held st lo f (one k a) h) refl
  cell_sum lo f (two k a b) h = rw (shape_held st lo f (two k a b) h) refl
  cell_sum lo f (three k a b c) h = rw (shape_held st lo f (three k a b c) h) refl
  cell_sum lo f (row ns) h = rw (shape_held st lo f (row ns) h) refl
  cell_sum lo f (matrix align ns) h = rw (shape_held st lo f (matrix align ns) h) refl

  -- the nodes of a matrix as its cells
  cells_sum : (lo f p l hi : ℕ) (ns : Nodes) → HoldsAll st lo f p l hi ns
      → tree_sums w ns + cells w.cell st (count ns) f ≡ cell_sums w ns + cells w.plain st (count ns) f
  unfolding tree_sums cell_sums cells count
  cells_sum lo f p l hi empty h = refl
  cells_sum lo f p l hi (n then ns) h =
      let more = cells_sum (suc f) (record_at st f).next f l hi ns h.rest in
      let one_cell : tree_sum w n + mark_sum w.cell (shape_at st f) ≡ cell_or w.cell n (tree_sum w n) + mark_sum w.plain (shape_at st f) = cell_sum lo f n h.here in
      omega arith

  -- the nodes of a matrix and the row that was opened for them, if there is one
  matrix_whole : (lo hi i n : ℕ) (align : ColumnAlign) (c : ℕ) → Roof st lo hi i → i < top → shape_at st i ≡ Shape.Matrix align c → (hi ≤ top → End hi → Piece lo hi n) → Piece lo i n
  unfolding added taken row_at shape_at
  matrix_whole lo hi i n align c (Roof.opened e le r) lt is all =
      let here : is_row (role_of (shape_at st hi)) ≡ true = r in
      let all' = all (omega arith) (end_by hi (shape_at st hi) (omega arith) refl (row_counts (shape_at st hi) here)) in
      let gone : fate_at st top hi ≡ Fate.Dropped = fate_by hi i (Shape.Matrix align c) e lt is ∙ ap (λ q. fate (Shape.Matrix align c) q) r in
      let ad : added w st top i ≡ added w st top hi + 0 = sym (ap (λ j. added w st top j) e) ∙ ap (λ q. added w st top hi + added_by w st q hi) gone in
      let tk : taken w st top i ≡ taken w st top hi + 0 = sym (ap (λ j. taken w st top j) e) ∙ ap (λ q. taken w st top hi + taken_by w st q hi) gone in
      let p = all'.whole in
      record { whole = omega arith; begins = all'.begins }
  matrix_whole lo hi i n align c (Roof.alone x le e f r) lt is all =
      let end : End i = λ y d.
      let same : y ≡ x = omega arith in
      fate_by y i (Shape.Matrix align c) d lt is ∙ ap (λ q. fate (Shape.Matrix align c) q) (ap (λ j. row_at st j) same ∙ r) in
      let all' = all (omega arith) (end_as i hi (sym f) end) in
      let ad : added w st top hi ≡ added w st top i = ap (λ j. added w st top j) f in
      let tk : taken w st top hi ≡ taken w st top i = ap (λ j. taken w st top j) f in
      let p = all'.whole in
      record { whole = omega arith; begins = all'.begins }

  mutual
    unfolding tree_sum tree_sums

    sums : (lo i : ℕ) (t : Node) → Holds st lo i t → i < top → Sums lo i t
    sums lo i (leaf l) h lt = leaf_sums lo i l (operand_of l) refl h.0 h.1 lt
    sums lo i (one k a) h lt =
        let e = h.part.ends in
        let s = sums lo h.x a h.part.here (omega arith) in
        let is = stands_shape i (Shape.One k) h.x 0 0 h.stands in
        over lo i (part_sum w k a (tree_sum w a)) (Shape.One k) h.x (w.around (Shape.One k)) 0 (one k a) (root_of i (Shape.One k) h.x 0 0 h.stands)
        (part_sums lo h.x i k a s e lt is) s.begins refl refl refl refl (omega arith)
    sums lo i (two k a b) h lt =
        let end = end_by i (Shape.Two k) lt (stands_shape i (Shape.Two k) h.x h.y 0 h.stands) (λ r. refl) in
        let all = beside_piece (λ l u. FillsTree st h.x a l u) (λ l u. FillsTree st h.y b l u) lo i (tree_sum w a) (tree_sum w b)
        (λ l u q le z. let d = q.ends in closed l h.x u a (sums l h.x a q.here (omega arith)) q.ends z)
        (λ l u q le z. let d = q.ends in closed l h.y u b (sums l h.y b q.here (omega arith)) q.ends z)
        (λ l u q. let d = tree_low st h.x l u a q in omega arith)
        (λ l u q. let d = tree_low st h.y l u b q in omega arith)
        h.parts (omega arith) end in
        over lo i (tree_sum w a + tree_sum w b) (Shape.Two k) h.x (w.around (Shape.Two k)) 0 (two k a b) (root_of i (Shape.Two k) h.x h.y 0 h.stands)
        all.whole all.begins refl refl refl refl (omega arith)
    sums lo i (three k a b c) h lt =
        let end = end_by i (Shape.Three k) lt (stands_shape i (Shape.Three k) h.x h.y h.z h.stands) (λ r. refl) in
        let all = beside_piece (λ l u. FillsTree st h.x a l u) (λ l u. Beside (λ m v. FillsTree st h.y b m v) (λ m v. FillsTree st h.z c m v) l u) lo i (tree_sum w a) (tree_sum w b + tree_sum w c)
        (λ l u q le z. let d = q.ends in closed l h.x u a (sums l h.x a q.here (omega arith)) q.ends z)
        (λ l u q le z. beside_piece (λ m v. FillsTree st h.y b m v) (λ m v. FillsTree st h.z c m v) l u (tree_sum w b) (tree_sum w c)
        (λ m v o le' z'. let d = o.ends in closed m h.y v b (sums m h.y b o.here (omega arith)) o.ends z')
        (λ m v o le' z'. let d = o.ends in closed m h.z v c (sums m h.z c o.here (omega arith)) o.ends z')
        (λ m v o. let d = tree_low st h.y m v b o in omega arith)
        (λ m v o. let d = tree_low st h.z m v c o in omega arith)
        q le z)
        (λ l u q. let d = tree_low st h.x l u a q in omega arith)
        (λ l u q. let d = beside_low (λ m v o. tree_low st h.y m v b o) (λ m v o. tree_low st h.z m v c o) q in omega arith)
        h.parts (omega arith) end in
        over lo i (tree_sum w a + (tree_sum w b + tree_sum w c)) (Shape.Three k) h.x (w.around (Shape.Three k)) 0 (three k a b c) (root_of i (Shape.Three k) h.x h.y h.z h.stands)
        all.whole all.begins refl refl refl refl (omega arith)
    sums lo i (row ns) h lt =
        let end = end_by i (Shape.Row (count ns)) lt (stands_shape i (Shape.Row (count ns)) h.f 0 0 h.stands) (λ r. refl) in
        let all = sums_all lo h.f h.p h.l i ns h.nodes (omega arith) end in
        over lo i (tree_sums w ns) (Shape.Row (count ns)) h.f (w.around (Shape.Row (count ns))) 0 (row ns) (root_of i (Shape.Row (count ns)) h.f 0 0 h.stands)
        all.whole all.begins refl refl refl refl (omega arith)
    sums lo i (matrix align ns) h lt =
        let o = h.rowed in
        let k : Shape = Shape.Matrix align (count ns) in
        let all = matrix_whole lo h.hi i (tree_sums w ns) align (count ns) h.roof lt (stands_shape i (Shape.Matrix align (count ns)) o.f 0 0 o.stands)
        (λ le end. sums_all lo o.f o.p o.l h.hi ns o.nodes le end) in
        let c = cells_sum lo o.f o.p o.l h.hi ns o.nodes in
        over lo i (tree_sums w ns) k o.f (w.around (Shape.Matrix align (count ns)) + cells w.cell st (count ns) o.f) (cells w.plain st (count ns) o.f) (matrix align ns)
        (root_of i (Shape.Matrix align (count ns)) o.f 0 0 o.stands)
        all.whole all.begins refl refl refl refl (omega arith)

    sums_all : (lo f p l hi : ℕ) (ns : Nodes) → HoldsAll st lo f p l hi ns → hi ≤ top → End hi → Piece lo hi (tree_sums w ns)
    sums_all lo f p l hi empty h le end =
        let e = h.1 in
        let ad : added w st top lo ≡ added w st top hi = ap (λ j. added w st top j) e in
        let tk : taken w st top lo ≡ taken w st top hi = ap (λ j. taken w st top j) e in
        record { whole = omega arith; begins = end_as hi lo (sym e) end }
    sums_all lo f p l hi (n then ns) h le end =
        let b = low_all st (suc f) (record_at st f).next f l hi ns h.rest in
        let rest = sums_all (suc f) (record_at st f).next f l hi ns h.rest le end in
        let here = closed lo f (suc f) n (sums lo f n h.here (omega arith)) refl rest.begins in
        let p = here.whole in
        let q = rest.whole in
        record { whole = omega arith; begins = here.begins }

  -- the last record has none behind it
  end_top : End top
  unfolding fate_at
  end_top x e = rw (fate_at, le-ltb (suc x) top (omega arith)) refl

  -- what the records add, but for what they take back, is the sum along the nodes
  pub added_all : (f p l : ℕ) (ns : Nodes) → HoldsAll st 0 f p l top ns → added w st top top ≡ tree_sums w ns + taken w st top top
  unfolding added taken
  added_all f p l ns h = let a = (sums_all 0 f p l top ns h (le_refl top) end_top).whole in omega arith

  pub store_sum_lem : (f p l : ℕ) (ns : Nodes) → HoldsAll st 0 f p l top ns → store_sum w st top ≡ tree_sums w ns
  unfolding store_sum
  store_sum_lem f p l ns h = let a = added_all f p l ns h in omega arith
