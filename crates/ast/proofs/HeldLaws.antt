-- A tree stays where its records stay, whatever else changes in the store.
-- Assumes nothing.
use mathlib.Core.Path.{◌≡◌, ap, ◌∙◌}
use mathlib.Core.List.{List}
use mathlib.Core.Option.{Option, none, some}
use Prim.Native.Nat.{ℕ, suc, ◌≤◌, ◌<◌}
use native.Mathlib.Omega.{arith}
use native.Mathlib.Nat.{le_refl}
use Rattle.ast.specs.declared.Leaf.{Leaf}
use Rattle.ast.specs.declared.Record.{Record}
use Rattle.ast.specs.declared.Shape.{Shape}
use Rattle.ast.specs.Shape.{fields_of, shape_of, role_of}
use Rattle.ast.specs.Store.{record_at}
use Rattle.ast.specs.Tree.{Node, leaf, one, two, three, row, matrix, Nodes, empty, ◌then◌}
use Rattle.ast.specs.Held.{Stands, Fills, Beside, in_order, swapped, Roof, operand_of, Before, is_row, row_at, Holds, HoldsAll, FillsTree}

-- r' is r but for the next sibling
pub record SameBut (r r' : Record) : Type 0 where
  pub kind : fields_of r' ≡ fields_of r
  pub a : r'.a ≡ r.a
  pub b : r'.b ≡ r.b
  pub c : r'.c ≡ r.c

pub same_but : {r r' : Record} → r' ≡ r → SameBut r r'
same_but e = record {
  kind = ap (λ q. fields_of q) e;
  a = ap (λ q. q.a) e;
  b = ap (λ q. q.b) e;
  c = ap (λ q. q.c) e;
}

pub stands_moved : {st st' : List ℕ} {i p q r : ℕ} {k : Shape} → SameBut (record_at st i) (record_at st' i) → Stands st i k p q r → Stands st' i k p q r
stands_moved s h = record { kind = s.kind ∙ h.kind; a = s.a ∙ h.a; b = s.b ∙ h.b; c = s.c ∙ h.c }

before_low : (st : List ℕ) (lo i : ℕ) (o : Option Leaf) → Before st lo i o → lo ≤ i
before_low st lo i none h = omega arith
before_low st lo i (some l) h = let e = h.0 in omega arith

-- what holds of the ends of two holds of the ends of both together
pub beside_low : {F G : ℕ → ℕ → Type 0} {lo hi : ℕ} → ((l u : ℕ) → F l u → l < u) → ((l u : ℕ) → G l u → l < u) → Beside F G lo hi → lo < hi
beside_low {F} {G} {lo} {hi} f g (in_order mid a b) =
    let p = f lo mid a in
    let q = g mid hi b in
    omega arith
beside_low {F} {G} {lo} {hi} f g (swapped mid a b) =
    let p = g lo mid a in
    let q = f mid hi b in
    omega arith

pub fills_low : {H : ℕ → ℕ → Type 0} (x l u : ℕ) → (H l x → l ≤ x) → Fills H x l u → l < u
fills_low x l u low_of h =
    let a = low_of h.here in
    let e = h.ends in
    omega arith

-- a matrix's nodes end before its record
pub roof_below : (st : List ℕ) (lo hi i : ℕ) → Roof st lo hi i → hi ≤ i
roof_below st lo hi i (Roof.opened e le r) = omega arith
roof_below st lo hi i (Roof.alone x le e f r) = omega arith

mutual
  -- the records of a tree begin at lo at the earliest
  pub low : (st : List ℕ) (lo i : ℕ) (t : Node) → Holds st lo i t → lo ≤ i
  low st lo i (leaf l) h = before_low st lo i (operand_of l) h.0
  low st lo i (one k a) h =
      let e = fills_low h.x lo i (λ q. low st lo h.x a q) h.part in
      omega arith
  low st lo i (two k a b) h =
      let e = beside_low (λ l u q. fills_low h.x l u (λ r. low st l h.x a r) q) (λ l u q. fills_low h.y l u (λ r. low st l h.y b r) q) h.parts in
      omega arith
  low st lo i (three k a b c) h =
      let e = beside_low (λ l u q. fills_low h.x l u (λ r. low st l h.x a r) q) (λ l u q. beside_low (λ m v r. fills_low h.y m v (λ s. low st m h.y b s) r) (λ m v r. fills_low h.z m v (λ s. low st m h.z c s) r) q) h.parts in
      omega arith
  low st lo i (row ns) h = low_all st lo h.f h.p h.l i ns h.nodes
  low st lo i (matrix align ns) h =
      let a = low_all st lo h.rowed.f h.rowed.p h.rowed.l h.hi ns h.rowed.nodes in
      let b = roof_below st lo h.hi i h.roof in
      omega arith

  pub low_all : (st : List ℕ) (lo f p l hi : ℕ) (ns : Nodes) → HoldsAll st lo f p l hi ns → lo ≤ hi
  low_all st lo f p l hi empty h = let e = h.1 in omega arith
  low_all st lo f p l hi (n then ns) h =
      let a = low st lo f n h.here in
      let b = low_all st (suc f) (record_at st f).next f l hi ns h.rest in
      omega arith

-- the records from lo up to, not including, hi are the same
abbrev pub Agree : List ℕ → List ℕ → ℕ → ℕ → Type 0
Agree st st' lo hi = (j : ℕ) → lo ≤ j → j < hi → record_at st' j ≡ record_at st j

pub before_framed : (st st' : List ℕ) (lo i : ℕ) (o : Option Leaf) → Agree st st' lo i → Before st lo i o → Before st' lo i o
before_framed st st' lo i none g h = h
before_framed st st' lo i (some l) g h =
    let e = h.0 in
    (e, ap (λ q. fields_of q) (g lo (le_refl lo) (omega arith)) ∙ h.1)

pub row_same : (st st' : List ℕ) (i : ℕ) → record_at st' i ≡ record_at st i → row_at st' i ≡ row_at st i
unfolding row_at
row_same st st' i e = ap (λ q. is_row (role_of (shape_of (fields_of q)))) e

pub roof_framed : (st st' : List ℕ) (lo hi i : ℕ) → Agree st st' lo i → Roof st lo hi i → Roof st' lo hi i
roof_framed st st' lo hi i g (Roof.opened e le r) = Roof.opened e le (row_same st st' hi (g hi le (omega arith)) ∙ r)
roof_framed st st' lo hi i g (Roof.alone x le e f r) = Roof.alone x le e f (row_same st st' x (g x le (omega arith)) ∙ r)

-- a part stays where the records before its node stay
fills_framed : (st st' : List ℕ) (x l u : ℕ) {H H' : ℕ → ℕ → Type 0} → (H l x → l ≤ x) → (Agree st st' l x → SameBut (record_at st x) (record_at st' x) → H l x → H' l x)
    → Agree st st' l u → Fills H x l u → Fills H' x l u
fills_framed st st' x l u low_of framed g h =
    let e = h.ends in
    record { here = framed (λ j p q. g j p (omega arith)) (same_but (g x (low_of h.here) (omega arith))) h.here; ends = e }

-- so do two, where each stays
pub beside_framed : (st st' : List ℕ) (lo hi : ℕ) {F F' G G' : ℕ → ℕ → Type 0} → ((l u : ℕ) → F l u → l < u) → ((l u : ℕ) → G l u → l < u)
    → ((l u : ℕ) → Agree st st' l u → F l u → F' l u) → ((l u : ℕ) → Agree st st' l u → G l u → G' l u)
    → Agree st st' lo hi → Beside F G lo hi → Beside F' G' lo hi
beside_framed st st' lo hi lf lg f g agree (in_order mid a b) =
    let p = lf lo mid a in
    let q = lg mid hi b in
    in_order mid (f lo mid (λ j x y. agree j x (omega arith)) a) (g mid hi (λ j x y. agree j (omega arith) y) b)
beside_framed st st' lo hi lf lg f g agree (swapped mid a b) =
    let p = lg lo mid a in
    let q = lf mid hi b in
    swapped mid (g lo mid (λ j x y. agree j x (omega arith)) a) (f mid hi (λ j x y. agree j (omega arith) y) b)

mutual
  -- a tree stays where its records stay, but for its root's next sibling
  pub frame : (st st' : List ℕ) (lo i : ℕ) (t : Node) → Agree st st' lo i → SameBut (record_at st i) (record_at st' i) → Holds st lo i t → Holds st' lo i t
  frame st st' lo i (leaf l) g s h = (before_framed st st' lo i (operand_of l) g h.0, stands_moved s h.1)
  frame st st' lo i (one k a) g s h = record {
    x = h.x;
    part = fills_framed st st' h.x lo i (λ q. low st lo h.x a q) (λ g' s' h'. frame st st' lo h.x a g' s' h') g h.part;
    stands = stands_moved s h.stands;
  }
  frame st st' lo i (two k a b) g s h = record {
    x = h.x;
    y = h.y;
    parts = beside_framed st st' lo i
        (λ l u q. fills_low h.x l u (λ r. low st l h.x a r) q)
        (λ l u q. fills_low h.y l u (λ r. low st l h.y b r) q)
        (λ l u g' q. fills_framed st st' h.x l u (λ r. low st l h.x a r) (λ g'' s'' h''. frame st st' l h.x a g'' s'' h'') g' q)
        (λ l u g' q. fills_framed st st' h.y l u (λ r. low st l h.y b r) (λ g'' s'' h''. frame st st' l h.y b g'' s'' h'') g' q)
        g h.parts;
    stands = stands_moved s h.stands;
  }
  frame st st' lo i (three k a b c) g s h = record {
    x = h.x;
    y = h.y;
    z = h.z;
    parts = beside_framed st st' lo i
        (λ l u q. fills_low h.x l u (λ r. low st l h.x a r) q)
        (λ l u q. beside_low (λ m v r. fills_low h.y m v (λ s. low st m h.y b s) r) (λ m v r. fills_low h.z m v (λ s. low st m h.z c s) r) q)
        (λ l u g' q. fills_framed st st' h.x l u (λ r. low st l h.x a r) (λ g'' s'' h''. frame st st' l h.x a g'' s'' h'') g' q)
        (λ l u g' q. beside_framed st st' l u
        (λ m v r. fills_low h.y m v (λ w. low st m h.y b w) r)
        (λ m v r. fills_low h.z m v (λ w. low st m h.z c w) r)
        (λ m v g'' r. fills_framed st st' h.y m v (λ w. low st m h.y b w) (λ g₃ s₃ h₃. frame st st' m h.y b g₃ s₃ h₃) g'' r)
        (λ m v g'' r. fills_framed st st' h.z m v (λ w. low st m h.z c w) (λ g₃ s₃ h₃. frame st st' m h.z c g₃ s₃ h₃) g'' r)
        g' q)
        g h.parts;
    stands = stands_moved s h.stands;
  }
  frame st st' lo i (row ns) g s h = record {
    f = h.f;
    p = h.p;
    l = h.l;
    nodes = frame_all st st' lo h.f h.p h.l i ns g h.nodes;
    stands = stands_moved s h.stands;
  }
  frame st st' lo i (matrix align ns) g s h =
      let o = h.rowed in
      let d = roof_below st lo h.hi i h.roof in
      record {
        hi = h.hi;
        roof = roof_framed st st' lo h.hi i g h.roof;
        rowed = record {
          f = o.f;
          p = o.p;
          l = o.l;
          nodes = frame_all st st' lo o.f o.p o.l h.hi ns (λ j x y. g j x (omega arith)) o.nodes;
          stands = stands_moved s o.stands;
        };
      }

  pub frame_all : (st st' : List ℕ) (lo f p l hi : ℕ) (ns : Nodes) → Agree st st' lo hi → HoldsAll st lo f p l hi ns → HoldsAll st' lo f p l hi ns
  frame_all st st' lo f p l hi empty g h = h
  frame_all st st' lo f p l hi (n then ns) g h =
      let a = low st lo f n h.here in
      let b = low_all st (suc f) (record_at st f).next f l hi ns h.rest in
      let e = g f a (omega arith) in
      record {
        here = frame st st' lo f n (λ j p q. g j p (omega arith)) (same_but e) h.here;
        rest = rw e (frame_all st st' (suc f) (record_at st f).next f l hi ns (λ j p q. g j (omega arith) q) h.rest);
      }

-- a part stays, and so do two and three
pub tree_low : (st : List ℕ) (x l u : ℕ) (t : Node) → FillsTree st x t l u → l < u
tree_low st x l u t h = fills_low x l u (λ q. low st l x t q) h

module _ (st st' : List ℕ) where
  pub frame_part : (x : ℕ) (t : Node) (l u : ℕ) → Agree st st' l u → FillsTree st x t l u → FillsTree st' x t l u
  frame_part x t l u g h = fills_framed st st' x l u (λ q. low st l x t q) (λ g' s' h'. frame st st' l x t g' s' h') g h

  pub frame_parts : (x y : ℕ) (a b : Node) (l u : ℕ) → Agree st st' l u → Beside (λ m v. FillsTree st x a m v) (λ m v. FillsTree st y b m v) l u
      → Beside (λ m v. FillsTree st' x a m v) (λ m v. FillsTree st' y b m v) l u
  frame_parts x y a b l u g h =
      beside_framed st st' l u (λ m v q. tree_low st x m v a q) (λ m v q. tree_low st y m v b q) (λ m v g' q. frame_part x a m v g' q) (λ m v g' q. frame_part y b m v g' q) g h

-- two in the other order
pub turned_round : {F G : ℕ → ℕ → Type 0} {lo hi : ℕ} → Beside F G lo hi → Beside G F lo hi
turned_round (in_order mid a b) = swapped mid a b
turned_round (swapped mid a b) = in_order mid a b

-- one of two, wherever it stands
pub beside_left : {F G : ℕ → ℕ → Type 0} {lo hi : ℕ} {P : Type 0} → ((l u : ℕ) → F l u → u ≤ hi → P) → ((l u : ℕ) → G l u → l < u) → Beside F G lo hi → P
beside_left {F} {G} {lo} {hi} f g (in_order mid a b) = let e = g mid hi b in f lo mid a (omega arith)
beside_left {F} {G} {lo} {hi} f g (swapped mid a b) = f mid hi b (le_refl hi)
