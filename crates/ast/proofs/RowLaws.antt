-- Trees built from trees: a node appended to the nodes of a row, and a record put behind the parts of its node.
-- Assumes nothing.
use mathlib.Core.Path.{◌≡◌, refl, sym, ap, ◌∙◌}
use mathlib.Core.List.{List}
use Prim.Native.Nat.{ℕ, suc, ◌≤◌, ◌<◌}
use native.Mathlib.Omega.{arith}
use Rattle.attribute.specs.declared.ColumnAlign.{ColumnAlign}
use Rattle.ast.specs.declared.Leaf.{Leaf}
use Rattle.ast.specs.declared.One.{One}
use Rattle.ast.specs.declared.Two.{Two}
use Rattle.ast.specs.declared.Three.{Three}
use Rattle.ast.specs.declared.Shape.{Shape}
use Rattle.ast.specs.declared.Record.{Record}
use Rattle.ast.specs.Shape.{fields, fields_of}
use Rattle.ast.specs.Store.{record_at, Put}
use Rattle.ast.specs.Change.{with_next}
use Rattle.ast.specs.Tree.{Node, leaf, one, two, three, row, matrix, Nodes, empty, ◌then◌, snoc}
use Rattle.ast.specs.Held.{Stands, Beside, Roof, count, operand_of, Before, Holds, HoldsAll, FillsTree}
use Rattle.ast.specs.Appended.{Appends}
use Rattle.ast.proofs.HeldLaws.{SameBut, same_but, low, low_all, Agree, roof_below, before_framed, roof_framed, beside_low, beside_framed, tree_low, frame, frame_all, frame_part, frame_parts}

-- the first node of a row lies below its end, and the last inside
pub first_below : (st : List ℕ) (lo f p l hi : ℕ) (n : Node) (ns : Nodes) → HoldsAll st lo f p l hi (n then ns) → f < hi
first_below st lo f p l hi n ns h =
    let a = low_all st (suc f) (record_at st f).next f l hi ns h.rest in
    omega arith

pub last_inside : (st : List ℕ) (lo f p l hi : ℕ) (n : Node) (ns : Nodes) → HoldsAll st lo f p l hi (n then ns) → (lo ≤ l) × (suc l ≡ hi)
last_inside st lo f p l hi n empty h =
    let a = low st lo f n h.here in
    let e = h.rest.0 in
    let b = h.rest.1 in
    (omega arith, omega arith)
last_inside st lo f p l hi n (m then ns) h =
    let a = low st lo f n h.here in
    let b = last_inside st (suc f) (record_at st f).next f l hi m ns h.rest in
    (omega arith, b.1)

-- a node by itself is the one node of a row
pub append_first : (st : List ℕ) (lo i p hi : ℕ) (t : Node) → Holds st lo i t → suc i ≡ hi → HoldsAll st lo i p i hi (t then empty)
append_first st lo i p hi t h e = record { here = h; rest = (refl, e) }

-- a record with another next is the same but for that
next_put : {st st' : List ℕ} {l x : ℕ} → Put st st' l (with_next (record_at st l) x) → SameBut (record_at st l) (record_at st' l) × ((record_at st' l).next ≡ x)
unfolding with_next
next_put put =
    let e = put.same in
    (record { kind = ap (λ q. fields_of q) e; a = ap (λ q. q.a) e; b = ap (λ q. q.b) e; c = ap (λ q. q.c) e }, ap (λ q. q.next) e)

module _ (st st' : List ℕ) (l hi hi' x : ℕ) (t : Node) (put : Put st st' l (with_next (record_at st l) x)) (ht : Holds st hi x t) (lt : suc x ≡ hi') where
  -- a node linked behind the last of a row's nodes is the last of them
  pub append_next : (lo f p : ℕ) (n : Node) (ns : Nodes) → HoldsAll st lo f p l hi (n then ns) → HoldsAll st' lo f p x hi' (snoc (n then ns) t)
  unfolding snoc
  append_next lo f p n empty h =
      let e : l ≡ f = h.rest.0 in
      let b : suc f ≡ hi = h.rest.1 in
      let a = low st hi x t ht in
      let s = next_put put in
      let moved : Holds st' hi x t = frame st st' hi x t (λ j p q. put.other j (λ z. omega arith)) (same_but (put.other x (λ z. omega arith))) ht in
      let linked : (record_at st' f).next ≡ x = rw e at s.1 in
      record {
        here = frame st st' lo f n (λ j p q. put.other j (λ z. omega arith)) (rw e at s.0) h.here;
        rest = rw (linked, b) (append_first st' hi x f hi' t moved lt);
      }
  append_next lo f p n (m then ns) h =
      let b = last_inside st (suc f) (record_at st f).next f l hi m ns h.rest in
      let e = put.other f (λ z. omega arith) in
      record {
        here = frame st st' lo f n (λ j p q. put.other j (λ z. omega arith)) (same_but e) h.here;
        rest = rw e (append_next (suc f) (record_at st f).next f m ns h.rest);
      }

-- what a push does before the first node
linked_first : (st : List ℕ) (f l i lo p hi hi' : ℕ) (ns : Nodes) (t : Node) → HoldsAll st lo f p l hi ns → 0 ≡ count ns → Holds st hi i t → suc i ≡ hi'
    → HoldsAll st lo i p i hi' (snoc ns t)
unfolding snoc count
linked_first st f l i lo p hi hi' empty t ks e h lt = append_first st lo i p hi' t (rw (← ks.1) at h) lt
linked_first st f l i lo p hi hi' (n then ns) t ks e h lt = absurd (omega arith)

pub appends_first : (st : List ℕ) (f l n i : ℕ) → n ≡ 0 → Appends st st f l n i i
appends_first st f l n i z = record {
  linked = λ lo p hi hi' ns t ks e h lt. linked_first st f l i lo p hi hi' ns t ks (sym z ∙ e) h lt;
  kept = λ lo p hi ns ks e j lt. refl;
}

-- .. and behind one
linked_next : (st st' : List ℕ) (f l n i : ℕ) → (n ≡ 0 → ⊥) → Put st st' l (with_next (record_at st l) i)
    → (lo p hi hi' : ℕ) (ns : Nodes) (t : Node) → HoldsAll st lo f p l hi ns → n ≡ count ns → Holds st hi i t → suc i ≡ hi' → HoldsAll st' lo f p i hi' (snoc ns t)
unfolding count
linked_next st st' f l n i d put lo p hi hi' empty t ks e h lt = absurd (d e)
linked_next st st' f l n i d put lo p hi hi' (m then ns) t ks e h lt = append_next st st' l hi hi' i t put h lt lo f p m ns ks

kept_next : (st st' : List ℕ) (f l n i : ℕ) → (n ≡ 0 → ⊥) → Put st st' l (with_next (record_at st l) i)
    → (lo p hi : ℕ) (ns : Nodes) → HoldsAll st lo f p l hi ns → n ≡ count ns → (j : ℕ) → j < lo → record_at st' j ≡ record_at st j
unfolding count
kept_next st st' f l n i d put lo p hi empty ks e j lt = absurd (d e)
kept_next st st' f l n i d put lo p hi (m then ns) ks e j lt =
    let b = last_inside st lo f p l hi m ns ks in
    put.other j (λ z. omega arith)

pub appends_next : (st st' : List ℕ) (f l n i : ℕ) → (n ≡ 0 → ⊥) → Put st st' l (with_next (record_at st l) i) → Appends st st' f l n i f
appends_next st st' f l n i d put = record { linked = linked_next st st' f l n i d put; kept = kept_next st st' f l n i d put }

-- the nodes of a row that is held
pub record Opened (st : List ℕ) (lo i : ℕ) (ns : Nodes) : Type 0 where
  pub p : ℕ
  pub l : ℕ
  pub nodes : HoldsAll st lo (record_at st i).a p l i ns
  pub counted : count ns ≡ (record_at st i).x

pub row_opened : (st : List ℕ) (lo i : ℕ) (ns : Nodes) → Holds st lo i (row ns) → Opened st lo i ns
row_opened st lo i ns h =
    record { p = h.p; l = h.l; nodes = rw h.stands.a h.nodes; counted = sym (ap (λ q. q.x) h.stands.kind) }

-- a record put at m behind all the parts of its node
module _ {st st' : List ℕ} {m : ℕ} {r : Record} (put : Put st st' m r) where
  pub put_agrees : (lo : ℕ) → Agree st st' lo m
  put_agrees lo j p q = put.other j (λ z. omega arith)

  pub put_keeps : (lo i : ℕ) (t : Node) → Holds st lo i t → i < m → Holds st' lo i t
  put_keeps lo i t h lt = frame st st' lo i t (λ j p q. put.other j (λ z. omega arith)) (same_but (put.other i (λ z. omega arith))) h

  stands_put : {k : Shape} {x y z : ℕ} → fields_of r ≡ fields k → r.a ≡ x → r.b ≡ y → r.c ≡ z → Stands st' m k x y z
  stands_put e ea eb ec =
      let s = same_but put.same in
      record { kind = s.kind ∙ e; a = s.a ∙ ea; b = s.b ∙ eb; c = s.c ∙ ec }

  pub put_leaf : (lo : ℕ) (l : Leaf) → fields_of r ≡ fields (Shape.Leaf l) → r.a ≡ 0 → r.b ≡ 0 → r.c ≡ 0 → Before st lo m (operand_of l) → Holds st' lo m (leaf l)
  put_leaf lo l e ea eb ec g = (before_framed st st' lo m (operand_of l) (put_agrees lo) g, stands_put e ea eb ec)

  pub put_one : (lo : ℕ) {x : ℕ} (k : One) (a : Node) → fields_of r ≡ fields (Shape.One k) → r.a ≡ x → r.b ≡ 0 → r.c ≡ 0 → FillsTree st x a lo m → Holds st' lo m (one k a)
  put_one lo {x} k a e ea eb ec h = record { x = x; part = frame_part st st' x a lo m (put_agrees lo) h; stands = stands_put e ea eb ec }

  pub put_two : (lo : ℕ) {x y : ℕ} (k : Two) (a b : Node) → fields_of r ≡ fields (Shape.Two k) → r.a ≡ x → r.b ≡ y → r.c ≡ 0
      → Beside (λ l u. FillsTree st x a l u) (λ l u. FillsTree st y b l u) lo m → Holds st' lo m (two k a b)
  put_two lo {x} {y} k a b e ea eb ec h = record { x = x; y = y; parts = frame_parts st st' x y a b lo m (put_agrees lo) h; stands = stands_put e ea eb ec }

  pub put_three : (lo : ℕ) {x y z : ℕ} (k : Three) (a b c : Node) → fields_of r ≡ fields (Shape.Three k) → r.a ≡ x → r.b ≡ y → r.c ≡ z
      → Beside (λ l u. FillsTree st x a l u) (λ l u. Beside (λ n v. FillsTree st y b n v) (λ n v. FillsTree st z c n v) l u) lo m → Holds st' lo m (three k a b c)
  put_three lo {x} {y} {z} k a b c e ea eb ec h = record {
    x = x;
    y = y;
    z = z;
    parts = beside_framed st st' lo m (λ l u q. tree_low st x l u a q) (λ l u q. beside_low (λ n v w. tree_low st y n v b w) (λ n v w. tree_low st z n v c w) q) (λ l u g q. frame_part st st' x a l u g q) (λ l u g q. frame_parts st st' y z b c l u g q) (put_agrees lo) h;
    stands = stands_put e ea eb ec;
  }

  pub put_row : (lo : ℕ) {f : ℕ} (p l : ℕ) (ns : Nodes) → fields_of r ≡ fields (Shape.Row (count ns)) → r.a ≡ f → r.b ≡ 0 → r.c ≡ 0 → HoldsAll st lo f p l m ns → Holds st' lo m (row ns)
  put_row lo {f} p l ns e ea eb ec h = record { f = f; p = p; l = l; nodes = frame_all st st' lo f p l m ns (put_agrees lo) h; stands = stands_put e ea eb ec }

  pub put_matrix : (lo hi : ℕ) {f : ℕ} (p l : ℕ) (align : ColumnAlign) (ns : Nodes) → fields_of r ≡ fields (Shape.Matrix align (count ns)) → r.a ≡ f → r.b ≡ 0 → r.c ≡ 0
      → Roof st lo hi m → HoldsAll st lo f p l hi ns → Holds st' lo m (matrix align ns)
  put_matrix lo hi {f} p l align ns e ea eb ec roof h =
      let d = roof_below st lo hi m roof in
      record {
        hi = hi;
        roof = roof_framed st st' lo hi m (put_agrees lo) roof;
        rowed = record { f = f; p = p; l = l; nodes = frame_all st st' lo f p l hi ns (λ j x y. put.other j (λ z. omega arith)) h; stands = stands_put e ea eb ec };
      }
