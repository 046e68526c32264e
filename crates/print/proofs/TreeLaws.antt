-- Which tree stands at a record, and where its parts stand.
-- Assumes nothing.
use mathlib.Core.Path.{◌≡◌, refl, sym, ap, ◌∙◌, subst}
use mathlib.Core.List.{List}
use Prim.Native.Nat.{ℕ, ◌+◌, ◌-◌, ◌*◌, ◌≤◌, ◌<◌}
use native.Mathlib.Omega.{arith}
use native.Mathlib.Nat.{le_refl, le_trans}
use lib.ListN.{length}
use Rattle.text.specs.declared.Dialect.{Dialect}
use Rattle.ast.specs.declared.Record.{Record}
use Rattle.ast.specs.declared.Shape.{Shape}
use Rattle.ast.specs.Shape.{fields_of, shape_of}
use Rattle.ast.specs.Store.{record_at}
use Rattle.ast.specs.Tree.{Node, leaf, one, two, three, row, matrix, Nodes}
use Rattle.ast.specs.Held.{Rowed, count, HoldsAll, FillsTree}
use Rattle.ast.proofs.HeldLaws.{roof_below, beside_low, tree_low, beside_left, turned_round}
use Rattle.ast.proofs.KindLaws.{kind_of, shape_held}
use Rattle.ast.specs.Inside.{LeafInside, TreeInside, AllInside}
use Rattle.markup.specs.Print.{slash, cell, at_place, print}
use Rattle.markup.specs.declared.Place.{Place}
use Rattle.print.specs.Shown.{shown, TreeAt, TwoAt, ThreeAt, NodesAt}
use Rattle.print.proofs.PieceLaws.{Same, Like}
use Rattle.print.proofs.ShownLaws.{by_place}

-- what stands under a root of a kind
abbrev pub Content : Shape → Type 0
Content (Shape.Leaf l) = Unit {0}
Content (Shape.One k) = Node
Content (Shape.Two k) = Node × Node
Content (Shape.Three k) = Node × (Node × Node)
Content (Shape.Row n) = Nodes
Content (Shape.Matrix align n) = Nodes

-- it stands where the root's record r says
abbrev pub ContentAt : List ℕ → List ℕ → ℕ → Record → (k : Shape) → Content k → Type 0
ContentAt s st left r (Shape.Leaf l) u = LeafInside (length s) l
ContentAt s st left r (Shape.One k) a = TreeAt s st left r.a a
ContentAt s st left r (Shape.Two k) t = TwoAt s st left r.a r.b t
ContentAt s st left r (Shape.Three k) t = ThreeAt s st left r.a r.b r.c t
ContentAt s st left r (Shape.Row n) ns = NodesAt s st left r.a n ns
ContentAt s st left r (Shape.Matrix align n) ns = NodesAt s st left r.a n ns

-- the markup of the whole node
abbrev pub content_text : Dialect → List ℕ → Place → (k : Shape) → Content k → List ℕ
content_text d s place (Shape.Leaf l) u = shown d place s (leaf l)
content_text d s place (Shape.One k) a = print d s (one k a)
content_text d s place (Shape.Two k) t = print d s (two k t.0 t.1)
content_text d s place (Shape.Three k) t = print d s (three k t.0 t.1.0 t.1.1)
content_text d s place (Shape.Row n) ns = print d s (row ns)
content_text d s place (Shape.Matrix align n) ns = print d s (matrix align ns)

-- the content of a root of the kind k stands where the record at i says, and with it the tree t has its markup
abbrev Stood : Dialect → List ℕ → List ℕ → ℕ → ℕ → Place → Node → Shape → Type 0
Stood d s st left i place t k =
    Same (ContentAt s st (left - 1) (record_at st i) k) (content_text d s place k) (shown d place s t)

-- a part stands where the root's record says, below `left - 1`
part_at : {s st : List ℕ} {left i j x : ℕ} (lo : ℕ) (t : Node) → i < left → i * 24 + 24 ≤ length st → j ≡ x → {u : ℕ} → u ≤ i → FillsTree st x t lo u
    → TreeInside (length s) t → TreeAt s st (left - 1) j t
part_at lo t near fits e le p inside =
    let b = p.ends in
    record { lo = lo; held = rw e p.here; inside = inside; near = omega arith; fits = omega arith }

-- .. and so do the nodes of a row
row_at : {s st : List ℕ} {left i : ℕ} {k : Shape} (lo : ℕ) (ns : Nodes) → i < left → i * 24 + 24 ≤ length st → {hi : ℕ} → hi ≤ i → Rowed st (λ f p l. HoldsAll st lo f p l hi ns) i k
    → AllInside (length s) ns → NodesAt s st (left - 1) (record_at st i).a (count ns) ns
row_at {i} lo ns near fits {hi} le o inside = record {
  lo = lo;
  prev = o.p;
  last = o.l;
  hi = hi;
  held = rw o.stands.a o.nodes;
  many = refl;
  inside = inside;
  near = omega arith;
  fits = omega arith;
}

-- the content of every tree stands so
stood : (d : Dialect) (s st : List ℕ) (left i : ℕ) (place : Place) (t : Node) → TreeAt s st left i t → Stood d s st left i place t (kind_of t)
unfolding shown at_place slash cell
stood d s st left i place (leaf l) h = record { what = tt; there = h.inside; same = refl }
stood d s st left i place (one k a) h =
    let o = h.held in
    record {
      what = a;
      there = part_at h.lo a h.near h.fits o.stands.a (le_refl i) o.part h.inside;
      same = by_place (λ p. shown d p s (one k a) ≡ print d s (one k a)) place refl refl refl;
    }
stood d s st left i place (two k a b) h =
    let o = h.held in
    record {
      what = (a, b);
      there = record {
        first = beside_left (λ l u q le. part_at l a h.near h.fits o.stands.a le q h.inside.0) (λ l u q. tree_low st o.y l u b q) o.parts;
        second = beside_left (λ l u q le. part_at l b h.near h.fits o.stands.b le q h.inside.1) (λ l u q. tree_low st o.x l u a q) (turned_round o.parts);
      };
      same = by_place (λ p. shown d p s (two k a b) ≡ print d s (two k a b)) place refl refl refl;
    }
stood d s st left i place (three k a b c) h =
    let o = h.held in
    record {
      what = (a, (b, c));
      there = record {
        first = beside_left (λ l u q le. part_at l a h.near h.fits o.stands.a le q h.inside.0) (λ l u q. beside_low (λ m v r. tree_low st o.y m v b r) (λ m v r. tree_low st o.z m v c r) q) o.parts;
        second = beside_left (λ l u q le. record {
          first = beside_left (λ m v r le'. part_at m b h.near h.fits o.stands.b (le_trans le' le) r h.inside.1) (λ m v r. tree_low st o.z m v c r) q;
          second = beside_left (λ m v r le'. part_at m c h.near h.fits o.stands.c (le_trans le' le) r h.inside.2) (λ m v r. tree_low st o.y m v b r) (turned_round q);
        }) (λ l u q. tree_low st o.x l u a q) (turned_round o.parts);
      };
      same = by_place (λ p. shown d p s (three k a b c) ≡ print d s (three k a b c)) place refl refl refl;
    }
stood d s st left i place (row ns) h =
    record {
      what = ns;
      there = row_at h.lo ns h.near h.fits (le_refl i) h.held h.inside;
      same = by_place (λ p. shown d p s (row ns) ≡ print d s (row ns)) place refl refl refl;
    }
stood d s st left i place (matrix align ns) h =
    record {
      what = ns;
      there = row_at h.lo ns h.near h.fits (roof_below st h.lo h.held.hi i h.held.roof) h.held.rowed h.inside;
      same = by_place (λ p. shown d p s (matrix align ns) ≡ print d s (matrix align ns)) place refl refl refl;
    }

-- whatever tree stands at i, its content is of the kind k that the record r there has
pub of_kind : {s st : List ℕ} {left i : ℕ} {r : Record} {q : Shape} (d : Dialect) (place : Place) (k : Shape) → r ≡ record_at st i → q ≡ shape_of (fields_of r) → q ≡ k
    → Like (TreeAt s st left i) (shown d place s) (ContentAt s st (left - 1) r k) (content_text d s place k)
of_kind {s} {st} {left} {i} d place k e f g = record {
  of = λ t h.
      let is : kind_of t ≡ k = sym (shape_held st h.lo i t h.held) ∙ ap (λ x. shape_of (fields_of x)) (sym e) ∙ sym f ∙ g in
      rw e (subst (Stood d s st left i place t) is (stood d s st left i place t h));
}
