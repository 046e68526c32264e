-- Setting the variant of a stored tree: a letter, a node that keeps its parts, and the nodes of a row one by one.
-- Assumes nothing.
use mathlib.Core.Path.{◌≡◌, refl, sym, ap, ◌∙◌}
use mathlib.Core.List.{List}
use Prim.Native.Nat.{ℕ, suc, ◌+◌, ◌*◌, ◌≤◌, ◌<◌}
use native.Mathlib.Omega.{arith}
use native.Mathlib.Nat.{le_refl}
use lib.ListN.{length}
use Rattle.text.proofs.Cases.{never}
use Rattle.attribute.specs.declared.Variant.{Variant}
use Rattle.attribute.specs.Codes.{variant_code}
use Rattle.ast.specs.declared.Leaf.{Leaf}
use Rattle.ast.specs.declared.Role.{Role}
use Rattle.ast.specs.Shape.{numbers, fields_of, shape_of, leaf_role, role_of}
use Rattle.ast.specs.Store.{record_at, Put}
use Rattle.ast.specs.Change.{with_attr}
use Rattle.ast.specs.Tree.{Node, leaf, one, two, three, row, matrix, Nodes, empty, ◌then◌, set_leaf, set_variant, set_variants}
use Rattle.ast.specs.Held.{count, Holds, HoldsAll}
use Rattle.ast.specs.Turned.{Stored, Turned, Sets, row_count}
use Rattle.ast.proofs.HeldLaws.{same_but, stands_moved, low, low_all, frame, frame_all}
use Rattle.ast.proofs.KindLaws.{kind_of, role_held}

-- a leaf that is no letter stays as it is, and has no nodes
still_leaf : (v : Variant) (l : Leaf) → (leaf_role l ≡ Role.Letter → ⊥) → (set_leaf v l ≡ l) × (row_count (leaf_role l) ≡ 0)
unfolding set_leaf
still_leaf v (Leaf.Number a e) h = (refl, refl)
still_leaf v (Leaf.Letter c u) h = absurd (h refl)
still_leaf v (Leaf.Operator c) h = (refl, refl)
still_leaf v (Leaf.Function t) h = (refl, refl)
still_leaf v (Leaf.FunctionName a e) h = (refl, refl)
still_leaf v (Leaf.Space w) h = (refl, refl)
still_leaf v (Leaf.StrechedOp o) h = (refl, refl)
still_leaf v (Leaf.OtherOperator t) h = (refl, refl)
still_leaf v (Leaf.SizedParen z t) h = (refl, refl)
still_leaf v (Leaf.Text a e) h = (refl, refl)
still_leaf v Leaf.Ampersand h = (refl, refl)
still_leaf v Leaf.NewLine h = (refl, refl)
still_leaf v (Leaf.Undefined u) h = (refl, refl)

-- a letter, of whatever character and variant
record LetterOf (t : Node) : Type 0 where
  c : ℕ
  u : Variant
  is : t ≡ leaf (Leaf.Letter c u)

letter_leaf : (l : Leaf) → leaf_role l ≡ Role.Letter → LetterOf (leaf l)
letter_leaf (Leaf.Number a e) h = never cc
letter_leaf (Leaf.Letter c u) h = record { c = c; u = u; is = refl }
letter_leaf (Leaf.Operator c) h = never cc
letter_leaf (Leaf.Function t) h = never cc
letter_leaf (Leaf.FunctionName a e) h = never cc
letter_leaf (Leaf.Space w) h = never cc
letter_leaf (Leaf.StrechedOp o) h = never cc
letter_leaf (Leaf.OtherOperator t) h = never cc
letter_leaf (Leaf.SizedParen z t) h = never cc
letter_leaf (Leaf.Text a e) h = never cc
letter_leaf Leaf.Ampersand h = never cc
letter_leaf Leaf.NewLine h = never cc
letter_leaf (Leaf.Undefined u) h = never cc

letter_of : (t : Node) → role_of (kind_of t) ≡ Role.Letter → LetterOf t
letter_of (leaf l) h = letter_leaf l h
letter_of (one k a) h = never cc
letter_of (two k a b) h = never cc
letter_of (three k a b c) h = never cc
letter_of (row ns) h = never cc
letter_of (matrix align ns) h = never cc

-- a letter whose record has the variant's attribute has the variant set
letter_turned : (st st' : List ℕ) (lo i : ℕ) (v u : Variant) (c : ℕ) → Put st st' i (with_attr (record_at st i) (variant_code v))
    → Holds st lo i (leaf (Leaf.Letter c u)) → Turned st st' lo i v (leaf (Leaf.Letter c u))
unfolding set_variant set_leaf with_attr
letter_turned st st' lo i v u c put h =
    let s = h.1 in
    let same = put.same in
    record {
      held = (
        h.0,
        record {
          kind = ap (λ q. fields_of q) same ∙ ap (λ f. numbers f.tag (variant_code v) f.x f.y) s.kind;
          a = ap (λ q. q.a) same ∙ s.a;
          b = ap (λ q. q.b) same ∙ s.b;
          c = ap (λ q. q.c) same ∙ s.c;
        },
      );
      below = λ j lt. put.other j (λ z. omega arith);
      above = λ j lt. put.other j (λ z. omega arith);
      next = ap (λ q. q.next) same;
    }

-- a letter is set by its record alone
pub sets_letter : (st st' : List ℕ) (i : ℕ) (v : Variant) → role_of (shape_of (fields_of (record_at st i))) ≡ Role.Letter
    → Put st st' i (with_attr (record_at st i) (variant_code v)) → Sets st st' i v
sets_letter st st' i v e put = record {
  all = λ lo t h.
      let w = letter_of t (sym (role_held st lo i t h) ∙ e) in
      rw w.is (letter_turned st st' lo i v w.u w.c put (rw w.is at h));
}

-- the n nodes of the tree at i are being set: `done` are set, `todo` are left, and k is the next
pub record Going (st₀ : List ℕ) (i : ℕ) (v : Variant) (lo : ℕ) (t : Node) (st : List ℕ) (k n done : ℕ) (todo : Nodes) : Type 0 where
  pub mid : ℕ
  pub prev : ℕ
  pub last : ℕ
  pub low : lo ≤ mid
  pub left : done + count todo ≡ n
  pub rest : HoldsAll st mid k prev last i todo
  pub below : (j : ℕ) → j < lo → record_at st j ≡ record_at st₀ j
  pub above : (j : ℕ) → i ≤ j → record_at st j ≡ record_at st₀ j
  pub finish : (st'' : List ℕ) → ((j : ℕ) → j < mid → record_at st'' j ≡ record_at st j) → record_at st'' i ≡ record_at st₀ i
      → HoldsAll st'' mid k prev last i (set_variants v todo) → Holds st'' lo i (set_variant v t)

-- .. whatever tree it is
abbrev pub Goes : List ℕ → ℕ → Variant → List ℕ → ℕ → ℕ → ℕ → Type 0
Goes st₀ i v st k n done = (lo : ℕ) (t : Node) → Holds st₀ lo i t → (todo : Nodes) × Going st₀ i v lo t st k n done todo

count_set : (v : Variant) (ns : Nodes) → count (set_variants v ns) ≡ count ns
unfolding count set_variants
count_set v empty = refl
count_set v (n then ns) = ap suc (count_set v ns)

-- a row has all its nodes to set, none of them yet
row_starts : (st : List ℕ) (lo i : ℕ) (v : Variant) (ns : Nodes) → Holds st lo i (row ns) → Going st i v lo (row ns) st (record_at st i).a (count ns) 0 ns
unfolding set_variant
row_starts st lo i v ns h =
    let s = h.stands in
    record {
      mid = lo;
      prev = h.p;
      last = h.l;
      low = le_refl lo;
      left = omega arith;
      rest = rw s.a h.nodes;
      below = λ j lt. refl;
      above = λ j lt. refl;
      finish = λ st'' g e all. record {
        f = (record_at st i).a;
        p = h.p;
        l = h.l;
        nodes = all;
        stands = rw (count_set v ns) (stands_moved (same_but e) (record { kind = s.kind; a = refl; b = s.b; c = s.c }));
      };
    }

-- a tree that the variant does not change has none
still_starts : (st : List ℕ) (lo i k : ℕ) (v : Variant) (t : Node) → set_variant v t ≡ t → Holds st lo i t → Going st i v lo t st k 0 0 empty
unfolding count
still_starts st lo i k v t e h = record {
  mid = i;
  prev = 0;
  last = 0;
  low = low st lo i t h;
  left = refl;
  rest = (refl, refl);
  below = λ j lt. refl;
  above = λ j lt. refl;
  finish = λ st'' g same all. rw e (frame st st'' lo i t (λ j p q. g j q) (same_but same) h);
}

starts : (st : List ℕ) (lo i : ℕ) (v : Variant) (t : Node) → (role_of (kind_of t) ≡ Role.Letter → ⊥) → Holds st lo i t
    → (todo : Nodes) × Going st i v lo t st (record_at st i).a (row_count (role_of (kind_of t))) 0 todo
unfolding set_variant
starts st lo i v (leaf l) d h =
    let q = still_leaf v l d in
    (empty, rw q.1 (still_starts st lo i _ v (leaf l) (ap (λ m. leaf m) q.0) h))
starts st lo i v (one k a) d h = (empty, still_starts st lo i _ v (one k a) refl h)
starts st lo i v (two k a b) d h = (empty, still_starts st lo i _ v (two k a b) refl h)
starts st lo i v (three k a b c) d h = (empty, still_starts st lo i _ v (three k a b c) refl h)
starts st lo i v (row ns) d h = (ns, row_starts st lo i v ns h)
starts st lo i v (matrix align ns) d h = (empty, still_starts st lo i _ v (matrix align ns) refl h)

-- before the first node
pub goes_start : (st : List ℕ) (i : ℕ) (v : Variant) (k : Role) → k ≡ role_of (shape_of (fields_of (record_at st i))) → (k ≡ Role.Letter → ⊥)
    → Goes st i v st (record_at st i).a (row_count k) 0
goes_start st i v k e d lo t h =
    let is : k ≡ role_of (kind_of t) = e ∙ role_held st lo i t h in
    rw is (starts st lo i v t (rw is at d) h)

next_stored : (st₀ : List ℕ) (i : ℕ) (v : Variant) (lo : ℕ) (t : Node) (st : List ℕ) (k n done : ℕ) (todo : Nodes) → Going st₀ i v lo t st k n done todo → done < n
    → i * 24 + 24 ≤ length st → Stored st k × (k < i)
unfolding count
next_stored st₀ i v lo t st k n done empty g lt room = let e = g.left in absurd (omega arith)
next_stored st₀ i v lo t st k n done (u then us) g lt room =
    let h = g.rest in
    let a = low_all st (suc k) (record_at st k).next k g.last i us h.rest in
    (record { lo = g.mid; tree = u; held = h.here; fits = omega arith }, omega arith)

-- the next node is stored, and before the tree's root
pub goes_next : (st₀ : List ℕ) (i : ℕ) (v : Variant) (st : List ℕ) (k n done : ℕ) → Stored st₀ i → length st ≡ length st₀ → Goes st₀ i v st k n done → done < n → Stored st k × (k < i)
goes_next st₀ i v st k n done s len g lt =
    let o = g s.lo s.tree s.held in
    let d = s.fits in
    next_stored st₀ i v s.lo s.tree st k n done o.0 o.1 lt (omega arith)

step : (st₀ : List ℕ) (i : ℕ) (v : Variant) (lo : ℕ) (t : Node) (st st₁ : List ℕ) (k n done : ℕ) (todo : Nodes) → Going st₀ i v lo t st k n done todo → done < n → Sets st st₁ k v
    → (todo' : Nodes) × Going st₀ i v lo t st₁ (record_at st₁ k).next n (done + 1) todo'
unfolding count set_variants
step st₀ i v lo t st st₁ k n done empty g lt s = let e = g.left in absurd (omega arith)
step st₀ i v lo t st st₁ k n done (u then us) g lt s =
    let h = g.rest in
    let w = s.all g.mid u h.here in
    let a = low_all st (suc k) (record_at st k).next k g.last i us h.rest in
    let d = low st g.mid k u h.here in
    let e = g.left in
    let f = g.low in (
      us,
      record {
        mid = suc k;
        prev = k;
        last = g.last;
        low = omega arith;
        left = omega arith;
        rest = rw w.next (frame_all st st₁ (suc k) (record_at st k).next k g.last i us (λ j p q. w.above j (omega arith)) h.rest);
        below = λ j q. w.below j (omega arith) ∙ g.below j q;
        above = λ j q. w.above j (omega arith) ∙ g.above j q;
        finish = λ st'' kept same all. g.finish st'' (λ j q. kept j (omega arith) ∙ w.below j q) same (record {
          here = frame st₁ st'' g.mid k (set_variant v u) (λ j p q. kept j (omega arith)) (same_but (kept k (omega arith))) w.held;
          rest = rw (kept k (omega arith)) all;
        });
      },
    )

-- one node more is set
pub goes_step : (st₀ : List ℕ) (i : ℕ) (v : Variant) (st st₁ : List ℕ) (k n done : ℕ) → Goes st₀ i v st k n done → done < n → Sets st st₁ k v
    → Goes st₀ i v st₁ (record_at st₁ k).next n (done + 1)
goes_step st₀ i v st st₁ k n done g lt s lo t h =
    let o = g lo t h in
    step st₀ i v lo t st st₁ k n done o.0 o.1 lt s

finished : (st₀ : List ℕ) (i : ℕ) (v : Variant) (lo : ℕ) (t : Node) (st : List ℕ) (k n done : ℕ) (todo : Nodes) → Going st₀ i v lo t st k n done todo → n ≤ done
    → Turned st₀ st lo i v t
unfolding count set_variants
finished st₀ i v lo t st k n done empty g le =
    let same = g.above i (le_refl i) in
    record {
      held = g.finish st (λ j q. refl) same g.rest;
      below = g.below;
      above = λ j q. g.above j (omega arith);
      next = ap (λ q. q.next) same;
    }
finished st₀ i v lo t st k n done (u then us) g le = let e = g.left in absurd (omega arith)

-- behind the last node
pub goes_done : (st₀ : List ℕ) (i : ℕ) (v : Variant) (st : List ℕ) (k n done : ℕ) → Goes st₀ i v st k n done → n ≤ done → Sets st₀ st i v
goes_done st₀ i v st k n done g le = record { all = λ lo t h. let o = g lo t h in finished st₀ i v lo t st k n done o.0 o.1 le }

-- .. and a node that is no row either has none
no_nodes : (k : Role) → ((n : ℕ) → k ≡ Role.Row n → ⊥) → row_count k ≡ 0
no_nodes Role.Letter h = refl
no_nodes (Role.Operator c) h = refl
no_nodes (Role.OtherOperator t) h = refl
no_nodes (Role.Row n) h = absurd (h n refl)
no_nodes Role.Other h = refl

-- so it stays as it is
pub sets_none : (st : List ℕ) (i : ℕ) (v : Variant) (k : Role) → k ≡ role_of (shape_of (fields_of (record_at st i))) → (k ≡ Role.Letter → ⊥)
    → ((n : ℕ) → k ≡ Role.Row n → ⊥) → Sets st st i v
sets_none st i v k e d h =
    let none = no_nodes k h in
    goes_done st i v st (record_at st i).a (row_count k) 0 (goes_start st i v k e d) (omega arith)

-- a row has all its nodes to set
pub goes_row : (st : List ℕ) (i : ℕ) (v : Variant) (n : ℕ) → Role.Row n ≡ role_of (shape_of (fields_of (record_at st i))) → Goes st i v st (record_at st i).a n 0
goes_row st i v n e = goes_start st i v (Role.Row n) e (λ z. never cc)
