-- Nodes one behind the other are printed one after the other.
-- Assumes nothing.
use mathlib.Core.Path.{◌≡◌, refl}
use mathlib.Core.List.{List, ◌++◌}
use Prim.Native.Nat.{ℕ, suc, ◌+◌, ◌-◌, ◌≤◌, ◌<◌}
use native.Mathlib.Omega.{arith}
use Rattle.text.specs.Put.{Puts}
use Rattle.text.specs.declared.put.Output.{Output}
use Rattle.text.specs.declared.Dialect.{Dialect}
use Rattle.text.proofs.PutLaws.{puts_nothing}
use Rattle.ast.specs.Store.{record_at}
use Rattle.ast.specs.Tree.{Node, Nodes, empty, ◌then◌}
use Rattle.ast.specs.Held.{count}
use Rattle.ast.proofs.HeldLaws.{low_all}
use Rattle.markup.specs.declared.Place.{Place}
use Rattle.print.specs.Shown.{shown, shown_all, TreeAt, Both, NodesAt, Printable, Prints}
use Rattle.print.proofs.PieceLaws.{Same, Like, able_like, prints_like, both_first, both_next, both_prints}

-- the first of some nodes, and those behind it
abbrev FirstAt : List ℕ → List ℕ → ℕ → ℕ → ℕ → Node × Nodes → Type 0
FirstAt s st left i n = Both (TreeAt s st left i) (NodesAt s st left (record_at st i).next (n - 1))

abbrev first_text : Dialect → List ℕ → Place → Node × Nodes → List ℕ
first_text d s place t = shown d place s t.0 ++ shown_all d place s t.1

-- some nodes are a first one and those behind it
split : (d : Dialect) (s st : List ℕ) (left i n : ℕ) (place : Place) (ns : Nodes) → 0 < n → NodesAt s st left i n ns
    → Same (FirstAt s st left i n) (first_text d s place) (shown_all d place s ns)
unfolding count shown_all
split d s st left i n place empty some h = let none = h.many in absurd (omega arith)
split d s st left i n place (t then ns) some h =
    let o = h.held in
    let near = h.near in
    let fits = h.fits in
    let rest = low_all st (suc i) (record_at st i).next i h.last h.hi ns o.rest in
    record {
      what = (t, ns);
      there = record {
        first = record { lo = h.lo; held = o.here; inside = h.inside.0; near = omega arith; fits = omega arith };
        second = record {
          lo = suc i;
          prev = i;
          last = h.last;
          hi = h.hi;
          held = o.rest;
          many = omega arith;
          inside = h.inside.1;
          near = h.near;
          fits = h.fits;
        };
      };
      same = refl;
    }

like_first : {s st : List ℕ} {left i n : ℕ} (d : Dialect) (place : Place) → 0 < n → Like (NodesAt s st left i n) (shown_all d place s) (FirstAt s st left i n) (first_text d s place)
like_first {s} {st} {left} {i} {n} d place some = record { of = λ ns h. split d s st left i n place ns some h }

-- no nodes are printed by doing nothing
none : (d : Dialect) (s : List ℕ) (place : Place) (o : Output) (ns : Nodes) → count ns ≡ 0 → Puts o o (shown_all d place s ns)
unfolding count shown_all
none d s place o empty e = puts_nothing o
none d s place o (t then ns) e = absurd (omega arith)

-- of the n nodes from a on, the first k, those before i, are printed: the others can be printed, and once they are, all are
pub record Going (d : Dialect) (s st : List ℕ) (left : ℕ) (place : Place) (a n : ℕ) (o₀ : Output) (i k : ℕ) (o : Output) : Type 0 where
  pub able : Printable (NodesAt s st left i (n - k)) (shown_all d place s) o
  pub finish : (o' : Output) → Prints (NodesAt s st left i (n - k)) (shown_all d place s) o o'
      → Prints (NodesAt s st left a n) (shown_all d place s) o₀ o'

module _ {d : Dialect} {s st : List ℕ} {left : ℕ} {place : Place} {a n : ℕ} {o₀ : Output} {i k : ℕ} {o : Output} (g : Going d s st left place a n o₀ i k o) where
  pub going_node : k < n → Printable (TreeAt s st left i) (shown d place s) o
  going_node some =
      both_first (shown d place s) (shown_all d place s) (able_like (like_first d place (omega arith)) g.able)

  pub going_next : {o₁ : Output} → k < n → Prints (TreeAt s st left i) (shown d place s) o o₁
      → Going d s st left place a n o₀ (record_at st i).next (k + 1) o₁
  going_next some p =
      let fewer : n - (k + 1) ≡ n - k - 1 = omega arith in
      record {
        able = rw fewer (both_next (shown d place s) (shown_all d place s) (able_like (like_first d place (omega arith)) g.able) p);
        finish = λ o' q.
            g.finish o' (prints_like (like_first d place (omega arith)) (both_prints (shown d place s) (shown_all d place s) p (rw fewer at q)));
      }

  pub going_done : n ≤ k → Prints (NodesAt s st left a n) (shown_all d place s) o₀ o
  going_done all =
      g.finish o (record { all = λ ns h room. none d s place o ns (let many = h.many in omega arith) })
