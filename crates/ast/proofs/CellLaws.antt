-- The marks among the nodes of a matrix, one node after the other.
-- Assumes nothing.
use mathlib.Core.Path.{◌≡◌, refl, sym, ap, ◌∙◌}
use mathlib.Core.Bool.{Bool, true, false}
use mathlib.Core.List.{List, [], ◌∷◌}
use Prim.Native.Nat.{ℕ, zero, suc, ◌+◌, ◌-◌, ◌*◌, ◌≤◌, ◌<◌}
use native.Mathlib.Omega.{arith}
use borrow.Author.Tests.{lt-ltb, le-ltb, ne_eqb}
use lib.Dec.{eqb}
use lib.ListN.{length, get_or, get_or-eq_default}
use Rattle.std.specs.Int.{from_bool}
use Rattle.text.proofs.Tabled.{each}
use Rattle.text.proofs.Cases.{by_order}
use Rattle.text.proofs.Keys.{NoneOf, elsewhere}
use Rattle.ast.specs.declared.Leaf.{Leaf}
use Rattle.ast.specs.declared.Fate.{Fate}
use Rattle.ast.specs.declared.Shape.{Shape}
use Rattle.ast.specs.declared.Record.{Record}
use Rattle.ast.specs.Shape.{numbers, fields_of, shapes, matrix_shape, shape_of, role_of}
use Rattle.ast.specs.Store.{record_at}
use Rattle.ast.specs.Held.{is_row, row_at}
use Rattle.ast.specs.Sum.{marks, mark_sum, shape_at, cells, Chain, fate, fate_at}

-- a record with one behind it, and the last
pub fate_inside : (st : List ℕ) (top i : ℕ) → suc i < top → fate_at st top i ≡ fate (shape_at st (suc i)) (row_at st i)
unfolding fate_at
fate_inside st top i lt = rw (fate_at, lt-ltb (suc i) top lt) refl

pub fate_last : (st : List ℕ) (top i : ℕ) → top ≤ suc i → fate_at st top i ≡ Fate.Counted
unfolding fate_at
fate_last st top i le = rw (fate_at, le-ltb (suc i) top le) refl

leaf_small : (amp line : ℕ) (l : Leaf) → amp < 256 → line < 256 → mark_sum (marks amp line) (Shape.Leaf l) < 256
leaf_small amp line (Leaf.Number a e) g h = omega arith
leaf_small amp line (Leaf.Letter c v) g h = omega arith
leaf_small amp line (Leaf.Operator c) g h = omega arith
leaf_small amp line (Leaf.Function t) g h = omega arith
leaf_small amp line (Leaf.FunctionName a e) g h = omega arith
leaf_small amp line (Leaf.Space w) g h = omega arith
leaf_small amp line (Leaf.StrechedOp o) g h = omega arith
leaf_small amp line (Leaf.OtherOperator t) g h = omega arith
leaf_small amp line (Leaf.SizedParen z t) g h = omega arith
leaf_small amp line (Leaf.Text a e) g h = omega arith
leaf_small amp line Leaf.Ampersand g h = g
leaf_small amp line Leaf.NewLine g h = h
leaf_small amp line (Leaf.Undefined u) g h = omega arith

pub mark_small : (amp line : ℕ) (k : Shape) → amp < 256 → line < 256 → mark_sum (marks amp line) k < 256
mark_small amp line (Shape.Leaf l) g h = leaf_small amp line l g h
mark_small amp line (Shape.One k) g h = omega arith
mark_small amp line (Shape.Two k) g h = omega arith
mark_small amp line (Shape.Three k) g h = omega arith
mark_small amp line (Shape.Row n) g h = omega arith
mark_small amp line (Shape.Matrix align n) g h = omega arith

-- of the n nodes from a on, the first `done` are added, and k is the next
pub record Adding (f : Leaf → ℕ) (st : List ℕ) (n a k done sum : ℕ) : Type 0 where
  pub todo : ℕ
  pub left : done + todo ≡ n
  pub sofar : sum + cells f st todo k ≡ cells f st n a
  pub chain : Chain st todo k
  pub small : sum ≤ done

adding_in : (st : List ℕ) (todo k : ℕ) → 0 < todo → Chain st todo k → k * 24 + 24 ≤ length st
unfolding Chain
adding_in st zero k lt h = absurd (omega arith)
adding_in st (suc n) k lt h = h.0

pub adding_fits : {f : Leaf → ℕ} {st : List ℕ} {n a k done sum : ℕ} → Adding f st n a k done sum → done < n → k * 24 + 24 ≤ length st
adding_fits {f} {st} {n} {a} {k} {done} {sum} g lt =
    let e = g.left in
    adding_in st g.todo k (omega arith) g.chain

cells_step : (f : Leaf → ℕ) (st : List ℕ) (todo k : ℕ) → 0 < todo → Chain st todo k
    → (cells f st todo k ≡ mark_sum f (shape_at st k) + cells f st (todo - 1) (record_at st k).next) × Chain st (todo - 1) (record_at st k).next
unfolding cells Chain
cells_step f st zero k lt h = absurd (omega arith)
cells_step f st (suc n) k lt h =
    let e : n ≡ suc n - 1 = omega arith in
    (ap (λ m. mark_sum f (shape_at st k) + cells f st m (record_at st k).next) e, rw (← e) h.1)

one_at_most : (b : Bool) → from_bool b ≤ 1
one_at_most true = omega arith
one_at_most false = omega arith

-- what the code reads of a node, which is a mark or none
pub adding_more : {f : Leaf → ℕ} {st : List ℕ} {n a k done sum m : ℕ} {r : Record} (b : Bool) → Adding f st n a k done sum → done < n → r ≡ record_at st k
    → m ≡ from_bool b → from_bool b ≡ mark_sum f (shape_of (fields_of r)) → Adding f st n a r.next (done + 1) (sum + m)
unfolding shape_at
adding_more {f} {st} {n} {a} {k} {done} {sum} {m} {r} b g lt er em is =
    let e = g.left in
    let s = cells_step f st g.todo k (omega arith) g.chain in
    let here : m ≡ mark_sum f (shape_at st k) = em ∙ is ∙ ap (λ x. mark_sum f (shape_of (fields_of x))) er in
    let t = s.0 in
    let u = g.sofar in
    let w = g.small in
    rw er record { todo = g.todo - 1; left = omega arith; sofar = omega arith; chain = s.1; small = omega (arith, one_at_most b) }

pub adding_all : {f : Leaf → ℕ} {st : List ℕ} {n a k done sum : ℕ} → Adding f st n a k done sum → n ≤ done → sum ≡ cells f st n a
unfolding cells
adding_all {f} {st} {n} {a} {k} {done} {sum} g le =
    let e = g.left in
    let none : g.todo ≡ 0 = omega arith in
    let t : sum + cells f st 0 k ≡ cells f st n a = rw none at g.sofar in
    omega arith

-- the tag of a record says whether it is an ampersand, and whether it is a new line
pub ampersand_tag : (tag v x y : ℕ) → from_bool (eqb tag 11) ≡ mark_sum (marks 1 0) (shape_of (numbers tag v x y))
unfolding shape_of shapes
ampersand_tag tag v x y =
    by_order tag 36
    (λ lt. each (λ n. from_bool (eqb n 11)) (λ n. mark_sum (marks 1 0) (get_or shapes n matrix_shape v x y)) 36 refl tag lt)
    (λ ge. rw (get_or-eq_default shapes matrix_shape ge, ne_eqb tag 11 (λ e. omega arith)) refl)

pub line_tag : (tag v x y : ℕ) → from_bool (eqb tag 12) ≡ mark_sum (marks 0 1) (shape_of (numbers tag v x y))
unfolding shape_of shapes
line_tag tag v x y =
    by_order tag 36
    (λ lt. each (λ n. from_bool (eqb n 12)) (λ n. mark_sum (marks 0 1) (get_or shapes n matrix_shape v x y)) 36 refl tag lt)
    (λ ge. rw (get_or-eq_default shapes matrix_shape ge, ne_eqb tag 12 (λ e. omega arith)) refl)

-- .. and what becomes of the record before it; the tags of a slashed node and of the stretched operators, the last first
abbrev pub turning : List ℕ
turning = 24 ∷ 7 ∷ 6 ∷ []

pub stretched_fate : (tag v x y : ℕ) (r : Bool) → 6 ≤ tag → tag < 8 → fate (shape_of (numbers tag v x y)) r ≡ Fate.Dropped
unfolding shape_of shapes
stretched_fate tag v x y r ge lt =
    by_order tag 7
    (λ l. let e : tag ≡ 6 = omega arith in rw e refl)
    (λ g. let e : tag ≡ 7 = omega arith in rw e refl)

pub other_fate : (tag v x y : ℕ) (r : Bool) → tag < 36 → NoneOf turning tag → fate (shape_of (numbers tag v x y)) r ≡ Fate.Counted
unfolding shape_of shapes
other_fate tag v x y r lt h = elsewhere (λ n. fate (get_or shapes n matrix_shape v x y) r) Fate.Counted turning 36 refl tag lt h

pub matrix_fate : (tag v x y : ℕ) (r : Bool) → 36 ≤ tag → fate (shape_of (numbers tag v x y)) r ≡ fate (matrix_shape v x y) r
unfolding shape_of shapes
matrix_fate tag v x y r ge = ap (λ g. fate (g v x y) r) (get_or-eq_default shapes matrix_shape ge)

-- what the code reads of a record and of the one behind it
pub fate_read : (st : List ℕ) (top i : ℕ) {b r : Record} → i + 1 < top → b ≡ record_at st (i + 1) → r ≡ record_at st i
    → fate (shape_of (fields_of b)) (is_row (role_of (shape_of (fields_of r)))) ≡ fate_at st top i
unfolding shape_at row_at
fate_read st top i {b} {r} lt eb er =
    let one : i + 1 ≡ suc i = omega arith in
    rw (eb, er, one) (sym (fate_inside st top i (omega arith)))
