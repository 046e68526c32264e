-- The length of the markup and the number of its error texts, one record after the other as they lie in the store.
-- Assumes nothing.
use mathlib.Core.Path.{◌≡◌, refl, sym, ap, ◌∙◌}
use mathlib.Core.Bool.{Bool, true, false}
use mathlib.Core.List.{List}
use Prim.Native.Nat.{ℕ, zero, suc, ◌+◌, ◌-◌, ◌*◌, ◌^◌, ◌≤◌, ◌<◌, zero-le}
use native.Mathlib.Omega.{arith}
use native.Mathlib.Nat.{mul-add}
use lib.ListN.{length, get_or-eq_default}
use borrow.Author.Tests.{leb-true}
use denote.Enum.Bare.{sameb}
use Rattle.std.specs.Int.{from_bool}
use Rattle.text.proofs.Cases.{never}
use Rattle.text.specs.Examples.{text_opens}
use Rattle.text.specs.declared.Dialect.{Dialect}
use Rattle.attribute.specs.declared.ColumnAlign.{ColumnAlign}
use Rattle.attribute.specs.Codes.{align_of}
use Rattle.ast.specs.declared.Leaf.{Leaf}
use Rattle.ast.specs.declared.One.{One}
use Rattle.ast.specs.declared.Shape.{Shape}
use Rattle.ast.specs.declared.Fate.{Fate}
use Rattle.ast.specs.declared.Record.{Record}
use Rattle.ast.specs.declared.Fields.{Fields}
use Rattle.ast.specs.Shape.{fields_of, shapes, matrix_shape, shape_of, is_matrix}
use Rattle.ast.specs.Store.{record_at}
use Rattle.ast.specs.Tree.{leaf, one, two, three, row, matrix, Nodes, empty, size}
use Rattle.ast.specs.contracts.Fate.{the_type}
use Rattle.ast.specs.Held.{count, HoldsAll}
use Rattle.ast.specs.Inside.{ShapeInside}
use Rattle.ast.specs.Sum.{marks, mark_sum, cells, Chain, shape_at, fate_at, tree_sum, tree_sums, own_sum, own_taken, added_by, taken_by, added, taken, store_sum}
use Rattle.ast.proofs.CellLaws.{mark_small}
use Rattle.ast.proofs.ShapeLaws.{matrix_tag}
use Rattle.ast.proofs.SumLaws.{added_all, store_sum_lem}
use Rattle.markup.specs.Print.{at_place, cell, cell_leaf, print_leaf, print_all}
use Rattle.markup.specs.Own.{under, own_text, own, error_of, own_errors, errors}
use Rattle.markup.proofs.OwnLaws.{print_own, print_all_own}
use Rattle.markup.proofs.PrintLaws.{error_ampersand, error_new_line}
use Rattle.markup.proofs.ShortLaws.{most, short}
use Rattle.print.specs.declared.measure.Sums.{Sums}
use Rattle.print.specs.Measure.{Measurable, is_dropped, is_slashed, Summed}
use Rattle.print.proofs.FineLaws.{Fine, all_fine}

-- ---- what a measure adds for the marks of a matrix is a number for each ampersand and one for each new line

leaf_of : (f : Leaf → ℕ) (l : Leaf) → mark_sum f (Shape.Leaf l) ≡ f Leaf.Ampersand * mark_sum (marks 1 0) (Shape.Leaf l) + f Leaf.NewLine * mark_sum (marks 0 1) (Shape.Leaf l)
leaf_of f (Leaf.Number a e) = omega arith
leaf_of f (Leaf.Letter c v) = omega arith
leaf_of f (Leaf.Operator c) = omega arith
leaf_of f (Leaf.Function t) = omega arith
leaf_of f (Leaf.FunctionName a e) = omega arith
leaf_of f (Leaf.Space w) = omega arith
leaf_of f (Leaf.StrechedOp o) = omega arith
leaf_of f (Leaf.OtherOperator t) = omega arith
leaf_of f (Leaf.SizedParen z t) = omega arith
leaf_of f (Leaf.Text a e) = omega arith
leaf_of f Leaf.Ampersand = omega arith
leaf_of f Leaf.NewLine = omega arith
leaf_of f (Leaf.Undefined u) = omega arith

mark_of : (f : Leaf → ℕ) (k : Shape) → mark_sum f k ≡ f Leaf.Ampersand * mark_sum (marks 1 0) k + f Leaf.NewLine * mark_sum (marks 0 1) k
mark_of f (Shape.Leaf l) = leaf_of f l
mark_of f (Shape.One k) = omega arith
mark_of f (Shape.Two k) = omega arith
mark_of f (Shape.Three k) = omega arith
mark_of f (Shape.Row n) = omega arith
mark_of f (Shape.Matrix align n) = omega arith

cells_of : (f : Leaf → ℕ) (st : List ℕ) (n a : ℕ) → cells f st n a ≡ f Leaf.Ampersand * cells (marks 1 0) st n a + f Leaf.NewLine * cells (marks 0 1) st n a
unfolding cells
cells_of f st zero a = omega arith
cells_of f st (suc n) a =
    let x = mark_of f (shape_at st a) in
    let y = cells_of f st n (record_at st a).next in
    let p = mul-add (f Leaf.Ampersand) (mark_sum (marks 1 0) (shape_at st a)) (cells (marks 1 0) st n (record_at st a).next) in
    let q = mul-add (f Leaf.NewLine) (mark_sum (marks 0 1) (shape_at st a)) (cells (marks 0 1) st n (record_at st a).next) in
    omega arith

-- of a record of the kind k, of which the first part is at a: only a matrix has marks
abbrev pub marks_in : (Leaf → ℕ) → List ℕ → Shape → ℕ → ℕ
marks_in f st (Shape.Leaf l) a = 0
marks_in f st (Shape.One k) a = 0
marks_in f st (Shape.Two k) a = 0
marks_in f st (Shape.Three k) a = 0
marks_in f st (Shape.Row c) a = 0
marks_in f st (Shape.Matrix align c) a = cells f st c a

marks_few : (amp line : ℕ) (st : List ℕ) → amp < 256 → line < 256 → (n a : ℕ) → cells (marks amp line) st n a ≤ n * 256
unfolding cells
marks_few amp line st g h zero a = zero-le
marks_few amp line st g h (suc n) a =
    let x = mark_small amp line (shape_at st a) g h in
    let y = marks_few amp line st g h n (record_at st a).next in
    omega arith

length_cells : (d : Dialect) (s st : List ℕ) (n a : ℕ) → (cells (own d s).cell st n a ≡ 11 * cells (marks 1 0) st n a + 22 * cells (marks 0 1) st n a) × (cells (own d s).plain st n a ≡ 39 * cells (marks 1 0) st n a + 37 * cells (marks 0 1) st n a)
unfolding text_opens own own_text at_place cell cell_leaf print_leaf
length_cells d s st n a =
    let ampersand : (own d s).plain Leaf.Ampersand ≡ 39 = rw (error_ampersand d) refl in
    let line : (own d s).plain Leaf.NewLine ≡ 37 = rw (error_new_line d) refl in
    (cells_of (own d s).cell st n a, cells_of (own d s).plain st n a ∙ rw (ampersand, line))

error_cells : (st : List ℕ) (n a : ℕ) → (cells errors.cell st n a ≡ 0) × (cells errors.plain st n a ≡ cells (marks 1 0) st n a + cells (marks 0 1) st n a)
unfolding errors
error_cells st n a =
    let x = cells_of errors.cell st n a in
    let y = cells_of errors.plain st n a in
    (omega arith, omega arith)

-- ---- no record adds much

plain_small : (d : Dialect) (s : List ℕ) (l : Leaf) → (own d s).plain l ≤ most (length s)
unfolding tree_sum size
plain_small d s l =
    let a = print_own d s (leaf l) in
    let b = short d s (leaf l) in
    omega arith

slashed_small : (d : Dialect) (s : List ℕ) (l : Leaf) → (own d s).slashed l ≤ 2 * most (length s)
unfolding tree_sum size
slashed_small d s l =
    let a = print_own d s (one One.Slashed (leaf l)) in
    let b = short d s (one One.Slashed (leaf l)) in
    omega arith

leaf_around : (d : Dialect) (s : List ℕ) (l : Leaf) → (own d s).around (Shape.Leaf l) ≤ 4 * most (length s)
unfolding own
leaf_around d s l = let x = plain_small d s l in omega arith

row_around : (d : Dialect) (s : List ℕ) (n : ℕ) → (own d s).around (Shape.Row n) ≡ (own d s).around (Shape.Row 0)
unfolding own own_text
row_around d s n = refl

matrix_around : (d : Dialect) (s : List ℕ) (align : ColumnAlign) (n : ℕ) → (own d s).around (Shape.Matrix align n) ≡ (own d s).around (Shape.Matrix align 0)
unfolding own own_text
matrix_around d s align n = refl

around_small : (d : Dialect) (s : List ℕ) (k : Shape) → (own d s).around k ≤ 4 * most (length s)
unfolding tree_sum size count
around_small d s (Shape.Leaf l) = leaf_around d s l
around_small d s (Shape.One k) =
    let a = print_own d s (one k (row empty)) in
    let b = short d s (one k (row empty)) in
    omega arith
around_small d s (Shape.Two k) =
    let a = print_own d s (two k (row empty) (row empty)) in
    let b = short d s (two k (row empty) (row empty)) in
    omega arith
around_small d s (Shape.Three k) =
    let a = print_own d s (three k (row empty) (row empty) (row empty)) in
    let b = short d s (three k (row empty) (row empty) (row empty)) in
    omega arith
around_small d s (Shape.Row n) =
    let a = print_own d s (row empty) in
    let b = short d s (row empty) in
    let c = row_around d s n in
    omega arith
around_small d s (Shape.Matrix align n) =
    let a = print_own d s (matrix align empty) in
    let b = short d s (matrix align empty) in
    let c = matrix_around d s align n in
    omega arith

-- plain or under a slash
leaf_most : (d : Dialect) (s : List ℕ) (b : Bool) (l : Leaf) → length (own_text d (under b) s (Shape.Leaf l)) ≤ 4 * most (length s)
unfolding own
leaf_most d s true l = let x = slashed_small d s l in omega arith
leaf_most d s false l = let x = plain_small d s l in omega arith

own_most : (d : Dialect) (s : List ℕ) (b : Bool) (k : Shape) → length (own_text d (under b) s k) ≤ 4 * most (length s)
unfolding own own_text
own_most d s b (Shape.Leaf l) = leaf_most d s b l
own_most d s b (Shape.One k) = around_small d s (Shape.One k)
own_most d s b (Shape.Two k) = around_small d s (Shape.Two k)
own_most d s b (Shape.Three k) = around_small d s (Shape.Three k)
own_most d s b (Shape.Row n) = around_small d s (Shape.Row n)
own_most d s b (Shape.Matrix align n) = around_small d s (Shape.Matrix align n)

leaf_few : (l : Leaf) → error_of l ≤ 1
leaf_few (Leaf.Number a e) = zero-le
leaf_few (Leaf.Letter c v) = zero-le
leaf_few (Leaf.Operator c) = zero-le
leaf_few (Leaf.Function t) = zero-le
leaf_few (Leaf.FunctionName a e) = zero-le
leaf_few (Leaf.Space w) = zero-le
leaf_few (Leaf.StrechedOp o) = zero-le
leaf_few (Leaf.OtherOperator t) = zero-le
leaf_few (Leaf.SizedParen z t) = zero-le
leaf_few (Leaf.Text a e) = zero-le
leaf_few Leaf.Ampersand = omega arith
leaf_few Leaf.NewLine = omega arith
leaf_few (Leaf.Undefined u) = omega arith

-- ---- what a record adds that is not dropped, and what it takes back

module _ (d : Dialect) (s st : List ℕ) where
  abbrev A : Shape → ℕ → ℕ
  A k a = marks_in (marks 1 0) st k a

  abbrev L : Shape → ℕ → ℕ
  L k a = marks_in (marks 0 1) st k a

  own_length : (b : Bool) (f : Leaf → ℕ) → ((l : Leaf) → f l ≡ length (own_text d (under b) s (Shape.Leaf l))) → (k : Shape) (a : ℕ)
      → own_sum (own d s) f st k a ≡ length (own_text d (under b) s k) + (11 * A k a + 22 * L k a)
  unfolding own own_text
  own_length b f h (Shape.Leaf l) a = let x = h l in omega arith
  own_length b f h (Shape.One k) a = omega arith
  own_length b f h (Shape.Two k) a = omega arith
  own_length b f h (Shape.Three k) a = omega arith
  own_length b f h (Shape.Row c) a = omega arith
  own_length b f h (Shape.Matrix align c) a = let x = (length_cells d s st c a).0 in omega arith

  own_back : (k : Shape) (a : ℕ) → own_taken (own d s) st k a ≡ 39 * A k a + 37 * L k a
  own_back (Shape.Leaf l) a = refl
  own_back (Shape.One k) a = refl
  own_back (Shape.Two k) a = refl
  own_back (Shape.Three k) a = refl
  own_back (Shape.Row c) a = refl
  own_back (Shape.Matrix align c) a = (length_cells d s st c a).1

  error_own : (f : Leaf → ℕ) → ((l : Leaf) → f l ≡ error_of l) → (k : Shape) (a : ℕ) → own_sum errors f st k a ≡ own_errors k
  unfolding errors
  error_own f h (Shape.Leaf l) a = h l
  error_own f h (Shape.One k) a = refl
  error_own f h (Shape.Two k) a = refl
  error_own f h (Shape.Three k) a = refl
  error_own f h (Shape.Row c) a = refl
  error_own f h (Shape.Matrix align c) a = let x = (error_cells st c a).0 in omega arith

  error_back : (k : Shape) (a : ℕ) → own_taken errors st k a ≡ A k a + L k a
  error_back (Shape.Leaf l) a = refl
  error_back (Shape.One k) a = refl
  error_back (Shape.Two k) a = refl
  error_back (Shape.Three k) a = refl
  error_back (Shape.Row c) a = refl
  error_back (Shape.Matrix align c) a = (error_cells st c a).1

  -- the four numbers of the record at j
  record Adds (f : Fate) (j n e x y : ℕ) : Type 0 where
    length_more : added_by (own d s) st f j ≡ n + (11 * x + 22 * y)
    length_less : taken_by (own d s) st f j ≡ 39 * x + 37 * y
    errors_more : added_by errors st f j ≡ e
    errors_less : taken_by errors st f j ≡ x + y

  adds : (f : Fate) (j : ℕ) → is_dropped f ≡ false
      → Adds f j (length (own_text d (under (is_slashed f)) s (shape_at st j))) (own_errors (shape_at st j)) (A (shape_at st j) (record_at st j).a) (L (shape_at st j) (record_at st j).a)
  unfolding own errors
  adds Fate.Counted j held =
      record {
        length_more = own_length false (own d s).plain (λ l. refl) (shape_at st j) (record_at st j).a;
        length_less = own_back (shape_at st j) (record_at st j).a;
        errors_more = error_own errors.plain (λ l. refl) (shape_at st j) (record_at st j).a;
        errors_less = error_back (shape_at st j) (record_at st j).a;
      }
  adds Fate.Slashed j held =
      record {
        length_more = own_length true (own d s).slashed (λ l. refl) (shape_at st j) (record_at st j).a;
        length_less = own_back (shape_at st j) (record_at st j).a;
        errors_more = error_own errors.slashed (λ l. refl) (shape_at st j) (record_at st j).a;
        errors_less = error_back (shape_at st j) (record_at st j).a;
      }
  adds Fate.Dropped j held = never cc

  adds_nothing : (f : Fate) (j : ℕ) → is_dropped f ≡ true → Adds f j 0 0 0 0
  adds_nothing Fate.Counted j gone = never cc
  adds_nothing Fate.Slashed j gone = never cc
  adds_nothing Fate.Dropped j gone = record { length_more = refl; length_less = refl; errors_more = refl; errors_less = refl }

  -- ---- the loop: the records before k are added
  module _ (top : ℕ) where
    pub summed_none : {sums : Sums} → (sums.length ≡ 0) × ((sums.errors ≡ 0) × ((sums.ampersands ≡ 0) × (sums.lines ≡ 0))) → Summed d s st top 0 sums
    unfolding added taken
    summed_none z =
        record {
          in_store = zero-le;
          length_more = omega arith;
          length_less = omega arith;
          errors_more = omega arith;
          errors_less = omega arith;
          length_small = omega arith;
          errors_small = omega arith;
          marks_small = omega arith;
        }

    summed_more : (k : ℕ) (sums : Sums) {n e x y : ℕ} → Summed d s st top k sums → k < top → Adds (fate_at st top k) k n e x y → n ≤ 33554432 → e ≤ 1 → x + y ≤ 33554432
        → Summed d s st top (k + 1) (record { length = sums.length + n; errors = sums.errors + e; ampersands = sums.ampersands + x; lines = sums.lines + y })
    unfolding added taken
    summed_more k sums {n} {e} {x} {y} g lt a bn be bm =
        let next : suc k ≡ k + 1 = omega arith in
        let g1 = g.length_more in
        let g2 = g.length_less in
        let g3 = g.errors_more in
        let g4 = g.errors_less in
        let g5 = g.length_small in
        let g6 = g.errors_small in
        let g7 = g.marks_small in
        let d1 = a.length_more in
        let d2 = a.length_less in
        let d3 = a.errors_more in
        let d4 = a.errors_less in
        let p1 : sums.length + n + (11 * (sums.ampersands + x) + 22 * (sums.lines + y)) ≡ added (own d s) st top (suc k) = omega arith in
        let p2 : 39 * (sums.ampersands + x) + 37 * (sums.lines + y) ≡ taken (own d s) st top (suc k) = omega arith in
        let p3 : sums.errors + e ≡ added errors st top (suc k) = omega arith in
        let p4 : sums.ampersands + x + (sums.lines + y) ≡ taken errors st top (suc k) = omega arith in
        record {
          in_store = omega arith;
          length_more = p1 ∙ ap (λ j. added (own d s) st top j) next;
          length_less = p2 ∙ ap (λ j. taken (own d s) st top j) next;
          errors_more = p3 ∙ ap (λ j. added errors st top j) next;
          errors_less = p4 ∙ ap (λ j. taken errors st top j) next;
          length_small = omega arith;
          errors_small = omega arith;
          marks_small = omega arith;
        }

-- ---- what the code reads

-- what is no matrix has no marks, and what is one has a tag from 36 on
none_marked : (f : Leaf → ℕ) (st : List ℕ) (k : Shape) (a : ℕ) → is_matrix k ≡ false → marks_in f st k a ≡ 0
none_marked f st (Shape.Leaf l) a h = refl
none_marked f st (Shape.One k) a h = refl
none_marked f st (Shape.Two k) a h = refl
none_marked f st (Shape.Three k) a h = refl
none_marked f st (Shape.Row n) a h = refl
none_marked f st (Shape.Matrix align n) a h = never (ap from_bool (sym h))

pub a_matrix : (q : Record) → is_matrix (shape_of (fields_of q)) ≡ true → shape_of (fields_of q) ≡ Shape.Matrix (align_of q.attr) q.x
unfolding shape_of shapes
a_matrix q h = ap (λ g. g q.attr q.x q.y) (get_or-eq_default shapes matrix_shape (leb-true 36 q.tag (matrix_tag q.tag q.attr q.x q.y ∙ h)))

fine_inside : (n : ℕ) (st : List ℕ) (top : ℕ) (k : Shape) (a : ℕ) → Fine n st top k a → ShapeInside n k
fine_inside n st top (Shape.Leaf l) a g = g
fine_inside n st top (Shape.One k) a g = tt
fine_inside n st top (Shape.Two k) a g = tt
fine_inside n st top (Shape.Three k) a g = tt
fine_inside n st top (Shape.Row c) a g = tt
fine_inside n st top (Shape.Matrix align c) a g = tt

errors_few : (k : Shape) → own_errors k ≤ 1
errors_few (Shape.Leaf l) = leaf_few l
errors_few (Shape.One k) = zero-le
errors_few (Shape.Two k) = zero-le
errors_few (Shape.Three k) = zero-le
errors_few (Shape.Row c) = zero-le
errors_few (Shape.Matrix align c) = zero-le

-- what the derived equality of fates says
pub same_dropped : (f : Fate) → sameb the_type f Fate.Dropped ≡ is_dropped f
same_dropped Fate.Counted = refl
same_dropped Fate.Slashed = refl
same_dropped Fate.Dropped = refl

pub same_slashed : (f : Fate) → sameb the_type f Fate.Slashed ≡ is_slashed f
same_slashed Fate.Counted = refl
same_slashed Fate.Slashed = refl
same_slashed Fate.Dropped = refl

module _ {d : Dialect} {s st : List ℕ} {top k : ℕ} {sums : Sums} (h : Measurable s st top) (g : Summed d s st top k sums) (lt : k < top) where
  fine_here : Fine (length s) st top (shape_at st k) (record_at st k).a
  fine_here = all_fine (length s) st top h.fits h.f h.p h.l h.nodes h.held h.inside k lt

  -- a record that the finished tree does not hold is skipped
  pub step_dropped : {f : Fate} → f ≡ fate_at st top k → is_dropped f ≡ true → Summed d s st top (k + 1) sums
  step_dropped {f} e gone =
      let z = summed_more d s st top k sums g lt (adds_nothing d s st (fate_at st top k) k (rw e at gone)) zero-le zero-le zero-le in
      let z1 = z.length_more in
      let z2 = z.length_less in
      let z3 = z.errors_more in
      let z4 = z.errors_less in
      let z5 = z.length_small in
      let z6 = z.errors_small in
      let z7 = z.marks_small in
      record {
        in_store = z.in_store;
        length_more = omega arith;
        length_less = omega arith;
        errors_more = omega arith;
        errors_less = omega arith;
        length_small = omega arith;
        errors_small = omega arith;
        marks_small = omega arith;
      }

  module _ {f : Fate} {q : Record} {v : Fields} (e : f ≡ fate_at st top k) (held : is_dropped f ≡ false) (er : q ≡ record_at st k) (ev : v ≡ fields_of q) where
    shape_here : shape_of v ≡ shape_at st k
    unfolding shape_at
    shape_here = ap (λ x. shape_of x) ev ∙ ap (λ x. shape_of (fields_of x)) er

    pub step_inside : ShapeInside (length s) (shape_of v)
    step_inside = rw shape_here (fine_inside (length s) st top (shape_at st k) (record_at st k).a fine_here)

    pub own_small : (b : Bool) → length (own_text d (under b) s (shape_of v)) ≤ 4 * most (length s)
    own_small b = own_most d s b (shape_of v)

    -- what it adds stays a number of the machine
    pub step_small : {n : ℕ} → n ≡ length (own_text d (under (is_slashed f)) s (shape_of v)) → sums.length + n < 2 ^ 64
    step_small {n} en =
        let o = own_small (is_slashed f) in
        let short-body = h.short in
        let few = h.few in
        let z = g.length_small in
        omega arith

    pub errors_small : {m : ℕ} → m ≡ own_errors (shape_of v) → sums.errors + m < 2 ^ 64
    errors_small {m} em =
        let o = errors_few (shape_of v) in
        let few = h.few in
        let z = g.errors_small in
        omega arith

    -- the record is no matrix
    pub step_plain : {n m : ℕ} → is_matrix (shape_of (fields_of q)) ≡ false → n ≡ length (own_text d (under (is_slashed f)) s (shape_of v)) → m ≡ own_errors (shape_of v)
        → Summed d s st top (k + 1) (record { length = sums.length + n; errors = sums.errors + m; ampersands = sums.ampersands; lines = sums.lines })
    step_plain {n} {m} small en em =
        let short-body = h.short in
        let o = own_small (is_slashed f) in
        let a = adds d s st (fate_at st top k) k (rw e at held) in
        let x : marks_in (marks 1 0) st (shape_at st k) (record_at st k).a ≡ 0 = rw (← shape_here, ev) (none_marked (marks 1 0) st (shape_of (fields_of q)) (record_at st k).a small) in
        let y : marks_in (marks 0 1) st (shape_at st k) (record_at st k).a ≡ 0 = rw (← shape_here, ev) (none_marked (marks 0 1) st (shape_of (fields_of q)) (record_at st k).a small) in
        let n-is : length (own_text d (under (is_slashed (fate_at st top k))) s (shape_at st k)) ≡ n = rw (← shape_here, ← e) (sym en) in
        let m-is : own_errors (shape_at st k) ≡ m = rw (← shape_here) (sym em) in
        let few = errors_few (shape_of v) in
        let b : Adds d s st (fate_at st top k) k n m 0 0 = rw (n-is, m-is, x, y) at a in
        let z = summed_more d s st top k sums g lt b (omega arith) (omega arith) zero-le in
        let z1 = z.length_more in
        let z2 = z.length_less in
        let z4 = z.errors_less in
        let z7 = z.marks_small in
        record {
          in_store = z.in_store;
          length_more = omega arith;
          length_less = omega arith;
          errors_more = z.errors_more;
          errors_less = omega arith;
          length_small = z.length_small;
          errors_small = z.errors_small;
          marks_small = omega arith;
        }

    -- the record is a matrix
    module _ (big : is_matrix (shape_of (fields_of q)) ≡ true) where
      matrix_here : shape_at st k ≡ Shape.Matrix (align_of q.attr) q.x
      matrix_here = sym shape_here ∙ ap (λ x. shape_of x) ev ∙ a_matrix q big

      fine_matrix : Chain st q.x q.a × (q.x ≤ top)
      fine_matrix = let z = rw matrix_here at fine_here in rw (← er) at z

      pub step_chain : Chain st q.x q.a
      step_chain = fine_matrix.0

      pub marks_here : {x : ℕ} (amp line : ℕ) → amp < 256 → line < 256 → x ≡ cells (marks amp line) st q.x q.a → x ≤ 16777216
      marks_here {x} amp line ga gl ex =
          let c = marks_few amp line st ga gl q.x q.a in
          let t = fine_matrix.1 in
          let few = h.few in
          omega arith

      pub ampersands_small : {x : ℕ} → x ≡ cells (marks 1 0) st q.x q.a → sums.ampersands + x < 2 ^ 64
      ampersands_small {x} ex =
          let z = g.marks_small in
          let few = h.few in
          omega (arith, marks_here 1 0 (omega arith) (omega arith) ex)

      pub lines_small : {y : ℕ} → y ≡ cells (marks 0 1) st q.x q.a → sums.lines + y < 2 ^ 64
      lines_small {y} ey =
          let z = g.marks_small in
          let few = h.few in
          omega (arith, marks_here 0 1 (omega arith) (omega arith) ey)

      pub step_matrix : {n m x y : ℕ} → n ≡ length (own_text d (under (is_slashed f)) s (shape_of v)) → m ≡ own_errors (shape_of v)
          → x ≡ cells (marks 1 0) st q.x q.a → y ≡ cells (marks 0 1) st q.x q.a
          → Summed d s st top (k + 1) (record { length = sums.length + n; errors = sums.errors + m; ampersands = sums.ampersands + x; lines = sums.lines + y })
      step_matrix {n} {m} {x} {y} en em ex ey =
          let short-body = h.short in
          let o = own_small (is_slashed f) in
          let a = adds d s st (fate_at st top k) k (rw e at held) in
          let x-is : marks_in (marks 1 0) st (shape_at st k) (record_at st k).a ≡ x = rw (matrix_here, ← er) (sym ex) in
          let y-is : marks_in (marks 0 1) st (shape_at st k) (record_at st k).a ≡ y = rw (matrix_here, ← er) (sym ey) in
          let n-is : length (own_text d (under (is_slashed (fate_at st top k))) s (shape_at st k)) ≡ n = rw (← shape_here, ← e) (sym en) in
          let m-is : own_errors (shape_at st k) ≡ m = rw (← shape_here) (sym em) in
          let few = errors_few (shape_of v) in
          let b : Adds d s st (fate_at st top k) k n m x y = rw (n-is, m-is, x-is, y-is) at a in
          let px = marks_here 1 0 (omega arith) (omega arith) ex in
          let py = marks_here 0 1 (omega arith) (omega arith) ey in
          summed_more d s st top k sums g lt b (omega arith) (omega arith) (omega arith)

-- behind the last record
module _ {d : Dialect} {s st : List ℕ} {top : ℕ} {sums : Sums} (h : Measurable s st top) (g : Summed d s st top top sums) where
  pub all_length : 39 * sums.ampersands + 37 * sums.lines ≤ sums.length + (11 * sums.ampersands + 22 * sums.lines)
  all_length =
      let a = added_all (own d s) st top h.f h.p h.l h.nodes h.held in
      let b = g.length_more in
      let c = g.length_less in
      omega arith

  pub all_errors : sums.ampersands + sums.lines ≤ sums.errors
  all_errors =
      let a = added_all errors st top h.f h.p h.l h.nodes h.held in
      let b = g.errors_more in
      let c = g.errors_less in
      omega arith

  -- the last numbers are numbers of the machine
  pub all_small : sums.length + (11 * sums.ampersands + 22 * sums.lines) + (39 * sums.ampersands + 37 * sums.lines) < 2 ^ 62
  all_small =
      let few = h.few in
      let a = g.length_small in
      let b = g.marks_small in
      omega arith

  pub length_sum : (sums.length + 11 * sums.ampersands + 22 * sums.lines) - (39 * sums.ampersands + 37 * sums.lines) ≡ store_sum (own d s) st top
  unfolding store_sum
  length_sum =
      let a = g.length_more in
      let b = g.length_less in
      omega arith

  pub errors_sum : sums.errors - (sums.ampersands + sums.lines) ≡ store_sum errors st top
  unfolding store_sum
  errors_sum =
      let a = g.errors_more in
      let b = g.errors_less in
      omega arith

-- whatever nodes fill the records, what is measured is the length of their markup, and the number of error texts along the tree
pub measured : (d : Dialect) (s st : List ℕ) (top f p l : ℕ) (ns : Nodes) → HoldsAll st 0 f p l top ns → store_sum (own d s) st top ≡ length (print_all d s ns)
measured d s st top f p l ns h = store_sum_lem (own d s) st top f p l ns h ∙ sym (print_all_own d s ns)

pub counted : (st : List ℕ) (top f p l : ℕ) (ns : Nodes) → HoldsAll st 0 f p l top ns → store_sum errors st top ≡ tree_sums errors ns
counted st top f p l ns h = store_sum_lem errors st top f p l ns h
