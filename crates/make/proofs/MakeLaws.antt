-- Nodes made of nodes that are read: the records put for each, and the tree that they hold.
-- Assumes nothing.
use mathlib.Core.Path.{◌≡◌, refl, sym, ap, ◌∙◌}
use mathlib.Core.Bool.{true, false}
use mathlib.Core.List.{List, [], ◌∷◌}
use mathlib.Core.Logic.{◌⊎◌, inl, inr}
use mathlib.Core.Option.{none, some}
use Rattle.std.specs.Prelude.{Option, Some, None, Ok}
use Prim.Native.Nat.{ℕ, ◌+◌, ◌-◌, ◌≤◌, ◌<◌}
use native.Mathlib.Omega.{arith}
use types.Run.{OneOf, miss}
use denote.Enum.Declared.{tag_of}
use Rattle.text.proofs.Cases.{never}
use Rattle.attribute.specs.declared.ColumnAlign.{ColumnAlign}
use Rattle.attribute.specs.declared.DisplayStyle.{DisplayStyle}
use Rattle.attribute.specs.declared.LineThickness.{LineThickness}
use Rattle.token.specs.Texts.{text, texts}
use Rattle.ast.specs.declared.Stretched.{Stretched}
use Rattle.ast.specs.declared.Leaf.{Leaf}
use Rattle.ast.specs.declared.One.{One}
use Rattle.ast.specs.declared.Two.{Two}
use Rattle.ast.specs.declared.Three.{Three}
use Rattle.ast.specs.declared.Shape.{Shape}
use Rattle.ast.specs.declared.Record.{Record}
use Rattle.ast.specs.declared.Role.{Role}
use Rattle.ast.specs.Shape.{leaf_fields, one_fields, two_fields, three_fields, fields, fields_of, shape_of, leaf_role, role_of}
use Rattle.ast.specs.Store.{record_at, Put}
use Rattle.ast.specs.Tree.{Node, leaf, one, two, three, row, matrix, Nodes, empty, ◌then◌}
use Rattle.ast.specs.Held.{count, Beside, in_order, swapped, Roof, operand_of, Before, is_row, row_at, Holds, HoldsAll, FillsTree}
use Rattle.ast.proofs.HeldLaws.{low, frame_part, frame_parts, tree_low, turned_round}
use Rattle.ast.proofs.KindLaws.{kind_of, role_held, leaf_no_row}
use Rattle.ast.specs.contracts.Role as roles
use Rattle.ast.proofs.RowLaws.{put_leaf, put_one, put_two, put_three, put_row, put_matrix, put_agrees, row_opened, append_first}
use Rattle.parser.specs.declared.Parser.{Parser}
use Rattle.parser.specs.declared.Pair.{Pair}
use Rattle.parser.specs.declared.Limits.{Limits}
use Rattle.parser.specs.declared.Side.{Side}
use Rattle.parser.specs.Marks.{script_kind}
use Rattle.parser.specs.Parse.{Parsed, build, operator, with_below, with_above, binomial, of_pair, grouped, stretch_leaf, stretch, opened}
use Rattle.parser.specs.Built.{Answer, Builds, BuildsLeaf, BuildsOne, BuildsTwo, BuildsBehind, BuildsThree, BuildsRow, BuildsMatrix, node_record, with_limit}

-- r is the last of k records made since the state p
abbrev pub Done : Parser → ℕ → Answer → Type 0
Done p k r = r ≡ Ok (record { node = p.made + k - 1; after = record { cur = p.cur; peek = p.peek; made = p.made + k } })

-- st' is st but for records from m on
record Grown (st st' : List ℕ) (m : ℕ) : Type 0 where
  kept : (j : ℕ) → j < m → record_at st' j ≡ record_at st j

put_first : {st st' : List ℕ} {m : ℕ} {r : Record} → Put st st' m r → Grown st st' m
put_first put = record { kept = λ j lt. put.other j (λ e. omega arith) }

put_next : {st st₁ st₂ : List ℕ} {m i : ℕ} {r : Record} → Grown st st₁ m → Put st₁ st₂ i r → m ≤ i → Grown st st₂ m
put_next g put le = record { kept = λ j lt. put.other j (λ e. omega arith) ∙ g.kept j lt }

-- a tree at the last of the records made is what is built
built : {st st' : List ℕ} {r : Answer} (lo : ℕ) (p : Parser) (k i : ℕ) (t : Node) → Grown st st' p.made → i + 1 ≡ p.made + k → Holds st' lo i t → Done p k r
    → Builds st st' lo p (build k t p) r
unfolding build
built lo p k i t g last h d =
    let e : p.made + k - 1 ≡ i = omega arith in
    rw d (record { tree = t; is = refl; held = rw e h; last = omega arith; kept = g.kept })

grown_part : {st st' : List ℕ} {m : ℕ} → Grown st st' m → (x : ℕ) (t : Node) (l u : ℕ) → u ≤ m → FillsTree st x t l u → FillsTree st' x t l u
grown_part {st} {st'} g x t l u le h = frame_part st st' x t l u (λ j p q. g.kept j (omega arith)) h

built_one : {st st₁ : List ℕ} {q : Record} {r : Answer} (lo : ℕ) (p : Parser) (t : Node)
    → Put st st₁ p.made q → Holds st₁ lo p.made t → Done p 1 r → Builds st st₁ lo p (build 1 t p) r
built_one lo p t u h d = built lo p 1 p.made t (put_first u) refl h d

built_two : {st st₁ st₂ : List ℕ} {q q' : Record} {r : Answer} (lo : ℕ) (p : Parser) (t : Node)
    → Put st st₁ p.made q → Put st₁ st₂ (p.made + 1) q' → Holds st₂ lo (p.made + 1) t → Done p 2 r → Builds st st₂ lo p (build 2 t p) r
built_two lo p t u v h d = built lo p 2 (p.made + 1) t (put_next (put_first u) v (omega arith)) (omega arith) h d

-- the tree whose root's record is put at m behind its parts
module _ {st st' : List ℕ} {m : ℕ} (lo : ℕ) where
  leaf_held : (l : Leaf) → Put st st' m (node_record (leaf_fields l) 0 0 0) → Before st lo m (operand_of l) → Holds st' lo m (leaf l)
  unfolding node_record
  leaf_held l u g = put_leaf u lo l refl refl refl refl g

  one_held : {x : ℕ} (k : One) (a : Node) → Put st st' m (node_record (one_fields k) x 0 0) → FillsTree st x a lo m → Holds st' lo m (one k a)
  unfolding node_record
  one_held k a u h = put_one u lo k a refl refl refl refl h

  two_held : {x y : ℕ} (k : Two) (a b : Node) → Put st st' m (node_record (two_fields k) x y 0)
      → Beside (λ l u. FillsTree st x a l u) (λ l u. FillsTree st y b l u) lo m → Holds st' lo m (two k a b)
  unfolding node_record
  two_held k a b u h = put_two u lo k a b refl refl refl refl h

  three_held : {x y z : ℕ} (k : Three) (a b c : Node) → Put st st' m (node_record (three_fields k) x y z)
      → Beside (λ l u. FillsTree st x a l u) (λ l u. Beside (λ n v. FillsTree st y b n v) (λ n v. FillsTree st z c n v) l u) lo m → Holds st' lo m (three k a b c)
  unfolding node_record
  three_held k a b c u h = put_three u lo k a b c refl refl refl refl h

  row_held : {n : ℕ} (f before last : ℕ) (ns : Nodes) → Put st st' m (node_record (fields (Shape.Row n)) f 0 0) → HoldsAll st lo f before last m ns → n ≡ count ns
      → Holds st' lo m (row ns)
  unfolding node_record
  row_held f before last ns u h e = put_row u lo before last ns (ap (λ c. fields (Shape.Row c)) e) refl refl refl h

  matrix_held : {n : ℕ} (hi f before last : ℕ) (align : ColumnAlign) (ns : Nodes) → Put st st' m (node_record (fields (Shape.Matrix align n)) f 0 0)
      → Roof st lo hi m → HoldsAll st lo f before last hi ns → n ≡ count ns → Holds st' lo m (matrix align ns)
  unfolding node_record
  matrix_held hi f before last align ns u roof h e = put_matrix u lo hi before last align ns (ap (λ c. fields (Shape.Matrix align c)) e) refl refl refl roof h

-- a leaf of no operand, put at m
leaf_part : {st st₁ : List ℕ} {m : ℕ} (l : Leaf) → operand_of l ≡ none → Put st st₁ m (node_record (leaf_fields l) 0 0 0) → FillsTree st₁ m (leaf l) m (m + 1)
leaf_part {st} {st₁} {m} l plain u =
    let none_before : Before st m m (operand_of l) = rw plain refl in
    record { here = leaf_held m l u none_before; ends = omega arith }

-- of three the second and the third change places
pub turned_inside : {F G H : ℕ → ℕ → Type 0} {lo hi : ℕ} → Beside F (λ l u. Beside G H l u) lo hi → Beside F (λ l u. Beside H G l u) lo hi
turned_inside (in_order mid x y) = in_order mid x (turned_round y)
turned_inside (swapped mid y x) = swapped mid (turned_round y) x

-- one record is put
module _ {st st₁ : List ℕ} {r : Answer} (p : Parser) (done : Done p 1 r) where
  pub leaf_made : (l : Leaf) → Put st st₁ p.made (node_record (leaf_fields l) 0 0 0) → BuildsLeaf st st₁ p l (build 1 (leaf l) p) r
  leaf_made l u lo g = built_one lo p (leaf l) u (leaf_held lo l u g) done

  pub one_made : (k : One) (a : ℕ) → Put st st₁ p.made (node_record (one_fields k) a 0 0) → BuildsOne st st₁ p a (λ n. build 1 (one k n) p) r
  one_made k a u lo n h = built_one lo p (one k n) u (one_held lo k n u h) done

  pub two_made : (k : Two) (a b : ℕ) → Put st st₁ p.made (node_record (two_fields k) a b 0) → BuildsTwo st st₁ p a b (λ m n. build 1 (two k m n) p) r
  two_made k a b u lo m n h = built_one lo p (two k m n) u (two_held lo k m n u h) done

  pub three_made : (k : Three) (a b c : ℕ) → Put st st₁ p.made (node_record (three_fields k) a b c) → BuildsThree st st₁ p a b c (λ m n o. build 1 (three k m n o) p) r
  three_made k a b c u lo m n o h = built_one lo p (three k m n o) u (three_held lo k m n o u h) done

  row_made : (f n : ℕ) → Put st st₁ p.made (node_record (fields (Shape.Row n)) f 0 0) → BuildsRow st st₁ p f n (λ ns. build 1 (row ns) p) r
  row_made f n u lo before last ns h e = built_one lo p (row ns) u (row_held lo f before last ns u h e) done

  pub matrix_made : (align : ColumnAlign) (f n : ℕ) → Put st st₁ p.made (node_record (fields (Shape.Matrix align n)) f 0 0)
      → BuildsMatrix st st₁ p f n (λ ns. build 1 (matrix align ns) p) r
  matrix_made align f n u lo hi before last ns roof h e = built_one lo p (matrix align ns) u (matrix_held lo hi f before last align ns u roof h e) done

-- a leaf of no operand is put, and a node that has it for a part
module _ {st st₁ st₂ : List ℕ} {r : Answer} (p : Parser) (done : Done p 2 r) (l : Leaf) (plain : operand_of l ≡ none) (u : Put st st₁ p.made (node_record (leaf_fields l) 0 0 0)) where
  pub leaf_first_made : (k : Two) (b : ℕ) → Put st₁ st₂ (p.made + 1) (node_record (two_fields k) p.made b 0) → BuildsOne st st₂ p b (λ n. build 2 (two k (leaf l) n) p) r
  leaf_first_made k b v lo n h =
      built_two lo p (two k (leaf l) n) u v
      (two_held lo k (leaf l) n v (swapped p.made (grown_part (put_first u) b n lo p.made (omega arith) h) (leaf_part l plain u)))
      done

  pub leaf_second_made : (k : Two) (a : ℕ) → Put st₁ st₂ (p.made + 1) (node_record (two_fields k) a p.made 0) → BuildsOne st st₂ p a (λ n. build 2 (two k n (leaf l)) p) r
  leaf_second_made k a v lo n h =
      built_two lo p (two k n (leaf l)) u v
      (two_held lo k n (leaf l) v (in_order p.made (grown_part (put_first u) a n lo p.made (omega arith) h) (leaf_part l plain u)))
      done

  pub both_made : (k : Three) (x y : ℕ) → Put st₁ st₂ (p.made + 1) (node_record (three_fields k) p.made x y) → BuildsTwo st st₂ p x y (λ m n. build 2 (three k (leaf l) m n) p) r
  both_made k x y v lo m n h =
      built_two lo p (three k (leaf l) m n) u v
      (three_held lo k (leaf l) m n v (swapped p.made (frame_parts st st₁ x y m n lo p.made (put_agrees u lo) h) (leaf_part l plain u)))
      done

-- a brace over an explanation, which is at b
brace_part : {st st₁ st₂ : List ℕ} (p : Parser) (l : Leaf) → operand_of l ≡ none → (k : Two) (b : ℕ) → Put st st₁ p.made (node_record (leaf_fields l) 0 0 0)
    → Put st₁ st₂ (p.made + 1) (node_record (two_fields k) p.made b 0) → (n : Node) (lo : ℕ) → FillsTree st b n lo p.made
    → FillsTree st₂ (p.made + 1) (two k (leaf l) n) lo (p.made + 2)
brace_part p l plain k b u v n lo h = record {
  here = two_held lo k (leaf l) n v (swapped p.made (grown_part (put_first u) b n lo p.made (omega arith) h) (leaf_part l plain u));
  ends = omega arith;
}

-- a brace, with its explanation
module _ {st st₁ st₂ st₃ : List ℕ} {r : Answer} (p : Parser) (done : Done p 3 r) (l : Leaf) (plain : operand_of l ≡ none) (k : Two) (a b : ℕ)
    (u : Put st st₁ p.made (node_record (leaf_fields l) 0 0 0))
    (v : Put st₁ st₂ (p.made + 1) (node_record (two_fields k) p.made b 0))
    (w : Put st₂ st₃ (p.made + 2) (node_record (two_fields k) a (p.made + 1) 0)) where
  -- the target stands before the explanation
  pub explained_made : BuildsBehind st st₃ p a b (λ m n. build 3 (two k m (two k (leaf l) n)) p) r
  explained_made lo m n mid ha hb =
      let grown = put_next (put_first u) v (omega arith) in
      let below = tree_low st b mid p.made n hb in
      built lo p 3 (p.made + 2) (two k m (two k (leaf l) n)) (put_next grown w (omega arith)) (omega arith)
      (two_held lo k m (two k (leaf l) n) w (in_order mid (grown_part grown a m lo mid (omega arith) ha) (brace_part p l plain k b u v n mid hb)))
      done

-- a fraction between parentheses, and with a style
module _ {st st₁ st₂ : List ℕ} (p : Parser) (a b : ℕ)
    (u : Put st st₁ p.made (node_record (two_fields (Two.Frac LineThickness.Zero)) a b 0))
    (v : Put st₁ st₂ (p.made + 1) (node_record (one_fields (One.Fenced 1 2)) p.made 0 0)) where
  binomial_held : (lo : ℕ) (m n : Node) → Beside (λ l u. FillsTree st a m l u) (λ l u. FillsTree st b n l u) lo p.made → Holds st₂ lo (p.made + 1) (binomial m n)
  unfolding binomial text texts
  binomial_held lo m n h =
      let frac : Two = Two.Frac LineThickness.Zero in
      one_held lo (One.Fenced 1 2) (two frac m n) v (record { here = two_held lo frac m n u h; ends = omega arith })

  pub binomial_made : {r : Answer} → Done p 2 r → BuildsTwo st st₂ p a b (λ m n. of_pair (Pair.Binom None) m n p) r
  unfolding of_pair
  binomial_made d lo m n h = built_two lo p (binomial m n) u v (binomial_held lo m n h) d

  pub styled_made : {st₃ st₄ : List ℕ} {r : Answer} (d : DisplayStyle)
      → Put st₂ st₃ (p.made + 2) (node_record (fields (Shape.Row 1)) (p.made + 1) 0 0)
      → Put st₃ st₄ (p.made + 3) (node_record (one_fields (One.Style d)) (p.made + 2) 0 0)
      → Done p 4 r → BuildsTwo st st₄ p a b (λ m n. of_pair (Pair.Binom (Some d)) m n p) r
  unfolding of_pair count
  styled_made d w x e lo m n h =
      let alone = append_first st₂ lo (p.made + 1) 0 (p.made + 2) (binomial m n) (binomial_held lo m n h) (omega arith) in
      let rowed = row_held lo (p.made + 1) 0 (p.made + 1) (binomial m n then empty) w alone refl in
      let grown = put_next (put_next (put_first u) v (omega arith)) w (omega arith) in
      built lo p 4 (p.made + 3) (one (One.Style d) (row (binomial m n then empty))) (put_next grown x (omega arith)) (omega arith)
      (one_held lo (One.Style d) (row (binomial m n then empty)) x (record { here = rowed; ends = omega arith }))
      e

-- the nodes of a group: one is no row
pub group_of_one : (st : List ℕ) (p : Parser) (f n : ℕ) → n ≡ 1 → BuildsRow st st p f n (λ ns. grouped ns p) (Ok (record { node = f; after = p }))
unfolding grouped count
group_of_one st p f n z lo before last empty h e = absurd (omega arith)
group_of_one st p f n z lo before last (t then empty) h e = record { tree = t; is = refl; held = h.here; last = h.rest.1; kept = λ j lt. refl }
group_of_one st p f n z lo before last (t then (m then ns)) h e = absurd (omega arith)

pub group_made : {st st' : List ℕ} {r : Answer} (p : Parser) (f n : ℕ) → (n ≡ 1 → ⊥) → Put st st' p.made (node_record (fields (Shape.Row n)) f 0 0) → Done p 1 r
    → BuildsRow st st' p f n (λ ns. grouped ns p) r
unfolding grouped count
group_made p f n z u d lo before last empty h e = row_made p d f n u lo before last empty h e
group_made p f n z u d lo before last (t then empty) h e = absurd (z e)
group_made p f n z u d lo before last (t then (m then ns)) h e = row_made p d f n u lo before last (t then (m then ns)) h e

-- a matrix between fences
pub fenced_matrix_made : {st st₁ st₂ : List ℕ} {r : Answer} (p : Parser) (align : ColumnAlign) (t s f n : ℕ)
    → Put st st₁ p.made (node_record (fields (Shape.Matrix align n)) f 0 0)
    → Put st₁ st₂ (p.made + 1) (node_record (one_fields (One.Fenced t s)) p.made 0 0)
    → Done p 2 r → BuildsMatrix st st₂ p f n (λ ns. build 2 (one (One.Fenced t s) (matrix align ns)) p) r
fenced_matrix_made p align t s f n u v d lo hi before last ns roof h e =
    let inside = matrix_held lo hi f before last align ns u roof h e in
    built_two lo p (one (One.Fenced t s) (matrix align ns)) u v (one_held lo (One.Fenced t s) (matrix align ns) v (record { here = inside; ends = omega arith })) d

-- an operator alone, and an integral with one limit
pub operator_of_either : (k : Limits) {c : ℕ} → (k ≡ Limits.BigOp c) ⊎ (k ≡ Limits.Integral c) → operator k ≡ leaf (Leaf.Operator c)
unfolding operator
operator_of_either k (inl e) = rw e
operator_of_either k (inr e) = rw e

pub integral_limit : (side : Side) (c : ℕ) (n : Node) (p : Parser) → with_limit side (Limits.Integral c) n p ≡ build 2 (two (script_kind side) (leaf (Leaf.Operator c)) n) p
unfolding with_below with_above
integral_limit Side.Under c n p = refl
integral_limit Side.Over c n p = refl

-- what `\middle` makes of a node of a role
abbrev stretch_role : Role → Option Stretched
stretch_role Role.Letter = None
stretch_role (Role.Operator c) = Some (Stretched.Character c)
stretch_role (Role.OtherOperator t) = Some (Stretched.Fixed t)
stretch_role (Role.Row n) = None
stretch_role Role.Other = None

stretch_leaf_lem : (l : Leaf) → stretch_leaf l ≡ stretch_role (leaf_role l)
unfolding stretch_leaf
stretch_leaf_lem (Leaf.Number a e) = refl
stretch_leaf_lem (Leaf.Letter c v) = refl
stretch_leaf_lem (Leaf.Operator c) = refl
stretch_leaf_lem (Leaf.Function t) = refl
stretch_leaf_lem (Leaf.FunctionName a e) = refl
stretch_leaf_lem (Leaf.Space w) = refl
stretch_leaf_lem (Leaf.StrechedOp o) = refl
stretch_leaf_lem (Leaf.OtherOperator t) = refl
stretch_leaf_lem (Leaf.SizedParen z t) = refl
stretch_leaf_lem (Leaf.Text a e) = refl
stretch_leaf_lem Leaf.Ampersand = refl
stretch_leaf_lem Leaf.NewLine = refl
stretch_leaf_lem (Leaf.Undefined u) = refl

stretch_role_lem : (t : Node) → stretch t ≡ stretch_role (role_of (kind_of t))
unfolding stretch
stretch_role_lem (leaf l) = stretch_leaf_lem l
stretch_role_lem (one k a) = refl
stretch_role_lem (two k a b) = refl
stretch_role_lem (three k a b c) = refl
stretch_role_lem (row ns) = refl
stretch_role_lem (matrix align ns) = refl

-- the places, among the enum's variants, of the roles that are not stretched, and of those that are no row's
abbrev pub unstretched : List ℕ
unstretched = 0 ∷ 3 ∷ 4 ∷ []

abbrev pub unrowed : List ℕ
unrowed = 0 ∷ 1 ∷ 2 ∷ 4 ∷ []

no_stretched : (k : Role) → OneOf unstretched (tag_of roles.the_type k) → stretch_role k ≡ None
no_stretched Role.Letter h = refl
no_stretched (Role.Operator c) h = absurd (miss unstretched 1 tt h)
no_stretched (Role.OtherOperator t) h = absurd (miss unstretched 2 tt h)
no_stretched (Role.Row n) h = refl
no_stretched Role.Other h = refl

opened_alone : (t : Node) → OneOf unrowed (tag_of roles.the_type (role_of (kind_of t))) → opened t ≡ (t then empty)
unfolding opened
opened_alone (leaf l) h = refl
opened_alone (one k a) h = refl
opened_alone (two k a b) h = refl
opened_alone (three k a b c) h = refl
opened_alone (row ns) h = absurd (miss unrowed 3 tt h)
opened_alone (matrix align ns) h = refl

no_row : (k : Role) → OneOf unrowed (tag_of roles.the_type k) → is_row k ≡ false
no_row Role.Letter h = refl
no_row (Role.Operator c) h = refl
no_row (Role.OtherOperator t) h = refl
no_row (Role.Row n) h = absurd (miss unrowed 3 tt h)
no_row Role.Other h = refl

-- t is the leaf l, which is of no operand
pub record Operand (l : Leaf) (t : Node) : Type 0 where
  pub is : t ≡ leaf l
  pub alone : operand_of l ≡ none

operator_leaf : (m : Leaf) (c : ℕ) → leaf_role m ≡ Role.Operator c → Operand (Leaf.Operator c) (leaf m)
operator_leaf (Leaf.Number a e) c h = never cc
operator_leaf (Leaf.Letter x v) c h = never cc
operator_leaf (Leaf.Operator x) c h = let q : x ≡ c = cc in record { is = ap (λ y. leaf (Leaf.Operator y)) q; alone = refl }
operator_leaf (Leaf.Function t) c h = never cc
operator_leaf (Leaf.FunctionName a e) c h = never cc
operator_leaf (Leaf.Space w) c h = never cc
operator_leaf (Leaf.StrechedOp o) c h = never cc
operator_leaf (Leaf.OtherOperator t) c h = never cc
operator_leaf (Leaf.SizedParen z t) c h = never cc
operator_leaf (Leaf.Text a e) c h = never cc
operator_leaf Leaf.Ampersand c h = never cc
operator_leaf Leaf.NewLine c h = never cc
operator_leaf (Leaf.Undefined u) c h = never cc

pub operator_of : (t : Node) (c : ℕ) → role_of (kind_of t) ≡ Role.Operator c → Operand (Leaf.Operator c) t
operator_of (leaf l) c h = operator_leaf l c h
operator_of (one k a) c h = never cc
operator_of (two k a b) c h = never cc
operator_of (three k a b d) c h = never cc
operator_of (row ns) c h = never cc
operator_of (matrix align ns) c h = never cc

fixed_leaf : (m : Leaf) (c : ℕ) → leaf_role m ≡ Role.OtherOperator c → Operand (Leaf.OtherOperator c) (leaf m)
fixed_leaf (Leaf.Number a e) c h = never cc
fixed_leaf (Leaf.Letter x v) c h = never cc
fixed_leaf (Leaf.Operator x) c h = never cc
fixed_leaf (Leaf.Function t) c h = never cc
fixed_leaf (Leaf.FunctionName a e) c h = never cc
fixed_leaf (Leaf.Space w) c h = never cc
fixed_leaf (Leaf.StrechedOp o) c h = never cc
fixed_leaf (Leaf.OtherOperator t) c h = let q : t ≡ c = cc in record { is = ap (λ y. leaf (Leaf.OtherOperator y)) q; alone = refl }
fixed_leaf (Leaf.SizedParen z t) c h = never cc
fixed_leaf (Leaf.Text a e) c h = never cc
fixed_leaf Leaf.Ampersand c h = never cc
fixed_leaf Leaf.NewLine c h = never cc
fixed_leaf (Leaf.Undefined u) c h = never cc

pub fixed_of : (t : Node) (c : ℕ) → role_of (kind_of t) ≡ Role.OtherOperator c → Operand (Leaf.OtherOperator c) t
fixed_of (leaf l) c h = fixed_leaf l c h
fixed_of (one k a) c h = never cc
fixed_of (two k a b) c h = never cc
fixed_of (three k a b d) c h = never cc
fixed_of (row ns) c h = never cc
fixed_of (matrix align ns) c h = never cc

-- the nodes of a row
record RowOf (t : Node) (n : ℕ) : Type 0 where
  nodes : Nodes
  is : t ≡ row nodes
  counted : n ≡ count nodes

row_of : (t : Node) (n : ℕ) → role_of (kind_of t) ≡ Role.Row n → RowOf t n
row_of (leaf l) n e = absurd (leaf_no_row l n e)
row_of (one k a) n e = never cc
row_of (two k a b) n e = never cc
row_of (three k a b c) n e = never cc
row_of (row ns) n e = record { nodes = ns; is = refl; counted = cc }
row_of (matrix align ns) n e = never cc

-- the record q of the node at i was read, and its role is k
module _ (st : List ℕ) (i : ℕ) {q : Record} {k : Role} (read : q ≡ record_at st i) (role : k ≡ role_of (shape_of (fields_of q))) where
  pub role_read : (lo : ℕ) (t : Node) → Holds st lo i t → role_of (kind_of t) ≡ k
  role_read lo t h = sym (role ∙ ap (λ x. role_of (shape_of (fields_of x))) read ∙ role_held st lo i t h)

  pub stretched_as : (k' : Role) → k ≡ k' → (lo : ℕ) (t : Node) → Holds st lo i t → stretch t ≡ stretch_role k'
  stretched_as k' e lo t h = stretch_role_lem t ∙ ap (λ x. stretch_role x) (role_read lo t h ∙ e)

  pub stretched_none : OneOf unstretched (tag_of roles.the_type k) → (lo : ℕ) (t : Node) → Holds st lo i t → stretch t ≡ None
  stretched_none o lo t h = stretched_as k refl lo t h ∙ no_stretched k o

  -- the operand of a stretched operator is its record before
  pub operand_read : (l : Leaf) → k ≡ leaf_role l → (lo : ℕ) (t : Node) (m : ℕ) → FillsTree st i t lo m → Operand l t → Before st lo m (some l)
  operand_read l e lo t m h o =
      let held : Holds st lo i (leaf l) = rw o.is at h.here in
      let first : lo ≡ i = rw o.alone at held.0 in
      let ends = h.ends in
      (omega arith, rw first held.1.kind)

  -- what is built of the nodes of a row is built of the row opened, and so for a node alone
  module _ (st' : List ℕ) (p : Parser) (r : Answer) (want : Nodes → Parsed Node) where
    pub opened_row : (n : ℕ) → k ≡ Role.Row n → BuildsMatrix st st' p q.a n want r → BuildsOne st st' p i (λ t. want (opened t)) r
    unfolding opened row_at
    opened_row n e b lo t h =
        let w = row_of t n (role_read lo t h.here ∙ e) in
        let held = rw w.is at h.here in
        let o = row_opened st lo i w.nodes held in
        let is : row_at st i ≡ true = ap (λ x. is_row x) (role_held st lo i (row w.nodes) held) in
        let b' : BuildsMatrix st st' p (record_at st i).a n want r = rw read at b in
        rw w.is (b' lo i o.p o.l w.nodes (Roof.opened h.ends (low st lo i t h.here) is) o.nodes w.counted)

    pub opened_other : OneOf unrowed (tag_of roles.the_type k) → BuildsMatrix st st' p i 1 want r → BuildsOne st st' p i (λ t. want (opened t)) r
    unfolding count row_at
    opened_other o b lo t h =
        let is : row_at st i ≡ false = ap (λ x. is_row x) (role_held st lo i t h.here ∙ role_read lo t h.here) ∙ no_row k o in
        rw (opened_alone t (rw (← role_read lo t h.here) at o)) (b lo p.made 0 i (t then empty) (Roof.alone i (low st lo i t h.here) h.ends refl is) (append_first st lo i 0 p.made t h.here h.ends) refl)
