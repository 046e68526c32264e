-- Answers of the parser one after the other: what was read before stays where it stands.
-- Assumes nothing.
use mathlib.Core.Path.{◌≡◌, refl, sym, ◌∙◌, subst}
use mathlib.Core.List.{List}
use mathlib.Core.Option.{none}
use Rattle.std.specs.Prelude.{Ok, Err}
use Prim.Native.Nat.{ℕ, ◌≤◌, ◌<◌}
use native.Mathlib.Omega.{arith}
use Rattle.attribute.specs.declared.Variant.{Variant}
use Rattle.token.specs.declared.Token.{Token}
use Rattle.ast.specs.Store.{record_at}
use Rattle.ast.specs.Tree.{Node, set_variant}
use Rattle.ast.specs.Held.{in_order, swapped, operand_of, Before, Holds, FillsTree}
use Rattle.ast.specs.Turned.{Sets}
use Rattle.ast.proofs.HeldLaws.{low, frame_part, tree_low}
use Rattle.parser.specs.declared.Parser.{Parser}
use Rattle.parser.specs.Marks.{leaf_of}
use Rattle.parser.specs.Parse.{Parsed, made, Reads, parse_bare}
use Rattle.parser.specs.Built.{Answer, Built, Builds, BuildsNone, BuildsOne, BuildsTwo, BuildsBehind, BuildsThree}

-- the records that were made before the state p stay
abbrev pub Stay : List ℕ → List ℕ → Parser → Type 0
Stay st st' p = (j : ℕ) → j < p.made → record_at st' j ≡ record_at st j

-- a node that is built stands below the records made
pub below : {st st' : List ℕ} {lo i : ℕ} {p q : Parser} {want : Parsed Node} → Built st st' lo p want i q → i < q.made
below g = let e = g.last in omega arith

-- an answer from a later state of the same call
pub rebased : (st st₁ st₂ : List ℕ) (lo : ℕ) (p q : Parser) (want w : Parsed Node) (r : Answer) → Builds st₁ st₂ lo q w r → Stay st st₁ p → p.made ≤ q.made → want ≡ w
    → Builds st st₂ lo p want r
rebased st st₁ st₂ lo p q want w (Ok a) b kept le e = record {
  tree = b.tree;
  is = e ∙ b.is;
  held = b.held;
  last = b.last;
  kept = λ j h. b.kept j (omega arith) ∙ kept j h;
}
rebased st st₁ st₂ lo p q want w (Err n) b kept le e = e ∙ b

-- no node is read before
pub after_none : (st st' : List ℕ) (p q : Parser) (want w : Parsed Node) (r : Answer) → q.made ≡ p.made → BuildsNone st st' q w r → want ≡ w
    → Builds st st' p.made p want r
after_none st st' p q want w r e b is = rebased st st st' p.made p q want w r (b p.made (sym e)) (λ j h. refl) (omega arith) is

-- a node is read from the state b on, before which the records are those of p
module _ (st st₁ : List ℕ) (p b q : Parser) (want₁ : Parsed Node) (i : ℕ) (same : b.made ≡ p.made) (g : Built st st₁ b.made b want₁ i q) where
  new_above : p.made ≤ i
  new_above =
      let a = low st₁ b.made i g.tree g.held in
      omega arith

  new_held : Holds st₁ p.made i g.tree
  new_held = rw same at g.held

  new_fills : (u : ℕ) → u ≡ q.made → FillsTree st₁ i g.tree p.made u
  new_fills u e = let d = g.last in record { here = new_held; ends = omega arith }

  old_kept : Stay st st₁ p
  old_kept j h = g.kept j (omega arith)

  old_fills : (lo u a : ℕ) (n : Node) → u ≤ p.made → FillsTree st a n lo u → FillsTree st₁ a n lo u
  old_fills lo u a n le h = frame_part st st₁ a n lo u (λ j x y. old_kept j (omega arith)) h

  pub old_below : (a : ℕ) → a < p.made → a < q.made
  old_below a lt =
      let c = new_above in
      let d = g.last in
      omega arith

  -- the node itself is the answer
  pub only : (want : Parsed Node) → want ≡ made g.tree q → Built st st₁ p.made p want i q
  only want e = record { tree = g.tree; is = e; held = new_held; last = g.last; kept = old_kept }

  -- it is a part of the answer, by itself, behind a node that is there already, and behind two
  pub after_one : (st₂ : List ℕ) (q' : Parser) (f : Node → Parsed Node) (want : Parsed Node) (r : Answer) → q'.made ≡ q.made → BuildsOne st₁ st₂ q' i f r → want ≡ f g.tree
      → Builds st st₂ p.made p want r
  after_one st₂ q' f want r e bs is =
      let a = new_above in
      let d = g.last in
      rebased st st₁ st₂ p.made p q' want (f g.tree) r (bs p.made g.tree (new_fills q'.made e)) old_kept (omega arith) is

  pub beside_one : (a : ℕ) (st₂ : List ℕ) (q' : Parser) (f : Node → Node → Parsed Node) (want : Node → Parsed Node) (r : Answer) → q'.made ≡ q.made
      → BuildsBehind st₁ st₂ q' a i f r → ((n : Node) → want n ≡ f n g.tree) → BuildsOne st st₂ p a want r
  beside_one a st₂ q' f want r e bs is lo n h =
      let c = new_above in
      let d = g.last in
      rebased st st₁ st₂ lo p q' (want n) (f n g.tree) r (bs lo n g.tree p.made (old_fills lo p.made a n (omega arith) h) (new_fills q'.made e)) old_kept (omega arith) (is n)

  pub beside_two : (a b : ℕ) (st₂ : List ℕ) (q' : Parser) (f : Node → Node → Node → Parsed Node) (want : Node → Node → Parsed Node) (r : Answer)
      → q'.made ≡ q.made → BuildsThree st₁ st₂ q' a b i f r → ((m n : Node) → want m n ≡ f m n g.tree) → BuildsBehind st st₂ p a b want r
  beside_two a b st₂ q' f want r e bs is lo m n mid x y =
      let c = new_above in
      let d = g.last in
      let z = tree_low st b mid p.made n y in
      rebased st st₁ st₂ lo p q' (want m n) (f m n g.tree) r
      (bs lo m n g.tree (in_order mid (old_fills lo mid a m (omega arith) x) (in_order p.made (old_fills mid p.made b n (omega arith) y) (new_fills q'.made e))))
      old_kept (omega arith) (is m n)

-- two nodes are read, one after the other
module _ (st st₁ : List ℕ) (p b q : Parser) (want₁ : Parsed Node) (i : ℕ) (same : b.made ≡ p.made) (g : Built st st₁ b.made b want₁ i q)
    (st₂ : List ℕ) (b' q₂ : Parser) (want₂ : Parsed Node) (j : ℕ) (same₂ : b'.made ≡ q.made) (h : Built st₁ st₂ b'.made b' want₂ j q₂) where
  pub first_below : i < q₂.made
  first_below = old_below st₁ st₂ q b' q₂ want₂ j same₂ h i (below g)

  -- the second stands behind the first
  pub after_behind : (st₃ : List ℕ) (q' : Parser) (f : Node → Node → Parsed Node) (want : Parsed Node) (r : Answer) → q'.made ≡ q₂.made → BuildsBehind st₂ st₃ q' i j f r
      → want ≡ f g.tree h.tree → Builds st st₃ p.made p want r
  after_behind st₃ q' f want r e bs is =
      after_one st st₁ p b q want₁ i same g st₃ q (λ n. f n h.tree) want r refl
      (beside_one st₁ st₂ q b' q₂ want₂ j same₂ h i st₃ q' f (λ n. f n h.tree) r e bs (λ n. refl))
      is

  pub after_two : (st₃ : List ℕ) (q' : Parser) (f : Node → Node → Parsed Node) (want : Parsed Node) (r : Answer) → q'.made ≡ q₂.made → BuildsTwo st₂ st₃ q' i j f r
      → want ≡ f g.tree h.tree → Builds st st₃ p.made p want r
  after_two st₃ q' f want r e bs is = after_behind st₃ q' f want r e (λ lo m n mid x y. bs lo m n (in_order mid x y)) is

  -- .. and is the first part
  pub after_two_swapped : (st₃ : List ℕ) (q' : Parser) (f : Node → Node → Parsed Node) (want : Parsed Node) (r : Answer) → q'.made ≡ q₂.made → BuildsTwo st₂ st₃ q' j i f r
      → want ≡ f h.tree g.tree → Builds st st₃ p.made p want r
  after_two_swapped st₃ q' f want r e bs is =
      after_behind st₃ q' (λ m n. f n m) want r e (λ lo m n mid x y. bs lo n m (swapped mid x y)) is

-- nothing is read before
pub as_two : (st st' : List ℕ) (p : Parser) (a b : ℕ) (f want : Node → Node → Parsed Node) (r : Answer) → BuildsTwo st st' p a b f r → ((m n : Node) → want m n ≡ f m n) → BuildsBehind st st' p a b want r
as_two st st' p a b f want r bs is lo m n mid x y = rebased st st st' lo p p (want m n) (f m n) r (bs lo m n (in_order mid x y)) (λ j h. refl) (omega arith) (is m n)

-- the letters of a node that is read get a variant
pub after_set : (st st₁ st₂ : List ℕ) (p b q : Parser) (want₁ want : Parsed Node) (i : ℕ) (v : Variant) → b.made ≡ p.made → (g : Built st st₁ b.made b want₁ i q) → Sets st₁ st₂ i v
    → want ≡ made (set_variant v g.tree) q → Built st st₂ p.made p want i q
after_set st st₁ st₂ p b q want₁ want i v same g sets is =
    let t = sets.all b.made g.tree g.held in
    record {
      tree = set_variant v g.tree;
      is = is;
      held = rw same at t.held;
      last = g.last;
      kept = λ j h. t.below j (omega arith) ∙ g.kept j (omega arith);
    }

-- the arm of the current token
pub bare_as : (node single : Reads) (s st st' : List ℕ) (lo : ℕ) (p : Parser) (t : Token) (r : Answer) → p.cur.token ≡ t → Builds st st' lo p (parse_bare node single s t p) r
    → Builds st st' lo p (parse_bare node single s p.cur.token p) r
bare_as node single s st st' lo p t r e h = subst (λ x. Builds st st' lo p (parse_bare node single s x p) r) (sym e) h

-- a node with its prime, of which q is the state behind the prime
pub after_prime : (st st' : List ℕ) (p q : Parser) (a : ℕ) (f w : Node → Parsed Node) (r : Answer) → q.made ≡ p.made → BuildsOne st st' q a w r → ((n : Node) → f n ≡ w n) → BuildsOne st st' p a f r
after_prime st st' p q a f w r same b is lo n h =
    rebased st st st' lo p q (f n) (w n) r (b lo n (record { here = h.here; ends = h.ends ∙ sym same })) (λ j l. refl) (omega arith) (is n)

-- a node that stays as it is
pub left_alone : (st : List ℕ) (p : Parser) (a : ℕ) (f : Node → Parsed Node) → ((n : Node) → f n ≡ made n p) → BuildsOne st st p a f (Ok (record { node = a; after = p }))
left_alone st p a f is lo n h = record { tree = n; is = is n; held = h.here; last = h.ends; kept = λ j l. refl }

-- no token is a leaf of an operand
pub plain_leaf : (t : Token) → operand_of (leaf_of t) ≡ none
unfolding leaf_of
plain_leaf Token.EOF = refl
plain_leaf Token.Begin = refl
plain_leaf Token.End = refl
plain_leaf Token.Ampersand = refl
plain_leaf Token.NewLine = refl
plain_leaf Token.Left = refl
plain_leaf Token.Right = refl
plain_leaf Token.Middle = refl
plain_leaf (Token.Paren t) = refl
plain_leaf Token.LBrace = refl
plain_leaf Token.RBrace = refl
plain_leaf Token.Frac = refl
plain_leaf Token.Underscore = refl
plain_leaf Token.Circumflex = refl
plain_leaf (Token.Binom b) = refl
plain_leaf Token.Overset = refl
plain_leaf Token.Underset = refl
plain_leaf (Token.Overbrace c) = refl
plain_leaf (Token.Underbrace c) = refl
plain_leaf Token.Sqrt = refl
plain_leaf (Token.Integral c) = refl
plain_leaf (Token.Lim t) = refl
plain_leaf (Token.Space w) = refl
plain_leaf (Token.Style v) = refl
plain_leaf (Token.Big t) = refl
plain_leaf (Token.Over c a) = refl
plain_leaf (Token.Under c a) = refl
plain_leaf (Token.Operator c) = refl
plain_leaf (Token.BigOp c) = refl
plain_leaf (Token.Letter c v) = refl
plain_leaf (Token.Number a e) = refl
plain_leaf (Token.Function t) = refl
plain_leaf Token.OperatorName = refl
plain_leaf Token.Slashed = refl
plain_leaf Token.Text = refl
plain_leaf (Token.Command a e) = refl

-- so no record stands before it
pub leaf_before : (st : List ℕ) (lo m : ℕ) (t : Token) → lo ≡ m → Before st lo m (operand_of (leaf_of t))
leaf_before st lo m t e = rw (plain_leaf t) e
