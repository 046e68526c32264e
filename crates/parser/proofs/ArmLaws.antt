-- What each arm of the parser reads is paid for by the bytes read, two records to a byte.
-- Assumes nothing.
use mathlib.Core.Path.{◌≡◌}
use mathlib.Core.List.{List}
use Rattle.std.specs.Prelude.{Option, Some, None}
use Prim.Native.Nat.{ℕ, ◌+◌, ◌*◌, ◌≤◌}
use native.Mathlib.Nat.{add_comm}
use native.Mathlib.Omega.{arith}
use lib.ListN.{length}
use Rattle.text.proofs.Cases.{by_test, never}
use Rattle.attribute.specs.declared.Variant.{Variant}
use Rattle.token.specs.declared.Token.{Token}
use Rattle.token.specs.declared.Token.TheVariants.{EOF, Begin, End, Ampersand, NewLine, Left, Right, Middle, Paren, LBrace, RBrace, Frac, Underscore, Circumflex, Binom, Overset, Underset, Overbrace, Underbrace, Sqrt, Integral, Lim, Space, Style, Big, Over, Under, Operator, BigOp, Letter, Number, Function, OperatorName, Slashed, Text, Command}
use Rattle.token.specs.declared.Mark.{Mark}
use Rattle.token.specs.declared.Undefined.{Undefined}
use Rattle.token.specs.Roles.{mark_number, paren_of, fence_of}
use Rattle.ast.specs.declared.Stretched.{Stretched}
use Rattle.ast.specs.declared.Leaf.{Leaf}
use Rattle.ast.specs.declared.One.{One}
use Rattle.ast.specs.declared.Two.{Two}
use Rattle.ast.specs.Tree.{Node, leaf, Nodes, size, sizes}
use Rattle.ast.specs.Inside.{LeafInside, TreeInside, AllInside}
use Rattle.parser.specs.declared.Parser.{Parser}
use Rattle.parser.specs.declared.Environment.{Environment}
use Rattle.parser.specs.declared.Pair.{Pair}
use Rattle.parser.specs.declared.Limits.{Limits}
use Rattle.parser.specs.State.{next, cur_is, peek_is, parse_text}
use Rattle.parser.specs.Parse.{Parsed, made, Reads, build, parse_group, parse_sqrt, binomial, of_pair, parse_two, parse_one, parse_brace, operator, with_below, with_above, with_both, parse_limits, parse_lim, parse_slashed, parse_style, with_fence, fenced, parse_left, stretch, stretched, parse_middle, sized, parse_big, opened, in_environment, parse_begin, parse_text_leaf, parse_bare}
use Rattle.parser.specs.Sound.{least, TokenInside, Sound, idle, Kept, Keeps}
use Rattle.parser.proofs.MoveLaws.{next_sound, text_sound}
use Rattle.parser.proofs.TreeLaws.{variant_size, variant_inside, opened_sizes, opened_inside}
use Rattle.parser.proofs.KeepLaws.{by_parts, given, Operand, operand, built, group_kept}

-- at the state r the bytes read pay for k records more than are made, and the parts of a node have `old` records
record Paid (s : List ℕ) (p r : Parser) (k old : ℕ) : Type 0 where
  pub sound : Sound s r
  pub on : p.cur.end ≤ r.cur.end
  pub spent : r.made + k + 2 * p.cur.start ≤ p.made + 2 * r.cur.end
  pub size : p.made + old ≤ r.made

-- ---- nodes built over parts

module _ {s : List ℕ} (p r : Parser) (m : Node) (q : Parser) where
  -- a node built with j of these records
  finished : {k old : ℕ} (n : Node) (j : ℕ) → Paid s p r k old → j ≤ k → size n ≤ old + j → TreeInside (length s) n → build j n r ≡ made m q
      → Kept s p m q
  finished n j h few small inside e = built s p r j n m q e h.sound h.on (omega arith) (omega arith) inside

  of_pair_lem : (kind : Pair) (a b : Node) → Paid s p r 4 (size a + size b) → TreeInside (length s) a → TreeInside (length s) b
      → of_pair kind a b r ≡ made m q → Kept s p m q
  unfolding of_pair binomial size sizes
  of_pair_lem Pair.Frac a b h x y e = finished _ 1 h (omega arith) (omega arith) (x, y) e
  of_pair_lem (Pair.Binom None) a b h x y e = finished _ 2 h (omega arith) (omega arith) (x, y) e
  of_pair_lem (Pair.Binom (Some d)) a b h x y e = finished _ 4 h (omega arith) (omega arith) ((x, y), tt) e
  of_pair_lem Pair.Overset a b h x y e = finished _ 1 h (omega arith) (omega arith) (y, x) e
  of_pair_lem Pair.Underset a b h x y e = finished _ 1 h (omega arith) (omega arith) (y, x) e

  below : (kind : Limits) (a : Node) → Paid s p r 2 (size a) → TreeInside (length s) a → with_below kind a r ≡ made m q → Kept s p m q
  unfolding with_below size
  below (Limits.BigOp c) a h x e = finished _ 2 h (omega arith) (omega arith) (tt, x) e
  below (Limits.Integral c) a h x e = finished _ 2 h (omega arith) (omega arith) (tt, x) e

  above : (kind : Limits) (a : Node) → Paid s p r 2 (size a) → TreeInside (length s) a → with_above kind a r ≡ made m q → Kept s p m q
  unfolding with_above size
  above (Limits.BigOp c) a h x e = finished _ 1 h (omega arith) (omega arith) x e
  above (Limits.Integral c) a h x e = finished _ 2 h (omega arith) (omega arith) (tt, x) e

  both_limits : (kind : Limits) (a b : Node) → Paid s p r 2 (size a + size b) → TreeInside (length s) a → TreeInside (length s) b
      → with_both kind a b r ≡ made m q → Kept s p m q
  unfolding with_both size
  both_limits (Limits.BigOp c) a b h x y e = finished _ 2 h (omega arith) (omega arith) (tt, x, y) e
  both_limits (Limits.Integral c) a b h x y e = finished _ 2 h (omega arith) (omega arith) (tt, x, y) e

  alone : (kind : Limits) → Paid s p r 1 0 → build 1 (operator kind) r ≡ made m q → Kept s p m q
  unfolding operator size
  alone (Limits.BigOp c) h e = finished _ 1 h (omega arith) (omega arith) tt e
  alone (Limits.Integral c) h e = finished _ 1 h (omega arith) (omega arith) tt e

  in_environment_lem : (env : Option Environment) (ns : Nodes) → Paid s p r 2 (sizes ns) → AllInside (length s) ns → in_environment env ns r ≡ made m q → Kept s p m q
  unfolding in_environment size
  in_environment_lem None ns h x e = never (cc)
  in_environment_lem (Some (Environment.Bare align)) ns h x e = finished _ 1 h (omega arith) (omega arith) x e
  in_environment_lem (Some (Environment.Between t u)) ns h x e = finished _ 2 h (omega arith) (omega arith) x e

  stretches : (o : Option Stretched) → Paid s p r 1 0 → stretched o r ≡ made m q → Kept s p m q
  unfolding stretched size
  stretches None h e = never (cc)
  stretches (Some o) h e = finished _ 1 h (omega arith) (omega arith) tt e

  sizes_paren : (z : ℕ) (o : Option ℕ) → Paid s p r 1 0 → sized z o r ≡ made m q → Kept s p m q
  unfolding sized size
  sizes_paren z None h e = never (cc)
  sizes_paren z (Some t) h e = finished _ 1 h (omega arith) (omega arith) tt e

-- ---- a fence

with_fence_lem : {P : Type 0} {m : Node} {q : Parser} (o : Option ℕ) (k : ℕ → Parsed Node) → with_fence o k ≡ made m q → ((t : ℕ) → k t ≡ made m q → P) → P
unfolding with_fence
with_fence_lem None k e f = never (cc)
with_fence_lem (Some t) k e f = f t e

-- ---- the arms

module _ {s : List ℕ} {node single : Reads} (nodes : Keeps s node) (singles : Keeps s single) (p : Parser) (m : Node) (q : Parser) (h : Sound s p) where
  -- a leaf is paid for by its token, or by the end of the body
  pub leaf_kept : (l : Leaf) → LeafInside (length s) l → build 1 (leaf l) p ≡ made m q → Kept s p m q
  unfolding size idle
  leaf_kept l inside e = built s p p 1 (leaf l) m q e h (omega arith) (omega arith) (omega arith) inside

  pub braces_kept : parse_group node s Mark.RBrace p ≡ made m q → Kept s p m q
  unfolding mark_number next
  braces_kept e =
      let g = group_kept nodes Mark.RBrace (λ e. never cc) p m q h e in
      record { sound = g.sound; on = omega arith; spent = omega arith; size = g.size; inside = g.inside }

  module _ (wide : p.cur.start + 3 ≤ p.cur.end) where
    first_behind : Sound s (next s p)
    first_behind = next_sound s p h

    second_behind : Sound s (next s (next s p))
    second_behind = next_sound s (next s p) first_behind

    pub sqrt_kept : parse_sqrt node s p ≡ made m q → Kept s p m q
    unfolding parse_sqrt next size mark_number
    sqrt_kept e =
        let one = first_behind in
        by_test (cur_is (next s p) Mark.LBracket)
        (λ t.
        by_parts _ _ (rw (parse_sqrt, t) at e)
        (λ degree r first rest.
        let g = group_kept nodes Mark.RBracket (λ e. never cc) (next s p) degree r one first in
        let end = g.sound in
        by_parts _ _ rest
        (λ content z second last.
        let a = operand nodes (next_sound s r end) second in
        built s p z 1 _ m q last a.sound (omega arith) (omega arith) (omega arith) (a.inside, g.inside))))
        (λ t.
        by_parts _ _ (rw (parse_sqrt, t) at e)
        (λ content r first rest.
        let a = operand nodes one first in
        built s p r 1 _ m q rest a.sound (omega arith) (omega arith) (omega arith) a.inside))

    pub two_kept : (kind : Pair) → parse_two node s kind p ≡ made m q → Kept s p m q
    unfolding parse_two next
    two_kept kind e =
        by_parts _ _ e
        (λ x r first rest.
        let a = operand nodes first_behind first in
        by_parts _ _ rest
        (λ y z second last.
        let b = operand nodes (next_sound s r a.sound) second in
        of_pair_lem p z m q kind x y
        (record { sound = b.sound; on = omega arith; spent = omega arith; size = omega arith }) a.inside b.inside last))

    pub one_kept : (kind : One) → parse_one node s kind p ≡ made m q → Kept s p m q
    unfolding parse_one next size
    one_kept kind e =
        by_parts _ _ e
        (λ x r first rest.
        let a = operand nodes first_behind first in
        built s p r 1 _ m q rest a.sound (omega arith) (omega arith) (omega arith) a.inside)

    pub brace_kept : (kind : Two) (mark : Mark) (c : ℕ) → parse_brace single s kind mark c p ≡ made m q → Kept s p m q
    unfolding parse_brace next size
    brace_kept kind mark c e =
        by_parts _ _ e
        (λ x r first rest.
        let a = operand singles first_behind first in
        by_test (peek_is r mark)
        (λ t.
        by_parts _ _ (rw t at rest)
        (λ y z second last.
        let one = next_sound s r a.sound in
        let b = operand singles (next_sound s (next s r) one) second in
        built s p z 3 _ m q last b.sound (omega arith) (omega arith) (omega arith) (a.inside, (tt, b.inside))))
        (λ t. built s p r 2 _ m q (rw t at rest) a.sound (omega arith) (omega arith) (omega arith) (a.inside, tt)))

    -- the first of two limits, and the second behind it
    one_limit : (x : Node) (r : Parser) → Operand s (next s (next s p)) x r → Paid s p r 2 (size x)
    unfolding next
    one_limit x r a =
        let one = first_behind in
        record { sound = a.sound; on = omega arith; spent = omega arith; size = omega arith }

    two_limits : (x y : Node) (r z : Parser) → Operand s (next s (next s p)) x r → Operand s (next s (next s r)) y z → Paid s p z 2 (size x + size y)
    unfolding next
    two_limits x y r z a b =
        let one = first_behind in
        let two = next_sound s r a.sound in
        record { sound = b.sound; on = omega arith; spent = omega arith; size = omega arith }

    pub limits_kept : (kind : Limits) → parse_limits single s kind p ≡ made m q → Kept s p m q
    unfolding parse_limits
    limits_kept kind e =
        by_test (peek_is p Mark.Underscore)
        (λ t.
        by_parts _ _ (rw (parse_limits, t) at e)
        (λ x r first rest.
        let a = operand singles second_behind first in
        by_test (peek_is r Mark.Circumflex)
        (λ u.
        by_parts _ _ (rw u at rest)
        (λ y z second last.
        let b = operand singles (next_sound s (next s r) (next_sound s r a.sound)) second in
        both_limits p z m q kind x y (two_limits x y r z a b) a.inside b.inside last))
        (λ u. below p r m q kind x (one_limit x r a) a.inside (rw u at rest))))
        (λ t.
        by_test (peek_is p Mark.Circumflex)
        (λ u.
        by_parts _ _ (rw (parse_limits, t, u) at e)
        (λ x r first rest.
        let a = operand singles second_behind first in
        by_test (peek_is r Mark.Underscore)
        (λ v.
        by_parts _ _ (rw v at rest)
        (λ y z second last.
        let b = operand singles (next_sound s (next s r) (next_sound s r a.sound)) second in
        both_limits p z m q kind y x (rw (add_comm (size y) (size x)) (two_limits x y r z a b)) b.inside a.inside last))
        (λ v. above p r m q kind x (one_limit x r a) a.inside (rw v at rest))))
        (λ u.
        alone p p m q kind (record { sound = h; on = omega arith; spent = omega arith; size = omega arith })
        (rw (parse_limits, t, u) at e)))

    pub lim_kept : (t : ℕ) → parse_lim single s t p ≡ made m q → Kept s p m q
    unfolding parse_lim next size
    lim_kept t e =
        by_test (peek_is p Mark.Underscore)
        (λ u.
        by_parts _ _ (rw (parse_lim, u) at e)
        (λ x r first rest.
        let one = first_behind in
        let a = operand singles second_behind first in
        built s p r 2 _ m q rest a.sound (omega arith) (omega arith) (omega arith) (tt, a.inside)))
        (λ u. built s p p 1 _ m q (rw (parse_lim, u) at e) h (omega arith) (omega arith) (omega arith) tt)

    pub slashed_kept : parse_slashed node s p ≡ made m q → Kept s p m q
    unfolding parse_slashed next size
    slashed_kept e =
        by_parts _ _ e
        (λ x r first rest.
        let one = first_behind in
        let a = operand nodes second_behind first in
        let last = next_sound s r a.sound in
        built s p (next s r) 1 _ m q rest last (omega arith) (omega arith) (omega arith) a.inside)

    pub style_kept : (v : Variant) → parse_style node s v p ≡ made m q → Kept s p m q
    unfolding parse_style next
    style_kept v e =
        by_parts _ _ e
        (λ x r first rest.
        let a = operand nodes first_behind first in
        let same = variant_size v x in
        given (Kept s p) rest
        (record {
          sound = a.sound;
          on = omega arith;
          spent = omega arith;
          size = omega arith;
          inside = variant_inside (length s) v x a.inside;
        }))

    pub left_kept : parse_left node s p ≡ made m q → Kept s p m q
    unfolding parse_left fenced next size mark_number
    left_kept e =
        with_fence_lem (fence_of (next s p).cur.token) _ e
        (λ open-fence read.
        by_parts _ _ read
        (λ x r first rest.
        with_fence_lem (fence_of (next s r).cur.token) _ rest
        (λ close-fence last.
        let one = first_behind in
        let g = group_kept nodes Mark.Right (λ e. never cc) (next s p) x r one first in
        let end = next_sound s r g.sound in
        built s p (next s r) 1 _ m q last end (omega arith) (omega arith) (omega arith) g.inside)))

    pub middle_kept : parse_middle single s p ≡ made m q → Kept s p m q
    unfolding parse_middle next
    middle_kept e =
        by_parts _ _ e
        (λ x r first rest.
        let a = operand singles first_behind first in
        stretches p r m q (stretch x) (record { sound = a.sound; on = omega arith; spent = omega arith; size = omega arith }) rest)

    pub big_kept : (z : ℕ) → parse_big s z p ≡ made m q → Kept s p m q
    unfolding parse_big next
    big_kept z e =
        let one = first_behind in
        sizes_paren p (next s p) m q z (paren_of (next s p).cur.token)
        (record { sound = one; on = omega arith; spent = omega arith; size = omega arith }) e

    pub begin_kept : parse_begin node s p ≡ made m q → Kept s p m q
    unfolding parse_begin next mark_number
    begin_kept e =
        by_parts _ _ e
        (λ x r first rest.
        let name = text_sound s (next s p) first_behind in
        let low = name.sound in
        let g = group_kept nodes Mark.End (λ e. never cc) (parse_text s (next s p)).after x r low first in
        let read = text_sound s (next s r) (next_sound s r g.sound) in
        let end = read.sound in
        let behind = g.sound in
        let few = opened_sizes x in
        in_environment_lem p (parse_text s (next s r)).after m q _ (opened x)
        (record { sound = end; on = omega arith; spent = omega arith; size = omega arith })
        (opened_inside (length s) x g.inside) rest)

    pub text_leaf_kept : (kind : ℕ → ℕ → Leaf) → ((a e : ℕ) → (a ≤ e) × (e ≤ length s) → LeafInside (length s) (kind a e))
        → parse_text_leaf s kind p ≡ made m q → Kept s p m q
    unfolding parse_text_leaf next size
    text_leaf_kept kind inside e =
        let read = text_sound s (next s p) first_behind in
        let end = read.sound in
        built s p (parse_text s (next s p)).after 1 _ m q e end (omega arith) (omega arith) (omega arith) (inside _ _ (read.rises, read.inside))

  -- ---- parse_single_node without the prime behind it, by the current token

  pub bare_kept : (t : Token) → p.cur.start + least t ≤ p.cur.end → TokenInside (length s) t
      → parse_bare node single s t p ≡ made m q → Kept s p m q
  unfolding parse_bare least
  bare_kept (Number a z) w i e = leaf_kept (Leaf.Number a z) i e
  bare_kept (Letter c v) w i e = leaf_kept (Leaf.Letter c v) tt e
  bare_kept (Operator c) w i e = leaf_kept (Leaf.Operator c) tt e
  bare_kept (Function t) w i e = leaf_kept (Leaf.Function t) tt e
  bare_kept (Space t) w i e = leaf_kept (Leaf.Space t) tt e
  bare_kept Sqrt w i e = sqrt_kept w e
  bare_kept Frac w i e = two_kept w Pair.Frac e
  bare_kept (Binom b) w i e = two_kept w (Pair.Binom b) e
  bare_kept (Over c a) w i e = one_kept w (One.OverOp c a) e
  bare_kept (Under c a) w i e = one_kept w (One.UnderOp c a) e
  bare_kept Overset w i e = two_kept w Pair.Overset e
  bare_kept Underset w i e = two_kept w Pair.Underset e
  bare_kept (Overbrace c) w i e = brace_kept w Two.Overset Mark.Circumflex c e
  bare_kept (Underbrace c) w i e = brace_kept w Two.Underset Mark.Underscore c e
  bare_kept (BigOp c) w i e = limits_kept w (Limits.BigOp c) e
  bare_kept (Lim t) w i e = lim_kept w t e
  bare_kept Slashed w i e = slashed_kept w e
  bare_kept (Style v) w i e = style_kept w v e
  bare_kept (Integral c) w i e = limits_kept w (Limits.Integral c) e
  bare_kept LBrace w i e = braces_kept e
  bare_kept (Paren t) w i e = leaf_kept (Leaf.OtherOperator t) tt e
  bare_kept Left w i e = left_kept w e
  bare_kept Middle w i e = middle_kept w e
  bare_kept (Big t) w i e = big_kept w t e
  bare_kept Begin w i e = begin_kept w e
  bare_kept OperatorName w i e = text_leaf_kept w Leaf.FunctionName (λ a z k. k) e
  bare_kept Text w i e = text_leaf_kept w Leaf.Text (λ a z k. k) e
  bare_kept Ampersand w i e = leaf_kept Leaf.Ampersand tt e
  bare_kept NewLine w i e = leaf_kept Leaf.NewLine tt e
  bare_kept EOF w i e = leaf_kept (Leaf.Undefined Undefined.EOF) tt e
  bare_kept End w i e = leaf_kept (Leaf.Undefined Undefined.End) tt e
  bare_kept Right w i e = leaf_kept (Leaf.Undefined Undefined.Right) tt e
  bare_kept RBrace w i e = leaf_kept (Leaf.Undefined Undefined.RBrace) tt e
  bare_kept Underscore w i e = leaf_kept (Leaf.Undefined Undefined.Underscore) tt e
  bare_kept Circumflex w i e = leaf_kept (Leaf.Undefined Undefined.Circumflex) tt e
  bare_kept (Command a z) w i e = leaf_kept (Leaf.Undefined (Undefined.Command a z)) i e
