-- The ways through the parser's arms: what each gives where its operands are known.
-- Assumes nothing.
use mathlib.Core.Path.{◌≡◌, refl, ap}
use mathlib.Core.Bool.{true, false}
use mathlib.Core.List.{List}
use Rattle.std.specs.Prelude.{Some, None, ◌≢◌}
use Prim.Native.Nat.{ℕ, zero, suc, ◌-◌, ◌≤◌, ◌<◌}
use native.Mathlib.Omega.{arith}
use lib.ListN.{length}
use Rattle.text.specs.Text.{part}
use Rattle.text.proofs.Cases.{never, by_test}
use Rattle.attribute.specs.declared.Variant.{Variant}
use Rattle.error.specs.declared.Refusal.{Refusal}
use Rattle.token.specs.declared.Token.{Token}
use Rattle.token.specs.declared.Mark.{Mark}
use Rattle.token.specs.Roles.{token_is, paren_of, fence_of}
use Rattle.ast.specs.declared.Leaf.{Leaf}
use Rattle.ast.specs.declared.One.{One}
use Rattle.ast.specs.declared.Two.{Two}
use Rattle.ast.specs.Tree.{Node, leaf, one, two, empty, set_variant}
use Rattle.parser.specs.declared.Parser.{Parser}
use Rattle.parser.specs.declared.TextRead.{TextRead}
use Rattle.parser.specs.declared.Side.{Side}
use Rattle.parser.specs.declared.Pair.{Pair}
use Rattle.parser.specs.declared.Limits.{Limits}
use Rattle.parser.specs.State.{next, cur_is, peek_is, parse_text}
use Rattle.parser.specs.Environment.{environment}
use Rattle.parser.specs.Parse.{made, refused, Reads, ◌>>=◌, build, group_up_to, parse_group, parse_sqrt, of_pair, parse_two, parse_one, parse_brace, operator, parse_limits, parse_lim, parse_slashed, parse_style, with_fence, fenced, parse_left, stretch, stretched, parse_middle, sized, parse_big, opened, in_environment, parse_begin, parse_text_leaf, parse_bare, primed, single_step, sub_sup, both_scripts, parse_second, parse_scripts, node_step, parse_node, parse_single_node}
use Rattle.parser.specs.Marks.{script_of, script_kind, repeats, other_limit}
use Rattle.parser.specs.Built.{with_limit, with_limits}
use Rattle.parser.proofs.MarkLaws.{no_script}

module _ (node : Reads) (s : List ℕ) (p : Parser) {b : Parser} (e : b ≡ next s p) where
  -- one operand
  pub one_no : {r : Refusal} (k : One) → node b ≡ refused r → parse_one node s k p ≡ refused r
  unfolding parse_one ◌>>=◌
  one_no k h = rw (← e, h)

  pub one_is : {q : Parser} {a : Node} (k : One) → node b ≡ made a q → parse_one node s k p ≡ build 1 (one k a) q
  unfolding parse_one ◌>>=◌
  one_is k h = rw (← e, h)

  pub style_no : {r : Refusal} (v : Variant) → node b ≡ refused r → parse_style node s v p ≡ refused r
  unfolding parse_style ◌>>=◌
  style_no v h = rw (← e, h)

  pub style_is : {q : Parser} {a : Node} (v : Variant) → node b ≡ made a q → parse_style node s v p ≡ made (set_variant v a) q
  unfolding parse_style ◌>>=◌
  style_is v h = rw (← e, h)

  pub middle_no : {r : Refusal} → node b ≡ refused r → parse_middle node s p ≡ refused r
  unfolding parse_middle ◌>>=◌
  middle_no h = rw (← e, h)

  pub middle_is : {q : Parser} {a : Node} → node b ≡ made a q → parse_middle node s p ≡ stretched (stretch a) q
  unfolding parse_middle ◌>>=◌
  middle_is h = rw (← e, h)

  -- two operands
  pub two_no : {r : Refusal} (k : Pair) → node b ≡ refused r → parse_two node s k p ≡ refused r
  unfolding parse_two ◌>>=◌
  two_no k h = rw (← e, h)

  module _ {q : Parser} {a : Node} (h : node b ≡ made a q) {b' : Parser} (e' : b' ≡ next s q) where
    pub two_no_2 : {r : Refusal} (k : Pair) → node b' ≡ refused r → parse_two node s k p ≡ refused r
    unfolding parse_two ◌>>=◌
    two_no_2 k h' = rw (← e, h, ← e', h')

    pub two_is : {c : Node} {q' : Parser} (k : Pair) → node b' ≡ made c q' → parse_two node s k p ≡ of_pair k a c q'
    unfolding parse_two ◌>>=◌
    two_is k h' = rw (← e, h, ← e', h')

  -- a brace
  pub brace_no : {r : Refusal} (k : Two) (m : Mark) (x : ℕ) → node b ≡ refused r → parse_brace node s k m x p ≡ refused r
  unfolding parse_brace ◌>>=◌
  brace_no k m x h = rw (parse_brace, ← e, h)

  pub brace_bare : {q : Parser} {a : Node} (k : Two) (m : Mark) (x : ℕ) → node b ≡ made a q → peek_is q m ≡ false → parse_brace node s k m x p ≡ build 2 (two k a (leaf (Leaf.Operator x))) q
  unfolding parse_brace ◌>>=◌
  brace_bare k m x h f = rw (parse_brace, rw e at h, ◌>>=◌, f)

  module _ {q : Parser} {a : Node} (k : Two) (m : Mark) (x : ℕ) (h : node b ≡ made a q) (f : peek_is q m ≡ true) {b' c' : Parser} (e' : b' ≡ next s q) (g' : c' ≡ next s b') where
    pub brace_no_2 : {r : Refusal} → node c' ≡ refused r → parse_brace node s k m x p ≡ refused r
    unfolding parse_brace ◌>>=◌
    brace_no_2 h' = rw (parse_brace, rw e at h, ◌>>=◌, f, rw (g', e') at h')

    pub brace_is : {d : Node} {q' : Parser} → node c' ≡ made d q' → parse_brace node s k m x p ≡ build 3 (two k a (two k (leaf (Leaf.Operator x)) d)) q'
    unfolding parse_brace ◌>>=◌
    brace_is h' = rw (parse_brace, rw e at h, ◌>>=◌, f, rw (g', e') at h')

  -- a root without a degree, and with one
  pub sqrt_no : {r : Refusal} → cur_is b Mark.LBracket ≡ false → node b ≡ refused r → parse_sqrt node s p ≡ refused r
  unfolding parse_sqrt ◌>>=◌
  sqrt_no f h = rw (parse_sqrt, rw e at f, rw e at h)

  pub sqrt_is : {q : Parser} {a : Node} → cur_is b Mark.LBracket ≡ false → node b ≡ made a q → parse_sqrt node s p ≡ build 1 (one One.Sqrt a) q
  unfolding parse_sqrt ◌>>=◌
  sqrt_is f h = rw (parse_sqrt, rw e at f, rw e at h)

  pub root_no : {r : Refusal} → cur_is b Mark.LBracket ≡ true → parse_group node s Mark.RBracket b ≡ refused r → parse_sqrt node s p ≡ refused r
  unfolding parse_sqrt ◌>>=◌
  root_no f h = rw (parse_sqrt, rw e at f, rw e at h)

  module _ {q : Parser} {a : Node} (f : cur_is b Mark.LBracket ≡ true) (h : parse_group node s Mark.RBracket b ≡ made a q) {b' : Parser} (e' : b' ≡ next s q) where
    pub root_no_2 : {r : Refusal} → node b' ≡ refused r → parse_sqrt node s p ≡ refused r
    unfolding parse_sqrt ◌>>=◌
    root_no_2 h' = rw (parse_sqrt, rw e at f, rw e at h, ◌>>=◌, rw e' at h')

    pub root_is : {c : Node} {q' : Parser} → node b' ≡ made c q' → parse_sqrt node s p ≡ build 1 (two Two.Root c a) q'
    unfolding parse_sqrt ◌>>=◌
    root_is h' = rw (parse_sqrt, rw e at f, rw e at h, ◌>>=◌, rw e' at h')

  -- a slash, of which the brace b is passed
  module _ {b' : Parser} (e' : b' ≡ next s b) where
    pub slashed_no : {r : Refusal} → node b' ≡ refused r → parse_slashed node s p ≡ refused r
    unfolding parse_slashed ◌>>=◌
    slashed_no h = rw (← e, ← e', h)

    pub slashed_is : {q : Parser} {a : Node} {q' : Parser} → node b' ≡ made a q → q' ≡ next s q → parse_slashed node s p ≡ build 1 (one One.Slashed a) q'
    unfolding parse_slashed ◌>>=◌
    slashed_is h f = rw (← e, ← e', h, ← f)

  -- fences
  pub left_no : fence_of b.cur.token ≡ None → parse_left node s p ≡ refused Refusal.MissingParensethis
  unfolding parse_left with_fence
  left_no f = rw (parse_left, ← e, f)

  module _ {t : ℕ} (f : fence_of b.cur.token ≡ Some t) where
    pub left_no_2 : {r : Refusal} → parse_group node s Mark.Right b ≡ refused r → parse_left node s p ≡ refused r
    unfolding parse_left with_fence ◌>>=◌
    left_no_2 h = rw (parse_left, ← e, f, h)

    pub left_is : {q : Parser} {a : Node} {q' : Parser} → parse_group node s Mark.Right b ≡ made a q → q' ≡ next s q → parse_left node s p ≡ fenced t a q'
    unfolding parse_left with_fence ◌>>=◌
    left_is h g = rw (parse_left, ← e, f, h, ← g)

  -- an environment, whose name is read from b on
  module _ {t : TextRead} (f : t ≡ parse_text s b) where
    pub begin_no : {r : Refusal} → parse_group node s Mark.End t.after ≡ refused r → parse_begin node s p ≡ refused r
    unfolding parse_begin ◌>>=◌
    begin_no h = rw (parse_begin, ← e, ← f, h)

    pub begin_is : {q : Parser} {a : Node} {b' : Parser} {t' : TextRead} → parse_group node s Mark.End t.after ≡ made a q → b' ≡ next s q → t' ≡ parse_text s b'
        → parse_begin node s p ≡ in_environment (environment (part t.a t.e s)) (opened a) t'.after
    unfolding parse_begin ◌>>=◌
    begin_is h e' f' = rw (parse_begin, ← e, ← f, h, ← e', ← f')

-- a limit of a function
module _ (single : Reads) (s : List ℕ) (p : Parser) where
  pub lim_alone : (t : ℕ) → peek_is p Mark.Underscore ≡ false → parse_lim single s t p ≡ build 1 (leaf (Leaf.Function t)) p
  unfolding parse_lim
  lim_alone t f = rw (parse_lim, f)

  module _ (t : ℕ) (f : peek_is p Mark.Underscore ≡ true) {b c : Parser} (e : b ≡ next s p) (g : c ≡ next s b) where
    pub lim_no : {r : Refusal} → single c ≡ refused r → parse_lim single s t p ≡ refused r
    unfolding parse_lim ◌>>=◌
    lim_no h = rw (parse_lim, f, rw (g, e) at h)

    pub lim_is : {x : Node} {q : Parser} → single c ≡ made x q → parse_lim single s t p ≡ build 2 (two Two.Under (leaf (Leaf.Function t)) x) q
    unfolding parse_lim ◌>>=◌
    lim_is h = rw (parse_lim, f, rw (g, e) at h)

-- ---- the tower, and the prime

-- a sized parenthesis and a leaf with a text
pub big_is : (s : List ℕ) (size : ℕ) (p : Parser) {b : Parser} → b ≡ next s p → parse_big s size p ≡ sized size (paren_of b.cur.token) b
unfolding parse_big
big_is s size p e = rw (parse_big, ← e)

pub text_is : (s : List ℕ) (kind : ℕ → ℕ → Leaf) (p : Parser) {b : Parser} {t : TextRead} → b ≡ next s p → t ≡ parse_text s b
    → parse_text_leaf s kind p ≡ build 1 (leaf (kind t.a t.e)) t.after
unfolding parse_text_leaf
text_is s kind p e f = rw (parse_text_leaf, ← e, ← f)

-- the mark of a script below or above
abbrev script_mark : Side → Mark
script_mark Side.Under = Mark.Underscore
script_mark Side.Over = Mark.Circumflex

script_mark_lem : (t : Token) (side : Side) → script_of t ≡ Some side → token_is t (script_mark side) ≡ true
unfolding script_of
script_mark_lem t side e =
    by_test (token_is t Mark.Underscore)
    (λ x. let f = rw (script_of, x) at e in let g : Side.Under ≡ side = cc in rw (← g) x)
    (λ x.
    by_test (token_is t Mark.Circumflex)
    (λ y. let f = rw (script_of, x, y) at e in let g : Side.Over ≡ side = cc in rw (← g) y)
    (λ y. let f = rw (script_of, x, y) at e in never cc))

module _ (single : Reads) (s : List ℕ) (p : Parser) where
  pub node_no : {r : Refusal} → single p ≡ refused r → node_step single s p ≡ refused r
  unfolding node_step ◌>>=◌
  node_no h = rw h

  pub node_is : {q : Parser} {a : Node} → single p ≡ made a q → node_step single s p ≡ parse_scripts single s (script_of q.peek.token) a q
  unfolding node_step ◌>>=◌
  node_is h = rw h

  -- behind a base no mark is next, and behind a base with one script none or the same
  pub scripts_none : script_of p.peek.token ≡ None → (a : Node) → parse_scripts single s (script_of p.peek.token) a p ≡ made a p
  unfolding parse_scripts
  scripts_none f a = rw f

  pub second_none : (side : Side) → script_of p.peek.token ≡ None → (a x : Node)
      → parse_second single s side (script_of p.peek.token) a x p ≡ build 1 (two (script_kind side) a x) p
  unfolding parse_second
  second_none side f a x = rw f

  pub second_again : (side again : Side) → script_of p.peek.token ≡ Some again → repeats side again ≡ true → (a x : Node)
      → parse_second single s side (script_of p.peek.token) a x p ≡ refused Refusal.RepeatedMark
  unfolding parse_second
  second_again side again f h a x = rw (f, parse_second, h)

  module _ {b c : Parser} (e : b ≡ next s p) (g : c ≡ next s b) (side : Side) where
    -- behind a base a mark is next
    module _ (f : script_of p.peek.token ≡ Some side) where
      pub scripts_no : {r : Refusal} → single c ≡ refused r → (a : Node) → parse_scripts single s (script_of p.peek.token) a p ≡ refused r
      unfolding parse_scripts ◌>>=◌
      scripts_no k a = rw (f, ← e, ← g, k)

      pub scripts_is : {x : Node} {q : Parser} → single c ≡ made x q → (a : Node)
          → parse_scripts single s (script_of p.peek.token) a p ≡ parse_second single s side (script_of q.peek.token) a x q
      unfolding parse_scripts ◌>>=◌
      scripts_is k a = rw (f, ← e, ← g, k)

    -- behind a base with one script the other mark is next
    module _ (again : Side) (f : script_of p.peek.token ≡ Some again) (h : repeats side again ≡ false) where
      pub second_no : {r : Refusal} → single c ≡ refused r → (a x : Node) → parse_second single s side (script_of p.peek.token) a x p ≡ refused r
      unfolding parse_second ◌>>=◌
      second_no k a x = rw (f, parse_second, h, ← e, ← g, k)

      pub second_is : {y : Node} {q : Parser} → single c ≡ made y q → (a x : Node)
          → parse_second single s side (script_of p.peek.token) a x p ≡ both_scripts (script_of q.peek.token) (sub_sup side a x y) q
      unfolding parse_second ◌>>=◌
      second_is k a x = rw (f, parse_second, h, ← e, ← g, k)

-- ---- limits

script_below : (t : Token) → script_of t ≡ Some Side.Under → token_is t Mark.Underscore ≡ true
script_below t e = script_mark_lem t Side.Under e

script_above : (t : Token) → script_of t ≡ Some Side.Over → (token_is t Mark.Underscore ≡ false) × (token_is t Mark.Circumflex ≡ true)
unfolding script_of
script_above t e =
    by_test (token_is t Mark.Underscore)
    (λ x. let f = rw (script_of, x) at e in never cc)
    (λ x. (x, script_mark_lem t Side.Over e))

module _ (single : Reads) (s : List ℕ) (kind : Limits) (p : Parser) where
  pub limits_alone : script_of p.peek.token ≡ None → parse_limits single s kind p ≡ build 1 (operator kind) p
  unfolding parse_limits
  limits_alone f =
      let g = no_script p.peek.token f in
      rw (parse_limits, g.0, g.1)

  module _ {b c : Parser} (e : b ≡ next s p) (g : c ≡ next s b) where
    pub limits_no : {r : Refusal} (side : Side) → script_of p.peek.token ≡ Some side → single c ≡ refused r → parse_limits single s kind p ≡ refused r
    unfolding parse_limits ◌>>=◌
    limits_no Side.Over f h =
        let m = script_above p.peek.token f in
        rw (parse_limits, m.0, m.1, rw (g, e) at h)
    limits_no Side.Under f h = rw (parse_limits, script_below p.peek.token f, rw (g, e) at h)

    module _ {x : Node} {q : Parser} (h : single c ≡ made x q) where
      pub limit_is : (side : Side) → script_of p.peek.token ≡ Some side → peek_is q (other_limit side) ≡ false → parse_limits single s kind p ≡ with_limit side kind x q
      unfolding parse_limits ◌>>=◌
      limit_is Side.Over f k =
          let m = script_above p.peek.token f in
          rw (parse_limits, m.0, m.1, rw (g, e) at h, ◌>>=◌, k)
      limit_is Side.Under f k = rw (parse_limits, script_below p.peek.token f, rw (g, e) at h, ◌>>=◌, k)

      module _ {b' c' : Parser} (e' : b' ≡ next s q) (g' : c' ≡ next s b') where
        pub limits_no_2 : {r : Refusal} (side : Side) → script_of p.peek.token ≡ Some side → peek_is q (other_limit side) ≡ true → single c' ≡ refused r
            → parse_limits single s kind p ≡ refused r
        unfolding parse_limits ◌>>=◌
        limits_no_2 Side.Over f k h' =
            let m = script_above p.peek.token f in
            rw (parse_limits, m.0, m.1, rw (g, e) at h, ◌>>=◌, k, rw (g', e') at h')
        limits_no_2 Side.Under f k h' = rw (parse_limits, script_below p.peek.token f, rw (g, e) at h, ◌>>=◌, k, rw (g', e') at h')

        pub limits_is : {y : Node} {q' : Parser} (side : Side) → script_of p.peek.token ≡ Some side → peek_is q (other_limit side) ≡ true → single c' ≡ made y q'
            → parse_limits single s kind p ≡ with_limits side kind x y q'
        unfolding parse_limits ◌>>=◌
        limits_is Side.Over f k h' =
            let m = script_above p.peek.token f in
            rw (parse_limits, m.0, m.1, rw (g, e) at h, ◌>>=◌, k, rw (g', e') at h')
        limits_is Side.Under f k h' = rw (parse_limits, script_below p.peek.token f, rw (g, e) at h, ◌>>=◌, k, rw (g', e') at h')

-- ---- the tower

pub single_zero : (d : ℕ) (s : List ℕ) (p : Parser) → d ≡ 0 → parse_single_node d s p ≡ refused Refusal.TooDeep
unfolding parse_single_node
single_zero zero s p e = refl
single_zero (suc d) s p e = absurd (omega arith)

-- the call of the single node takes one more
pub node_few : (d : ℕ) (s : List ℕ) (p : Parser) → d < 2 → parse_node d s p ≡ refused Refusal.TooDeep
unfolding parse_node
node_few zero s p l = refl
node_few (suc d) s p l = node_no (λ q. parse_single_node d s q) s p (single_zero d s p (omega arith))

pub node_more : (d : ℕ) (s : List ℕ) (p : Parser) → 2 ≤ d → parse_node d s p ≡ node_step (λ q. parse_single_node (d - 1) s q) s p
unfolding parse_node
node_more zero s p l = absurd (omega arith)
node_more (suc d) s p l =
    let less : d ≡ suc d - 1 = omega arith in
    ap (λ x. node_step (λ q. parse_single_node x s q) s p) less

pub single_more : (d : ℕ) (s : List ℕ) (p : Parser) → (d ≡ 0 → ⊥) → parse_single_node d s p ≡ single_step (λ q. parse_node (d - 1) s q) (λ q. parse_single_node (d - 1) s q) s p
unfolding parse_single_node
single_more zero s p e = absurd (e refl)
single_more (suc d) s p e =
    let less : d ≡ suc d - 1 = omega arith in
    ap (λ x. single_step (λ q. parse_node x s q) (λ q. parse_single_node x s q) s p) less

module _ (node single : Reads) (s : List ℕ) (p : Parser) where
  pub bare_no : {r : Refusal} → parse_bare node single s p.cur.token p ≡ refused r → single_step node single s p ≡ refused r
  unfolding single_step ◌>>=◌
  bare_no h = rw h

  pub bare_is : {a : Node} {q : Parser} → parse_bare node single s p.cur.token p ≡ made a q → single_step node single s p ≡ primed s a q
  unfolding single_step ◌>>=◌
  bare_is h = rw h

-- the prime behind a node
pub prime_is : (s : List ℕ) (n : Node) (p : Parser) {q : Parser} → peek_is p Mark.Prime ≡ true → q ≡ next s p → primed s n p ≡ build 2 (two Two.Superscript n (leaf (Leaf.Operator 0x2032))) q
unfolding primed
prime_is s n p f e = rw (primed, f, ← e)

pub prime_none : (s : List ℕ) (n : Node) (p : Parser) → peek_is p Mark.Prime ≡ false → primed s n p ≡ made n p
unfolding primed
prime_none s n p f = rw (primed, f)

-- the mark of the other limit takes a byte
pub other_byte : (side : Side) → other_limit side ≢ Mark.EOF
other_byte Side.Under e = never cc
other_byte Side.Over e = never cc

pub group_is : (node : Reads) (s : List ℕ) (end : Mark) (p : Parser) {b : Parser} → b ≡ next s p → parse_group node s end p ≡ group_up_to node s end (suc (length s)) b empty
unfolding parse_group
group_is node s end p e = rw (parse_group, ← e)
