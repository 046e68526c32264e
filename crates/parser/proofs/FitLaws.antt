-- What holds of every token that is read holds of every tree, at any depth.
-- Assumes nothing.
use mathlib.Core.Path.{◌≡◌}
use mathlib.Core.Bool.{Bool, true, false, ◌&&◌, and-eq-true_iff}
use mathlib.Core.List.{List}
use Rattle.std.specs.Prelude.{Option, Some, None}
use mathlib.Core.Option.{none, some}
use Prim.Native.Nat.{ℕ, zero, suc}
use Prim.Native.Char.{code}
use lib.ListN.{length, drop}
use Rattle.text.proofs.Cases.{by_test}
use Rattle.error.specs.declared.Refusal.{Refusal}
use Rattle.token.specs.declared.Token.{Token}
use Rattle.token.specs.declared.Token.TheVariants.{EOF, Begin, End, Ampersand, NewLine, Left, Right, Middle, Paren, LBrace, RBrace, Frac, Underscore, Circumflex, Binom, Overset, Underset, Overbrace, Underbrace, Sqrt, Integral, Lim, Space, Style, Big, Over, Under, Operator, BigOp, Letter, Number, Function, OperatorName, Slashed, Text, Command}
use Rattle.token.specs.declared.Mark.{Mark}
use Rattle.token.specs.Command.{acts_on_a_digit}
use Rattle.token.specs.Roles.{letter_of, paren_of, fence_of}
use Rattle.token.proofs.FitLaws.{Asks, TokenFit}
use Rattle.lexer.specs.Lex.{next_token}
use Rattle.ast.specs.declared.Leaf.{Leaf}
use Rattle.ast.specs.declared.One.{One}
use Rattle.ast.specs.declared.Two.{Two}
use Rattle.ast.specs.Tree.{Node, leaf, one, two, three, row, matrix, Nodes, empty, ◌then◌, snoc}
use Rattle.ast.proofs.FitLaws.{LeafFit, OneFit, TreeFit, AllFit, snoc_fit, variant_fit}
use Rattle.attribute.specs.declared.Variant.{Variant}
use Rattle.parser.specs.declared.Parser.{Parser}
use Rattle.parser.specs.declared.Side.{Side}
use Rattle.parser.specs.declared.Environment.{Environment}
use Rattle.parser.specs.declared.Pair.{Pair}
use Rattle.parser.specs.declared.Limits.{Limits}
use Rattle.parser.specs.State.{starts_with_digit, following, next, new, cur_is, peek_is, past_letters, parse_text}
use Rattle.parser.specs.Marks.{script_of, repeats}
use Rattle.parser.specs.Parse.{Parsed, made, refused, Reads, ◌>>=◌, build, grouped, group_up_to, parse_group, parse_sqrt, binomial, of_pair, parse_two, parse_one, parse_brace, operator, with_below, with_above, with_both, parse_limits, parse_lim, parse_slashed, parse_style, with_fence, fenced, parse_left, stretch_leaf, stretch, stretched, parse_middle, sized, parse_big, opened, in_environment, parse_begin, parse_text_leaf, parse_bare, primed, single_step, sub_sup, both_scripts, parse_second, parse_scripts, node_step, parse_node, parse_single_node, nodes_up_to, parse}

module _ (asks : Asks) where
  -- what is asked of a body: of each token that is read from a place on, of a digit that is a number of its own, and of the prime
  pub record Reading (s : List ℕ) : Type 0 where
    pub reads : (at : ℕ) → TokenFit asks (next_token at (drop at s)).token
    pub digits : (at : ℕ) → starts_with_digit (drop at s) ≡ true → asks.digits at (suc at)
    pub prime : asks.ok (code "′")

  -- ---- the state

  -- the two tokens of a state fit
  pub record StateFit (p : Parser) : Type 0 where
    pub cur : TokenFit asks p.cur.token
    pub peek : TokenFit asks p.peek.token

  module _ (s : List ℕ) (body : Reading s) where
    following_fit : (t : Token) (at : ℕ) → TokenFit asks (following t at (drop at s)).token
    unfolding following
    following_fit t at =
        by_test (acts_on_a_digit t && starts_with_digit (drop at s))
        (λ e. rw (following, e) (body.digits at ((and-eq-true_iff (acts_on_a_digit t) (starts_with_digit (drop at s))).0 e).1))
        (λ e. rw (following, e) (body.reads at))

    move : {p : Parser} → StateFit p → StateFit (next s p)
    unfolding next
    move {p} h = record { cur = h.peek; peek = following_fit p.peek.token p.peek.end }

    new_fit : StateFit (new s)
    unfolding new
    new_fit = move (move (record { cur = tt; peek = tt }))

    past_fit : (k : ℕ) (p : Parser) → StateFit p → StateFit (past_letters k s p)
    unfolding past_letters
    past_fit zero p h = h
    past_fit (suc k) p h =
        elim (letter_of p.cur.token) as (λ o. StateFit (elim o [ none ↦ p | some c ↦ past_letters k s (next s p) ])) [
          | none ↦ h
          | some c ↦ past_fit k (next s p) (move h)
        ]

    text_fit : (p : Parser) → StateFit p → StateFit (parse_text s p).after
    unfolding parse_text
    text_fit p h = past_fit (length s) (next s p) (move h)

  -- ---- what is read

  -- what is read, if anything, is as P says, and the tokens of the state behind it fit
  pub data Fine {A : Type 0} (P : A → Type 0) : Parsed A → Type 0 where
    fine : (a : A) (q : Parser) → P a → StateFit q → Fine P (made a q)
    nothing : (z : Refusal) → Fine P (refused z)

  -- what is read is a tree that fits, and so for a function of the parser
  abbrev NodeFit : Parsed Node → Type 0
  NodeFit x = Fine (TreeFit asks) x

  abbrev Fits : Reads → Type 0
  Fits reads = (p : Parser) → StateFit p → NodeFit (reads p)

  -- one function behind another
  behind : {A B : Type 0} {P : A → Type 0} {Q : B → Type 0} (x : Parsed A) (k : A × Parser → Parsed B)
      → Fine P x → ((a : A) (q : Parser) → P a → StateFit q → Fine Q (k (a, q))) → Fine Q (x >>= k)
  unfolding ◌>>=◌
  behind x k (fine a q h i) f = f a q h i
  behind x k (nothing z) f = nothing z

  -- one function or another
  either : {A : Type 0} {P : A → Type 0} (b : Bool) (x y : Parsed A) → Fine P x → Fine P y → Fine P (elim b [ true ↦ x | false ↦ y ])
  either true x y h k = h
  either false x y h k = k

  -- a node that is built
  built : (k : ℕ) (n : Node) (p : Parser) → TreeFit asks n → StateFit p → NodeFit (build k n p)
  unfolding build
  built k n p h i = fine n _ h (record { cur = i.cur; peek = i.peek })

  -- ---- nodes built over parts

  group_ends : (ns : Nodes) (p : Parser) → AllFit asks ns → StateFit p → NodeFit (grouped ns p)
  unfolding grouped
  group_ends empty p h i = built 1 _ _ tt i
  group_ends (n then empty) p h i = fine n p h.0 i
  group_ends (n then (m then ns)) p h i = built 1 _ _ h i

  of_pair_lem : (kind : Pair) (a b : Node) (p : Parser) → TreeFit asks a → TreeFit asks b → StateFit p → NodeFit (of_pair kind a b p)
  unfolding of_pair binomial
  of_pair_lem Pair.Frac a b p x y i = built 1 _ _ (x, y) i
  of_pair_lem (Pair.Binom None) a b p x y i = built 2 _ _ (tt, (x, y)) i
  of_pair_lem (Pair.Binom (Some d)) a b p x y i = built 4 _ _ (tt, ((tt, (x, y)), tt)) i
  of_pair_lem Pair.Overset a b p x y i = built 1 _ _ (y, x) i
  of_pair_lem Pair.Underset a b p x y i = built 1 _ _ (y, x) i

  abbrev LimitsFit : Limits → Type 0
  LimitsFit (Limits.BigOp c) = asks.ok c
  LimitsFit (Limits.Integral c) = asks.ok c

  module _ (p : Parser) (i : StateFit p) where
    alone : (kind : Limits) → LimitsFit kind → NodeFit (build 1 (operator kind) p)
    unfolding operator
    alone (Limits.BigOp c) h = built 1 _ _ h i
    alone (Limits.Integral c) h = built 1 _ _ h i

    below : (kind : Limits) (a : Node) → LimitsFit kind → TreeFit asks a → NodeFit (with_below kind a p)
    unfolding with_below
    below (Limits.BigOp c) a h x = built 2 _ _ (h, x) i
    below (Limits.Integral c) a h x = built 2 _ _ (h, x) i

    above : (kind : Limits) (a : Node) → LimitsFit kind → TreeFit asks a → NodeFit (with_above kind a p)
    unfolding with_above
    above (Limits.BigOp c) a h x = built 1 _ _ (h, x) i
    above (Limits.Integral c) a h x = built 2 _ _ (h, x) i

    both_limits : (kind : Limits) (a b : Node) → LimitsFit kind → TreeFit asks a → TreeFit asks b → NodeFit (with_both kind a b p)
    unfolding with_both
    both_limits (Limits.BigOp c) a b h x y = built 2 _ _ (h, x, y) i
    both_limits (Limits.Integral c) a b h x y = built 2 _ _ (h, x, y) i

    sizes_paren : (z : ℕ) (o : Option ℕ) → NodeFit (sized z o p)
    unfolding sized
    sizes_paren z None = nothing _
    sizes_paren z (Some t) = built 1 _ _ tt i

    in_environment_lem : (env : Option Environment) (ns : Nodes) → AllFit asks ns → NodeFit (in_environment env ns p)
    unfolding in_environment
    in_environment_lem None ns h = nothing _
    in_environment_lem (Some (Environment.Bare align)) ns h = built 1 _ _ h i
    in_environment_lem (Some (Environment.Between t u)) ns h = built 2 _ _ (tt, h) i

    -- an operator and a fixed text are stretched
    stretches_leaf : (l : Leaf) → LeafFit asks l → NodeFit (stretched (stretch_leaf l) p)
    unfolding stretched stretch_leaf
    stretches_leaf (Leaf.Number a e) h = nothing _
    stretches_leaf (Leaf.Letter c v) h = nothing _
    stretches_leaf (Leaf.Operator c) h = built 1 _ _ h i
    stretches_leaf (Leaf.Function t) h = nothing _
    stretches_leaf (Leaf.FunctionName a e) h = nothing _
    stretches_leaf (Leaf.Space w) h = nothing _
    stretches_leaf (Leaf.StrechedOp o) h = nothing _
    stretches_leaf (Leaf.OtherOperator t) h = built 1 _ _ tt i
    stretches_leaf (Leaf.SizedParen z t) h = nothing _
    stretches_leaf (Leaf.Text a e) h = nothing _
    stretches_leaf Leaf.Ampersand h = nothing _
    stretches_leaf Leaf.NewLine h = nothing _
    stretches_leaf (Leaf.Undefined u) h = nothing _

    stretches : (n : Node) → TreeFit asks n → NodeFit (stretched (stretch n) p)
    unfolding stretched stretch
    stretches (leaf l) h = stretches_leaf l h
    stretches (one k a) h = nothing _
    stretches (two k a b) h = nothing _
    stretches (three k a b c) h = nothing _
    stretches (row ns) h = nothing _
    stretches (matrix align ns) h = nothing _

  opened_fit : (n : Node) → TreeFit asks n → AllFit asks (opened n)
  unfolding opened
  opened_fit (leaf l) h = (h, tt)
  opened_fit (one k a) h = (h, tt)
  opened_fit (two k a b) h = (h, tt)
  opened_fit (three k a b c) h = (h, tt)
  opened_fit (row ns) h = h
  opened_fit (matrix align ns) h = (h, tt)

  with_fence_lem : (o : Option ℕ) (k : ℕ → Parsed Node) → ((t : ℕ) → NodeFit (k t)) → NodeFit (with_fence o k)
  unfolding with_fence
  with_fence_lem None k f = nothing _
  with_fence_lem (Some t) k f = f t

  -- ---- the arms over the level below

  module _ (s : List ℕ) (body : Reading s) {node single : Reads} (nodes : Fits node) (singles : Fits single) where
    on : {p : Parser} → StateFit p → StateFit (next s p)
    on h = move s body h

    group_goes : (end : Mark) (k : ℕ) (p : Parser) (ns : Nodes) → AllFit asks ns → StateFit p → NodeFit (group_up_to node s end k p ns)
    unfolding group_up_to
    group_goes end zero p ns h i = nothing _
    group_goes end (suc k) p ns h i =
        either (cur_is p Mark.EOF) _ _ (nothing _)
        (either (cur_is p end) _ _ (group_ends ns p h i)
        (behind _ _ (nodes p i) (λ n q x y. group_goes end k (next s q) (snoc ns n) (snoc_fit asks ns n h x) (on y))))

    group : (end : Mark) (p : Parser) → StateFit p → NodeFit (parse_group node s end p)
    unfolding parse_group
    group end p i = group_goes end (suc (length s)) (next s p) empty tt (on i)

    module _ (p : Parser) (i : StateFit p) where
      sqrt : NodeFit (parse_sqrt node s p)
      unfolding parse_sqrt
      sqrt =
          either (cur_is (next s p) Mark.LBracket) _ _
          (behind _ _ (group Mark.RBracket (next s p) (on i))
          (λ degree q x y. behind _ _ (nodes (next s q) (on y)) (λ content r z w. built 1 _ _ (z, x) w)))
          (behind _ _ (nodes (next s p) (on i)) (λ content q x y. built 1 _ _ (tt, x) y))

      pair : (kind : Pair) → NodeFit (parse_two node s kind p)
      unfolding parse_two
      pair kind =
          behind _ _ (nodes (next s p) (on i))
          (λ a q x y. behind _ _ (nodes (next s q) (on y)) (λ b r z w. of_pair_lem kind a b r x z w))

      operand : (kind : One) → OneFit asks kind → NodeFit (parse_one node s kind p)
      unfolding parse_one
      operand kind h = behind _ _ (nodes (next s p) (on i)) (λ a q x y. built 1 _ _ (h, x) y)

      brace : (kind : Two) (mark : Mark) (c : ℕ) → asks.ok c → NodeFit (parse_brace single s kind mark c p)
      unfolding parse_brace
      brace kind mark c h =
          behind _ _ (singles (next s p) (on i))
          (λ target q x y.
          either (peek_is q mark) _ _
          (behind _ _ (singles (next s (next s q)) (on (on y))) (λ expl r z w. built 3 _ _ (x, (h, z)) w))
          (built 2 _ _ (x, h) y))

      limits : (kind : Limits) → LimitsFit kind → NodeFit (parse_limits single s kind p)
      unfolding parse_limits
      limits kind h =
          either (peek_is p Mark.Underscore) _ _
          (behind _ _ (singles (next s (next s p)) (on (on i)))
          (λ under q x y.
          either (peek_is q Mark.Circumflex) _ _
          (behind _ _ (singles (next s (next s q)) (on (on y))) (λ side r z w. both_limits r w kind under side h x z))
          (below q y kind under h x)))
          (either (peek_is p Mark.Circumflex) _ _
          (behind _ _ (singles (next s (next s p)) (on (on i)))
          (λ side q x y.
          either (peek_is q Mark.Underscore) _ _
          (behind _ _ (singles (next s (next s q)) (on (on y))) (λ under r z w. both_limits r w kind under side h z x))
          (above q y kind side h x)))
          (alone p i kind h))

      lim : (t : ℕ) → NodeFit (parse_lim single s t p)
      unfolding parse_lim
      lim t =
          either (peek_is p Mark.Underscore) _ _
          (behind _ _ (singles (next s (next s p)) (on (on i))) (λ under q x y. built 2 _ _ (tt, x) y))
          (built 1 _ _ tt i)

      slashed : NodeFit (parse_slashed node s p)
      unfolding parse_slashed
      slashed = behind _ _ (nodes (next s (next s p)) (on (on i))) (λ n q x y. built 1 _ _ (tt, x) (on y))

      style : (v : Variant) → NodeFit (parse_style node s v p)
      unfolding parse_style
      style v = behind _ _ (nodes (next s p) (on i)) (λ n q x y. fine _ q (variant_fit asks v n x) y)

      left : NodeFit (parse_left node s p)
      unfolding parse_left fenced
      left =
          with_fence_lem (fence_of (next s p).cur.token) _
          (λ first.
          behind _ _ (group Mark.Right (next s p) (on i))
          (λ content q x y. with_fence_lem (fence_of (next s q).cur.token) _ (λ close. built 1 _ _ (tt, x) (on y))))

      middle : NodeFit (parse_middle single s p)
      unfolding parse_middle
      middle = behind _ _ (singles (next s p) (on i)) (λ n q x y. stretches q y n x)

      big : (z : ℕ) → NodeFit (parse_big s z p)
      unfolding parse_big
      big z = sizes_paren (next s p) (on i) z (paren_of (next s p).cur.token)

      begin : NodeFit (parse_begin node s p)
      unfolding parse_begin
      begin =
          behind _ _ (group Mark.End (parse_text s (next s p)).after (text_fit s body (next s p) (on i)))
          (λ content q x y.
          in_environment_lem (parse_text s (next s q)).after (text_fit s body (next s q) (on y)) _ (opened content) (opened_fit content x))

      text_leaf : (kind : ℕ → ℕ → Leaf) → ((a e : ℕ) → LeafFit asks (kind a e)) → NodeFit (parse_text_leaf s kind p)
      unfolding parse_text_leaf
      text_leaf kind h = built 1 _ _ (h _ _) (text_fit s body (next s p) (on i))

      -- parse_single_node without the prime behind it, by the current token
      bare : (t : Token) → TokenFit asks t → NodeFit (parse_bare node single s t p)
      unfolding parse_bare
      bare (Number a e) h = built 1 _ _ h i
      bare (Letter c v) h = built 1 _ _ h i
      bare (Operator c) h = built 1 _ _ h i
      bare (Function t) h = built 1 _ _ tt i
      bare (Space w) h = built 1 _ _ tt i
      bare Sqrt h = sqrt
      bare Frac h = pair Pair.Frac
      bare (Binom b) h = pair (Pair.Binom b)
      bare (Over c a) h = operand (One.OverOp c a) h
      bare (Under c a) h = operand (One.UnderOp c a) h
      bare Overset h = pair Pair.Overset
      bare Underset h = pair Pair.Underset
      bare (Overbrace c) h = brace Two.Overset Mark.Circumflex c h
      bare (Underbrace c) h = brace Two.Underset Mark.Underscore c h
      bare (BigOp c) h = limits (Limits.BigOp c) h
      bare (Lim t) h = lim t
      bare Slashed h = slashed
      bare (Style v) h = style v
      bare (Integral c) h = limits (Limits.Integral c) h
      bare LBrace h = group Mark.RBrace p i
      bare (Paren t) h = built 1 _ _ tt i
      bare Left h = left
      bare Middle h = middle
      bare (Big z) h = big z
      bare Begin h = begin
      bare OperatorName h = text_leaf Leaf.FunctionName (λ a e. tt)
      bare Text h = text_leaf Leaf.Text (λ a e. tt)
      bare Ampersand h = built 1 _ _ tt i
      bare NewLine h = built 1 _ _ tt i
      bare EOF h = built 1 _ _ tt i
      bare End h = built 1 _ _ tt i
      bare Right h = built 1 _ _ tt i
      bare RBrace h = built 1 _ _ tt i
      bare Underscore h = built 1 _ _ tt i
      bare Circumflex h = built 1 _ _ tt i
      bare (Command a e) h = built 1 _ _ h i

    -- ---- parse_single_node and parse_node

    single_step_lem : Fits (single_step node single s)
    unfolding single_step primed
    single_step_lem p i =
        behind _ _ (bare p i p.cur.token i.cur)
        (λ n q x y. either (peek_is q Mark.Prime) _ _ (built 2 _ _ (x, body.prime) (on y)) (fine n q x y))

    sub_sup_fit : (side : Side) (a b c : Node) → TreeFit asks a → TreeFit asks b → TreeFit asks c → TreeFit asks (sub_sup side a b c)
    unfolding sub_sup
    sub_sup_fit Side.Under a b c x y z = (x, y, z)
    sub_sup_fit Side.Over a b c x y z = (x, z, y)

    both_scripts_lem : (script : Option Side) (n : Node) (p : Parser) → TreeFit asks n → StateFit p → NodeFit (both_scripts script n p)
    unfolding both_scripts
    both_scripts_lem None n p h i = built 1 _ _ h i
    both_scripts_lem (Some again) n p h i = nothing _

    second : (side : Side) (script : Option Side) (n m : Node) (p : Parser) → TreeFit asks n → TreeFit asks m → StateFit p → NodeFit (parse_second single s side script n m p)
    unfolding parse_second
    second side None n m p h k i = built 1 _ _ (h, k) i
    second side (Some again) n m p h k i =
        either (repeats side again) _ _ (nothing _)
        (behind _ _ (singles (next s (next s p)) (on (on i))) (λ o q x y. both_scripts_lem (script_of q.peek.token) _ q (sub_sup_fit side n m o h k x) y))

    scripts : (script : Option Side) (n : Node) (p : Parser) → TreeFit asks n → StateFit p → NodeFit (parse_scripts single s script n p)
    unfolding parse_scripts
    scripts None n p h i = fine n p h i
    scripts (Some side) n p h i =
        behind _ _ (singles (next s (next s p)) (on (on i))) (λ m q x y. second side (script_of q.peek.token) n m q h x y)

    node_step_lem : Fits (node_step single s)
    unfolding node_step
    node_step_lem p i = behind _ _ (singles p i) (λ n q x y. scripts (script_of q.peek.token) n q x y)

    -- the nodes up to the end
    nodes_go : (k : ℕ) (p : Parser) (ns : Nodes) → AllFit asks ns → StateFit p → Fine (AllFit asks) (nodes_up_to node s k p ns)
    unfolding nodes_up_to
    nodes_go zero p ns h i = nothing _
    nodes_go (suc k) p ns h i =
        either (cur_is p Mark.EOF) _ _ (fine ns p h i)
        (behind _ _ (nodes p i) (λ n q x y. nodes_go k (next s q) (snoc ns n) (snoc_fit asks ns n h x) (on y)))

  -- ---- at any depth

  tower : (d : ℕ) (s : List ℕ) → Reading s → Fits (parse_node d s) × Fits (parse_single_node d s)
  unfolding parse_node parse_single_node
  tower zero s body = (λ p i. nothing _, λ p i. nothing _)
  tower (suc d) s body =
      let lower = tower d s body in
      (node_step_lem s body lower.0 lower.1, single_step_lem s body lower.0 lower.1)

  -- the nodes of a body
  pub parse_fit : (depth : ℕ) (s : List ℕ) → Reading s → Fine (AllFit asks) (parse depth s)
  unfolding parse
  parse_fit depth s body =
      let all = tower depth s body in
      nodes_go s body all.0 all.1 (suc (length s)) (new s) empty tt (new_fit s body)
