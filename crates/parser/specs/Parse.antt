-- The parser: the Rust's parse.rs, arm by arm. A step takes the functions of the level below, `node` for parse_node and
-- `single` for parse_single_node; the depth left falls from level to level.
-- Assumes nothing.
use Rattle.std.specs.Prelude.{true, false, List, ℕ, zero, suc, ◌+◌, length, Option, Some, None}
use Prim.Native.Char.{code}
use Rattle.text.specs.Text.{part}
use Rattle.attribute.specs.declared.Variant.{Variant}
use Rattle.attribute.specs.declared.Accent.{Accent}
use Rattle.attribute.specs.declared.LineThickness.{LineThickness}
use Rattle.attribute.specs.declared.ColumnAlign.{ColumnAlign}
use Rattle.error.specs.declared.Refusal.{Refusal}
use Rattle.token.specs.declared.Token.{Token}
use Rattle.token.specs.declared.Mark.{Mark}
use Rattle.token.specs.declared.Undefined.{Undefined}
use Rattle.token.specs.Texts.{text}
use Rattle.token.specs.Roles.{paren_of, fence_of}
use Rattle.ast.specs.declared.Stretched.{Stretched}
use Rattle.ast.specs.declared.Leaf.{Leaf}
use Rattle.ast.specs.declared.One.{One}
use Rattle.ast.specs.declared.Two.{Two}
use Rattle.ast.specs.declared.Three.{Three}
use Rattle.ast.specs.Tree.{Node, leaf, one, two, three, row, matrix, Nodes, empty, ◌then◌, snoc, set_variant}
use Rattle.parser.specs.declared.Parser.{Parser}
use Rattle.parser.specs.declared.TextRead.{TextRead}
use Rattle.parser.specs.declared.Environment.{Environment}
use Rattle.parser.specs.declared.Pair.{Pair}
use Rattle.parser.specs.declared.Limits.{Limits}
use Rattle.parser.specs.declared.Side.{Side}
use Rattle.parser.specs.State.{next, new, cur_is, peek_is, parse_text}
use Rattle.parser.specs.Environment.{environment}
use Rattle.parser.specs.Marks.{script_of, script_kind, repeats}

-- what a function of the parser gives: a value and the state after it, or a refusal
pub data Parsed (A : Type 0) : Type 0 where
  made : A → Parser → Parsed A
  refused : Refusal → Parsed A

-- a function of the parser that reads a node
abbrev pub Reads : Type 0
Reads = Parser → Parsed Node

-- the Rust's `?`
infixl 10 ◌>>=◌
unfoldable pub ◌>>=◌ : {A B : Type 0} → Parsed A → (A × Parser → Parsed B) → Parsed B
made a p >>= k = k (a, p)
refused r >>= k = refused r

-- a node with the state after it, where k nodes are built on the way: each takes a record
unfoldable pub build : ℕ → Node → Reads
build k n p = made n (record { cur = p.cur; peek = p.peek; made = p.made + k })

-- ---- parse_group

-- a row, unless it has exactly one node
unfoldable pub grouped : Nodes → Reads
grouped empty p = build 1 (row empty) p
grouped (n then empty) p = made n p
grouped (n then (m then ns)) p = build 1 (row (n then (m then ns))) p

-- the nodes up to the token `end`, at most k more of them
unfoldable pub group_up_to : Reads → List ℕ → Mark → ℕ → Parser → Nodes → Parsed Node
group_up_to node s end zero p ns = refused Refusal.UnexpectedToken
group_up_to node s end (suc k) p ns =
    elim (cur_is p Mark.EOF) [
      | true ↦ refused Refusal.UnexpectedToken
      | false ↦
          elim (cur_is p end) [
            | true ↦ grouped ns p
            | false ↦ do
              (n, q) ← node p
              group_up_to node s end k (next s q) (snoc ns n)
          ]
    ]

-- each node takes a byte or more, so the budget never runs out
unfoldable pub parse_group : Reads → List ℕ → Mark → Reads
parse_group node s end p = group_up_to node s end (suc (length s)) (next s p) empty

-- ---- the arms of parse_single_node

unfoldable pub parse_sqrt : Reads → List ℕ → Reads
parse_sqrt node s p =
    let begin : Parser = next s p in
    elim (cur_is begin Mark.LBracket) [
      | true ↦ do
        (degree, q) ← parse_group node s Mark.RBracket begin
        (content, r) ← node (next s q)
        build 1 (two Two.Root content degree) r
      | false ↦ do
        (content, r) ← node begin
        build 1 (one One.Sqrt content) r
    ]

-- a fraction without a line, between parentheses
unfoldable pub binomial : Node → Node → Node
binomial a b = one (One.Fenced (text "(") (text ")")) (two (Two.Frac LineThickness.Zero) a b)

-- the node of a command with two operands: of `\overset` and `\underset` the second is the target
unfoldable pub of_pair : Pair → Node → Node → Reads
of_pair Pair.Frac a b p = build 1 (two (Two.Frac LineThickness.Medium) a b) p
of_pair (Pair.Binom None) a b p = build 2 (binomial a b) p
of_pair (Pair.Binom (Some display)) a b p = build 4 (one (One.Style display) (row (binomial a b then empty))) p
of_pair Pair.Overset a b p = build 1 (two Two.Overset b a) p
of_pair Pair.Underset a b p = build 1 (two Two.Underset b a) p

unfoldable pub parse_two : Reads → List ℕ → Pair → Reads
parse_two node s kind p = do
  (a, q) ← node (next s p)
  (b, r) ← node (next s q)
  of_pair kind a b r

-- an arm with one operand, of which `kind` makes the node
unfoldable pub parse_one : Reads → List ℕ → One → Reads
parse_one node s kind p = do
  (a, q) ← node (next s p)
  build 1 (one kind a) q

-- a brace x over or under a target, with an explanation behind the mark
unfoldable pub parse_brace : Reads → List ℕ → Two → Mark → ℕ → Reads
parse_brace single s kind mark x p = do
  (target, q) ← single (next s p)
  elim (peek_is q mark) [
    | true ↦ do
      (expl, r) ← single (next s (next s q))
      build 3 (two kind target (two kind (leaf (Leaf.Operator x)) expl)) r
    | false ↦ build 2 (two kind target (leaf (Leaf.Operator x))) q
  ]

-- an operator with limits: alone, with what stands below it, with what stands above it, and with both
unfoldable pub operator : Limits → Node
operator (Limits.BigOp c) = leaf (Leaf.Operator c)
operator (Limits.Integral c) = leaf (Leaf.Operator c)

unfoldable pub with_below : Limits → Node → Reads
with_below (Limits.BigOp c) under p = build 2 (two Two.Under (leaf (Leaf.Operator c)) under) p
with_below (Limits.Integral c) sub p = build 2 (two Two.Subscript (leaf (Leaf.Operator c)) sub) p

unfoldable pub with_above : Limits → Node → Reads
with_above (Limits.BigOp c) over p = build 1 (one (One.OverOp c Accent.False) over) p
with_above (Limits.Integral c) sup p = build 2 (two Two.Superscript (leaf (Leaf.Operator c)) sup) p

unfoldable pub with_both : Limits → Node → Node → Reads
with_both (Limits.BigOp c) under over p = build 2 (three Three.UnderOver (leaf (Leaf.Operator c)) under over) p
with_both (Limits.Integral c) sub sup p = build 2 (three Three.SubSup (leaf (Leaf.Operator c)) sub sup) p

-- what stands below and above, in either order
unfoldable pub parse_limits : Reads → List ℕ → Limits → Reads
parse_limits single s kind p =
    elim (peek_is p Mark.Underscore) [
      | true ↦ do
        (under, q) ← single (next s (next s p))
        elim (peek_is q Mark.Circumflex) [
          | true ↦ do
            (over, r) ← single (next s (next s q))
            with_both kind under over r
          | false ↦ with_below kind under q
        ]
      | false ↦
          elim (peek_is p Mark.Circumflex) [
            | true ↦ do
              (over, q) ← single (next s (next s p))
              elim (peek_is q Mark.Underscore) [
                | true ↦ do
                  (under, r) ← single (next s (next s q))
                  with_both kind under over r
                | false ↦ with_above kind over q
              ]
            | false ↦ build 1 (operator kind) p
          ]
    ]

unfoldable pub parse_lim : Reads → List ℕ → ℕ → Reads
parse_lim single s t p =
    elim (peek_is p Mark.Underscore) [
      | true ↦ do
        (under, q) ← single (next s (next s p))
        build 2 (two Two.Under (leaf (Leaf.Function t)) under) q
      | false ↦ build 1 (leaf (Leaf.Function t)) p
    ]

-- the braces of a slashed node are passed unseen
unfoldable pub parse_slashed : Reads → List ℕ → Reads
parse_slashed node s p = do
  (n, q) ← node (next s (next s p))
  build 1 (one One.Slashed n) (next s q)

unfoldable pub parse_style : Reads → List ℕ → Variant → Reads
parse_style node s v p = do
  (n, q) ← node (next s p)
  made (set_variant v n) q

-- with the text of a fence
unfoldable pub with_fence : Option ℕ → (ℕ → Parsed Node) → Parsed Node
with_fence None k = refused Refusal.MissingParensethis
with_fence (Some t) k = k t

-- a node between fences, of which the second is the current token
unfoldable pub fenced : ℕ → Node → Reads
fenced first content p = with_fence (fence_of p.cur.token) (λ close. build 1 (one (One.Fenced first close) content) p)

unfoldable pub parse_left : Reads → List ℕ → Reads
parse_left node s p =
    let begin : Parser = next s p in
    with_fence (fence_of begin.cur.token) (λ first. do
      (content, q) ← parse_group node s Mark.Right begin
      fenced first content (next s q))

-- what `\middle` makes of its operand
unfoldable pub stretch_leaf : Leaf → Option Stretched
stretch_leaf (Leaf.Number a e) = None
stretch_leaf (Leaf.Letter c v) = None
stretch_leaf (Leaf.Operator c) = Some (Stretched.Character c)
stretch_leaf (Leaf.Function t) = None
stretch_leaf (Leaf.FunctionName a e) = None
stretch_leaf (Leaf.Space w) = None
stretch_leaf (Leaf.StrechedOp o) = None
stretch_leaf (Leaf.OtherOperator t) = Some (Stretched.Fixed t)
stretch_leaf (Leaf.SizedParen z t) = None
stretch_leaf (Leaf.Text a e) = None
stretch_leaf Leaf.Ampersand = None
stretch_leaf Leaf.NewLine = None
stretch_leaf (Leaf.Undefined u) = None

unfoldable pub stretch : Node → Option Stretched
stretch (leaf l) = stretch_leaf l
stretch (one k a) = None
stretch (two k a b) = None
stretch (three k a b c) = None
stretch (row ns) = None
stretch (matrix align ns) = None

unfoldable pub stretched : Option Stretched → Reads
stretched None p = refused Refusal.MiddleOperand
stretched (Some o) p = build 1 (leaf (Leaf.StrechedOp o)) p

unfoldable pub parse_middle : Reads → List ℕ → Reads
parse_middle single s p = do
  (n, q) ← single (next s p)
  stretched (stretch n) q

unfoldable pub sized : ℕ → Option ℕ → Reads
sized size None p = refused Refusal.UnexpectedToken
sized size (Some paren) p = build 1 (leaf (Leaf.SizedParen size paren)) p

unfoldable pub parse_big : List ℕ → ℕ → Reads
parse_big s size p =
    let after : Parser = next s p in
    sized size (paren_of after.cur.token) after

-- a row opened for its nodes, or the one node
unfoldable pub opened : Node → Nodes
opened (leaf l) = leaf l then empty
opened (one k a) = one k a then empty
opened (two k a b) = two k a b then empty
opened (three k a b c) = three k a b c then empty
opened (row ns) = ns
opened (matrix align ns) = matrix align ns then empty

unfoldable pub in_environment : Option Environment → Nodes → Reads
in_environment None ns p = refused Refusal.UnknownEnvironment
in_environment (Some (Environment.Bare align)) ns p = build 1 (matrix align ns) p
in_environment (Some (Environment.Between t u)) ns p = build 2 (one (One.Fenced t u) (matrix ColumnAlign.Center ns)) p

-- the environment is looked up after its content is read, and the name behind `\end` is passed unseen
unfoldable pub parse_begin : Reads → List ℕ → Reads
parse_begin node s p =
    let name : TextRead = parse_text s (next s p) in
    do
      (content, q) ← parse_group node s Mark.End name.after
      in_environment (environment (part name.a name.e s)) (opened content) (parse_text s (next s q)).after

-- a leaf whose text is read by parse_text
unfoldable pub parse_text_leaf : List ℕ → (ℕ → ℕ → Leaf) → Reads
parse_text_leaf s kind p =
    let read : TextRead = parse_text s (next s p) in
    build 1 (leaf (kind read.a read.e)) read.after

-- the current token by itself
abbrev pub leaf_node : Leaf → Reads
leaf_node l p = build 1 (leaf l) p

-- ---- parse_single_node without the prime behind it

unfoldable pub parse_bare : Reads → Reads → List ℕ → Token → Reads
parse_bare node single s (Token.Number a e) p = leaf_node (Leaf.Number a e) p
parse_bare node single s (Token.Letter c v) p = leaf_node (Leaf.Letter c v) p
parse_bare node single s (Token.Operator c) p = leaf_node (Leaf.Operator c) p
parse_bare node single s (Token.Function t) p = leaf_node (Leaf.Function t) p
parse_bare node single s (Token.Space w) p = leaf_node (Leaf.Space w) p
parse_bare node single s Token.Sqrt p = parse_sqrt node s p
parse_bare node single s Token.Frac p = parse_two node s Pair.Frac p
parse_bare node single s (Token.Binom display) p = parse_two node s (Pair.Binom display) p
parse_bare node single s (Token.Over c acc) p = parse_one node s (One.OverOp c acc) p
parse_bare node single s (Token.Under c acc) p = parse_one node s (One.UnderOp c acc) p
parse_bare node single s Token.Overset p = parse_two node s Pair.Overset p
parse_bare node single s Token.Underset p = parse_two node s Pair.Underset p
parse_bare node single s (Token.Overbrace x) p = parse_brace single s Two.Overset Mark.Circumflex x p
parse_bare node single s (Token.Underbrace x) p = parse_brace single s Two.Underset Mark.Underscore x p
parse_bare node single s (Token.BigOp c) p = parse_limits single s (Limits.BigOp c) p
parse_bare node single s (Token.Lim t) p = parse_lim single s t p
parse_bare node single s Token.Slashed p = parse_slashed node s p
parse_bare node single s (Token.Style v) p = parse_style node s v p
parse_bare node single s (Token.Integral c) p = parse_limits single s (Limits.Integral c) p
parse_bare node single s Token.LBrace p = parse_group node s Mark.RBrace p
parse_bare node single s (Token.Paren t) p = leaf_node (Leaf.OtherOperator t) p
parse_bare node single s Token.Left p = parse_left node s p
parse_bare node single s Token.Middle p = parse_middle single s p
parse_bare node single s (Token.Big size) p = parse_big s size p
parse_bare node single s Token.Begin p = parse_begin node s p
parse_bare node single s Token.OperatorName p = parse_text_leaf s Leaf.FunctionName p
parse_bare node single s Token.Text p = parse_text_leaf s Leaf.Text p
parse_bare node single s Token.Ampersand p = leaf_node Leaf.Ampersand p
parse_bare node single s Token.NewLine p = leaf_node Leaf.NewLine p
parse_bare node single s Token.EOF p = leaf_node (Leaf.Undefined Undefined.EOF) p
parse_bare node single s Token.End p = leaf_node (Leaf.Undefined Undefined.End) p
parse_bare node single s Token.Right p = leaf_node (Leaf.Undefined Undefined.Right) p
parse_bare node single s Token.RBrace p = leaf_node (Leaf.Undefined Undefined.RBrace) p
parse_bare node single s Token.Underscore p = leaf_node (Leaf.Undefined Undefined.Underscore) p
parse_bare node single s Token.Circumflex p = leaf_node (Leaf.Undefined Undefined.Circumflex) p
parse_bare node single s (Token.Command a e) p = leaf_node (Leaf.Undefined (Undefined.Command a e)) p

-- ---- parse_single_node and parse_node over the level below

-- a node with the prime behind it
unfoldable pub primed : List ℕ → Node → Reads
primed s n p =
    elim (peek_is p Mark.Prime) [
      | true ↦ build 2 (two Two.Superscript n (leaf (Leaf.Operator (code "′")))) (next s p)
      | false ↦ made n p
    ]

unfoldable pub single_step : Reads → Reads → List ℕ → Reads
single_step node single s p = do
  (n, q) ← parse_bare node single s p.cur.token p
  primed s n q

-- a base with both scripts, of which the first is the one above or the one below
unfoldable pub sub_sup : Side → Node → Node → Node → Node
sub_sup Side.Under base sub sup = three Three.SubSup base sub sup
sub_sup Side.Over base sup sub = three Three.SubSup base sub sup

-- a base that has both scripts: any mark behind them is a repeated one
unfoldable pub both_scripts : Option Side → Node → Reads
both_scripts None n p = build 1 n p
both_scripts (Some again) n p = refused Refusal.RepeatedMark

-- a base that has one script, above or below: the same mark behind it is a repeated one, the other begins the second script
unfoldable pub parse_second : Reads → List ℕ → Side → Option Side → Node → Node → Reads
parse_second single s side None base first p = build 1 (two (script_kind side) base first) p
parse_second single s side (Some again) base first p =
    elim (repeats side again) [
      | true ↦ refused Refusal.RepeatedMark
      | false ↦ do
        (second, q) ← single (next s (next s p))
        both_scripts (script_of q.peek.token) (sub_sup side base first second) q
    ]

-- a base with the scripts behind it, of which each operand is one single node
unfoldable pub parse_scripts : Reads → List ℕ → Option Side → Node → Reads
parse_scripts single s None base p = made base p
parse_scripts single s (Some side) base p = do
  (first, q) ← single (next s (next s p))
  parse_second single s side (script_of q.peek.token) base first q

unfoldable pub node_step : Reads → List ℕ → Reads
node_step single s p = do
  (base, q) ← single p
  parse_scripts single s (script_of q.peek.token) base q

-- with no depth left a call is refused, else it has one level less for its own calls
unfoldable mutual
  pub parse_node : ℕ → List ℕ → Reads
  parse_node zero s p = refused Refusal.TooDeep
  parse_node (suc d) s p = node_step (λ q. parse_single_node d s q) s p

  pub parse_single_node : ℕ → List ℕ → Reads
  parse_single_node zero s p = refused Refusal.TooDeep
  parse_single_node (suc d) s p = single_step (λ q. parse_node d s q) (λ q. parse_single_node d s q) s p

-- ---- parse

-- the nodes up to the end, at most k more of them
unfoldable pub nodes_up_to : Reads → List ℕ → ℕ → Parser → Nodes → Parsed Nodes
nodes_up_to node s zero p ns = refused Refusal.UnexpectedToken
nodes_up_to node s (suc k) p ns =
    elim (cur_is p Mark.EOF) [
      | true ↦ made ns p
      | false ↦ do
        (n, q) ← node p
        nodes_up_to node s k (next s q) (snoc ns n)
    ]

-- the nodes of the body s, with `depth` calls open together at most; the budget is as a group's
unfoldable pub parse : ℕ → List ℕ → Parsed Nodes
parse depth s = nodes_up_to (λ p. parse_node depth s p) s (suc (length s)) (new s) empty
