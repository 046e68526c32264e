-- Tokens that are a leaf by themselves.
-- Assumes nothing.
use mathlib.Core.Path.{◌≡◌, refl, sym, ◌∙◌, ap}
use mathlib.Core.Bool.{Bool, true, false, not, ◌&&◌, ◌||◌, false≢true}
use mathlib.Core.List.{List, [], ◌∷◌}
use Rattle.std.specs.Prelude.{Some, None}
use Prim.Native.Nat.{ℕ, ◌+◌, ◌-◌, ◌^◌, ◌≤◌, ◌<◌}
use native.Mathlib.Omega.{arith}
use types.Run.{OneOf}
use denote.Enum.Declared.{tag_of}
use Rattle.text.proofs.Keys.{among, at_key}
use Rattle.token.specs.declared.Token.{Token}
use Rattle.token.specs.declared.Token.TheVariants.{EOF, Begin, End, Ampersand, NewLine, Left, Right, Middle, Paren, LBrace, RBrace, Frac, Underscore, Circumflex, Binom, Overset, Underset, Overbrace, Underbrace, Sqrt, Integral, Lim, Space, Style, Big, Over, Under, Operator, BigOp, Letter, Number, Function, OperatorName, Slashed, Text, Command}
use Rattle.token.specs.declared.Mark.{Mark}
use Rattle.token.specs.contracts.Token.{the_type}
use Rattle.ast.specs.Shape.{Placed}
use Rattle.ast.specs.Tree.{Node, leaf, two}
use Rattle.parser.specs.declared.Parser.{Parser}
use Rattle.parser.specs.declared.Side.{Side}
use Rattle.parser.specs.State.{next, peek_is}
use Rattle.parser.specs.Parse.{made, Reads, build, parse_bare, parse_scripts, parse_node, parse_single_node}
use Rattle.parser.specs.Sound.{TokenInside}
use Rattle.parser.specs.Marks.{script_of, script_kind, leaf_of, is_defined, is_put_on, stands_alone}
use Rattle.parse.proofs.WayLaws.{node_more, node_is, scripts_none, scripts_is, second_none, single_more, bare_is, prime_none}

-- the places, among the enum's variants, of the tokens that have no operand
abbrev pub single_tokens : List ℕ
single_tokens = 0 ∷ 2 ∷ 3 ∷ 4 ∷ 6 ∷ 8 ∷ 10 ∷ 12 ∷ 13 ∷ 22 ∷ 27 ∷ 29 ∷ 30 ∷ 31 ∷ 35 ∷ []

-- at those places a token is its leaf, and the tokens whose leaf is defined are at them
by_place : (node single : Reads) (s : List ℕ) (t : Token) (p : Parser)
    → (elim (among single_tokens (tag_of the_type t)) [ true ↦ parse_bare node single s t p | false ↦ build 1 (leaf (leaf_of t)) p ] ≡ build 1 (leaf (leaf_of t)) p)
    × (elim (is_defined (leaf_of t)) [ true ↦ among single_tokens (tag_of the_type t) | false ↦ true ] ≡ true)
unfolding parse_bare leaf_of is_defined
by_place node single s EOF p = (refl, refl)
by_place node single s Begin p = (refl, refl)
by_place node single s End p = (refl, refl)
by_place node single s Ampersand p = (refl, refl)
by_place node single s NewLine p = (refl, refl)
by_place node single s Left p = (refl, refl)
by_place node single s Right p = (refl, refl)
by_place node single s Middle p = (refl, refl)
by_place node single s (Paren t) p = (refl, refl)
by_place node single s LBrace p = (refl, refl)
by_place node single s RBrace p = (refl, refl)
by_place node single s Frac p = (refl, refl)
by_place node single s Underscore p = (refl, refl)
by_place node single s Circumflex p = (refl, refl)
by_place node single s (Binom b) p = (refl, refl)
by_place node single s Overset p = (refl, refl)
by_place node single s Underset p = (refl, refl)
by_place node single s (Overbrace c) p = (refl, refl)
by_place node single s (Underbrace c) p = (refl, refl)
by_place node single s Sqrt p = (refl, refl)
by_place node single s (Integral c) p = (refl, refl)
by_place node single s (Lim t) p = (refl, refl)
by_place node single s (Space w) p = (refl, refl)
by_place node single s (Style v) p = (refl, refl)
by_place node single s (Big t) p = (refl, refl)
by_place node single s (Over c a) p = (refl, refl)
by_place node single s (Under c a) p = (refl, refl)
by_place node single s (Operator c) p = (refl, refl)
by_place node single s (BigOp c) p = (refl, refl)
by_place node single s (Letter c v) p = (refl, refl)
by_place node single s (Number a e) p = (refl, refl)
by_place node single s (Function t) p = (refl, refl)
by_place node single s OperatorName p = (refl, refl)
by_place node single s Slashed p = (refl, refl)
by_place node single s Text p = (refl, refl)
by_place node single s (Command a e) p = (refl, refl)

-- a token at one of them is its leaf
pub bare_leaf : (node single : Reads) (s : List ℕ) (t : Token) (p : Parser) → OneOf single_tokens (tag_of the_type t) → parse_bare node single s t p ≡ build 1 (leaf (leaf_of t)) p
bare_leaf node single s t p h =
    rw (at_key (among single_tokens) true single_tokens (tag_of the_type t) refl h) at (by_place node single s t p).0

-- a token whose leaf is defined is that leaf
bare_defined : (node single : Reads) (s : List ℕ) (t : Token) (p : Parser) → is_defined (leaf_of t) ≡ true → parse_bare node single s t p ≡ build 1 (leaf (leaf_of t)) p
bare_defined node single s t p h =
    let l = by_place node single s t p in
    rw (rw h at l.1) at l.0

-- the first of two tests holds, and the second does not
first_only : (a b : Bool) → (a && not b) ≡ true → (a ≡ true) × (b ≡ false)
first_only true false e = (refl, refl)
first_only true true e = absurd (false≢true e)
first_only false b e = absurd (false≢true e)

-- no test of three holds
none_of : (a b c : Bool) → (a || b || c) ≡ false → (a ≡ false) × (b ≡ false) × (c ≡ false)
none_of false false c e = (refl, refl, e)
none_of false true c e = absurd (false≢true (sym e))
none_of true b c e = absurd (false≢true (sym e))

-- where the token behind is not put on a node, it is neither a prime nor the mark of a script
unmarked : (p : Parser) → is_put_on p.peek.token ≡ false → (peek_is p Mark.Prime ≡ false) × (peek_is p Mark.Underscore ≡ false) × (peek_is p Mark.Circumflex ≡ false)
unfolding is_put_on
unmarked p e = none_of (peek_is p Mark.Prime) (peek_is p Mark.Underscore) (peek_is p Mark.Circumflex) e

-- a token that stands alone is its leaf, as a single node and with its scripts
alone_single : (d : ℕ) (s : List ℕ) (p : Parser) → 1 ≤ d → stands_alone p.cur.token p.peek.token ≡ true → parse_single_node d s p ≡ build 1 (leaf (leaf_of p.cur.token)) p
unfolding stands_alone build
alone_single d s p le e =
    let h = first_only (is_defined (leaf_of p.cur.token)) (is_put_on p.peek.token) e in
    let m = unmarked p h.1 in
    let bare = bare_is (λ q. parse_node (d - 1) s q) (λ q. parse_single_node (d - 1) s q) s p (bare_defined _ _ s p.cur.token p h.0) in
    single_more d s p (λ z. omega arith) ∙ bare ∙ prime_none s _ _ m.0

-- .. and no mark of a script is behind it
alone_marks : (p : Parser) → stands_alone p.cur.token p.peek.token ≡ true → script_of p.peek.token ≡ None
unfolding stands_alone script_of
alone_marks p e =
    let h = first_only (is_defined (leaf_of p.cur.token)) (is_put_on p.peek.token) e in
    let m = unmarked p h.1 in
    rw (script_of, m.1, m.2)

pub alone_is : (d : ℕ) (s : List ℕ) (p : Parser) → 2 ≤ d → stands_alone p.cur.token p.peek.token ≡ true → parse_node d s p ≡ build 1 (leaf (leaf_of p.cur.token)) p
unfolding build
alone_is d s p le e =
    let all : Reads = λ q. parse_single_node (d - 1) s q in
    node_more d s p le ∙ node_is all s p (alone_single (d - 1) s p (omega arith) e) ∙ scripts_none all s _ (alone_marks p e) _

-- as the operand of a script it is the only one
pub alone_script : (d : ℕ) (s : List ℕ) (p : Parser) {b c : Parser} (side : Side) → b ≡ next s p → c ≡ next s b → script_of p.peek.token ≡ Some side → 1 ≤ d
    → stands_alone c.cur.token c.peek.token ≡ true → (n : Node)
    → parse_scripts (λ q. parse_single_node d s q) s (script_of p.peek.token) n p ≡ build 2 (two (script_kind side) n (leaf (leaf_of c.cur.token))) c
unfolding build
alone_script d s p {b} {c} side e g f le h n =
    let all : Reads = λ q. parse_single_node d s q in
    let both : c.made + 1 + 1 ≡ c.made + 2 = omega arith in
    scripts_is all s p e g side f (alone_single d s c le h) n
    ∙ second_none all s _ side (alone_marks c h) n _
    ∙ ap (λ m. made (two (script_kind side) n (leaf (leaf_of c.cur.token))) (record { cur = c.cur; peek = c.peek; made = m })) both

-- the places that such a leaf carries fit four bytes
pub leaf_placed : (n : ℕ) (t : Token) → n < 2 ^ 32 → TokenInside n t → Placed (leaf_of t)
unfolding leaf_of
leaf_placed n EOF l h = tt
leaf_placed n Begin l h = tt
leaf_placed n End l h = tt
leaf_placed n Ampersand l h = tt
leaf_placed n NewLine l h = tt
leaf_placed n Left l h = tt
leaf_placed n Right l h = tt
leaf_placed n Middle l h = tt
leaf_placed n (Paren t) l h = tt
leaf_placed n LBrace l h = tt
leaf_placed n RBrace l h = tt
leaf_placed n Frac l h = tt
leaf_placed n Underscore l h = tt
leaf_placed n Circumflex l h = tt
leaf_placed n (Binom b) l h = tt
leaf_placed n Overset l h = tt
leaf_placed n Underset l h = tt
leaf_placed n (Overbrace c) l h = tt
leaf_placed n (Underbrace c) l h = tt
leaf_placed n Sqrt l h = tt
leaf_placed n (Integral c) l h = tt
leaf_placed n (Lim t) l h = tt
leaf_placed n (Space w) l h = tt
leaf_placed n (Style v) l h = tt
leaf_placed n (Big t) l h = tt
leaf_placed n (Over c a) l h = tt
leaf_placed n (Under c a) l h = tt
leaf_placed n (Operator c) l h = tt
leaf_placed n (BigOp c) l h = tt
leaf_placed n (Letter c v) l h = tt
leaf_placed n (Number a e) l h = (omega arith, omega arith)
leaf_placed n (Function t) l h = tt
leaf_placed n OperatorName l h = tt
leaf_placed n Slashed l h = tt
leaf_placed n Text l h = tt
leaf_placed n (Command a e) l h = (omega arith, omega arith)
