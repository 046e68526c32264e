-- What holds of the parser's state all along, and what a node that is read costs.
-- Assumes nothing.
use Rattle.std.specs.Prelude.{ℕ, ◌+◌, ◌-◌, ◌*◌, ◌≤◌, ◌≡◌, List, length}
use Rattle.token.specs.declared.Token.{Token}
use Rattle.token.specs.declared.Token.TheVariants.{EOF, Begin, End, Ampersand, NewLine, Left, Right, Middle, Paren, LBrace, RBrace, Frac, Underscore, Circumflex, Binom, Overset, Underset, Overbrace, Underbrace, Sqrt, Integral, Lim, Space, Style, Big, Over, Under, Operator, BigOp, Letter, Number, Function, OperatorName, Slashed, Text, Command}
use Rattle.lexer.specs.declared.Lexeme.{Lexeme}
use Rattle.ast.specs.Tree.{Node, size}
use Rattle.ast.specs.Inside.{TreeInside}
use Rattle.parser.specs.declared.Parser.{Parser}
use Rattle.parser.specs.Parse.{Reads, made}

-- how many bytes a token takes at least: none at the end, one for a character, more for a command
unfoldable pub least : Token → ℕ
least EOF = 0
least Begin = 3
least End = 1
least Ampersand = 1
least NewLine = 1
least Left = 3
least Right = 1
least Middle = 3
least (Paren t) = 1
least LBrace = 1
least RBrace = 1
least Frac = 3
least Underscore = 1
least Circumflex = 1
least (Binom b) = 3
least Overset = 3
least Underset = 3
least (Overbrace c) = 3
least (Underbrace c) = 3
least Sqrt = 3
least (Integral c) = 3
least (Lim t) = 3
least (Space w) = 1
least (Style v) = 3
least (Big t) = 3
least (Over c a) = 3
least (Under c a) = 3
least (Operator c) = 1
least (BigOp c) = 3
least (Letter c v) = 1
least (Number a e) = 1
least (Function t) = 1
least OperatorName = 3
least Slashed = 3
least Text = 3
least (Command a e) = 1

-- the places that a token carries lie in a body of n bytes
abbrev pub TokenInside : ℕ → Token → Type 0
TokenInside n EOF = Unit {0}
TokenInside n Begin = Unit {0}
TokenInside n End = Unit {0}
TokenInside n Ampersand = Unit {0}
TokenInside n NewLine = Unit {0}
TokenInside n Left = Unit {0}
TokenInside n Right = Unit {0}
TokenInside n Middle = Unit {0}
TokenInside n (Paren t) = Unit {0}
TokenInside n LBrace = Unit {0}
TokenInside n RBrace = Unit {0}
TokenInside n Frac = Unit {0}
TokenInside n Underscore = Unit {0}
TokenInside n Circumflex = Unit {0}
TokenInside n (Binom b) = Unit {0}
TokenInside n Overset = Unit {0}
TokenInside n Underset = Unit {0}
TokenInside n (Overbrace c) = Unit {0}
TokenInside n (Underbrace c) = Unit {0}
TokenInside n Sqrt = Unit {0}
TokenInside n (Integral c) = Unit {0}
TokenInside n (Lim t) = Unit {0}
TokenInside n (Space w) = Unit {0}
TokenInside n (Style v) = Unit {0}
TokenInside n (Big t) = Unit {0}
TokenInside n (Over c a) = Unit {0}
TokenInside n (Under c a) = Unit {0}
TokenInside n (Operator c) = Unit {0}
TokenInside n (BigOp c) = Unit {0}
TokenInside n (Letter c v) = Unit {0}
TokenInside n (Number a e) = (a ≤ e) × (e ≤ n)
TokenInside n (Function t) = Unit {0}
TokenInside n OperatorName = Unit {0}
TokenInside n Slashed = Unit {0}
TokenInside n Text = Unit {0}
TokenInside n (Command a e) = (a ≤ e) × (e ≤ n)

-- a token that is read from `at` on lies in the body, and is as wide as it must be
pub record Lies (s : List ℕ) (at : ℕ) (l : Lexeme) : Type 0 where
  pub from : at ≤ l.start
  pub wide : l.start + least l.token ≤ l.end
  pub inside : l.end ≤ length s
  pub places : TokenInside (length s) l.token

-- the two tokens of a state lie in the body, one behind the other
pub record Sound (s : List ℕ) (p : Parser) : Type 0 where
  pub cur : Lies s 0 p.cur
  pub peek : Lies s p.cur.end p.peek

-- one record more than its bytes pay for is made of the end of the body
unfoldable pub idle : Lexeme → ℕ
idle l = 1 - (l.end - l.start)

-- what holds where the node n is read from the state p and leaves the state q: two records for each byte pay for its records
pub record Kept (s : List ℕ) (p : Parser) (n : Node) (q : Parser) : Type 0 where
  pub sound : Sound s q
  pub on : p.cur.end ≤ q.cur.end
  pub spent : q.made + 2 * p.cur.start ≤ p.made + 2 * q.cur.end + idle p.cur
  pub size : p.made + size n ≤ q.made
  pub inside : TreeInside (length s) n

-- a function that reads nodes keeps all that
abbrev pub Keeps : List ℕ → Reads → Type 0
Keeps s reads = (p : Parser) (n : Node) (q : Parser) → Sound s p → reads p ≡ made n q → Kept s p n q
