-- What the parser's functions ask of a token, as the code answers it.
-- Assumes nothing.
use Rattle.std.specs.Prelude.{Bool, true, false, ◌&&◌, ◌||◌, not, Option, Some, None}
use Rattle.token.specs.declared.Token.{Token}
use Rattle.token.specs.declared.Token.TheVariants.{EOF, Begin, End, Ampersand, NewLine, Left, Right, Middle, Paren, LBrace, RBrace, Frac, Underscore, Circumflex, Binom, Overset, Underset, Overbrace, Underbrace, Sqrt, Integral, Lim, Space, Style, Big, Over, Under, Operator, BigOp, Letter, Number, Function, OperatorName, Slashed, Text, Command}
use Rattle.token.specs.declared.Mark.{Mark}
use Rattle.token.specs.declared.Undefined.{Undefined}
use Rattle.token.specs.Roles.{token_is}
use Rattle.ast.specs.declared.Leaf.{Leaf}
use Rattle.ast.specs.declared.Two.{Two}
use Rattle.parser.specs.declared.Side.{Side}

-- where the operand of a script stands, if the token is the mark of one
unfoldable pub script_of : Token → Option Side
script_of t =
    elim (token_is t Mark.Underscore) [
      | true ↦ Some Side.Under
      | false ↦ elim (token_is t Mark.Circumflex) [ true ↦ Some Side.Over | false ↦ None ]
    ]

abbrev pub script_kind : Side → Two
script_kind Side.Under = Two.Subscript
script_kind Side.Over = Two.Superscript

-- whether a mark is the one before it again, both by where their operands stand
unfoldable pub repeats : Side → Side → Bool
repeats Side.Under Side.Under = true
repeats Side.Under Side.Over = false
repeats Side.Over Side.Under = false
repeats Side.Over Side.Over = true

-- the mark of the other limit
abbrev pub other_limit : Side → Mark
other_limit Side.Under = Mark.Circumflex
other_limit Side.Over = Mark.Underscore

-- the leaf that a token is by itself; a token with operands is none
unfoldable pub leaf_of : Token → Leaf
leaf_of EOF = Leaf.Undefined Undefined.EOF
leaf_of Begin = Leaf.Undefined Undefined.EOF
leaf_of End = Leaf.Undefined Undefined.End
leaf_of Ampersand = Leaf.Ampersand
leaf_of NewLine = Leaf.NewLine
leaf_of Left = Leaf.Undefined Undefined.EOF
leaf_of Right = Leaf.Undefined Undefined.Right
leaf_of Middle = Leaf.Undefined Undefined.EOF
leaf_of (Paren t) = Leaf.OtherOperator t
leaf_of LBrace = Leaf.Undefined Undefined.EOF
leaf_of RBrace = Leaf.Undefined Undefined.RBrace
leaf_of Frac = Leaf.Undefined Undefined.EOF
leaf_of Underscore = Leaf.Undefined Undefined.Underscore
leaf_of Circumflex = Leaf.Undefined Undefined.Circumflex
leaf_of (Binom b) = Leaf.Undefined Undefined.EOF
leaf_of Overset = Leaf.Undefined Undefined.EOF
leaf_of Underset = Leaf.Undefined Undefined.EOF
leaf_of (Overbrace c) = Leaf.Undefined Undefined.EOF
leaf_of (Underbrace c) = Leaf.Undefined Undefined.EOF
leaf_of Sqrt = Leaf.Undefined Undefined.EOF
leaf_of (Integral c) = Leaf.Undefined Undefined.EOF
leaf_of (Lim t) = Leaf.Undefined Undefined.EOF
leaf_of (Space w) = Leaf.Space w
leaf_of (Style v) = Leaf.Undefined Undefined.EOF
leaf_of (Big t) = Leaf.Undefined Undefined.EOF
leaf_of (Over c a) = Leaf.Undefined Undefined.EOF
leaf_of (Under c a) = Leaf.Undefined Undefined.EOF
leaf_of (Operator c) = Leaf.Operator c
leaf_of (BigOp c) = Leaf.Undefined Undefined.EOF
leaf_of (Letter c v) = Leaf.Letter c v
leaf_of (Number a e) = Leaf.Number a e
leaf_of (Function t) = Leaf.Function t
leaf_of OperatorName = Leaf.Undefined Undefined.EOF
leaf_of Slashed = Leaf.Undefined Undefined.EOF
leaf_of Text = Leaf.Undefined Undefined.EOF
leaf_of (Command a e) = Leaf.Undefined (Undefined.Command a e)

-- a leaf that is not an undefined token
unfoldable pub is_defined : Leaf → Bool
is_defined (Leaf.Number a e) = true
is_defined (Leaf.Letter c v) = true
is_defined (Leaf.Operator c) = true
is_defined (Leaf.Function t) = true
is_defined (Leaf.FunctionName a e) = true
is_defined (Leaf.Space w) = true
is_defined (Leaf.StrechedOp o) = true
is_defined (Leaf.OtherOperator t) = true
is_defined (Leaf.SizedParen z t) = true
is_defined (Leaf.Text a e) = true
is_defined Leaf.Ampersand = true
is_defined Leaf.NewLine = true
is_defined (Leaf.Undefined u) = false

-- a prime or the mark of a script, which is put on the node before it
unfoldable pub is_put_on : Token → Bool
is_put_on t = token_is t Mark.Prime || token_is t Mark.Underscore || token_is t Mark.Circumflex

-- a token is a whole node where it is a leaf and the token behind is not put on it
unfoldable pub stands_alone : Token → Token → Bool
stands_alone t behind = is_defined (leaf_of t) && not (is_put_on behind)
