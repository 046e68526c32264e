-- What the parser asks of a token: each question is answered here for every token, once.
-- Assumes nothing.
use Rattle.std.specs.Prelude.{ℕ, Bool, true, false, ◌==◌, Option, Some, None}
use mathlib.Core.Option as maybe
use mathlib.Core.Option.{none, some}
use Prim.Native.Char.{code}
use Rattle.token.specs.declared.Token.{Token}
use Rattle.token.specs.declared.Token.TheVariants.{EOF, Begin, End, Ampersand, NewLine, Left, Right, Middle, Paren, LBrace, RBrace, Frac, Underscore, Circumflex, Binom, Overset, Underset, Overbrace, Underbrace, Sqrt, Integral, Lim, Space, Style, Big, Over, Under, Operator, BigOp, Letter, Number, Function, OperatorName, Slashed, Text, Command}
use Rattle.token.specs.declared.Mark.{Mark}
use Rattle.token.specs.Texts.{text}

-- a number for each mark, by which two are compared
unfoldable pub mark_number : Mark → ℕ
mark_number Mark.EOF = 0
mark_number Mark.LBracket = 1
mark_number Mark.RBracket = 2
mark_number Mark.RBrace = 3
mark_number Mark.Right = 4
mark_number Mark.End = 5
mark_number Mark.Underscore = 6
mark_number Mark.Circumflex = 7
mark_number Mark.Prime = 8
mark_number Mark.Period = 9
mark_number Mark.Other = 10

-- a parenthesis by its text
unfoldable pub paren_mark : ℕ → Mark
paren_mark t =
    elim (t == (text "[")) [ true ↦ Mark.LBracket | false ↦ elim (t == (text "]")) [ true ↦ Mark.RBracket | false ↦ Mark.Other ] ]

-- an operator by its character
unfoldable pub operator_mark : ℕ → Mark
operator_mark c = elim (c == (code "'")) [ true ↦ Mark.Prime | false ↦ elim (c == (code ".")) [ true ↦ Mark.Period | false ↦ Mark.Other ] ]

unfoldable pub mark_of : Token → Mark
mark_of EOF = Mark.EOF
mark_of Begin = Mark.Other
mark_of End = Mark.End
mark_of Ampersand = Mark.Other
mark_of NewLine = Mark.Other
mark_of Left = Mark.Other
mark_of Right = Mark.Right
mark_of Middle = Mark.Other
mark_of (Paren t) = paren_mark t
mark_of LBrace = Mark.Other
mark_of RBrace = Mark.RBrace
mark_of Frac = Mark.Other
mark_of Underscore = Mark.Underscore
mark_of Circumflex = Mark.Circumflex
mark_of (Binom b) = Mark.Other
mark_of Overset = Mark.Other
mark_of Underset = Mark.Other
mark_of (Overbrace c) = Mark.Other
mark_of (Underbrace c) = Mark.Other
mark_of Sqrt = Mark.Other
mark_of (Integral c) = Mark.Other
mark_of (Lim t) = Mark.Other
mark_of (Space w) = Mark.Other
mark_of (Style v) = Mark.Other
mark_of (Big t) = Mark.Other
mark_of (Over c a) = Mark.Other
mark_of (Under c a) = Mark.Other
mark_of (Operator c) = operator_mark c
mark_of (BigOp c) = Mark.Other
mark_of (Letter c v) = Mark.Other
mark_of (Number a e) = Mark.Other
mark_of (Function t) = Mark.Other
mark_of OperatorName = Mark.Other
mark_of Slashed = Mark.Other
mark_of Text = Mark.Other
mark_of (Command a e) = Mark.Other

-- the Rust's `==` of a token with one that it names
unfoldable pub token_is : Token → Mark → Bool
token_is t m = mark_number (mark_of t) == mark_number m

-- the text of a parenthesis
unfoldable pub paren_of : Token → Option ℕ
paren_of EOF = None
paren_of Begin = None
paren_of End = None
paren_of Ampersand = None
paren_of NewLine = None
paren_of Left = None
paren_of Right = None
paren_of Middle = None
paren_of (Paren t) = Some t
paren_of LBrace = None
paren_of RBrace = None
paren_of Frac = None
paren_of Underscore = None
paren_of Circumflex = None
paren_of (Binom b) = None
paren_of Overset = None
paren_of Underset = None
paren_of (Overbrace c) = None
paren_of (Underbrace c) = None
paren_of Sqrt = None
paren_of (Integral c) = None
paren_of (Lim t) = None
paren_of (Space w) = None
paren_of (Style v) = None
paren_of (Big t) = None
paren_of (Over c a) = None
paren_of (Under c a) = None
paren_of (Operator c) = None
paren_of (BigOp c) = None
paren_of (Letter c v) = None
paren_of (Number a e) = None
paren_of (Function t) = None
paren_of OperatorName = None
paren_of Slashed = None
paren_of Text = None
paren_of (Command a e) = None

-- the character of a letter
unfoldable pub letter_of : Token → maybe.Option ℕ
letter_of EOF = none
letter_of Begin = none
letter_of End = none
letter_of Ampersand = none
letter_of NewLine = none
letter_of Left = none
letter_of Right = none
letter_of Middle = none
letter_of (Paren t) = none
letter_of LBrace = none
letter_of RBrace = none
letter_of Frac = none
letter_of Underscore = none
letter_of Circumflex = none
letter_of (Binom b) = none
letter_of Overset = none
letter_of Underset = none
letter_of (Overbrace c) = none
letter_of (Underbrace c) = none
letter_of Sqrt = none
letter_of (Integral c) = none
letter_of (Lim t) = none
letter_of (Space w) = none
letter_of (Style v) = none
letter_of (Big t) = none
letter_of (Over c a) = none
letter_of (Under c a) = none
letter_of (Operator c) = none
letter_of (BigOp c) = none
letter_of (Letter c v) = some c
letter_of (Number a e) = none
letter_of (Function t) = none
letter_of OperatorName = none
letter_of Slashed = none
letter_of Text = none
letter_of (Command a e) = none

-- the text of a fence: a parenthesis, or none for a period
unfoldable pub fence_of : Token → Option ℕ
fence_of t =
    elim (paren_of t) [ Some n ↦ Some n | None ↦ elim (token_is t Mark.Period) [ true ↦ Some (text "") | false ↦ None ] ]
