-- `Token::from_command`, with the one command that the dialects print as different characters, and `Token::acts_on_a_digit`.
-- Assumes nothing.
use Rattle.std.specs.Prelude.{ℕ, Bool, true, false, List, ◌∷◌, ◌==◌}
use Prim.Native.Char.{code}
use Rattle.text.specs.declared.Dialect.{Dialect}
use Rattle.token.specs.declared.Token.{Token}
use Rattle.token.specs.declared.Token.TheVariants.{EOF, Begin, End, Ampersand, NewLine, Left, Right, Middle, Paren, LBrace, RBrace, Frac, Underscore, Circumflex, Binom, Overset, Underset, Overbrace, Underbrace, Sqrt, Integral, Lim, Space, Style, Big, Over, Under, Operator, BigOp, Letter, Number, Function, OperatorName, Slashed, Text, Command}
use Rattle.token.specs.Spell.{Arm, ◌=>◌, first}
use Rattle.token.specs.Arms.{arms}

-- before the Rust's arms stands one of our own: `\ni` is the character that the strict dialect prints for it, and that no other arm has
unfoldable pub own_arms : List (Arm Token)
own_arms = "ni" => Operator (code "∋") ∷ arms

-- the token of a command's name: that of the first arm that has the name, and `other` where none has
unfoldable pub from_command : List ℕ → Token → Token
from_command s other = first s other own_arms

-- the character of an operator as a dialect prints it: the old one prints for `\ni` what the Rust has
unfoldable pub operator_in : Dialect → ℕ → ℕ
operator_in Dialect.Old c = elim (c == (code "∋")) [ true ↦ code "∉" | false ↦ c ]
operator_in Dialect.Strict c = c

-- a token as the old dialect prints it. The law `old_agrees` says: so read, the token of a command is the one of the Rust's arms
unfoldable pub as_old : Token → Token
as_old EOF = EOF
as_old Begin = Begin
as_old End = End
as_old Ampersand = Ampersand
as_old NewLine = NewLine
as_old Left = Left
as_old Right = Right
as_old Middle = Middle
as_old (Paren t) = Paren t
as_old LBrace = LBrace
as_old RBrace = RBrace
as_old Frac = Frac
as_old Underscore = Underscore
as_old Circumflex = Circumflex
as_old (Binom b) = Binom b
as_old Overset = Overset
as_old Underset = Underset
as_old (Overbrace c) = Overbrace c
as_old (Underbrace c) = Underbrace c
as_old Sqrt = Sqrt
as_old (Integral c) = Integral c
as_old (Lim t) = Lim t
as_old (Space w) = Space w
as_old (Style v) = Style v
as_old (Big t) = Big t
as_old (Over c a) = Over c a
as_old (Under c a) = Under c a
as_old (Operator c) = Operator (operator_in Dialect.Old c)
as_old (BigOp c) = BigOp c
as_old (Letter c v) = Letter c v
as_old (Number a e) = Number a e
as_old (Function t) = Function t
as_old OperatorName = OperatorName
as_old Slashed = Slashed
as_old Text = Text
as_old (Command a e) = Command a e

-- a digit directly after such a token is a number of one digit
unfoldable pub acts_on_a_digit : Token → Bool
acts_on_a_digit EOF = false
acts_on_a_digit Begin = false
acts_on_a_digit End = false
acts_on_a_digit Ampersand = false
acts_on_a_digit NewLine = false
acts_on_a_digit Left = false
acts_on_a_digit Right = false
acts_on_a_digit Middle = false
acts_on_a_digit (Paren t) = false
acts_on_a_digit LBrace = false
acts_on_a_digit RBrace = false
acts_on_a_digit Frac = true
acts_on_a_digit Underscore = false
acts_on_a_digit Circumflex = false
acts_on_a_digit (Binom b) = true
acts_on_a_digit Overset = false
acts_on_a_digit Underset = false
acts_on_a_digit (Overbrace c) = false
acts_on_a_digit (Underbrace c) = false
acts_on_a_digit Sqrt = true
acts_on_a_digit (Integral c) = false
acts_on_a_digit (Lim t) = false
acts_on_a_digit (Space w) = false
acts_on_a_digit (Style v) = true
acts_on_a_digit (Big t) = false
acts_on_a_digit (Over c a) = false
acts_on_a_digit (Under c a) = false
acts_on_a_digit (Operator c) = false
acts_on_a_digit (BigOp c) = false
acts_on_a_digit (Letter c v) = false
acts_on_a_digit (Number a e) = false
acts_on_a_digit (Function t) = false
acts_on_a_digit OperatorName = false
acts_on_a_digit Slashed = false
acts_on_a_digit Text = false
acts_on_a_digit (Command a e) = false
