-- What a fence and a mark of a script are, and when two marks are the same.
-- Assumes nothing.
use mathlib.Core.Path.{◌≡◌, refl, sym, ◌∙◌}
use mathlib.Core.Bool.{Bool, true, false, not}
use Rattle.std.specs.Prelude.{Option, Some, None, ◌≢◌}
use Rattle.std.specs.Bool.{then_some}
use Rattle.std.specs.Option.{option_or}
use Prim.Native.Nat.{ℕ}
use Rattle.token.specs.contracts.Token.{the_type}
use Rattle.text.proofs.Keys.{among, at_key}
use types.Run.{OneOf}
use mathlib.Core.List.{List, [], ◌∷◌}
use denote.Enum.Bare.{tag_one, sameb}
use denote.Enum.Declared.{tag_of}
use borrow.Author.Tests.{eqb-true}
use Rattle.text.proofs.Cases.{never, by_test}
use Rattle.token.specs.declared.Token.{Token}
use Rattle.token.specs.declared.Token.TheVariants.{EOF, Begin, End, Ampersand, NewLine, Left, Right, Middle, Paren, LBrace, RBrace, Frac, Underscore, Circumflex, Binom, Overset, Underset, Overbrace, Underbrace, Sqrt, Integral, Lim, Space, Style, Big, Over, Under, Operator, BigOp, Letter, Number, Function, OperatorName, Slashed, Text, Command}
use Rattle.token.specs.declared.Mark.{Mark}
use Rattle.token.specs.Texts.{text, texts}
use Rattle.token.specs.Roles.{mark_number, mark_of, paren_of, token_is, fence_of}
use Rattle.token.specs.contracts.Mark as marks
use Rattle.parser.specs.declared.Side.{Side}
use Rattle.parser.specs.contracts.Side as sides
use Rattle.parser.specs.Marks.{script_of, repeats, leaf_of, is_defined, is_put_on, stands_alone}

first_fence : (o : Option ℕ) (period : Bool) → option_or o (then_some period 0) ≡ elim o [ Some n ↦ Some n | None ↦ elim period [ true ↦ Some 0 | false ↦ None ] ]
first_fence (Some n) period = refl
first_fence None true = refl
first_fence None false = refl

-- a fence is a parenthesis, or else a period
pub fence_as : (t : Token) → option_or (paren_of t) (then_some (token_is t Mark.Period) 0) ≡ fence_of t
unfolding fence_of text texts
fence_as t = first_fence (paren_of t) (token_is t Mark.Period)

-- a token is no mark of a script
pub no_script : (t : Token) → script_of t ≡ None → (token_is t Mark.Underscore ≡ false) × (token_is t Mark.Circumflex ≡ false)
unfolding script_of
no_script t e =
    by_test (token_is t Mark.Underscore)
    (λ x. let f = rw (script_of, x) at e in never cc)
    (λ x.
    by_test (token_is t Mark.Circumflex)
    (λ y. let f = rw (script_of, x, y) at e in never cc)
    (λ y. (x, y)))

-- the number of a mark is its place in the enum, so that two marks with one number are the same
pub mark_place : (m : Mark) → tag_of marks.the_type m ≡ mark_number m
unfolding mark_number
mark_place Mark.EOF = refl
mark_place Mark.LBracket = refl
mark_place Mark.RBracket = refl
mark_place Mark.RBrace = refl
mark_place Mark.Right = refl
mark_place Mark.End = refl
mark_place Mark.Underscore = refl
mark_place Mark.Circumflex = refl
mark_place Mark.Prime = refl
mark_place Mark.Period = refl
mark_place Mark.Other = refl

pub marks_same : (m n : Mark) → mark_number m ≡ mark_number n → m ≡ n
marks_same m n e = tag_one marks.the_type tt m n (mark_place m ∙ e ∙ sym (mark_place n))

-- a token has one mark
pub one_mark : (t : Token) (m n : Mark) → token_is t m ≡ true → m ≢ n → token_is t n ≡ false
unfolding token_is
one_mark t m n e other =
    by_test (token_is t n)
    (λ f. absurd (other (sym (marks_same (mark_of t) m (eqb-true _ _ e)) ∙ marks_same (mark_of t) n (eqb-true _ _ f))))
    (λ f. f)

-- a mark repeats the one before it where the code finds their sides equal
pub sides_same : (side again : Side) → sameb sides.the_type side again ≡ repeats side again
unfolding repeats
sides_same Side.Under Side.Under = refl
sides_same Side.Under Side.Over = refl
sides_same Side.Over Side.Under = refl
sides_same Side.Over Side.Over = refl

-- the places, among the enum's variants, of the tokens that are a leaf by themselves, and of the two that mostly are an operand
abbrev pub plains : List ℕ
plains = 30 ∷ 29 ∷ 27 ∷ 31 ∷ 22 ∷ 8 ∷ 3 ∷ 4 ∷ []

abbrev pub usual : List ℕ
usual = 29 ∷ 30 ∷ []

plain_by_place : (t : Token) → is_defined (leaf_of t) ≡ among plains (tag_of the_type t)
unfolding leaf_of is_defined
plain_by_place EOF = refl
plain_by_place Begin = refl
plain_by_place End = refl
plain_by_place Ampersand = refl
plain_by_place NewLine = refl
plain_by_place Left = refl
plain_by_place Right = refl
plain_by_place Middle = refl
plain_by_place (Paren x) = refl
plain_by_place LBrace = refl
plain_by_place RBrace = refl
plain_by_place Frac = refl
plain_by_place Underscore = refl
plain_by_place Circumflex = refl
plain_by_place (Binom x) = refl
plain_by_place Overset = refl
plain_by_place Underset = refl
plain_by_place (Overbrace x) = refl
plain_by_place (Underbrace x) = refl
plain_by_place Sqrt = refl
plain_by_place (Integral x) = refl
plain_by_place (Lim x) = refl
plain_by_place (Space x) = refl
plain_by_place (Style x) = refl
plain_by_place (Big x) = refl
plain_by_place (Over x y) = refl
plain_by_place (Under x y) = refl
plain_by_place (Operator x) = refl
plain_by_place (BigOp x) = refl
plain_by_place (Letter x y) = refl
plain_by_place (Number x y) = refl
plain_by_place (Function x) = refl
plain_by_place OperatorName = refl
plain_by_place Slashed = refl
plain_by_place Text = refl
plain_by_place (Command x y) = refl

-- such an operand stands alone where nothing is put on it
pub usual_alone : (t after : Token) → OneOf usual (tag_of the_type t) → not (is_put_on after) ≡ true → stands_alone t after ≡ true
unfolding stands_alone
usual_alone t after h e = rw (plain_by_place t ∙ at_key (among plains) true usual (tag_of the_type t) refl h) e
