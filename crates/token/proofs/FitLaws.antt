-- What is asked of a token: of the character that it carries, or of the places of its number or its name. A test that the characters of the
-- arms pass is passed by a command's token.
-- Assumes nothing.
use Rattle.std.specs.Prelude.{◌≡◌, ℕ, Bool, true, false, List, [], ◌∷◌}
use mathlib.Core.Bool.{and-eq-true_iff}
use mathlib.Core.Option.{Option, none, some}
use Prim.Native.String.{String}
use Rattle.text.proofs.Cases.{never, by_test}
use Rattle.text.proofs.Utf8Laws.{every}
use Rattle.token.specs.declared.Token.{Token}
use Rattle.token.specs.declared.Token.TheVariants.{EOF, Begin, End, Ampersand, NewLine, Left, Right, Middle, Paren, LBrace, RBrace, Frac, Underscore, Circumflex, Binom, Overset, Underset, Overbrace, Underbrace, Sqrt, Integral, Lim, Space, Style, Big, Over, Under, Operator, BigOp, Letter, Number, Function, OperatorName, Slashed, Text, Command}
use Rattle.token.specs.Spell.{Arm, spells, first}
use Rattle.token.specs.Command.{own_arms, from_command}
use Rattle.token.specs.Roles.{letter_of}

-- what is asked of a character, and of the places of a number and of an unknown command's name
pub record Asks : Type 1 where
  pub ok : ℕ → Type 0
  pub digits : ℕ → ℕ → Type 0
  pub name : ℕ → ℕ → Type 0

-- .. that the characters pass a test, and nothing of the places
abbrev pub passing : (ℕ → Bool) → Asks
passing test = record { ok = λ c. test c ≡ true; digits = λ a e. Unit {0}; name = λ a e. Unit {0} }

-- ---- tokens

-- what a token carries
pub data Carried : Type 0 where
  nothing : Carried
  character : ℕ → Carried
  number : ℕ → ℕ → Carried
  command : ℕ → ℕ → Carried

abbrev pub carried : Token → Carried
carried EOF = nothing
carried Begin = nothing
carried End = nothing
carried Ampersand = nothing
carried NewLine = nothing
carried Left = nothing
carried Right = nothing
carried Middle = nothing
carried (Paren t) = nothing
carried LBrace = nothing
carried RBrace = nothing
carried Frac = nothing
carried Underscore = nothing
carried Circumflex = nothing
carried (Binom b) = nothing
carried Overset = nothing
carried Underset = nothing
carried (Overbrace c) = character c
carried (Underbrace c) = character c
carried Sqrt = nothing
carried (Integral c) = character c
carried (Lim t) = nothing
carried (Space w) = nothing
carried (Style v) = nothing
carried (Big t) = nothing
carried (Over c a) = character c
carried (Under c a) = character c
carried (Operator c) = character c
carried (BigOp c) = character c
carried (Letter c v) = character c
carried (Number a e) = number a e
carried (Function t) = nothing
carried OperatorName = nothing
carried Slashed = nothing
carried Text = nothing
carried (Command a e) = command a e

abbrev pub CarriedFit : Asks → Carried → Type 0
CarriedFit asks nothing = Unit {0}
CarriedFit asks (character c) = asks.ok c
CarriedFit asks (number a e) = asks.digits a e
CarriedFit asks (command a e) = asks.name a e

abbrev pub TokenFit : Asks → Token → Type 0
TokenFit asks t = CarriedFit asks (carried t)

-- the character of a letter, if the token is one
abbrev pub LetterFit : Asks → Option ℕ → Type 0
LetterFit asks none = Unit {0}
LetterFit asks (some c) = asks.ok c

pub letter_fit : (asks : Asks) (t : Token) → TokenFit asks t → LetterFit asks (letter_of t)
unfolding letter_of
letter_fit asks EOF h = tt
letter_fit asks Begin h = tt
letter_fit asks End h = tt
letter_fit asks Ampersand h = tt
letter_fit asks NewLine h = tt
letter_fit asks Left h = tt
letter_fit asks Right h = tt
letter_fit asks Middle h = tt
letter_fit asks (Paren t) h = tt
letter_fit asks LBrace h = tt
letter_fit asks RBrace h = tt
letter_fit asks Frac h = tt
letter_fit asks Underscore h = tt
letter_fit asks Circumflex h = tt
letter_fit asks (Binom b) h = tt
letter_fit asks Overset h = tt
letter_fit asks Underset h = tt
letter_fit asks (Overbrace c) h = tt
letter_fit asks (Underbrace c) h = tt
letter_fit asks Sqrt h = tt
letter_fit asks (Integral c) h = tt
letter_fit asks (Lim t) h = tt
letter_fit asks (Space w) h = tt
letter_fit asks (Style v) h = tt
letter_fit asks (Big t) h = tt
letter_fit asks (Over c a) h = tt
letter_fit asks (Under c a) h = tt
letter_fit asks (Operator c) h = tt
letter_fit asks (BigOp c) h = tt
letter_fit asks (Letter c v) h = h
letter_fit asks (Number a e) h = tt
letter_fit asks (Function t) h = tt
letter_fit asks OperatorName h = tt
letter_fit asks Slashed h = tt
letter_fit asks Text h = tt
letter_fit asks (Command a e) h = tt

-- ---- tokens that pass a test: they are no number and no unknown command

abbrev pub passes : (ℕ → Bool) → Carried → Bool
passes test nothing = true
passes test (character c) = test c
passes test (number a e) = false
passes test (command a e) = false

-- an arm's token passes where its name can be spelled
abbrev pub arm_passes : (String → Bool) → (ℕ → Bool) → Arm Token → Bool
arm_passes named test arm = elim (named arm.name) [ true ↦ passes test (carried arm.gives) | false ↦ true ]

module _ (asks : Asks) (test : ℕ → Bool) (tells : (c : ℕ) → test c ≡ true → asks.ok c) where
  pub passed : (x : Carried) → passes test x ≡ true → CarriedFit asks x
  passed nothing h = tt
  passed (character c) h = tells c h
  passed (number a e) h = never cc
  passed (command a e) h = never cc

  module _ (named : String → Bool) (s : List ℕ) (spelled : (t : String) → spells s t ≡ true → named t ≡ true) (other : Token) (rest : TokenFit asks other) where
    first_fit : (xs : List (Arm Token)) → every (arm_passes named test) xs ≡ true → TokenFit asks (first s other xs)
    first_fit [] e = rest
    first_fit (arm ∷ xs) e =
        let k = (and-eq-true_iff (arm_passes named test arm) (every (arm_passes named test) xs)).0 e in
        by_test (spells s arm.name)
        (λ q. rw (q, first) (passed (carried arm.gives) (rw (spelled arm.name q, arm_passes) at k.0)))
        (λ q. rw (q, first) (first_fit xs k.1))

    pub command_fit : every (arm_passes named test) own_arms ≡ true → TokenFit asks (from_command s other)
    unfolding from_command
    command_fit all = first_fit own_arms all
