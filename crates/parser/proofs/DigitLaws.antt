-- A number begins at a place where a digit stands there, and only then: the lexer makes no other token a number.
-- Assumes nothing.
use mathlib.Core.Path.{◌≡◌, refl, sym, ap, ◌∙◌}
use mathlib.Core.Bool.{Bool, true, false, not, false≢true, and-eq-true_iff}
use mathlib.Core.List.{List, [], ◌∷◌}
use Prim.Native.Nat.{ℕ, ◌+◌, ◌≤◌}
use native.Mathlib.Nat.{add-zero}
use native.Mathlib.Numerals.{add-one}
use native.Mathlib.Omega.{arith}
use denote.Enum.Declared.{tag_of}
use lib.Dec.{eqb, leb}
use lib.ListN.{drop}
use borrow.Author.Tests.{leb-true, ne_eqb}
use types.Run.{OneOf}
use Rattle.text.specs.Utf8.{code_point}
use Rattle.text.proofs.Cases.{by_test, by_order}
use Rattle.text.proofs.Keys.{at_key}
use Rattle.text.proofs.Utf8Laws.{every, ascii_point, high_point}
use Rattle.token.specs.declared.Token.{Token}
use Rattle.token.specs.declared.Token.TheVariants.{Number, Command}
use Rattle.token.specs.Spell.{Arm, spells, first}
use Rattle.token.specs.Arms.{arms}
use Rattle.token.specs.Command.{own_arms, from_command, acts_on_a_digit}
use Rattle.token.specs.contracts.Token.{the_type}
use Rattle.lexer.specs.declared.Lexeme.{Lexeme}
use Rattle.lexer.specs.Lex.{is_whitespace, is_digit, run, skip_whitespace, read_number, lexeme, read_command, number_at, punctuation, letter, of_character, assigns, token_at, next_token}
use Rattle.lexer.proofs.TokenLaws.{token_number}
use Rattle.lexer.proofs.NextLaws.{next_read}
use Rattle.parser.specs.State.{starts_with_digit, following}

-- ---- tokens that are no numbers, by a test of the arms and one of the punctuation

-- by the place among the enum's variants
abbrev other : Token → Bool
other t = not (eqb (tag_of the_type t) 30)

no_number : {t : Token} {a e : ℕ} → other t ≡ true → t ≡ Number a e → ⊥
no_number h is = false≢true (ap other (sym is) ∙ h)

-- .. of which an arm for all others tells that it is none
abbrev others : List ℕ
others = 0 ∷ 1 ∷ 2 ∷ 3 ∷ 4 ∷ 5 ∷ 6 ∷ 7 ∷ 8 ∷ 9 ∷ 10 ∷ 11 ∷ 12 ∷ 13 ∷ 14 ∷ 15 ∷ 16 ∷ 17 ∷ 18 ∷ 19 ∷ 20 ∷ 21 ∷ 22 ∷ 23 ∷ 24 ∷ 25 ∷ 26 ∷ 27 ∷ 28 ∷ 29 ∷ 31 ∷ 32 ∷ 33 ∷ 34 ∷ 35 ∷ []

pub among_others : {t : Token} {a e : ℕ} → OneOf others (tag_of the_type t) → t ≡ Number a e → ⊥
among_others {t} h is = no_number (at_key (λ n. not (eqb n 30)) true others (tag_of the_type t) refl h) is

first_other : (s : List ℕ) (t : Token) → other t ≡ true → (xs : List (Arm Token)) → every (λ arm. other arm.gives) xs ≡ true → other (first s t xs) ≡ true
first_other s t h [] all = h
first_other s t h (arm ∷ rest) all =
    let k = (and-eq-true_iff (other arm.gives) (every (λ arm. other arm.gives) rest)).0 all in
    by_test (spells s arm.name) (λ q. rw (q, first) k.0) (λ q. rw (q, first) (first_other s t h rest k.1))

command_other : (s : List ℕ) (a e : ℕ) → other (from_command s (Command a e)) ≡ true
unfolding from_command own_arms arms
command_other s a e = first_other s (Command a e) refl own_arms refl

of_other : (qs : List (ℕ × Token)) (c : ℕ) → every (λ q. other q.1) qs ≡ true → other (of_character qs c) ≡ true
unfolding of_character letter
of_other [] c all = refl
of_other (q ∷ qs) c all =
    let k = (and-eq-true_iff (other q.1) (every (λ q. other q.1) qs)).0 all in
    by_test (eqb c q.0) (λ e. rw (of_character, e) k.0) (λ e. rw (of_character, e) (of_other qs c k.1))

character_other : (c : ℕ) → other (of_character punctuation c) ≡ true
unfolding punctuation
character_other c = of_other punctuation c refl

-- ---- a digit is its own byte, and no whitespace

module _ (c : ℕ) (digit : is_digit c ≡ true) where
  bounds : (48 ≤ c) × (c ≤ 57)
  bounds = let k = (and-eq-true_iff (leb 48 c) (leb c 57)).0 digit in (leb-true 48 c k.0, leb-true c 57 k.1)

  no_whitespace : is_whitespace c ≡ false
  no_whitespace =
      let low = bounds.0 in
      simp (ne_eqb c 32 (λ e. omega arith), ne_eqb c 9 (λ e. omega arith), ne_eqb c 10 (λ e. omega arith), ne_eqb c 13 (λ e. omega arith))

pub digit_head : (l : List ℕ) → is_digit (code_point l).code ≡ true → starts_with_digit l ≡ true
unfolding starts_with_digit code_point
digit_head [] digit = digit
digit_head (b ∷ l) digit =
    by_order b 128 (λ h. rw (ascii_point b l h) at digit)
    (λ h.
    let high = high_point b l h in
    let low = (bounds (code_point (b ∷ l)).code digit).1 in
    absurd (omega arith))

-- ---- the next token is a number that begins at the place, where a digit stands there

digit_number : (at : ℕ) (l : List ℕ) → starts_with_digit l ≡ true → next_token at l ≡ number_at at l
unfolding starts_with_digit next_token run
digit_number at [] h = absurd (false≢true h)
digit_number at (b ∷ l) h =
    let low = (bounds b h).1 in
    rw (no_whitespace b h, run, add-zero) (token_number at (b ∷ l) (code_point (b ∷ l)) refl (rw (ascii_point b l (omega arith)) h))

-- ---- .. and only then

token_digit : (at : ℕ) (l : List ℕ) {a e : ℕ} → (token_at at l).token ≡ Number a e → (a ≡ at) × (is_digit (code_point l).code ≡ true)
unfolding token_at read_command number_at
token_digit at l is =
    let c = (code_point l).code in
    by_test (assigns l) (λ x. absurd (no_number refl (rw (token_at, x) at is)))
    (λ x.
    by_test (eqb c 92) (λ b. absurd (no_number (command_other _ _ _) (rw (token_at, x, b) at is)))
    (λ b.
    by_test (is_digit c)
    (λ d. let number = rw (token_at, x, b, d) at is in ((cc), d))
    (λ d. absurd (no_number (character_other c) (rw (token_at, x, b, d) at is)))))

next_digit : (s : List ℕ) (at : ℕ) {a e : ℕ} → (next_token at (drop at s)).token ≡ Number a e → is_digit (code_point (drop a s)).code ≡ true
next_digit s at is =
    let here = at + skip_whitespace (drop at s) in
    let n = token_digit here (drop here s) (rw (← next_read s at here refl) at is) in
    rw n.0 n.1

-- The token behind t, which acts on a digit, where x is the next token.
module _ (s : List ℕ) (at : ℕ) (x : Lexeme) (is : x ≡ next_token at (drop at s)) where
  module _ (t : Token) (acts : acts_on_a_digit t ≡ true) where
    -- of a number that begins at the place the first digit is taken
    pub digit_taken : {a e : ℕ} → x.token ≡ Number a e → a ≡ at → lexeme (Number a (a + 1)) a (a + 1) ≡ following t at (drop at s)
    unfolding following
    digit_taken {a} number here =
        let digit = digit_head (drop at s) (rw here at (next_digit s at (rw is at number))) in
        rw (here, following, acts, digit, add-one)

    -- any other token is left as it is
    pub token_left : (x.token ≡ Number at (at + read_number false (drop at s)) → ⊥) → x ≡ following t at (drop at s)
    unfolding following number_at
    token_left else =
        by_test (starts_with_digit (drop at s))
        (λ digit. absurd (else (ap (λ l. l.token) (is ∙ digit_number at (drop at s) digit))))
        (λ none. rw (following, acts, none) is)

    -- .. as a number that begins elsewhere
    pub number_left : {a e : ℕ} → x.token ≡ Number a e → (a ≡ at → ⊥) → x ≡ following t at (drop at s)
    number_left number elsewhere = token_left (λ here. elsewhere (cc))
