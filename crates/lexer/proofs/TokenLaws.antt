-- The token at the head of some bytes, by the character there.
-- Assumes nothing.
use mathlib.Core.Path.{◌≡◌, refl, sym, ◌∙◌, ap}
use mathlib.Core.Bool.{Bool, true, false}
use mathlib.Core.List.{List, [], ◌∷◌, ◌++◌}
use mathlib.Core.Logic.{◌⊎◌, inl, inr}
use Prim.Native.Nat.{ℕ, ◌+◌, ◌-◌, ◌≤◌, ◌<◌}
use native.Mathlib.Omega.{arith}
use lib.Dec.{eqb}
use lib.ListN.{length, drop, drop_of_length-le}
use borrow.Author.Tests.{ne_eqb, eqb-true, eqb-false}
use Rattle.text.specs.declared.CodePoint.{CodePoint}
use Rattle.text.specs.Utf8.{code_point}
use Rattle.text.proofs.Utf8Laws.{ascii_point}
use Rattle.text.proofs.Cases.{by_test, by_order, never}
use Rattle.text.proofs.Keys.{among, NoneOf, outside}
use Rattle.text.proofs.Tabled.{tab, each}
use Rattle.attribute.specs.declared.Variant.{Variant}
use Rattle.token.specs.declared.Token.{Token}
use Rattle.token.specs.Texts.{text}
use Rattle.lexer.specs.Lex.{is_digit, is_alphabetic, number_at, punctuation, letter, of_character, lexeme, read_command, assigns, token_at}

-- the bytes begin with a colon where they begin with an assignment
assigns_colon : (l : List ℕ) → assigns l ≡ true → (code_point l).code ≡ 58
unfolding assigns
assigns_colon [] e = never (cc)
assigns_colon (b ∷ []) e = never (cc)
assigns_colon (b ∷ d ∷ l) e =
    by_test (eqb b 58)
    (λ k.
    let same : b ≡ 58 = eqb-true b 58 k in
    rw (ascii_point b (d ∷ l) (omega arith)) same)
    (λ k. let z : ◌≡◌ {A = Bool} false true = rw k at e in never (cc))

no_assignment : (l : List ℕ) → ((code_point l).code ≡ 58 → ⊥) → assigns l ≡ false
no_assignment l other = by_test (assigns l) (λ e. absurd (other (assigns_colon l e))) (λ e. e)

not_digit : (k : ℕ) → is_digit k ≡ false → (c : ℕ) → is_digit c ≡ true → c ≡ k → ⊥
not_digit k none c some e =
    let z : ◌≡◌ {A = Bool} false true = sym none ∙ ap is_digit (sym e) ∙ some in
    never (cc)

module _ (at : ℕ) (l : List ℕ) where
  -- a character that is a token by itself
  character : (k : ℕ) → (code_point l).code ≡ k → eqb k 58 ≡ false → eqb k 92 ≡ false → is_digit k ≡ false
      → token_at at l ≡ lexeme (of_character punctuation k) at (at + (code_point l).width)
  unfolding token_at
  character k e colon back digit =
      rw (
        token_at,
        no_assignment l (λ f. eqb-false k 58 colon (sym e ∙ f)),
        ap (λ x. eqb x 92) e ∙ back,
        ap is_digit e ∙ digit,
        e,
      )

  -- the first digit of a number
  number : is_digit (code_point l).code ≡ true → token_at at l ≡ number_at at l
  unfolding token_at
  number digit =
      rw (
        token_at,
        no_assignment l (not_digit 58 refl (code_point l).code digit),
        ne_eqb (code_point l).code 92 (not_digit 92 refl (code_point l).code digit),
        digit,
      )

  -- a backslash
  command : (code_point l).code ≡ 92 → token_at at l ≡ read_command at (drop 1 l)
  unfolding token_at
  command e = rw (token_at, no_assignment l (λ f. eqb-false 92 58 refl (sym e ∙ f)), ap (λ x. eqb x 92) e)

  -- a colon alone
  colon : (code_point l).code ≡ 58 → assigns l ≡ false → token_at at l ≡ lexeme (Token.Operator 58) at (at + (code_point l).width)
  unfolding token_at punctuation of_character
  colon e alone = rw (token_at, alone, ap (λ x. eqb x 92) e, ap is_digit e, e)

  -- an assignment
  pub token_assigns : assigns l ≡ true → token_at at l ≡ lexeme (Token.Paren (text ":=")) at (at + 2)
  unfolding token_at
  token_assigns e = rw (token_at, e)

-- the same of the code point that was read
module _ (at : ℕ) (l : List ℕ) (p : CodePoint) (here : p ≡ code_point l) where
  code_here : (code_point l).code ≡ p.code
  code_here = ap (λ q. q.code) (sym here)

  pub token_character : (k : ℕ) → p.code ≡ k → eqb k 58 ≡ false → eqb k 92 ≡ false → is_digit k ≡ false
      → lexeme (of_character punctuation k) at (at + p.width) ≡ token_at at l
  token_character k same other back digit = rw here (sym (character at l k (code_here ∙ same) other back digit))

  pub token_number : is_digit p.code ≡ true → token_at at l ≡ number_at at l
  token_number digit = number at l (ap is_digit code_here ∙ digit)

  pub token_command : p.code ≡ 92 → token_at at l ≡ read_command at (drop 1 l)
  token_command same = command at l (code_here ∙ same)

  pub token_colon : p.code ≡ 58 → assigns l ≡ false → token_at at l ≡ lexeme (Token.Operator 58) at (at + p.width)
  token_colon same alone = rw here (colon at l (code_here ∙ same) alone)

-- each character of a list of punctuation is among the keys
abbrev pub listed : List ℕ → List (ℕ × Token) → Bool
listed ks [] = true
listed ks (q ∷ qs) = elim (among ks q.0) [ true ↦ listed ks qs | false ↦ false ]

-- .. so a character that is not is a letter
pub unlisted : (ks : List ℕ) (qs : List (ℕ × Token)) (c : ℕ) → listed ks qs ≡ true → among ks c ≡ false → of_character qs c ≡ letter c
unfolding of_character
unlisted ks [] c all none = refl
unlisted ks (q ∷ qs) c all none =
    by_test (among ks q.0)
    (λ here.
    rw (of_character, ne_eqb c q.0 (λ e. let z : ◌≡◌ {A = Bool} false true = sym none ∙ ap (among ks) e ∙ here in never (cc)))
    (unlisted ks qs c (rw (listed, here) at all) none))
    (λ away. let z : ◌≡◌ {A = Bool} false true = rw (listed, away) at all in never (cc))

-- an operator is its character, where that holds of each from `low` on
pub token_operator : (at : ℕ) (l : List ℕ) (p : CodePoint) → p ≡ code_point l → (low n : ℕ)
    → tab (λ i. of_character punctuation (low + i)) n ≡ tab (λ i. Token.Operator (low + i)) n
    → low ≤ p.code → p.code < low + n → (p.code ≡ 58 → ⊥) → (p.code ≡ 92 → ⊥) → is_digit p.code ≡ false
    → lexeme (Token.Operator p.code) at (at + p.width) ≡ token_at at l
token_operator at l p here low n same from to other back digit =
    let c = p.code in
    let place : low + (c - low) ≡ c = omega arith in
    let e = each (λ i. of_character punctuation (low + i)) (λ i. Token.Operator (low + i)) n same (c - low) (omega arith) in
    let is : of_character punctuation c ≡ Token.Operator c = rw place at e in
    rw (← is) (token_character at l p here c refl (ne_eqb c 58 other) (ne_eqb c 92 back) digit)

-- the operators but the colon
abbrev pub operators : List ℕ
operators = 33 ∷ 39 ∷ 42 ∷ 43 ∷ 44 ∷ 45 ∷ 46 ∷ 47 ∷ 59 ∷ 60 ∷ 61 ∷ 62 ∷ []

-- the characters that are no letters, no digits and none of those, as the lexer's decision has them from its last arm to its first
abbrev pub singles : List ℕ
singles = 92 ∷ 58 ∷ 0 ∷ 38 ∷ 94 ∷ 95 ∷ 124 ∷ 93 ∷ 91 ∷ 125 ∷ 123 ∷ 41 ∷ 40 ∷ []

abbrev pub marks : List ℕ
marks = 92 ∷ 58 ∷ 0 ∷ 38 ∷ 94 ∷ 95 ∷ 124 ∷ 93 ∷ 91 ∷ 125 ∷ 123 ∷ 41 ∷ 40 ∷ operators

-- what the decision's arms before `_` hand over: the character is none of the keys, nor of those before
abbrev pub Past : Type 0 → List ℕ → ℕ → Type 0
Past B [] c = B
Past B (k ∷ ks) c = Past B ks c × (c ≡ k → ⊥)

past_each : (B : Type 0) (ks ms : List ℕ) (c : ℕ) → (B → NoneOf ms c) → Past B ks c → NoneOf (ks ++ ms) c
past_each B [] ms c f h = f h
past_each B (k ∷ ks) ms c f h = (past_each B ks ms c f h.0, h.1)

abbrev pub Before : ℕ → Type 0
Before c = Past (Unit {0} × (((c ≡ 33) ⊎ (c ≡ 39)) → ⊥)) singles c

low_operators : (c : ℕ) → c < 42 → (((c ≡ 33) ⊎ (c ≡ 39)) → ⊥) → NoneOf operators c
low_operators c low h =
    ((((((((((((tt, (λ e. omega arith)), (λ e. omega arith)), (λ e. omega arith)), (λ e. omega arith)), (λ e. omega arith)), (λ e. omega arith)), (λ e. omega arith)), (λ e. omega arith)), (λ e. omega arith)), (λ e. omega arith)), (λ e. h (inr e))), (λ e. h (inl e)))

high_operators : (c : ℕ) → 63 ≤ c → NoneOf operators c
high_operators c high =
    ((((((((((((tt, (λ e. omega arith)), (λ e. omega arith)), (λ e. omega arith)), (λ e. omega arith)), (λ e. omega arith)), (λ e. omega arith)), (λ e. omega arith)), (λ e. omega arith)), (λ e. omega arith)), (λ e. omega arith)), (λ e. omega arith)), (λ e. omega arith))

-- a character below the operators or above them that no arm has is no mark
pub low_rest : (c : ℕ) → Before c → c < 42 → NoneOf marks c
low_rest c h low = past_each _ singles operators c (λ b. low_operators c low b.1) h

pub high_rest : (c : ℕ) → Before c → 63 ≤ c → NoneOf marks c
high_rest c h high = past_each _ singles operators c (λ b. high_operators c high) h

all_marks : listed marks punctuation ≡ true
unfolding punctuation
all_marks = refl

letter_of : (c : ℕ) (v : Variant) (b : Bool) → is_alphabetic c ≡ b → ◌≡◌ {A = Variant} (elim b [ true ↦ Variant.Italic | false ↦ Variant.Normal ]) v → letter c ≡ Token.Letter c v
unfolding letter
letter_of c v b e k = rw (letter, e) (ap (Token.Letter c) k)

-- any other character is a letter
pub token_letter : (at : ℕ) (l : List ℕ) (p : CodePoint) (v : Variant) (b : Bool) → p ≡ code_point l → NoneOf marks p.code → is_digit p.code ≡ false
    → is_alphabetic p.code ≡ b → ◌≡◌ {A = Variant} (elim b [ true ↦ Variant.Italic | false ↦ Variant.Normal ]) v
    → lexeme (Token.Letter p.code v) at (at + p.width) ≡ token_at at l
token_letter at l p v b here none digit alphabetic is =
    let c = p.code in
    let other = unlisted marks punctuation c all_marks (outside marks c none) ∙ letter_of c v b alphabetic is in
    rw (← other) (token_character at l p here c refl (ne_eqb c 58 none.0.1) (ne_eqb c 92 none.1) digit)

-- a character other than NUL is there
pub head_inside : (s : List ℕ) (at : ℕ) → ((code_point (drop at s)).code ≡ 0 → ⊥) → at < length s
unfolding code_point
head_inside s at some = by_order at (length s) (λ h. h) (λ h. absurd (some (rw (drop_of_length-le s h))))
