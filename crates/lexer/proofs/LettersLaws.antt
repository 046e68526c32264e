-- The letters at the head of a text: each takes a byte or more, and they are put one by one.
-- Assumes nothing.
use mathlib.Core.Path.{◌≡◌, refl, sym, ◌∙◌, ap}
use mathlib.Core.List.{List, [], ◌∷◌, ◌++◌}
use mathlib.Core.Option.{Option, none, some}
use Rattle.std.specs.Prelude.{Some, None}
use Prim.Native.Nat.{ℕ, zero, suc, ◌+◌, ◌-◌, ◌≤◌, ◌<◌, zero-le}
use native.Mathlib.Omega.{arith}
use types.Run.{OneOf, miss}
use denote.Enum.Declared.{tag_of}
use lib.Dec.{eqb}
use lib.ListN.{length, take, drop, length-drop}
use lib.Seq.{take_all, drop-drop}
use Rattle.text.specs.Utf8.{code_point, encode}
use Rattle.text.specs.declared.Dialect.{Dialect}
use Rattle.text.specs.Xml.{xml_text, in_text}
use Rattle.text.proofs.Cases.{by_test, never}
use Rattle.text.proofs.Utf8Laws.{width_some}
use Rattle.text.proofs.XmlLaws.{text_append, same_text}
use Rattle.attribute.specs.declared.Variant.{Variant}
use Rattle.token.specs.declared.Token.{Token}
use Rattle.token.specs.declared.Token.TheVariants.{EOF, Begin, End, Ampersand, NewLine, Left, Right, Middle, Paren, LBrace, RBrace, Frac, Underscore, Circumflex, Binom, Overset, Underset, Overbrace, Underbrace, Sqrt, Integral, Lim, Space, Style, Big, Over, Under, Operator, BigOp, Letter, Number, Function, OperatorName, Slashed, Text, Command}
use Rattle.token.specs.Roles.{letter_of}
use Rattle.token.specs.contracts.Token.{the_type}
use Rattle.lexer.specs.declared.Lexeme.{Lexeme}
use Rattle.lexer.specs.declared.letters.Letter as letter
use Rattle.lexer.specs.LetterAt.{LetterAt}
use Rattle.lexer.specs.Lex.{is_digit, skip_whitespace, read_command, number_at, punctuation, of_character, assigns, token_at, next_token}
use Rattle.lexer.specs.Letters.{letters_within, letters, encode_all}
use Rattle.lexer.proofs.NextLaws.{next_spans}

-- the places, among the enum's variants, of the tokens that are no letters
abbrev pub others : List ℕ
others = 0 ∷ 1 ∷ 2 ∷ 3 ∷ 4 ∷ 5 ∷ 6 ∷ 7 ∷ 8 ∷ 9 ∷ 10 ∷ 11 ∷ 12 ∷ 13 ∷ 14 ∷ 15 ∷ 16 ∷ 17 ∷ 18 ∷ 19 ∷ 20 ∷ 21 ∷ 22 ∷ 23 ∷ 24 ∷ 25 ∷ 26 ∷ 27 ∷ 28 ∷ 30 ∷ 31 ∷ 32 ∷ 33 ∷ 34 ∷ 35 ∷ []

pub no_letter : (t : Token) → OneOf others (tag_of the_type t) → letter_of t ≡ none
unfolding letter_of
no_letter EOF h = refl
no_letter Begin h = refl
no_letter End h = refl
no_letter Ampersand h = refl
no_letter NewLine h = refl
no_letter Left h = refl
no_letter Right h = refl
no_letter Middle h = refl
no_letter (Paren x) h = refl
no_letter LBrace h = refl
no_letter RBrace h = refl
no_letter Frac h = refl
no_letter Underscore h = refl
no_letter Circumflex h = refl
no_letter (Binom x) h = refl
no_letter Overset h = refl
no_letter Underset h = refl
no_letter (Overbrace x) h = refl
no_letter (Underbrace x) h = refl
no_letter Sqrt h = refl
no_letter (Integral x) h = refl
no_letter (Lim x) h = refl
no_letter (Space x) h = refl
no_letter (Style x) h = refl
no_letter (Big x) h = refl
no_letter (Over x y) h = refl
no_letter (Under x y) h = refl
no_letter (Operator x) h = refl
no_letter (BigOp x) h = refl
no_letter (Letter x y) h = absurd (miss others 29 tt h)
no_letter (Number x y) h = refl
no_letter (Function x) h = refl
no_letter OperatorName h = refl
no_letter Slashed h = refl
no_letter Text h = refl
no_letter (Command x y) h = refl

-- a letter takes a byte or more, where it is read and behind whitespace
token_some : (at : ℕ) (l : List ℕ) (c : ℕ) → letter_of (token_at at l).token ≡ some c → at < (token_at at l).end
unfolding token_at read_command number_at assigns code_point punctuation of_character letter_of
token_some at [] c e = never (cc)
token_some at (b ∷ l) c e =
    by_test (assigns (b ∷ l))
    (λ a. rw (token_at, a) (omega arith))
    (λ a.
    by_test (eqb (code_point (b ∷ l)).code 92)
    (λ k. rw (token_at, a, k) (omega arith))
    (λ k.
    by_test (is_digit (code_point (b ∷ l)).code)
    (λ d. let z : ◌≡◌ {A = Option ℕ} none (some c) = rw (token_at, a, k, d) at e in never (cc))
    (λ d. let w = width_some b l in rw (token_at, a, k, d) (omega arith))))

next_some : (l : List ℕ) (c : ℕ) → letter_of (next_token 0 l).token ≡ some c → 1 ≤ (next_token 0 l).end
unfolding next_token
next_some l c e =
    let some_byte = token_some (0 + skip_whitespace l) (drop (skip_whitespace l) l) c e in
    omega arith

-- the letters end where the next token is none, and go on behind one that is
pub within_none : (k : ℕ) (l : List ℕ) → letter_of (next_token 0 l).token ≡ none → letters_within k l ≡ []
unfolding letters_within
within_none zero l e = refl
within_none (suc k) l e = rw (letters_within, e)

within_some : (k : ℕ) (l : List ℕ) (c : ℕ) → letter_of (next_token 0 l).token ≡ some c
    → letters_within (suc k) l ≡ c ∷ letters_within k (drop (next_token 0 l).end l)
unfolding letters_within
within_some k l c e = rw (letters_within, e)

-- what the lexer reads of the part of t from i on is the next token there
read_here : (t : List ℕ) (i : ℕ) (x : Lexeme) → x ≡ next_token 0 (take (length t - i) (drop i t)) → x ≡ next_token 0 (drop i t)
read_here t i x is = is ∙ ap (next_token 0) (take_all (length t - i) (drop i t) (omega (arith, length-drop i t)))

-- where it is a letter, it takes a byte or more, and the letters go on behind it
module _ (t : List ℕ) (i : ℕ) (i-inside : i ≤ length t) (x : Lexeme) (is : x ≡ next_token 0 (take (length t - i) (drop i t))) (c : ℕ) (v : Variant) (e : x.token ≡ Letter c v) where
  here : x ≡ next_token 0 (drop i t)
  here = read_here t i x is

  some_letter : letter_of (next_token 0 (drop i t)).token ≡ some c
  unfolding letter_of
  some_letter = ap letter_of (ap (λ y. y.token) (sym here) ∙ e)

  pub letter_inside : (i < i + x.end) × (i + x.end ≤ length t)
  letter_inside =
      let byte : 1 ≤ x.end = rw (ap (λ y. y.end) here) (next_some (drop i t) c some_letter) in
      let there : x.end ≤ length (drop i t) = rw (ap (λ y. y.end) here) (next_spans (drop i t) 0 zero-le).inside in
      let long = length-drop i t in
      (omega arith, omega arith)

  -- the letter is at the place i
  pub letter_here : LetterAt t i (Some (record { code = c; end = i + x.end }))
  letter_here = (some_letter, ap (λ y. i + y.end) here, letter_inside.0, letter_inside.1)

-- no other token is one
pub letter_none : (t : List ℕ) (i : ℕ) (x : Lexeme) → x ≡ next_token 0 (take (length t - i) (drop i t)) → OneOf others (tag_of the_type x.token) → LetterAt t i None
letter_none t i x is other = ap (λ y. letter_of y.token) (sym (read_here t i x is)) ∙ no_letter x.token other

-- the letters go on behind one that is at the place i
pub letters_on : (budget : ℕ) (t : List ℕ) (i : ℕ) (l : letter.Letter) → LetterAt t i (Some l) → length t ≤ i + budget
    → letters_within budget (drop i t) ≡ l.code ∷ letters_within (budget - 1) (drop l.end t)
letters_on budget t i l at enough =
    let more : budget ≡ suc (budget - 1) = omega (arith, at.2, at.3) in
    ap (λ k. letters_within k (drop i t)) more
    ∙ rw (within_some (budget - 1) (drop i t) l.code at.0, drop-drop (next_token 0 (drop i t)).end i t, ← at.1)

-- on the way: the letters before the place i are read, and of those behind it the budget is enough
pub record Reading (t : List ℕ) (i budget : ℕ) : Type 0 where
  pub enough : length t ≤ i + budget
  pub inside : i ≤ length t

pub reading_none : (t : List ℕ) → Reading t 0 (length t)
reading_none t = record { enough = omega arith; inside = zero-le }

pub reading_more : {t : List ℕ} {i budget : ℕ} → Reading t i budget → (l : letter.Letter) → LetterAt t i (Some l) → Reading t l.end (budget - 1)
reading_more r l at = record { enough = omega (arith, r.enough, at.2); inside = at.3 }

-- what the letters print from the place i on
abbrev pub left : Dialect → List ℕ → ℕ → ℕ → List ℕ
left d t i budget = in_text d (encode_all (letters_within budget (drop i t)))

pub left_all : (d : Dialect) (t : List ℕ) → in_text d (encode_all (letters t)) ≡ left d t 0 (length t)
unfolding letters
left_all d t = refl

pub left_none : (d : Dialect) (t : List ℕ) (i budget : ℕ) → LetterAt t i None → left d t i budget ≡ []
unfolding encode_all xml_text
left_none d t i budget at = rw (within_none budget (drop i t) at, encode_all) (same_text d [] refl)

pub left_more : (d : Dialect) {t : List ℕ} {i budget : ℕ} → Reading t i budget → (l : letter.Letter) → LetterAt t i (Some l)
    → left d t i budget ≡ in_text d (encode l.code) ++ left d t l.end (budget - 1)
unfolding encode_all
left_more d {t} {i} {budget} r l at = rw (letters_on budget t i l at r.enough, encode_all) (text_append d (encode l.code) _)
