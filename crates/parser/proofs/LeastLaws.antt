-- The token behind another lies in the body, and is as wide as it must be.
-- Assumes nothing.
use mathlib.Core.Path.{◌≡◌, refl, sym, ap}
use mathlib.Core.Bool.{Bool, true, false, ◌&&◌, not, false≢true, and-eq-true_iff}
use mathlib.Core.List.{List}
use mathlib.Core.List as L
use Prim.Native.Nat.{ℕ, suc, ◌+◌, ◌≤◌, ◌<◌, zero-le}
use Prim.Native.Char.{code}
use Prim.Native.String.{String, [], ◌∷◌}
use native.Mathlib.Omega.{arith}
use denote.Enum.Declared.{tag_of}
use lib.Dec.{eqb, leb}
use lib.ListN.{length, take, drop, length-drop, drop_of_length-le}
use lib.Seq.{length-take-le}
use borrow.Author.Tests.{leb-true, not-true}
use Rattle.text.specs.Utf8.{code_point}
use Rattle.text.proofs.Cases.{by_test, by_order, both}
use Rattle.text.proofs.Keys.{among}
use Rattle.text.proofs.Utf8Laws.{every, width_some}
use Rattle.token.specs.declared.Token.{Token}
use Rattle.token.specs.declared.Token.TheVariants.{EOF, Begin, End, Ampersand, NewLine, Left, Right, Middle, Paren, LBrace, RBrace, Frac, Underscore, Circumflex, Binom, Overset, Underset, Overbrace, Underbrace, Sqrt, Integral, Lim, Space, Style, Big, Over, Under, Operator, BigOp, Letter, Number, Function, OperatorName, Slashed, Text, Command}
use Rattle.token.specs.Spell.{Arm, spells, first}
use Rattle.token.specs.Arms.{arms}
use Rattle.token.specs.Command.{own_arms, from_command, acts_on_a_digit}
use Rattle.token.specs.contracts.Token.{the_type}
use Rattle.lexer.specs.Lex.{is_digit, skip_whitespace, read_number, name_length, read_command, number_at, punctuation, letter, of_character, assigns, token_at, next_token}
use Rattle.lexer.proofs.NextLaws.{next_read, token_spans, next_spans}
use Rattle.parser.specs.State.{starts_with_digit, following}
use Rattle.parser.specs.Sound.{least, TokenInside, Lies}
use Rattle.parser.proofs.DigitLaws.{digit_head}

-- ---- a token that carries no place and takes no more than w bytes at least

-- the places, among the enum's variants, of the tokens that carry places
abbrev placed : List ℕ
placed = L.◌∷◌ 30 (L.◌∷◌ 35 L.[])

placeless : (n : ℕ) (t : Token) → among placed (tag_of the_type t) ≡ false → TokenInside n t
placeless n EOF e = tt
placeless n Begin e = tt
placeless n End e = tt
placeless n Ampersand e = tt
placeless n NewLine e = tt
placeless n Left e = tt
placeless n Right e = tt
placeless n Middle e = tt
placeless n (Paren t) e = tt
placeless n LBrace e = tt
placeless n RBrace e = tt
placeless n Frac e = tt
placeless n Underscore e = tt
placeless n Circumflex e = tt
placeless n (Binom b) e = tt
placeless n Overset e = tt
placeless n Underset e = tt
placeless n (Overbrace c) e = tt
placeless n (Underbrace c) e = tt
placeless n Sqrt e = tt
placeless n (Integral c) e = tt
placeless n (Lim t) e = tt
placeless n (Space w) e = tt
placeless n (Style v) e = tt
placeless n (Big t) e = tt
placeless n (Over c a) e = tt
placeless n (Under c a) e = tt
placeless n (Operator c) e = tt
placeless n (BigOp c) e = tt
placeless n (Letter c v) e = tt
placeless n (Number a z) e = absurd (false≢true (sym e))
placeless n (Function t) e = tt
placeless n OperatorName e = tt
placeless n Slashed e = tt
placeless n Text e = tt
placeless n (Command a z) e = absurd (false≢true (sym e))

-- the test that a token of w bytes is wide enough and carries no place
abbrev fits : ℕ → Token → Bool
fits w t = elim (leb (least t) w) [ true ↦ not (among placed (tag_of the_type t)) | false ↦ false ]

-- a token of w bytes or more whose places lie in a body of n bytes
record Wide (n w : ℕ) (t : Token) : Type 0 where
  pub enough : least t ≤ w
  pub places : TokenInside n t

-- .. tells that it is
fits_wide : (n w : ℕ) (t : Token) → fits w t ≡ true → Wide n w t
fits_wide n w t e =
    let h = both (leb (least t) w) (not (among placed (tag_of the_type t))) e in
    record { enough = leb-true (least t) w h.0; places = placeless n t (not-true _ h.1) }

-- ---- commands: one test of all the arms

-- how many characters a name has, which is as many as the bytes that spell it
abbrev chars : String → ℕ
chars [] = 0
chars (c ∷ s) = suc (chars s)

spells_length : (s : List ℕ) (t : String) → spells s t ≡ true → length s ≡ chars t
spells_length L.[] [] e = refl
spells_length L.[] (c ∷ t) e = absurd (false≢true e)
spells_length (L.◌∷◌ n s) [] e = absurd (false≢true e)
spells_length (L.◌∷◌ n s) (c ∷ t) e = ap suc (spells_length s t (both (eqb n (code c)) (spells s t) e).1)

-- an arm's token takes no more than the backslash and the arm's name
abbrev arm_fits : Arm Token → Bool
arm_fits arm = fits (suc (chars arm.name)) arm.gives

all_arms : every arm_fits own_arms ≡ true
unfolding arms own_arms least
all_arms = refl

-- so whatever arm a name finds, its token is wide enough
first_wide : (n : ℕ) (s : List ℕ) (other : Token) → Wide n (suc (length s)) other → (xs : List (Arm Token)) → every arm_fits xs ≡ true
    → Wide n (suc (length s)) (first s other xs)
first_wide n s other w L.[] e = w
first_wide n s other w (L.◌∷◌ arm rest) e =
    let h = (and-eq-true_iff (arm_fits arm) (every arm_fits rest)).0 e in
    by_test (spells s arm.name)
    (λ q. rw (q, first, spells_length s arm.name q) (fits_wide n (suc (chars arm.name)) arm.gives h.0))
    (λ q. rw (q, first) (first_wide n s other w rest h.1))

command_wide : (n : ℕ) (s : List ℕ) (a e : ℕ) → a ≤ e → e ≤ n → Wide n (suc (length s)) (from_command s (Command a e))
unfolding from_command least
command_wide n s a e low high = first_wide n s (Command a e) (record { enough = omega arith; places = (low, high) }) own_arms all_arms

-- ---- characters: one test of the punctuation

abbrev character_fits : ℕ × Token → Bool
character_fits q = fits 1 q.1

all_characters : every character_fits punctuation ≡ true
unfolding punctuation least
all_characters = refl

-- a character's token takes a byte, and so does a letter
of_wide : (n : ℕ) (c : ℕ) (qs : List (ℕ × Token)) → every character_fits qs ≡ true → Wide n 1 (of_character qs c)
unfolding of_character letter least
of_wide n c L.[] e = record { enough = omega arith; places = tt }
of_wide n c (L.◌∷◌ q qs) e =
    let h = (and-eq-true_iff (character_fits q) (every character_fits qs)).0 e in
    by_test (eqb c q.0)
    (λ k. rw (of_character, k) (fits_wide n 1 q.1 h.0))
    (λ k. rw (of_character, k) (of_wide n c qs h.1))

character_wide : (n c : ℕ) → Wide n 1 (of_character punctuation c)
character_wide n c = of_wide n c punctuation all_characters

-- the end of the body is a token of no bytes, and any other character takes one or more
end_wide : (n : ℕ) (l : List ℕ) → Wide n (code_point l).width (of_character punctuation (code_point l).code)
unfolding code_point of_character punctuation least
end_wide n L.[] = record { enough = zero-le; places = tt }
end_wide n (L.◌∷◌ b l) =
    let w = character_wide n (code_point (L.◌∷◌ b l)).code in
    let some = width_some b l in
    record { enough = omega arith; places = w.places }

-- ---- numbers: a digit is its own byte

-- so a number has a byte or more
number_some : (l : List ℕ) → is_digit (code_point l).code ≡ true → 1 ≤ read_number false l
unfolding read_number starts_with_digit code_point
number_some L.[] e = absurd (false≢true e)
number_some (L.◌∷◌ b l) e = let digit = digit_head (L.◌∷◌ b l) e in rw (read_number, digit) (omega arith)

-- ---- the token at a place, the one behind whitespace, and the one behind a token

token_lies : (s : List ℕ) (at : ℕ) → at ≤ length s → Lies s at (token_at at (drop at s))
unfolding token_at read_command number_at least
token_lies s at h =
    let l = drop at s in
    let c = (code_point l).code in
    let spans = token_spans s at h in
    by_test (assigns l)
    (λ a.
    let z = rw (token_at, a) at spans in
    rw (token_at, a) (record { from = omega arith; wide = omega arith; inside = z.inside; places = tt }))
    (λ a.
    by_test (eqb c 92)
    (λ b.
    let z = rw (token_at, a, b) at spans in
    let n = name_length (drop 1 l) in
    let end = z.inside in
    let whole : length (take n (drop 1 l)) ≡ n = length-take-le n (drop 1 l) (simp length-drop (omega arith)) in
    let w = command_wide (length s) (take n (drop 1 l)) (suc at) (suc at + n) (omega arith) end in
    let enough = w.enough in
    rw (token_at, a, b) (record { from = omega arith; wide = omega arith; inside = end; places = w.places }))
    (λ b.
    by_test (is_digit c)
    (λ d.
    let z = rw (token_at, a, b, d) at spans in
    let some = number_some l d in
    rw (token_at, a, b, d) (record { from = omega arith; wide = omega arith; inside = z.inside; places = (z.rises, z.inside) }))
    (λ d.
    let z = rw (token_at, a, b, d) at spans in
    let w = end_wide (length s) l in
    let enough = w.enough in
    rw (token_at, a, b, d) (record { from = omega arith; wide = omega arith; inside = z.inside; places = w.places }))))

pub next_lies : (s : List ℕ) (at : ℕ) → at ≤ length s → Lies s at (next_token at (drop at s))
next_lies s at h =
    let here = at + skip_whitespace (drop at s) in
    let spans = next_spans s at h in
    let lies = rw (next_read s at here refl) at (token_lies s here (omega arith)) in
    record { from = omega (arith, spans.start); wide = lies.wide; inside = lies.inside; places = lies.places }

-- a digit at a place is a byte there
digit_inside : (s : List ℕ) (at : ℕ) → starts_with_digit (drop at s) ≡ true → at < length s
unfolding starts_with_digit
digit_inside s at e =
    by_order at (length s) (λ h. h)
    (λ h. absurd (false≢true (rw (drop_of_length-le s h) at e)))

-- the token behind t lies behind it in the body
pub following_lies : (s : List ℕ) (t : Token) (at : ℕ) → at ≤ length s → Lies s at (following t at (drop at s))
unfolding following least
following_lies s t at h =
    by_test (acts_on_a_digit t && starts_with_digit (drop at s))
    (λ e.
    let there = digit_inside s at ((and-eq-true_iff (acts_on_a_digit t) (starts_with_digit (drop at s))).0 e).1 in
    rw (following, e) (record { from = omega arith; wide = omega arith; inside = there; places = (omega arith, there) }))
    (λ e. rw (following, e) (next_lies s at h))
