-- The name of a command, and an assignment, by the bytes at a place.
-- Assumes nothing.
use mathlib.Core.Path.{◌≡◌, refl, sym, ◌∙◌}
use mathlib.Core.Bool.{Bool, true, false}
use mathlib.Core.List.{List, [], ◌∷◌}
use Prim.Native.Nat.{ℕ, suc, ◌+◌, ◌-◌, ◌≤◌, ◌<◌}
use native.Mathlib.Omega.{arith}
use lib.Dec.{eqb, ltb}
use lib.Pointwise.{pointwise}
use Rattle.std.proofs.Math.Bool.{and-true}
use Rattle.std.proofs.lemmas.Bool.Decides.{nat_tests}
use lib.ListN.{length, get_or, take, drop, length-drop, drop_of_length-le}
use lib.Seq.{drop-cons}
use borrow.Author.Tests.{le-leb, lt-leb, ltb-true, ltb-false}
use Rattle.text.specs.Utf8.{code_point}
use Rattle.text.proofs.Utf8Laws.{ascii_point, high_point}
use Rattle.text.proofs.Cases.{by_test, never}
use Rattle.lexer.specs.Lex.{is_alphabetic, run, name_length, assigns}

high_other : (c : ℕ) → 128 ≤ c → is_alphabetic c ≡ false
high_other c h =
    simp (
      le-leb 97 c (omega arith),
      lt-leb c 122 (omega arith),
      le-leb 65 c (omega arith),
      lt-leb c 90 (omega arith),
    )

-- a byte is an ASCII letter just where the character that it begins is one
same_letter : (b : ℕ) (l : List ℕ) → is_alphabetic (code_point (b ∷ l)).code ≡ is_alphabetic b
same_letter b l =
    by_test (ltb b 128)
    (λ k. rw (ascii_point b l (ltb-true b 128 k)))
    (λ k.
    let high : 128 ≤ b = ltb-false b 128 k in
    high_other (code_point (b ∷ l)).code (high_point b l high) ∙ sym (high_other b high))

letters_first : (b : ℕ) (l : List ℕ) → is_alphabetic b ≡ true → name_length (b ∷ l) ≡ run is_alphabetic (b ∷ l)
unfolding name_length
letters_first b l letter = rw (name_length, same_letter b l, letter)

other_first : (b : ℕ) (l : List ℕ) → is_alphabetic b ≡ false → name_length (b ∷ l) ≡ (code_point (b ∷ l)).width
unfolding name_length
other_first b l other = rw (name_length, same_letter b l, other)

module _ (s : List ℕ) (at : ℕ) where
  pub name_letters : at < length s → is_alphabetic (get_or s at 0) ≡ true → name_length (drop at s) ≡ run is_alphabetic (drop at s)
  name_letters inside letter = rw (drop-cons s at 0 inside) (letters_first (get_or s at 0) (drop (suc at) s) letter)

  pub name_other : at < length s → is_alphabetic (get_or s at 0) ≡ false → name_length (drop at s) ≡ (code_point (drop at s)).width
  name_other inside other = rw (drop-cons s at 0 inside) (other_first (get_or s at 0) (drop (suc at) s) other)

  pub name_end : length s ≤ at → name_length (drop at s) ≡ (code_point (drop at s)).width
  unfolding name_length code_point
  name_end h = rw (drop_of_length-le s h)

short : (l : List ℕ) → length l < 2 → assigns l ≡ false
unfolding assigns
short [] h = refl
short (b ∷ []) h = refl
short (b ∷ d ∷ l) h = absurd (omega arith)

pub assigns_short : (s : List ℕ) (at : ℕ) → length s - at < 2 → assigns (drop at s) ≡ false
assigns_short s at h = short (drop at s) (simp length-drop h)

-- what assigns has two bytes
pub assigns_inside : (s : List ℕ) (at : ℕ) → at ≤ length s → assigns (drop at s) ≡ true → at + 2 ≤ length s
assigns_inside s at inside e =
    by_test (ltb (length s - at) 2)
    (λ k.
    let z : ◌≡◌ {A = Bool} false true = sym (assigns_short s at (ltb-true _ _ k)) ∙ e in
    never (cc))
    (λ k. omega (arith, ltb-false (length s - at) 2 k))

flipped : (a b : ℕ) → eqb a b ≡ eqb b a
flipped a b = grind (arith, nat_tests)

-- .. and is the test whether a text starts with the two
pub assigns_starts : (l : List ℕ) → pointwise eqb (58 ∷ 61 ∷ []) (take 2 l) ≡ assigns l
unfolding assigns
assigns_starts [] = refl
assigns_starts (b ∷ []) = by_test (eqb 58 b) (λ e. rw e) (λ e. rw e)
assigns_starts (b ∷ d ∷ l) = rw (flipped 58 b, flipped 61 d, and-true)
