-- An ASCII letter is a token of one byte, and a byte above 127 begins a letter.
-- Assumes nothing.
use mathlib.Core.Path.{◌≡◌, refl, sym, ap, ◌∙◌}
use mathlib.Core.Bool.{Bool, true, false, ◌&&◌, and-eq-true_iff, false≢true}
use mathlib.Core.List.{List, [], ◌∷◌}
use Prim.Native.Nat.{ℕ, suc, ◌+◌, ◌≤◌, ◌<◌}
use native.Mathlib.Omega.{arith}
use native.Mathlib.Nat.{add-zero}
use lib.Dec.{leb}
use lib.ListN.{length, drop, get_or}
use lib.Seq.{drop-cons}
use borrow.Author.Tests.{leb-true, ne_eqb}
use Rattle.text.proofs.Cases.{by_test}
use Rattle.text.proofs.Keys.{NoneOf}
use Rattle.text.specs.Utf8.{code_point}
use Rattle.text.proofs.Utf8Laws.{ascii_point, high_point}
use Rattle.attribute.specs.declared.Variant.{Variant}
use Rattle.token.specs.declared.Token.{Token}
use Rattle.lexer.specs.Lex.{is_whitespace, is_digit, is_alphabetic, run, lexeme, next_token}
use Rattle.lexer.proofs.ClassLaws.{above}
use Rattle.lexer.proofs.TokenLaws.{marks, token_letter}

-- none of them is an ASCII letter
abbrev no_letters : List ℕ → Bool
no_letters [] = true
no_letters (k ∷ ks) = elim (is_alphabetic k) [ true ↦ false | false ↦ no_letters ks ]

none_of : (ks : List ℕ) (b : ℕ) → is_alphabetic b ≡ true → no_letters ks ≡ true → NoneOf ks b
none_of [] b h e = tt
none_of (k ∷ ks) b h e =
    by_test (is_alphabetic k)
    (λ t. absurd (false≢true (rw (t, no_letters) at e)))
    (λ t. (none_of ks b h (rw (t, no_letters) at e), λ q. absurd (false≢true (sym t ∙ ap is_alphabetic (sym q) ∙ h))))

module _ (b : ℕ) (h : is_alphabetic b ≡ true) where
  pub no_mark : NoneOf marks b
  no_mark = none_of marks b h refl

  pub bounds : (65 ≤ b) × (b ≤ 122)
  bounds =
      by_test (leb 97 b && leb b 122)
      (λ t.
      let both = (and-eq-true_iff (leb 97 b) (leb b 122)).0 t in
      let low = leb-true 97 b both.0 in
      let high = leb-true b 122 both.1 in
      (omega arith, omega arith))
      (λ t.
      let both = (and-eq-true_iff (leb 65 b) (leb b 90)).0 (rw t at h) in
      let low = leb-true 65 b both.0 in
      let high = leb-true b 90 both.1 in
      (omega arith, omega arith))

  no_digit : is_digit b ≡ false
  no_digit =
      let low = bounds.0 in
      by_test (is_digit b)
      (λ t. let high = leb-true b 57 ((and-eq-true_iff (leb 48 b) (leb b 57)).0 t).1 in absurd (omega arith))
      (λ t. t)

  no_whitespace : is_whitespace b ≡ false
  no_whitespace =
      let low = bounds.0 in
      simp (ne_eqb b 32 (λ e. omega arith), ne_eqb b 9 (λ e. omega arith), ne_eqb b 10 (λ e. omega arith), ne_eqb b 13 (λ e. omega arith))

  pub alphabetic_token : (at : ℕ) (l : List ℕ) → next_token at (b ∷ l) ≡ lexeme (Token.Letter b Variant.Italic) at (at + 1)
  unfolding next_token run
  alphabetic_token at l =
      let high = bounds.1 in
      rw (no_whitespace, run, add-zero)
      (sym (token_letter at (b ∷ l) (record { code = b; width = 1 }) Variant.Italic true (sym (ascii_point b l (omega arith))) no_mark no_digit h refl))

-- .. at a place of a body, and of a part of it
pub letter_at : (s : List ℕ) (at : ℕ) → at < length s → is_alphabetic (get_or s at 0) ≡ true
    → next_token at (drop at s) ≡ lexeme (Token.Letter (get_or s at 0) Variant.Italic) at (at + 1)
letter_at s at inside h = rw (drop-cons s at 0 inside) (alphabetic_token (get_or s at 0) h at (drop (suc at) s))

-- ---- a byte above 127

-- none of them is a character above 127
abbrev no_wide : List ℕ → Bool
no_wide [] = true
no_wide (k ∷ ks) = leb k 127 && no_wide ks

none_wide : (ks : List ℕ) (c : ℕ) → 128 ≤ c → no_wide ks ≡ true → NoneOf ks c
none_wide [] c h e = tt
none_wide (k ∷ ks) c h e =
    let both = (and-eq-true_iff (leb k 127) (no_wide ks)).0 e in
    let low = leb-true k 127 both.0 in
    (none_wide ks c h both.1, λ q. absurd (omega arith))

wide_token : (at b : ℕ) (l : List ℕ) → 128 ≤ b
    → next_token at (b ∷ l) ≡ lexeme (Token.Letter (code_point (b ∷ l)).code Variant.Normal) at (at + (code_point (b ∷ l)).width)
unfolding next_token run
wide_token at b l h =
    let space : is_whitespace b ≡ false =
    simp (ne_eqb b 32 (λ e. omega arith), ne_eqb b 9 (λ e. omega arith), ne_eqb b 10 (λ e. omega arith), ne_eqb b 13 (λ e. omega arith)) in
    let p = code_point (b ∷ l) in
    let high = high_point b l h in
    let k = above p.code (omega arith) in
    rw (space, run, add-zero) (sym (token_letter at (b ∷ l) p Variant.Normal false refl (none_wide marks p.code high refl) k.digit k.alphabetic refl))

pub wide_at : (s : List ℕ) (at : ℕ) → at < length s → 128 ≤ get_or s at 0
    → next_token at (drop at s) ≡ lexeme (Token.Letter (code_point (drop at s)).code Variant.Normal) at (at + (code_point (drop at s)).width)
wide_at s at inside h = rw (drop-cons s at 0 inside) (wide_token at (get_or s at 0) (drop (suc at) s) h)
