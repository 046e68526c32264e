-- The next token from a place, as the cursor reads it; a token ends inside the body.
-- Assumes nothing.
use mathlib.Core.Path.{◌≡◌, refl, sym, ◌∙◌}
use mathlib.Core.Bool.{Bool, true, false}
use mathlib.Core.List.{List, [], ◌∷◌}
use Prim.Native.Nat.{ℕ, ◌+◌, ◌-◌, ◌≤◌, ◌<◌, zero-le}
use native.Mathlib.Omega.{arith}
use native.Mathlib.Numerals.{add-one}
use lib.Dec.{eqb}
use lib.ListN.{length, drop, length-drop}
use lib.Seq.{drop-drop}
use borrow.Author.Tests.{eqb-true, eqb-false}
use Rattle.text.specs.Utf8.{code_point}
use Rattle.text.specs.Text.{part}
use Rattle.text.proofs.Cases.{by_test}
use Rattle.text.proofs.Utf8Laws.{width_inside}
use Rattle.token.specs.declared.Token.{Token}
use Rattle.token.specs.Command.{from_command}
use Rattle.lexer.specs.declared.Lexeme.{Lexeme}
use Rattle.lexer.specs.Lex.{is_alphabetic, is_digit, run, skip_whitespace, read_number, name_length, lexeme, read_command, number_at, assigns, token_at, next_token}
use Rattle.lexer.proofs.NameLaws.{assigns_inside}
use Rattle.lexer.proofs.TokenLaws.{head_inside}

-- ---- what is read from a place

pub command_read : (s : List ℕ) (at e : ℕ) → e ≡ at + 1 + name_length (drop (at + 1) s)
    → lexeme (from_command (part (at + 1) e s) (Token.Command (at + 1) e)) at e ≡ read_command at (drop 1 (drop at s))
unfolding read_command
command_read s at e h =
    let n = name_length (drop (at + 1) s) in
    let long : at + 1 + n - (at + 1) ≡ n = omega arith in
    rw (h, long, drop-drop 1 at s, ← add-one at)

pub next_read : (s : List ℕ) (at here : ℕ) → here ≡ at + skip_whitespace (drop at s) → token_at here (drop here s) ≡ next_token at (drop at s)
unfolding next_token
next_read s at here h = rw (h, drop-drop (skip_whitespace (drop at s)) at s)

-- ---- what is read is there

run_inside : (test : ℕ → Bool) (l : List ℕ) → run test l ≤ length l
unfolding run
run_inside test [] = zero-le
run_inside test (b ∷ l) =
    by_test (test b)
    (λ e. let more = run_inside test l in rw (run, e) (omega arith))
    (λ e. rw (run, e) zero-le)

number_inside : (hasPeriod : Bool) (l : List ℕ) → read_number hasPeriod l ≤ length l
unfolding read_number
number_inside hasPeriod [] = zero-le
number_inside true (b ∷ l) =
    let more = number_inside true l in
    by_test (is_digit b)
    (λ e. rw (read_number, e) (omega arith))
    (λ e. by_test (eqb b 46) (λ k. rw (read_number, e, k) zero-le) (λ k. rw (read_number, e, k) zero-le))
number_inside false (b ∷ l) =
    let more = number_inside false l in
    let first = number_inside true l in
    by_test (is_digit b)
    (λ e. rw (read_number, e) (omega arith))
    (λ e. by_test (eqb b 46) (λ k. rw (read_number, e, k) (omega arith)) (λ k. rw (read_number, e, k) zero-le))

name_inside : (l : List ℕ) → name_length l ≤ length l
unfolding name_length
name_inside l =
    by_test (is_alphabetic (code_point l).code)
    (λ e. rw (name_length, e) (run_inside is_alphabetic l))
    (λ e. rw (name_length, e) (width_inside l))

-- a token begins where it is read and ends inside the body
pub record Spans (s : List ℕ) (at : ℕ) (t : Lexeme) : Type 0 where
  pub start : t.start ≡ at
  pub rises : at ≤ t.end
  pub inside : t.end ≤ length s

pub token_spans : (s : List ℕ) (at : ℕ) → at ≤ length s → Spans s at (token_at at (drop at s))
unfolding token_at read_command number_at
token_spans s at h =
    let l = drop at s in
    let c = (code_point l).code in
    let long : length l ≡ length s - at = length-drop at s in
    by_test (assigns l)
    (λ a. rw (token_at, a) (record { start = refl; rises = omega arith; inside = assigns_inside s at h a }))
    (λ a.
    by_test (eqb c 92)
    (λ b.
    let there : at < length s = head_inside s at (λ z. eqb-false 92 0 refl (sym (eqb-true c 92 b) ∙ z)) in
    let name = name_inside (drop 1 l) in
    let rest : length (drop 1 l) ≡ length l - 1 = length-drop 1 l in
    rw (token_at, a, b) (record { start = refl; rises = omega arith; inside = omega arith }))
    (λ b.
    by_test (is_digit c)
    (λ d. let n = number_inside false l in rw (token_at, a, b, d) (record { start = refl; rises = omega arith; inside = omega arith }))
    (λ d. let w = width_inside l in rw (token_at, a, b, d) (record { start = refl; rises = omega arith; inside = omega arith }))))

pub next_spans : (s : List ℕ) (at : ℕ) → at ≤ length s → Spans s (at + skip_whitespace (drop at s)) (next_token at (drop at s))
next_spans s at h =
    let here = at + skip_whitespace (drop at s) in
    let long : length (drop at s) ≡ length s - at = length-drop at s in
    let k = run_inside Rattle.lexer.specs.Lex.is_whitespace (drop at s) in
    rw (next_read s at here refl) at (token_spans s here (omega arith))
