-- The letters of a text are passed one by one, from place to place.
-- Assumes nothing.
use mathlib.Core.Path.{◌≡◌, refl, sym, ◌∙◌, ap, subst}
use mathlib.Core.List.{List}
use mathlib.Core.Option.{none}
use Prim.Native.Nat.{ℕ, zero, suc, ◌+◌, ◌-◌, ◌≤◌, ◌<◌}
use native.Mathlib.Omega.{arith}
use lib.ListN.{length, drop, get_or}
use Rattle.text.proofs.Cases.{by_test, by_order}
use Rattle.attribute.specs.declared.Variant.{Variant}
use Rattle.token.specs.declared.Token.{Token}
use Rattle.token.specs.Command.{acts_on_a_digit}
use Rattle.token.specs.Roles.{letter_of}
use Rattle.lexer.specs.declared.Lexeme.{Lexeme}
use Rattle.lexer.specs.Lex.{is_alphabetic, run, lexeme, next_token}
use Rattle.lexer.proofs.RunLaws.{run_more, run_stop, run_end}
use Rattle.lexer.proofs.AlphabeticLaws.{letter_at}
use Rattle.parser.specs.declared.Parser.{Parser}
use Rattle.parser.specs.State.{following, next, past_letters, state_at, PastLetters, parse_text}
use Rattle.parser.specs.Sound.{Sound}
use Rattle.parser.proofs.LeastLaws.{following_lies, next_lies}
use Rattle.parser.proofs.MoveLaws.{letter_byte, past_none}

-- the token behind the current one lies in the body
pub next_inside : (s : List ℕ) (p : Parser) → p.peek.end ≤ length s → (next s p).peek.end ≤ length s
unfolding next
next_inside s p h = (following_lies s p.peek.token p.peek.end h).inside

-- no letter acts on a digit
behind_letter : (s : List ℕ) (x : Lexeme) (c : ℕ) (v : Variant) → x.token ≡ Token.Letter c v
    → following x.token x.end (drop x.end s) ≡ next_token x.end (drop x.end s)
unfolding following acts_on_a_digit
behind_letter s x c v e = rw (e, following)

-- a letter that is the current token is passed
past_letter : (s : List ℕ) (x : Lexeme) (c : ℕ) (v : Variant) → x.token ≡ Token.Letter c v
    → (k made : ℕ) → past_letters (suc k) s (state_at s x made) ≡ past_letters k s (state_at s (next_token x.end (drop x.end s)) made)
unfolding past_letters next letter_of
past_letter s x c v e k made =
    rw (past_letters, ap letter_of e) (ap (λ l. past_letters k s (state_at s l made)) (behind_letter s x c v e))

-- From a place on, where x is the next token.
module _ (s : List ℕ) (at : ℕ) (inside : at ≤ length s) (x : Lexeme) (is : x ≡ next_token at (drop at s)) where
  pub past_here : letter_of x.token ≡ none → PastLetters s at x
  past_here e k made h = rw (← is) (past_none k s (state_at s x made) e)

  module _ (c : ℕ) (v : Variant) (e : x.token ≡ Token.Letter c v) where
    pub letter_lies : (at < x.end) × (x.end ≤ length s)
    unfolding letter_of
    letter_lies =
        let there = rw (← is) at (next_lies s at inside) in
        let byte = letter_byte x.token c (rw e) in
        (omega (arith, there.from, there.wide), there.inside)

    pub past_on : {l : Lexeme} → PastLetters s x.end l → PastLetters s at l
    past_on f zero made h = let there = letter_lies in absurd (omega arith)
    past_on f (suc k) made h =
        let there = letter_lies in
        rw (← is) (past_letter s x c v e k made ∙ f k made (omega arith))

-- the ASCII letters from a place on are passed as bytes
past_run : (s : List ℕ) (n at : ℕ) → run is_alphabetic (drop at s) ≡ n → {l : Lexeme} → PastLetters s (at + n) l → PastLetters s at l
past_run s zero at e {l} f = subst (λ (q : ℕ). PastLetters s q l) (omega arith) f
past_run s (suc n) at e {l} f =
    by_order at (length s)
    (λ inside.
    by_test (is_alphabetic (get_or s at 0))
    (λ h.
    let b = get_or s at 0 in
    let rest : run is_alphabetic (drop (at + 1) s) ≡ n = omega (arith, e, run_more is_alphabetic s at inside h) in
    let behind : PastLetters s (at + 1) l = past_run s n (at + 1) rest (subst (λ (q : ℕ). PastLetters s q l) (omega arith) f) in
    past_on s at (omega arith) (lexeme (Token.Letter b Variant.Italic) at (at + 1)) (sym (letter_at s at inside h)) b Variant.Italic refl behind)
    (λ h. absurd (omega (arith, e, run_stop is_alphabetic s at inside h))))
    (λ h. absurd (omega (arith, e, run_end is_alphabetic s at h)))

-- On the way past the letters from a place on, where l is the next token: what is behind the letters from it on is behind them all.
pub record Passing (s : List ℕ) (from : ℕ) (l : Lexeme) : Type 0 where
  pub at : ℕ
  pub inside : at ≤ length s
  pub is : l ≡ next_token at (drop at s)
  pub ends : l.end ≤ length s
  pub on : (x : Lexeme) → PastLetters s at x → PastLetters s from x

pub passing_all : {s : List ℕ} {from : ℕ} {l : Lexeme} → Passing s from l → letter_of l.token ≡ none → PastLetters s from l
passing_all {s} {from} {l} p e = p.on l (past_here s p.at p.inside l p.is e)

-- .. at the beginning, where l is the token behind the ASCII letters from a place on,
pub passing_first : {s : List ℕ} {from at : ℕ} {l : Lexeme} → at ≡ from + run is_alphabetic (drop from s) → at ≤ length s → l ≡ next_token at (drop at s)
    → l.end ≤ length s → Passing s from l
passing_first {s} {from} {at} {l} run-is inside is ends = record {
  at = at;
  inside = inside;
  is = is;
  ends = ends;
  on = λ x h. past_run s (run is_alphabetic (drop from s)) from refl (subst (λ (q : ℕ). PastLetters s q x) run-is h);
}

-- .. and where l is a letter, and l' the token behind the ASCII letters behind it
module _ {s : List ℕ} {from : ℕ} {l : Lexeme} (p : Passing s from l) (c : ℕ) (v : Variant) (e : l.token ≡ Token.Letter c v) {l' : Lexeme} where
  pub passing_more : Passing s l.end l' → Passing s from l'
  passing_more q = record {
    at = q.at;
    inside = q.inside;
    is = q.is;
    ends = q.ends;
    on = λ x h. p.on x (past_on s p.at p.inside l p.is c v e (q.on x h));
  }

  pub passing_less : {at : ℕ} → l.end ≤ at → at ≤ length s → l' ≡ next_token at (drop at s) → (l.start < length s) × (l.start < l'.start)
  unfolding letter_of
  passing_less {at} reached inside is =
      let here = rw (← p.is) at (next_lies s p.at p.inside) in
      let there = rw (← is) at (next_lies s at inside) in
      let byte = letter_byte l.token c (rw e) in
      (omega (arith, here.wide, here.inside), omega (arith, here.wide, there.from))

-- What parse_text reads, by the token behind the current one.
module _ (s : List ℕ) (p : Parser) where
  pub text_none : letter_of p.peek.token ≡ none → parse_text s p ≡ record { a = p.peek.start; e = p.peek.start; after = next s p }
  unfolding parse_text next
  text_none e = rw (past_none (length s) s (next s p) e)

  pub text_some : Sound s p → (c : ℕ) (v : Variant) → p.peek.token ≡ Token.Letter c v → (l : Lexeme) → PastLetters s p.peek.end l
      → parse_text s p ≡ record { a = p.peek.start; e = l.start; after = state_at s l p.made }
  unfolding parse_text next letter_of
  text_some h c v e l f =
      let there = h.peek in
      let byte = letter_byte p.peek.token c (rw e) in
      let more : length s ≡ suc (length s - 1) = omega (arith, there.wide, there.inside) in
      let past : past_letters (length s) s (next s p) ≡ state_at s l p.made =
      ap (λ k. past_letters k s (next s p)) more ∙ past_letter s p.peek c v e (length s - 1) p.made ∙ f (length s - 1) p.made (omega (arith, there.wide)) in
      rw past
