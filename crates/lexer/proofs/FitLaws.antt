-- The tokens and the letters of bytes whose characters pass a test.
-- Assumes nothing.
use mathlib.Core.Path.{◌≡◌, refl}
use mathlib.Core.Bool.{Bool, true, false, and-eq-true_iff}
use mathlib.Core.List.{List, [], ◌∷◌}
use mathlib.Core.Option.{Option, none, some}
use Prim.Native.Nat.{ℕ, zero, suc, ◌+◌}
use Prim.Native.String.{String}
use lib.Dec.{eqb}
use lib.ListN.{length, take, drop}
use Rattle.text.specs.Utf8.{code_point}
use Rattle.text.proofs.Cases.{by_test}
use Rattle.text.proofs.Utf8Laws.{every}
use Rattle.token.specs.declared.Token.{Token}
use Rattle.token.specs.Spell.{spells}
use Rattle.token.specs.Command.{own_arms}
use Rattle.token.specs.Roles.{letter_of}
use Rattle.token.proofs.FitLaws.{Asks, passing, carried, TokenFit, LetterFit, letter_fit, passes, arm_passes, passed, command_fit}
use Rattle.lexer.specs.Lex.{is_digit, skip_whitespace, read_number, name_length, punctuation, letter, of_character, read_command, number_at, assigns, token_at, next_token}
use Rattle.lexer.specs.Letters.{letters_within, letters}

-- bytes that are as P says: the character at the head of them passes the test, and so does the token of an arm that they name; and so it is
-- behind any number of them
pub record Passing (test : ℕ → Bool) (P : List ℕ → Type 0) : Type 0 where
  pub behind : (n : ℕ) (l : List ℕ) → P l → P (drop n l)
  pub head : (b : ℕ) (l : List ℕ) → P (b ∷ l) → test (code_point (b ∷ l)).code ≡ true
  pub named : String → Bool
  pub spelled : (n : ℕ) (l : List ℕ) → P l → (t : String) → spells (take n l) t ≡ true → named t ≡ true
  pub arms : every (arm_passes named test) own_arms ≡ true
  pub marks : every (λ q. passes test (carried q.1)) punctuation ≡ true

module _ {test : ℕ → Bool} {P : List ℕ → Type 0} (bytes : Passing test P) where
  -- ---- tokens

  module _ (asks : Asks) (tells : (c : ℕ) → test c ≡ true → asks.ok c) where
    -- a character's token, by a test of the punctuation
    of_fit : (qs : List (ℕ × Token)) (c : ℕ) → every (λ q. passes test (carried q.1)) qs ≡ true → test c ≡ true → TokenFit asks (of_character qs c)
    unfolding of_character letter
    of_fit [] c all h = tells c h
    of_fit (q ∷ qs) c all h =
        let k = (and-eq-true_iff (passes test (carried q.1)) (every (λ x. passes test (carried x.1)) qs)).0 all in
        by_test (eqb c q.0)
        (λ e. rw (of_character, e) (passed asks test tells (carried q.1) k.0))
        (λ e. rw (of_character, e) (of_fit qs c k.1 h))

    -- the token at the head of the bytes l, which begin at `at`; at their end stands EOF
    pub token_fit : (at : ℕ) (l : List ℕ) → P l → asks.digits at (at + read_number false l)
        → (eqb (code_point l).code 92 ≡ true → asks.name (suc at) (suc at + name_length (drop 1 l))) → TokenFit asks (token_at at l).token
    unfolding token_at read_command number_at punctuation code_point assigns of_character
    token_fit at [] h number command = tt
    token_fit at (b ∷ l) h number command =
        let c = (code_point (b ∷ l)).code in
        by_test (assigns (b ∷ l))
        (λ x. rw (token_at, x) tt)
        (λ x.
        by_test (eqb c 92)
        (λ y.
        let n = name_length l in
        rw (token_at, x, y)
        (command_fit asks test tells bytes.named (take n l) (bytes.spelled n l (bytes.behind 1 (b ∷ l) h)) (Token.Command (suc at) (suc at + n)) (command y) bytes.arms))
        (λ y.
        by_test (is_digit c)
        (λ z. rw (token_at, x, y, z) number)
        (λ z. rw (token_at, x, y, z) (of_fit punctuation c bytes.marks (bytes.head b l h)))))

  -- the next token, where nothing is asked of places
  pub next_fit : (at : ℕ) (l : List ℕ) → P l → TokenFit (passing test) (next_token at l).token
  unfolding next_token
  next_fit at l h = token_fit (passing test) (λ c e. e) (at + skip_whitespace l) (drop (skip_whitespace l) l) (bytes.behind (skip_whitespace l) l h) tt (λ e. tt)

  -- ---- letters

  one_more : (o : Option ℕ) (cs : List ℕ) → LetterFit (passing test) o → every test cs ≡ true → every test (elim o [ none ↦ [] | some c ↦ c ∷ cs ]) ≡ true
  one_more none cs h k = refl
  one_more (some c) cs h k = rw (h, k)

  within_fit : (n : ℕ) (l : List ℕ) → P l → every test (letters_within n l) ≡ true
  unfolding letters_within
  within_fit zero l h = refl
  within_fit (suc n) l h =
      let read = next_token 0 l in
      one_more (letter_of read.token) (letters_within n (drop read.end l)) (letter_fit (passing test) read.token (next_fit 0 l h))
      (within_fit n (drop read.end l) (bytes.behind read.end l h))

  -- the letters at the head of the bytes
  pub letters_fit : (l : List ℕ) → P l → every test (letters l) ≡ true
  unfolding letters
  letters_fit l h = within_fit (length l) l h
