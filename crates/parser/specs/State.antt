-- The parser's state over a body s, and how it moves: the Rust's `Parser::new`, `next_token` and `parse_text`.
-- Assumes nothing.
use Rattle.std.specs.Prelude.{◌≡◌, Bool, true, false, ◌&&◌, List, [], ◌∷◌, ℕ, zero, suc, ◌+◌, ◌≤◌, length, drop}
use Rattle.std.proofs.Math.Option.{none, some}
use Rattle.token.specs.declared.Token.{Token}
use Rattle.token.specs.declared.Mark.{Mark}
use Rattle.token.specs.Command.{acts_on_a_digit}
use Rattle.token.specs.Roles.{token_is, letter_of}
use Rattle.lexer.specs.declared.Lexeme.{Lexeme}
use Rattle.lexer.specs.Lex.{lexeme, is_digit, next_token}
use Rattle.parser.specs.declared.Parser.{Parser}
use Rattle.parser.specs.declared.TextRead.{TextRead}

unfoldable pub starts_with_digit : List ℕ → Bool
starts_with_digit [] = false
starts_with_digit (b ∷ l) = is_digit b

-- the token after t, of which l are the bytes behind it, at `at`: a digit directly behind a token that acts on it is a number
unfoldable pub following : Token → ℕ → List ℕ → Lexeme
following t at l =
    elim (acts_on_a_digit t && starts_with_digit l) [ true ↦ lexeme (Token.Number at (suc at)) at (suc at) | false ↦ next_token at l ]

unfoldable pub next : List ℕ → Parser → Parser
next s p =
    let at : ℕ = p.peek.end in
    record { cur = p.peek; peek = following p.peek.token at (drop at s); made = p.made }

-- the state before the first token: the two tokens are of no account
unfoldable pub new : List ℕ → Parser
new s =
    let nothing : Lexeme = lexeme Token.EOF 0 0 in
    next s (next s (record { cur = nothing; peek = nothing; made = 0 }))

abbrev pub cur_is : Parser → Mark → Bool
cur_is p m = token_is p.cur.token m

abbrev pub peek_is : Parser → Mark → Bool
peek_is p m = token_is p.peek.token m

-- past the tokens that are letters, at most k of them
unfoldable pub past_letters : ℕ → List ℕ → Parser → Parser
past_letters zero s p = p
past_letters (suc k) s p = elim (letter_of p.cur.token) [ none ↦ p | some c ↦ past_letters k s (next s p) ]

-- the state with l as its current token
abbrev pub state_at : List ℕ → Lexeme → ℕ → Parser
state_at s l made = record { cur = l; peek = following l.token l.end (drop l.end s); made = made }

-- past the letters from a place on l is the current token, whatever is made and wherever the budget is enough
abbrev pub PastLetters : List ℕ → ℕ → Lexeme → Type 0
PastLetters s at l =
    (k made : ℕ) → length s ≤ at + k → past_letters k s (state_at s (next_token at (drop at s)) made) ≡ state_at s l made

-- the letters behind the current token, which is passed unseen; each takes a byte or more, so k never runs out
unfoldable pub parse_text : List ℕ → Parser → TextRead
parse_text s p =
    let begin : Parser = next s p in
    let after : Parser = past_letters (length s) s begin in
    record { a = begin.cur.start; e = after.cur.start; after = after }
