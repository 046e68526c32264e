-- The next token of a list of bytes: the Rust's lexer.rs.
-- Assumes nothing.
use Rattle.std.specs.Prelude.{Bool, true, false, ◌&&◌, ◌||◌, List, [], ◌∷◌, ℕ, suc, ◌+◌, eqb, leb, take, drop}
use Prim.Native.Char.{code}
use Rattle.text.specs.Utf8.{code_point}
use Rattle.attribute.specs.declared.Variant.{Variant}
use Rattle.token.specs.declared.Token.{Token}
use Rattle.token.specs.Texts.{text}
use Rattle.token.specs.Command.{from_command}
use Rattle.lexer.specs.declared.Lexeme.{Lexeme}

abbrev pub is_whitespace : ℕ → Bool
is_whitespace c = eqb c (code " ") || eqb c (code "\t") || eqb c (code "\n") || eqb c (code "\r")

abbrev pub is_digit : ℕ → Bool
is_digit c = leb (code "0") c && leb c (code "9")

abbrev pub is_alphabetic : ℕ → Bool
is_alphabetic c = leb (code "a") c && leb c (code "z") || leb (code "A") c && leb c (code "Z")

-- how many bytes at the head pass the test
unfoldable pub run : (ℕ → Bool) → List ℕ → ℕ
run test [] = 0
run test (b ∷ l) = elim (test b) [ true ↦ suc (run test l) | false ↦ 0 ]

abbrev pub skip_whitespace : List ℕ → ℕ
skip_whitespace l = run is_whitespace l

-- how many bytes of a number stand at the head: digits, and a period unless there was one
unfoldable pub read_number : Bool → List ℕ → ℕ
read_number hasPeriod [] = 0
read_number hasPeriod (b ∷ l) =
    elim (is_digit b) [
      | true ↦ suc (read_number hasPeriod l)
      | false ↦ elim (eqb b (code ".")) [ true ↦ elim hasPeriod [ true ↦ 0 | false ↦ suc (read_number true l) ] | false ↦ 0 ]
    ]

-- how many bytes of a command's name stand at the head: a run of ASCII letters, or one character of any other kind
unfoldable pub name_length : List ℕ → ℕ
name_length l = elim (is_alphabetic (code_point l).code) [ true ↦ run is_alphabetic l | false ↦ (code_point l).width ]

-- the characters that are a token each
infix 70 ◌=>◌
abbrev pub ◌=>◌ : ℕ → Token → ℕ × Token
c => t = (c, t)

unfoldable pub punctuation : List (ℕ × Token)
punctuation =
    code "=" => Token.Operator (code "=") ∷
    code ";" => Token.Operator (code ";") ∷
    code "," => Token.Operator (code ",") ∷
    code "." => Token.Operator (code ".") ∷
    code "'" => Token.Operator (code "'") ∷
    code "(" => Token.Paren (text "(") ∷
    code ")" => Token.Paren (text ")") ∷
    code "{" => Token.LBrace ∷
    code "}" => Token.RBrace ∷
    code "[" => Token.Paren (text "[") ∷
    code "]" => Token.Paren (text "]") ∷
    code "|" => Token.Paren (text "|") ∷
    code "+" => Token.Operator (code "+") ∷
    code "-" => Token.Operator (code "-") ∷
    code "*" => Token.Operator (code "*") ∷
    code "/" => Token.Operator (code "/") ∷
    code "!" => Token.Operator (code "!") ∷
    code "<" => Token.Operator (code "<") ∷
    code ">" => Token.Operator (code ">") ∷
    code "_" => Token.Underscore ∷
    code "^" => Token.Circumflex ∷
    code "&" => Token.Ampersand ∷
    code "\0" => Token.EOF ∷
    code ":" => Token.Operator (code ":") ∷
    []

unfoldable pub letter : ℕ → Token
letter c = Token.Letter c (elim (is_alphabetic c) [ true ↦ Variant.Italic | false ↦ Variant.Normal ])

unfoldable pub of_character : List (ℕ × Token) → ℕ → Token
of_character [] c = letter c
of_character (p ∷ ps) c = elim (eqb c p.0) [ true ↦ p.1 | false ↦ of_character ps c ]

abbrev pub lexeme : Token → ℕ → ℕ → Lexeme
lexeme t a e = record { token = t; start = a; end = e }

-- the command whose backslash is at `at`, of which l are the bytes after the backslash
unfoldable pub read_command : ℕ → List ℕ → Lexeme
read_command at l =
    let a : ℕ = suc at in
    let e : ℕ = a + name_length l in
    lexeme (from_command (take (name_length l) l) (Token.Command a e)) at e

-- the number whose first digit is at `at`, the head of l
unfoldable pub number_at : ℕ → List ℕ → Lexeme
number_at at l =
    let e : ℕ = at + read_number false l in
    lexeme (Token.Number at e) at e

-- the head is a colon, and an equals sign follows it
unfoldable pub assigns : List ℕ → Bool
assigns [] = false
assigns (b ∷ []) = false
assigns (b ∷ (d ∷ l)) = eqb b (code ":") && eqb d (code "=")

-- the token at the head of the bytes l, which begin at `at`
unfoldable pub token_at : ℕ → List ℕ → Lexeme
token_at at l =
    let c : ℕ = (code_point l).code in
    elim (assigns l) [
      | true ↦ lexeme (Token.Paren (text ":=")) at (at + 2)
      | false ↦
          elim (eqb c (code "\\")) [
            | true ↦ read_command at (drop 1 l)
            | false ↦
                elim (is_digit c) [
                  | true ↦ number_at at l
                  | false ↦ lexeme (of_character punctuation c) at (at + (code_point l).width)
                ]
          ]
    ]

-- the next token of the bytes l, which begin at `at`
unfoldable pub next_token : ℕ → List ℕ → Lexeme
next_token at l = token_at (at + skip_whitespace l) (drop (skip_whitespace l) l)
