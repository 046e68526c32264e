-- Worked examples, which antt computes.
-- Assumes nothing.
use Rattle.std.specs.Prelude.{◌≡◌, refl, List, [], ◌∷◌, ℕ, zero, suc, drop}
use Prim.Native.Char.{code}
use Rattle.text.specs.Text.{bytes}
use Rattle.text.specs.declared.Dialect.{Dialect}
use Rattle.text.specs.Xml.{xml_escape, xml_text, in_text}
use Rattle.text.specs.Examples.{text_opens}
use Rattle.attribute.specs.declared.Variant.{Variant}
use Rattle.token.specs.declared.Token.{Token}
use Rattle.token.specs.Texts.{text}
use Rattle.token.specs.Examples.{token_opens}
use Rattle.lexer.specs.declared.Lexeme.{Lexeme}
use Rattle.lexer.specs.Lex.{run, read_number, name_length, punctuation, letter, of_character, lexeme, read_command, number_at, assigns, token_at, next_token}
use Rattle.lexer.specs.Letters.{letters_within, letters, encode_all}

-- whoever unfolds this unfolds all definitions of this crate, as an example has to
unfoldable pub lexer_opens : Unit {0}
unfolding run read_number name_length punctuation letter of_character read_command number_at assigns token_at next_token letters_within letters encode_all
lexer_opens = tt

-- the next k tokens of the body s from `at` on
unfoldable pub tokens : ℕ → ℕ → List ℕ → List Lexeme
tokens zero at s = []
tokens (suc k) at s =
    let t : Lexeme = next_token at (drop at s) in
    t ∷ tokens k t.end s

-- whitespace of each kind, one period in a number, a command of letters and one of another character
read : tokens 7 0 (bytes " \t1.2.3\n\\alpha\r\\1é")
    ≡ lexeme (Token.Number 2 5) 2 5
    ∷ lexeme (Token.Operator (code ".")) 5 6
    ∷ lexeme (Token.Number 6 7) 6 7
    ∷ lexeme (Token.Letter (code "α") Variant.Italic) 8 14
    ∷ lexeme (Token.Command 16 17) 15 17
    ∷ lexeme (Token.Letter (code "é") Variant.Normal) 17 19
    ∷ lexeme Token.EOF 19 19
    ∷ []
unfolding text_opens token_opens lexer_opens tokens
read = refl

-- a NUL is passed like any character, a colon looks one byte ahead, and a backslash at the end has an empty name
ends : tokens 6 0 (bytes "\0a:=:\\")
    ≡ lexeme Token.EOF 0 1
    ∷ lexeme (Token.Letter (code "a") Variant.Italic) 1 2
    ∷ lexeme (Token.Paren (text ":=")) 2 4
    ∷ lexeme (Token.Operator (code ":")) 4 5
    ∷ lexeme (Token.Command 6 6) 5 6
    ∷ lexeme Token.EOF 6 6
    ∷ []
unfolding text_opens token_opens lexer_opens tokens
ends = refl

-- the characters of a text are those of its letters, whatever stands between them
text_of_letters : letters (bytes "a \\beta\n字1c") ≡ code "a" ∷ code "β" ∷ code "字" ∷ []
unfolding text_opens token_opens lexer_opens
text_of_letters = refl

-- .. and the strict dialect escapes them
strict_letters : in_text Dialect.Strict (encode_all (letters (bytes "a\\&b"))) ≡ bytes "a&amp;b"
unfolding text_opens xml_escape xml_text in_text token_opens lexer_opens
strict_letters = refl
