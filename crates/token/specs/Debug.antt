-- The derived Debug text of the tokens that can become `Undefined`, with the escapes of document 01.
-- Assumes nothing.
use Rattle.std.specs.Prelude.{◌≡◌, ℕ, ◌/◌, ◌%◌, ◌≤◌, Bool, true, false, ◌||◌, List, [], ◌∷◌, ◌++◌, ◌==◌, nat_lt, slice_index, Option, Some, None}
use Rattle.std.specs.Borrow.{Bor}
use Prim.Native.Char.{code}
use Rattle.text.specs.Text.{bytes, part}
use Rattle.text.specs.Xml.{in_text}
use Rattle.text.specs.declared.Dialect.{Dialect}
use Rattle.token.specs.declared.Undefined.{Undefined}

-- a number below 256 in lower-case hexadecimal, with no leading zero
unfoldable pub digit : ℕ → ℕ
digit n = slice_index (bytes "0123456789abcdef") n

unfoldable pub hexadecimal : ℕ → List ℕ
hexadecimal b = elim (nat_lt b 16) [ true ↦ digit b ∷ [] | false ↦ digit (b / 16) ∷ digit (b % 16) ∷ [] ]

-- ASCII that is no graphic character and no space
unfoldable pub control : ℕ → Bool
control b = nat_lt b 32 || b == 127

-- the escapes that have a letter of their own
unfoldable pub escapes : List (ℕ × List ℕ)
escapes =
    (code "\"", bytes "\\\"") ∷
    (code "\\", bytes "\\\\") ∷
    (code "\0", bytes "\\0") ∷
    (code "\t", bytes "\\t") ∷
    (code "\n", bytes "\\n") ∷
    (code "\r", bytes "\\r") ∷
    []

unfoldable pub escape_by : List (ℕ × List ℕ) → ℕ → List ℕ
escape_by [] b = elim (control b) [ true ↦ bytes "\\u{" ++ (hexadecimal b ++ bytes "}") | false ↦ b ∷ [] ]
escape_by (e ∷ es) b = elim (b == e.0) [ true ↦ e.1 | false ↦ escape_by es b ]

-- what Debug writes for the bytes of a string, between its quotes
unfoldable pub escape : List ℕ → List ℕ
escape [] = []
escape (b ∷ l) = escape_by escapes b ++ escape l

-- the name of the command in the body s from a up to e: where nothing is left of the body the lexer has read a NUL
unfoldable pub or_nul : List ℕ → List ℕ
or_nul [] = 0 ∷ []
or_nul (b ∷ l) = b ∷ l

unfoldable pub command_name : List ℕ → ℕ → ℕ → List ℕ
command_name s a e = or_nul (part a e s)

unfoldable pub debug : List ℕ → Undefined → List ℕ
debug s Undefined.EOF = bytes "EOF"
debug s Undefined.End = bytes "End"
debug s Undefined.Right = bytes "Right"
debug s Undefined.RBrace = bytes "RBrace"
debug s Undefined.Underscore = bytes "Underscore"
debug s Undefined.Circumflex = bytes "Circumflex"
debug s (Undefined.Command a e) = bytes "Command(\"" ++ (escape (command_name s a e) ++ bytes "\")")

-- the name of a token's variant
unfoldable pub variant_name : Undefined → List ℕ
variant_name Undefined.EOF = bytes "EOF"
variant_name Undefined.End = bytes "End"
variant_name Undefined.Right = bytes "Right"
variant_name Undefined.RBrace = bytes "RBrace"
variant_name Undefined.Underscore = bytes "Underscore"
variant_name Undefined.Circumflex = bytes "Circumflex"
variant_name (Undefined.Command a e) = bytes "Command"

-- the Debug text of an unknown command, escaped once more, in a dialect
unfoldable pub command_text : Dialect → List ℕ → List ℕ
command_text d name = in_text d (escape (bytes "Command(\"" ++ (escape (or_nul name) ++ bytes "\")")))

-- a text stands for a byte, or the byte stands as itself
abbrev pub Stands : List ℕ → ℕ → Option (Bor (List ℕ)) → Type 0
Stands l b (Some text) = text.now ≡ l
Stands l b None = l ≡ b ∷ []

-- the places of a command's name lie in a body of n bytes
abbrev pub Inside : ℕ → Undefined → Type 0
Inside n Undefined.EOF = Unit {0}
Inside n Undefined.End = Unit {0}
Inside n Undefined.Right = Unit {0}
Inside n Undefined.RBrace = Unit {0}
Inside n Undefined.Underscore = Unit {0}
Inside n Undefined.Circumflex = Unit {0}
Inside n (Undefined.Command a e) = (a ≤ e) × (e ≤ n)
