-- The fixed texts that tokens and nodes carry by number, and the widths of a space.
-- Assumes nothing.
use Rattle.std.specs.Prelude.{ℕ, suc, true, false, List, [], ◌∷◌, ◌==◌, slice_index_or}
use Prim.Native.String.{String}
use lib.Text.{eqt}
use Rattle.text.specs.declared.Dialect.{Dialect}

-- the empty parenthesis, then the lexer's texts and the commands' texts, each in the Rust's order, then those of the strict dialect alone
unfoldable pub texts : List String
texts =
    "" ∷
    "(" ∷ ")" ∷ "[" ∷ "]" ∷ "|" ∷ ":=" ∷
    "&lang;" ∷ "&rang;" ∷ "{" ∷ "}" ∷ "⌈" ∷ "⌉" ∷ "⌊" ∷ "⌋" ∷ "⦗" ∷ "⦘" ∷ "⟦" ∷ "⟧" ∷
    "lim" ∷ "lim inf" ∷ "lim sup" ∷ "min" ∷ "max" ∷ "inf" ∷ "sup" ∷
    "1.2em" ∷ "1.623em" ∷ "2.047em" ∷ "2.470em" ∷
    "sin" ∷ "cos" ∷ "tan" ∷ "csc" ∷ "sec" ∷ "cot" ∷ "arcsin" ∷ "arccos" ∷ "arctan" ∷ "sinh" ∷ "cosh" ∷ "tanh" ∷ "coth" ∷
    "exp" ∷ "ln" ∷ "log" ∷ "erf" ∷ "erfc" ∷ "arg" ∷ "ker" ∷ "dim" ∷ "det" ∷ "℘" ∷
    "∥" ∷
    "⟨" ∷ "⟩" ∷
    []

-- a space's widths, as the Rust writes them, and as it prints the f32 of each
unfoldable pub widths : List String
widths = "-3./18." ∷ "3./18." ∷ "4./18." ∷ "5./18." ∷ "1." ∷ "2." ∷ []

unfoldable pub printed_widths : List String
printed_widths = "-0.16666667" ∷ "0.16666667" ∷ "0.22222222" ∷ "0.2777778" ∷ "1" ∷ "2" ∷ []

-- a text's place in a list
abbrev pub place : String → List String → ℕ
place t [] = 0
place t (u ∷ us) = elim (eqt t u) [ true ↦ 0 | false ↦ suc (place t us) ]

-- the number of a fixed text, and the text of a number
unfoldable pub text : String → ℕ
text t = place t texts

unfoldable pub text_of : ℕ → String
text_of n = slice_index_or texts n ""

-- the number of a fixed text in a dialect: the strict one has characters for the two names of angle brackets
unfoldable pub text_in : Dialect → ℕ → ℕ
text_in Dialect.Old t = t
text_in Dialect.Strict t =
    elim (t == (text "&lang;")) [ true ↦ text "⟨" | false ↦ elim (t == (text "&rang;")) [ true ↦ text "⟩" | false ↦ t ] ]

-- the number of a width, and what is printed for a number
unfoldable pub width : String → ℕ
width w = place w widths

unfoldable pub width_of : ℕ → String
width_of n = slice_index_or printed_widths n ""
