-- Dollars, the marks of each pass, and prose, in which there is none.
-- Assumes nothing.
use Rattle.std.specs.Prelude.{Bool, false, not, ◌&&◌, ◌||◌, List, [], ◌∷◌, ℕ, eqb, ltb, drop}
use Prim.Native.Char.{code}
use Rattle.text.specs.Any.{any}
use Rattle.text.specs.Plain.{plain}
use Rattle.dollars.specs.declared.Delimiter.{Delimiter}
use Rattle.dollars.specs.declared.Delimiter.TheVariants.{Single, Double}

-- the bytes begin with a dollar, with two, with three
unfoldable pub dollar : List ℕ → Bool
dollar [] = false
dollar (b ∷ l) = eqb b (code "$")

unfoldable pub two_dollars : List ℕ → Bool
two_dollars l = dollar l && dollar (drop 1 l)

unfoldable pub three_dollars : List ℕ → Bool
three_dollars l = two_dollars l && dollar (drop 2 l)

-- a mark is two dollars in pass one, one in pass two
abbrev pub mark : Delimiter → List ℕ → Bool
mark Single = dollar
mark Double = two_dollars

abbrev pub width : Delimiter → ℕ
width Single = 1
width Double = 2

-- a byte is NUL, or not ASCII
unfoldable pub unusual : ℕ → Bool
unusual b = eqb b (code "\0") || ltb 0x7f b

-- no byte is NUL or above 127, and none is a dollar
unfoldable pub is_prose : List ℕ → Bool
is_prose l = not (any unusual l) && plain l
