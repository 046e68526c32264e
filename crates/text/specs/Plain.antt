-- Characters and bytes without a dollar.
-- Assumes nothing.
use Rattle.std.specs.Prelude.{Bool, true, ◌&&◌, not, List, [], ◌∷◌, ℕ, eqb}
use Prim.Native.Char.{code}

-- a character, or a byte, that is no dollar
abbrev pub no_dollar : ℕ → Bool
no_dollar c = not (eqb c (code "$"))

-- no byte is a dollar
unfoldable pub plain : List ℕ → Bool
plain [] = true
plain (b ∷ l) = no_dollar b && plain l
