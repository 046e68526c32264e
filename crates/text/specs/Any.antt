-- Bytes of which at least one passes a test.
-- Assumes nothing.
use Rattle.std.specs.Prelude.{Bool, false, ◌||◌, not, List, [], ◌∷◌, ℕ, eqb, ltb}
use Prim.Native.Char.{code}

-- at least one byte passes the test
unfoldable pub any : (ℕ → Bool) → List ℕ → Bool
any test [] = false
any test (b ∷ l) = test b || any test l

-- .. is b
abbrev pub contains : ℕ → List ℕ → Bool
contains b l = any (λ c. eqb c b) l

abbrev pub has_nul : List ℕ → Bool
has_nul l = contains (code "\0") l

-- no byte is above 127
abbrev pub is_ascii : List ℕ → Bool
is_ascii l = not (any (ltb 0x7f) l)
