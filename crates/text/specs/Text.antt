-- Parts of a list, and the bytes of a quoted text.
-- Assumes nothing.
use Rattle.std.specs.Prelude.{List, ℕ, ◌-◌, take, drop}
use mathlib.Core.List as L
use Prim.Native.Char.{code}
use Prim.Native.String.{String, [], ◌∷◌}
use Rattle.text.specs.Utf8.{encode}

-- the elements from a up to e, e left out, as `&s[a..e]` has them
abbrev pub part : {A : Type 0} → ℕ → ℕ → List A → List A
part a e l = take (e - a) (drop a l)

-- the bytes of a text
unfoldable pub bytes : String → List ℕ
bytes [] = L.[]
bytes (c ∷ t) = L.◌++◌ (encode (code c)) (bytes t)
