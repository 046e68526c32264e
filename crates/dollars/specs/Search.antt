-- A byte, or two alike, at the head of some bytes.
-- Assumes nothing.
use Rattle.std.specs.Prelude.{Bool, false, ◌&&◌, List, [], ◌∷◌, ℕ, eqb, drop}

-- the first byte is b
unfoldable pub starts_with : ℕ → List ℕ → Bool
starts_with b [] = false
starts_with b (c ∷ l) = eqb c b

-- the first two bytes are b
unfoldable pub pair : ℕ → List ℕ → Bool
pair b l = starts_with b l && starts_with b (drop 1 l)
