-- What putting a piece of text into a buffer does: the bytes go in at a place.
-- Assumes nothing.
use Rattle.std.specs.Prelude.{◌≡◌, List, [], ◌∷◌, ◌++◌, ℕ, zero, suc, ◌+◌, ◌/◌, ◌%◌, ◌≤◌, length, take, drop}
use Rattle.text.specs.declared.put.Output.{Output}

-- the buffer o with bs at the place `at`
unfoldable pub put : List ℕ → ℕ → List ℕ → List ℕ
put o at bs = take at o ++ bs ++ drop (at + length bs) o

-- n bytes can be put at the place
pub record RoomAt (o : List ℕ) (at n : ℕ) : Type 0 where
  pub inside : at + n ≤ length o

-- bs are put at the place `at` of o, which gives o', and r is the place behind them
pub record PutsAt (o o' : List ℕ) (at : ℕ) (bs : List ℕ) (r : ℕ) : Type 0 where
  pub place : r ≡ at + length bs
  pub output : o' ≡ put o at bs

-- n bytes can be put into an output
pub record Room (o : Output) (n : ℕ) : Type 0 where
  pub inside : o.at + n ≤ length o.bytes.now

-- bs are put into the output o, which gives o': the same buffer, written as far as the place behind them
pub record Puts (o o' : Output) (bs : List ℕ) : Type 0 where
  pub same : o'.bytes.ghost_name ≡ o.bytes.ghost_name
  pub puts : PutsAt o.bytes.now o'.bytes.now o.at bs o'.at

-- the lowest n bytes of a number, the lowest first
unfoldable pub digits : ℕ → ℕ → List ℕ
digits zero v = []
digits (suc n) v = v % 256 ∷ digits n (v / 256)
