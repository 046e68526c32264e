-- What the contracts say of the counts, so that none of them wraps.
-- Assumes nothing.
use Rattle.std.specs.Prelude.{ℕ, ◌+◌, ◌≤◌}
use Rattle.vectors.specs.declared.Tally.{Tally}

-- no count is above a number
pub record AtMost (t : Tally) (n : ℕ) : Type 0 where
  pub cases : t.cases ≤ n
  pub scope : t.scope ≤ n
  pub answers : t.answers ≤ n
  pub differ : t.differ ≤ n

-- no count grows by more than k
abbrev pub Grows : Tally → Tally → ℕ → Type 0
Grows t r k = (n : ℕ) → AtMost t n → AtMost r (n + k)
