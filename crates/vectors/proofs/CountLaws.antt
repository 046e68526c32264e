-- How the counts grow from call to call.
-- Assumes nothing.
use Prim.Native.Nat.{ℕ, ◌+◌, ◌≤◌}
use native.Mathlib.Omega.{arith}
use Rattle.vectors.specs.declared.Tally.{Tally}
use Rattle.vectors.specs.Counts.{AtMost, Grows}

pub weaken : {t : Tally} {n m : ℕ} → AtMost t n → n ≤ m → AtMost t m
weaken h le =
    record { cases = omega (arith, h.cases); scope = omega (arith, h.scope); answers = omega (arith, h.answers); differ = omega (arith, h.differ) }

-- a call behind another
pub grows_then : (a b : ℕ) {t u v : Tally} → Grows t u a → Grows u v b → Grows t v (a + b)
grows_then a b f g n h = weaken (g (n + a) (f n h)) (omega arith)

-- what grows by less grows by no more
pub grows_less : (a b : ℕ) {t u : Tally} → Grows t u a → a ≤ b → Grows t u b
grows_less a b f le n h = weaken (f n h) (omega arith)
