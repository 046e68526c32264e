-- Cases: by a test, by the order of two numbers, and those that cannot be.
-- Assumes nothing.
use mathlib.Core.Path.{◌≡◌, refl}
use mathlib.Core.Bool.{Bool, true, false, ◌||◌, true≢false, false≢true}
use Prim.Native.Nat.{ℕ, ◌≤◌, ◌<◌}
use native.Mathlib.Omega.{arith}
use lib.Dec.{ltb}
use borrow.Author.Tests.{ltb-true, ltb-false}

-- where `cc` finds that 0 is 1, the case cannot be
pub never : {P : Type 0} → ◌≡◌ {A = ℕ} 0 1 → P
never z = absurd (omega arith)

-- a test, with its outcome as an equation
pub by_test : {P : Type 0} (b : Bool) → (b ≡ true → P) → (b ≡ false → P) → P
by_test true f g = f refl
by_test false f g = g refl

pub by_order : {P : Type 0} (m n : ℕ) → (m < n → P) → (n ≤ m → P) → P
by_order m n f g = by_test (ltb m n) (λ t. f (ltb-true m n t)) (λ t. g (ltb-false m n t))

pub by_three : {P : Type 0} (m n : ℕ) → (m < n → P) → (n < m → P) → (m ≡ n → P) → P
by_three m n f g h = by_order m n f (λ l. by_order n m g (λ k. h (omega arith)))

-- both tests of two hold
pub both : (a b : Bool) → ◌≡◌ {A = Bool} (elim a [ true ↦ b | false ↦ false ]) true → (a ≡ true) × (b ≡ true)
both true b e = (refl, e)
both false b e = absurd (false≢true e)

-- .. neither holds
pub neither : (a b : Bool) → (a || b) ≡ false → (a ≡ false) × (b ≡ false)
neither true b e = absurd (true≢false e)
neither false b e = (refl, e)
