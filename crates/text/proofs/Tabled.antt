-- A rule of a table, proved at each of its places by one test that antt computes over all of them.
-- Assumes nothing.
use mathlib.Core.Path.{◌≡◌, ap, sym, ◌∙◌}
use mathlib.Core.Logic.{⊎_elim}
use mathlib.Core.List.{List, [], ◌∷◌}
use Prim.Native.Nat.{ℕ, zero, suc, ◌<◌}
use native.Mathlib.Nat.{le_of_suc-le-suc, not-suc-le-zero, eq-or-lt_of_le}

-- what f gives at each place below n, the last first
abbrev pub tab : {A : Type 0} → (ℕ → A) → ℕ → List A
tab f zero = []
tab f (suc n) = f n ∷ tab f n

pub each : {A : Type 0} (f g : ℕ → A) (n : ℕ) → tab f n ≡ tab g n → (i : ℕ) → i < n → f i ≡ g i
each f g zero e i h = absurd (not-suc-le-zero h)
each f g (suc n) e i h =
    let here : f n ≡ g n = cc in
    let below : tab f n ≡ tab g n = cc in
    ⊎_elim (λ q. ap f q ∙ here ∙ ap g (sym q)) (λ l. each f g n below i l) (eq-or-lt_of_le (le_of_suc-le-suc h))
