-- The places of a text that pass a test.
-- Assumes nothing.
use Rattle.std.specs.Prelude.{◌≡◌, Bool, true, false, List, [], ◌∷◌, ℕ, suc, ◌%◌, ◌≤◌, ◌<◌, eqb, length, drop, Option, MatchOption}

-- the places of a text, which begins at `at`, where what stands from there on passes the test
unfoldable pub places : (List ℕ → Bool) → ℕ → List ℕ → List ℕ
places test at [] = []
places test at (b ∷ l) = elim (test (b ∷ l)) [ true ↦ at ∷ places test (suc at) l | false ↦ places test (suc at) l ]

unfoldable pub odd : List ℕ → Bool
odd l = eqb (length l % 2) 1

-- the first place of a text, which begins at `at`, where what stands from there on passes the test, or the place behind its end
unfoldable pub next_place : (List ℕ → Bool) → ℕ → List ℕ → ℕ
next_place test at [] = at
next_place test at (b ∷ l) = elim (test (b ∷ l)) [ true ↦ at | false ↦ next_place test (suc at) l ]

-- r is the first place of s from `from` on that passes the test, or the length
abbrev pub IsNext : (List ℕ → Bool) → List ℕ → ℕ → ℕ → Type 0
IsNext test s from r = (r ≡ next_place test from (drop from s)) × (from ≤ r) × (r ≤ length s)

-- the first such place is found, or there is none
abbrev pub Finds : (List ℕ → Bool) → List ℕ → ℕ → Option ℕ → Type 0
Finds test s from found =
    MatchOption found (next_place test from (drop from s) ≡ length s) (λ r. IsNext test s from r × (r < length s))
