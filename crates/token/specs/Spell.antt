-- How an arm of the Rust's match over a string is written and read.
-- Assumes nothing.
use Rattle.std.specs.Prelude.{ℕ, Bool, true, false, List, ◌==◌}
use mathlib.Core.List as L
use Prim.Native.Char.{code}
use Prim.Native.String.{String, [], ◌∷◌}

-- an arm: a name and what it gives
pub record Arm (A : Type 0) : Type 0 where
  pub name : String
  pub gives : A

infix 70 ◌=>◌
abbrev pub ◌=>◌ : {A : Type 0} → String → A → Arm A
n => a = record { name = n; gives = a }

-- the numbers are the code points of the name
abbrev pub spells : List ℕ → String → Bool
spells L.[] [] = true
spells L.[] (c ∷ t) = false
spells (L.◌∷◌ n s) [] = false
spells (L.◌∷◌ n s) (c ∷ t) = elim (n == code c) [ true ↦ spells s t | false ↦ false ]

-- what the first arm gives whose name is spelled so, else `other`
abbrev pub first : {A : Type 0} → List ℕ → A → List (Arm A) → A
first s other L.[] = other
first s other (L.◌∷◌ arm rest) = elim (spells s arm.name) [ true ↦ arm.gives | false ↦ first s other rest ]
