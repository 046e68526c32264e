-- An outcome is accepted or refused, and what is accepted was accepted step by step.
-- Assumes nothing.
use mathlib.Core.Path.{◌≡◌, refl}
use mathlib.Core.Bool.{Bool, true, false}
use Prim.Native.Nat.{◌<◌}
use native.Mathlib.Omega.{arith}
use Rattle.text.proofs.Cases.{never}
use Rattle.error.specs.declared.Refusal.{Refusal}
use Rattle.error.specs.Numbers.{number}
use Rattle.latex2mathml.specs.Outcome.{Outcome, accepted, refused, ◌>>=◌, refuse}

-- an outcome, as an equation
pub by_outcome : {A P : Type 0} (w : Outcome A) → ((a : A) → w ≡ accepted a → P) → ((r : Refusal) → w ≡ refused r → P) → P
by_outcome (accepted a) f g = f a refl
by_outcome (refused r) f g = g r refl

-- the number of a refusal is not that of an acceptance, and has at most two digits
pub number_range : (r : Refusal) → (0 < number r) × (number r < 100)
unfolding number
number_range Refusal.TooLong = (omega arith, omega arith)
number_range Refusal.IllFormed = (omega arith, omega arith)
number_range Refusal.StoreTooSmall = (omega arith, omega arith)
number_range Refusal.InvalidNumberOfDollarSigns = (omega arith, omega arith)
number_range Refusal.ThreeDollarSigns = (omega arith, omega arith)
number_range Refusal.UnexpectedToken = (omega arith, omega arith)
number_range Refusal.MissingParensethis = (omega arith, omega arith)
number_range Refusal.UnknownEnvironment = (omega arith, omega arith)
number_range Refusal.MiddleOperand = (omega arith, omega arith)
number_range Refusal.TooDeep = (omega arith, omega arith)
number_range Refusal.WorkTooSmall = (omega arith, omega arith)
number_range Refusal.OutputTooSmall = (omega arith, omega arith)
number_range Refusal.RepeatedMark = (omega arith, omega arith)
number_range Refusal.NulByte = (omega arith, omega arith)
number_range Refusal.ForbiddenCharacter = (omega arith, omega arith)

-- steps one behind the other, in one way or the other
pub bind_bind : {A B C : Type 0} (first : Outcome A) (second : A → Outcome B) (third : B → Outcome C) → (first >>= second >>= third) ≡ (first >>= (λ a. second a >>= third))
unfolding ◌>>=◌
bind_bind (accepted a) second third = refl
bind_bind (refused r) second third = refl

-- a first step's result, with which the second is accepted
pub record Steps {A B : Type 0} (first : Outcome A) (second : A → Outcome B) (b : B) : Type 0 where
  pub value : A
  pub is : first ≡ accepted value
  pub then : second value ≡ accepted b

pub steps : {A B : Type 0} (first : Outcome A) (second : A → Outcome B) (b : B) → (first >>= second) ≡ accepted b → Steps first second b
unfolding ◌>>=◌
steps (accepted a) second b e = record { value = a; is = refl; then = e }
steps (refused r) second b e = never cc

-- a test that does not refuse failed, at the end
pub refuses_none : (test : Bool) (r : Refusal) → refuse test r ≡ accepted tt → test ≡ false
unfolding refuse
refuses_none true r e = never cc
refuses_none false r e = refl

-- .. and before other steps
pub not_refused : {B : Type 0} (test : Bool) (r : Refusal) (second : Unit {0} → Outcome B) (b : B) → (refuse test r >>= second) ≡ accepted b
    → (test ≡ false) × (second tt ≡ accepted b)
unfolding refuse ◌>>=◌
not_refused true r second b e = never cc
not_refused false r second b e = (refl, e)
