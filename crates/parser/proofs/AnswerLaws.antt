-- What a step that fails hands on: its refusal is the answer.
-- Assumes nothing.
use mathlib.Core.Path.{◌≡◌, refl, ap}
use Rattle.std.specs.Prelude.{Option, Some, None, Result, Ok, Err, ok_or}
use Rattle.std.specs.Result.{IsErrAnd}
use Rattle.text.proofs.Cases.{never}
use Rattle.error.specs.declared.Refusal.{Refusal}

pub handed_on : {A : Type 0} {e : Refusal} (r : Result A Refusal) → IsErrAnd r (λ y. y ≡ e) → r ≡ Err e
handed_on (Ok a) q = absurd q
handed_on (Err y) q = ap (λ x. Err x) q

-- a refusal in place of the value of an `Option` is the one given, and there is no value
pub none_or : {A : Type 0} (o : Option A) {d e : Refusal} → ◌≡◌ {A = Result A Refusal} (Err d) (ok_or o e) → (o ≡ None) × (d ≡ e)
none_or None h = (refl, cc)
none_or (Some x) h = never cc
