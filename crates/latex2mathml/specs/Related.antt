-- How the answers of the body translation in the two dialects go together, all else alike.
-- Assumes nothing.
use Rattle.std.specs.Prelude.{◌≡◌, List, ℕ}
use Rattle.attribute.specs.declared.DisplayStyle.{DisplayStyle}
use Rattle.error.specs.declared.Refusal.{Refusal}
use Rattle.latex2mathml.specs.Outcome.{Outcome, accepted, refused}
use Rattle.latex2mathml.specs.Manner.{old, strict}
use Rattle.latex2mathml.specs.Translate.{translate}

-- an answer in the strict dialect: accepted, or refused by 15 or 12
pub data AsStrict (o : Outcome (List ℕ)) : Type 0 where
  taken : (t : List ℕ) → o ≡ accepted t → AsStrict o
  forbids : o ≡ refused Refusal.ForbiddenCharacter → AsStrict o
  small : o ≡ refused Refusal.OutputTooSmall → AsStrict o

-- an answer in the old dialect: accepted, or refused by 12
pub data AsOld (o : Outcome (List ℕ)) : Type 0 where
  taken : (t : List ℕ) → o ≡ accepted t → AsOld o
  small : o ≡ refused Refusal.OutputTooSmall → AsOld o

-- a body that one dialect accepts
pub record Related : Type 0 where
  pub strict_of_old : (s : List ℕ) (display : DisplayStyle) (store room : ℕ) (t : List ℕ) → translate old s display store room ≡ accepted t
      → AsStrict (translate strict s display store room)
  pub old_of_strict : (s : List ℕ) (display : DisplayStyle) (store room : ℕ) (t : List ℕ) → translate strict s display store room ≡ accepted t
      → AsOld (translate old s display store room)
