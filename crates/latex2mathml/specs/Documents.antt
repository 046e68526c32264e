-- Every strict answer of the body translation is a document of XML 1.0: one element `math`, with properly nested elements and only characters that
-- XML allows.
-- Assumes nothing.
use Rattle.std.specs.Prelude.{◌≡◌, List, ℕ}
use Rattle.attribute.specs.declared.DisplayStyle.{DisplayStyle}
use Rattle.markup.specs.Nest.{Document}
use Rattle.latex2mathml.specs.Outcome.{accepted}
use Rattle.latex2mathml.specs.Manner.{strict}
use Rattle.latex2mathml.specs.Translate.{translate}

abbrev pub StrictAnswers : Type 0
StrictAnswers =
    (s : List ℕ) (display : DisplayStyle) (store room : ℕ) (t : List ℕ) → translate strict s display store room ≡ accepted t → Document t
