-- Replacement in a manner: the Rust's `replace`, at the lent sizes.
-- Assumes nothing.
use Rattle.std.specs.Prelude.{List, [], ◌∷◌, ◌++◌, ℕ, ◌+◌, ltb, length, drop}
use Rattle.text.specs.Text.{part}
use Rattle.attribute.specs.declared.DisplayStyle.{DisplayStyle}
use Rattle.dollars.specs.Dollars.{two_dollars, three_dollars, dollar}
use Rattle.dollars.specs.Places.{places, odd}
use Rattle.error.specs.declared.Refusal.{Refusal}
use Rattle.latex2mathml.specs.Outcome.{Outcome, accepted, ◌>>=◌, refuse, bytes_of, body_limit, document_limit}
use Rattle.latex2mathml.specs.declared.Manner.{Manner}
use Rattle.latex2mathml.specs.Translate.{checked, latex_to_mathml, store_too_small}

-- a body of a document, which is well-formed where the document is, and has no NUL where the document has none
unfoldable pub translate_body : Manner → ℕ → DisplayStyle → List ℕ → Outcome (List ℕ)
translate_body m store display s = do
  _ ← refuse (ltb body_limit (length s)) Refusal.TooLong
  _ ← store_too_small store s
  latex_to_mathml m s display

-- the text from `from` on, with the bodies between the marks, taken first with second, third with fourth, translated;
-- a mark is `width` dollars
unfoldable pub substitute : Manner → ℕ → DisplayStyle → ℕ → List ℕ → ℕ → List ℕ → Outcome (List ℕ)
substitute m store display width s from [] = accepted (drop from s)
substitute m store display width s from (a ∷ []) = accepted (drop from s)
substitute m store display width s from (a ∷ (b ∷ marks)) = do
  mathml ← translate_body m store display (part (a + width) b s)
  rest ← substitute m store display width s (b + width) marks
  accepted (part from a s ++ mathml ++ rest)

-- pass one: the overlapping windows of two dollars, bodies as block, up to the text that goes to the work buffer
unfoldable pub first_pass : Manner → List ℕ → ℕ → ℕ → Outcome (List ℕ)
first_pass m document store work = do
  _ ← checked document_limit document
  let windows = places two_dollars 0 document
  _ ← refuse (odd windows) Refusal.InvalidNumberOfDollarSigns
  _ ← refuse (ltb 0 (length (places three_dollars 0 document))) Refusal.ThreeDollarSigns
  text ← substitute m store DisplayStyle.Block 2 document 0 windows
  _ ← refuse (ltb work (length text)) Refusal.WorkTooSmall
  accepted text

-- pass two: the single dollars of the text of pass one, bodies as inline
unfoldable pub second_pass : Manner → ℕ → List ℕ → Outcome (List ℕ)
second_pass m store text = do
  let dollars = places dollar 0 text
  _ ← refuse (odd dollars) Refusal.InvalidNumberOfDollarSigns
  substitute m store DisplayStyle.Inline 1 text 0 dollars

-- the replacement with an output long enough
unfoldable pub replacement : Manner → List ℕ → ℕ → ℕ → Outcome (List ℕ)
replacement m document store work = do
  text ← first_pass m document store work
  second_pass m store text

-- the answer, and the bytes with which the work buffer begins afterwards
pub record Replaced : Type 0 where
  pub outcome : Outcome (List ℕ)
  pub work : List ℕ

unfoldable pub replace_outcome : Manner → List ℕ → ℕ → ℕ → ℕ → Outcome (List ℕ)
replace_outcome m document store work room = do
  output ← replacement m document store work
  _ ← refuse (ltb room (length output)) Refusal.OutputTooSmall
  accepted output

-- the replacement in a document, with `store`, `work` and `room` bytes lent for the records, the work buffer and the output
unfoldable pub replace : Manner → List ℕ → ℕ → ℕ → ℕ → Replaced
replace m document store work room =
    record { outcome = replace_outcome m document store work room; work = bytes_of (first_pass m document store work) }
