-- The page operation in a manner, at the lent sizes.
-- Assumes nothing.
use Rattle.std.specs.Prelude.{List, [], ◌++◌, ℕ, ◌+◌, ltb, length}
use Rattle.error.specs.declared.Refusal.{Refusal}
use Rattle.latex2mathml.specs.declared.Manner.{Manner}
use Rattle.latex2mathml.specs.Outcome.{Outcome, accepted, refused, ◌>>=◌, refuse, document_limit}
use Rattle.latex2mathml.specs.Replace.{replacement}
use Rattle.breaks.specs.Pieces.{Pieces, last, piece, pieces, paragraphs}

-- a paragraph as it comes out, and how many paragraphs it leaves as typed, 0 or 1
unfoldable pub shown : Manner → ℕ → ℕ → List ℕ → List ℕ
shown manner store work paragraph = elim (replacement manner paragraph store work) [ accepted output ↦ output | refused r ↦ paragraph ]

unfoldable pub left : Manner → ℕ → ℕ → List ℕ → ℕ
left manner store work paragraph = elim (replacement manner paragraph store work) [ accepted output ↦ 0 | refused r ↦ 1 ]

-- the whole page, with its breaks copied
unfoldable pub shown_all : Manner → ℕ → ℕ → Pieces → List ℕ
shown_all manner store work (last paragraph) = shown manner store work paragraph
shown_all manner store work (piece paragraph break rest) = shown manner store work paragraph ++ break ++ shown_all manner store work rest

unfoldable pub left_all : Manner → ℕ → ℕ → Pieces → ℕ
left_all manner store work (last paragraph) = left manner store work paragraph
left_all manner store work (piece paragraph break rest) = left manner store work paragraph + left_all manner store work rest

-- an accepted page: its bytes, the number of its paragraphs, and the number of those left as typed
pub record Paged : Type 0 where
  pub output : List ℕ
  pub paragraphs : ℕ
  pub left : ℕ

-- the page operation, with `store`, `work` and `room` bytes lent for the records, the work buffer and the output
unfoldable pub page : Manner → List ℕ → ℕ → ℕ → ℕ → Outcome Paged
page manner document store work room = do
  _ ← refuse (ltb document_limit (length document)) Refusal.TooLong
  let all = pieces document
  let output = shown_all manner store work all
  _ ← refuse (ltb room (length output)) Refusal.OutputTooSmall
  accepted (record { output = output; paragraphs = paragraphs all; left = left_all manner store work all })

-- what the operation returns beside the number: the output's first bytes, and the two counts, 0 on refusal
unfoldable pub output_of : Outcome Paged → List ℕ
output_of (accepted p) = p.output
output_of (refused r) = []

unfoldable pub paragraphs_of : Outcome Paged → ℕ
paragraphs_of (accepted p) = p.paragraphs
paragraphs_of (refused r) = 0

unfoldable pub left_of : Outcome Paged → ℕ
left_of (accepted p) = p.left
left_of (refused r) = 0
