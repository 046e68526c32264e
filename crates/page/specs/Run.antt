-- What the page operation promises: what its answer says, and what the output holds afterwards.
-- Assumes nothing.
use Rattle.std.specs.Prelude.{◌≡◌, List, ℕ, length, Result, Ok, Err}
use Rattle.error.specs.declared.Refusal.{Refusal}
use Rattle.error.specs.Numbers.{number}
use Rattle.latex2mathml.specs.declared.Manner.{Manner}
use Rattle.latex2mathml.specs.Outcome.{number_of}
use Rattle.latex2mathml.specs.Written.{over}
use Rattle.page.specs.declared.Totals.{Totals}
use Rattle.page.specs.Page.{page, output_of, paragraphs_of, left_of}

-- what an answer says: its number, the length of the output, the number of paragraphs, and of those left as typed
unfoldable pub answer_number : Result Totals Refusal → ℕ
answer_number (Ok t) = 0
answer_number (Err r) = number r

unfoldable pub answer_length : Result Totals Refusal → ℕ
answer_length (Ok t) = t.length
answer_length (Err r) = 0

unfoldable pub answer_paragraphs : Result Totals Refusal → ℕ
answer_paragraphs (Ok t) = t.paragraphs
answer_paragraphs (Err r) = 0

unfoldable pub answer_left : Result Totals Refusal → ℕ
answer_left (Ok t) = t.left
answer_left (Err r) = 0

-- the page operation, with `store` and `work` bytes lent for the records and the work buffer, answers r, and the output that was o is o'
pub record Pages (manner : Manner) (document : List ℕ) (store work : ℕ) (r : Result Totals Refusal) (o o' : List ℕ) : Type 0 where
  pub number : answer_number r ≡ number_of (page manner document store work (length o))
  pub size : answer_length r ≡ length (output_of (page manner document store work (length o)))
  pub paragraphs : answer_paragraphs r ≡ paragraphs_of (page manner document store work (length o))
  pub left : answer_left r ≡ left_of (page manner document store work (length o))
  pub output : o' ≡ over (output_of (page manner document store work (length o))) o
