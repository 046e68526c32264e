-- What the exported functions promise, for an operation that gives `want`: the number returned, what is written through the
-- references, and what the output and the work buffer hold afterwards.
-- Assumes nothing.
use Rattle.std.specs.Prelude.{◌≡◌, Bool, true, false, List, ℕ, length, take}
use Rattle.attribute.specs.declared.DisplayStyle.{DisplayStyle}
use Rattle.latex2mathml.specs.declared.Manner.{Manner}
use Rattle.latex2mathml.specs.Manner.{old, strict}
use Rattle.latex2mathml.specs.Outcome.{Outcome, number_of, bytes_of}
use Rattle.latex2mathml.specs.Replace.{Replaced}
use Rattle.latex2mathml.specs.Written.{over}
use Rattle.page.specs.Page.{Paged, page, output_of, paragraphs_of, left_of}

-- block or inline
unfoldable pub style_of : Bool → DisplayStyle
style_of true = DisplayStyle.Block
style_of false = DisplayStyle.Inline

-- strict or old
abbrev pub manner_of : Bool → Manner
manner_of true = strict
manner_of false = old

-- body translation returns n and the length l, and the output that was o is o'
pub record TranslateCall (want : Outcome (List ℕ)) (n l : ℕ) (o o' : List ℕ) : Type 0 where
  pub number : n ≡ number_of want
  pub size : l ≡ length (bytes_of want)
  pub output : o' ≡ over (bytes_of want) o

-- replacement: besides, the work buffer that was w is w'
pub record ReplaceCall (want : Replaced) (n l : ℕ) (w w' o o' : List ℕ) : Type 0 where
  pub number : n ≡ number_of want.outcome
  pub size : l ≡ length (bytes_of want.outcome)
  pub output : o' ≡ over (bytes_of want.outcome) o
  pub work : w' ≡ over want.work w

-- the page operation: besides, the two counts are p and q
pub record PageCall (want : Outcome Paged) (n l p q : ℕ) (o o' : List ℕ) : Type 0 where
  pub number : n ≡ number_of want
  pub size : l ≡ length (output_of want)
  pub paragraphs : p ≡ paragraphs_of want
  pub left : q ≡ left_of want
  pub output : o' ≡ over (output_of want) o

-- one call of `latex_page_in`, or of `latex_page`, which is not strict: what it was lent, what it returned and wrote, and the function's promise
-- of it
pub record Call : Type 0 where
  pub strict : Bool
  pub document : List ℕ
  pub store : ℕ
  pub work : ℕ
  pub entry : List ℕ
  pub exit : List ℕ
  pub number : ℕ
  pub size : ℕ
  pub paragraphs : ℕ
  pub left : ℕ
  pub promise : PageCall (page (manner_of strict) document store work (length entry)) number size paragraphs left entry exit

-- its output: the buffer's first bytes, as many as the size that was written
unfoldable pub output_of_call : Call → List ℕ
output_of_call call = take call.size call.exit
