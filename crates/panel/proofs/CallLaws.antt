-- From what the page operation answers to what the exported function returns, a law for each way through it.
-- Assumes nothing.
use mathlib.Core.Path.{◌≡◌, ◌∙◌}
use mathlib.Core.List.{List}
use Prim.Native.Nat.{ℕ}
use lib.ListN.{length}
use Rattle.std.specs.Prelude.{Ok, Err}
use Rattle.error.specs.declared.Refusal.{Refusal}
use Rattle.error.specs.Numbers.{number}
use Rattle.latex2mathml.specs.declared.Manner.{Manner}
use Rattle.page.specs.declared.Totals.{Totals}
use Rattle.page.specs.Page.{page}
use Rattle.page.specs.Run.{answer_paragraphs, answer_left, Pages, answer_number as pageNumber, answer_length as pageLength}
use Rattle.panel.specs.Calls.{PageCall}

-- a page that is accepted is returned as 0 with its length and its counts
pub page_accepts : {manner : Manner} {document : List ℕ} {store work : ℕ} {t : Totals} {o o' : List ℕ} → Pages manner document store work (Ok t) o o'
    → PageCall (page manner document store work (length o)) 0 t.length t.paragraphs t.left o o'
unfolding pageNumber pageLength answer_paragraphs answer_left
page_accepts g = record { number = g.number; size = g.size; paragraphs = g.paragraphs; left = g.left; output = g.output }

-- a page that is refused is returned as its number with three zeros
pub page_refuses : {manner : Manner} {document : List ℕ} {store work n : ℕ} {r : Refusal} {o o' : List ℕ} → n ≡ number r → Pages manner document store work (Err r) o o'
    → PageCall (page manner document store work (length o)) n 0 0 0 o o'
unfolding pageNumber pageLength answer_paragraphs answer_left
page_refuses is g = record { number = is ∙ g.number; size = g.size; paragraphs = g.paragraphs; left = g.left; output = g.output }
