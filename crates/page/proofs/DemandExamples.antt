-- Runs that meet what demand 3 asks of two runs, so that neither half of it is empty; antt computes them.
-- Assumes nothing.
use mathlib.Core.Path.{◌≡◌, refl}
use mathlib.Core.List.{List, [], ◌∷◌, ◌++◌}
use Prim.Native.Nat.{ℕ}
use Prim.Native.String.{String}
use lib.ListN.{length, replicate}
use Rattle.std.specs.Prelude.{Ok}
use Rattle.text.specs.Text.{bytes}
use Rattle.error.specs.declared.Refusal.{Refusal}
use Rattle.latex2mathml.specs.declared.Manner.{Manner}
use Rattle.latex2mathml.specs.Manner.{old, strict}
use Rattle.latex2mathml.specs.Outcome.{Outcome, accepted, refused}
use Rattle.latex2mathml.specs.Written.{over}
use Rattle.latex2mathml.specs.Replace.{replacement}
use Rattle.page.specs.declared.Totals.{Totals}
use Rattle.page.specs.Page.{page, output_of}
use Rattle.page.specs.Words.{Run, output, paragraph, break, prose, formula, DifferInParagraph, DifferInBody}
use Rattle.page.specs.Demand.{AllButOne, TwoRuns}
use Rattle.page.specs.Examples.{page_opens}
use Rattle.page.proofs.DemandLaws.{long_enough, demand3}
use Rattle.page.proofs.RunLaws.{ran}

-- the run of a document in a manner with the page program's store and work buffer and an output of 300 bytes, which hold zeros
abbrev zeros : List ℕ
zeros = replicate 300 0

abbrev on : Manner → String → Run
on manner document = let d = bytes document in ran manner d 61440 65536 zeros (over (output_of (page manner d 61440 65536 (length zeros))) zeros) refl

-- what a paragraph is replaced by there, or why it is refused
abbrev there : Manner → String → Outcome (List ℕ)
there manner p = replacement manner (bytes p) 61440 65536

-- the markup of a letter as an inline formula
unfoldable letter : String → List ℕ
letter c = bytes "<math xmlns=\"http://www.w3.org/1998/Math/MathML\" display=\"inline\"><mi>" ++ bytes c ++ bytes "</mi></math>"

-- the totals of a page
abbrev totals : ℕ → ℕ → ℕ → Totals
totals n count few = record { length = n; paragraphs = count; left = few }

-- ---- whatever a paragraph holds, in the old dialect: the first one, of a page whose lines end with CR LF, is refused in one run and replaced in the other

abbrev slipped : Run
slipped = on old "$a\r\n\r\n$x$"

abbrev mended : Run
mended = on old "$a$\r\n\r\n$x$"

both_accepted : (slipped.answer ≡ Ok (totals 89 2 1)) × (mended.answer ≡ Ok (totals 170 2 0))
unfolding page_opens
both_accepted = (refl, refl)

one_paragraph_differs : DifferInParagraph slipped.document mended.document (bytes "$a") (bytes "$a$")
unfolding page_opens
one_paragraph_differs = record { before = []; behind = break (bytes "\r\n\r\n") ∷ paragraph (bytes "$x$") ∷ []; first = refl; second = refl }

refused_and_replaced : (there old "$a" ≡ refused Refusal.InvalidNumberOfDollarSigns) × (there old "$a$" ≡ accepted (letter "a"))
unfolding page_opens letter
refused_and_replaced = (refl, refl)

shares : TwoRuns old slipped.document mended.document 61440 65536 one_paragraph_differs (output slipped) (output mended)
shares =
    demand3.two_runs slipped mended (totals 89 2 1, both_accepted.0) (totals 170 2 0, both_accepted.1) (record { manner = refl; store = refl; work = refl; room = refl })
    one_paragraph_differs

-- ---- one formula's body, in the strict dialect: the second formula of the last paragraph

abbrev before : String
before = "$a$ to $b$"

abbrev after : String
after = "$a$ to $c$"

abbrev lower : Run
lower = on strict "up\n\n$a$ to $b$"

abbrev higher : Run
higher = on strict "up\n\n$a$ to $c$"

both_accepted_too : (lower.answer ≡ Ok (totals 174 2 0)) × (higher.answer ≡ Ok (totals 174 2 0))
unfolding page_opens
both_accepted_too = (refl, refl)

last_paragraph_differs : DifferInParagraph lower.document higher.document (bytes before) (bytes after)
unfolding page_opens
last_paragraph_differs = record { before = paragraph (bytes "up") ∷ break (bytes "\n\n") ∷ []; behind = []; first = refl; second = refl }

one_body_differs : DifferInBody (bytes before) (bytes after) 1 1 (bytes "b") (bytes "c")
unfolding page_opens
one_body_differs = record {
  tidy_first = refl;
  tidy_second = refl;
  runs = refl;
  differ = record { before = prose [] ∷ formula 1 (bytes "a") ∷ prose (bytes " to ") ∷ []; behind = prose [] ∷ []; first = refl; second = refl };
}

both_replaced : (there strict before ≡ accepted (letter "a" ++ bytes " to " ++ letter "b")) × (there strict after ≡ accepted (letter "a" ++ bytes " to " ++ letter "c"))
unfolding page_opens letter
both_replaced = (refl, refl)

shares_too : TwoRuns strict lower.document higher.document 61440 65536 last_paragraph_differs (output lower) (output higher)
shares_too =
    demand3.two_runs lower higher (totals 174 2 0, both_accepted_too.0) (totals 174 2 0, both_accepted_too.1) (record { manner = refl; store = refl; work = refl; room = refl })
    last_paragraph_differs

all_but_the_markup : AllButOne strict 61440 65536 shares_too.others one_body_differs.differ (letter "a" ++ bytes " to " ++ letter "b") (letter "a" ++ bytes " to " ++ letter "c")
all_but_the_markup =
    shares_too.body one_body_differs _ _ (long_enough strict 61440 65536 (bytes before) _ both_replaced.0) (long_enough strict 61440 65536 (bytes after) _ both_replaced.1)
