-- Worked examples, which antt computes.
-- Assumes nothing.
use Rattle.std.specs.Prelude.{◌≡◌, refl, [], ◌∷◌, map}
use Rattle.text.specs.Text.{bytes}
use Rattle.error.specs.declared.Refusal.{Refusal}
use Rattle.page.specs.Examples.{page_opens}
use Rattle.page_main.specs.Program.{decimal, refusal, program}

-- a number of one digit and one of two
lines : map refusal (Refusal.TooLong ∷ Refusal.OutputTooSmall ∷ []) ≡ bytes "refused 1\n" ∷ bytes "refused 12\n" ∷ []
unfolding page_opens decimal refusal
lines = refl

-- document 01's page
slip : program (bytes "a$$$\n\n$x$") ≡ bytes "a$$$\n\n<math xmlns=\"http://www.w3.org/1998/Math/MathML\" display=\"inline\"><mi>x</mi></math>"
unfolding page_opens decimal refusal program
slip = refl
