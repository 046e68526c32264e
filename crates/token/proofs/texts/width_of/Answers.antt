-- `token::texts::width_of` meets its contract: at each number the definition computes to the arm's text, and past the last to none.
use mathlib.Core.Path.{refl}
use Rattle.text.specs.Examples.{text_opens}
use Rattle.text.proofs.Keys.{past}
use Rattle.token.specs.Texts.{width_of, printed_widths}
use Rattle.token.proofs.TextsLaws.{width_past}
use Rattle.token.proofs.texts.width_of.Goals as goal

pub returns-in-0 : goal.returns-in-0
unfolding text_opens width_of printed_widths
returns-in-0 c = rw c.in-0.is refl

pub returns-in-1 : goal.returns-in-1
unfolding text_opens width_of printed_widths
returns-in-1 c = rw c.in-1.is refl

pub returns-in-2 : goal.returns-in-2
unfolding text_opens width_of printed_widths
returns-in-2 c = rw c.in-2.is refl

pub returns-in-3 : goal.returns-in-3
unfolding text_opens width_of printed_widths
returns-in-3 c = rw c.in-3.is refl

pub returns-in-4 : goal.returns-in-4
unfolding text_opens width_of printed_widths
returns-in-4 c = rw c.in-4.is refl

pub returns-in-5 : goal.returns-in-5
unfolding text_opens width_of printed_widths
returns-in-5 c = rw c.in-5.is refl

pub returns-in_default : goal.returns-in_default
unfolding text_opens width_of printed_widths
returns-in_default c = rw (width_past c.args.n (past 6 c.args.n c.in_default.in_default-own.rest)) refl
