-- `leaves::lengths::front_one_len` meets its contract.
use mathlib.Core.Path.{refl}
use native.Mathlib.Omega.{arith}
use lib.ListN.{length-append}
use Rattle.text.specs.Examples.{text_opens}
use Rattle.markup.specs.Fronts.{style_front, front_one}
use Rattle.markup.proofs.ShortLaws.{display_short}
use Rattle.leaves.proofs.lengths.front_one_len.Goals as goal

pub overflow_add-result-in-Style : goal.overflow_add-result-in-Style
overflow_add-result-in-Style c =
    let e = c.display_len.ensures in
    omega (arith, display_short c.in-Style.d)

pub returns-in-OverOp : goal.returns-in-OverOp
unfolding text_opens front_one
returns-in-OverOp c = rw c.in-OverOp.is refl

pub returns-in-UnderOp : goal.returns-in-UnderOp
unfolding text_opens front_one
returns-in-UnderOp c = rw c.in-UnderOp.is refl

pub returns-in-Sqrt : goal.returns-in-Sqrt
unfolding text_opens front_one
returns-in-Sqrt c = rw c.in-Sqrt.is refl

pub returns-in-Fenced : goal.returns-in-Fenced
unfolding text_opens front_one
returns-in-Fenced c = rw (c.in-Fenced.is, c.fixed_text.ensures) (simp length-append (omega arith))

pub returns-in-Slashed : goal.returns-in-Slashed
unfolding text_opens front_one
returns-in-Slashed c = rw c.in-Slashed.is refl

pub returns-in-Style : goal.returns-in-Style
unfolding text_opens front_one style_front
returns-in-Style c = rw (c.in-Style.is, c.display_len.ensures) (simp length-append (omega arith))
