-- `leaves::lengths::back_one_len` meets its contract.
use mathlib.Core.Path.{refl, ap}
use native.Mathlib.Omega.{arith}
use lib.ListN.{length, length-append}
use Rattle.text.specs.Examples.{text_opens}
use Rattle.markup.specs.Print.{character}
use Rattle.markup.specs.Fronts.{accent_text, back_one}
use Rattle.markup.proofs.ShortLaws.{accent_short, character_short}
use Rattle.leaves.proofs.lengths.back_one_len.Goals as goal

pub overflow_add-result-in-OverOp : goal.overflow_add-result-in-OverOp
unfolding character
overflow_add-result-in-OverOp c =
    let e0 = ap length c.name.ensures in
    let e1 = c.character_len.ensures in
    omega (arith, accent_short c.in-OverOp.a, character_short c.args.dialect c.in-OverOp.c)

pub overflow_add-result-in-UnderOp-2 : goal.overflow_add-result-in-UnderOp-2
unfolding character
overflow_add-result-in-UnderOp-2 c =
    let e0 = ap length c.name-in-UnderOp.ensures in
    let e1 = c.character_len-in-UnderOp.ensures in
    omega (arith, accent_short c.in-UnderOp.a, character_short c.args.dialect c.in-UnderOp.c)

pub returns-in-OverOp : goal.returns-in-OverOp
unfolding text_opens back_one accent_text character
returns-in-OverOp c = rw (c.in-OverOp.is, c.name.ensures, c.character_len.ensures) (simp length-append (omega arith))

pub returns-in-UnderOp : goal.returns-in-UnderOp
unfolding text_opens back_one accent_text character
returns-in-UnderOp c = rw (c.in-UnderOp.is, c.name-in-UnderOp.ensures, c.character_len-in-UnderOp.ensures) (simp length-append (omega arith))

pub returns-in-Sqrt : goal.returns-in-Sqrt
unfolding text_opens back_one
returns-in-Sqrt c = rw c.in-Sqrt.is refl

pub returns-in-Fenced : goal.returns-in-Fenced
unfolding text_opens back_one
returns-in-Fenced c = rw (c.in-Fenced.is, c.fixed_text.ensures) (simp length-append (omega arith))

pub returns-in-Slashed : goal.returns-in-Slashed
unfolding text_opens back_one
returns-in-Slashed c = rw c.in-Slashed.is refl

pub returns-in-Style : goal.returns-in-Style
unfolding text_opens back_one
returns-in-Style c = rw c.in-Style.is refl
