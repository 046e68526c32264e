-- `leaves::lengths::letter_len` meets its contract.
use mathlib.Core.Path.{sym, ◌∙◌}
use Rattle.markup.proofs.ShortLaws.{character_short, variant_short}
use Rattle.leaves.proofs.LengthLaws.{letter_under, letter_italic, letter_other}
use Rattle.markup.specs.Print.{character}
use native.Mathlib.Omega.{arith}
use Rattle.leaves.proofs.lengths.letter_len.Goals as goal

pub overflow_add-result : goal.overflow_add-result
unfolding character
overflow_add-result c =
    let e = c.variant_len.ensures in
    omega (arith, variant_short c.args.v)

pub overflow_add-result-then-slashed : goal.overflow_add-result-then-slashed
unfolding character
overflow_add-result-then-slashed c =
    let e = c.variant_len.ensures in
    let f = c.character_len.ensures in
    omega (arith, variant_short c.args.v, character_short c.args.dialect c.args.c)

pub returns-then-slashed : goal.returns-then-slashed
unfolding character
returns-then-slashed c =
    rw (c.if-slashed.true, c.variant_len.ensures, c.character_len.ensures) (sym (letter_under c.args.dialect c.args.c c.args.v))

pub overflow_add-result-then-is_italic : goal.overflow_add-result-then-is_italic
unfolding character
overflow_add-result-then-is_italic c =
    let f = c.character_len-then-is_italic.ensures in
    omega (arith, character_short c.args.dialect c.args.c)

pub returns-then-is_italic : goal.returns-then-is_italic
unfolding character
returns-then-is_italic c =
    rw (c.if-slashed.false, c.character_len-then-is_italic.ensures) (sym (letter_italic c.args.dialect c.args.c c.args.v (sym c.is_italic.ensures ∙ c.if-is_italic.true)))

pub overflow_add-result-2 : goal.overflow_add-result-2
unfolding character
overflow_add-result-2 c =
    let e = c.variant_len-2.ensures in
    omega (arith, variant_short c.args.v)

pub overflow_add-result-3 : goal.overflow_add-result-3
unfolding character
overflow_add-result-3 c =
    let e = c.variant_len-2.ensures in
    let f = c.character_len-2.ensures in
    omega (arith, variant_short c.args.v, character_short c.args.dialect c.args.c)

pub returns : goal.returns
unfolding character
returns c =
    rw (c.if-slashed.false, c.variant_len-2.ensures, c.character_len-2.ensures) (sym (letter_other c.args.dialect c.args.c c.args.v (sym c.is_italic.ensures ∙ c.if-is_italic.false)))
