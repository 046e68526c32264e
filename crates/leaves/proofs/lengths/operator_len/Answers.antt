-- `leaves::lengths::operator_len` meets its contract.
use mathlib.Core.Path.{sym}
use borrow.Author.Tests.{ne_eqb}
use Rattle.markup.proofs.ShortLaws.{operator_text_short}
use Rattle.leaves.proofs.LengthLaws.{operator_under, operator_italic, operator_other}
use native.Mathlib.Omega.{arith}
use Rattle.leaves.proofs.lengths.operator_len.Goals as goal

pub overflow_add-result : goal.overflow_add-result
overflow_add-result c =
    let f = c.operator_text_len.ensures in
    omega (arith, operator_text_short c.args.dialect c.args.c)

pub returns-then-slashed : goal.returns-then-slashed
returns-then-slashed c =
    rw (c.if-slashed.true, c.operator_text_len.ensures) (sym (operator_under c.args.dialect c.args.c))

pub returns-then-c-eq8706 : goal.returns-then-c-eq8706
returns-then-c-eq8706 c = rw c.if-slashed.false (sym (operator_italic c.args.dialect c.args.c c.if-c-eq8706.true))

pub overflow_add-result-2 : goal.overflow_add-result-2
overflow_add-result-2 c =
    let f = c.operator_text_len-2.ensures in
    omega (arith, operator_text_short c.args.dialect c.args.c)

pub returns : goal.returns
returns c =
    rw (c.if-slashed.false, c.operator_text_len-2.ensures) (sym (operator_other c.args.dialect c.args.c (ne_eqb c.args.c 8706 c.if-c-eq8706.false)))
