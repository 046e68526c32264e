use mathlib.Core.Path.{sym, ap, ◌∙◌}
use Rattle.std.specs.Prelude.{length}
use borrow.Author.Tests.{eqb-true, eqb-false}
use Rattle.token.proofs.DebugLaws.{next_long, twice_none, nul_none, nul_some}
use native.Mathlib.Omega.{arith}
use Rattle.token.proofs.debug.name_len.Goals as goal

pub returns-then-is_empty : goal.returns-then-is_empty
returns-then-is_empty c =
    let none = eqb-true _ _ (sym c.is_empty.ensures ∙ c.if-is_empty.true) in
    rw (nul_none c.args.name.now none) c.byte_len.ensures

pub overflow_add-n : goal.overflow_add-n
overflow_add-n c =
    let l = c.args.name.now in
    let some = nul_some l (eqb-false _ _ (sym c.is_empty.ensures ∙ c.if-is_empty.false)) in
    let small = rw some at c.requires in
    omega (arith, small, next_long c.args.dialect l c.loop-b.b-index c.loop-b-test.true, c.loop-b.invariant, c.byte_len-n.ensures)

pub loop-b-preserved : goal.loop-b-preserved
loop-b-preserved c =
    omega (arith, next_long c.args.dialect c.args.name.now c.loop-b.b-index c.loop-b-test.true, c.loop-b.invariant, c.byte_len-n.ensures)

pub returns : goal.returns
returns c =
    let l = c.args.name.now in
    let some = nul_some l (eqb-false _ _ (sym c.is_empty.ensures ∙ c.if-is_empty.false)) in
    let end = ap length (twice_none c.args.dialect l c.loop-b.b-index c.loop-b-test.false) in
    rw some (omega (arith, c.loop-b.invariant, end))
