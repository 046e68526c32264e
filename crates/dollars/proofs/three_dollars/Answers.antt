use mathlib.Core.Path.{◌≡◌, sym, ◌∙◌}
use mathlib.Core.Bool.{false}
use Prim.Native.Nat.{◌+◌}
use native.Mathlib.Omega.{arith}
use lib.ListN.{drop}
use Rattle.dollars.specs.Dollars.{dollar}
use Rattle.dollars.proofs.DollarLaws.{dollar_starts, three_none, three_here, three_more}
use Rattle.dollars.proofs.three_dollars.Goals as goal

pub returns-then-stands_at : goal.returns-then-stands_at
returns-then-stands_at c =
    let s = c.args.s.now in
    let l = c.loop-first in
    let d = c.in-Some.ensures in
    rw l.invariant.0 (three_here s l.i _ l.invariant.1 d.0.0 d.1 (rw dollar_starts (sym c.stands_at.ensures ∙ c.if-stands_at.true)))

pub loop-first-preserved : goal.loop-first-preserved
loop-first-preserved c =
    let s = c.args.s.now in
    let l = c.loop-first in
    let d = c.in-Some.ensures in
    let other : dollar (drop (c.in-Some.first + 2) s) ≡ false = rw dollar_starts (sym c.stands_at.ensures ∙ c.if-stands_at.false) in
    (l.invariant.0 ∙ three_more s l.i _ l.invariant.1 d.0.0 d.1 other, omega arith)

pub returns : goal.returns
returns c =
    let l = c.loop-first in
    rw (l.invariant.0, three_none c.args.s.now l.i _ l.invariant.1 (sym c.in_default.ensures) (omega arith) (omega arith))
