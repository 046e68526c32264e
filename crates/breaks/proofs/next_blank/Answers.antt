use mathlib.Core.Path.{refl, sym, ◌∙◌}
use native.Mathlib.Omega.{arith}
use Rattle.breaks.proofs.BreakLaws.{some_end, none_end, blank_here, blank_more, blank_none}
use Rattle.breaks.proofs.next_blank.Goals as goal

pub returns-then-is_some : goal.returns-then-is_some
returns-then-is_some c =
    let s = c.args.s.now in
    let l = c.loop-feed in
    let d = c.in-Some.ensures in
    let behind = some_end s _ _ c.line_end.ensures c.if-is_some.ensures in
    ((sym (l.invariant.0 ∙ blank_here s l.i _ l.invariant.2 d.0.0 d.1 behind), omega arith, omega arith), d.1)

pub loop-feed-preserved : goal.loop-feed-preserved
loop-feed-preserved c =
    let s = c.args.s.now in
    let l = c.loop-feed in
    let d = c.in-Some.ensures in
    let behind = none_end s _ _ c.line_end.ensures c.if-is_some.ensures in
    (l.invariant.0 ∙ blank_more s l.i _ l.invariant.2 d.0.0 d.1 behind, omega arith, omega arith)

pub returns : goal.returns
returns c =
    let l = c.loop-feed in
    l.invariant.0 ∙ blank_none c.args.s.now l.i _ l.invariant.2 (sym c.in_default.ensures) refl
