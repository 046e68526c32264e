-- `breaks::next_break` meets its contract.
use mathlib.Core.Path.{◌≡◌, refl, sym}
use lib.ListN.{length}
use native.Mathlib.Omega.{arith}
use Rattle.breaks.proofs.BreakLaws.{both_end, other_end, begins, at_feed, before_feed, not_before}
use Rattle.breaks.proofs.next_break.Goals as goal
use Rattle.breaks.proofs.next_break.Goals.{then-from-feed+else-eq, else-from-feed}

pub returns-in-None : goal.returns-in-None
returns-in-None c =
    let a = c.args in
    (sym (begins a.s.now a.from _ c.requires (sym c.in-None.ensures) (λ i. i ≡ length a.s.now) refl (λ some more two. absurd (omega arith))), omega arith, omega arith)

pub returns-in-Some : goal.returns-in-Some
returns-in-Some c =
    let a = c.args in
    let d = c.in-Some.ensures in
    let two = both_end a.s.now _ _ c.line_end.ensures c.if-eq.ensures in
    (sym (before_feed a.s.now a.from _ c.requires d.0.0 c.if-from-feed.true two), omega arith, omega arith)

pub returns-in-Some-2 : goal.returns-in-Some-2
returns-in-Some-2 c =
    let s = c.args.s.now in
    let from = c.args.from in
    let d = c.in-Some.ensures in (
      elim c.if-from-feed.branch [
        | then-from-feed+else-eq w ↦ sym (not_before s from _ c.requires d.0.0 w.if-from-feed.true (other_end s _ _ w.line_end.ensures w.if-eq.ensures))
        | else-from-feed w ↦ sym (at_feed s from _ c.requires d.0.0 (omega arith))
      ],
      omega arith,
      omega arith,
    )
