use mathlib.Core.Path.{sym, ◌∙◌}
use Rattle.dollars.proofs.DollarLaws.{odd_more_bytes, odd_end, false_xor}
use Rattle.dollars.proofs.odd_dollars.Goals as goal

pub loop-b-init : goal.loop-b-init
loop-b-init c = false_xor _

pub loop-b-preserved : goal.loop-b-preserved
loop-b-preserved c =
    let l = c.loop-b in
    l.invariant ∙ odd_more_bytes c.args.s.now l.b-index l.is_odd c.loop-b-test.true

pub returns : goal.returns
returns c =
    let l = c.loop-b in
    sym (l.invariant ∙ odd_end c.args.s.now l.b-index l.is_odd c.loop-b-test.false)
