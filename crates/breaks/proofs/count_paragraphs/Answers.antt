use mathlib.Core.Path.{refl, sym}
use Rattle.breaks.proofs.CountLaws.{counting_last, counting_more}
use Rattle.breaks.proofs.count_paragraphs.Goals as goal

pub loop-feed-preserved : goal.loop-feed-preserved
loop-feed-preserved c =
    let d = c.break_end-from in
    counting_more c.loop-feed.invariant _ c.in-Some.ensures.0.0 d.result c.in-Some.ensures.1 d.ensures.0 d.ensures.2

pub returns : goal.returns
returns c = counting_last c.loop-feed.invariant _ (sym c.in_default.ensures) refl
