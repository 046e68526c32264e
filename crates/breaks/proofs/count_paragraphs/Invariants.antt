-- `breaks::count_paragraphs` meets its contract. The invariant: the paragraph at `from` is the one that `count` says.
use Prim.Native.Nat.{◌-◌}
use lib.ListN.{length}
use Rattle.breaks.proofs.CountLaws.{Counting}
use Rattle.breaks.proofs.count_paragraphs.Given as goal

abbrev pub invariant-loop-feed : goal.invariant-loop-feed
invariant-loop-feed l = Counting l.document l.from l.count

abbrev pub decreases-loop-feed : goal.decreases-loop-feed
decreases-loop-feed l = length l.document - l.from
