-- `page::write::write_page` meets its contract. The invariant: what is before `from` is written.
use mathlib.Core.Path.{◌≡◌}
use Prim.Native.Nat.{◌-◌}
use lib.ListN.{length}
use Rattle.page.proofs.WriteLaws.{Writing}
use Rattle.page.proofs.write.write_page.Given as goal

abbrev pub invariant-loop-manner : goal.invariant-loop-manner
invariant-loop-manner l =
    (length l.store ≡ length l.initial.store) × (length l.work ≡ length l.initial.work) × (length l.out ≡ length l.initial.out) × Writing l.manner l.document l.left (length l.initial.store) (length l.initial.work) l.initial.out l.out l.from l.at l.k

abbrev pub decreases-loop-manner : goal.decreases-loop-manner
decreases-loop-manner l = length l.document - l.from
