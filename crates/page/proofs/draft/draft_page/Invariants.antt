-- `page::draft::draft_page` meets its contract. The invariant: what is before `from` is drafted.
use mathlib.Core.Path.{◌≡◌}
use Prim.Native.Nat.{◌-◌}
use lib.ListN.{length}
use Rattle.page.proofs.DraftLaws.{Drafting}
use Rattle.page.proofs.draft.draft_page.Given as goal

abbrev pub invariant-loop-manner : goal.invariant-loop-manner
invariant-loop-manner l =
    (length l.store ≡ length l.initial.store) × (length l.work ≡ length l.initial.work) × (length l.draft ≡ length l.initial.draft) × (length l.left ≡ length l.initial.left) × Drafting l.manner l.document (length l.initial.store) (length l.initial.work) l.from l.at l.k l.refused l.draft l.left

abbrev pub decreases-loop-manner : goal.decreases-loop-manner
decreases-loop-manner l = length l.document - l.from
