-- `text::tail` meets its contract. The invariant: the code point is what is read from i on, behind the value so far, which leaves room.
use mathlib.Core.Path.{◌≡◌}
use Prim.Native.Nat.{suc, ◌-◌, ◌≤◌, ◌<◌}
use lib.ListN.{drop}
use Rattle.text.specs.Follow.{pending, read}
use Rattle.text.proofs.FollowLaws.{room}
use Rattle.text.proofs.tail.Given as goal

abbrev pub invariant-loop-i : goal.invariant-loop-i
invariant-loop-i l =
    let n = l.fn.next.left in
    let left = n - l.i in
    (read (suc n) l.bits (pending n l.fn.next.low l.fn.next.high) l.rest ≡ read (suc n) l.value (pending left l.low l.high) (drop l.i l.rest)) × ((left ≡ 0 → ⊥) → 128 ≤ l.low) × (l.value < room left)
