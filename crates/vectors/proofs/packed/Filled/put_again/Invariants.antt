-- `vectors::packed::Filled::put_again` meets its contract.
use Prim.Native.Nat.{◌≤◌}
use Rattle.vectors.proofs.packed.Filled.put_again.Given as goal

abbrev pub invariant-loop : goal.invariant-loop
invariant-loop l = (1 ≤ l.back) × (l.back ≤ l.self.end) × (l.initial.self.end ≤ l.self.end)
