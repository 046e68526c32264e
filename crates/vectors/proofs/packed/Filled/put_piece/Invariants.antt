-- `vectors::packed::Filled::put_piece` meets its contract.
use Prim.Native.Nat.{◌≤◌}
use Rattle.vectors.proofs.packed.Filled.put_piece.Given as goal

abbrev pub invariant-loop-b : goal.invariant-loop-b
invariant-loop-b l = l.initial.self.end ≤ l.self.end
