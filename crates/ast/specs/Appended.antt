-- What it is to append a node to the nodes of a row.
-- Assumes nothing.
use Rattle.std.specs.Prelude.{◌≡◌, List, ℕ, suc, ◌<◌}
use Rattle.ast.specs.Store.{record_at}
use Rattle.ast.specs.Tree.{Node, Nodes, snoc}
use Rattle.ast.specs.Held.{count, Holds, HoldsAll}

-- the n nodes from `first` to `last` have the node at i behind them, and r is the first of all
pub record Appends (st st' : List ℕ) (first last n i r : ℕ) : Type 0 where
  pub linked : (lo p hi hi' : ℕ) (ns : Nodes) (t : Node) → HoldsAll st lo first p last hi ns → n ≡ count ns → Holds st hi i t → suc i ≡ hi'
      → HoldsAll st' lo r p i hi' (snoc ns t)
  pub kept : (lo p hi : ℕ) (ns : Nodes) → HoldsAll st lo first p last hi ns → n ≡ count ns → (j : ℕ) → j < lo → record_at st' j ≡ record_at st j
