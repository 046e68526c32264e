-- What it is to set the variant of a stored tree: the letters change, and no record outside the tree.
-- Assumes nothing.
use Rattle.std.specs.Prelude.{◌≡◌, List, ℕ, ◌+◌, ◌*◌, ◌≤◌, ◌<◌, length}
use Rattle.attribute.specs.declared.Variant.{Variant}
use Rattle.ast.specs.declared.Role.{Role}
use Rattle.ast.specs.Store.{record_at}
use Rattle.ast.specs.Tree.{Node, set_variant}
use Rattle.ast.specs.Held.{Holds}

-- some tree is stored at i
pub record Stored (st : List ℕ) (i : ℕ) : Type 0 where
  pub lo : ℕ
  pub tree : Node
  pub held : Holds st lo i tree
  pub fits : i * 24 + 24 ≤ length st

-- the tree at i has the variant v set in st', and every other record is st's
pub record Turned (st st' : List ℕ) (lo i : ℕ) (v : Variant) (t : Node) : Type 0 where
  pub held : Holds st' lo i (set_variant v t)
  pub below : (j : ℕ) → j < lo → record_at st' j ≡ record_at st j
  pub above : (j : ℕ) → i < j → record_at st' j ≡ record_at st j
  pub next : (record_at st' i).next ≡ (record_at st i).next

-- .. whatever tree st holds there
pub record Sets (st st' : List ℕ) (i : ℕ) (v : Variant) : Type 0 where
  pub all : (lo : ℕ) (t : Node) → Holds st lo i t → Turned st st' lo i v t

-- how many nodes the variant is handed on to: a row's, and no other node's parts
abbrev pub row_count : Role → ℕ
row_count Role.Letter = 0
row_count (Role.Operator c) = 0
row_count (Role.OtherOperator t) = 0
row_count (Role.Row n) = n
row_count Role.Other = 0
