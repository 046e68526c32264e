-- What is printed at a place, what stands at an index of the store, and what it is to print it.
-- Assumes nothing.
use Rattle.std.specs.Prelude.{◌≡◌, List, [], ◌++◌, ℕ, ◌+◌, ◌*◌, ◌≤◌, ◌<◌, length}
use Rattle.text.specs.Put.{Room, Puts}
use Rattle.text.specs.declared.put.Output.{Output}
use Rattle.text.specs.declared.Dialect.{Dialect}
use Rattle.ast.specs.declared.One.{One}
use Rattle.ast.specs.Tree.{Node, Nodes, empty, ◌then◌}
use Rattle.ast.specs.Held.{count, Holds, HoldsAll}
use Rattle.ast.specs.Inside.{TreeInside, AllInside}
use Rattle.markup.specs.declared.Place.{Place}
use Rattle.markup.specs.Print.{at_place, print}

-- where the part of a node with one part is printed
unfoldable pub place_of : One → Place
place_of (One.OverOp c acc) = Place.Plain
place_of (One.UnderOp c acc) = Place.Plain
place_of One.Sqrt = Place.Plain
place_of (One.Fenced t u) = Place.Plain
place_of One.Slashed = Place.Slashed
place_of (One.Style d) = Place.Plain

-- the markup of a node of the body s, and of nodes one behind the other
unfoldable pub shown : Dialect → Place → List ℕ → Node → List ℕ
shown d place s t = at_place d place t (print d s t)

unfoldable pub shown_all : Dialect → Place → List ℕ → Nodes → List ℕ
shown_all d place s empty = []
shown_all d place s (t then ns) = shown d place s t ++ shown_all d place s ns

-- the tree t of the body s stands in the store at the index i, which is below `left`
pub record TreeAt (s st : List ℕ) (left i : ℕ) (t : Node) : Type 0 where
  pub lo : ℕ
  pub held : Holds st lo i t
  pub inside : TreeInside (length s) t
  pub near : i < left
  pub fits : i * 24 + 24 ≤ length st

-- two things, each where it stands; two trees; three trees
pub record Both {A B : Type 0} (P : A → Type 0) (Q : B → Type 0) (t : A × B) : Type 0 where
  pub first : P t.0
  pub second : Q t.1

abbrev pub TwoAt : List ℕ → List ℕ → ℕ → ℕ → ℕ → Node × Node → Type 0
TwoAt s st left i j = Both (TreeAt s st left i) (TreeAt s st left j)

abbrev pub ThreeAt : List ℕ → List ℕ → ℕ → ℕ → ℕ → ℕ → Node × (Node × Node) → Type 0
ThreeAt s st left i j k = Both (TreeAt s st left i) (TwoAt s st left j k)

-- ns are the n trees from the index i on, each the next of the one before, all below `left`
pub record NodesAt (s st : List ℕ) (left i n : ℕ) (ns : Nodes) : Type 0 where
  pub lo : ℕ
  pub prev : ℕ
  pub last : ℕ
  pub hi : ℕ
  pub held : HoldsAll st lo i prev last hi ns
  pub many : count ns ≡ n
  pub inside : AllInside (length s) ns
  pub near : hi ≤ left
  pub fits : hi * 24 ≤ length st

-- there is room for the text of something that stands there
pub record Printable {T : Type 0} (There : T → Type 0) (text : T → List ℕ) (o : Output) : Type 0 where
  pub what : T
  pub there : There what
  pub room : Room o (length (text what))

-- of whatever stands there the text is put
pub record Prints {T : Type 0} (There : T → Type 0) (text : T → List ℕ) (o o' : Output) : Type 0 where
  pub all : (t : T) → There t → Room o (length (text t)) → Puts o o' (text t)
