-- What the parser's functions do in the store.
-- Assumes nothing.
use Rattle.std.specs.Prelude.{◌≡◌, true, List, ℕ, suc, ◌+◌, ◌*◌, ◌^◌, ◌≤◌, ◌<◌, length, Result, Ok, Err}
use Rattle.error.specs.declared.Refusal.{Refusal}
use Rattle.token.specs.declared.Mark.{Mark}
use Rattle.ast.specs.declared.Leaf.{Leaf}
use Rattle.ast.specs.declared.Record.{Record}
use Rattle.ast.specs.declared.Fields.{Fields}
use Rattle.ast.specs.Store.{record_at}
use Rattle.ast.specs.Tree.{Node, Nodes}
use Rattle.ast.specs.Held.{count, Beside, Roof, operand_of, Before, Holds, HoldsAll, FillsTree}
use Rattle.parser.specs.declared.Parser.{Parser}
use Rattle.parser.specs.declared.ParsedNode.{ParsedNode}
use Rattle.parser.specs.State.{peek_is}
use Rattle.parser.specs.declared.Limits.{Limits}
use Rattle.parser.specs.declared.Side.{Side}
use Rattle.parser.specs.Parse.{Parsed, made, refused, Reads, with_below, with_above, with_both}
use Rattle.parser.specs.Sound.{Sound, idle}

-- the node at i and the state q are what the definition wants; the tree stands in st', with all the records from lo on that are made, and no
-- record made before the state p is another than in st
pub record Built (st st' : List ℕ) (lo : ℕ) (p : Parser) (want : Parsed Node) (i : ℕ) (q : Parser) : Type 0 where
  pub tree : Node
  pub is : want ≡ made tree q
  pub held : Holds st' lo i tree
  pub last : suc i ≡ q.made
  pub kept : (j : ℕ) → j < p.made → record_at st' j ≡ record_at st j

-- what a function of the parser answers, and that it is what the definition wants
abbrev pub Answer : Type 0
Answer = Result ParsedNode Refusal

abbrev pub Builds : List ℕ → List ℕ → ℕ → Parser → Parsed Node → Answer → Type 0
Builds st st' lo p want (Ok r) = Built st st' lo p want r.node r.after
Builds st st' lo p want (Err r) = want ≡ refused r

-- .. of one that has read no node; one node, which is at a; two nodes, which are at a and b; and three, the last at c; and of one that makes a
-- leaf, which may be of an operand
abbrev pub BuildsNone : List ℕ → List ℕ → Parser → Parsed Node → Answer → Type 0
BuildsNone st st' p want r = (lo : ℕ) → lo ≡ p.made → Builds st st' lo p want r

abbrev pub BuildsLeaf : List ℕ → List ℕ → Parser → Leaf → Parsed Node → Answer → Type 0
BuildsLeaf st st' p l want r = (lo : ℕ) → Before st lo p.made (operand_of l) → Builds st st' lo p want r

abbrev pub BuildsOne : List ℕ → List ℕ → Parser → ℕ → (Node → Parsed Node) → Answer → Type 0
BuildsOne st st' p a want r = (lo : ℕ) (n : Node) → FillsTree st a n lo p.made → Builds st st' lo p (want n) r

abbrev pub BuildsTwo : List ℕ → List ℕ → Parser → ℕ → ℕ → (Node → Node → Parsed Node) → Answer → Type 0
BuildsTwo st st' p a b want r =
    (lo : ℕ) (m n : Node) → Beside (λ l u. FillsTree st a m l u) (λ l u. FillsTree st b n l u) lo p.made → Builds st st' lo p (want m n) r

-- .. of which the one at b stands behind the one at a
abbrev pub BuildsBehind : List ℕ → List ℕ → Parser → ℕ → ℕ → (Node → Node → Parsed Node) → Answer → Type 0
BuildsBehind st st' p a b want r =
    (lo : ℕ) (m n : Node) (mid : ℕ) → FillsTree st a m lo mid → FillsTree st b n mid p.made → Builds st st' lo p (want m n) r

abbrev pub BuildsThree : List ℕ → List ℕ → Parser → ℕ → ℕ → ℕ → (Node → Node → Node → Parsed Node) → Answer → Type 0
BuildsThree st st' p a b c want r =
    (lo : ℕ) (m n o : Node) → Beside (λ l u. FillsTree st a m l u) (λ l u. Beside (λ k v. FillsTree st b n k v) (λ k v. FillsTree st c o k v) l u) lo p.made
    → Builds st st' lo p (want m n o) r

-- .. of one that has read the nodes from `first` on, and of one that makes a matrix of them
abbrev pub BuildsRow : List ℕ → List ℕ → Parser → ℕ → ℕ → (Nodes → Parsed Node) → Answer → Type 0
BuildsRow st st' p first n want r =
    (lo before last : ℕ) (ns : Nodes) → HoldsAll st lo first before last p.made ns → n ≡ count ns → Builds st st' lo p (want ns) r

abbrev pub BuildsMatrix : List ℕ → List ℕ → Parser → ℕ → ℕ → (Nodes → Parsed Node) → Answer → Type 0
BuildsMatrix st st' p first n want r =
    (lo hi before last : ℕ) (ns : Nodes) → Roof st lo hi p.made → HoldsAll st lo first before last hi ns → n ≡ count ns → Builds st st' lo p (want ns) r

-- the record of a node of which the numbers are f, with parts at the indices a, b and c
unfoldable pub node_record : Fields → ℕ → ℕ → ℕ → Record
node_record f a b c = record {
  tag = f.tag;
  attr = f.attr;
  a = a;
  b = b;
  c = c;
  next = 0;
  x = f.x;
  y = f.y;
}

-- k records more can be made
pub record Free (st : List ℕ) (p : Parser) (k : ℕ) : Type 0 where
  pub fits : (p.made + k) * 24 ≤ length st
  pub small : p.made + k ≤ 65536

-- `cap` records are lent, of which k more than two for each byte from `at` on are left in the state p
pub record Spare (s st : List ℕ) (p : Parser) (at k : ℕ) : Type 0 where
  pub sound : Sound s p
  pub cap : ℕ
  pub room : p.made + 2 * length s + k ≤ cap + 2 * at
  pub lent : cap * 24 ≤ length st
  pub small : cap ≤ 65536
  pub long : length s < 2 ^ 32

-- .. which suffice for the node that begins with the current token and all that follows
abbrev pub Ready : List ℕ → List ℕ → Parser → Type 0
Ready s st p = Spare s st p p.cur.start (idle p.cur)

-- .. which is a command, of three bytes or more
abbrev pub ReadyCommand : List ℕ → List ℕ → Parser → Type 0
ReadyCommand s st p = Ready s st p × (p.cur.start + 3 ≤ p.cur.end)

-- .. behind the current token, where a node ends
abbrev pub Ends : List ℕ → List ℕ → Parser → ℕ → Type 0
Ends s st p k = Spare s st p p.cur.end k

-- where a prime is next, two records more can be made
abbrev pub Primed : List ℕ → Parser → Type 0
Primed st p = peek_is p Mark.Prime ≡ true → Free st p 2

-- an operator with a limit above or below, and with a second one at the other place
abbrev pub with_limit : Side → Limits → Node → Reads
with_limit Side.Under kind under = with_below kind under
with_limit Side.Over kind over = with_above kind over

abbrev pub with_limits : Side → Limits → Node → Node → Reads
with_limits Side.Under kind under over = with_both kind under over
with_limits Side.Over kind over under = with_both kind under over
