-- The nodes of a body in a lent store.
-- Assumes nothing.
use Rattle.std.specs.Prelude.{◌≡◌, true, false, List, ℕ, ◌*◌, ◌/◌, ◌≤◌, ltb, length, Result, Ok, Err}
use Rattle.error.specs.declared.Refusal.{Refusal}
use Rattle.ast.specs.Tree.{Nodes, sizes}
use Rattle.ast.specs.Held.{count, HoldsAll}
use Rattle.ast.specs.Inside.{AllInside}
use Rattle.parser.specs.declared.Parser.{Parser}
use Rattle.parser.specs.Parse.{Parsed, made, refused, parse}
use Rattle.parse.specs.declared.ParsedNodes.{ParsedNodes}

-- the body s with a store of `store` bytes: it is too long, the store has fewer than two records for each of its bytes, or it is parsed
unfoldable pub parse_body : ℕ → List ℕ → ℕ → Parsed Nodes
parse_body depth s store =
    elim (ltb 4096 (length s)) [
      | true ↦ refused Refusal.TooLong
      | false ↦ elim (ltb (store / 24) (2 * length s)) [ true ↦ refused Refusal.StoreTooSmall | false ↦ parse depth s ]
    ]

-- the nodes wanted of the body s are n, and stand in the store from the index `first` on, in the records below `hi`, which are those that the
-- definition makes
pub record StoresBody (s st' : List ℕ) (want : Parsed Nodes) (first n hi : ℕ) : Type 0 where
  pub nodes : Nodes
  pub after : Parser
  pub is : want ≡ made nodes after
  pub records : hi ≡ after.made
  pub prev : ℕ
  pub last : ℕ
  pub held : HoldsAll st' 0 first prev last hi nodes
  pub many : count nodes ≡ n
  pub inside : AllInside (length s) nodes
  pub size : sizes nodes ≤ hi
  pub few : hi ≤ 2 * length s
  pub fits : hi * 24 ≤ length st'

-- the answer where such nodes are wanted
abbrev pub BodyAnswers : List ℕ → List ℕ → Parsed Nodes → Result ParsedNodes Refusal → Type 0
BodyAnswers s st' want (Ok ns) = StoresBody s st' want ns.first ns.count ns.made
BodyAnswers s st' want (Err r) = want ≡ refused r
