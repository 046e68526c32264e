-- What the proofs by hand over `Lexer` share: the struct's type with its laws, and what `next_token` asks of its callers and tells them.
-- Assumes nothing.
use mathlib.Core.Path.{◌≡◌}
use Prim.Native.Nat.{◌≤◌}
use mathlib.Core.List.{[], ◌∷◌}
use lib.Dec.{T as Holds}
use lib.ListN.{length, drop}
use seplogic.Ra.Ura.{Ura}
use mir.Syntax.{named}
use mir.Val.{WT, has_ty}
use base.Logic.{SProp, ent, sep, snd∗, ex_e}
use base.Fml.{Lft, Share, Fml, ftrue, flft}
use prog.Memory.{Memory}
use prog.Routine.{Routine}
use types.Logic.{Logic, sem}
use contract.Lifetimes.{Lfts}
use contract.Monad.{Fun, fact}
use types.Kit.{‵, ◌⊛◌, ◌$◌, ◌∵◌, !, qed, join, done}
use denote.RattleType.{RattleType, owns}
use denote.Laws.{Is}
use denote.Signature.{named_lft}
use denote.Struct.Declared.{Declared}
use denote.Struct.Laws as LL
use denote.Triple.Statement.{Contract}
use denote.Triple.Entry.{on_entry}
use denote.Triple.Spec.{triple_of}
use denote.Triple.Walked.{says}
use denote.Triple.Clauses.{ensured, lasts}
use Rattle.lexer.specs.Lex.{next_token}
use Rattle.lexer.specs.declared.Lexeme.{Lexeme}
use Rattle.lexer.specs.declared.reader.Lexer.{Lexer}
use Rattle.lexer.specs.contracts.reader.Lexer as T
use Rattle.lexer.proofs.reader.Lexer.TheLaws as T'
use Rattle.lexer.specs.contracts.reader.Lexer.next_token as next

-- the struct's type over the lifetimes of a signature, its laws, and its row
abbrev pub D : Lfts 1 → Declared
D κs = T.the_type (named_lft 1 0 tt κs)

abbrev pub L : (κs : Lfts 1) → LL.Laws (D κs)
L κs = T'.the_laws (named_lft 1 0 tt κs)

abbrev pub Row : Lfts 1 → RattleType
Row κs = T.the_row (named_lft 1 0 tt κs)

-- what d owns
abbrev pub Own : Lft → Lexer → Fml
Own κ d = (Row (κ, tt)).own_val d (T'.lowered d ∷ [])

-- what `next_token` asks, and what it says of the token r that it finds
abbrev pub Asks : Lexer → Type 0
Asks d = d.at ≤ length d.input.now

abbrev pub Found : Lexer → Lexeme → Type 0
Found d r = (r ≡ next_token d.at (drop d.at d.input.now)) × (r.end ≤ length d.input.now)

module _ {M : Type 1} {𝓤 : Ura M} (𝓛 : Logic 𝓤) where
  -- the machine value of d is one of the struct's
  pub typed : (κs : Lfts 1) (d : Lexer) → Is (Row κs) d (T'.lowered d ∷ []) → Holds (has_ty (T'.mir (named 0)) (T'.lowered d)) × WT (T'.lowered d)
  typed κs d p = ((LL.lawful (D κs) (L κs) 𝓛).typed d _ p).0

  -- the struct is Copy
  pub twice : (κ : Lft) (d : Lexer) → ent 𝓤 (sem 𝓛 (Own κ d)) (sep 𝓤 (sem 𝓛 (Own κ d)) (sem 𝓛 (Own κ d)))
  twice κ d = (LL.copy (D (κ, tt)) (T'.the_copy (named_lft 1 0 tt (κ, tt))) 𝓛).twice d (T'.lowered d ∷ [])

module _ {M : Type 1} {𝓤 : Ura M} (𝓛 : Logic 𝓤) (mem : Memory → SProp 𝓤) (run : Routine → Fun 𝓤) where
  -- the contract of `next_token`, and what its triple binds in a call on d
  abbrev pub Next : Contract 𝓤
  Next = triple_of 𝓛 next.signature (next.spec 𝓛 mem run)

  abbrev pub to : Lft → Share → Lexer → Next.Ghost
  to κ q d = (((κ, tt), (q, tt), tt, (d, tt), (T'.lowered d ∷ [], tt)), tt)

  pub asked : (κ : Lft) (q : Share) (d : Lexer) → Asks d
      → ent 𝓤 (on_entry 𝓛 next.signature (κ, tt) (q, tt) (d, tt) (T'.lowered d ∷ [], tt)) (Next.pre (to κ q d))
  asked κ q d ok = qed 𝓛 ((‵ (flft κ q) ⊛ ‵ ftrue) ∷ ‵ (owns (Row (κ, tt) ∷ []) (d, tt) (T'.lowered d ∷ [], tt)) ∷ []) ∵ says ! ok $ join ! $ done !

  -- of its `ensured`, the clause alone: it has no `&mut`, so what is said of last values is dropped
  pub told : (κ : Lft) (d : Lexer) (r : Lexeme) → ent 𝓤 (ensured 𝓛 next.ended (next.clauses 𝓛 mem run) (κ, tt) (d, tt) tt r) (fact 𝓤 (Found d r))
  told κ d r = ex_e 𝓤 _ (λ ws. snd∗ 𝓤 (sem 𝓛 (lasts next.ended (κ, tt) (d, tt) ws)) (fact 𝓤 (Found d r)))
