-- The nodes of a group, one turn of its loop after the other.
-- Assumes nothing.
use mathlib.Core.Path.{◌≡◌, refl, ◌∙◌, ap, subst}
use mathlib.Core.Bool.{true, false}
use mathlib.Core.List.{List}
use Prim.Native.Nat.{ℕ, zero, suc, ◌+◌, ◌-◌, ◌<◌}
use native.Mathlib.Omega.{arith}
use lib.ListN.{length}
use Rattle.error.specs.declared.Refusal.{Refusal}
use Rattle.token.specs.declared.Mark.{Mark}
use Rattle.ast.specs.Tree.{Node, Nodes, empty, snoc}
use Rattle.ast.specs.Appended.{Appends}
use Rattle.parser.specs.declared.Parser.{Parser}
use Rattle.parser.specs.State.{next, cur_is}
use Rattle.parser.specs.Parse.{Parsed, made, refused, Reads, ◌>>=◌, grouped, group_up_to}
use Rattle.parser.specs.Sound.{Sound, Keeps}
use Rattle.parser.specs.Built.{Answer, Built, Builds, BuildsRow}
use Rattle.parse.proofs.SeqLaws.{rebased}
use Rattle.parse.proofs.LoopLaws.{count_few, never_spent, Loops, more_turns}

-- ---- one turn

module _ (node : Reads) (s : List ℕ) (end : Mark) where
  pub turn_end : (k : ℕ) (q : Parser) (ns : Nodes) → cur_is q Mark.EOF ≡ true → group_up_to node s end k q ns ≡ refused Refusal.UnexpectedToken
  unfolding group_up_to
  turn_end zero q ns e = refl
  turn_end (suc k) q ns e = rw (group_up_to, e)

  pub turn_closed : (k : ℕ) (q : Parser) (ns : Nodes) → Sound s q → length s < q.cur.start + k → cur_is q Mark.EOF ≡ false → cur_is q end ≡ true
      → group_up_to node s end k q ns ≡ grouped ns q
  unfolding group_up_to
  turn_closed zero q ns h enough e f = absurd (never_spent s q h enough)
  turn_closed (suc k) q ns h enough e f = rw (group_up_to, e, f)

  pub turn_refused : {r : Refusal} (k : ℕ) (q : Parser) (ns : Nodes) → Sound s q → length s < q.cur.start + k → cur_is q Mark.EOF ≡ false → cur_is q end ≡ false → node q ≡ refused r
      → group_up_to node s end k q ns ≡ refused r
  unfolding group_up_to ◌>>=◌
  turn_refused zero q ns h enough e f g = absurd (never_spent s q h enough)
  turn_refused (suc k) q ns h enough e f g = rw (group_up_to, e, f, g)

  pub turn_more : {n : Node} {r : Parser} (k : ℕ) (q : Parser) (ns : Nodes) → Sound s q → length s < q.cur.start + k → cur_is q Mark.EOF ≡ false → cur_is q end ≡ false → node q ≡ made n r
      → group_up_to node s end k q ns ≡ group_up_to node s end (k - 1) (next s r) (snoc ns n)
  unfolding group_up_to ◌>>=◌
  turn_more zero q ns h enough e f g = absurd (never_spent s q h enough)
  turn_more {n} {r} (suc k) q ns h enough e f g =
      let less : k ≡ suc k - 1 = omega arith in
      rw (group_up_to, e, f, g) (ap (λ x. group_up_to node s end x (next s r) (snoc ns n)) less)

-- ---- the loop

-- what holds on the way through a group
abbrev pub GroupLoop : List ℕ → Reads → Mark → Parser → List ℕ → List ℕ → Parser → ℕ → ℕ → ℕ → Type 0
GroupLoop s node end q₀ st₀ st q first last n = Loops s (λ k p ns. group_up_to node s end k p ns) q₀ st₀ st q first last n

module _ (node : Reads) (s : List ℕ) (end : Mark) {q₀ : Parser} {st₀ st : List ℕ} {q : Parser} {first last n : ℕ} (g : GroupLoop s node end q₀ st₀ st q first last n) where
  pub group_end : (p : Parser) (want : Parsed Node) → cur_is q Mark.EOF ≡ true → want ≡ group_up_to node s end (suc (length s)) q₀ empty → want ≡ refused Refusal.UnexpectedToken
  group_end p want e is = is ∙ g.is ∙ turn_end node s end g.fuel q g.ns e

  pub group_refused : {r : Refusal} (want : Parsed Node) → cur_is q Mark.EOF ≡ false → cur_is q end ≡ false → node q ≡ refused r → want ≡ group_up_to node s end (suc (length s)) q₀ empty
      → want ≡ refused r
  group_refused want e f h is = is ∙ g.is ∙ turn_refused node s end g.fuel q g.ns g.spare.sound g.enough e f h

  pub group_closed : (st' : List ℕ) (p : Parser) (want : Parsed Node) (r : Answer) → cur_is q Mark.EOF ≡ false → cur_is q end ≡ true → q₀.made ≡ p.made
      → want ≡ group_up_to node s end (suc (length s)) q₀ empty → BuildsRow st st' q first n (λ ns. grouped ns q) r → Builds st₀ st' p.made p want r
  group_closed st' p want r e f same is bs =
      let c = count_few st q₀.made first g.before last q.made g.ns g.held in
      subst (λ lo. Builds st₀ st' lo p want r) same (rebased st₀ st st' q₀.made p q want (grouped g.ns q) r (bs q₀.made g.before last g.ns g.held g.many) (λ j lt. g.kept j (omega arith)) (omega arith) (is ∙ g.is ∙ turn_closed node s end g.fuel q g.ns g.spare.sound g.enough e f))

  -- one node more
  pub group_turns : Keeps s node → (e : cur_is q Mark.EOF ≡ false) {st₁ : List ℕ} → length st₁ ≡ length st → {i : ℕ} {r : Parser} → Built st st₁ q.made q (node q) i r
      → (st₂ : List ℕ) (first' last' n' : ℕ) (r' : Parser) → length st₂ ≡ length st₁ → cur_is q end ≡ false → Appends st₁ st₂ first last n i first' → (last' ≡ i) × (n' ≡ n + 1) → r' ≡ next s r
      → GroupLoop s node end q₀ st₀ st₂ r' first' last' n'
  group_turns keeps e len b st₂ first' last' n' r' len₂ f ap₂ moved step =
      more_turns g keeps e len b st₂ first' last' n' r' len₂ ap₂ moved step (turn_more node s end g.fuel q g.ns g.spare.sound g.enough e f b.is)
