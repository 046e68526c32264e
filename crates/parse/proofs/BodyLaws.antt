-- The nodes of a body, one turn of the loop after the other, and the limits before it.
-- Assumes nothing.
use mathlib.Core.Path.{◌≡◌, refl, sym, ◌∙◌, ap}
use mathlib.Core.Bool.{true, false}
use mathlib.Core.List.{List}
use Rattle.std.specs.Prelude.{Ok}
use Prim.Native.Nat.{ℕ, zero, suc, ◌+◌, ◌-◌, ◌*◌, ◌/◌, ◌≤◌, ◌<◌}
use native.Mathlib.Omega.{arith}
use lib.ListN.{length}
use borrow.Author.Tests.{lt-ltb, le-ltb}
use Rattle.error.specs.declared.Refusal.{Refusal}
use Rattle.token.specs.declared.Mark.{Mark}
use Rattle.ast.specs.Tree.{Node, Nodes, snoc}
use Rattle.ast.specs.Appended.{Appends}
use Rattle.parser.specs.declared.Parser.{Parser}
use Rattle.parser.specs.State.{next, new, cur_is}
use Rattle.parser.specs.Parse.{made, refused, Reads, ◌>>=◌, parse_node, nodes_up_to, parse}
use Rattle.parser.specs.Sound.{Sound}
use Rattle.parser.specs.Built.{Built}
use Rattle.parser.proofs.MoveLaws.{new_sound, new_made}
use Rattle.parser.proofs.BodyLaws.{node_keeps, parse_kept}
use Rattle.parse.specs.Body.{parse_body, BodyAnswers}
use Rattle.parse.proofs.RoomLaws.{Starts}
use Rattle.parse.proofs.LoopLaws.{never_spent, Loops, loops_none, more_turns}

-- ---- one turn: at the end, where a node is refused, and where one is read

module _ (node : Reads) (s : List ℕ) where
  turn_end : (k : ℕ) (q : Parser) (ns : Nodes) → Sound s q → length s < q.cur.start + k → cur_is q Mark.EOF ≡ true → nodes_up_to node s k q ns ≡ made ns q
  unfolding nodes_up_to
  turn_end zero q ns h enough e = absurd (never_spent s q h enough)
  turn_end (suc k) q ns h enough e = rw (nodes_up_to, e)

  turn_refused : {r : Refusal} (k : ℕ) (q : Parser) (ns : Nodes) → Sound s q → length s < q.cur.start + k → cur_is q Mark.EOF ≡ false → node q ≡ refused r
      → nodes_up_to node s k q ns ≡ refused r
  unfolding nodes_up_to ◌>>=◌
  turn_refused zero q ns h enough e g = absurd (never_spent s q h enough)
  turn_refused (suc k) q ns h enough e g = rw (nodes_up_to, e, g)

  turn_more : {n : Node} {r : Parser} (k : ℕ) (q : Parser) (ns : Nodes) → Sound s q → length s < q.cur.start + k → cur_is q Mark.EOF ≡ false → node q ≡ made n r
      → nodes_up_to node s k q ns ≡ nodes_up_to node s (k - 1) (next s r) (snoc ns n)
  unfolding nodes_up_to ◌>>=◌
  turn_more zero q ns h enough e g = absurd (never_spent s q h enough)
  turn_more {n} {r} (suc k) q ns h enough e g =
      let less : k ≡ suc k - 1 = omega arith in
      rw (nodes_up_to, e, g) (ap (λ x. nodes_up_to node s x (next s r) (snoc ns n)) less)

-- ---- the loop

-- what holds on the way through the body s
abbrev pub BodyLoop : ℕ → List ℕ → List ℕ → List ℕ → Parser → ℕ → ℕ → ℕ → Type 0
BodyLoop depth s st₀ st q first last n = Loops s (λ k p ns. nodes_up_to (λ x. parse_node depth s x) s k p ns) (new s) st₀ st q first last n

-- two records for each byte suffice
pub body_none : (depth : ℕ) (s st : List ℕ) (q : Parser) {first last n : ℕ} → length s ≤ 4096 → 2 * length s * 24 ≤ length st → q ≡ new s → first ≡ 0 → last ≡ 0 → n ≡ 0 → BodyLoop depth s st st q first last n
body_none depth s st q short lent is no_first no_last no_node =
    let none_made = new_made s in
    let start : Starts s st (new s) 0 = record { sound = new_sound s; cap = 2 * length s; room = omega arith; lent = lent; small = omega arith; long = omega arith } in
    rw is (loops_none start no_first no_last no_node)

module _ (depth : ℕ) (s : List ℕ) {st₀ st : List ℕ} {q : Parser} {first last n : ℕ} (g : BodyLoop depth s st₀ st q first last n) where
  -- the nodes stand in the store where the body ends
  pub body_end : cur_is q Mark.EOF ≡ true → BodyAnswers s st (parse depth s) (Ok (record { first = first; count = n; made = q.made }))
  unfolding parse
  body_end e =
      let is : parse depth s ≡ made g.ns q = g.is ∙ turn_end (λ x. parse_node depth s x) s g.fuel q g.ns g.spare.sound g.enough e in
      let k = parse_kept depth s g.ns q is in
      let room = g.spare.room in
      let lent = g.spare.lent in
      let wide = g.spare.sound.cur.wide in
      let inside = g.spare.sound.cur.inside in
      record {
        nodes = g.ns;
        after = q;
        is = is;
        records = refl;
        prev = g.before;
        last = last;
        held = rw (new_made s) at g.held;
        many = sym g.many;
        inside = k.inside;
        size = k.size;
        few = k.few;
        fits = omega arith;
      }

  -- a node that is refused ends it all
  pub body_refused : {r : Refusal} → cur_is q Mark.EOF ≡ false → parse_node depth s q ≡ refused r → parse depth s ≡ refused r
  unfolding parse
  body_refused e h = g.is ∙ turn_refused (λ x. parse_node depth s x) s g.fuel q g.ns g.spare.sound g.enough e h

  -- one node more
  pub body_turns : (e : cur_is q Mark.EOF ≡ false) {st₁ : List ℕ} → length st₁ ≡ length st → {i : ℕ} {r : Parser} → Built st st₁ q.made q (parse_node depth s q) i r
      → (st₂ : List ℕ) (first' last' n' : ℕ) (r' : Parser) → length st₂ ≡ length st₁ → Appends st₁ st₂ first last n i first' → (last' ≡ i) × (n' ≡ n + 1) → r' ≡ next s r
      → BodyLoop depth s st₀ st₂ r' first' last' n'
  body_turns e len b st₂ first' last' n' r' len₂ ap₂ moved step =
      more_turns g (node_keeps depth s) e len b st₂ first' last' n' r' len₂ ap₂ moved step
      (turn_more (λ x. parse_node depth s x) s g.fuel q g.ns g.spare.sound g.enough e b.is)

-- ---- the limits, in the order in which they are tested

module _ (depth : ℕ) (s : List ℕ) (store : ℕ) where
  pub too_long : 4096 < length s → parse_body depth s store ≡ refused Refusal.TooLong
  unfolding parse_body
  too_long h = rw (parse_body, lt-ltb _ _ h)

  pub too_small : length s ≤ 4096 → store / 24 < 2 * length s → parse_body depth s store ≡ refused Refusal.StoreTooSmall
  unfolding parse_body
  too_small h k = rw (parse_body, le-ltb _ _ h, lt-ltb _ _ k)

  pub within : length s ≤ 4096 → 2 * length s ≤ store / 24 → parse_body depth s store ≡ parse depth s
  unfolding parse_body
  within h k = rw (parse_body, le-ltb _ _ h, le-ltb _ _ k)
