-- Operands, nodes that are built and groups stay in the body, and the bytes read pay for their records.
-- Assumes nothing.
use mathlib.Core.Path.{◌≡◌, refl}
use mathlib.Core.Bool.{false}
use mathlib.Core.List.{List}
use Prim.Native.Nat.{ℕ, zero, suc, ◌+◌, ◌*◌, ◌≤◌, ◌<◌}
use native.Mathlib.Omega.{arith}
use lib.ListN.{length}
use Rattle.text.proofs.Cases.{by_test, never}
use Rattle.std.specs.Prelude.{◌≢◌}
use Rattle.token.specs.declared.Mark.{Mark}
use Rattle.ast.specs.Tree.{Node, row, Nodes, empty, ◌then◌, snoc, size, sizes}
use Rattle.ast.specs.Inside.{TreeInside, AllInside}
use Rattle.parser.specs.declared.Parser.{Parser}
use Rattle.parser.specs.State.{next, cur_is}
use Rattle.parser.specs.Parse.{Parsed, made, refused, Reads, ◌>>=◌, build, grouped, group_up_to, parse_group}
use Rattle.parser.specs.Sound.{Sound, idle, Kept, Keeps}
use Rattle.parser.proofs.MoveLaws.{other_byte, mark_byte, next_sound, idle_le, idle_none}
use Rattle.parser.proofs.TreeLaws.{snoc_sizes, snoc_inside}

-- ---- what is read by parts

-- where two functions one behind the other read a value, the first reads one that the second goes on with
pub by_parts : {A B P : Type 0} {b : B} {r : Parser} (x : Parsed A) (k : A × Parser → Parsed B)
    → x >>= k ≡ made b r → ((a : A) (q : Parser) → x ≡ made a q → k (a, q) ≡ made b r → P) → P
unfolding ◌>>=◌
by_parts (made a q) k e f = f a q refl e
by_parts (refused z) k e f = never (cc)

-- what holds of a value and the state behind it holds of those that are the same
pub given : {A : Type 0} (P : A → Parser → Type 0) {n m : A} {r q : Parser} → made n r ≡ made m q → P n r → P m q
given P {n} {m} {r} {q} e h =
    let value : n ≡ m = cc in
    let state : r ≡ q = cc in
    rw (← value, ← state) h

-- an operand: the end of the body may stand for it, and costs a record
pub record Operand (s : List ℕ) (p : Parser) (n : Node) (q : Parser) : Type 0 where
  pub sound : Sound s q
  pub on : p.cur.end ≤ q.cur.end
  pub spent : q.made + 2 * p.cur.start ≤ p.made + 2 * q.cur.end + 1
  pub size : p.made + size n ≤ q.made
  pub inside : TreeInside (length s) n

pub operand : {s : List ℕ} {reads : Reads} → Keeps s reads → {p : Parser} {n : Node} {q : Parser} → Sound s p → reads p ≡ made n q → Operand s p n q
operand keeps {p} {n} {q} h e =
    let k = keeps p n q h e in
    let one_more = idle_le p.cur in
    record { sound = k.sound; on = k.on; spent = omega arith; size = k.size; inside = k.inside }

-- a node that is built with k records at the state r
pub built : (s : List ℕ) (p r : Parser) (k : ℕ) (n m : Node) (q : Parser)
    → build k n r ≡ made m q
    → Sound s r
    → p.cur.end ≤ r.cur.end
    → r.made + k + 2 * p.cur.start ≤ p.made + 2 * r.cur.end + idle p.cur
    → p.made + size n ≤ r.made + k
    → TreeInside (length s) n
    → Kept s p m q
unfolding build
built s p r k n m q e h on spent small inside =
    given (Kept s p) e
    (record { sound = record { cur = h.cur; peek = h.peek }; on = on; spent = spent; size = small; inside = inside })

-- ---- a group

-- what holds of a group whose first token is at `at`, where `base` records were made: its last token pays for the row
pub record Group (s : List ℕ) (at base : ℕ) (n : Node) (q : Parser) : Type 0 where
  pub sound : Sound s q
  pub on : at < q.cur.end
  pub spent : q.made + 2 * at < base + 2 * q.cur.end
  pub size : base + size n ≤ q.made
  pub inside : TreeInside (length s) n

-- .. and on the way to it of the nodes so far, before the token of p
pub record Rowing (s : List ℕ) (at base : ℕ) (p : Parser) (ns : Nodes) : Type 0 where
  pub sound : Sound s p
  pub on : at ≤ p.cur.start
  pub spent : p.made + 2 * at ≤ base + 2 * p.cur.start
  pub size : base + sizes ns ≤ p.made
  pub inside : AllInside (length s) ns

module _ (s : List ℕ) (at base : ℕ) where
  -- the token that closes a group pays for its row
  row_closes : (ns : Nodes) (p : Parser) (n : Node) (q : Parser) → Rowing s at base p ns → p.cur.start < p.cur.end
      → build 1 (row ns) p ≡ made n q → Group s at base n q
  unfolding build size
  row_closes ns p n q h wide e =
      given (Group s at base) e
      (record {
        sound = record { cur = h.sound.cur; peek = h.sound.peek };
        on = omega arith;
        spent = omega arith;
        size = omega arith;
        inside = h.inside;
      })

  -- .. and a node alone is the group
  closes : (ns : Nodes) (p : Parser) (n : Node) (q : Parser) → Rowing s at base p ns → p.cur.start < p.cur.end
      → grouped ns p ≡ made n q → Group s at base n q
  unfolding grouped sizes
  closes empty p n q h wide e = row_closes empty p n q h wide e
  closes (m then empty) p n q h wide e =
      given (Group s at base) e
      (record { sound = h.sound; on = omega arith; spent = omega arith; size = omega arith; inside = h.inside.0 })
  closes (m then (l then ns)) p n q h wide e = row_closes (m then (l then ns)) p n q h wide e

  -- a token that is not the end, and the node that it begins
  pub rowing_more : {node : Reads} → Keeps s node → (p : Parser) (ns : Nodes) (n : Node) (q : Parser) → Rowing s at base p ns → cur_is p Mark.EOF ≡ false
      → node p ≡ made n q → Rowing s at base (next s q) (snoc ns n)
  unfolding next
  rowing_more keeps p ns n q h other e =
      let k = keeps p n q h.sound e in
      let sound = next_sound s q k.sound in
      let byte = other_byte p.cur.token other in
      let paid = idle_none p.cur (omega arith) in
      let more = snoc_sizes ns n in
      record {
        sound = sound;
        on = omega arith;
        spent = omega arith;
        size = omega arith;
        inside = snoc_inside (length s) ns n h.inside k.inside;
      }

  -- the nodes up to the token that closes the group
  group_closes : {node : Reads} → Keeps s node → (end : Mark) → end ≢ Mark.EOF → (k : ℕ) (p : Parser) (ns : Nodes) (n : Node) (q : Parser)
      → Rowing s at base p ns → group_up_to node s end k p ns ≡ made n q → Group s at base n q
  unfolding group_up_to
  group_closes keeps end some-mark zero p ns n q h e = never (cc)
  group_closes keeps end some-mark (suc k) p ns n q h e =
      by_test (cur_is p Mark.EOF)
      (λ t. let f = rw (group_up_to, t) at e in never (cc))
      (λ t.
      by_test (cur_is p end)
      (λ u.
      let byte = mark_byte p.cur.token end some-mark u in
      closes ns p n q h (omega arith) (rw (group_up_to, t, u) at e))
      (λ u.
      by_parts _ _ (rw (group_up_to, t, u) at e)
      (λ m r first rest. group_closes keeps end some-mark k (next s r) (snoc ns m) n q (rowing_more keeps p ns m r h t first) rest)))

-- parse_group from its opening token on
pub group_kept : {s : List ℕ} {node : Reads} → Keeps s node → (end : Mark) → end ≢ Mark.EOF → (p : Parser) (n : Node) (q : Parser) → Sound s p
    → parse_group node s end p ≡ made n q → Group s (next s p).cur.start p.made n q
unfolding parse_group next sizes
group_kept {s} keeps end some-mark p n q h e =
    group_closes s (next s p).cur.start p.made keeps end some-mark (suc (length s)) (next s p) empty n q
    (record { sound = next_sound s p h; on = omega arith; spent = omega arith; size = omega arith; inside = tt })
    e
