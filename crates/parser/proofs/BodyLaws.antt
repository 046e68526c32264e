-- What the parser reads of a body is paid for by its bytes, at any depth; and no budget of a loop runs out.
-- Assumes nothing.
use mathlib.Core.Path.{◌≡◌, refl}
use mathlib.Core.Bool.{false}
use mathlib.Core.List.{List}
use Rattle.std.specs.Prelude.{Option, Some, None}
use Prim.Native.Nat.{ℕ, zero, suc, ◌+◌, ◌*◌, ◌≤◌, ◌<◌}
use native.Mathlib.Omega.{arith}
use lib.ListN.{length}
use Rattle.text.proofs.Cases.{by_test, never}
use Rattle.error.specs.declared.Refusal.{Refusal}
use Rattle.token.specs.declared.Mark.{Mark}
use Rattle.token.specs.declared.Token.{Token}
use Rattle.token.specs.Roles.{mark_number, token_is}
use Rattle.ast.specs.Tree.{Node, Nodes, empty, snoc, size, sizes}
use Rattle.ast.specs.Inside.{TreeInside, AllInside}
use Rattle.parser.specs.declared.Parser.{Parser}
use Rattle.parser.specs.declared.Side.{Side}
use Rattle.parser.specs.State.{next, new, cur_is, peek_is}
use Rattle.parser.specs.Parse.{Parsed, made, refused, Reads, ◌>>=◌, group_up_to, primed, single_step, sub_sup, both_scripts, parse_second, parse_scripts, node_step, parse_node, parse_single_node, nodes_up_to, parse}
use Rattle.parser.specs.Marks.{script_of, repeats}
use Rattle.parser.specs.Sound.{least, Sound, Kept, Keeps}
use Rattle.parser.proofs.MoveLaws.{other_byte, mark_byte, next_sound, new_sound, new_made}
use Rattle.parser.proofs.KeepLaws.{by_parts, given, operand, built, Rowing, rowing_more}
use Rattle.parser.proofs.ArmLaws.{bare_kept}

-- the mark of a script takes a byte
pub script_byte : (t : Token) (side : Side) → script_of t ≡ Some side → 1 ≤ least t
unfolding script_of mark_number
script_byte t side e =
    by_test (token_is t Mark.Underscore)
    (λ x. mark_byte t Mark.Underscore (λ e. never cc) x)
    (λ x.
    by_test (token_is t Mark.Circumflex)
    (λ y. mark_byte t Mark.Circumflex (λ e. never cc) y)
    (λ y. let f = rw (script_of, x, y) at e in never cc))

sub_sup_size : (side : Side) (a b c : Node) → size (sub_sup side a b c) ≡ size a + (size b + size c) + 1
unfolding sub_sup size
sub_sup_size Side.Under a b c = omega arith
sub_sup_size Side.Over a b c = omega arith

sub_sup_inside : (n : ℕ) (side : Side) (a b c : Node) → TreeInside n a → TreeInside n b → TreeInside n c → TreeInside n (sub_sup side a b c)
unfolding sub_sup
sub_sup_inside n Side.Under a b c x y z = (x, y, z)
sub_sup_inside n Side.Over a b c x y z = (x, z, y)

module _ {s : List ℕ} {node single : Reads} (nodes : Keeps s node) (singles : Keeps s single) where
  -- ---- parse_single_node and parse_node over the level below

  -- the prime pays for the two records that are made of it
  pub single_step_keeps : Keeps s (single_step node single s)
  unfolding single_step primed next size mark_number
  single_step_keeps p m q h e =
      by_parts _ _ e
      (λ n r first rest.
      let k = bare_kept nodes singles p n r h p.cur.token h.cur.wide h.cur.places first in
      by_test (peek_is r Mark.Prime)
      (λ t.
      let byte = mark_byte r.peek.token Mark.Prime (λ e. never cc) t in
      let behind = next_sound s r k.sound in
      built s p (next s r) 2 _ m q (rw (primed, t) at rest) behind (omega arith) (omega arith) (omega arith) (k.inside, tt))
      (λ t. given (Kept s p) (rw (primed, t) at rest) k))

  -- the marks before the scripts of a base pay for the one record made of them and for missing operands
  module _ (p : Parser) (n : Node) (r : Parser) (m : Node) (q : Parser) (k : Kept s p n r) (side : Side) (mark : script_of r.peek.token ≡ Some side)
      (x : Node) (z : Parser) (first : single (next s (next s r)) ≡ made x z) where
    both_kept : (again : Side) → script_of z.peek.token ≡ Some again → (script : Option Side) (y : Node) (w : Parser)
        → single (next s (next s z)) ≡ made y w → both_scripts script (sub_sup side n x y) w ≡ made m q → Kept s p m q
    unfolding both_scripts next
    both_kept again mark' (Some third) y w second e = never cc
    both_kept again mark' None y w second e =
        let byte = script_byte r.peek.token side mark in
        let one = next_sound s r k.sound in
        let a = operand singles (next_sound s (next s r) one) first in
        let byte' = script_byte z.peek.token again mark' in
        let two = next_sound s z a.sound in
        let b = operand singles (next_sound s (next s z) two) second in
        let few = sub_sup_size side n x y in
        built s p w 1 _ m q e b.sound (omega arith) (omega arith) (omega arith) (sub_sup_inside (length s) side n x y k.inside a.inside b.inside)

    second_kept : (script : Option Side) → script_of z.peek.token ≡ script → parse_second single s side script n x z ≡ made m q → Kept s p m q
    unfolding parse_second next size
    second_kept None none e =
        let byte = script_byte r.peek.token side mark in
        let one = next_sound s r k.sound in
        let a = operand singles (next_sound s (next s r) one) first in
        built s p z 1 _ m q e a.sound (omega arith) (omega arith) (omega arith) (k.inside, a.inside)
    second_kept (Some again) mark' e =
        by_test (repeats side again)
        (λ t. let f = rw (parse_second, t) at e in never cc)
        (λ t. by_parts _ _ (rw (parse_second, t) at e) (λ y w second rest. both_kept again mark' (script_of w.peek.token) y w second rest))

  scripts_kept : (p : Parser) (n : Node) (r : Parser) (m : Node) (q : Parser) → Kept s p n r → (script : Option Side) → script_of r.peek.token ≡ script
      → parse_scripts single s script n r ≡ made m q → Kept s p m q
  unfolding parse_scripts
  scripts_kept p n r m q k None none e = given (Kept s p) e k
  scripts_kept p n r m q k (Some side) mark e =
      by_parts _ _ e (λ x z first rest. second_kept p n r m q k side mark x z first (script_of z.peek.token) refl rest)

  pub node_step_keeps : Keeps s (node_step single s)
  unfolding node_step
  node_step_keeps p m q h e =
      by_parts _ _ e (λ n r first rest. scripts_kept p n r m q (singles p n r h first) (script_of r.peek.token) refl rest)

-- ---- at any depth

-- both functions, by the depth left
tower : (d : ℕ) (s : List ℕ) → Keeps s (parse_node d s) × Keeps s (parse_single_node d s)
unfolding parse_node parse_single_node
tower zero s = (λ p m q h e. never (cc), λ p m q h e. never (cc))
tower (suc d) s =
    let below = tower d s in
    (node_step_keeps below.0 below.1, single_step_keeps below.0 below.1)

pub node_keeps : (d : ℕ) (s : List ℕ) → Keeps s (parse_node d s)
node_keeps d s = (tower d s).0

pub single_keeps : (d : ℕ) (s : List ℕ) → Keeps s (parse_single_node d s)
single_keeps d s = (tower d s).1

-- ---- the budgets

by_read : {A P : Type 0} (x : Parsed A) → ((z : Refusal) → x ≡ refused z → P) → ((a : A) (q : Parser) → x ≡ made a q → P) → P
by_read (made a q) f g = g a q refl
by_read (refused z) f g = f z refl

module _ (s : List ℕ) {node : Reads} (keeps : Keeps s node) where
  -- a node that does not begin at the end takes a byte, so less of the budget is enough behind it
  pub enough_behind : (k : ℕ) (p : Parser) (n : Node) (q : Parser) → Sound s p → cur_is p Mark.EOF ≡ false → length s < p.cur.start + suc k
      → node p ≡ made n q → length s < (next s q).cur.start + k
  unfolding next
  enough_behind k p n q h t enough e =
      let z = keeps p n q h e in
      let behind = z.sound in
      let byte = other_byte p.cur.token t in
      omega arith

  pub sound_behind : (p : Parser) (n : Node) (q : Parser) → Sound s p → node p ≡ made n q → Sound s (next s q)
  sound_behind p n q h e = next_sound s q (keeps p n q h e).sound

  -- a greater budget changes nothing where the budget is enough
  pub group_budget : (end : Mark) (k : ℕ) (p : Parser) (ns : Nodes) → Sound s p → length s < p.cur.start + k
      → group_up_to node s end k p ns ≡ group_up_to node s end (suc k) p ns
  unfolding group_up_to ◌>>=◌
  group_budget end zero p ns h enough = absurd (omega arith)
  group_budget end (suc k) p ns h enough =
      by_test (cur_is p Mark.EOF)
      (λ t. rw (group_up_to, t))
      (λ t.
      by_test (cur_is p end)
      (λ u. rw (group_up_to, t, u))
      (λ u.
      by_read (node p)
      (λ z e. rw (group_up_to, t, u, e))
      (λ n q e.
      rw (group_up_to, t, u, e)
      (group_budget end k (next s q) (snoc ns n) (sound_behind p n q h e) (enough_behind k p n q h t enough e)))))

  pub nodes_budget : (k : ℕ) (p : Parser) (ns : Nodes) → Sound s p → length s < p.cur.start + k
      → nodes_up_to node s k p ns ≡ nodes_up_to node s (suc k) p ns
  unfolding nodes_up_to ◌>>=◌
  nodes_budget zero p ns h enough = absurd (omega arith)
  nodes_budget (suc k) p ns h enough =
      by_test (cur_is p Mark.EOF)
      (λ t. rw (nodes_up_to, t))
      (λ t.
      by_read (node p)
      (λ z e. rw (nodes_up_to, t, e))
      (λ n q e.
      rw (nodes_up_to, t, e)
      (nodes_budget k (next s q) (snoc ns n) (sound_behind p n q h e) (enough_behind k p n q h t enough e))))

-- ---- the whole body

module _ (s : List ℕ) (at base : ℕ) {node : Reads} (keeps : Keeps s node) where
  nodes_kept : (k : ℕ) (p : Parser) (ns ms : Nodes) (q : Parser) → Rowing s at base p ns → nodes_up_to node s k p ns ≡ made ms q → Rowing s at base q ms
  unfolding nodes_up_to
  nodes_kept zero p ns ms q h e = never (cc)
  nodes_kept (suc k) p ns ms q h e =
      by_test (cur_is p Mark.EOF)
      (λ t. given (λ l r. Rowing s at base r l) (rw (nodes_up_to, t) at e) h)
      (λ t.
      by_parts _ _ (rw (nodes_up_to, t) at e)
      (λ n r first rest. nodes_kept k (next s r) (snoc ns n) ms q (rowing_more s at base keeps p ns n r h t first) rest))

-- the nodes of a body: their records are at most two for each byte, and their places lie in the body
pub record Body (s : List ℕ) (ns : Nodes) (q : Parser) : Type 0 where
  pub sound : Sound s q
  pub size : sizes ns ≤ q.made
  pub few : q.made ≤ 2 * length s
  pub inside : AllInside (length s) ns

pub parse_kept : (depth : ℕ) (s : List ℕ) (ns : Nodes) (q : Parser) → parse depth s ≡ made ns q → Body s ns q
unfolding parse sizes
parse_kept depth s ns q e =
    let none_made = new_made s in
    let sound = new_sound s in
    let begin : Rowing s 0 0 (new s) empty = record { sound = sound; on = omega arith; spent = omega arith; size = omega arith; inside = tt } in
    let z = nodes_kept s 0 0 (node_keeps depth s) (suc (length s)) (new s) empty ns q begin e in
    let end = z.sound in
    record { sound = end; size = omega arith; few = omega arith; inside = z.inside }
