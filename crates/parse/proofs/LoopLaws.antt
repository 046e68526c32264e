-- The loop that reads nodes one behind the other: what holds on the way, whatever is made of the nodes at the end.
-- Assumes nothing.
use mathlib.Core.Path.{◌≡◌, refl, sym, ◌∙◌, ap}
use mathlib.Core.Bool.{false}
use mathlib.Core.List.{List}
use Prim.Native.Nat.{ℕ, zero, suc, ◌+◌, ◌-◌, ◌*◌, ◌^◌, ◌≤◌, ◌<◌}
use native.Mathlib.Omega.{arith}
use lib.ListN.{length}
use Rattle.token.specs.declared.Mark.{Mark}
use Rattle.ast.specs.Store.{record_at}
use Rattle.ast.specs.Tree.{Node, Nodes, empty, ◌then◌, snoc}
use Rattle.ast.specs.Held.{count, HoldsAll}
use Rattle.ast.specs.Appended.{Appends}
use Rattle.ast.proofs.HeldLaws.{low, frame_all}
use Rattle.ast.proofs.RowLaws.{first_below}
use Rattle.parser.specs.declared.Parser.{Parser}
use Rattle.parser.specs.State.{next, cur_is}
use Rattle.parser.specs.Parse.{Parsed, Reads}
use Rattle.parser.specs.Sound.{Sound, Keeps}
use Rattle.parser.specs.Built.{Free, Ready, Ends, Built}
use Rattle.parser.proofs.MoveLaws.{other_byte}
use Rattle.parser.proofs.BodyLaws.{enough_behind}
use Rattle.parse.proofs.RoomLaws.{Starts, wide_ready, wide_ends, ends_next}
use Rattle.parse.proofs.SeqLaws.{Stay}

-- each node has a record of its own
pub count_few : (st : List ℕ) (lo f p l hi : ℕ) (ns : Nodes) → HoldsAll st lo f p l hi ns → count ns + lo ≤ hi
unfolding count
count_few st lo f p l hi empty h = let e = h.1 in omega arith
count_few st lo f p l hi (n then ns) h =
    let a = low st lo f n h.here in
    let c = count_few st (suc f) (record_at st f).next f l hi ns h.rest in
    omega arith

pub count_snoc : (ns : Nodes) (n : Node) → count (snoc ns n) ≡ count ns + 1
unfolding count snoc
count_snoc empty n = refl
count_snoc (m then ns) n = let e = count_snoc ns n in omega arith

snoc_below : (st : List ℕ) (lo f p l hi : ℕ) (ns : Nodes) (n : Node) → HoldsAll st lo f p l hi (snoc ns n) → f < hi
unfolding snoc
snoc_below st lo f p l hi empty n h = first_below st lo f p l hi n empty h
snoc_below st lo f p l hi (m then ns) n h = first_below st lo f p l hi m (snoc ns n) h

-- a budget that is enough is not used up
pub never_spent : (s : List ℕ) (q : Parser) → Sound s q → length s < q.cur.start + 0 → ⊥
never_spent s q h enough =
    let w = h.cur.wide in
    let i = h.cur.inside in
    omega arith

-- what is made of the nodes that a state begins, with a budget and the nodes before them
abbrev pub Rest : Type 0 → Type 0
Rest A = ℕ → Parser → Nodes → Parsed A

-- on the way: of the nodes from q₀ on, n are read, and stand from `first` to `last`
pub record Loops {A : Type 0} (s : List ℕ) (rest : Rest A) (q₀ : Parser) (st₀ st : List ℕ) (q : Parser) (first last n : ℕ) : Type 0 where
  pub ns : Nodes
  pub before : ℕ
  pub fuel : ℕ
  pub is : rest (suc (length s)) q₀ empty ≡ rest fuel q ns
  pub enough : length s < q.cur.start + fuel
  pub spare : Starts s st q 0
  pub held : HoldsAll st q₀.made first before last q.made ns
  pub many : n ≡ count ns
  pub small : first < 65536
  pub reach : last ≤ q.made
  pub kept : Stay st₀ st q₀

-- before the first node
pub loops_none : {A : Type 0} {s : List ℕ} {rest : Rest A} {q₀ : Parser} {st : List ℕ} {first last n : ℕ} → Starts s st q₀ 0 → first ≡ 0 → last ≡ 0 → n ≡ 0
    → Loops s rest q₀ st st q₀ first last n
unfolding count
loops_none {A} {s} {rest} {q₀} {st} h no_first no_last no_node =
    rw (no_first, no_last, no_node)
    (record {
      ns = empty;
      before = 0;
      fuel = suc (length s);
      is = refl;
      enough = omega arith;
      spare = h;
      held = (refl, refl);
      many = refl;
      small = omega arith;
      reach = omega arith;
      kept = λ j lt. refl;
    })

module _ {A : Type 0} {s : List ℕ} {rest : Rest A} {q₀ : Parser} {st₀ st : List ℕ} {q : Parser} {first last n : ℕ} (g : Loops s rest q₀ st₀ st q first last n) where
  -- a token that is not the end has a byte
  pub loops_wide : cur_is q Mark.EOF ≡ false → q.cur.start < q.cur.end
  loops_wide e =
      let b = other_byte q.cur.token e in
      let w = g.spare.sound.cur.wide in
      omega arith

  pub loops_ready : cur_is q Mark.EOF ≡ false → Ready s st q
  loops_ready e = wide_ready g.spare (loops_wide e)

  pub loops_few : n ≤ q.made
  loops_few =
      let c = count_few st q₀.made first g.before last q.made g.ns g.held in
      let m = g.many in
      omega arith

  -- the token that closes the group pays for its row
  pub loops_free : cur_is q Mark.EOF ≡ false → Free st q 1
  loops_free e =
      let w = loops_wide e in
      let i = g.spare.sound.cur.inside in
      let r = g.spare.room in
      let l = g.spare.lent in
      let b = g.spare.small in
      record { fits = omega arith; small = omega arith }

  -- ---- one node more
  module _ {node : Reads} (keeps : Keeps s node) (e : cur_is q Mark.EOF ≡ false) {st₁ : List ℕ} (len : length st₁ ≡ length st) {i : ℕ} {r : Parser} (b : Built st st₁ q.made q (node q) i r) where
    pub more_ends : Ends s st₁ r 0
    more_ends = wide_ends len g.spare (loops_wide e) keeps b

    more_low : q.made ≤ i
    more_low = low st₁ q.made i b.tree b.held

    -- what `push` requires
    pub more_push : (last * 24 + 24 ≤ length st₁) × (i < 65536) × (n + 1 < 2 ^ 64)
    more_push =
        let few = loops_few in
        let free = loops_free e in
        let one_free = free.small in
        let a = more_low in
        let d = b.last in
        let h = more_ends in
        let i = h.sound.cur.inside in
        let room = h.room in
        let lent = h.lent in
        let small = h.small in
        let reach = g.reach in
        (omega arith, omega arith, omega arith)

    enough_after : (k : ℕ) → length s < q.cur.start + k → length s < (next s r).cur.start + (k - 1)
    enough_after zero h = absurd (never_spent s q g.spare.sound h)
    enough_after (suc k) h =
        let a = enough_behind s keeps k q b.tree r g.spare.sound e h b.is in
        omega arith

    pub more_turns : (st₂ : List ℕ) (first' last' n' : ℕ) (r' : Parser) → length st₂ ≡ length st₁ → Appends st₁ st₂ first last n i first' → (last' ≡ i) × (n' ≡ n + 1) → r' ≡ next s r
        → rest g.fuel q g.ns ≡ rest (g.fuel - 1) (next s r) (snoc g.ns b.tree) → Loops s rest q₀ st₀ st₂ r' first' last' n'
    unfolding next
    more_turns st₂ first' last' n' r' len₂ ap₂ moved step turn =
        let a = more_low in
        let d = b.last in
        let h = more_ends in
        let room = h.room in
        let lent = h.lent in
        let small = h.small in
        let inside = h.sound.cur.inside in
        let c = count_few st q₀.made first g.before last q.made g.ns g.held in
        let old : HoldsAll st₁ q₀.made first g.before last q.made g.ns = frame_all st st₁ q₀.made first g.before last q.made g.ns (λ j x y. b.kept j y) g.held in
        let new : HoldsAll st₂ q₀.made first' g.before i r.made (snoc g.ns b.tree) = ap₂.linked q₀.made g.before q.made r.made g.ns b.tree old g.many b.held d in
        let below = snoc_below st₂ q₀.made first' g.before i r.made g.ns b.tree new in
        let start : Starts s st₂ (next s r) 0 = ends_next (record { sound = h.sound; cap = h.cap; room = h.room; lent = omega arith; small = h.small; long = h.long }) refl in
        rw (step, moved.0, moved.1)
        (record {
          ns = snoc g.ns b.tree;
          before = g.before;
          fuel = g.fuel - 1;
          is = g.is ∙ turn;
          enough = enough_after g.fuel g.enough;
          spare = start;
          held = new;
          many = ap (λ x. x + 1) g.many ∙ sym (count_snoc g.ns b.tree);
          small = omega arith;
          reach = omega arith;
          kept = λ j lt. ap₂.kept q₀.made g.before q.made g.ns old g.many j lt ∙ b.kept j (omega arith) ∙ g.kept j lt;
        })

    -- the next token begins further on
    pub more_less : (r' : Parser) → r' ≡ next s r → (q.cur.start < r'.cur.start) × (r'.cur.start ≤ length s)
    unfolding next
    more_less r' step =
        let k = keeps q b.tree r g.spare.sound b.is in
        let w = loops_wide e in
        let on = k.on in
        let from = k.sound.peek.from in
        let wide = k.sound.peek.wide in
        let inside = k.sound.peek.inside in
        rw step (omega arith, omega arith)
