-- The records lent suffice all along: each token that is passed leaves two for each of its bytes.
-- Assumes nothing.
use mathlib.Core.Path.{◌≡◌, refl, ◌∙◌, ap}
use mathlib.Core.Bool.{true}
use mathlib.Core.List.{List}
use Rattle.std.specs.Prelude.{Some, ◌≢◌}
use Prim.Native.Nat.{ℕ, zero, suc, ◌+◌, ◌≤◌, ◌<◌}
use native.Mathlib.Omega.{arith}
use lib.ListN.{length}
use Rattle.text.proofs.Cases.{never}
use Rattle.token.specs.declared.Token.{Token}
use Rattle.token.specs.declared.Mark.{Mark}
use Rattle.token.specs.Roles.{mark_number, letter_of}
use Rattle.parser.specs.declared.Parser.{Parser}
use Rattle.parser.specs.declared.Side.{Side}
use Rattle.parser.specs.declared.TextRead.{TextRead}
use Rattle.parser.specs.State.{next, peek_is, past_letters, parse_text}
use Rattle.parser.specs.Parse.{Reads, parse_group, parse_bare, parse_node, parse_single_node}
use Rattle.parser.specs.Sound.{least, Sound, idle, Keeps}
use Rattle.parser.specs.Marks.{script_of}
use Rattle.parser.specs.Built.{Built, Free, Spare, Ready, Ends, Primed}
use Rattle.parser.proofs.MoveLaws.{by_letter, mark_byte, next_sound, text_sound, idle_le, idle_none}
use Rattle.parser.proofs.KeepLaws.{group_kept}
use Rattle.parser.proofs.ArmLaws.{bare_kept}
use Rattle.parser.proofs.BodyLaws.{script_byte, node_keeps, single_keeps}

-- so many records to spare before the current token
abbrev pub Starts : List ℕ → List ℕ → Parser → ℕ → Type 0
Starts s st p k = Spare s st p p.cur.start k

-- what `next_token` asks
pub may_next : {s st : List ℕ} {at k : ℕ} {p : Parser} → Spare s st p at k → p.peek.end ≤ length s
may_next h = h.sound.peek.inside

module _ {s st : List ℕ} where
  -- one record to spare is enough for a node that is missing
  pub starts_ready : {k : ℕ} {p : Parser} → Starts s st p k → 1 ≤ k → Ready s st p
  starts_ready {k} {p} h le =
      let i = idle_le p.cur in
      record { sound = h.sound; cap = h.cap; room = omega (arith, h.room); lent = h.lent; small = h.small; long = h.long }

  -- a node that is not missing needs none
  pub wide_ready : {k : ℕ} {p : Parser} → Starts s st p k → p.cur.start < p.cur.end → Ready s st p
  wide_ready {k} {p} h w =
      let i = idle_none p.cur w in
      record { sound = h.sound; cap = h.cap; room = omega (arith, h.room); lent = h.lent; small = h.small; long = h.long }

  -- a state that is ready has what the bytes of its token pay
  pub ready_starts : {p : Parser} (r : Ready s st p) → Starts s st p 0
  ready_starts r = record { sound = r.sound; cap = r.cap; room = omega (arith, r.room); lent = r.lent; small = r.small; long = r.long }

  pub ready_ends : {p : Parser} (r : Ready s st p) → p.cur.start + 3 ≤ p.cur.end → Ends s st p 6
  ready_ends r w = record { sound = r.sound; cap = r.cap; room = omega (arith, r.room); lent = r.lent; small = r.small; long = r.long }

  pub starts_ends : {k : ℕ} {p : Parser} → Starts s st p k → Ends s st p k
  starts_ends {k} {p} h =
      let w = h.sound.cur.wide in
      record { sound = h.sound; cap = h.cap; room = omega (arith, h.room); lent = h.lent; small = h.small; long = h.long }

  -- the next token begins behind this one
  pub ends_next : {k : ℕ} {p q : Parser} → Ends s st p k → q ≡ next s p → Starts s st q k
  unfolding next
  ends_next {k} {p} {q} h e =
      let f = h.sound.peek.from in
      rw e (record { sound = next_sound s p h.sound; cap = h.cap; room = omega (arith, h.room); lent = h.lent; small = h.small; long = h.long })

  -- .. as behind a command with operands
  pub begins : {p q : Parser} (r : Ready s st p) → p.cur.start + 3 ≤ p.cur.end → q ≡ next s p → Starts s st q 6
  begins r w e = ends_next (ready_ends r w) e

  pub starts_next : {k : ℕ} {p q : Parser} → Starts s st p k → q ≡ next s p → Starts s st q k
  starts_next h e = ends_next (starts_ends h) e

  -- a token of a byte or more that is passed pays two records
  ends_byte : {k : ℕ} {p q r : Parser} → Ends s st p k → 1 ≤ least p.peek.token → q ≡ next s p → r ≡ next s q → Starts s st r (k + 2)
  unfolding next
  ends_byte {k} {p} {q} {r} h b e f =
      let a = h.sound.peek.from in
      let w = h.sound.peek.wide in
      let n = (next_sound s p h.sound).peek.from in
      let two = next_sound s (next s p) (next_sound s p h.sound) in
      rw (f, e) (record { sound = two; cap = h.cap; room = omega (arith, h.room); lent = h.lent; small = h.small; long = h.long })

  -- .. as a mark is, and the mark of a script
  pub ends_mark : {k : ℕ} {p q r : Parser} (m : Mark) → Ends s st p k → peek_is p m ≡ true → m ≢ Mark.EOF → q ≡ next s p → r ≡ next s q
      → Starts s st r (k + 2)
  ends_mark {k} {p} m h is some-mark e f = ends_byte h (mark_byte p.peek.token m some-mark is) e f

  pub ends_script : {k : ℕ} {p q r : Parser} (side : Side) → Ends s st p k → script_of p.peek.token ≡ Some side → q ≡ next s p → r ≡ next s q
      → Starts s st r (k + 2)
  ends_script {k} {p} side h is e f = ends_byte h (script_byte p.peek.token side is) e f

  -- a text begins and ends behind the current token
  pub starts_text : {k : ℕ} {p : Parser} {t : TextRead} → Starts s st p k → t ≡ parse_text s p → Starts s st t.after k
  starts_text {k} {p} {t} h e =
      let x = text_sound s p h.sound in
      let w = h.sound.cur.wide in
      let on = x.on in
      let up = x.rises in
      let ends = x.ends in
      let same = x.same in
      rw e (record { sound = x.sound; cap = h.cap; room = omega (arith, h.room); lent = h.lent; small = h.small; long = h.long })

  -- so many records can be made
  pub ends_free : {k : ℕ} {p : Parser} (n : ℕ) → Ends s st p k → n ≤ k → Free st p n
  ends_free n h le =
      let i = h.sound.cur.inside in
      let r = h.room in
      let l = h.lent in
      let b = h.small in
      record { fits = omega arith; small = omega arith }

  pub starts_free : {k : ℕ} {p : Parser} (n : ℕ) → Starts s st p k → n ≤ k → Free st p n
  starts_free n h le = ends_free n (starts_ends h) le

module _ {s st st' : List ℕ} (len : length st' ≡ length st) where
  -- a node that is read takes one record to spare at most
  pub node_ends : {k : ℕ} {reads : Reads} {p q : Parser} {lo i : ℕ} (j : ℕ) → Starts s st p k → suc j ≤ k → Keeps s reads → Built st st' lo p (reads p) i q → Ends s st' q j
  node_ends {k} {reads} {p} {q} j h le keeps b =
      let kept = keeps p b.tree q h.sound b.is in
      let i = idle_le p.cur in
      let sp = kept.spent in
      let r = h.room in
      let l = h.lent in
      record { sound = kept.sound; cap = h.cap; room = omega arith; lent = omega arith; small = h.small; long = h.long }

  -- a node that is not missing takes none
  pub wide_ends : {k : ℕ} {reads : Reads} {p q : Parser} {lo i : ℕ} → Starts s st p k → p.cur.start < p.cur.end → Keeps s reads → Built st st' lo p (reads p) i q
      → Ends s st' q k
  wide_ends {k} {reads} {p} {q} h w keeps b =
      let kept = keeps p b.tree q h.sound b.is in
      let i = idle_none p.cur w in
      let sp = kept.spent in
      let r = h.room in
      let l = h.lent in
      record { sound = kept.sound; cap = h.cap; room = omega arith; lent = omega arith; small = h.small; long = h.long }

  -- a group pays for itself
  pub group_ends : {k : ℕ} {node : Reads} {p q : Parser} {lo i : ℕ} (end : Mark) → Starts s st p k → Keeps s node → end ≢ Mark.EOF → Built st st' lo p (parse_group node s end p) i q
      → Ends s st' q k
  unfolding next
  group_ends {k} {node} {p} {q} end h keeps some-mark b =
      let g = group_kept keeps end some-mark p b.tree q h.sound b.is in
      let a = h.sound.cur.wide in
      let f = h.sound.peek.from in
      let sp = g.spent in
      let r = h.room in
      let l = h.lent in
      record { sound = g.sound; cap = h.cap; room = omega arith; lent = omega arith; small = h.small; long = h.long }

  -- a node that is read from a state that is ready
  pub ready_node : {reads : Reads} {p q : Parser} {lo i : ℕ} (r : Ready s st p) → Keeps s reads → Built st st' lo p (reads p) i q → Ends s st' q 0
  ready_node {reads} {p} {q} h keeps b =
      let kept = keeps p b.tree q h.sound b.is in
      let sp = kept.spent in
      let r = h.room in
      let l = h.lent in
      record { sound = kept.sound; cap = h.cap; room = omega arith; lent = omega arith; small = h.small; long = h.long }

-- a state that is ready has a record for its token
pub ready_free : {s st : List ℕ} {p : Parser} → Ready s st p → Free st p 1
unfolding idle
ready_free h =
    let w = h.sound.cur.wide in
    let i = h.sound.cur.inside in
    let r = h.room in
    let l = h.lent in
    let b = h.small in
    record { fits = omega arith; small = omega arith }

-- a prime pays for the two records that are made of it
pub prime_free : {s st : List ℕ} {q : Parser} → Ends s st q 0 → Primed st q
unfolding mark_number
prime_free {s} {st} {q} h is =
    let b = mark_byte q.peek.token Mark.Prime (λ e. never cc) is in
    let f = h.sound.peek.from in
    let w = h.sound.peek.wide in
    let i = h.sound.peek.inside in
    let r = h.room in
    let l = h.lent in
    let c = h.small in
    record { fits = omega arith; small = omega arith }

-- a command with operands is as wide as it must be
pub wide_3 : (s : List ℕ) (p : Parser) (t : Token) → Sound s p → p.cur.token ≡ t → 3 ≤ least t → p.cur.start + 3 ≤ p.cur.end
wide_3 s p t h e le =
    let w = rw e at h.cur.wide in
    omega arith

-- a step makes no record
pub next_made : (s : List ℕ) (p : Parser) {q : Parser} → q ≡ next s p → q.made ≡ p.made
unfolding next
next_made s p e = ap (λ x. x.made) e

past_made : (k : ℕ) (s : List ℕ) (p : Parser) → (past_letters k s p).made ≡ p.made
unfolding past_letters next
past_made zero s p = refl
past_made (suc k) s p =
    by_letter (letter_of p.cur.token)
    (λ e. rw (past_letters, e))
    (λ c e. rw (past_letters, e) (past_made k s (next s p)))

pub text_made : (s : List ℕ) (p : Parser) {t : TextRead} → t ≡ parse_text s p → t.after.made ≡ p.made
unfolding parse_text next
text_made s p e = ap (λ x. x.after.made) e ∙ past_made (length s) s (next s p)

-- a node by its first token keeps what every node keeps
pub bare_keeps : (d : ℕ) (s : List ℕ) → Keeps s (λ p. parse_bare (λ q. parse_node d s q) (λ q. parse_single_node d s q) s p.cur.token p)
bare_keeps d s p n q h e = bare_kept (node_keeps d s) (single_keeps d s) p n q h p.cur.token h.cur.wide h.cur.places e

pub next_free : {st : List ℕ} {k : ℕ} (s : List ℕ) (p : Parser) {q : Parser} → q ≡ next s p → Free st p k → Free st q k
unfolding next
next_free s p e h = rw e (record { fits = h.fits; small = h.small })
