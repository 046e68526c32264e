-- What the program writes, piece by piece as the code puts it.
-- Assumes nothing.
use mathlib.Core.Path.{◌≡◌, refl, sym, ◌∙◌, ap}
use mathlib.Core.List.{List, [], ◌∷◌}
use Prim.Native.Nat.{ℕ, ◌+◌, ◌/◌, ◌%◌, ◌≤◌, ◌<◌}
use native.Mathlib.Omega.{arith}
use lib.ListN.{length, take, drop, length-append, length-drop}
use lib.Seq.{take_at, length-take-le}
use borrow.Author.Tests.{lt-ltb, le-ltb}
use Rattle.std.specs.Prelude.{Ok, Err}
use Rattle.text.specs.declared.put.Output.{Output}
use Rattle.text.specs.Put.{RoomAt, PutsAt, Room, Puts}
use Rattle.text.specs.Examples.{text_opens}
use Rattle.text.proofs.Cases.{by_order}
use Rattle.text.proofs.PutLaws.{puts_all}
use Rattle.error.specs.declared.Refusal.{Refusal}
use Rattle.error.specs.Numbers.{number}
use Rattle.latex2mathml.specs.Manner.{old}
use Rattle.latex2mathml.specs.Outcome.{Outcome, accepted, refused, number_of}
use Rattle.latex2mathml.specs.Written.{over}
use Rattle.latex2mathml.proofs.OutcomeLaws.{number_range}
use Rattle.page.specs.declared.Totals.{Totals}
use Rattle.page.specs.Page.{Paged, page, output_of}
use Rattle.page.specs.Run.{answer_number, answer_length, Pages}
use Rattle.page_main.specs.Program.{decimal, refusal, program, Answers}

-- the code takes the last digit as a remainder also where it is the only one
pub one_digit : (n : ℕ) → n < 10 → decimal n ≡ (48 + n % 10) ∷ []
unfolding decimal
one_digit n h =
    let e : n ≡ n % 10 = omega arith in
    rw (decimal, lt-ltb n 10 h) (ap (λ x. (48 + x) ∷ []) e)

pub two_digits : (n : ℕ) → 10 ≤ n → decimal n ≡ (48 + n / 10) ∷ (48 + n % 10) ∷ []
unfolding decimal
two_digits n h = rw (decimal, le-ltb n 10 h)

decimal_short : (n : ℕ) → length (decimal n) ≤ 2
decimal_short n = by_order n 10 (λ h. rw (one_digit n h) (omega arith)) (λ h. rw (two_digits n h) (omega arith))

refusal_short : (r : Refusal) → length (refusal r) ≤ 11
unfolding refusal text_opens
refusal_short r = let d = decimal_short (number r) in simp length-append (omega arith)

-- the line of a refusal fits an output of the program's size
pub refusal_room : (r : Refusal) {o : List ℕ} → 65536 ≡ length o → RoomAt o 0 (length (refusal r))
refusal_room r long =
    let h = refusal_short r in
    record { inside = omega arith }

-- bytes that a buffer holds at its front without growing lie within it
front : (l o : List ℕ) {o' : List ℕ} → length o' ≡ length o → o' ≡ over l o → (length l ≤ length o') × (take (length l) o' ≡ l)
unfolding over
front l o {o'} kept e =
    let n = ap length e in
    let a = length-append l (drop (length l) o) in
    let d = length-drop (length l) o in
    (omega arith, rw e (take_at l (drop (length l) o) (length l) refl))

-- the bytes at the front of the output are what the program writes
fronted : (document l o : List ℕ) {n : ℕ} {o' : List ℕ} → program document ≡ l → n ≡ length l → length o' ≡ length o → o' ≡ over l o → Answers document n o'
fronted document l o {n} {o'} is long kept e =
    let f = front l o kept e in
    rw long (record { inside = f.0; size = sym (length-take-le (length l) o' f.0); written = f.1 ∙ sym is })

-- a page that is accepted is what the program writes
pub accepted_page : (document : List ℕ) (p : Paged) → page old document 61440 65536 65536 ≡ accepted p → program document ≡ p.output
unfolding program
accepted_page document p is = rw (program, is)

told_page : (document o : List ℕ) (want : Outcome Paged) {n : ℕ} {o' : List ℕ} → page old document 61440 65536 65536 ≡ want → 0 ≡ number_of want
    → n ≡ length (output_of want) → length o' ≡ length o → o' ≡ over (output_of want) o → Answers document n o'
unfolding number_of output_of
told_page document o (accepted p) is none long kept f = fronted document p.output o (accepted_page document p is) long kept f
told_page document o (refused r) is none long kept f = absurd (omega (arith, number_range r))

-- for one that is refused it writes the line with its number
refused_page : (document : List ℕ) (want : Outcome Paged) (r : Refusal) → page old document 61440 65536 65536 ≡ want
    → number r ≡ number_of want → program document ≡ refusal r
unfolding number_of program refusal
refused_page document (accepted p) r is e = absurd (omega (arith, number_range r))
refused_page document (refused q) r is e = rw (program, is) (rw (sym e))

-- the two ways through the program, over an output of its size that keeps its length
module _ {document o o' : List ℕ} (long : 65536 ≡ length o) (kept : length o' ≡ length o) where
  pub answer_accepts : {t : Totals} → Pages old document 61440 65536 (Ok t) o o' → Answers document t.length o'
  unfolding answer_number answer_length
  answer_accepts g = told_page document o (page old document 61440 65536 (length o)) (rw long) g.number g.size kept g.output

  pub answer_refuses : {r : Refusal} {n : ℕ} {o'' : List ℕ} → length o'' ≡ length o' → Pages old document 61440 65536 (Err r) o o'
      → PutsAt o' o'' 0 (refusal r) n → Answers document n o''
  unfolding over answer_number
  answer_refuses {r} {n} same g p =
      let e : program document ≡ refusal r = refused_page document (page old document 61440 65536 (length o)) r (rw long) g.number in
      fronted document (refusal r) o' e (omega (arith, p.place)) same (puts_all p)

-- what is put into an output that begins at a place is put at the place, and there is as much room
pub output_room : {o : List ℕ} {at n : ℕ} (p : Output) → p.bytes.now ≡ o → p.at ≡ at → RoomAt o at n → Room p n
output_room p bytes place room = record { inside = rw (bytes, place) room.inside }

pub output_puts : {o bs : List ℕ} {at : ℕ} (p : Output) → p.bytes.now ≡ o → p.at ≡ at → {p' : Output} → Puts p p' bs → PutsAt o p'.bytes.now at bs p'.at
output_puts p bytes place h = rw (← bytes, ← place) h.puts
