-- Steps that put pieces of text compose, and leave room for one another: at a place of a buffer, and then into an output.
-- Assumes nothing.
use mathlib.Core.Path.{◌≡◌, refl, sym, ◌∙◌, ap, subst, subst⁻¹}
use mathlib.Core.List.{List, [], ◌++◌, append_assoc, append-nil}
use Prim.Native.Nat.{ℕ, ◌+◌, ◌≤◌}
use native.Mathlib.Omega.{arith}
use native.Mathlib.Nat.{add_assoc, add-zero, zero-add}
use lib.ListN.{length, take, drop, length-append, length-drop, take-append-drop}
use lib.Seq.{length-take-le, take_at, drop_at, drop-drop}
use Rattle.text.specs.declared.put.Output.{Output}
use Rattle.text.specs.Put.{put, RoomAt, PutsAt, Room, Puts}

-- ---- at a place of a buffer
-- the front of a buffer that has bs at a place inside it
head_length : (o bs : List ℕ) (at : ℕ) → at ≤ length o → length (take at o ++ bs) ≡ at + length bs
head_length o bs at h = simp (length-append, length-take-le at o h)

pub put_length : (o bs : List ℕ) (at : ℕ) → at + length bs ≤ length o → length (put o at bs) ≡ length o
unfolding put
put_length o bs at h = simp (length-append, length-take-le at o (omega arith), length-drop) (omega arith)

-- putting bs and then cs behind them puts bs ++ cs
put_then : (o bs cs : List ℕ) (at : ℕ) → at + length bs ≤ length o → put (put o at bs) (at + length bs) cs ≡ put o at (bs ++ cs)
unfolding put
put_then o bs cs at h =
    let front = take at o ++ bs in
    let back = drop (at + length bs) o in
    let n : length front ≡ at + length bs = head_length o bs at (omega arith) in
    rw (take_at front back (at + length bs) n, ← drop-drop (length cs) (at + length bs) (front ++ back), drop_at front back (at + length bs) n, drop-drop, append_assoc (take at o) bs cs, length-append bs cs, add_assoc)

module _ {o : List ℕ} {at : ℕ} (bs cs : List ℕ) (room : RoomAt o at (length (bs ++ cs))) where
  total : length (bs ++ cs) ≡ length bs + length cs
  total = length-append bs cs

  pub room_at_first : RoomAt o at (length bs)
  room_at_first = record { inside = omega (arith, total, room.inside) }

  pub room_at_next : {o₁ : List ℕ} {r : ℕ} → PutsAt o o₁ at bs r → RoomAt o₁ r (length cs)
  room_at_next p = record { inside = omega (arith, total, room.inside, p.place, ap length p.output, put_length o bs at room_at_first.inside) }

  pub puts_at_then : {o₁ o₂ : List ℕ} {r r₂ : ℕ} → PutsAt o o₁ at bs r → PutsAt o₁ o₂ r cs r₂ → PutsAt o o₂ at (bs ++ cs) r₂
  puts_at_then p q = record {
    place = omega (arith, total, p.place, q.place);
    output = q.output ∙ rw (p.output, p.place) (put_then o bs cs at room_at_first.inside);
  }

-- the buffer keeps its length
pub puts_at_length : {o o' : List ℕ} {at : ℕ} (bs : List ℕ) {r : ℕ} → RoomAt o at (length bs) → PutsAt o o' at bs r → length o' ≡ length o
puts_at_length {o} {o'} {at} bs room p = ap length p.output ∙ put_length o bs at room.inside

-- what is written from the front on
pub puts_all : {o o' bs : List ℕ} {r : ℕ} → PutsAt o o' 0 bs r → o' ≡ bs ++ drop (length bs) o
unfolding put
puts_all p = p.output ∙ rw zero-add

-- nothing is put by doing nothing
pub puts_at_nothing : (o : List ℕ) (at : ℕ) → PutsAt o o at [] at
unfolding put
puts_at_nothing o at = record { place = sym (add-zero at); output = sym (rw (append-nil (take at o), add-zero at) (take-append-drop at o)) }

-- on the way: of the bytes `whole` those before `rest` are put at the place, and the next goes to `place`
pub record PuttingAt (o₀ o : List ℕ) (at place : ℕ) (whole rest : List ℕ) : Type 0 where
  pub done : List ℕ
  pub puts : PutsAt o₀ o at done place
  pub split : whole ≡ done ++ rest

pub putting_at_none : (o : List ℕ) (at : ℕ) (whole : List ℕ) → PuttingAt o o at at whole whole
putting_at_none o at whole = record { done = []; puts = puts_at_nothing o at; split = refl }

module _ {o₀ o : List ℕ} {at place : ℕ} {whole : List ℕ} (bs rest : List ℕ) (room : RoomAt o₀ at (length whole)) (p : PuttingAt o₀ o at place whole (bs ++ rest)) where
  room_so_far : RoomAt o₀ at (length (p.done ++ (bs ++ rest)))
  room_so_far = rw p.split at room

  pub putting_at_room : RoomAt o place (length bs)
  putting_at_room = room_at_first bs rest (room_at_next p.done (bs ++ rest) room_so_far p.puts)

  pub putting_at_more : {o' : List ℕ} {place' : ℕ} → PutsAt o o' place bs place' → PuttingAt o₀ o' at place' whole rest
  putting_at_more q = record {
    done = p.done ++ bs;
    puts = puts_at_then p.done bs (room_at_first (p.done ++ bs) rest (rw (← append_assoc p.done bs rest) at room_so_far)) p.puts q;
    split = p.split ∙ sym (append_assoc p.done bs rest);
  }

pub putting_at_all : {o₀ o : List ℕ} {at place : ℕ} {whole : List ℕ} → PuttingAt o₀ o at place whole [] → PutsAt o₀ o at whole place
putting_at_all p = rw (p.split, append-nil) p.puts

-- ---- into an output
pub puts_length : {o o' : Output} (bs : List ℕ) → Room o (length bs) → Puts o o' bs → length o'.bytes.now ≡ length o.bytes.now
puts_length {o} bs room p = ap length p.puts.output ∙ put_length o.bytes.now bs o.at room.inside

pub puts_nothing : (o : Output) → Puts o o []
puts_nothing o = record { same = refl; puts = puts_at_nothing o.bytes.now o.at }

module _ {o : Output} (bs cs : List ℕ) (room : Room o (length (bs ++ cs))) where
  at_place : RoomAt o.bytes.now o.at (length (bs ++ cs))
  at_place = record { inside = room.inside }

  pub room_first : Room o (length bs)
  room_first = record { inside = (room_at_first bs cs at_place).inside }

  pub room_next : {o₁ : Output} → Puts o o₁ bs → Room o₁ (length cs)
  room_next p = record { inside = (room_at_next bs cs at_place p.puts).inside }

  pub puts_then : {o₁ o₂ : Output} → Puts o o₁ bs → Puts o₁ o₂ cs → Puts o o₂ (bs ++ cs)
  puts_then p q = record { same = q.same ∙ p.same; puts = puts_at_then bs cs at_place p.puts q.puts }

-- three pieces, one behind the other
module _ {o : Output} (xs bs cs : List ℕ) (room : Room o (length (xs ++ bs ++ cs))) where
  pub room_1 : Room o (length xs)
  room_1 = room_first xs bs (room_first (xs ++ bs) cs room)

  pub room_2 : {o₁ : Output} → Puts o o₁ xs → Room o₁ (length bs)
  room_2 p = room_next xs bs (room_first (xs ++ bs) cs room) p

  both_put : {o₁ o₂ : Output} → Puts o o₁ xs → Puts o₁ o₂ bs → Puts o o₂ (xs ++ bs)
  both_put p q = puts_then xs bs (room_first (xs ++ bs) cs room) p q

  pub room_3 : {o₁ o₂ : Output} → Puts o o₁ xs → Puts o₁ o₂ bs → Room o₂ (length cs)
  room_3 p q = room_next (xs ++ bs) cs room (both_put p q)

  pub puts_3 : {o₁ o₂ o₃ : Output} → Puts o o₁ xs → Puts o₁ o₂ bs → Puts o₂ o₃ cs → Puts o o₃ (xs ++ bs ++ cs)
  puts_3 p q r = puts_then (xs ++ bs) cs room (both_put p q) r

-- the same bytes, grouped in another way
pub room_as : {o : Output} {l m : List ℕ} → l ≡ m → Room o (length l) → Room o (length m)
room_as {o} {l} {m} e h = subst (λ x. Room o (length x)) e h

pub puts_as : {o o' : Output} {l m : List ℕ} → l ≡ m → Puts o o' m → Puts o o' l
puts_as {o} {o'} {l} {m} e h = subst⁻¹ (λ x. Puts o o' x) e h

-- on the way: of the bytes `whole` those before `rest` are put
pub record Putting (o₀ o : Output) (whole rest : List ℕ) : Type 0 where
  pub same : o.bytes.ghost_name ≡ o₀.bytes.ghost_name
  pub putting : PuttingAt o₀.bytes.now o.bytes.now o₀.at o.at whole rest

pub putting_none : (o : Output) (whole : List ℕ) → Putting o o whole whole
putting_none o whole = record { same = refl; putting = putting_at_none o.bytes.now o.at whole }

module _ {o₀ o : Output} {whole : List ℕ} (bs rest : List ℕ) (room : Room o₀ (length whole)) (p : Putting o₀ o whole (bs ++ rest)) where
  whole_place : RoomAt o₀.bytes.now o₀.at (length whole)
  whole_place = record { inside = room.inside }

  pub putting_room : Room o (length bs)
  putting_room = record { inside = (putting_at_room bs rest whole_place p.putting).inside }

  pub putting_more : {o' : Output} → Puts o o' bs → Putting o₀ o' whole rest
  putting_more q = record { same = q.same ∙ p.same; putting = putting_at_more bs rest whole_place p.putting q.puts }

pub putting_all : {o₀ o : Output} {whole : List ℕ} → Putting o₀ o whole [] → Puts o₀ o whole
putting_all p = record { same = p.same; puts = putting_at_all p.putting }
