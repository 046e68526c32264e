-- What is made of pieces is printed piece by piece.
-- Assumes nothing.
use mathlib.Core.Path.{◌≡◌}
use mathlib.Core.List.{List, ◌++◌}
use Prim.Native.Nat.{ℕ}
use lib.ListN.{length}
use Rattle.text.specs.declared.put.Output.{Output}
use Rattle.text.specs.Put.{Room, Puts}
use Rattle.text.proofs.PutLaws.{room_first, room_next, puts_then, room_1, room_2, room_3, puts_3, room_as, puts_as}
use Rattle.print.specs.Shown.{Both, Printable, Prints}

-- something that stands there has the text bs
pub record Same {T : Type 0} (There : T → Type 0) (text : T → List ℕ) (bs : List ℕ) : Type 0 where
  pub what : T
  pub there : There what
  pub same : bs ≡ text what

-- for whatever stands in one way something with the same text stands in another
pub record Like {T U : Type 0} (There : T → Type 0) (text : T → List ℕ) (There' : U → Type 0) (text' : U → List ℕ) : Type 0 where
  pub of : (t : T) → There t → Same There' text' (text t)

-- .. so what can be printed in the one way can be in the other, and what is printed in the other is in the one
pub able_like : {T U : Type 0} {There : T → Type 0} {text : T → List ℕ} {There' : U → Type 0} {text' : U → List ℕ} {o : Output}
    → Like There text There' text' → Printable There text o → Printable There' text' o
able_like l p =
    let q = l.of p.what p.there in
    record { what = q.what; there = q.there; room = room_as q.same p.room }

pub prints_like : {T U : Type 0} {There : T → Type 0} {text : T → List ℕ} {There' : U → Type 0} {text' : U → List ℕ} {o o' : Output}
    → Like There text There' text' → Prints There' text' o o' → Prints There text o o'
prints_like l p = record {
  all = λ t h room.
      let q = l.of t h in
      puts_as q.same (p.all q.what q.there (room_as q.same room));
}

-- two things, one behind the other
module _ {T U : Type 0} {There : T → Type 0} {There' : U → Type 0} (text : T → List ℕ) (text' : U → List ℕ) {o : Output} where
  pub both_first : Printable (Both There There') (λ t. text t.0 ++ text' t.1) o → Printable There text o
  both_first p = record {
    what = p.what.0;
    there = p.there.first;
    room = room_first (text p.what.0) (text' p.what.1) p.room;
  }

  pub both_next : {o₁ : Output} → Printable (Both There There') (λ t. text t.0 ++ text' t.1) o
      → Prints There text o o₁ → Printable There' text' o₁
  unfolding both_first
  both_next p q = record {
    what = p.what.1;
    there = p.there.second;
    room =
        room_next (text p.what.0) (text' p.what.1) p.room
        (q.all p.what.0 p.there.first (both_first p).room);
  }

  pub both_prints : {o₁ o₂ : Output} → Prints There text o o₁ → Prints There' text' o₁ o₂
      → Prints (Both There There') (λ t. text t.0 ++ text' t.1) o o₂
  both_prints p q = record {
    all = λ t h room.
        let xs = text t.0 in
        let ys = text' t.1 in
        let first = p.all t.0 h.first (room_first xs ys room) in
        puts_then xs ys room first (q.all t.1 h.second (room_next xs ys room first));
  }

-- a text that is another one between a front and a back
pub record Between {T : Type 0} (text : T → List ℕ) (front : List ℕ) (inner : T → List ℕ) (back : List ℕ) : Type 0 where
  pub pieces : (t : T) → text t ≡ front ++ inner t ++ back

module _ {T : Type 0} {text inner : T → List ℕ} {front back : List ℕ} {o : Output} (b : Between text front inner back) where
  room_of : (t : T) → Room o (length (text t)) → Room o (length (front ++ inner t ++ back))
  room_of t room = room_as (b.pieces t) room

  pub between_front : {There : T → Type 0} → Printable There text o → Room o (length front)
  between_front p = room_1 front (inner p.what) back (room_of p.what p.room)

  pub between_inner : {There : T → Type 0} {o₁ : Output} → Printable There text o → Puts o o₁ front → Printable There inner o₁
  between_inner p q = record {
    what = p.what;
    there = p.there;
    room = room_2 front (inner p.what) back (room_of p.what p.room) q;
  }

  pub between_back : {There : T → Type 0} {o₁ o₂ : Output} → Printable There text o → Puts o o₁ front → Prints There inner o₁ o₂
      → Room o₂ (length back)
  unfolding between_inner
  between_back p q r =
      room_3 front (inner p.what) back (room_of p.what p.room) q
      (r.all p.what p.there (between_inner p q).room)

  pub between_prints : {There : T → Type 0} {o₁ o₂ o₃ : Output} → Puts o o₁ front → Prints There inner o₁ o₂ → Puts o₂ o₃ back
      → Prints There text o o₃
  between_prints p q r = record {
    all = λ t h room.
        let whole = room_of t room in
        puts_as (b.pieces t)
        (puts_3 front (inner t) back whole p (q.all t h (room_2 front (inner t) back whole p)) r);
  }
