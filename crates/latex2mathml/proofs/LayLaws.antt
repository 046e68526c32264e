-- Laying pieces into a buffer, one behind the other.
-- Assumes nothing.
use mathlib.Core.Path.{◌≡◌, refl, sym, ◌∙◌, ap}
use mathlib.Core.Bool.{Bool, true}
use mathlib.Core.List.{List, [], ◌++◌, append_assoc}
use Prim.Native.Nat.{ℕ, ◌+◌, ◌^◌, ◌≤◌, ◌<◌}
use native.Mathlib.Omega.{arith}
use lib.ListN.{length, take, drop, length-append}
use lib.Seq.{take_at, take-take, length-take-le}
use Rattle.text.specs.Put.{put, RoomAt, PutsAt}
use Rattle.text.proofs.PutLaws.{puts_at_then, puts_at_nothing}
use Rattle.latex2mathml.specs.Laid.{Laid, Space}

-- what is put is laid
pub laid_puts : {o o' m : List ℕ} {at r : ℕ} → at ≤ length o → PutsAt o o' at m r → Laid o o' at m
unfolding put
laid_puts {o} {o'} {m} {at} inside p =
    (λ fits. p.output, rw (p.output, append_assoc (take at o) m (drop (at + length m) o)) (take_at (take at o) (m ++ drop (at + length m) o) at (length-take-le at o inside)))

-- what does not fit is not written
pub laid_beyond : (o m : List ℕ) (at : ℕ) → length o < at + length m → Laid o o at m
laid_beyond o m at h = (λ fits. absurd (omega arith), refl)

pub laid_nothing : (o : List ℕ) (at : ℕ) → Laid o o at []
laid_nothing o at = (λ fits. (puts_at_nothing o at).output, refl)

-- there is room to put what is sure to fit
pub room_sure : {sure : Bool} {o : List ℕ} {at n : ℕ} → Space sure o at n → sure ≡ true → RoomAt o at n
room_sure h e = record { inside = h.inside e }

-- what is unchanged before a place is so before an earlier one
pub front_less : (at place : ℕ) (o o' : List ℕ) → at ≤ place → take place o' ≡ take place o → take at o' ≡ take at o
front_less at place o o' h e = sym (take-take at place o' h) ∙ ap (λ l. take at l) e ∙ take-take at place o h

pub laid_more : (o₀ o o' : List ℕ) (at place : ℕ) (done bs : List ℕ) → at + length (done ++ bs) < 2 ^ 64 → place ≡ at + length done
    → Laid o₀ o at done → Laid o o' place bs → length o ≡ length o₀ → Laid o₀ o' at (done ++ bs)
laid_more o₀ o o' at place done bs small e p q same = (
  λ fits.
      let total = length-append done bs in
      let first : PutsAt o₀ o at done place = record { place = e; output = p.0 (omega arith) } in
      let next : PutsAt o o' place bs (place + length bs) = record { place = refl; output = q.0 (omega arith) } in
      (puts_at_then done bs (record { inside = fits }) first next).output,
  front_less at place o o' (omega arith) q.1 ∙ p.1,
)
