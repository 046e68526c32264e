-- Whether a byte passes a test is found from the first to the last; where none does, no part has one.
-- Assumes nothing.
use mathlib.Core.Path.{◌≡◌, refl}
use mathlib.Core.Bool.{Bool, true, false, ◌||◌, or-true, or-false}
use mathlib.Core.List.{List, [], ◌∷◌, ◌++◌}
use Prim.Native.Nat.{ℕ, ◌+◌, ◌≤◌, ◌<◌}
use lib.ListN.{length, drop, get_or, drop_of_length-le}
use Rattle.std.specs.List.{list_any}
use Rattle.text.specs.Any.{any}
use Rattle.text.proofs.Cases.{neither}
use Rattle.text.proofs.FollowLaws.{byte_at}

module _ (test : ℕ → Bool) where
  -- Where the flag f says of the bytes before i whether one passes.
  module _ (s : List ℕ) (i : ℕ) (f : Bool) where
    pub any_here : i < length s → test (get_or s i 0) ≡ true → (f || any test (drop i s)) ≡ true
    unfolding any
    any_here h e = rw (byte_at s i h, any, e) (or-true f)

    pub any_more : i < length s → test (get_or s i 0) ≡ false → (f || any test (drop i s)) ≡ (f || any test (drop (i + 1) s))
    unfolding any
    any_more h e = rw (byte_at s i h, any, e)

    pub any_end : length s ≤ i → (f || any test (drop i s)) ≡ f
    unfolding any
    any_end h = rw (drop_of_length-le s h) (or-false f)

  pub none_cons : (b : ℕ) (l : List ℕ) → any test (b ∷ l) ≡ false → (test b ≡ false) × (any test l ≡ false)
  unfolding any
  none_cons b l e = neither (test b) (any test l) e

  pub none_sides : (l m : List ℕ) → any test (l ++ m) ≡ false → (any test l ≡ false) × (any test m ≡ false)
  unfolding any
  none_sides [] m e = (refl, e)
  none_sides (b ∷ l) m e =
      let h = none_cons b (l ++ m) e in
      let k = none_sides l m h.1 in
      (rw h.0 k.0, k.1)

-- the test of std over a list is the definition's
pub any_list : (test : ℕ → Bool) (l : List ℕ) → list_any test l ≡ any test l
unfolding any
any_list test [] = refl
any_list test (b ∷ l) = rw (any_list test l) refl
