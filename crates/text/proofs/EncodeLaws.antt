-- The bytes of a code point, by its size.
-- Assumes nothing.
use mathlib.Core.Path.{◌≡◌}
use mathlib.Core.List.{[], ◌∷◌}
use Prim.Native.Nat.{ℕ, ◌+◌, ◌/◌, ◌%◌, ◌≤◌, ◌<◌}
use native.Mathlib.Omega.{arith}
use borrow.Author.Tests.{lt-ltb, le-ltb}
use Rattle.text.specs.Utf8.{encode}

pub encode_1 : (c : ℕ) → c < 0x80 → encode c ≡ c ∷ []
unfolding encode
encode_1 c h = simp (encode, lt-ltb _ _ h)

pub encode_2 : (c : ℕ) → 0x80 ≤ c → c < 0x800 → encode c ≡ (0xc0 + c / 64) ∷ (0x80 + c % 64) ∷ []
unfolding encode
encode_2 c h k = simp (encode, le-ltb _ _ h, lt-ltb _ _ k)

pub encode_3 : (c : ℕ) → 0x800 ≤ c → c < 0x10000 → encode c ≡ (0xe0 + c / 4096) ∷ (0x80 + c / 64 % 64) ∷ (0x80 + c % 64) ∷ []
unfolding encode
encode_3 c h k =
    let low : 0x80 ≤ c = omega arith in
    simp (encode, le-ltb _ _ low, le-ltb _ _ h, lt-ltb _ _ k)

pub encode_4 : (c : ℕ) → 0x10000 ≤ c
    → encode c ≡ (0xf0 + c / 262144 % 8) ∷ (0x80 + c / 4096 % 64) ∷ (0x80 + c / 64 % 64) ∷ (0x80 + c % 64) ∷ []
unfolding encode
encode_4 c h =
    let low : 0x80 ≤ c = omega arith in
    let middle : 0x800 ≤ c = omega arith in
    simp (encode, le-ltb _ _ low, le-ltb _ _ middle, le-ltb _ _ h)
