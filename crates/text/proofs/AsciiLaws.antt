-- Bytes that are all ASCII are well-formed.
-- Assumes nothing.
use mathlib.Core.Path.{◌≡◌, refl, ◌∙◌}
use mathlib.Core.Bool.{true, false}
use mathlib.Core.List.{List, [], ◌∷◌}
use Prim.Native.Nat.{ℕ}
use native.Mathlib.Omega.{arith}
use lib.Dec.{ltb}
use borrow.Author.Tests.{ltb-false, not-true}
use Rattle.text.specs.Utf8.{goes_on, well_formed}
use Rattle.text.specs.Any.{any, is_ascii}
use Rattle.text.proofs.Utf8Laws.{goes_ascii}
use Rattle.text.proofs.AnyLaws.{none_cons}

ascii_goes : (l : List ℕ) → any (ltb 127) l ≡ false → goes_on [] l ≡ true
unfolding goes_on
ascii_goes [] e = refl
ascii_goes (b ∷ l) e =
    let h = none_cons (ltb 127) b l e in
    let k = ltb-false 127 b h.0 in
    goes_ascii b l (omega arith) ∙ ascii_goes l h.1

pub ascii_well : (l : List ℕ) → is_ascii l ≡ true → true ≡ well_formed l
unfolding well_formed
ascii_well l e = rw (ascii_goes l (not-true (any (ltb 127) l) e))
