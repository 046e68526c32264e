-- Two or three trees, one behind the other, are printed one after the other.
-- Assumes nothing.
use mathlib.Core.List.{List}
use Prim.Native.Nat.{ℕ}
use Rattle.text.specs.declared.Dialect.{Dialect}
use Rattle.text.specs.declared.put.Output.{Output}
use Rattle.markup.specs.declared.Place.{Place}
use Rattle.print.specs.Shown.{shown, TreeAt, TwoAt, ThreeAt, Printable, Prints}
use Rattle.print.proofs.PieceLaws.{both_first, both_next, both_prints}
use Rattle.print.proofs.ShownLaws.{two_plain, three_plain}

-- a tree by itself can be printed, and is printed
abbrev Able : Dialect → List ℕ → List ℕ → ℕ → ℕ → Output → Type 0
Able d s st left i o = Printable (TreeAt s st left i) (shown d Place.Plain s) o

abbrev Done : Dialect → List ℕ → List ℕ → ℕ → ℕ → Output → Output → Type 0
Done d s st left i o o' = Prints (TreeAt s st left i) (shown d Place.Plain s) o o'

module _ (d : Dialect) {s st : List ℕ} {left a b : ℕ} {o : Output} where
  pub two_first : Printable (TwoAt s st left a b) (two_plain d s) o → Able d s st left a o
  two_first p = both_first (shown d Place.Plain s) (shown d Place.Plain s) p

  pub two_second : {o₁ : Output} → Printable (TwoAt s st left a b) (two_plain d s) o → Done d s st left a o o₁
      → Able d s st left b o₁
  two_second p q = both_next (shown d Place.Plain s) (shown d Place.Plain s) p q

  pub two_done : {o₁ o₂ : Output} → Done d s st left a o o₁ → Done d s st left b o₁ o₂
      → Prints (TwoAt s st left a b) (two_plain d s) o o₂
  two_done p q = both_prints (shown d Place.Plain s) (shown d Place.Plain s) p q

module _ (d : Dialect) {s st : List ℕ} {left a b c : ℕ} {o : Output} where
  pub three_first : Printable (ThreeAt s st left a b c) (three_plain d s) o → Able d s st left a o
  three_first p = both_first (shown d Place.Plain s) (two_plain d s) p

  pub three_others : {o₁ : Output} → Printable (ThreeAt s st left a b c) (three_plain d s) o → Done d s st left a o o₁
      → Printable (TwoAt s st left b c) (two_plain d s) o₁
  three_others p q = both_next (shown d Place.Plain s) (two_plain d s) p q

  pub three_done : {o₁ o₂ o₃ : Output} → Done d s st left a o o₁ → Done d s st left b o₁ o₂ → Done d s st left c o₂ o₃
      → Prints (ThreeAt s st left a b c) (three_plain d s) o o₃
  three_done p q r = both_prints (shown d Place.Plain s) (two_plain d s) p (two_done d q r)
