-- Leaves as they are printed at a place.
-- Assumes nothing.
use mathlib.Core.Path.{◌≡◌, refl, ap, ◌∙◌}
use mathlib.Core.List.{List, [], ◌∷◌, ◌++◌}
use Prim.Native.Nat.{ℕ}
use types.Run.{OneOf, miss}
use denote.Enum.Declared.{tag_of}
use lib.ListN.{length}
use Rattle.text.specs.Put.{Room, Puts}
use Rattle.text.specs.declared.put.Output.{Output}
use Rattle.text.specs.declared.Dialect.{Dialect}
use Rattle.text.proofs.PutLaws.{room_1, room_2, room_3, puts_3}
use Rattle.ast.specs.declared.Leaf.{Leaf}
use Rattle.ast.specs.Tree.{leaf}
use Rattle.markup.specs.declared.Place.{Place}
use Rattle.markup.specs.Print.{slash_leaf, slash, cell_leaf, cell, at_place}
use Rattle.markup.specs.contracts.Place.{the_type}

-- a leaf that neither bears a slash nor breaks a matrix prints the same anywhere
pub anywhere : (d : Dialect) (place : Place) {l l' : Leaf} (m : List ℕ) → l ≡ l' → slash_leaf d l' m ≡ m → cell_leaf l' m ≡ m → at_place d place (leaf l) m ≡ m
unfolding at_place slash cell
anywhere d Place.Plain m e s c = refl
anywhere d Place.Slashed m e s c = ap (λ k. slash_leaf d k m) e ∙ s
anywhere d Place.Cell m e s c = ap (λ k. cell_leaf k m) e ∙ c

-- the places, among the enum's variants, that are not under a slash, and that are not in a matrix
abbrev pub unslashed : List ℕ
unslashed = 0 ∷ 2 ∷ []

abbrev pub uncelled : List ℕ
uncelled = 0 ∷ 1 ∷ []

-- a leaf that breaks no matrix, where it has no slash to bear
pub no_slash : (d : Dialect) (place : Place) (l : Leaf) (m : List ℕ) → OneOf unslashed (tag_of the_type place) → cell_leaf l m ≡ m → at_place d place (leaf l) m ≡ m
unfolding at_place slash cell
no_slash d Place.Plain l m h c = refl
no_slash d Place.Slashed l m h c = absurd (miss unslashed 1 tt h)
no_slash d Place.Cell l m h c = c

-- a leaf that bears no slash, where it has no matrix to break
pub no_cell : (d : Dialect) (place : Place) (l : Leaf) (m : List ℕ) → OneOf uncelled (tag_of the_type place) → slash_leaf d l m ≡ m → at_place d place (leaf l) m ≡ m
unfolding at_place slash cell
no_cell d Place.Plain l m h s = refl
no_cell d Place.Slashed l m h s = s
no_cell d Place.Cell l m h s = absurd (miss uncelled 2 tt h)

-- five pieces, one behind the other
module _ {o : Output} (a b c d e : List ℕ) (room : Room o (length (a ++ b ++ (c ++ d ++ e)))) where
  pub five_1 : Room o (length a)
  five_1 = room_1 a b (c ++ d ++ e) room

  pub five_2 : {o₁ : Output} → Puts o o₁ a → Room o₁ (length b)
  five_2 p = room_2 a b (c ++ d ++ e) room p

  others : {o₁ o₂ : Output} → Puts o o₁ a → Puts o₁ o₂ b → Room o₂ (length (c ++ d ++ e))
  others p q = room_3 a b (c ++ d ++ e) room p q

  pub five_3 : {o₁ o₂ : Output} → Puts o o₁ a → Puts o₁ o₂ b → Room o₂ (length c)
  five_3 p q = room_1 c d e (others p q)

  pub five_4 : {o₁ o₂ o₃ : Output} → Puts o o₁ a → Puts o₁ o₂ b → Puts o₂ o₃ c → Room o₃ (length d)
  five_4 p q r = room_2 c d e (others p q) r

  pub five_5 : {o₁ o₂ o₃ o₄ : Output} → Puts o o₁ a → Puts o₁ o₂ b → Puts o₂ o₃ c → Puts o₃ o₄ d → Room o₄ (length e)
  five_5 p q r s = room_3 c d e (others p q) r s

  pub puts_5 : {o₁ o₂ o₃ o₄ o₅ : Output} → Puts o o₁ a → Puts o₁ o₂ b → Puts o₂ o₃ c → Puts o₃ o₄ d → Puts o₄ o₅ e
      → Puts o o₅ (a ++ b ++ (c ++ d ++ e))
  puts_5 p q r s t = puts_3 a b (c ++ d ++ e) room p q (puts_3 c d e (others p q) r s t)
