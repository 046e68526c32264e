-- Markup as it is shown at a place, in the pieces that are printed.
-- Assumes nothing.
use mathlib.Core.Path.{◌≡◌, refl, ap, ◌∙◌}
use mathlib.Core.List.{List, ◌++◌, append_assoc}
use Prim.Native.Nat.{ℕ}
use Rattle.text.specs.Text.{bytes}
use Rattle.text.specs.declared.Dialect.{Dialect}
use Rattle.attribute.specs.declared.ColumnAlign.{ColumnAlign}
use Rattle.ast.specs.declared.One.{One}
use Rattle.ast.specs.declared.Two.{Two}
use Rattle.ast.specs.declared.Three.{Three}
use Rattle.ast.specs.Tree.{Node, one, two, three, row, matrix, Nodes, empty, ◌then◌}
use Rattle.markup.specs.Print.{cell, align_text, at_place, print, print_all, print_cells}
use Rattle.markup.specs.Fronts.{front_one, back_one, front_two, back_two, front_three, back_three}
use Rattle.markup.proofs.FrontLaws.{between, one_pieces, two_pieces, three_pieces}
use Rattle.markup.specs.declared.Place.{Place}
use Rattle.print.specs.Shown.{place_of, shown, shown_all}
use Rattle.print.proofs.PieceLaws.{Between}

-- nodes by themselves and the nodes of a matrix
pub all_plain : (d : Dialect) (s : List ℕ) (ns : Nodes) → print_all d s ns ≡ shown_all d Place.Plain s ns
unfolding bytes print shown shown_all at_place
all_plain d s empty = refl
all_plain d s (t then ns) = ap (λ l. print d s t ++ l) (all_plain d s ns)

pub all_cells : (d : Dialect) (s : List ℕ) (ns : Nodes) → print_cells d s ns ≡ shown_all d Place.Cell s ns
unfolding bytes print shown shown_all at_place
all_cells d s empty = refl
all_cells d s (t then ns) = ap (λ l. cell t (print d s t) ++ l) (all_cells d s ns)

-- the part of a node with one part
part_shown : (d : Dialect) (s : List ℕ) (k : One) (t : Node) → between d k t (print d s t) ≡ shown d (place_of k) s t
unfolding shown at_place place_of
part_shown d s (One.OverOp c acc) t = refl
part_shown d s (One.UnderOp c acc) t = refl
part_shown d s One.Sqrt t = refl
part_shown d s (One.Fenced u v) t = refl
part_shown d s One.Slashed t = refl
part_shown d s (One.Style st) t = refl

-- each node as what is printed between its front and its back
pub one_shown : (d : Dialect) (s : List ℕ) (k : One) → Between (λ t. print d s (one k t)) (front_one d k) (shown d (place_of k) s) (back_one d k)
unfolding print
one_shown d s k = record { pieces = λ t. one_pieces d k t (print d s t) ∙ rw (part_shown d s k t) }

-- the markup of two trees and of three
abbrev pub two_plain : Dialect → List ℕ → Node × Node → List ℕ
two_plain d s t = shown d Place.Plain s t.0 ++ shown d Place.Plain s t.1

abbrev pub three_plain : Dialect → List ℕ → Node × (Node × Node) → List ℕ
three_plain d s t = shown d Place.Plain s t.0 ++ two_plain d s t.1

two_together : (f l m b : List ℕ) → f ++ l ++ m ++ b ≡ f ++ (l ++ m) ++ b
two_together f l m b = simp append_assoc

pub two_shown : (d : Dialect) (s : List ℕ) (k : Two)
    → Between (λ (t : Node × Node). print d s (two k t.0 t.1)) (front_two k) (two_plain d s) (back_two k)
unfolding print shown at_place
two_shown d s k = record {
  pieces = λ t.
      two_pieces k (print d s t.0) (print d s t.1) ∙ two_together (front_two k) (print d s t.0) (print d s t.1) (back_two k);
}

three_together : (f l m n b : List ℕ) → f ++ l ++ m ++ n ++ b ≡ f ++ (l ++ (m ++ n)) ++ b
three_together f l m n b = simp append_assoc

pub three_shown : (d : Dialect) (s : List ℕ) (k : Three)
    → Between (λ (t : Node × (Node × Node)). print d s (three k t.0 t.1.0 t.1.1))
    (front_three k)
    (three_plain d s)
    (back_three k)
unfolding print shown at_place
three_shown d s k = record {
  pieces = λ t.
      three_pieces k (print d s t.0) (print d s t.1.0) (print d s t.1.1)
      ∙ three_together (front_three k) (print d s t.0) (print d s t.1.0) (print d s t.1.1) (back_three k);
}

pub row_shown : (d : Dialect) (s : List ℕ) → Between (λ ns. print d s (row ns)) (bytes "<mrow>") (shown_all d Place.Plain s) (bytes "</mrow>")
unfolding print
row_shown d s = record { pieces = λ ns. rw (all_plain d s ns) }

pub matrix_shown : (d : Dialect) (s : List ℕ) (align : ColumnAlign)
    → Between (λ ns. print d s (matrix align ns)) (bytes "<mtable" ++ align_text d align ++ bytes "><mtr><mtd>") (shown_all d Place.Cell s) (bytes "</mtd></mtr></mtable>")
unfolding print
matrix_shown d s align = record { pieces = λ ns. rw (all_cells d s ns) }

-- a fact of each place
pub by_place : (P : Place → Type 0) (place : Place) → P Place.Plain → P Place.Slashed → P Place.Cell → P place
by_place P Place.Plain p q r = p
by_place P Place.Slashed p q r = q
by_place P Place.Cell p q r = r

-- a part is plain but under a slash
pub plain_part : (k : One) → (k ≡ One.Slashed → ⊥) → Place.Plain ≡ place_of k
unfolding place_of
plain_part (One.OverOp c acc) h = refl
plain_part (One.UnderOp c acc) h = refl
plain_part One.Sqrt h = refl
plain_part (One.Fenced t u) h = refl
plain_part One.Slashed h = absurd (h refl)
plain_part (One.Style d) h = refl
