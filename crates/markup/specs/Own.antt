-- What each node adds to the markup by itself, without its parts.
-- Assumes nothing.
use Rattle.std.specs.Prelude.{Bool, true, false, List, ◌++◌, ℕ, length}
use Rattle.text.specs.Text.{bytes}
use Rattle.text.specs.declared.Dialect.{Dialect}
use Rattle.ast.specs.declared.Leaf.{Leaf}
use Rattle.ast.specs.declared.Shape.{Shape}
use Rattle.ast.specs.Tree.{leaf}
use Rattle.ast.specs.Sum.{Weigh}
use Rattle.markup.specs.declared.Place.{Place}
use Rattle.markup.specs.Print.{print_leaf, at_place, align_text}
use Rattle.markup.specs.Fronts.{front_one, back_one, front_two, back_two, front_three, back_three}

-- where a record is printed that is under a slash, or is not
abbrev pub under : Bool → Place
under true = Place.Slashed
under false = Place.Plain

-- the text of a record of the kind k, without that of its parts
unfoldable pub own_text : Dialect → Place → List ℕ → Shape → List ℕ
own_text d place s (Shape.Leaf l) = at_place d place (leaf l) (print_leaf d s l)
own_text d place s (Shape.One k) = front_one d k ++ back_one d k
own_text d place s (Shape.Two k) = front_two k ++ back_two k
own_text d place s (Shape.Three k) = front_three k ++ back_three k
own_text d place s (Shape.Row n) = bytes "<mrow>" ++ bytes "</mrow>"
own_text d place s (Shape.Matrix align n) = (bytes "<mtable" ++ align_text d align ++ bytes "><mtr><mtd>") ++ bytes "</mtd></mtr></mtable>"

-- the length of the markup as a measure of trees of the body s
unfoldable pub own : Dialect → List ℕ → Weigh
own d s = record {
  plain = λ l. length (own_text d Place.Plain s (Shape.Leaf l));
  slashed = λ l. length (own_text d Place.Slashed s (Shape.Leaf l));
  cell = λ l. length (own_text d Place.Cell s (Shape.Leaf l));
  around = λ k. length (own_text d Place.Plain s k);
}

-- one for a leaf that prints an error text
abbrev pub error_of : Leaf → ℕ
error_of (Leaf.Number a e) = 0
error_of (Leaf.Letter c v) = 0
error_of (Leaf.Operator c) = 0
error_of (Leaf.Function t) = 0
error_of (Leaf.FunctionName a e) = 0
error_of (Leaf.Space w) = 0
error_of (Leaf.StrechedOp o) = 0
error_of (Leaf.OtherOperator t) = 0
error_of (Leaf.SizedParen z t) = 0
error_of (Leaf.Text a e) = 0
error_of Leaf.Ampersand = 1
error_of Leaf.NewLine = 1
error_of (Leaf.Undefined u) = 1

abbrev pub own_errors : Shape → ℕ
own_errors (Shape.Leaf l) = error_of l
own_errors (Shape.One k) = 0
own_errors (Shape.Two k) = 0
own_errors (Shape.Three k) = 0
own_errors (Shape.Row n) = 0
own_errors (Shape.Matrix align n) = 0

-- the number of error texts in the markup as another measure of trees: an `&` or `\\` that is a direct part of a matrix is none
unfoldable pub errors : Weigh
errors = record { plain = λ l. error_of l; slashed = λ l. error_of l; cell = λ l. 0; around = λ k. 0 }
