-- Worked examples, which antt computes.
-- Assumes nothing.
use Rattle.std.specs.Prelude.{◌≡◌, refl, List, [], ◌∷◌, map}
use Prim.Native.Char.{code}
use Rattle.text.specs.Text.{bytes}
use Rattle.text.specs.declared.Dialect.{Dialect}
use Rattle.text.specs.Xml.{xml_escape, xml_text, in_text}
use Rattle.text.specs.Examples.{text_opens}
use Rattle.attribute.specs.declared.Variant.{Variant}
use Rattle.attribute.specs.declared.ColumnAlign.{ColumnAlign}
use Rattle.attribute.specs.Names.{attribute_opens}
use Rattle.token.specs.declared.Undefined.{Undefined}
use Rattle.token.specs.Texts.{text}
use Rattle.token.specs.Examples.{token_opens}
use Rattle.lexer.specs.Examples.{lexer_opens}
use Rattle.ast.specs.declared.Leaf.{Leaf}
use Rattle.ast.specs.declared.One.{One}
use Rattle.ast.specs.Tree.{Node, empty, ◌then◌}
use Rattle.markup.specs.Print.{fixed_text, width_text, letter_text, character, operator_text, stretched_text, variant_text, letter_markup, operator_markup, parse_error, sized_end, sized_markup, undefined_markup, print_leaf, slash_leaf, slash, display_text, print_one, print_two, print_three, cell_leaf, cell, align_text, print}

-- whoever unfolds this unfolds all definitions of this crate, as an example has to
unfoldable pub markup_opens : Unit {0}
unfolding xml_escape xml_text in_text fixed_text width_text letter_text character operator_text stretched_text variant_text letter_markup operator_markup parse_error sized_end sized_markup undefined_markup print_leaf slash_leaf slash display_text print_one print_two print_three cell_leaf cell align_text print
markup_opens = tt

-- the Debug text of an unknown command, here a quote and a backslash at the body's end, is escaped twice
undefined_twice : print Dialect.Old (bytes "\\\"\\") (Node.row ((Node.leaf (Leaf.Undefined (Undefined.Command 1 2))) then ((Node.leaf (Leaf.Undefined (Undefined.Command 3 3))) then empty)))
    ≡ bytes "<mrow><mtext>[PARSE ERROR: Undefined(\"Command(\\\"\\\\\\\"\\\")\")]</mtext><mtext>[PARSE ERROR: Undefined(\"Command(\\\"\\\\0\\\")\")]</mtext></mrow>"
unfolding text_opens attribute_opens token_opens lexer_opens markup_opens
undefined_twice = refl

-- what the dialects print differently: references, the names of angle brackets, `\ni`, a sized parenthesis, and the alignment of a matrix
abbrev differing : List Node
differing =
    Node.leaf (Leaf.Operator (code "<"))
    ∷ Node.leaf (Leaf.Letter (code "&") Variant.Normal)
    ∷ Node.leaf (Leaf.Undefined (Undefined.Command 1 2))
    ∷ Node.leaf (Leaf.OtherOperator (text "&lang;"))
    ∷ Node.one One.Slashed (Node.leaf (Leaf.Operator (code "∋")))
    ∷ Node.leaf (Leaf.SizedParen (text "1.2em") (text "&rang;"))
    ∷ Node.matrix ColumnAlign.Left empty
    ∷ []

in_old : map (λ n. print Dialect.Old (bytes "\\>") n) differing
    ≡ bytes "<mo><</mo>"
    ∷ bytes "<mi mathvariant=\"normal\">&</mi>"
    ∷ bytes "<mtext>[PARSE ERROR: Undefined(\"Command(\\\">\\\")\")]</mtext>"
    ∷ bytes "<mo>&lang;</mo>"
    ∷ bytes "<mo>∉&#x0338;</mo>"
    ∷ bytes "<mrow><mo maxsize=\"1.2em\" minsize=\"1.2em\">&rang;</mro></mrow>"
    ∷ bytes "<mtable columnalign=left><mtr><mtd></mtd></mtr></mtable>"
    ∷ []
unfolding text_opens attribute_opens token_opens lexer_opens markup_opens
in_old = refl

in_strict : map (λ n. print Dialect.Strict (bytes "\\>") n) differing
    ≡ bytes "<mo>&lt;</mo>"
    ∷ bytes "<mi mathvariant=\"normal\">&amp;</mi>"
    ∷ bytes "<mtext>[PARSE ERROR: Undefined(\"Command(\\\"&gt;\\\")\")]</mtext>"
    ∷ bytes "<mo>⟨</mo>"
    ∷ bytes "<mo>∋&#x0338;</mo>"
    ∷ bytes "<mrow><mo maxsize=\"1.2em\" minsize=\"1.2em\">⟩</mo></mrow>"
    ∷ bytes "<mtable columnalign=\"left\"><mtr><mtd></mtd></mtr></mtable>"
    ∷ []
unfolding text_opens attribute_opens token_opens lexer_opens markup_opens
in_strict = refl
