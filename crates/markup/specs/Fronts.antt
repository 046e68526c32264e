-- The text before the parts of a node and the text behind them.
-- Assumes nothing.
use Rattle.std.specs.Prelude.{List, ◌++◌, ℕ}
use Rattle.text.specs.Text.{bytes}
use Rattle.text.specs.declared.Dialect.{Dialect}
use Rattle.attribute.specs.declared.Accent.{Accent}
use Rattle.attribute.specs.declared.DisplayStyle.{DisplayStyle}
use Rattle.attribute.specs.Names.{accent, line_thickness}
use Rattle.ast.specs.declared.One.{One}
use Rattle.ast.specs.declared.Two.{Two}
use Rattle.ast.specs.declared.Three.{Three}
use Rattle.markup.specs.Print.{fixed_text, character, display_text}

-- the operator over or under a node, and what closes the node
unfoldable pub accent_text : Dialect → Accent → ℕ → List ℕ → List ℕ
accent_text d acc c end = bytes "<mo accent=\"" ++ bytes (accent acc) ++ (bytes "\">" ++ character d c ++ end)

unfoldable pub style_front : DisplayStyle → List ℕ
style_front st = bytes "<mstyle displaystyle=\"" ++ display_text st ++ bytes "\">"

-- a slashed node has no text of its own
unfoldable pub front_one : Dialect → One → List ℕ
front_one d (One.OverOp c acc) = bytes "<mover>"
front_one d (One.UnderOp c acc) = bytes "<munder>"
front_one d One.Sqrt = bytes "<msqrt>"
front_one d (One.Fenced t u) = bytes "<mrow><mo stretchy=\"true\" form=\"prefix\">" ++ fixed_text d t ++ bytes "</mo>"
front_one d One.Slashed = bytes ""
front_one d (One.Style st) = style_front st

unfoldable pub back_one : Dialect → One → List ℕ
back_one d (One.OverOp c acc) = accent_text d acc c (bytes "</mo></mover>")
back_one d (One.UnderOp c acc) = accent_text d acc c (bytes "</mo></munder>")
back_one d One.Sqrt = bytes "</msqrt>"
back_one d (One.Fenced t u) = bytes "<mo stretchy=\"true\" form=\"postfix\">" ++ fixed_text d u ++ bytes "</mo></mrow>"
back_one d One.Slashed = bytes ""
back_one d (One.Style st) = bytes "</mstyle>"

unfoldable pub front_two : Two → List ℕ
front_two Two.Subscript = bytes "<msub>"
front_two Two.Superscript = bytes "<msup>"
front_two Two.Overset = bytes "<mover>"
front_two Two.Underset = bytes "<munder>"
front_two Two.Under = bytes "<munder>"
front_two Two.Root = bytes "<mroot>"
front_two (Two.Frac lt) = bytes "<mfrac" ++ bytes (line_thickness lt) ++ bytes ">"

unfoldable pub back_two : Two → List ℕ
back_two Two.Subscript = bytes "</msub>"
back_two Two.Superscript = bytes "</msup>"
back_two Two.Overset = bytes "</mover>"
back_two Two.Underset = bytes "</munder>"
back_two Two.Under = bytes "</munder>"
back_two Two.Root = bytes "</mroot>"
back_two (Two.Frac lt) = bytes "</mfrac>"

unfoldable pub front_three : Three → List ℕ
front_three Three.SubSup = bytes "<msubsup>"
front_three Three.UnderOver = bytes "<munderover>"

unfoldable pub back_three : Three → List ℕ
back_three Three.SubSup = bytes "</msubsup>"
back_three Three.UnderOver = bytes "</munderover>"
