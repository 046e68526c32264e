-- A node's markup is its front, the markup of its parts, and its back.
-- Assumes nothing.
use mathlib.Core.Path.{◌≡◌, refl, sym}
use mathlib.Core.List.{List, ◌++◌, append_assoc, append-nil}
use Prim.Native.Nat.{ℕ}
use Rattle.text.specs.Text.{bytes}
use Rattle.text.specs.declared.Dialect.{Dialect}
use Rattle.attribute.specs.declared.Accent.{Accent}
use Rattle.attribute.specs.Names.{accent}
use Rattle.ast.specs.declared.One.{One}
use Rattle.ast.specs.declared.Two.{Two}
use Rattle.ast.specs.declared.Three.{Three}
use Rattle.ast.specs.Tree.{Node}
use Rattle.markup.specs.Print.{character, slash, print_one, print_two, print_three}
use Rattle.markup.specs.Fronts.{accent_text, style_front, front_one, back_one, front_two, back_two, front_three, back_three}

accented : (d : Dialect) (f m end : List ℕ) (acc : Accent) (c : ℕ)
    → f ++ m ++ bytes "<mo accent=\"" ++ bytes (accent acc) ++ bytes "\">" ++ character d c ++ end ≡ f ++ m ++ accent_text d acc c end
unfolding accent_text
accented d f m end acc c = simp (accent_text, append_assoc)

-- a slashed node is what `slash` makes of its part
abbrev pub between : Dialect → One → Node → List ℕ → List ℕ
between d (One.OverOp c acc) a m = m
between d (One.UnderOp c acc) a m = m
between d One.Sqrt a m = m
between d (One.Fenced t u) a m = m
between d One.Slashed a m = slash d a m
between d (One.Style st) a m = m

pub one_pieces : (d : Dialect) (k : One) (a : Node) (m : List ℕ) → print_one d k a m ≡ front_one d k ++ between d k a m ++ back_one d k
unfolding print_one front_one back_one style_front bytes
one_pieces d (One.OverOp c acc) a m = accented d (bytes "<mover>") m (bytes "</mo></mover>") acc c
one_pieces d (One.UnderOp c acc) a m = accented d (bytes "<munder>") m (bytes "</mo></munder>") acc c
one_pieces d One.Sqrt a m = refl
one_pieces d (One.Fenced t u) a m = simp append_assoc
one_pieces d One.Slashed a m = sym (append-nil (slash d a m))
one_pieces d (One.Style st) a m = refl

pub two_pieces : (k : Two) (m n : List ℕ) → print_two k m n ≡ front_two k ++ m ++ n ++ back_two k
unfolding print_two front_two back_two
two_pieces Two.Subscript m n = refl
two_pieces Two.Superscript m n = refl
two_pieces Two.Overset m n = refl
two_pieces Two.Underset m n = refl
two_pieces Two.Under m n = refl
two_pieces Two.Root m n = refl
two_pieces (Two.Frac lt) m n = refl

pub three_pieces : (k : Three) (m n o : List ℕ) → print_three k m n o ≡ front_three k ++ m ++ n ++ o ++ back_three k
unfolding print_three front_three back_three
three_pieces Three.SubSup m n o = refl
three_pieces Three.UnderOver m n o = refl
