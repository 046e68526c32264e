-- Worked examples, which antt computes.
-- Assumes nothing.
use Rattle.std.specs.Prelude.{◌≡◌, refl, List, [], ◌∷◌, ◌++◌, map, ℕ, zero, suc, get_or}
use Prim.Native.Char.{code}
use Prim.Native.String.{String}
use Rattle.text.specs.Text.{bytes}
use Rattle.text.specs.Examples.{text_opens}
use Rattle.attribute.specs.declared.Variant.{Variant}
use Rattle.attribute.specs.declared.LineThickness.{LineThickness}
use Rattle.error.specs.declared.Refusal.{Refusal}
use Rattle.token.specs.declared.Undefined.{Undefined}
use Rattle.token.specs.Texts.{text}
use Rattle.token.specs.Examples.{token_opens}
use Rattle.lexer.specs.Examples.{lexer_opens}
use Rattle.ast.specs.declared.Leaf.{Leaf}
use Rattle.ast.specs.declared.Two.{Two}
use Rattle.ast.specs.declared.Three.{Three}
use Rattle.ast.specs.Tree.{Node, leaf, two, three, Nodes, empty, ◌then◌, ast_opens}
use Rattle.parser.specs.State.{starts_with_digit, following, next, new, past_letters, parse_text}
use Rattle.parser.specs.Environment.{environments, environment}
use Rattle.parser.specs.Marks.{script_of, repeats}
use Rattle.parser.specs.Parse.{Parsed, made, refused, ◌>>=◌, build, grouped, group_up_to, parse_group, parse_sqrt, binomial, of_pair, parse_two, parse_one, parse_brace, operator, with_below, with_above, with_both, parse_limits, parse_lim, parse_slashed, parse_style, with_fence, fenced, parse_left, stretch_leaf, stretch, stretched, parse_middle, sized, parse_big, opened, in_environment, parse_begin, parse_text_leaf, parse_bare, primed, single_step, sub_sup, both_scripts, parse_second, parse_scripts, node_step, parse_node, nodes_up_to, parse}

-- whoever unfolds this unfolds all definitions of this crate, as an example has to
unfoldable pub parse_opens : Unit {0}
unfolding starts_with_digit following next new past_letters parse_text environments environment ◌>>=◌ build grouped group_up_to parse_group parse_sqrt binomial of_pair parse_two parse_one parse_brace operator with_below with_above with_both parse_limits parse_lim parse_slashed parse_style with_fence fenced parse_left stretch_leaf stretch stretched parse_middle sized parse_big opened in_environment parse_begin parse_text_leaf parse_bare primed single_step script_of repeats sub_sup both_scripts parse_second parse_scripts node_step parse_node nodes_up_to parse
parse_opens = tt

-- the nodes of a body alone, or why it is refused
pub data Read : Type 0 where
  nodes : Nodes → Read
  because : Refusal → Read

unfoldable pub read : Parsed Nodes → Read
read (made ns p) = nodes ns
read (refused r) = because r

-- the records that a body makes, none where it is refused
unfoldable pub records : Parsed Nodes → ℕ
records (made ns p) = p.made
records (refused r) = 0

-- a digit counts as a number of one digit only directly behind the command
digit_behind : map (λ s. read (parse 256 (bytes s))) ("\\frac12" ∷ "\\frac 12" ∷ [])
    ≡ nodes (two (Two.Frac LineThickness.Medium) (leaf (Leaf.Number 5 6)) (leaf (Leaf.Number 6 7)) then empty)
    ∷ nodes (two (Two.Frac LineThickness.Medium) (leaf (Leaf.Number 6 8)) (leaf (Leaf.Undefined Undefined.EOF)) then empty)
    ∷ []
unfolding text_opens token_opens lexer_opens ast_opens parse_opens read
digit_behind = refl

unfoldable pub italic : String → Node
italic s = leaf (Leaf.Letter (get_or (bytes s) 0 0) Variant.Italic)

-- the degree of a root is read before its content
orders : read (parse 256 (bytes "\\sqrt[a]b")) ≡ nodes (two Two.Root (italic "b") (italic "a") then empty)
unfolding text_opens token_opens lexer_opens ast_opens parse_opens read italic
orders = refl

unfoldable pub alone : Node → Read
alone n = nodes (n then empty)

unfoldable pub repeated : Read
repeated = because Refusal.RepeatedMark

-- both scripts in either order, a prime in the base or in an operand, a mark as an operand, and a missing operand
scripts : map (λ s. read (parse 256 (bytes s))) ("x_a^b" ∷ "x^b _a" ∷ "x'_a^b" ∷ "x_a'^b" ∷ "x_^^a" ∷ "x_a^" ∷ "x__a" ∷ [])
    ≡ alone (three Three.SubSup (italic "x") (italic "a") (italic "b"))
    ∷ alone (three Three.SubSup (italic "x") (italic "a") (italic "b"))
    ∷ alone (three Three.SubSup (two Two.Superscript (italic "x") (leaf (Leaf.Operator (code "′")))) (italic "a") (italic "b"))
    ∷ alone (three Three.SubSup (italic "x") (two Two.Superscript (italic "a") (leaf (Leaf.Operator (code "′")))) (italic "b"))
    ∷ alone (three Three.SubSup (italic "x") (leaf (Leaf.Undefined Undefined.Circumflex)) (italic "a"))
    ∷ alone (three Three.SubSup (italic "x") (italic "a") (leaf (Leaf.Undefined Undefined.EOF)))
    ∷ nodes (two Two.Subscript (italic "x") (leaf (Leaf.Undefined Undefined.Underscore)) then italic "a" then empty)
    ∷ []
unfolding text_opens token_opens lexer_opens ast_opens parse_opens read italic alone
scripts = refl

-- marks that an operator or a limit takes for itself are not those of a script
own_marks : map (λ s. read (parse 256 (bytes s))) ("\\sum_a_b" ∷ "\\sum_a^b_c" ∷ "x_\\sum_a^b" ∷ "\\lim^a_b" ∷ [])
    ≡ alone (two Two.Subscript (two Two.Under (leaf (Leaf.Operator (code "∑"))) (italic "a")) (italic "b"))
    ∷ alone (two Two.Subscript (three Three.UnderOver (leaf (Leaf.Operator (code "∑"))) (italic "a") (italic "b")) (italic "c"))
    ∷ alone (two Two.Subscript (italic "x") (three Three.UnderOver (leaf (Leaf.Operator (code "∑"))) (italic "a") (italic "b")))
    ∷ alone (three Three.SubSup (leaf (Leaf.Function (text "lim"))) (italic "b") (italic "a"))
    ∷ []
unfolding text_opens token_opens lexer_opens ast_opens parse_opens read italic alone
own_marks = refl

-- a repeated mark is refused when met: behind the operand before it, and before its own operand is read
repeated_marks : map (λ s. read (parse 256 (bytes s)))
    ("x_a_b" ∷ "x^a^b" ∷ "x_a^b_c" ∷ "x_a^b^c" ∷ "x_a_" ∷ "x_a_{" ∷ "x_a_\\middle b" ∷ "x___a" ∷ "x^a'^b" ∷ "\\sum_a_b_c" ∷ "x_\\sum_a_b" ∷ "\\hat x_a_b" ∷ "x_\\middle a_b" ∷ "x_a^{" ∷ [])
    ≡ repeated ∷ repeated ∷ repeated ∷ repeated ∷ repeated ∷ repeated ∷ repeated ∷ repeated ∷ repeated ∷ repeated ∷ repeated ∷ repeated
    ∷ because Refusal.MiddleOperand ∷ because Refusal.UnexpectedToken ∷ []
unfolding text_opens token_opens lexer_opens ast_opens parse_opens read repeated
repeated_marks = refl

-- the operand of a script is one call inside its base's
script_depths : map (λ d. read (parse d (bytes "x_a^b"))) (1 ∷ 2 ∷ []) ≡ because Refusal.TooDeep ∷ alone (three Three.SubSup (italic "x") (italic "a") (italic "b")) ∷ []
unfolding text_opens token_opens lexer_opens ast_opens parse_opens read italic alone
script_depths = refl

unfoldable pub times : ℕ → List ℕ → List ℕ
times zero s = []
times (suc n) s = s ++ times n s

unfoldable pub in_braces : String → List ℕ
in_braces s = times 127 (bytes "{") ++ bytes s ++ times 127 (bytes "}")

-- .. so that it is the 256th, where that of a group in its place is the 257th; a repeated mark is met there, and in a row of scripts at the second
script_limits : map (λ s. read (parse 256 s)) (in_braces "x_a" ∷ in_braces "x_{a}" ∷ in_braces "x_a_b" ∷ (bytes "x" ++ times 254 (bytes "^x")) ∷ [])
    ≡ alone (two Two.Subscript (italic "x") (italic "a")) ∷ because Refusal.TooDeep ∷ repeated ∷ repeated ∷ []
unfolding text_opens token_opens lexer_opens ast_opens parse_opens read italic alone repeated times in_braces
script_limits = refl

-- each call of parse_node and parse_single_node takes a level of depth, and a call with none left is refused
depths : map (λ d. read (parse d (bytes "{a}"))) (3 ∷ 4 ∷ []) ≡ because Refusal.TooDeep ∷ nodes (italic "a" then empty) ∷ []
unfolding text_opens token_opens lexer_opens ast_opens parse_opens read italic
depths = refl

-- of several reasons to refuse the first met counts: an unknown environment is met after its content
first_met : map (λ s. read (parse 256 (bytes s)))
    ("\\begin{q}\\left a\\end{q}" ∷ "\\begin{q}\\middle a" ∷ "\\begin{q}a" ∷ "\\begin{q}a\\end{q}" ∷ [])
    ≡ because Refusal.MissingParensethis
    ∷ because Refusal.MiddleOperand
    ∷ because Refusal.UnexpectedToken
    ∷ because Refusal.UnknownEnvironment
    ∷ []
unfolding text_opens token_opens lexer_opens ast_opens parse_opens read
first_met = refl

-- a record for each node that the Rust builds, also for a row that an environment opens and for the operand of `\middle`
counted : map (λ s. records (parse 256 (bytes s)))
    ("a" ∷ "a'" ∷ "a_b" ∷ "a_b^c" ∷ "{}" ∷ "{a}" ∷ "{ab}" ∷ "\\binom12" ∷ "\\tbinom12" ∷ "\\overbrace a" ∷ "\\overbrace a^b" ∷ "\\sum_a^b" ∷ "\\sum^b" ∷ "\\int^b" ∷ "\\lim_a"
    ∷ "\\mathbf{ab}" ∷ "\\middle|" ∷ "\\begin{matrix}a\\end{}" ∷ "\\begin{matrix}a&\\end{}" ∷ "\\begin{pmatrix}a&\\end{}" ∷ [])
    ≡ 1 ∷ 3 ∷ 3 ∷ 4 ∷ 1 ∷ 1 ∷ 3 ∷ 4 ∷ 6 ∷ 3 ∷ 5 ∷ 4 ∷ 2 ∷ 3 ∷ 3 ∷ 3 ∷ 2 ∷ 2 ∷ 4 ∷ 5 ∷ []
unfolding text_opens token_opens lexer_opens ast_opens parse_opens records
counted = refl
