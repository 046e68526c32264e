-- The marked lines of document 01, as one table. What is expected stands there written out.
-- Assumes nothing.
use Rattle.std.specs.Prelude.{◌≡◌, refl, List, [], ◌∷◌, ◌++◌, map, ℕ, length}
use Prim.Native.String.{String}
use Rattle.text.specs.Text.{bytes}
use Rattle.text.specs.Xml.{allows, forbidden}
use Rattle.text.specs.Examples.{text_opens}
use Rattle.attribute.specs.declared.DisplayStyle.{DisplayStyle}
use Rattle.attribute.specs.Names.{attribute_opens}
use Rattle.error.specs.Numbers.{number}
use Rattle.token.specs.Examples.{token_opens}
use Rattle.lexer.specs.Examples.{lexer_opens}
use Rattle.ast.specs.Tree.{ast_opens}
use Rattle.markup.specs.Examples.{markup_opens}
use Rattle.parser.specs.Examples.{parse_opens}
use Rattle.latex2mathml.specs.Outcome.{Outcome, body_limit, document_limit, depth_limit, record_size, ◌>>=◌, refuse, number_of, bytes_of}
use Rattle.latex2mathml.specs.Manner.{old, is_strict}
use Rattle.latex2mathml.specs.Translate.{checked, outcome, read_body, convert_content, in_math, latex_to_mathml, store_too_small, translate}
use Rattle.dollars.specs.Dollars.{dollar, two_dollars, three_dollars}
use Rattle.dollars.specs.Places.{places, odd}
use Rattle.latex2mathml.specs.Replace.{translate_body, substitute, first_pass, second_pass, replacement, Replaced, replace_outcome, replace}

-- whoever unfolds this unfolds all definitions of this crate and of those below it, as an example has to
unfoldable pub latex2mathml_opens : Unit {0}
unfolding text_opens attribute_opens number token_opens lexer_opens ast_opens markup_opens parse_opens body_limit document_limit depth_limit record_size ◌>>=◌ refuse number_of bytes_of allows forbidden is_strict outcome read_body convert_content in_math latex_to_mathml store_too_small checked translate dollar two_dollars three_dollars places odd translate_body substitute first_pass second_pass replacement replace_outcome replace
latex2mathml_opens = tt

-- a line: a body with its markup, the wrapper left off, or with the number of its refusal; the length of the empty body's
-- markup; a document with the number of its refusal, and the text with which the work buffer then begins
pub data Line : Type 0 where
  body : (latex markup : String) → Line
  refused_body : (latex : String) (n : ℕ) → Line
  empty_body : DisplayStyle → (n : ℕ) → Line
  refused_document : (document : String) (n : ℕ) (work : String) → Line

unfoldable pub lines : List Line
lines =
    body "" "" ∷
    empty_body DisplayStyle.Block 72 ∷
    empty_body DisplayStyle.Inline 73 ∷
    body "\\frac123" "<mfrac><mn>1</mn><mn>23</mn></mfrac>" ∷
    body "\\frac 123" "<mfrac><mn>123</mn><mtext>[PARSE ERROR: Undefined(\"EOF\")]</mtext></mfrac>" ∷
    body "x_a^b" "<msubsup><mi>x</mi><mi>a</mi><mi>b</mi></msubsup>" ∷
    body "a''" "<msup><mi>a</mi><mo>′</mo></msup><mo>'</mo>" ∷
    body "\\sum^n" "<mover><mi>n</mi><mo accent=\"false\">∑</mo></mover>" ∷
    body "\\" "<mtext>[PARSE ERROR: Undefined(\"Command(\\\"\\\\0\\\")\")]</mtext>" ∷
    refused_body "{" 6 ∷
    refused_body "\\left{a\\right)" 7 ∷
    refused_body "\\middle a" 9 ∷
    refused_document "$$$" 5 "" ∷
    refused_document "$$$$" 4 "" ∷
    refused_document "$$a$b$$" 4 "<math xmlns=\"http://www.w3.org/1998/Math/MathML\" display=\"block\"><mi>a</mi><mi mathvariant=\"normal\">$</mi><mi>b</mi></math>" ∷
    []

-- the lent sizes of the page program
unfoldable pub translated : String → DisplayStyle → Outcome (List ℕ)
translated latex display = translate old (bytes latex) display 61440 65536

unfoldable pub replaced : String → Replaced
replaced document = replace old (bytes document) 61440 65536 65536

-- the number returned and the output
unfoldable pub answer : Outcome (List ℕ) → List (List ℕ)
answer o = (number_of o ∷ []) ∷ bytes_of o ∷ []

-- what the definitions give for a line, in both displays for a body
unfoldable pub computed : Line → List (List ℕ)
computed (body latex markup) = answer (translated latex DisplayStyle.Block) ++ answer (translated latex DisplayStyle.Inline)
computed (refused_body latex n) = answer (translated latex DisplayStyle.Block) ++ answer (translated latex DisplayStyle.Inline)
computed (empty_body display n) = (length (bytes_of (translated "" display)) ∷ []) ∷ []
computed (refused_document document n work) = answer (replaced document).outcome ++ (replaced document).work ∷ []

-- what a line says
unfoldable pub wrapped : String → String → List ℕ
wrapped display markup =
    bytes "<math xmlns=\"http://www.w3.org/1998/Math/MathML\" display=\"" ++ bytes display ++ bytes "\">" ++ bytes markup ++ bytes "</math>"

unfoldable pub written : Line → List (List ℕ)
written (body latex markup) = (0 ∷ []) ∷ wrapped "block" markup ∷ (0 ∷ []) ∷ wrapped "inline" markup ∷ []
written (refused_body latex n) = (n ∷ []) ∷ [] ∷ (n ∷ []) ∷ [] ∷ []
written (empty_body display n) = (n ∷ []) ∷ []
written (refused_document document n work) = (n ∷ []) ∷ [] ∷ bytes work ∷ []

pub marked : map computed lines ≡ map written lines
unfolding latex2mathml_opens lines translated replaced answer computed wrapped written
marked = refl
