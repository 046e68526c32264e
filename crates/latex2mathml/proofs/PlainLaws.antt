-- The markup of a body without a dollar has none, in its wrapper too.
-- Assumes nothing.
use mathlib.Core.Path.{◌≡◌, refl}
use mathlib.Core.Bool.{true}
use mathlib.Core.List.{List}
use Prim.Native.Nat.{ℕ}
use lib.ListN.{drop}
use Rattle.text.specs.Plain.{plain}
use Rattle.text.proofs.Cases.{never}
use Rattle.text.proofs.PlainLaws.{plain_drop, joined}
use Rattle.attribute.specs.declared.DisplayStyle.{DisplayStyle}
use Rattle.attribute.proofs.PlainLaws.{display_plain}
use Rattle.token.proofs.FitLaws.{Asks}
use Rattle.token.proofs.PlainLaws.{dollarless}
use Rattle.lexer.proofs.FitLaws.{next_fit}
use Rattle.lexer.proofs.PlainLaws.{plain_passing}
use Rattle.ast.specs.Tree.{Nodes}
use Rattle.ast.proofs.FitLaws.{AllFit}
use Rattle.markup.proofs.PlainLaws.{all_plain}
use Rattle.parser.specs.Parse.{Parsed, parse}
use Rattle.parser.proofs.FitLaws.{Reading, Fine, fine, nothing, parse_fit}
use Rattle.latex2mathml.specs.declared.Manner.{Manner}
use Rattle.latex2mathml.specs.Outcome.{accepted, depth_limit}
use Rattle.latex2mathml.specs.Translate.{outcome, in_math, latex_to_mathml}
use Rattle.latex2mathml.proofs.MannerLaws.{said}

math_plain : (display : DisplayStyle) (m : List ℕ) → plain m ≡ true → plain (in_math display m) ≡ true
unfolding in_math
math_plain display m h = simp (joined, display_plain display, h)

-- what holds of every token that is read holds of the nodes that were parsed
pub nodes_fit : (asks : Asks) (s : List ℕ) → Reading asks s → (ns : Nodes) → outcome (parse depth_limit s) ≡ accepted ns → AllFit asks ns
unfolding outcome
nodes_fit asks s reading ns e = go (parse depth_limit s) (parse_fit asks depth_limit s reading) e
  where
    go : (x : Parsed Nodes) → Fine asks (AllFit asks) x → outcome x ≡ accepted ns → AllFit asks ns
    go x (fine ms q h i) f = let same : ms ≡ ns = cc in rw (← same) h
    go x (nothing z) f = never (cc)

body_read : (s : List ℕ) → plain s ≡ true → Reading dollarless s
body_read s body = record { reads = λ at. next_fit plain_passing at (drop at s) (plain_drop at s body); digits = λ at h. tt; prime = refl }

pub markup_plain : (manner : Manner) (s : List ℕ) (display : DisplayStyle) (m : List ℕ) → plain s ≡ true → latex_to_mathml manner s display ≡ accepted m → plain m ≡ true
markup_plain manner s display m body e =
    let r = said manner s display m e in
    rw (← r.is) (math_plain display _ (all_plain manner.dialect s body r.nodes (nodes_fit dollarless s (body_read s body) r.nodes r.parsed)))
