-- Every strict answer of the body translation is a document of XML 1.0.
-- Assumes nothing.
use mathlib.Core.Path.{◌≡◌, refl}
use mathlib.Core.Bool.{true, false}
use mathlib.Core.List.{List, [], ◌∷◌}
use Prim.Native.Nat.{ℕ, suc, ◌-◌}
use native.Mathlib.Omega.{arith}
use lib.ListN.{take, drop}
use Rattle.text.specs.Utf8.{well_formed}
use Rattle.text.specs.Xml.{allows, forbidden}
use Rattle.text.specs.declared.Dialect.{Dialect}
use Rattle.text.proofs.Utf8Laws.{every}
use Rattle.attribute.specs.declared.DisplayStyle.{DisplayStyle}
use Rattle.attribute.specs.declared.DisplayStyle.TheVariants.{Block, Inline}
use Rattle.attribute.specs.Names.{display_style}
use Rattle.lexer.proofs.CleanLaws.{numeral, allowed, next_allowed}
use Rattle.markup.specs.Nest.{Document, nest_opens}
use Rattle.markup.specs.Print.{print_all}
use Rattle.markup.proofs.NestLaws.{Nested, ◌and◌, fixed}
use Rattle.markup.proofs.StrictLaws.{all_nested}
use Rattle.parser.specs.State.{starts_with_digit}
use Rattle.parser.proofs.FitLaws.{Reading}
use Rattle.latex2mathml.specs.Manner.{strict, is_strict}
use Rattle.latex2mathml.specs.Translate.{in_math}
use Rattle.latex2mathml.specs.Documents.{StrictAnswers}
use Rattle.latex2mathml.proofs.TranslateLaws.{check_gives}
use Rattle.latex2mathml.proofs.MannerLaws.{told}
use Rattle.latex2mathml.proofs.PlainLaws.{nodes_fit}

-- ---- what is read of a body that holds no forbidden character

one_digit : (l : List ℕ) → starts_with_digit l ≡ true → every numeral (take 1 l) ≡ true
unfolding starts_with_digit
one_digit [] h = refl
one_digit (b ∷ l) h = rw h

body_read : (s : List ℕ) → well_formed s ≡ true → forbidden s ≡ false → Reading (allowed s) s
unfolding allows
body_read s well clean = record {
  reads = next_allowed s clean well;
  digits = λ at h. let long : suc at - at ≡ 1 = omega arith in rw long (one_digit (drop at s) h);
  prime = refl;
}

-- ---- the wrapper

math_document : (display : DisplayStyle) (m : List ℕ) → Nested m → Document (in_math display m)
unfolding in_math display_style nest_opens
math_document Block m h =
    fixed "<math xmlns=\"http://www.w3.org/1998/Math/MathML\" display=\"" refl and fixed "block" refl and fixed "\">" refl and h _ _ and fixed "</math>" refl
math_document Inline m h =
    fixed "<math xmlns=\"http://www.w3.org/1998/Math/MathML\" display=\"" refl and fixed "inline" refl and fixed "\">" refl and h _ _ and fixed "</math>" refl

pub strict_nests : StrictAnswers
unfolding is_strict
strict_nests s display store room t e =
    let a = told s display store room strict t e in
    let r = a.read in
    let clean : forbidden s ≡ false = r.allowed in
    let fit = nodes_fit (allowed s) s (body_read s (check_gives _ s a.passes).1 clean) r.nodes r.parsed in
    rw (← r.is) (math_document display (print_all Dialect.Strict s r.nodes) (all_nested s clean r.nodes fit))
