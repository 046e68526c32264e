-- What an accepted body says, test by test, and so of its answer in the other dialect.
-- Assumes nothing.
use mathlib.Core.Path.{◌≡◌}
use mathlib.Core.Bool.{false, ◌&&◌}
use mathlib.Core.List.{List}
use Prim.Native.Nat.{ℕ}
use lib.Dec.{ltb}
use lib.ListN.{length}
use Rattle.text.specs.declared.Dialect.{Dialect}
use Rattle.text.specs.Xml.{forbidden}
use Rattle.text.proofs.Cases.{by_test}
use Rattle.attribute.specs.declared.DisplayStyle.{DisplayStyle}
use Rattle.error.specs.declared.Refusal.{Refusal}
use Rattle.ast.specs.Tree.{Nodes}
use Rattle.markup.specs.Print.{print_all}
use Rattle.parser.specs.Parse.{parse}
use Rattle.latex2mathml.specs.declared.Manner.{Manner}
use Rattle.latex2mathml.specs.Outcome.{accepted, ◌>>=◌, refuse, body_limit, depth_limit}
use Rattle.latex2mathml.specs.Manner.{old, strict, is_strict}
use Rattle.latex2mathml.specs.Translate.{checked, outcome, read_body, convert_content, in_math, latex_to_mathml, store_too_small, translate}
use Rattle.latex2mathml.specs.Related.{AsStrict, AsOld, Related}
use Rattle.latex2mathml.proofs.OutcomeLaws.{steps, not_refused}

-- its nodes are parsed, the dialect forbids none of its characters, and its markup is that of the nodes
pub record Said (manner : Manner) (s : List ℕ) (display : DisplayStyle) (t : List ℕ) : Type 0 where
  pub nodes : Nodes
  pub parsed : outcome (parse depth_limit s) ≡ accepted nodes
  pub allowed : (is_strict manner.dialect && forbidden s) ≡ false
  pub is : in_math display (print_all manner.dialect s nodes) ≡ t

pub said : (manner : Manner) (s : List ℕ) (display : DisplayStyle) (t : List ℕ) → latex_to_mathml manner s display ≡ accepted t → Said manner s display t
unfolding latex_to_mathml convert_content read_body
said manner s display t e =
    let c = steps (convert_content manner s) _ t e in
    let r = steps (read_body manner s) _ c.value c.is in
    let p = steps (outcome (parse depth_limit s)) _ r.value r.is in
    let f = not_refused (is_strict manner.dialect && forbidden s) Refusal.ForbiddenCharacter _ r.value p.then in
    let nodes : p.value ≡ r.value = let z = f.1 in cc in
    let same : in_math display (print_all manner.dialect s r.value) ≡ t = let y = r.then in let x = c.then in cc in
    record { nodes = r.value; parsed = rw nodes at p.is; allowed = f.0; is = same }

module _ (s : List ℕ) (display : DisplayStyle) (store room : ℕ) where
  -- .. and what is asked before and behind it
  pub record Told (manner : Manner) (t : List ℕ) : Type 0 where
    pub passes : checked body_limit s ≡ accepted tt
    pub stored : store_too_small store s ≡ accepted tt
    pub read : Said manner s display t
    pub fits : ltb room (length t) ≡ false

  pub told : (manner : Manner) (t : List ℕ) → translate manner s display store room ≡ accepted t → Told manner t
  unfolding translate checked refuse ◌>>=◌ body_limit
  told manner t e =
      let a = steps (checked body_limit s) _ t e in
      let c = steps (store_too_small store s) _ t a.then in
      let d = steps (latex_to_mathml manner s display) _ t c.then in
      let i = not_refused (ltb room (length d.value)) Refusal.OutputTooSmall _ t d.then in
      let same : d.value ≡ t = let z = i.1 in cc in
      record { passes = a.is; stored = c.is; read = said manner s display t (rw same at d.is); fits = rw same at i.0 }

  abbrev markup : Dialect → Nodes → List ℕ
  markup d ns = in_math display (print_all d s ns)

  strict_of_old_lem : (t : List ℕ) → translate old s display store room ≡ accepted t → AsStrict (translate strict s display store room)
  unfolding translate checked latex_to_mathml convert_content read_body refuse ◌>>=◌ body_limit is_strict
  strict_of_old_lem t e =
      let a = told old t e in
      let r = a.read in
      by_test (forbidden s)
      (λ f. AsStrict.forbids (rw (translate, a.passes, a.stored, latex_to_mathml, convert_content, read_body, r.parsed, f)))
      (λ f.
      by_test (ltb room (length (markup Dialect.Strict r.nodes)))
      (λ g. AsStrict.small (rw (translate, a.passes, a.stored, latex_to_mathml, convert_content, read_body, r.parsed, f, g)))
      (λ g. AsStrict.taken (markup Dialect.Strict r.nodes) (rw (translate, a.passes, a.stored, latex_to_mathml, convert_content, read_body, r.parsed, f, g))))

  old_of_strict_lem : (t : List ℕ) → translate strict s display store room ≡ accepted t → AsOld (translate old s display store room)
  unfolding translate checked latex_to_mathml convert_content read_body refuse ◌>>=◌ body_limit is_strict
  old_of_strict_lem t e =
      let a = told strict t e in
      let r = a.read in
      by_test (ltb room (length (markup Dialect.Old r.nodes)))
      (λ g. AsOld.small (rw (translate, a.passes, a.stored, latex_to_mathml, convert_content, read_body, r.parsed, g)))
      (λ g. AsOld.taken (markup Dialect.Old r.nodes) (rw (translate, a.passes, a.stored, latex_to_mathml, convert_content, read_body, r.parsed, g)))

pub related : Related
related = record { strict_of_old = strict_of_old_lem; old_of_strict = old_of_strict_lem }
