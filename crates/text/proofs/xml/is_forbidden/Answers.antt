use mathlib.Core.Path.{sym, ap, ◌∙◌}
use lib.ListN.{drop_of_length-le}
use Rattle.text.specs.Xml.{allows, forbidden}
use Rattle.text.proofs.XmlLaws.{here_forbidden, next_forbidden}
use Rattle.text.proofs.xml.is_forbidden.Goals as goal

pub returns-then-not-is_allowed : goal.returns-then-not-is_allowed
returns-then-not-is_allowed c =
    let e = c.is_allowed.ensures ∙ ap (λ p. allows p.code) c.code_point.ensures in
    sym (c.loop-i.invariant ∙ here_forbidden c.args.s.now c.loop-i.i c.loop-i-test.true (sym e ∙ c.if-not-is_allowed.true))

pub loop-i-preserved : goal.loop-i-preserved
loop-i-preserved c =
    let e = c.is_allowed.ensures ∙ ap (λ p. allows p.code) c.code_point.ensures in
    c.loop-i.invariant ∙ next_forbidden c.args.s.now c.loop-i.i c.loop-i-test.true (sym e ∙ c.if-not-is_allowed.false)

pub returns : goal.returns
unfolding forbidden
returns c = sym (c.loop-i.invariant ∙ ap forbidden (drop_of_length-le c.args.s.now c.loop-i-test.false))
