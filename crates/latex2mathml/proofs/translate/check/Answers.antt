-- `latex2mathml::translate::check` meets its contract.
use mathlib.Core.Path.{sym, ◌∙◌}
use Rattle.latex2mathml.proofs.TranslateLaws.{check_long, check_ill_formed, check_nul, check_all}
use Rattle.latex2mathml.proofs.translate.check.Goals as goal

pub returns-then-limit-s : goal.returns-then-limit-s
returns-then-limit-s c = check_long c.args.limit c.args.s.now c.if-limit-s.true

pub returns-then-not-well_formed : goal.returns-then-not-well_formed
returns-then-not-well_formed c =
    check_ill_formed c.args.limit c.args.s.now c.if-limit-s.false (sym c.well_formed-2.ensures ∙ c.if-not-well_formed.true)

pub returns-then-has_nul : goal.returns-then-has_nul
returns-then-has_nul c =
    check_nul c.args.limit c.args.s.now c.if-limit-s.false (sym c.well_formed-2.ensures ∙ c.if-not-well_formed.false) (sym c.has_nul.ensures ∙ c.if-has_nul.true)

pub returns : goal.returns
returns c =
    check_all c.args.limit c.args.s.now c.if-limit-s.false (sym c.well_formed-2.ensures ∙ c.if-not-well_formed.false) (sym c.has_nul.ensures ∙ c.if-has_nul.false)
