-- `latex2mathml::translate::refuses` meets its contract.
use mathlib.Core.Path.{sym, ap, ◌∙◌}
use mathlib.Core.Bool.{◌&&◌}
use Rattle.text.specs.Xml.{forbidden}
use Rattle.latex2mathml.specs.Manner.{is_strict}
use Rattle.latex2mathml.proofs.translate.refuses.Goals as goal

pub returns-in-Old : goal.returns-in-Old
unfolding is_strict
returns-in-Old c = sym (ap (λ d. is_strict d && forbidden c.args.s.now) c.in-Old.is)

pub returns-in-Strict : goal.returns-in-Strict
unfolding is_strict
returns-in-Strict c =
    c.is_forbidden.ensures ∙ sym (ap (λ d. is_strict d && forbidden c.args.s.now) c.in-Strict.is)
