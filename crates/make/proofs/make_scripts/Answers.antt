-- `make::make_scripts` meets its contract.
use mathlib.Core.Path.{sym, ◌∙◌}
use Rattle.parser.specs.Parse.{both_scripts}
use Rattle.make.proofs.make_scripts.Goals as goal

pub returns-in-Some : goal.returns-in-Some
unfolding both_scripts
returns-in-Some c = λ lo m n o h. rw (sym c.script_of.ensures ∙ c.in-Some.is)

pub returns-in-None : goal.returns-in-None
unfolding both_scripts
returns-in-None c = rw (sym c.script_of.ensures ∙ c.in-None.is) c.make_sub_sup.ensures
