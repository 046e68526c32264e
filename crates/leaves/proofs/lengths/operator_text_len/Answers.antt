-- `leaves::lengths::operator_text_len` meets its contract.
use mathlib.Core.Path.{ap, ◌∙◌}
use lib.ListN.{length}
use Rattle.markup.specs.Print.{character, operator_text}
use Rattle.leaves.proofs.lengths.operator_text_len.Goals as goal

pub returns : goal.returns
unfolding character operator_text
returns c =
    c.character_len.ensures ∙ ap (λ x. length (character c.args.dialect x)) c.operator_in.ensures
