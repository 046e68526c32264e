-- `leaves::lengths::own_errors` meets its contract.
use mathlib.Core.Path.{◌∙◌}
use Rattle.leaves.proofs.LengthLaws.{errors_one, errors_below, errors_above}
use native.Mathlib.Omega.{arith}
use Rattle.leaves.proofs.lengths.own_errors.Goals as goal
use Rattle.leaves.proofs.lengths.own_errors.Goals.{in-11-to-19, in_default, in_default-2}

pub returns : goal.returns
returns c =
    elim c.if-matches.branch [
      | in-11-to-19 w ↦ c.from.ensures ∙ rw w.matches-is (errors_one c.args.f (omega arith) (omega arith))
      | in_default w ↦ c.from.ensures ∙ rw w.matches-is (errors_below c.args.f (omega arith))
      | in_default-2 w ↦ c.from.ensures ∙ rw w.matches-is (errors_above c.args.f (omega arith))
    ]
