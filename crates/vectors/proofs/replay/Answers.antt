-- `vectors::replay` meets its contract.
use Rattle.vectors.proofs.CountLaws.{weaken, grows_then}
use native.Mathlib.Omega.{arith}
use Rattle.vectors.proofs.replay.Goals as goal

pub count_answers-requires : goal.count_answers-requires
count_answers-requires g c = weaken (c.with_case-counted.ensures 1600000 c.requires) (omega arith)

pub returns : goal.returns
returns g c = grows_then 1 2 c.with_case-counted.ensures c.count_answers.ensures
