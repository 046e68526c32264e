-- `vectors::count_answers` meets its contract.
use Rattle.vectors.proofs.CountLaws.{weaken, grows_then, grows_less}
use native.Mathlib.Omega.{arith}
use Rattle.vectors.proofs.count_answers.Goals as goal

pub count_answer-requires : goal.count_answer-requires
count_answer-requires g c = weaken (c.count_answer-first.ensures 1800000 c.requires) (omega arith)

pub returns-in-Some-BothDisplays : goal.returns-in-Some-BothDisplays
returns-in-Some-BothDisplays g c = grows_then 1 1 c.count_answer-first.ensures c.count_answer.ensures

pub returns-in-Some-One : goal.returns-in-Some-One
returns-in-Some-One g c = grows_less 1 2 c.count_answer-in-Some-One.ensures (omega arith)

pub returns-in-None : goal.returns-in-None
returns-in-None g c = grows_less 1 2 c.with_answer.ensures (omega arith)
