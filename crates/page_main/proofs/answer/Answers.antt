-- `page_main::answer` meets its contract.
use Rattle.page_main.proofs.ProgramLaws.{refusal_room, answer_accepts, answer_refuses}
use borrow.Author.Rules.{rules}
use native.Mathlib.Omega.{arith}
use Rattle.page_main.proofs.answer.Goals as goal

pub put_refusal-requires : goal.put_refusal-requires
put_refusal-requires c =
    let k = c.page.auto.out in
    refusal_room c.in-Err.r (omega arith)

pub returns-in-Ok : goal.returns-in-Ok
returns-in-Ok c = answer_accepts (search rules) c.page.auto.out (c.in-Ok.ensures.0)

pub returns-in-Err : goal.returns-in-Err
returns-in-Err c =
    answer_refuses (search rules) c.page.auto.out c.put_refusal.auto.out (c.in-Err.ensures.0) c.put_refusal.ensures
