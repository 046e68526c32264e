-- `latex2mathml::replace::finish` meets its contract.
use lib.ListN.{length}
use Rattle.std.proofs.lemmas.Result.{err_from_is_err_and}
use Rattle.latex2mathml.specs.Replace.{second_pass}
use Rattle.latex2mathml.proofs.ReplaceLaws.{finish_refused, too_small, finish_passable, finish_begins, finished}
use Rattle.latex2mathml.proofs.replace.finish.Goals as goal

pub returns-in_err-n : goal.returns-in_err-n
returns-in_err-n c =
    let p = err_from_is_err_and c.from_residual.result c.from_residual.ensures.1 in
    rw (p.1, p.2) (finish_refused (second_pass c.args.manner (length c.args.store.now) c.args.text.now) c.in_err-n.field-0.0 c.args.out.now c.in_err-n.ensures.0.0)

pub returns-then-out-n : goal.returns-then-out-n
returns-then-out-n c =
    too_small c.args.manner (length c.args.store.now) c.args.text.now c.in_ok-n.n c.args.out.now c.args.draft.now c.second_pass.new.out c.in_ok-n.ensures.0 c.if-out-n.true

pub settle-requires : goal.settle-requires
settle-requires c =
    rw c.second_pass.auto.store
    (finish_passable c.args.manner (length c.args.store.now) c.args.text.now c.in_ok-n.n c.args.out.now c.args.draft.now c.second_pass.new.out c.in_ok-n.ensures.0 c.requires c.if-out-n.false, finish_begins c.args.manner (length c.args.store.now) c.args.text.now c.in_ok-n.n c.args.out.now c.args.draft.now c.second_pass.new.out c.in_ok-n.ensures.0 c.second_pass.auto.out)

pub returns : goal.returns
returns c =
    finished c.args.manner (length c.args.store.now) c.args.text.now c.in_ok-n.n c.args.out.now c.args.draft.now c.second_pass.new.out c.in_ok-n.ensures.0 c.if-out-n.false (rw c.second_pass.auto.store at c.settle.ensures)
