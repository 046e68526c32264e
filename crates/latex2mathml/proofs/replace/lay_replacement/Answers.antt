-- `latex2mathml::replace::lay_replacement` meets its contract.
use lib.ListN.{length}
use Rattle.std.proofs.lemmas.Result.{err_from_is_err_and}
use Rattle.latex2mathml.proofs.ReplaceLaws.{drafted_laid, front_long, lay_refused, lay_accepted}
use Rattle.latex2mathml.proofs.replace.lay_replacement.Goals as goal

pub slice_bounds-second_pass-end : goal.slice_bounds-second_pass-end
slice_bounds-second_pass-end c =
    let q = c.in_ok-n.ensures in
    let dr = drafted_laid c.args.manner c.args.document.now (length c.args.store.now) c.args.work.now c.first_pass.new.out c.in_ok-n.n q.0 c.first_pass.auto.out q.1 in
    dr.inside

pub slice_bounds-second_pass-end-2 : goal.slice_bounds-second_pass-end-2
slice_bounds-second_pass-end-2 c =
    let q = c.in_ok-n.ensures in
    let dr = drafted_laid c.args.manner c.args.document.now (length c.args.store.now) c.args.work.now c.first_pass.new.out c.in_ok-n.n q.0 c.first_pass.auto.out q.1 in
    front_long c.args.manner c.args.document.now (length c.args.store.now) c.args.work.now _ _ dr

pub returns-in_err-n : goal.returns-in_err-n
returns-in_err-n c =
    let p = err_from_is_err_and c.from_residual.result c.from_residual.ensures.1 in
    rw (p.1, p.2) (lay_refused c.args.manner c.args.document.now (length c.args.store.now) c.args.work.now c.args.out.now c.args.out.now c.args.at c.in_err-n.field-0.0 c.in_err-n.ensures.0.0)

pub returns : goal.returns
returns c =
    let q = c.in_ok-n.ensures in
    let dr = drafted_laid c.args.manner c.args.document.now (length c.args.store.now) c.args.work.now c.first_pass.new.out c.in_ok-n.n q.0 c.first_pass.auto.out q.1 in
    let e = rw c.first_pass.auto.store at c.second_pass.ensures in
    lay_accepted c.args.manner c.args.document.now (length c.args.store.now) c.args.work.now c.args.out.now c.second_pass.new.out c.args.at c.first_pass.new.out c.in_ok-n.n c.second_pass.result dr e.0 e.1
