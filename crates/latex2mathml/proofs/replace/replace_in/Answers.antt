-- `latex2mathml::replace::replace_in` meets its contract.
use mathlib.Core.Path.{◌∙◌}
use lib.ListN.{length}
use Rattle.std.proofs.lemmas.Result.{err_from_is_err_and}
use Rattle.latex2mathml.proofs.ReplaceLaws.{front_long, front_small, replace_refused, replace_passable, replace_begins, replace_drafted, replace_accepted}
use native.Mathlib.Omega.{arith}
use Rattle.latex2mathml.proofs.replace.replace_in.Goals as goal

pub settle-requires : goal.settle-requires
settle-requires c =
    let q = c.in_ok-n.ensures in
    rw c.first_pass.auto.store
    (replace_passable c.args.manner c.args.document.now (length c.args.store.now) c.args.work.now c.args.draft.now c.first_pass.new.out c.in_ok-n.n q.0, replace_begins c.args.manner c.args.document.now (length c.args.store.now) c.args.work.now c.args.draft.now c.first_pass.new.out c.in_ok-n.n q.0 c.first_pass.auto.out)

pub slice_bounds-finish-end : goal.slice_bounds-finish-end
slice_bounds-finish-end c =
    let q = c.in_ok-n.ensures in
    let dr = replace_drafted c.args.manner c.args.document.now (length c.args.store.now) c.args.work.now c.args.draft.now c.first_pass.new.out c.in_ok-n.n q.0 q.1 c.settle.new.out c.settle.auto.out (rw c.first_pass.auto.store at c.settle.ensures) in
    dr.inside

pub slice_bounds-finish-end-2 : goal.slice_bounds-finish-end-2
slice_bounds-finish-end-2 c =
    let q = c.in_ok-n.ensures in
    let dr = replace_drafted c.args.manner c.args.document.now (length c.args.store.now) c.args.work.now c.args.draft.now c.first_pass.new.out c.in_ok-n.n q.0 q.1 c.settle.new.out c.settle.auto.out (rw c.first_pass.auto.store at c.settle.ensures) in
    front_long c.args.manner c.args.document.now (length c.args.store.now) c.args.work.now _ _ dr

pub finish-requires : goal.finish-requires
finish-requires c =
    let q = c.in_ok-n.ensures in
    let dr = replace_drafted c.args.manner c.args.document.now (length c.args.store.now) c.args.work.now c.args.draft.now c.first_pass.new.out c.in_ok-n.n q.0 q.1 c.settle.new.out c.settle.auto.out (rw c.first_pass.auto.store at c.settle.ensures) in
    let small = front_small c.args.manner c.args.document.now (length c.args.store.now) c.args.work.now _ _ dr in
    omega arith

pub returns-in_err-n : goal.returns-in_err-n
returns-in_err-n c =
    let p = err_from_is_err_and c.from_residual.result c.from_residual.ensures.1 in
    rw (p.1, p.2) (replace_refused c.args.manner c.args.document.now (length c.args.store.now) c.args.work.now c.args.out.now c.in_err-n.field-0.0 c.in_err-n.ensures.0.0, c.first_pass.auto.store)

pub returns : goal.returns
returns c =
    let q = c.in_ok-n.ensures in
    let dr = replace_drafted c.args.manner c.args.document.now (length c.args.store.now) c.args.work.now c.args.draft.now c.first_pass.new.out c.in_ok-n.n q.0 q.1 c.settle.new.out c.settle.auto.out (rw c.first_pass.auto.store at c.settle.ensures) in
    (replace_accepted c.args.manner c.args.document.now (length c.args.store.now) c.args.work.now c.args.out.now c.finish.result dr (rw (c.settle.auto.store, c.first_pass.auto.store) at c.finish.ensures), c.finish.auto.store ∙ c.settle.auto.store ∙ c.first_pass.auto.store)
