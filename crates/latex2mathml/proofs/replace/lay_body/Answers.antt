-- `latex2mathml::replace::lay_body` meets its contract.
use mathlib.Core.Path.{refl}
use lib.ListN.{length}
use Rattle.std.proofs.lemmas.Result.{err_from_is_err_and}
use Rattle.latex2mathml.proofs.TranslateLaws.{body_refused}
use Rattle.latex2mathml.proofs.BodyLaws.{few_nodes, measurable, show_sure, show_fitting, lay_sure, lay_small, lay_beyond, lay_fitting}
use native.Mathlib.Omega.{arith}
use Rattle.latex2mathml.proofs.replace.lay_body.Goals as goal

pub returns-in_err-nodes : goal.returns-in_err-nodes
returns-in_err-nodes c =
    let p = err_from_is_err_and c.from_residual.result c.from_residual.ensures.1 in
    rw (p.1, p.2) (body_refused c.args.manner c.args.s.now c.args.display (length c.args.store.now) c.in_err-nodes.ensures, refl)

pub put_math-requires : goal.put_math-requires
put_math-requires c =
    (few_nodes c.args.manner (length c.args.store.now) c.in_ok-nodes.ensures, show_sure c.args.manner (length c.args.store.now) c.in_ok-nodes.ensures c.args.display c.args.sure c.args.out.now c.args.at c.requires c.if-sure.true)

pub returns-then-sure : goal.returns-then-sure
returns-then-sure c =
    lay_sure c.args.manner (length c.args.store.now) c.in_ok-nodes.ensures c.args.display c.args.sure c.args.out.now c.args.at c.requires c.if-sure.true c.put_math.ensures

pub math_len-requires : goal.math_len-requires
math_len-requires c =
    measurable c.args.manner (length c.args.store.now) c.in_ok-nodes.ensures

pub overflow_add-end : goal.overflow_add-end
overflow_add-end c =
    let z = lay_small c.args.manner (length c.args.store.now) c.in_ok-nodes.ensures c.args.display c.args.sure c.args.out.now c.args.at c.requires c.math_len.ensures in
    omega arith

pub returns-then-out-end : goal.returns-then-out-end
returns-then-out-end c =
    lay_beyond c.args.manner (length c.args.store.now) c.in_ok-nodes.ensures c.args.display c.args.sure c.args.out.now c.args.at c.requires c.math_len.ensures refl c.if-out-end.true

pub put_math-requires-2 : goal.put_math-requires-2
put_math-requires-2 c =
    (few_nodes c.args.manner (length c.args.store.now) c.in_ok-nodes.ensures, show_fitting c.args.manner (length c.args.store.now) c.in_ok-nodes.ensures c.args.display c.args.sure c.args.out.now c.args.at c.requires c.math_len.ensures refl c.if-out-end.false)

pub returns : goal.returns
returns c =
    lay_fitting c.args.manner (length c.args.store.now) c.in_ok-nodes.ensures c.args.display c.args.sure c.args.out.now c.args.at c.requires c.math_len.ensures refl c.if-out-end.false c.put_math-2.ensures
