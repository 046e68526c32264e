-- `latex2mathml::translate::latex_to_mathml` meets its contract.
use mathlib.Core.Path.{refl}
use lib.ListN.{length}
use Rattle.std.proofs.lemmas.Result.{err_from_is_err_and}
use Rattle.latex2mathml.proofs.TranslateLaws.{check_refused, body_no, gives_nothing}
use Rattle.latex2mathml.proofs.BodyLaws.{measurable, few_nodes, able_write, too_large, written}
use Rattle.latex2mathml.proofs.translate.latex_to_mathml.Goals as goal

pub returns-in_err-check : goal.returns-in_err-check
returns-in_err-check c =
    let p = err_from_is_err_and c.from_residual.result c.from_residual.ensures.1 in
    rw (p.1, p.2) (gives_nothing c.args.out.now (check_refused c.args.manner c.args.s.now c.args.display (length c.args.store.now) (length c.args.out.now) c.in_err-check.ensures), refl)

pub returns-in_err-nodes : goal.returns-in_err-nodes
returns-in_err-nodes c =
    let p = err_from_is_err_and c.from_residual-in_err-nodes.result c.from_residual-in_err-nodes.ensures.1 in
    rw (p.1, p.2) (gives_nothing c.args.out.now (body_no c.args.manner c.args.s.now c.args.display (length c.args.store.now) (length c.args.out.now) c.in_ok-check.ensures c.in_err-nodes.ensures), c.read_nodes.auto.store)

pub math_len-length-requires : goal.math_len-length-requires
math_len-length-requires c = measurable c.args.manner (length c.args.store.now) c.in_ok-nodes.ensures

pub returns-then-out-length : goal.returns-then-out-length
returns-then-out-length c =
    (too_large c.args.manner (length c.args.store.now) c.in_ok-nodes.ensures c.args.display c.math_len-length.ensures c.in_ok-check.ensures c.if-out-length.true, c.read_nodes.auto.store)

pub put_math-requires : goal.put_math-requires
put_math-requires c =
    (few_nodes c.args.manner (length c.args.store.now) c.in_ok-nodes.ensures, able_write c.args.manner (length c.args.store.now) c.in_ok-nodes.ensures c.args.display c.math_len-length.ensures c.args.out.now c.if-out-length.false)

pub returns : goal.returns
returns c =
    (written c.args.manner (length c.args.store.now) c.in_ok-nodes.ensures c.args.display c.math_len-length.ensures c.in_ok-check.ensures c.if-out-length.false c.put_math.ensures, c.read_nodes.auto.store)
