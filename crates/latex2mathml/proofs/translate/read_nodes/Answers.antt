-- `latex2mathml::translate::read_nodes` meets its contract.
use mathlib.Core.Path.{sym, ◌∙◌}
use lib.ListN.{length}
use Rattle.std.proofs.lemmas.Result.{err_from_is_err_and}
use Rattle.latex2mathml.proofs.TranslateLaws.{read_refused, read_forbidden, read_stored}
use Rattle.latex2mathml.proofs.translate.read_nodes.Goals as goal

pub returns-in_err-nodes : goal.returns-in_err-nodes
returns-in_err-nodes c =
    let p = err_from_is_err_and c.from_residual.result c.from_residual.ensures.1 in
    rw (p.1, p.2) (read_refused c.args.manner c.args.s.now (length c.args.store.now) c.in_err-nodes.ensures)

pub returns-then-refuses : goal.returns-then-refuses
returns-then-refuses c =
    read_forbidden c.args.manner c.args.s.now (length c.args.store.now) c.in_ok-nodes.ensures (sym c.refuses.ensures ∙ c.if-refuses.true)

pub returns : goal.returns
returns c =
    read_stored c.args.manner c.args.s.now (length c.args.store.now) c.in_ok-nodes.ensures (sym c.refuses.ensures ∙ c.if-refuses.false)
