-- `latex2mathml::replace::replace_prose` meets its contract.
use Rattle.latex2mathml.proofs.ProseLaws.{prose_long, prose_large, prose_full, prose_replaced}
use Rattle.latex2mathml.proofs.replace.replace_prose.Goals as goal

pub returns-then-document-gt32768 : goal.returns-then-document-gt32768
returns-then-document-gt32768 c =
    λ manner store. prose_long manner c.args.document.now store c.args.work.now c.args.out.now c.requires c.if-document-gt32768.true

pub returns-then-work-document : goal.returns-then-work-document
returns-then-work-document c =
    λ manner store. prose_large manner c.args.document.now store c.args.work.now c.args.out.now c.requires c.if-document-gt32768.false c.if-work-document.true

pub returns-then-out-document : goal.returns-then-out-document
returns-then-out-document c =
    λ manner store. prose_full manner c.args.document.now store c.args.work.now c.args.out.now c.requires c.if-document-gt32768.false c.if-work-document.false c.put.ensures c.if-out-document.true

pub returns : goal.returns
returns c =
    λ manner store. prose_replaced manner c.args.document.now store c.args.work.now c.args.out.now c.requires c.if-document-gt32768.false c.if-work-document.false c.put.ensures c.if-out-document.false c.put-2.ensures
