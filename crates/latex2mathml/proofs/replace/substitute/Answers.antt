-- `latex2mathml::replace::substitute` meets its contract.
use mathlib.Core.Path.{refl, sym, ◌∙◌}
use lib.ListN.{length}
use Rattle.std.proofs.lemmas.Result.{err_from_is_err_and}
use Rattle.latex2mathml.specs.Laid.{display_of}
use Rattle.dollars.proofs.DollarLaws.{mark_inside, pair_next}
use Rattle.latex2mathml.proofs.PassLaws.{second_some, passing_none, passing_all, body_room, passing_refused, passing_more}
use Rattle.latex2mathml.proofs.replace.substitute.Goals as goal

pub loop-a-init : goal.loop-a-init
loop-a-init c =
    (passing_none c.args.manner (length c.args.store.now) (display_of c.args.delimiter) c.args.delimiter c.args.s.now c.width-width.result c.args.out.now c.args.start c.width-width.ensures c.requires.even, refl)

pub next_mark-requires-in-Some : goal.next_mark-requires-in-Some
next_mark-requires-in-Some c =
    mark_inside c.args.delimiter c.args.s.now c.requires.apart c.width-width.result c.width-width.ensures c.loop-a.from c.in-Some.a c.loop-a.invariant.0.inside c.in-Some.ensures.0.0 c.in-Some.ensures.1

pub unwrap-b-requires : goal.unwrap-b-requires
unwrap-b-requires c =
    second_some c.args.delimiter c.args.s.now c.requires.apart c.width-width.result c.width-width.ensures c.loop-a.from c.in-Some.a c.loop-a.invariant.0.inside c.loop-a.invariant.0.even c.in-Some.ensures.0.0 c.in-Some.ensures.1 _ c.next_mark-in-Some.ensures

pub lay_body-requires : goal.lay_body-requires
lay_body-requires c =
    let p = pair_next c.args.delimiter c.args.s.now c.requires.apart c.width-width.result c.width-width.ensures c.loop-a.from c.in-Some.a c.unwrap-b.result c.loop-a.invariant.0.inside c.loop-a.invariant.0.even c.in-Some.ensures.0.0 c.in-Some.ensures.1 (rw c.unwrap-b.ensures at c.next_mark-in-Some.ensures).0.0 in
    rw (c.loop-a.invariant.1, c.display_of-display.ensures) (body_room c.args.manner (length c.args.store.now) (display_of c.args.delimiter) c.args.delimiter c.args.s.now c.width-width.result c.requires.small c.loop-a.invariant.0 c.in-Some.a c.unwrap-b.result p c.lay-at.new.out c.lay-at.result c.lay-at.ensures.0 c.lay-at.ensures.1 c.lay-at.auto.out c.args.sure c.requires.fits)

pub returns-in_err-at : goal.returns-in_err-at
returns-in_err-at c =
    let p = pair_next c.args.delimiter c.args.s.now c.requires.apart c.width-width.result c.width-width.ensures c.loop-a.from c.in-Some.a c.unwrap-b.result c.loop-a.invariant.0.inside c.loop-a.invariant.0.even c.in-Some.ensures.0.0 c.in-Some.ensures.1 (rw c.unwrap-b.ensures at c.next_mark-in-Some.ensures).0.0 in
    let r = err_from_is_err_and c.from_residual.result c.from_residual.ensures.1 in
    rw (r.1, r.2)
    (passing_refused c.args.manner (length c.args.store.now) (display_of c.args.delimiter) c.args.delimiter c.args.s.now c.width-width.result c.requires.small c.loop-a.invariant.0 c.in-Some.a c.unwrap-b.result p c.lay-at.new.out c.lay-at.result c.lay-at.ensures.0 c.lay-at.ensures.1 c.lay-at.auto.out c.lay_body.new.out c.in_err-at.field-0.0 (rw (c.loop-a.invariant.1, c.display_of-display.ensures) at c.in_err-at.ensures))

pub loop-a-preserved : goal.loop-a-preserved
loop-a-preserved c =
    let p = pair_next c.args.delimiter c.args.s.now c.requires.apart c.width-width.result c.width-width.ensures c.loop-a.from c.in-Some.a c.unwrap-b.result c.loop-a.invariant.0.inside c.loop-a.invariant.0.even c.in-Some.ensures.0.0 c.in-Some.ensures.1 (rw c.unwrap-b.ensures at c.next_mark-in-Some.ensures).0.0 in
    (passing_more c.args.manner (length c.args.store.now) (display_of c.args.delimiter) c.args.delimiter c.args.s.now c.width-width.result c.requires.small c.loop-a.invariant.0 c.in-Some.a c.unwrap-b.result p c.lay-at.new.out c.lay-at.result c.lay-at.ensures.0 c.lay-at.ensures.1 c.lay-at.auto.out c.in_ok-at.at c.lay_body.auto.out (rw (c.loop-a.invariant.1, c.display_of-display.ensures) at c.in_ok-at.ensures), c.lay_body.auto.store ∙ c.loop-a.invariant.1)

pub returns : goal.returns
returns c =
    let end = c.in_default.ensures in
    passing_all c.args.manner (length c.args.store.now) (display_of c.args.delimiter) c.args.delimiter c.args.s.now c.width-width.result c.requires.small c.loop-a.invariant.0 c.lay.new.out (sym end) refl c.lay.ensures.0 c.lay.ensures.1 c.lay.auto.out
