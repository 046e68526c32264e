-- `latex2mathml::replace::write_replacement` meets its contract.
use lib.ListN.{length}
use Rattle.latex2mathml.proofs.ReplaceLaws.{front_long, write_first, write_drafted, write_second, write_done}
use native.Mathlib.Omega.{arith}
use Rattle.latex2mathml.proofs.replace.write_replacement.Goals as goal

pub write_pass-n-requires : goal.write_pass-n-requires
write_pass-n-requires c =
    (write_first c.args.manner c.args.document.now (length c.args.store.now) c.args.work.now c.args.out.now c.args.at c.requires)

pub slice_bounds-write_pass-end : goal.slice_bounds-write_pass-end
slice_bounds-write_pass-end c =
    let dr = write_drafted c.args.manner c.args.document.now (length c.args.store.now) c.args.work.now c.args.out.now c.args.at c.requires c.write_pass-n.new.out c.write_pass-n.result c.write_pass-n.auto.out c.write_pass-n.ensures.0 c.write_pass-n.ensures.1 in
    dr.inside

pub slice_bounds-write_pass-end-2 : goal.slice_bounds-write_pass-end-2
slice_bounds-write_pass-end-2 c =
    let dr = write_drafted c.args.manner c.args.document.now (length c.args.store.now) c.args.work.now c.args.out.now c.args.at c.requires c.write_pass-n.new.out c.write_pass-n.result c.write_pass-n.auto.out c.write_pass-n.ensures.0 c.write_pass-n.ensures.1 in
    front_long c.args.manner c.args.document.now (length c.args.store.now) c.args.work.now _ _ dr

pub write_pass-requires : goal.write_pass-requires
write_pass-requires c =
    let room = c.requires.inside in
    (rw c.write_pass-n.auto.store (write_second c.args.manner c.args.document.now (length c.args.store.now) c.args.work.now c.args.out.now c.args.at c.requires c.write_pass-n.new.out c.write_pass-n.result c.write_pass-n.auto.out c.write_pass-n.ensures.0 c.write_pass-n.ensures.1 (omega arith)))

pub returns : goal.returns
returns c =
    write_done c.args.manner c.args.document.now (length c.args.store.now) c.args.work.now c.args.out.now c.args.at c.requires c.write_pass-n.new.out c.write_pass-n.result c.write_pass-n.auto.out c.write_pass-n.ensures.0 c.write_pass-n.ensures.1 (rw c.write_pass-n.auto.store at c.write_pass.ensures.0)
