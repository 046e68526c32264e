-- `ast::variant::set_variant` meets its contract.
use mathlib.Core.Path.{refl, sym, ap, ◌∙◌}
use Rattle.ast.specs.Shape.{fields_of, shape_of, role_of}
use Rattle.ast.proofs.VariantLaws.{sets_letter, sets_none, goes_row, goes_next, goes_step, goes_done}
use native.Mathlib.Omega.{arith}
use Rattle.ast.proofs.variant.+set_variant.Goals as goal

pub returns-in-Letter : goal.returns-in-Letter
returns-in-Letter t c =
    let e = ap (λ q. role_of (shape_of (fields_of q))) (sym c.get_record-r.ensures.0) ∙ sym c.from.ensures ∙ c.in-Letter.is in
    sets_letter c.args.store.now _ c.args.i c.args.v e (rw c.from-in-Letter.ensures at c.set_attr.ensures)

pub loop-init : goal.loop-init
loop-init t c =
    let read = c.get_record-r.ensures.0 in
    let e = sym c.in-Row.is ∙ c.from.ensures ∙ ap (λ q. role_of (shape_of (fields_of q))) read in
    (refl, rw read (goes_row c.args.store.now c.args.i c.args.v _ e))

pub set_variant-requires : goal.set_variant-requires
set_variant-requires t c =
    let s = goes_next c.args.store.now c.args.i c.args.v _ _ _ _ c.requires.0 c.loop.invariant.0 c.loop.invariant.1 c.loop-test.true in
    let k = s.1 in
    let b = c.requires.1 in
    (omega arith, (s.0, omega arith))

pub get_next-k-requires : goal.get_next-k-requires
get_next-k-requires t c =
    let s = goes_next c.args.store.now c.args.i c.args.v _ _ _ _ c.requires.0 c.loop.invariant.0 c.loop.invariant.1 c.loop-test.true in
    let k = s.0.fits in
    let m = c.set_variant.auto.store in
    omega arith

pub loop-preserved : goal.loop-preserved
loop-preserved t c =
    let e = c.get_next-k.ensures.0 in (
      c.set_variant.auto.store ∙ c.loop.invariant.0,
      rw e (goes_step c.args.store.now c.args.i c.args.v _ _ _ _ _ c.loop.invariant.1 c.loop-test.true c.set_variant.ensures),
    )

pub returns-after-loop : goal.returns-after-loop
returns-after-loop t c = goes_done c.args.store.now c.args.i c.args.v _ _ _ _ c.loop.invariant.1 c.loop-test.false

pub returns-in_default : goal.returns-in_default
returns-in_default t c =
    let e = c.from.ensures ∙ ap (λ q. role_of (shape_of (fields_of q))) c.get_record-r.ensures.0 in
    sets_none c.args.store.now c.args.i c.args.v _ e c.in_default.not-Letter c.in_default.not-Row
