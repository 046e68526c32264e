-- `latex2mathml::replace::first_pass` meets its contract.
use mathlib.Core.Path.{refl, sym, ◌∙◌}
use lib.ListN.{length}
use Rattle.std.proofs.lemmas.Result.{err_from_is_err_and}
use Rattle.attribute.specs.declared.DisplayStyle.{DisplayStyle}
use Rattle.dollars.specs.declared.Delimiter.TheVariants.{Double}
use Rattle.dollars.specs.Dollars.{mark}
use Rattle.text.proofs.Cases.{never}
use Rattle.latex2mathml.proofs.TranslateLaws.{check_gives}
use Rattle.latex2mathml.proofs.ReplaceLaws.{no_mark, Checked, plain_checked, plain_laid, plain_large, first_unchecked, first_odd, first_three, first_refused, first_large, first_fits}
use native.Mathlib.Omega.{arith}
use Rattle.latex2mathml.proofs.replace.first_pass.Goals as goal

pub returns-in_err-check : goal.returns-in_err-check
returns-in_err-check c =
    let p = err_from_is_err_and c.from_residual.result c.from_residual.ensures.1 in
    rw (p.1, p.2) ((first_unchecked c.args.manner c.args.document.now (length c.args.store.now) c.args.room c.in_err-check.ensures, refl), tt)

pub returns-then-room-document : goal.returns-then-room-document
returns-then-room-document c =
    let none = no_mark (mark Double) c.args.document.now _ _ c.first_mark.ensures c.is_none.ensures c.if-is_none.true in
    let checked = plain_checked c.args.document.now c.in_ok-check.ensures none in
    ((plain_large c.args.manner c.args.document.now (length c.args.store.now) c.args.room checked none c.if-room-document.true, refl), tt)

pub returns-then-is_none : goal.returns-then-is_none
returns-then-is_none c =
    let checked = plain_checked c.args.document.now c.in_ok-check.ensures (no_mark (mark Double) c.args.document.now _ _ c.first_mark.ensures c.is_none.ensures c.if-is_none.true) in
    let place = c.lay.ensures.0 in
    let room = c.if-room-document.false in
    (first_fits c.args.manner c.args.document.now (length c.args.store.now) c.args.room c.args.out.now c.lay.new.out checked c.lay.result (plain_laid c.args.manner (length c.args.store.now) DisplayStyle.Block Double c.args.document.now (no_mark (mark Double) c.args.document.now _ _ c.first_mark.ensures c.is_none.ensures c.if-is_none.true) c.args.out.now c.lay.new.out 0 c.lay.result c.lay.ensures.0 c.lay.ensures.1) (omega arith), omega arith)

pub returns-then-odd_marks : goal.returns-then-odd_marks
returns-then-odd_marks c =
    ((first_odd c.args.manner c.args.document.now (length c.args.store.now) c.args.room c.in_ok-check.ensures (sym c.odd_marks.ensures ∙ c.if-odd_marks.true), refl), tt)

pub returns-then-three_dollars : goal.returns-then-three_dollars
returns-then-three_dollars c =
    ((first_three c.args.manner c.args.document.now (length c.args.store.now) c.args.room c.in_ok-check.ensures (sym c.odd_marks.ensures ∙ c.if-odd_marks.false) (sym c.three_dollars.ensures ∙ c.if-three_dollars.true), refl), tt)

pub substitute-requires : goal.substitute-requires
substitute-requires c =
    let short = (check_gives 32768 c.args.document.now c.in_ok-check.ensures).0 in
    record {
      small = omega arith;
      even = sym c.odd_marks.ensures ∙ c.if-odd_marks.false;
      apart = λ e. sym c.three_dollars.ensures ∙ c.if-three_dollars.false;
      fits = λ e. never cc;
    }

pub returns-in_err-n : goal.returns-in_err-n
returns-in_err-n c =
    let checked : Checked c.args.document.now = record { passes = c.in_ok-check.ensures; even = sym c.odd_marks.ensures ∙ c.if-odd_marks.false; apart = sym c.three_dollars.ensures ∙ c.if-three_dollars.false } in
    let p = err_from_is_err_and c.from_residual-in_err-n.result c.from_residual-in_err-n.ensures.1 in
    rw (p.1, p.2) (first_refused c.args.manner c.args.document.now (length c.args.store.now) c.args.room c.args.out.now c.substitute.new.out checked c.in_err-n.field-0.0 c.in_err-n.ensures.0, tt)

pub returns-then-room-n : goal.returns-then-room-n
returns-then-room-n c =
    let checked : Checked c.args.document.now = record { passes = c.in_ok-check.ensures; even = sym c.odd_marks.ensures ∙ c.if-odd_marks.false; apart = sym c.three_dollars.ensures ∙ c.if-three_dollars.false } in
    (first_large c.args.manner c.args.document.now (length c.args.store.now) c.args.room c.args.out.now c.substitute.new.out checked c.in_ok-n.n c.in_ok-n.ensures.0 c.if-room-n.true, tt)

pub returns : goal.returns
returns c =
    let checked : Checked c.args.document.now = record { passes = c.in_ok-check.ensures; even = sym c.odd_marks.ensures ∙ c.if-odd_marks.false; apart = sym c.three_dollars.ensures ∙ c.if-three_dollars.false } in
    let most = c.in_ok-n.ensures.1 in
    (first_fits c.args.manner c.args.document.now (length c.args.store.now) c.args.room c.args.out.now c.substitute.new.out checked c.in_ok-n.n c.in_ok-n.ensures.0 c.if-room-n.false, omega arith)
