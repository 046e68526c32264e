-- `latex2mathml::replace::second_pass` meets its contract.
use mathlib.Core.Path.{refl, sym, ◌∙◌}
use lib.ListN.{length}
use Rattle.attribute.specs.declared.DisplayStyle.{DisplayStyle}
use Rattle.dollars.specs.declared.Delimiter.TheVariants.{Single}
use Rattle.dollars.specs.Dollars.{mark}
use Rattle.latex2mathml.proofs.ReplaceLaws.{no_mark, plain_even, plain_laid, second_odd, second_is}
use native.Mathlib.Omega.{arith}
use Rattle.latex2mathml.proofs.replace.second_pass.Goals as goal

pub returns-then-is_none : goal.returns-then-is_none
returns-then-is_none c =
    let place = c.lay.ensures.0 in
    (rw (second_is c.args.manner (length c.args.store.now) c.args.text.now (plain_even Single c.args.text.now (no_mark (mark Single) c.args.text.now _ _ c.first_mark.ensures c.is_none.ensures c.if-is_none.true))) (plain_laid c.args.manner (length c.args.store.now) DisplayStyle.Inline Single c.args.text.now (no_mark (mark Single) c.args.text.now _ _ c.first_mark.ensures c.is_none.ensures c.if-is_none.true) c.args.out.now c.lay.new.out c.args.at c.lay.result c.lay.ensures.0 c.lay.ensures.1), omega arith)

pub returns-then-odd_marks : goal.returns-then-odd_marks
returns-then-odd_marks c =
    ((second_odd c.args.manner (length c.args.store.now) c.args.text.now (sym c.odd_marks.ensures ∙ c.if-odd_marks.true), refl), tt)

pub returns : goal.returns
returns c =
    (rw (second_is c.args.manner (length c.args.store.now) c.args.text.now (sym c.odd_marks.ensures ∙ c.if-odd_marks.false)) c.substitute.ensures.0, c.substitute.ensures.1)
