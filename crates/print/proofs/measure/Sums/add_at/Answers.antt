-- `print::measure::Sums::add_at` meets its contract.
use mathlib.Core.Path.{sym, ◌∙◌}
use Rattle.print.proofs.MeasureLaws.{same_dropped, same_slashed, step_dropped, step_inside, step_small, step_plain, step_chain, ampersands_small, lines_small, step_matrix}
use native.Mathlib.Omega.{arith}
use Rattle.print.proofs.measure.Sums.add_at.Goals as goal

pub returns-then-eq : goal.returns-then-eq
returns-then-eq c =
    step_dropped c.requires.0 c.requires.1 c.requires.2 c.fate_at-fate.ensures (sym (same_dropped c.fate_at-fate.result) ∙ sym c.eq.ensures ∙ c.if-eq.true)

pub own_len-requires : goal.own_len-requires
own_len-requires c =
    (step_inside c.requires.0 c.requires.1 c.requires.2 c.fate_at-fate.ensures (sym (same_dropped c.fate_at-fate.result) ∙ sym c.eq.ensures ∙ c.if-eq.false) c.get_record-r.ensures.0 c.from-f.ensures, c.requires.0.short)

pub overflow_add-self : goal.overflow_add-self
overflow_add-self c =
    let z = step_small c.requires.0 c.requires.1 c.requires.2 c.fate_at-fate.ensures (sym (same_dropped c.fate_at-fate.result) ∙ sym c.eq.ensures ∙ c.if-eq.false) c.get_record-r.ensures.0 c.from-f.ensures (rw (c.eq-2.ensures ∙ same_slashed c.fate_at-fate.result) at c.own_len.ensures) in
    omega arith

pub returns-then-not-is_matrix : goal.returns-then-not-is_matrix
returns-then-not-is_matrix c =
    step_plain c.requires.0 c.requires.1 c.requires.2 c.fate_at-fate.ensures (sym (same_dropped c.fate_at-fate.result) ∙ sym c.eq.ensures ∙ c.if-eq.false) c.get_record-r.ensures.0 c.from-f.ensures (sym c.is_matrix.ensures ∙ c.if-not-is_matrix.true) (rw (c.eq-2.ensures ∙ same_slashed c.fate_at-fate.result) at c.own_len.ensures) c.own_errors.ensures

pub marks-m-requires : goal.marks-m-requires
marks-m-requires c =
    step_chain c.requires.0 c.requires.1 c.requires.2 c.fate_at-fate.ensures (sym (same_dropped c.fate_at-fate.result) ∙ sym c.eq.ensures ∙ c.if-eq.false) c.get_record-r.ensures.0 c.from-f.ensures (sym c.is_matrix.ensures ∙ c.if-not-is_matrix.false)

pub overflow_add-self-3 : goal.overflow_add-self-3
overflow_add-self-3 c =
    let z = ampersands_small c.requires.0 c.requires.1 c.requires.2 c.fate_at-fate.ensures (sym (same_dropped c.fate_at-fate.result) ∙ sym c.eq.ensures ∙ c.if-eq.false) c.get_record-r.ensures.0 c.from-f.ensures (sym c.is_matrix.ensures ∙ c.if-not-is_matrix.false) c.marks-m.ensures.0 in
    omega arith

pub overflow_add-self-4 : goal.overflow_add-self-4
overflow_add-self-4 c =
    let z = lines_small c.requires.0 c.requires.1 c.requires.2 c.fate_at-fate.ensures (sym (same_dropped c.fate_at-fate.result) ∙ sym c.eq.ensures ∙ c.if-eq.false) c.get_record-r.ensures.0 c.from-f.ensures (sym c.is_matrix.ensures ∙ c.if-not-is_matrix.false) c.marks-m.ensures.1 in
    omega arith

pub returns : goal.returns
returns c =
    step_matrix c.requires.0 c.requires.1 c.requires.2 c.fate_at-fate.ensures (sym (same_dropped c.fate_at-fate.result) ∙ sym c.eq.ensures ∙ c.if-eq.false) c.get_record-r.ensures.0 c.from-f.ensures (sym c.is_matrix.ensures ∙ c.if-not-is_matrix.false) (rw (c.eq-2.ensures ∙ same_slashed c.fate_at-fate.result) at c.own_len.ensures) c.own_errors.ensures c.marks-m.ensures.0 c.marks-m.ensures.1
