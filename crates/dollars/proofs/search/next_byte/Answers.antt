use mathlib.Core.Path.{sym, ◌∙◌}
use native.Mathlib.Omega.{arith}
use Rattle.dollars.specs.Search.{starts_with}
use Rattle.dollars.proofs.PlaceLaws.{next_here, next_more, next_end}
use Rattle.dollars.proofs.SearchLaws.{starts_is, starts_not}
use Rattle.dollars.proofs.search.next_byte.Goals as goal

pub returns-then-s-i : goal.returns-then-s-i
returns-then-s-i c =
    let a = c.args in
    let l = c.loop-i in
    let inside = c.loop-i-test.true in
    ((sym (l.invariant ∙ next_here (starts_with a.b) a.s.now l.i inside (starts_is a.b a.s.now l.i inside c.if-s-i.true)), omega arith, omega arith), inside)

pub loop-i-preserved : goal.loop-i-preserved
loop-i-preserved c =
    let a = c.args in
    let l = c.loop-i in
    let inside = c.loop-i-test.true in
    l.invariant ∙ next_more (starts_with a.b) a.s.now l.i inside (starts_not a.b a.s.now l.i inside c.if-s-i.false)

pub returns : goal.returns
returns c =
    let a = c.args in
    let l = c.loop-i in
    l.invariant ∙ next_end (starts_with a.b) a.s.now l.i c.loop-i-test.false ∙ omega arith
