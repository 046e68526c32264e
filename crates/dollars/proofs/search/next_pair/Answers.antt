use mathlib.Core.Path.{◌≡◌, refl, sym, ◌∙◌}
use mathlib.Core.Bool.{false}
use Prim.Native.Nat.{◌+◌}
use native.Mathlib.Omega.{arith}
use lib.ListN.{drop}
use Rattle.dollars.specs.Search.{starts_with}
use Rattle.dollars.proofs.SearchLaws.{second_is, second_not, second_none, pair_here, pair_more, pair_none}
use Rattle.dollars.proofs.search.next_pair.Goals as goal
use Rattle.dollars.proofs.search.next_pair.Goals.{in_default-2-via-then-s-first-lt2, in_default-2-via-in-len2-up+else-second-b}

pub returns-in-len2-up : goal.returns-in-len2-up
returns-in-len2-up c =
    let a = c.args in
    let l = c.loop-first in
    let d = c.in-Some.ensures in
    let second = second_is a.b a.s.now _ c.in-len2-up.len_at_least c.if-second-b.true in
    ((sym (l.invariant.0 ∙ pair_here a.b a.s.now l.i _ l.invariant.2 d.0.0 d.1 second), omega arith, omega arith), d.1)

pub loop-first-preserved : goal.loop-first-preserved
loop-first-preserved c =
    let a = c.args in
    let l = c.loop-first in
    let d = c.in-Some.ensures in
    let other : starts_with a.b (drop (c.in-Some.first + 1) a.s.now) ≡ false =
    elim c.in_default-2.branch [
      | in_default-2-via-then-s-first-lt2 w ↦ second_none a.b a.s.now c.in-Some.first (grind arith)
      | in_default-2-via-in-len2-up+else-second-b w ↦ second_not a.b a.s.now c.in-Some.first w.in-len2-up.len_at_least w.if-second-b.false
    ] in
    (l.invariant.0 ∙ pair_more a.b a.s.now l.i _ l.invariant.2 d.0.0 d.1 other, omega arith, omega arith)

pub returns : goal.returns
returns c =
    let a = c.args in
    let l = c.loop-first in
    l.invariant.0 ∙ pair_none a.b a.s.now l.i _ l.invariant.2 (sym c.in_default.ensures) refl
