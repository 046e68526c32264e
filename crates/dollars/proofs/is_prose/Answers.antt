use mathlib.Core.Path.{◌∙◌}
use lib.Dec.{eqb}
use Rattle.text.proofs.AnyLaws.{any_end}
use Rattle.dollars.specs.Dollars.{unusual}
use Rattle.dollars.proofs.DollarLaws.{any_next, prose_flags}
use Rattle.dollars.proofs.is_prose.Goals as goal

pub loop-b-preserved : goal.loop-b-preserved
loop-b-preserved c =
    let s = c.args.s.now in
    let l = c.loop-b in
    let inside = c.loop-b-test.true in
    (rw c.is_unusual-unusual.ensures (l.invariant.0 ∙ any_next unusual s l.b-index l.unusual inside), l.invariant.1 ∙ any_next (λ b. eqb b 36) s l.b-index l.dollar inside)

pub returns : goal.returns
returns c =
    let s = c.args.s.now in
    let l = c.loop-b in
    let end = c.loop-b-test.false in
    prose_flags s l.unusual l.dollar (l.invariant.0 ∙ any_end unusual s l.b-index l.unusual end) (l.invariant.1 ∙ any_end (λ b. eqb b 36) s l.b-index l.dollar end)
