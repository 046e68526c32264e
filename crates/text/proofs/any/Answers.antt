use mathlib.Core.Path.{sym, ◌∙◌}
use Rattle.text.proofs.AnyLaws.{any_here, any_more, any_end}
use Rattle.text.proofs.any.Goals as goal
use Rattle.text.proofs.any.Goals.{then-passes, else-passes}

pub loop-b-preserved : goal.loop-b-preserved
loop-b-preserved g c =
    let s = c.args.s.now in
    let l = c.loop-b in
    let inside = c.loop-b-test.true in
    λ test is. l.invariant test is ∙ elim c.if-passes.branch [
      | then-passes x ↦ rw x.found-is (any_here test s l.b-index l.found inside (sym (is _ _ x.if-passes.ensures)))
      | else-passes x ↦ rw x.found-is (any_more test s l.b-index l.found inside (sym (is _ _ x.if-passes.ensures)))
    ]

pub returns : goal.returns
returns g c =
    let l = c.loop-b in
    λ test is. sym (l.invariant test is ∙ any_end test c.args.s.now l.b-index l.found c.loop-b-test.false)
