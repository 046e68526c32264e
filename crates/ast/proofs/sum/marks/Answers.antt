-- `ast::sum::marks` meets its contract.
use Rattle.ast.proofs.CellLaws.{adding_fits, adding_more, adding_all, ampersand_tag, line_tag}
use Rattle.ast.proofs.sum.marks.Goals as goal

pub get_record-r-requires : goal.get_record-r-requires
get_record-r-requires c = adding_fits c.loop.invariant.0 c.loop-test.true

pub loop-preserved : goal.loop-preserved
loop-preserved c =
    let r = c.get_record-r.result in
    let read = c.get_record-r.ensures.0 in (
      adding_more _ c.loop.invariant.0 c.loop-test.true read c.from.ensures (ampersand_tag r.tag r.attr r.x r.y),
      adding_more _ c.loop.invariant.1 c.loop-test.true read c.from-in-loop.ensures (line_tag r.tag r.attr r.x r.y),
    )

pub returns : goal.returns
returns c = (adding_all c.loop.invariant.0 c.loop-test.false, adding_all c.loop.invariant.1 c.loop-test.false)
