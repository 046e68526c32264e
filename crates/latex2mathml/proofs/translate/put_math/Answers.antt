-- `latex2mathml::translate::put_math` meets its contract.
use mathlib.Core.Path.{sym, ◌∙◌}
use Rattle.text.specs.Examples.{text_opens}
use Rattle.print.proofs.PieceLaws.{between_front, between_inner, between_back, between_prints}
use Rattle.latex2mathml.proofs.MathLaws.{math_shown, output_able, output_prints}
use Rattle.latex2mathml.proofs.translate.put_math.Goals as goal

pub put_opening-requires : goal.put_opening-requires
put_opening-requires c =
    between_front (math_shown c.args.source.now.dialect c.args.source.now.body.now c.args.display) (output_able c.new-output.result c.new-output.ensures.bytes c.new-output.ensures.place c.requires.1)

pub print_nodes-requires : goal.print_nodes-requires
print_nodes-requires c =
    between_inner (math_shown c.args.source.now.dialect c.args.source.now.body.now c.args.display) (output_able c.new-output.result c.new-output.ensures.bytes c.new-output.ensures.place c.requires.1) c.put_opening.ensures

pub put-requires : goal.put-requires
unfolding text_opens
put-requires c =
    between_back (math_shown c.args.source.now.dialect c.args.source.now.body.now c.args.display) (output_able c.new-output.result c.new-output.ensures.bytes c.new-output.ensures.place c.requires.1) c.put_opening.ensures c.print_nodes.ensures

pub returns : goal.returns
unfolding text_opens
returns c =
    let shown = math_shown c.args.source.now.dialect c.args.source.now.body.now c.args.display in
    let able = output_able c.new-output.result c.new-output.ensures.bytes c.new-output.ensures.place c.requires.1 in
    let p = between_prints shown c.put_opening.ensures c.print_nodes.ensures c.put.ensures in
    let same = (p.all able.what able.there able.room).same ∙ c.new-output.ensures.same in
    rw (c.out-1.given.1.1 (sym same)) (output_prints c.new-output.result c.new-output.ensures.bytes c.new-output.ensures.place p)
