use Rattle.text.specs.Examples.{text_opens}
use Rattle.ast.specs.declared.Shape.{Shape}
use Rattle.markup.specs.Print.{print}
use Rattle.print.specs.Shown.{shown}
use Rattle.print.proofs.PieceLaws.{able_like, prints_like, between_front, between_inner, between_back, between_prints}
use Rattle.print.proofs.ShownLaws.{one_shown, two_shown, three_shown, row_shown, matrix_shown}
use Rattle.print.proofs.PartsLaws.{two_first, two_second, two_done, three_first, three_others, three_done}
use Rattle.print.proofs.TreeLaws.{of_kind}
use Rattle.print.proofs.RowLaws.{going_node, going_next, going_done}
use native.Mathlib.Omega.{arith}
use Rattle.print.proofs.Source.+printer.Goals as goal

pub print_matrix-put_front_matrix-requires : goal.print_matrix-put_front_matrix-requires
print_matrix-put_front_matrix-requires t c =
    between_front (matrix_shown c.args.self.now.dialect c.args.self.now.body.now c.args.align) c.requires

pub print_matrix-print_nodes-requires : goal.print_matrix-print_nodes-requires
print_matrix-print_nodes-requires t c =
    let pre = c.requires in
    (omega arith, between_inner (matrix_shown c.args.self.now.dialect c.args.self.now.body.now c.args.align) pre c.put_front_matrix.ensures)

pub print_matrix-put-requires : goal.print_matrix-put-requires
unfolding text_opens
print_matrix-put-requires t c =
    between_back (matrix_shown c.args.self.now.dialect c.args.self.now.body.now c.args.align) c.requires c.put_front_matrix.ensures c.print_nodes.ensures

pub print_matrix-returns : goal.print_matrix-returns
unfolding text_opens
print_matrix-returns t c =
    between_prints (matrix_shown c.args.self.now.dialect c.args.self.now.body.now c.args.align) c.put_front_matrix.ensures c.print_nodes.ensures c.put.ensures

pub print_node-put_leaf-requires : goal.print_node-put_leaf-requires
unfolding shown print
print_node-put_leaf-requires t c =
    let p = able_like (of_kind c.args.self.now.dialect c.args.place (Shape.Leaf _) c.get_record-r.ensures.0 c.from.ensures c.in-Leaf.is) c.requires in
    (p.there, p.room)

pub print_node-print_one-requires : goal.print_node-print_one-requires
print_node-print_one-requires t c =
    let pre = c.requires in
    (omega arith, able_like (of_kind c.args.self.now.dialect c.args.place (Shape.One _) c.get_record-r.ensures.0 c.from.ensures c.in-One.is) pre)

pub print_node-print_two-requires : goal.print_node-print_two-requires
print_node-print_two-requires t c =
    let pre = c.requires in
    (omega arith, able_like (of_kind c.args.self.now.dialect c.args.place (Shape.Two _) c.get_record-r.ensures.0 c.from.ensures c.in-Two.is) pre)

pub print_node-print_three-requires : goal.print_node-print_three-requires
print_node-print_three-requires t c =
    let pre = c.requires in
    (omega arith, able_like (of_kind c.args.self.now.dialect c.args.place (Shape.Three _) c.get_record-r.ensures.0 c.from.ensures c.in-Three.is) pre)

pub print_node-print_row-requires : goal.print_node-print_row-requires
print_node-print_row-requires t c =
    let pre = c.requires in
    (omega arith, able_like (of_kind c.args.self.now.dialect c.args.place (Shape.Row _) c.get_record-r.ensures.0 c.from.ensures c.in-Row.is) pre)

pub print_node-print_matrix-requires : goal.print_node-print_matrix-requires
print_node-print_matrix-requires t c =
    let pre = c.requires in
    (omega arith, able_like (of_kind c.args.self.now.dialect c.args.place (Shape.Matrix _ _) c.get_record-r.ensures.0 c.from.ensures c.in-Matrix.is) pre)

pub print_node-returns-in-Leaf : goal.print_node-returns-in-Leaf
unfolding shown print
print_node-returns-in-Leaf t c =
    prints_like (of_kind c.args.self.now.dialect c.args.place (Shape.Leaf _) c.get_record-r.ensures.0 c.from.ensures c.in-Leaf.is) (record { all = λ t h room. c.put_leaf.ensures })

pub print_node-returns-in-One : goal.print_node-returns-in-One
print_node-returns-in-One t c =
    prints_like (of_kind c.args.self.now.dialect c.args.place (Shape.One _) c.get_record-r.ensures.0 c.from.ensures c.in-One.is) c.print_one.ensures

pub print_node-returns-in-Two : goal.print_node-returns-in-Two
print_node-returns-in-Two t c =
    prints_like (of_kind c.args.self.now.dialect c.args.place (Shape.Two _) c.get_record-r.ensures.0 c.from.ensures c.in-Two.is) c.print_two.ensures

pub print_node-returns-in-Three : goal.print_node-returns-in-Three
print_node-returns-in-Three t c =
    prints_like (of_kind c.args.self.now.dialect c.args.place (Shape.Three _) c.get_record-r.ensures.0 c.from.ensures c.in-Three.is) c.print_three.ensures

pub print_node-returns-in-Row : goal.print_node-returns-in-Row
print_node-returns-in-Row t c =
    prints_like (of_kind c.args.self.now.dialect c.args.place (Shape.Row _) c.get_record-r.ensures.0 c.from.ensures c.in-Row.is) c.print_row.ensures

pub print_node-returns-in-Matrix : goal.print_node-returns-in-Matrix
print_node-returns-in-Matrix t c =
    prints_like (of_kind c.args.self.now.dialect c.args.place (Shape.Matrix _ _) c.get_record-r.ensures.0 c.from.ensures c.in-Matrix.is) c.print_matrix.ensures

pub print_nodes-print_node-requires : goal.print_nodes-print_node-requires
print_nodes-print_node-requires t c =
    let some = c.loop-test.true in
    (omega arith, going_node c.loop.invariant (omega arith))

pub print_nodes-get_next-i-requires : goal.print_nodes-get_next-i-requires
print_nodes-get_next-i-requires t c =
    let some = c.loop-test.true in
    (going_node c.loop.invariant (omega arith)).there.fits

pub print_nodes-loop-preserved : goal.print_nodes-loop-preserved
print_nodes-loop-preserved t c =
    let some = c.loop-test.true in
    rw c.get_next-i.ensures.0 (going_next c.loop.invariant (omega arith) c.print_node.ensures)

pub print_nodes-returns : goal.print_nodes-returns
print_nodes-returns t c =
    let all = c.loop-test.false in
    going_done c.loop.invariant (omega arith)

pub print_one-put_front_one-requires : goal.print_one-put_front_one-requires
print_one-put_front_one-requires t c =
    between_front (one_shown c.args.self.now.dialect c.args.self.now.body.now c.args.k) c.requires

pub print_one-print_node-requires : goal.print_one-print_node-requires
print_one-print_node-requires t c =
    let pre = c.requires in
    (omega arith, rw c.place_of.ensures (between_inner (one_shown c.args.self.now.dialect c.args.self.now.body.now c.args.k) pre c.put_front_one.ensures))

pub print_one-put_back_one-requires : goal.print_one-put_back_one-requires
print_one-put_back_one-requires t c =
    between_back (one_shown c.args.self.now.dialect c.args.self.now.body.now c.args.k) c.requires c.put_front_one.ensures (rw c.place_of.ensures at c.print_node.ensures)

pub print_one-returns : goal.print_one-returns
print_one-returns t c =
    between_prints (one_shown c.args.self.now.dialect c.args.self.now.body.now c.args.k) c.put_front_one.ensures (rw c.place_of.ensures at c.print_node.ensures) c.put_back_one.ensures

pub print_row-put-requires : goal.print_row-put-requires
unfolding text_opens
print_row-put-requires t c =
    between_front (row_shown c.args.self.now.dialect c.args.self.now.body.now) c.requires

pub print_row-print_nodes-requires : goal.print_row-print_nodes-requires
unfolding text_opens
print_row-print_nodes-requires t c =
    let pre = c.requires in
    (omega arith, between_inner (row_shown c.args.self.now.dialect c.args.self.now.body.now) pre c.put.ensures)

pub print_row-put-requires-2 : goal.print_row-put-requires-2
unfolding text_opens
print_row-put-requires-2 t c =
    between_back (row_shown c.args.self.now.dialect c.args.self.now.body.now) c.requires c.put.ensures c.print_nodes.ensures

pub print_row-returns : goal.print_row-returns
unfolding text_opens
print_row-returns t c =
    between_prints (row_shown c.args.self.now.dialect c.args.self.now.body.now) c.put.ensures c.print_nodes.ensures c.put-2.ensures

pub print_three-put-requires : goal.print_three-put-requires
print_three-put-requires t c =
    rw c.front_three.ensures (between_front (three_shown c.args.self.now.dialect c.args.self.now.body.now c.args.k) c.requires)

pub print_three-print_node-requires : goal.print_three-print_node-requires
print_three-print_node-requires t c =
    let pre = c.requires in
    (omega arith, three_first c.args.self.now.dialect (between_inner (three_shown c.args.self.now.dialect c.args.self.now.body.now c.args.k) pre (rw c.front_three.ensures at c.put.ensures)))

pub print_three-print_node-requires-2 : goal.print_three-print_node-requires-2
print_three-print_node-requires-2 t c =
    let pre = c.requires in
    let others = three_others c.args.self.now.dialect (between_inner (three_shown c.args.self.now.dialect c.args.self.now.body.now c.args.k) pre (rw c.front_three.ensures at c.put.ensures)) c.print_node.ensures in
    (omega arith, two_first c.args.self.now.dialect others)

pub print_three-print_node-requires-3 : goal.print_three-print_node-requires-3
print_three-print_node-requires-3 t c =
    let pre = c.requires in
    let others = three_others c.args.self.now.dialect (between_inner (three_shown c.args.self.now.dialect c.args.self.now.body.now c.args.k) pre (rw c.front_three.ensures at c.put.ensures)) c.print_node.ensures in
    (omega arith, two_second c.args.self.now.dialect others c.print_node-2.ensures)

pub print_three-put-requires-2 : goal.print_three-put-requires-2
print_three-put-requires-2 t c =
    rw c.back_three.ensures (between_back (three_shown c.args.self.now.dialect c.args.self.now.body.now c.args.k) c.requires (rw c.front_three.ensures at c.put.ensures) (three_done c.args.self.now.dialect c.print_node.ensures c.print_node-2.ensures c.print_node-3.ensures))

pub print_three-returns : goal.print_three-returns
print_three-returns t c =
    between_prints (three_shown c.args.self.now.dialect c.args.self.now.body.now c.args.k) (rw c.front_three.ensures at c.put.ensures) (three_done c.args.self.now.dialect c.print_node.ensures c.print_node-2.ensures c.print_node-3.ensures) (rw c.back_three.ensures at c.put-2.ensures)

pub print_two-put-requires : goal.print_two-put-requires
print_two-put-requires t c =
    rw c.front_two.ensures (between_front (two_shown c.args.self.now.dialect c.args.self.now.body.now c.args.k) c.requires)

pub print_two-print_node-requires : goal.print_two-print_node-requires
print_two-print_node-requires t c =
    let pre = c.requires in
    (omega arith, two_first c.args.self.now.dialect (between_inner (two_shown c.args.self.now.dialect c.args.self.now.body.now c.args.k) pre (rw c.front_two.ensures at c.put.ensures)))

pub print_two-print_node-requires-2 : goal.print_two-print_node-requires-2
print_two-print_node-requires-2 t c =
    let pre = c.requires in
    (omega arith, two_second c.args.self.now.dialect (between_inner (two_shown c.args.self.now.dialect c.args.self.now.body.now c.args.k) pre (rw c.front_two.ensures at c.put.ensures)) c.print_node.ensures)

pub print_two-put-requires-2 : goal.print_two-put-requires-2
print_two-put-requires-2 t c =
    rw c.back_two.ensures (between_back (two_shown c.args.self.now.dialect c.args.self.now.body.now c.args.k) c.requires (rw c.front_two.ensures at c.put.ensures) (two_done c.args.self.now.dialect c.print_node.ensures c.print_node-2.ensures))

pub print_two-returns : goal.print_two-returns
print_two-returns t c =
    between_prints (two_shown c.args.self.now.dialect c.args.self.now.body.now c.args.k) (rw c.front_two.ensures at c.put.ensures) (two_done c.args.self.now.dialect c.print_node.ensures c.print_node-2.ensures) (rw c.back_two.ensures at c.put-2.ensures)
