-- The cycle of calls of the printer: a node hands its parts on with `left` less by one, and all others pass `left` on as it is.
use Prim.Native.Nat.{◌+◌, ◌*◌}
use Rattle.print.proofs.RowLaws.{Going}
use Rattle.print.proofs.Source.+printer.Given as goal

abbrev pub decreases-print_matrix : goal.decreases-print_matrix
decreases-print_matrix l = 3 * l.left + 2

abbrev pub decreases-print_node : goal.decreases-print_node
decreases-print_node l = 3 * l.left

abbrev pub decreases-print_nodes : goal.decreases-print_nodes
decreases-print_nodes l = 3 * l.left + 1

abbrev pub invariant-print_nodes-loop : goal.invariant-print_nodes-loop
invariant-print_nodes-loop l =
    Going l.self.dialect l.self.body.now l.self.store.now l.left l.place l.a l.n l.initial.out l.i l.counter l.out

abbrev pub decreases-print_one : goal.decreases-print_one
decreases-print_one l = 3 * l.left + 1

abbrev pub decreases-print_row : goal.decreases-print_row
decreases-print_row l = 3 * l.left + 2

abbrev pub decreases-print_three : goal.decreases-print_three
decreases-print_three l = 3 * l.left + 1

abbrev pub decreases-print_two : goal.decreases-print_two
decreases-print_two l = 3 * l.left + 1
