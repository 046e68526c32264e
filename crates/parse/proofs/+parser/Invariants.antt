-- The functions of the parser that call one another meet their contracts: the measure is the depth left, then the rank of the function.
use mathlib.Core.Path.{◌≡◌}
use Prim.Native.Nat.{◌+◌, ◌-◌, ◌*◌}
use lib.ListN.{length}
use Rattle.parser.specs.Parse.{parse_node}
use Rattle.parse.proofs.GroupLaws.{GroupLoop}
use Rattle.parse.proofs.+parser.Given as goal

abbrev pub decreases-parse_bare : goal.decreases-parse_bare
decreases-parse_bare l = 4 * l.depth + 3

abbrev pub decreases-parse_begin : goal.decreases-parse_begin
decreases-parse_begin l = 4 * l.depth + 2

abbrev pub decreases-parse_brace : goal.decreases-parse_brace
decreases-parse_brace l = 4 * l.depth + 2

abbrev pub decreases-parse_group : goal.decreases-parse_group
decreases-parse_group l = 4 * l.depth + 1

abbrev pub invariant-parse_group-loop-end : goal.invariant-parse_group-loop-end
invariant-parse_group-loop-end l =
    (length l.store ≡ length l.initial.store) × GroupLoop l.s (λ x. parse_node l.depth l.s x) l.end l.initial.q l.initial.store l.store l.q l.nodes.first l.nodes.last l.nodes.count

abbrev pub decreases-parse_group-loop-end : goal.decreases-parse_group-loop-end
decreases-parse_group-loop-end l =
    length l.s - l.q.cur.start

abbrev pub decreases-parse_left : goal.decreases-parse_left
decreases-parse_left l = 4 * l.depth + 2

abbrev pub decreases-parse_lim : goal.decreases-parse_lim
decreases-parse_lim l = 4 * l.depth + 2

abbrev pub decreases-parse_limits : goal.decreases-parse_limits
decreases-parse_limits l = 4 * l.depth + 2

abbrev pub decreases-parse_middle : goal.decreases-parse_middle
decreases-parse_middle l = 4 * l.depth + 2

abbrev pub decreases-parse_node : goal.decreases-parse_node
decreases-parse_node l = 4 * l.depth

abbrev pub decreases-parse_one : goal.decreases-parse_one
decreases-parse_one l = 4 * l.depth + 2

abbrev pub decreases-parse_single_node : goal.decreases-parse_single_node
decreases-parse_single_node l = 4 * l.depth

abbrev pub decreases-parse_slashed : goal.decreases-parse_slashed
decreases-parse_slashed l = 4 * l.depth + 2

abbrev pub decreases-parse_sqrt : goal.decreases-parse_sqrt
decreases-parse_sqrt l = 4 * l.depth + 2

abbrev pub decreases-parse_style : goal.decreases-parse_style
decreases-parse_style l = 4 * l.depth + 2

abbrev pub decreases-parse_two : goal.decreases-parse_two
decreases-parse_two l = 4 * l.depth + 2

abbrev pub decreases-scripts : goal.decreases-scripts
decreases-scripts l = 4 * l.depth + 2

abbrev pub decreases-second : goal.decreases-second
decreases-second l = 4 * l.depth + 1
