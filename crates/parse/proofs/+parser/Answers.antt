use mathlib.Core.Path.{refl, sym, ap, ◌∙◌}
use Prim.Native.Nat.{◌-◌}
use lib.ListN.{length}
use Rattle.token.specs.declared.Mark.{Mark}
use Rattle.text.proofs.Cases.{never}
use Rattle.parser.specs.Parse.{parse_bare, refused, opened, in_environment}
use Rattle.parser.specs.Marks.{other_limit}
use Rattle.parser.proofs.AnswerLaws.{handed_on, none_or}
use Rattle.parser.proofs.BodyLaws.{node_keeps, single_keeps}
use Rattle.parser.proofs.MarkLaws.{one_mark}
use Rattle.parser.proofs.MoveLaws.{text_sound}
use Rattle.parse.proofs.RoomLaws.{may_next, begins, starts_ready, ready_starts, ready_ends, ends_next, starts_next, ends_mark, ends_script, starts_text, ends_free, starts_free, node_ends, group_ends, ready_node, ready_free, prime_free, next_made, text_made, bare_keeps}
use Rattle.parse.proofs.SeqLaws.{below, after_none, plain_leaf, leaf_before, after_one, first_below, after_two, after_behind, after_two_swapped, old_below, beside_one, beside_two, as_two, left_alone, after_prime, after_set, bare_as}
use Rattle.parse.proofs.LeafLaws.{bare_leaf, alone_is, alone_script, leaf_placed}
use Rattle.parse.proofs.LoopLaws.{loops_none, loops_ready, loops_few, loops_free, more_ends, more_push, more_less}
use Rattle.parse.proofs.GroupLaws.{group_end, group_refused, group_closed, group_turns}
use Rattle.parse.proofs.WayLaws.{one_no, one_is, style_no, style_is, middle_no, middle_is, two_no, two_no_2, two_is, brace_no, brace_bare, brace_no_2, brace_is, sqrt_no, sqrt_is, root_no, root_no_2, root_is, slashed_no, slashed_is, left_no, left_no_2, left_is, begin_no, begin_is, node_no, node_is, scripts_none, scripts_no, scripts_is, second_none, second_again, second_no, second_is, limits_alone, limits_no, limit_is, limits_no_2, limits_is, lim_alone, lim_no, lim_is, node_few, single_zero, node_more, single_more, bare_no, bare_is, group_is, other_byte}
use native.Mathlib.Omega.{arith}
use Rattle.parse.proofs.+parser.Goals as goal

pub parse_bare-make_leaf-requires : goal.parse_bare-make_leaf-requires
parse_bare-make_leaf-requires t c =
    (ready_free c.requires, rw c.leaf_of.ensures (leaf_placed (length c.args.s.now) _ c.requires.long c.requires.sound.cur.places))

pub parse_bare-returns-in-Sqrt : goal.parse_bare-returns-in-Sqrt
unfolding parse_bare
parse_bare-returns-in-Sqrt t c =
    bare_as _ _ _ _ _ _ c.args.p _ c.parse_sqrt.result c.in-Sqrt.is c.parse_sqrt.ensures

pub parse_bare-returns-in-Frac : goal.parse_bare-returns-in-Frac
unfolding parse_bare
parse_bare-returns-in-Frac t c =
    bare_as _ _ _ _ _ _ c.args.p _ c.parse_two.result c.in-Frac.is c.parse_two.ensures

pub parse_bare-returns-in-Binom : goal.parse_bare-returns-in-Binom
unfolding parse_bare
parse_bare-returns-in-Binom t c =
    bare_as _ _ _ _ _ _ c.args.p _ c.parse_two-in-Binom.result c.in-Binom.is c.parse_two-in-Binom.ensures

pub parse_bare-returns-in-Over : goal.parse_bare-returns-in-Over
unfolding parse_bare
parse_bare-returns-in-Over t c =
    bare_as _ _ _ _ _ _ c.args.p _ c.parse_one.result c.in-Over.is c.parse_one.ensures

pub parse_bare-returns-in-Under : goal.parse_bare-returns-in-Under
unfolding parse_bare
parse_bare-returns-in-Under t c =
    bare_as _ _ _ _ _ _ c.args.p _ c.parse_one-in-Under.result c.in-Under.is c.parse_one-in-Under.ensures

pub parse_bare-returns-in-Overset : goal.parse_bare-returns-in-Overset
unfolding parse_bare
parse_bare-returns-in-Overset t c =
    bare_as _ _ _ _ _ _ c.args.p _ c.parse_two-in-Overset.result c.in-Overset.is c.parse_two-in-Overset.ensures

pub parse_bare-returns-in-Underset : goal.parse_bare-returns-in-Underset
unfolding parse_bare
parse_bare-returns-in-Underset t c =
    bare_as _ _ _ _ _ _ c.args.p _ c.parse_two-in-Underset.result c.in-Underset.is c.parse_two-in-Underset.ensures

pub parse_bare-returns-in-Overbrace : goal.parse_bare-returns-in-Overbrace
unfolding parse_bare
parse_bare-returns-in-Overbrace t c =
    bare_as _ _ _ _ _ _ c.args.p _ c.parse_brace.result c.in-Overbrace.is c.parse_brace.ensures

pub parse_bare-returns-in-Underbrace : goal.parse_bare-returns-in-Underbrace
unfolding parse_bare
parse_bare-returns-in-Underbrace t c =
    bare_as _ _ _ _ _ _ c.args.p _ c.parse_brace-in-Underbrace.result c.in-Underbrace.is c.parse_brace-in-Underbrace.ensures

pub parse_bare-returns-in-BigOp : goal.parse_bare-returns-in-BigOp
unfolding parse_bare
parse_bare-returns-in-BigOp t c =
    bare_as _ _ _ _ _ _ c.args.p _ c.parse_limits.result c.in-BigOp.is c.parse_limits.ensures

pub parse_bare-returns-in-Lim : goal.parse_bare-returns-in-Lim
unfolding parse_bare
parse_bare-returns-in-Lim t c =
    bare_as _ _ _ _ _ _ c.args.p _ c.parse_lim.result c.in-Lim.is c.parse_lim.ensures

pub parse_bare-returns-in-Slashed : goal.parse_bare-returns-in-Slashed
unfolding parse_bare
parse_bare-returns-in-Slashed t c =
    bare_as _ _ _ _ _ _ c.args.p _ c.parse_slashed.result c.in-Slashed.is c.parse_slashed.ensures

pub parse_bare-returns-in-Style : goal.parse_bare-returns-in-Style
unfolding parse_bare
parse_bare-returns-in-Style t c =
    bare_as _ _ _ _ _ _ c.args.p _ c.parse_style.result c.in-Style.is c.parse_style.ensures

pub parse_bare-returns-in-Integral : goal.parse_bare-returns-in-Integral
unfolding parse_bare
parse_bare-returns-in-Integral t c =
    bare_as _ _ _ _ _ _ c.args.p _ c.parse_limits-in-Integral.result c.in-Integral.is c.parse_limits-in-Integral.ensures

pub parse_bare-returns-in-LBrace : goal.parse_bare-returns-in-LBrace
unfolding parse_bare
parse_bare-returns-in-LBrace t c =
    bare_as _ _ _ _ _ _ c.args.p _ c.parse_group.result c.in-LBrace.is c.parse_group.ensures

pub parse_bare-returns-in-Left : goal.parse_bare-returns-in-Left
unfolding parse_bare
parse_bare-returns-in-Left t c =
    bare_as _ _ _ _ _ _ c.args.p _ c.parse_left.result c.in-Left.is c.parse_left.ensures

pub parse_bare-returns-in-Middle : goal.parse_bare-returns-in-Middle
unfolding parse_bare
parse_bare-returns-in-Middle t c =
    bare_as _ _ _ _ _ _ c.args.p _ c.parse_middle.result c.in-Middle.is c.parse_middle.ensures

pub parse_bare-returns-in-Big : goal.parse_bare-returns-in-Big
unfolding parse_bare
parse_bare-returns-in-Big t c =
    bare_as _ _ _ _ _ _ c.args.p _ c.parse_big.result c.in-Big.is c.parse_big.ensures

pub parse_bare-returns-in-Begin : goal.parse_bare-returns-in-Begin
unfolding parse_bare
parse_bare-returns-in-Begin t c =
    bare_as _ _ _ _ _ _ c.args.p _ c.parse_begin.result c.in-Begin.is c.parse_begin.ensures

pub parse_bare-returns-in-OperatorName : goal.parse_bare-returns-in-OperatorName
unfolding parse_bare
parse_bare-returns-in-OperatorName t c =
    bare_as _ _ _ _ _ _ c.args.p _ c.parse_operator_name.result c.in-OperatorName.is c.parse_operator_name.ensures

pub parse_bare-returns-in-Text : goal.parse_bare-returns-in-Text
unfolding parse_bare
parse_bare-returns-in-Text t c =
    bare_as _ _ _ _ _ _ c.args.p _ c.parse_text.result c.in-Text.is c.parse_text.ensures

pub parse_bare-returns-in_default : goal.parse_bare-returns-in_default
parse_bare-returns-in_default t c =
    after_none _ _ c.args.p c.args.p _ _ c.make_leaf.result refl (λ lo e. (rw c.leaf_of.ensures at c.make_leaf.ensures) lo (leaf_before _ lo _ c.args.p.cur.token e)) (bare_leaf _ _ c.args.s.now c.args.p.cur.token c.args.p c.in_default.in_default-own.keys22)

pub parse_begin-parse_text-name-requires : goal.parse_begin-parse_text-name-requires
parse_begin-parse_text-name-requires t c =
    let n = (begins c.requires.0 c.requires.1 c.next_token-begin.ensures) in
    n.sound

pub parse_begin-parse_group-requires : goal.parse_begin-parse_group-requires
parse_begin-parse_group-requires t c =
    (omega arith, (starts_ready (starts_text (begins c.requires.0 c.requires.1 c.next_token-begin.ensures) c.parse_text-name.ensures) (omega arith), (λ e. never cc)))

pub parse_begin-next_token-behind-requires : goal.parse_begin-next_token-behind-requires
parse_begin-next_token-behind-requires t c =
    let g = c.in_ok-content.ensures in
    may_next (group_ends c.parse_group.auto.store Mark.End (starts_text (begins c.requires.0 c.requires.1 c.next_token-begin.ensures) c.parse_text-name.ensures) (node_keeps c.args.depth c.args.s.now) (λ e. never cc) g)

pub parse_begin-parse_text-last-requires : goal.parse_begin-parse_text-last-requires
parse_begin-parse_text-last-requires t c =
    let g = c.in_ok-content.ensures in
    let n = (ends_next (group_ends c.parse_group.auto.store Mark.End (starts_text (begins c.requires.0 c.requires.1 c.next_token-begin.ensures) c.parse_text-name.ensures) (node_keeps c.args.depth c.args.s.now) (λ e. never cc) g) c.next_token-behind.ensures) in
    n.sound

pub parse_begin-slice_bounds-environment_of-count : goal.parse_begin-slice_bounds-environment_of-count
parse_begin-slice_bounds-environment_of-count t c =
    let t = rw (← c.parse_text-name.ensures) at (text_sound c.args.s.now _ (begins c.requires.0 c.requires.1 c.next_token-begin.ensures).sound) in
    let u = t.rises in
    let i = t.inside in
    omega arith

pub parse_begin-slice_bounds-environment_of-start : goal.parse_begin-slice_bounds-environment_of-start
parse_begin-slice_bounds-environment_of-start t c =
    let t = rw (← c.parse_text-name.ensures) at (text_sound c.args.s.now _ (begins c.requires.0 c.requires.1 c.next_token-begin.ensures).sound) in
    let u = t.rises in
    let i = t.inside in
    omega arith

pub parse_begin-slice_bounds-environment_of-end : goal.parse_begin-slice_bounds-environment_of-end
parse_begin-slice_bounds-environment_of-end t c =
    let t = rw (← c.parse_text-name.ensures) at (text_sound c.args.s.now _ (begins c.requires.0 c.requires.1 c.next_token-begin.ensures).sound) in
    let u = t.rises in
    let i = t.inside in
    omega arith

pub parse_begin-make_environment-requires : goal.parse_begin-make_environment-requires
parse_begin-make_environment-requires t c =
    let g = c.in_ok-content.ensures in
    let b = below g in
    let n = (next_made _ _ c.next_token-behind.ensures) in
    let k = (text_made _ _ c.parse_text-last.ensures) in
    (starts_free 2 (starts_text (ends_next (group_ends c.parse_group.auto.store Mark.End (starts_text (begins c.requires.0 c.requires.1 c.next_token-begin.ensures) c.parse_text-name.ensures) (node_keeps c.args.depth c.args.s.now) (λ e. never cc) g) c.next_token-behind.ensures) c.parse_text-last.ensures) (omega arith), omega arith)

pub parse_begin-returns-in_err-content : goal.parse_begin-returns-in_err-content
parse_begin-returns-in_err-content t c =
    let g = c.in_err-content.ensures in
    rw (handed_on _ c.from_residual.ensures.1) (begin_no _ c.args.s.now c.args.p c.next_token-begin.ensures c.parse_text-name.ensures g)

pub parse_begin-returns : goal.parse_begin-returns
parse_begin-returns t c =
    let g = c.in_ok-content.ensures in
    after_one _ _ c.args.p _ _ _ _ ((text_made _ _ c.parse_text-name.ensures) ∙ (next_made _ c.args.p c.next_token-begin.ensures)) g _ _ _ _ c.make_environment.result ((text_made _ _ c.parse_text-last.ensures) ∙ (next_made _ _ c.next_token-behind.ensures)) c.make_environment.ensures (begin_is _ c.args.s.now c.args.p c.next_token-begin.ensures c.parse_text-name.ensures g.is c.next_token-behind.ensures c.parse_text-last.ensures ∙ ap (λ x. in_environment x (opened g.tree) c.parse_text-last.result.after) (sym c.environment_of-env.ensures))

pub parse_brace-parse_single_node-requires : goal.parse_brace-parse_single_node-requires
parse_brace-parse_single_node-requires t c =
    (omega arith, starts_ready (begins c.requires.0.0 c.requires.0.1 c.next_token-begin.ensures) (omega arith))

pub parse_brace-make_leaf_second-requires : goal.parse_brace-make_leaf_second-requires
parse_brace-make_leaf_second-requires t c =
    let g = c.in_ok-target.ensures in
    (ends_free 2 (node_ends c.parse_single_node.auto.store 5 (begins c.requires.0.0 c.requires.0.1 c.next_token-begin.ensures) (omega arith) (single_keeps c.args.depth c.args.s.now) g) (omega arith), tt, below g, refl)

pub parse_brace-returns-then-not-peek_token_is : goal.parse_brace-returns-then-not-peek_token_is
parse_brace-returns-then-not-peek_token_is t c =
    let g = c.in_ok-target.ensures in
    after_one _ _ c.args.p _ _ _ _ (next_made _ c.args.p c.next_token-begin.ensures) g _ _ _ _ c.make_leaf_second.result refl c.make_leaf_second.ensures (brace_bare _ c.args.s.now c.args.p c.next_token-begin.ensures c.args.k c.args.mark c.args.x g.is (sym c.peek_token_is.ensures ∙ c.if-not-peek_token_is.true))

pub parse_brace-next_token-requires : goal.parse_brace-next_token-requires
parse_brace-next_token-requires t c =
    let g = c.in_ok-target.ensures in
    may_next (node_ends c.parse_single_node.auto.store 5 (begins c.requires.0.0 c.requires.0.1 c.next_token-begin.ensures) (omega arith) (single_keeps c.args.depth c.args.s.now) g)

pub parse_brace-next_token-operand-requires : goal.parse_brace-next_token-operand-requires
parse_brace-next_token-operand-requires t c =
    let g = c.in_ok-target.ensures in
    may_next (ends_next (node_ends c.parse_single_node.auto.store 5 (begins c.requires.0.0 c.requires.0.1 c.next_token-begin.ensures) (omega arith) (single_keeps c.args.depth c.args.s.now) g) c.next_token.ensures)

pub parse_brace-parse_single_node-requires-2 : goal.parse_brace-parse_single_node-requires-2
parse_brace-parse_single_node-requires-2 t c =
    let g = c.in_ok-target.ensures in
    (omega arith, starts_ready (ends_mark c.args.mark (node_ends c.parse_single_node.auto.store 5 (begins c.requires.0.0 c.requires.0.1 c.next_token-begin.ensures) (omega arith) (single_keeps c.args.depth c.args.s.now) g) (sym c.peek_token_is.ensures ∙ c.if-not-peek_token_is.false) c.requires.1 c.next_token.ensures c.next_token-operand.ensures) (omega arith))

pub parse_brace-make_explained-requires : goal.parse_brace-make_explained-requires
parse_brace-make_explained-requires t c =
    let g = c.in_ok-target.ensures in
    let h = c.in_ok-expl.ensures in
    (ends_free 3 (node_ends c.parse_single_node-2.auto.store 6 (ends_mark c.args.mark (node_ends c.parse_single_node.auto.store 5 (begins c.requires.0.0 c.requires.0.1 c.next_token-begin.ensures) (omega arith) (single_keeps c.args.depth c.args.s.now) g) (sym c.peek_token_is.ensures ∙ c.if-not-peek_token_is.false) c.requires.1 c.next_token.ensures c.next_token-operand.ensures) (omega arith) (single_keeps c.args.depth c.args.s.now) h) (omega arith), first_below _ _ c.args.p _ _ _ _ (next_made _ c.args.p c.next_token-begin.ensures) g _ _ _ _ _ ((next_made _ _ c.next_token-operand.ensures) ∙ (next_made _ _ c.next_token.ensures)) h, below h)

pub parse_brace-returns-in_err-target : goal.parse_brace-returns-in_err-target
parse_brace-returns-in_err-target t c =
    let g = c.in_err-target.ensures in
    rw (handed_on _ c.from_residual.ensures.1) (brace_no _ c.args.s.now c.args.p c.next_token-begin.ensures c.args.k c.args.mark c.args.x g)

pub parse_brace-returns-in_err-expl : goal.parse_brace-returns-in_err-expl
parse_brace-returns-in_err-expl t c =
    let g = c.in_ok-target.ensures in
    rw (handed_on _ c.from_residual-in_err-expl.ensures.1) (brace_no_2 _ c.args.s.now c.args.p c.next_token-begin.ensures c.args.k c.args.mark c.args.x g.is (sym c.peek_token_is.ensures ∙ c.if-not-peek_token_is.false) c.next_token.ensures c.next_token-operand.ensures c.in_err-expl.ensures)

pub parse_brace-returns : goal.parse_brace-returns
parse_brace-returns t c =
    let g = c.in_ok-target.ensures in
    let h = c.in_ok-expl.ensures in
    after_behind _ _ c.args.p _ _ _ _ (next_made _ c.args.p c.next_token-begin.ensures) g _ _ _ _ _ ((next_made _ _ c.next_token-operand.ensures) ∙ (next_made _ _ c.next_token.ensures)) h _ _ _ _ c.make_explained.result refl c.make_explained.ensures (brace_is _ c.args.s.now c.args.p c.next_token-begin.ensures c.args.k c.args.mark c.args.x g.is (sym c.peek_token_is.ensures ∙ c.if-not-peek_token_is.false) c.next_token.ensures c.next_token-operand.ensures h.is)

pub parse_group-loop-end-init : goal.parse_group-loop-end-init
parse_group-loop-end-init t c =
    let d = c.default-nodes.ensures in
    (refl, loops_none (starts_next (ready_starts c.requires.0) c.next_token-q.ensures) d.0 d.1.0 d.1.1)

pub parse_group-returns-then-cur_token_is : goal.parse_group-returns-then-cur_token_is
parse_group-returns-then-cur_token_is t c =
    group_end _ c.args.s.now c.args.end c.loop-end.invariant.1 c.args.p _ (sym c.cur_token_is-in-loop-end.ensures ∙ c.if-cur_token_is.true) (group_is _ c.args.s.now c.args.end c.args.p c.next_token-q.ensures)

pub parse_group-make_row-requires : goal.parse_group-make_row-requires
parse_group-make_row-requires t c =
    let f = loops_few c.loop-end.invariant.1 in
    let e = loops_free c.loop-end.invariant.1 (one_mark _ c.args.end Mark.EOF (sym c.cur_token_is.ensures ∙ c.loop-end-test.false) c.requires.1) in
    let s = e.small in
    (e, c.loop-end.invariant.1.small, omega arith)

pub parse_group-returns : goal.parse_group-returns
parse_group-returns t c =
    group_closed _ c.args.s.now c.args.end c.loop-end.invariant.1 _ c.args.p _ c.make_row.result (one_mark _ c.args.end Mark.EOF (sym c.cur_token_is.ensures ∙ c.loop-end-test.false) c.requires.1) (sym c.cur_token_is.ensures ∙ c.loop-end-test.false) (next_made _ c.args.p c.next_token-q.ensures) (group_is _ c.args.s.now c.args.end c.args.p c.next_token-q.ensures) c.make_row.ensures

pub parse_group-parse_node-requires : goal.parse_group-parse_node-requires
parse_group-parse_node-requires t c =
    (omega arith, loops_ready c.loop-end.invariant.1 (sym c.cur_token_is-in-loop-end.ensures ∙ c.if-cur_token_is.false))

pub parse_group-returns-in_err-n : goal.parse_group-returns-in_err-n
parse_group-returns-in_err-n t c =
    let g = c.in_err-n.ensures in
    rw (handed_on _ c.from_residual.ensures.1) (group_refused _ c.args.s.now c.args.end c.loop-end.invariant.1 _ (sym c.cur_token_is-in-loop-end.ensures ∙ c.if-cur_token_is.false) (sym c.cur_token_is.ensures ∙ c.loop-end-test.true) g (group_is _ c.args.s.now c.args.end c.args.p c.next_token-q.ensures))

pub parse_group-push-requires : goal.parse_group-push-requires
parse_group-push-requires t c =
    let g = c.in_ok-n.ensures in
    more_push c.loop-end.invariant.1 (node_keeps c.args.depth c.args.s.now) (sym c.cur_token_is-in-loop-end.ensures ∙ c.if-cur_token_is.false) c.parse_node.auto.store g

pub parse_group-next_token-q-requires-in-loop-end : goal.parse_group-next_token-q-requires-in-loop-end
parse_group-next_token-q-requires-in-loop-end t c =
    let g = c.in_ok-n.ensures in
    may_next (more_ends c.loop-end.invariant.1 (node_keeps c.args.depth c.args.s.now) (sym c.cur_token_is-in-loop-end.ensures ∙ c.if-cur_token_is.false) c.parse_node.auto.store g)

pub parse_group-loop-end-smaller : goal.parse_group-loop-end-smaller
parse_group-loop-end-smaller t c =
    let g = c.in_ok-n.ensures in
    let l = more_less c.loop-end.invariant.1 (node_keeps c.args.depth c.args.s.now) (sym c.cur_token_is-in-loop-end.ensures ∙ c.if-cur_token_is.false) c.parse_node.auto.store g _ c.next_token-q-in-loop-end.ensures in
    let a = l.0 in
    let b = l.1 in
    omega arith

pub parse_group-loop-end-preserved : goal.parse_group-loop-end-preserved
parse_group-loop-end-preserved t c =
    let g = c.in_ok-n.ensures in
    (c.push.auto.store ∙ c.parse_node.auto.store ∙ c.loop-end.invariant.0, group_turns _ c.args.s.now c.args.end c.loop-end.invariant.1 (node_keeps c.args.depth c.args.s.now) (sym c.cur_token_is-in-loop-end.ensures ∙ c.if-cur_token_is.false) c.parse_node.auto.store g _ _ _ _ _ c.push.auto.store (sym c.cur_token_is.ensures ∙ c.loop-end-test.true) c.push.ensures.linked c.push.ensures.moved c.next_token-q-in-loop-end.ensures)

pub parse_left-parse_group-requires : goal.parse_left-parse_group-requires
parse_left-parse_group-requires t c =
    (omega arith, (starts_ready (begins c.requires.0 c.requires.1 c.next_token-begin.ensures) (omega arith), (λ e. never cc)))

pub parse_left-next_token-after-requires : goal.parse_left-next_token-after-requires
parse_left-next_token-after-requires t c =
    let g = c.in_ok-content.ensures in
    may_next (group_ends c.parse_group.auto.store Mark.Right (begins c.requires.0 c.requires.1 c.next_token-begin.ensures) (node_keeps c.args.depth c.args.s.now) (λ e. never cc) g)

pub parse_left-make_fenced-requires : goal.parse_left-make_fenced-requires
parse_left-make_fenced-requires t c =
    let g = c.in_ok-content.ensures in
    let b = below g in
    let n = (next_made _ _ c.next_token-after.ensures) in
    (starts_free 1 (ends_next (group_ends c.parse_group.auto.store Mark.Right (begins c.requires.0 c.requires.1 c.next_token-begin.ensures) (node_keeps c.args.depth c.args.s.now) (λ e. never cc) g) c.next_token-after.ensures) (omega arith), omega arith)

pub parse_left-returns-in_err-first : goal.parse_left-returns-in_err-first
parse_left-returns-in_err-first t c =
    let n = none_or _ c.in_err-first.ensures.value in
    rw (handed_on _ c.from_residual.ensures.1) (left_no _ c.args.s.now c.args.p c.next_token-begin.ensures (sym c.fence_of.ensures ∙ n.0) ∙ ap (λ x. refused x) (sym n.1))

pub parse_left-returns-in_err-content : goal.parse_left-returns-in_err-content
parse_left-returns-in_err-content t c =
    let g = c.in_err-content.ensures in
    rw (handed_on _ c.from_residual-in_err-content.ensures.1) (left_no_2 _ c.args.s.now c.args.p c.next_token-begin.ensures (sym c.fence_of.ensures ∙ c.in_ok-first.ensures.ok_part) g)

pub parse_left-returns : goal.parse_left-returns
parse_left-returns t c =
    let g = c.in_ok-content.ensures in
    after_one _ _ c.args.p _ _ _ _ (next_made _ c.args.p c.next_token-begin.ensures) g _ _ _ _ c.make_fenced.result (next_made _ _ c.next_token-after.ensures) c.make_fenced.ensures (left_is _ c.args.s.now c.args.p c.next_token-begin.ensures (sym c.fence_of.ensures ∙ c.in_ok-first.ensures.ok_part) g.is c.next_token-after.ensures)

pub parse_lim-returns-then-not-peek_token_is : goal.parse_lim-returns-then-not-peek_token_is
parse_lim-returns-then-not-peek_token_is t c =
    after_none _ _ c.args.p c.args.p _ _ c.make_leaf.result refl c.make_leaf.ensures (lim_alone _ c.args.s.now c.args.p c.args.t (sym c.peek_token_is.ensures ∙ c.if-not-peek_token_is.true))

pub parse_lim-next_token-begin-requires : goal.parse_lim-next_token-begin-requires
parse_lim-next_token-begin-requires t c =
    may_next (begins c.requires.0 c.requires.1 c.next_token.ensures)

pub parse_lim-parse_single_node-requires : goal.parse_lim-parse_single_node-requires
parse_lim-parse_single_node-requires t c =
    (omega arith, starts_ready (ends_mark Mark.Underscore (ready_ends c.requires.0 c.requires.1) (sym c.peek_token_is.ensures ∙ c.if-not-peek_token_is.false) (λ e. never cc) c.next_token.ensures c.next_token-begin.ensures) (omega arith))

pub parse_lim-make_leaf_first-requires : goal.parse_lim-make_leaf_first-requires
parse_lim-make_leaf_first-requires t c =
    let g = c.in_ok-under.ensures in
    (ends_free 2 (node_ends c.parse_single_node.auto.store 7 (ends_mark Mark.Underscore (ready_ends c.requires.0 c.requires.1) (sym c.peek_token_is.ensures ∙ c.if-not-peek_token_is.false) (λ e. never cc) c.next_token.ensures c.next_token-begin.ensures) (omega arith) (single_keeps c.args.depth c.args.s.now) g) (omega arith), tt, below g, refl)

pub parse_lim-returns-in_err-under : goal.parse_lim-returns-in_err-under
parse_lim-returns-in_err-under t c =
    let g = c.in_err-under.ensures in
    rw (handed_on _ c.from_residual.ensures.1) (lim_no _ c.args.s.now c.args.p c.args.t (sym c.peek_token_is.ensures ∙ c.if-not-peek_token_is.false) c.next_token.ensures c.next_token-begin.ensures g)

pub parse_lim-returns : goal.parse_lim-returns
parse_lim-returns t c =
    let g = c.in_ok-under.ensures in
    after_one _ _ c.args.p _ _ _ _ ((next_made _ _ c.next_token-begin.ensures) ∙ (next_made _ c.args.p c.next_token.ensures)) g _ _ _ _ c.make_leaf_first.result refl c.make_leaf_first.ensures (lim_is _ c.args.s.now c.args.p c.args.t (sym c.peek_token_is.ensures ∙ c.if-not-peek_token_is.false) c.next_token.ensures c.next_token-begin.ensures g.is)

pub parse_limits-next_token-begin-requires : goal.parse_limits-next_token-begin-requires
parse_limits-next_token-begin-requires t c =
    may_next (begins c.requires.0 c.requires.1 c.next_token.ensures)

pub parse_limits-parse_single_node-requires : goal.parse_limits-parse_single_node-requires
parse_limits-parse_single_node-requires t c =
    (omega arith, starts_ready (ends_script c.in-Some.side (ready_ends c.requires.0 c.requires.1) (sym c.script_of.ensures ∙ c.in-Some.is) c.next_token.ensures c.next_token-begin.ensures) (omega arith))

pub parse_limits-make_limit-requires : goal.parse_limits-make_limit-requires
parse_limits-make_limit-requires t c =
    let g = c.in_ok-x.ensures in
    (ends_free 2 (node_ends c.parse_single_node.auto.store 7 (ends_script c.in-Some.side (ready_ends c.requires.0 c.requires.1) (sym c.script_of.ensures ∙ c.in-Some.is) c.next_token.ensures c.next_token-begin.ensures) (omega arith) (single_keeps c.args.depth c.args.s.now) g) (omega arith), below g)

pub parse_limits-returns-then-not-peek_token_is : goal.parse_limits-returns-then-not-peek_token_is
parse_limits-returns-then-not-peek_token_is t c =
    let g = c.in_ok-x.ensures in
    after_one _ _ c.args.p _ _ _ _ ((next_made _ _ c.next_token-begin.ensures) ∙ (next_made _ c.args.p c.next_token.ensures)) g _ _ _ _ c.make_limit.result refl c.make_limit.ensures (limit_is _ c.args.s.now c.args.k c.args.p c.next_token.ensures c.next_token-begin.ensures g.is c.in-Some.side (sym c.script_of.ensures ∙ c.in-Some.is) (rw c.other_limit.ensures at (sym c.peek_token_is.ensures ∙ c.if-not-peek_token_is.true)))

pub parse_limits-next_token-requires-2 : goal.parse_limits-next_token-requires-2
parse_limits-next_token-requires-2 t c =
    let g = c.in_ok-x.ensures in
    may_next (node_ends c.parse_single_node.auto.store 7 (ends_script c.in-Some.side (ready_ends c.requires.0 c.requires.1) (sym c.script_of.ensures ∙ c.in-Some.is) c.next_token.ensures c.next_token-begin.ensures) (omega arith) (single_keeps c.args.depth c.args.s.now) g)

pub parse_limits-next_token-operand-requires : goal.parse_limits-next_token-operand-requires
parse_limits-next_token-operand-requires t c =
    let g = c.in_ok-x.ensures in
    may_next (ends_next (node_ends c.parse_single_node.auto.store 7 (ends_script c.in-Some.side (ready_ends c.requires.0 c.requires.1) (sym c.script_of.ensures ∙ c.in-Some.is) c.next_token.ensures c.next_token-begin.ensures) (omega arith) (single_keeps c.args.depth c.args.s.now) g) c.next_token-2.ensures)

pub parse_limits-parse_single_node-requires-2 : goal.parse_limits-parse_single_node-requires-2
parse_limits-parse_single_node-requires-2 t c =
    let g = c.in_ok-x.ensures in
    (omega arith, starts_ready (ends_mark (other_limit c.in-Some.side) (node_ends c.parse_single_node.auto.store 7 (ends_script c.in-Some.side (ready_ends c.requires.0 c.requires.1) (sym c.script_of.ensures ∙ c.in-Some.is) c.next_token.ensures c.next_token-begin.ensures) (omega arith) (single_keeps c.args.depth c.args.s.now) g) (rw c.other_limit.ensures at (sym c.peek_token_is.ensures ∙ c.if-not-peek_token_is.false)) (other_byte c.in-Some.side) c.next_token-2.ensures c.next_token-operand.ensures) (omega arith))

pub parse_limits-make_limits-requires : goal.parse_limits-make_limits-requires
parse_limits-make_limits-requires t c =
    let g = c.in_ok-x.ensures in
    let h = c.in_ok-y.ensures in
    (ends_free 2 (node_ends c.parse_single_node-2.auto.store 8 (ends_mark (other_limit c.in-Some.side) (node_ends c.parse_single_node.auto.store 7 (ends_script c.in-Some.side (ready_ends c.requires.0 c.requires.1) (sym c.script_of.ensures ∙ c.in-Some.is) c.next_token.ensures c.next_token-begin.ensures) (omega arith) (single_keeps c.args.depth c.args.s.now) g) (rw c.other_limit.ensures at (sym c.peek_token_is.ensures ∙ c.if-not-peek_token_is.false)) (other_byte c.in-Some.side) c.next_token-2.ensures c.next_token-operand.ensures) (omega arith) (single_keeps c.args.depth c.args.s.now) h) (omega arith), first_below _ _ c.args.p _ _ _ _ ((next_made _ _ c.next_token-begin.ensures) ∙ (next_made _ c.args.p c.next_token.ensures)) g _ _ _ _ _ ((next_made _ _ c.next_token-operand.ensures) ∙ (next_made _ _ c.next_token-2.ensures)) h, below h)

pub parse_limits-returns-in_default : goal.parse_limits-returns-in_default
parse_limits-returns-in_default t c =
    after_none _ _ c.args.p c.args.p _ _ c.make_alone.result refl c.make_alone.ensures (limits_alone _ c.args.s.now c.args.k c.args.p (sym c.script_of.ensures ∙ c.in_default.is))

pub parse_limits-returns-in_err-x : goal.parse_limits-returns-in_err-x
parse_limits-returns-in_err-x t c =
    let g = c.in_err-x.ensures in
    rw (handed_on _ c.from_residual.ensures.1) (limits_no _ c.args.s.now c.args.k c.args.p c.next_token.ensures c.next_token-begin.ensures c.in-Some.side (sym c.script_of.ensures ∙ c.in-Some.is) g)

pub parse_limits-returns-in_err-y : goal.parse_limits-returns-in_err-y
parse_limits-returns-in_err-y t c =
    let g = c.in_ok-x.ensures in
    rw (handed_on _ c.from_residual-in_err-y.ensures.1) (limits_no_2 _ c.args.s.now c.args.k c.args.p c.next_token.ensures c.next_token-begin.ensures g.is c.next_token-2.ensures c.next_token-operand.ensures c.in-Some.side (sym c.script_of.ensures ∙ c.in-Some.is) (rw c.other_limit.ensures at (sym c.peek_token_is.ensures ∙ c.if-not-peek_token_is.false)) c.in_err-y.ensures)

pub parse_limits-returns : goal.parse_limits-returns
parse_limits-returns t c =
    let g = c.in_ok-x.ensures in
    let h = c.in_ok-y.ensures in
    after_two _ _ c.args.p _ _ _ _ ((next_made _ _ c.next_token-begin.ensures) ∙ (next_made _ c.args.p c.next_token.ensures)) g _ _ _ _ _ ((next_made _ _ c.next_token-operand.ensures) ∙ (next_made _ _ c.next_token-2.ensures)) h _ _ _ _ c.make_limits.result refl c.make_limits.ensures (limits_is _ c.args.s.now c.args.k c.args.p c.next_token.ensures c.next_token-begin.ensures g.is c.next_token-2.ensures c.next_token-operand.ensures c.in-Some.side (sym c.script_of.ensures ∙ c.in-Some.is) (rw c.other_limit.ensures at (sym c.peek_token_is.ensures ∙ c.if-not-peek_token_is.false)) h.is)

pub parse_middle-parse_single_node-requires : goal.parse_middle-parse_single_node-requires
parse_middle-parse_single_node-requires t c =
    (omega arith, starts_ready (begins c.requires.0 c.requires.1 c.next_token-begin.ensures) (omega arith))

pub parse_middle-make_stretched-requires : goal.parse_middle-make_stretched-requires
parse_middle-make_stretched-requires t c =
    let g = c.in_ok-n.ensures in
    (ends_free 1 (node_ends c.parse_single_node.auto.store 5 (begins c.requires.0 c.requires.1 c.next_token-begin.ensures) (omega arith) (single_keeps c.args.depth c.args.s.now) g) (omega arith), below g)

pub parse_middle-returns-in_err-n : goal.parse_middle-returns-in_err-n
parse_middle-returns-in_err-n t c =
    let g = c.in_err-n.ensures in
    rw (handed_on _ c.from_residual.ensures.1) (middle_no _ c.args.s.now c.args.p c.next_token-begin.ensures g)

pub parse_middle-returns : goal.parse_middle-returns
parse_middle-returns t c =
    let g = c.in_ok-n.ensures in
    after_one _ _ c.args.p _ _ _ _ (next_made _ c.args.p c.next_token-begin.ensures) g _ _ _ _ c.make_stretched.result refl c.make_stretched.ensures (middle_is _ c.args.s.now c.args.p c.next_token-begin.ensures g.is)

pub parse_node-returns-then-depth-lt2 : goal.parse_node-returns-then-depth-lt2
parse_node-returns-then-depth-lt2 t c =
    node_few c.args.depth c.args.s.now c.args.p c.if-depth-lt2.true

pub parse_node-make_leaf-requires : goal.parse_node-make_leaf-requires
parse_node-make_leaf-requires t c =
    (ready_free c.requires, rw c.leaf_of.ensures (leaf_placed (length c.args.s.now) _ c.requires.long c.requires.sound.cur.places))

pub parse_node-returns-then-stands_alone : goal.parse_node-returns-then-stands_alone
parse_node-returns-then-stands_alone t c =
    after_none _ _ c.args.p c.args.p _ _ c.make_leaf.result refl (λ lo e. (rw c.leaf_of.ensures at c.make_leaf.ensures) lo (leaf_before _ lo _ c.args.p.cur.token e)) (alone_is c.args.depth c.args.s.now c.args.p c.if-depth-lt2.false (sym c.stands_alone.ensures ∙ c.if-stands_alone.true))

pub parse_node-scripts-requires : goal.parse_node-scripts-requires
parse_node-scripts-requires t c =
    let z = c.if-depth-lt2.false in
    let g = c.in_ok-base.ensures in
    (omega arith, (ready_node c.parse_single_node.auto.store c.requires (single_keeps (c.args.depth - 1) c.args.s.now) g, below g, omega arith))

pub parse_node-returns-in_err-base : goal.parse_node-returns-in_err-base
parse_node-returns-in_err-base t c =
    let g = c.in_err-base.ensures in
    rw (handed_on _ c.from_residual.ensures.1) (node_more c.args.depth c.args.s.now c.args.p c.if-depth-lt2.false ∙ node_no _ c.args.s.now c.args.p g)

pub parse_node-returns : goal.parse_node-returns
parse_node-returns t c =
    let g = c.in_ok-base.ensures in
    after_one _ _ c.args.p _ _ _ _ refl g _ _ _ _ c.scripts.result refl c.scripts.ensures (node_more c.args.depth c.args.s.now c.args.p c.if-depth-lt2.false ∙ node_is _ c.args.s.now c.args.p g.is)

pub parse_one-parse_node-requires : goal.parse_one-parse_node-requires
parse_one-parse_node-requires t c =
    (omega arith, starts_ready (begins c.requires.0 c.requires.1 c.next_token-begin.ensures) (omega arith))

pub parse_one-make_one-requires : goal.parse_one-make_one-requires
parse_one-make_one-requires t c =
    let g = c.in_ok-a.ensures in
    (ends_free 1 (node_ends c.parse_node.auto.store 5 (begins c.requires.0 c.requires.1 c.next_token-begin.ensures) (omega arith) (node_keeps c.args.depth c.args.s.now) g) (omega arith), below g)

pub parse_one-returns-in_err-a : goal.parse_one-returns-in_err-a
parse_one-returns-in_err-a t c =
    let g = c.in_err-a.ensures in
    rw (handed_on _ c.from_residual.ensures.1) (one_no _ c.args.s.now c.args.p c.next_token-begin.ensures c.args.k g)

pub parse_one-returns : goal.parse_one-returns
parse_one-returns t c =
    let g = c.in_ok-a.ensures in
    after_one _ _ c.args.p _ _ _ _ (next_made _ c.args.p c.next_token-begin.ensures) g _ _ _ _ c.make_one.result refl c.make_one.ensures (one_is _ c.args.s.now c.args.p c.next_token-begin.ensures c.args.k g.is)

pub parse_single_node-returns-then-depth-eq0 : goal.parse_single_node-returns-then-depth-eq0
parse_single_node-returns-then-depth-eq0 t c =
    single_zero c.args.depth c.args.s.now c.args.p c.if-depth-eq0.true

pub parse_single_node-finish_prime-requires : goal.parse_single_node-finish_prime-requires
parse_single_node-finish_prime-requires t c =
    let g = c.in_ok-n.ensures in
    let e = (ready_node c.parse_bare.auto.store c.requires (bare_keeps (c.args.depth - 1) c.args.s.now) g) in
    (e.sound.peek.inside, prime_free e, below g)

pub parse_single_node-returns-in_err-n : goal.parse_single_node-returns-in_err-n
parse_single_node-returns-in_err-n t c =
    let g = c.in_err-n.ensures in
    rw (handed_on _ c.from_residual.ensures.1) (single_more c.args.depth c.args.s.now c.args.p c.if-depth-eq0.false ∙ bare_no _ _ c.args.s.now c.args.p g)

pub parse_single_node-returns : goal.parse_single_node-returns
parse_single_node-returns t c =
    let g = c.in_ok-n.ensures in
    after_one _ _ c.args.p _ _ _ _ refl g _ _ _ _ c.finish_prime.result refl c.finish_prime.ensures (single_more c.args.depth c.args.s.now c.args.p c.if-depth-eq0.false ∙ bare_is _ _ c.args.s.now c.args.p g.is)

pub parse_slashed-next_token-begin-requires : goal.parse_slashed-next_token-begin-requires
parse_slashed-next_token-begin-requires t c =
    may_next (begins c.requires.0 c.requires.1 c.next_token.ensures)

pub parse_slashed-parse_node-requires : goal.parse_slashed-parse_node-requires
parse_slashed-parse_node-requires t c =
    (omega arith, starts_ready (starts_next (begins c.requires.0 c.requires.1 c.next_token.ensures) c.next_token-begin.ensures) (omega arith))

pub parse_slashed-next_token-after-requires : goal.parse_slashed-next_token-after-requires
parse_slashed-next_token-after-requires t c =
    let g = c.in_ok-a.ensures in
    may_next (node_ends c.parse_node.auto.store 5 (starts_next (begins c.requires.0 c.requires.1 c.next_token.ensures) c.next_token-begin.ensures) (omega arith) (node_keeps c.args.depth c.args.s.now) g)

pub parse_slashed-make_one-requires : goal.parse_slashed-make_one-requires
parse_slashed-make_one-requires t c =
    let g = c.in_ok-a.ensures in
    let b = below g in
    let n = (next_made _ _ c.next_token-after.ensures) in
    (starts_free 1 (ends_next (node_ends c.parse_node.auto.store 5 (starts_next (begins c.requires.0 c.requires.1 c.next_token.ensures) c.next_token-begin.ensures) (omega arith) (node_keeps c.args.depth c.args.s.now) g) c.next_token-after.ensures) (omega arith), omega arith)

pub parse_slashed-returns-in_err-a : goal.parse_slashed-returns-in_err-a
parse_slashed-returns-in_err-a t c =
    let g = c.in_err-a.ensures in
    rw (handed_on _ c.from_residual.ensures.1) (slashed_no _ c.args.s.now c.args.p c.next_token.ensures c.next_token-begin.ensures g)

pub parse_slashed-returns : goal.parse_slashed-returns
parse_slashed-returns t c =
    let g = c.in_ok-a.ensures in
    after_one _ _ c.args.p _ _ _ _ ((next_made _ _ c.next_token-begin.ensures) ∙ (next_made _ c.args.p c.next_token.ensures)) g _ _ _ _ c.make_one.result (next_made _ _ c.next_token-after.ensures) c.make_one.ensures (slashed_is _ c.args.s.now c.args.p c.next_token.ensures c.next_token-begin.ensures g.is c.next_token-after.ensures)

pub parse_sqrt-parse_group-requires : goal.parse_sqrt-parse_group-requires
parse_sqrt-parse_group-requires t c =
    (omega arith, (starts_ready (begins c.requires.0 c.requires.1 c.next_token-begin.ensures) (omega arith), (λ e. never cc)))

pub parse_sqrt-returns-in_err-degree : goal.parse_sqrt-returns-in_err-degree
parse_sqrt-returns-in_err-degree t c =
    let g = c.in_err-degree.ensures in
    rw (handed_on _ c.from_residual.ensures.1) (root_no _ c.args.s.now c.args.p c.next_token-begin.ensures (sym c.cur_token_is.ensures ∙ c.if-cur_token_is.true) g)

pub parse_sqrt-next_token-after-requires : goal.parse_sqrt-next_token-after-requires
parse_sqrt-next_token-after-requires t c =
    let g = c.in_ok-degree.ensures in
    may_next (group_ends c.parse_group.auto.store Mark.RBracket (begins c.requires.0 c.requires.1 c.next_token-begin.ensures) (node_keeps c.args.depth c.args.s.now) (λ e. never cc) g)

pub parse_sqrt-parse_node-requires : goal.parse_sqrt-parse_node-requires
parse_sqrt-parse_node-requires t c =
    let g = c.in_ok-degree.ensures in
    (omega arith, starts_ready (ends_next (group_ends c.parse_group.auto.store Mark.RBracket (begins c.requires.0 c.requires.1 c.next_token-begin.ensures) (node_keeps c.args.depth c.args.s.now) (λ e. never cc) g) c.next_token-after.ensures) (omega arith))

pub parse_sqrt-returns-in_err-content : goal.parse_sqrt-returns-in_err-content
parse_sqrt-returns-in_err-content t c =
    let g = c.in_ok-degree.ensures in
    rw (handed_on _ c.from_residual-in_err-content.ensures.1) (root_no_2 _ c.args.s.now c.args.p c.next_token-begin.ensures (sym c.cur_token_is.ensures ∙ c.if-cur_token_is.true) g.is c.next_token-after.ensures c.in_err-content.ensures)

pub parse_sqrt-make_two-requires : goal.parse_sqrt-make_two-requires
parse_sqrt-make_two-requires t c =
    let g = c.in_ok-degree.ensures in
    let h = c.in_ok-content.ensures in
    (ends_free 1 (node_ends c.parse_node.auto.store 5 (ends_next (group_ends c.parse_group.auto.store Mark.RBracket (begins c.requires.0 c.requires.1 c.next_token-begin.ensures) (node_keeps c.args.depth c.args.s.now) (λ e. never cc) g) c.next_token-after.ensures) (omega arith) (node_keeps c.args.depth c.args.s.now) h) (omega arith), below h, first_below _ _ c.args.p _ _ _ _ (next_made _ c.args.p c.next_token-begin.ensures) g _ _ _ _ _ (next_made _ _ c.next_token-after.ensures) h)

pub parse_sqrt-returns-then-cur_token_is : goal.parse_sqrt-returns-then-cur_token_is
parse_sqrt-returns-then-cur_token_is t c =
    let g = c.in_ok-degree.ensures in
    let h = c.in_ok-content.ensures in
    after_two_swapped _ _ c.args.p _ _ _ _ (next_made _ c.args.p c.next_token-begin.ensures) g _ _ _ _ _ (next_made _ _ c.next_token-after.ensures) h _ _ _ _ c.make_two.result refl c.make_two.ensures (root_is _ c.args.s.now c.args.p c.next_token-begin.ensures (sym c.cur_token_is.ensures ∙ c.if-cur_token_is.true) g.is c.next_token-after.ensures h.is)

pub parse_sqrt-parse_node-requires-2 : goal.parse_sqrt-parse_node-requires-2
parse_sqrt-parse_node-requires-2 t c =
    (omega arith, starts_ready (begins c.requires.0 c.requires.1 c.next_token-begin.ensures) (omega arith))

pub parse_sqrt-make_one-requires : goal.parse_sqrt-make_one-requires
parse_sqrt-make_one-requires t c =
    let g = c.in_ok-content-2.ensures in
    (ends_free 1 (node_ends c.parse_node-2.auto.store 5 (begins c.requires.0 c.requires.1 c.next_token-begin.ensures) (omega arith) (node_keeps c.args.depth c.args.s.now) g) (omega arith), below g)

pub parse_sqrt-returns-in_err-content-2 : goal.parse_sqrt-returns-in_err-content-2
parse_sqrt-returns-in_err-content-2 t c =
    rw (handed_on _ c.from_residual-in_err-content-2.ensures.1) (sqrt_no _ c.args.s.now c.args.p c.next_token-begin.ensures (sym c.cur_token_is.ensures ∙ c.if-cur_token_is.false) c.in_err-content-2.ensures)

pub parse_sqrt-returns : goal.parse_sqrt-returns
parse_sqrt-returns t c =
    let g = c.in_ok-content-2.ensures in
    after_one _ _ c.args.p _ _ _ _ (next_made _ c.args.p c.next_token-begin.ensures) g _ _ _ _ c.make_one.result refl c.make_one.ensures (sqrt_is _ c.args.s.now c.args.p c.next_token-begin.ensures (sym c.cur_token_is.ensures ∙ c.if-cur_token_is.false) g.is)

pub parse_style-parse_node-requires : goal.parse_style-parse_node-requires
parse_style-parse_node-requires t c =
    (omega arith, starts_ready (begins c.requires.0 c.requires.1 c.next_token-begin.ensures) (omega arith))

pub parse_style-set_variant-requires : goal.parse_style-set_variant-requires
parse_style-set_variant-requires t c =
    let g = c.in_ok-n.ensures in
    let e = ends_free 0 (node_ends c.parse_node.auto.store 5 (begins c.requires.0 c.requires.1 c.next_token-begin.ensures) (omega arith) (node_keeps c.args.depth c.args.s.now) g) (omega arith) in
    let b = below g in
    let f = e.fits in
    (record { lo = _; tree = g.tree; held = g.held; fits = omega arith }, b)

pub parse_style-returns-in_err-n : goal.parse_style-returns-in_err-n
parse_style-returns-in_err-n t c =
    let g = c.in_err-n.ensures in
    rw (handed_on _ c.from_residual.ensures.1) (style_no _ c.args.s.now c.args.p c.next_token-begin.ensures c.args.v g)

pub parse_style-returns : goal.parse_style-returns
parse_style-returns t c =
    let g = c.in_ok-n.ensures in
    after_set _ _ _ c.args.p _ _ _ _ _ c.args.v (next_made _ c.args.p c.next_token-begin.ensures) g c.set_variant.ensures (style_is _ c.args.s.now c.args.p c.next_token-begin.ensures c.args.v g.is)

pub parse_two-parse_node-requires : goal.parse_two-parse_node-requires
parse_two-parse_node-requires t c =
    (omega arith, starts_ready (begins c.requires.0 c.requires.1 c.next_token-begin.ensures) (omega arith))

pub parse_two-next_token-after-requires : goal.parse_two-next_token-after-requires
parse_two-next_token-after-requires t c =
    let g = c.in_ok-a.ensures in
    may_next (node_ends c.parse_node.auto.store 5 (begins c.requires.0 c.requires.1 c.next_token-begin.ensures) (omega arith) (node_keeps c.args.depth c.args.s.now) g)

pub parse_two-parse_node-requires-2 : goal.parse_two-parse_node-requires-2
parse_two-parse_node-requires-2 t c =
    let g = c.in_ok-a.ensures in
    (omega arith, starts_ready (ends_next (node_ends c.parse_node.auto.store 5 (begins c.requires.0 c.requires.1 c.next_token-begin.ensures) (omega arith) (node_keeps c.args.depth c.args.s.now) g) c.next_token-after.ensures) (omega arith))

pub parse_two-make_pair-requires : goal.parse_two-make_pair-requires
parse_two-make_pair-requires t c =
    let g = c.in_ok-a.ensures in
    let h = c.in_ok-b.ensures in
    (ends_free 4 (node_ends c.parse_node-2.auto.store 4 (ends_next (node_ends c.parse_node.auto.store 5 (begins c.requires.0 c.requires.1 c.next_token-begin.ensures) (omega arith) (node_keeps c.args.depth c.args.s.now) g) c.next_token-after.ensures) (omega arith) (node_keeps c.args.depth c.args.s.now) h) (omega arith), first_below _ _ c.args.p _ _ _ _ (next_made _ c.args.p c.next_token-begin.ensures) g _ _ _ _ _ (next_made _ _ c.next_token-after.ensures) h, below h)

pub parse_two-returns-in_err-a : goal.parse_two-returns-in_err-a
parse_two-returns-in_err-a t c =
    let g = c.in_err-a.ensures in
    rw (handed_on _ c.from_residual.ensures.1) (two_no _ c.args.s.now c.args.p c.next_token-begin.ensures c.args.k g)

pub parse_two-returns-in_err-b : goal.parse_two-returns-in_err-b
parse_two-returns-in_err-b t c =
    let g = c.in_ok-a.ensures in
    rw (handed_on _ c.from_residual-in_err-b.ensures.1) (two_no_2 _ c.args.s.now c.args.p c.next_token-begin.ensures g.is c.next_token-after.ensures c.args.k c.in_err-b.ensures)

pub parse_two-returns : goal.parse_two-returns
parse_two-returns t c =
    let g = c.in_ok-a.ensures in
    let h = c.in_ok-b.ensures in
    after_two _ _ c.args.p _ _ _ _ (next_made _ c.args.p c.next_token-begin.ensures) g _ _ _ _ _ (next_made _ _ c.next_token-after.ensures) h _ _ _ _ c.make_pair.result refl c.make_pair.ensures (two_is _ c.args.s.now c.args.p c.next_token-begin.ensures g.is c.next_token-after.ensures c.args.k h.is)

pub scripts-next_token-begin-requires : goal.scripts-next_token-begin-requires
scripts-next_token-begin-requires t c =
    may_next (ends_next c.requires.0 c.next_token.ensures)

pub scripts-make_leaf_second-requires : goal.scripts-make_leaf_second-requires
scripts-make_leaf_second-requires t c =
    let h = (ends_script c.in-Some.side c.requires.0 (sym c.script_of.ensures ∙ c.in-Some.is) c.next_token.ensures c.next_token-begin.ensures) in
    let same = (next_made _ _ c.next_token-begin.ensures ∙ next_made _ c.args.p c.next_token.ensures) in
    let below = c.requires.1 in
    (starts_free 2 h (omega arith), rw c.leaf_of.ensures (leaf_placed (length c.args.s.now) _ h.long h.sound.cur.places), omega arith, rw c.leaf_of.ensures (plain_leaf c.next_token-begin.result.cur.token))

pub scripts-returns-then-is_usual_operand : goal.scripts-returns-then-is_usual_operand
scripts-returns-then-is_usual_operand t c =
    after_prime _ _ c.args.p _ _ _ _ c.make_leaf_second.result (next_made _ _ c.next_token-begin.ensures ∙ next_made _ c.args.p c.next_token.ensures) (rw (c.script_kind.ensures, c.leaf_of.ensures) at c.make_leaf_second.ensures) (alone_script c.args.depth c.args.s.now c.args.p c.in-Some.side c.next_token.ensures c.next_token-begin.ensures (sym c.script_of.ensures ∙ c.in-Some.is) c.requires.2 (c.is_usual_operand.ensures c.if-is_usual_operand.true))

pub scripts-parse_single_node-requires : goal.scripts-parse_single_node-requires
scripts-parse_single_node-requires t c =
    (omega arith, starts_ready (ends_script c.in-Some.side c.requires.0 (sym c.script_of.ensures ∙ c.in-Some.is) c.next_token.ensures c.next_token-begin.ensures) (omega arith))

pub scripts-second-requires : goal.scripts-second-requires
scripts-second-requires t c =
    let g = c.in_ok-x.ensures in
    (omega arith, (node_ends c.parse_single_node.auto.store 1 (ends_script c.in-Some.side c.requires.0 (sym c.script_of.ensures ∙ c.in-Some.is) c.next_token.ensures c.next_token-begin.ensures) (omega arith) (single_keeps c.args.depth c.args.s.now) g, old_below _ _ c.args.p _ _ _ _ (next_made _ _ c.next_token-begin.ensures ∙ next_made _ c.args.p c.next_token.ensures) g c.args.base c.requires.1, below g))

pub scripts-returns-in_default : goal.scripts-returns-in_default
scripts-returns-in_default t c =
    left_alone _ c.args.p c.args.base _ (scripts_none _ c.args.s.now c.args.p (sym c.script_of.ensures ∙ c.in_default.is))

pub scripts-returns-in_err-x : goal.scripts-returns-in_err-x
scripts-returns-in_err-x t c =
    let g = c.in_err-x.ensures in
    rw (handed_on _ c.from_residual.ensures.1) (λ lo n h. scripts_no _ c.args.s.now c.args.p c.next_token.ensures c.next_token-begin.ensures c.in-Some.side (sym c.script_of.ensures ∙ c.in-Some.is) g n)

pub scripts-returns : goal.scripts-returns
scripts-returns t c =
    let g = c.in_ok-x.ensures in
    beside_one _ _ c.args.p _ _ _ _ (next_made _ _ c.next_token-begin.ensures ∙ next_made _ c.args.p c.next_token.ensures) g c.args.base _ _ _ _ c.second.result refl c.second.ensures (scripts_is _ c.args.s.now c.args.p c.next_token.ensures c.next_token-begin.ensures c.in-Some.side (sym c.script_of.ensures ∙ c.in-Some.is) g.is)

pub second-returns-then-repeats : goal.second-returns-then-repeats
second-returns-then-repeats t c =
    λ lo m n mid u v. second_again _ c.args.s.now c.args.p c.args.side c.in-Some.again (sym c.script_of.ensures ∙ c.in-Some.is) (sym c.repeats.ensures ∙ c.if-repeats.true) m n

pub second-next_token-begin-requires : goal.second-next_token-begin-requires
second-next_token-begin-requires t c =
    may_next (ends_next c.requires.0 c.next_token.ensures)

pub second-parse_single_node-requires : goal.second-parse_single_node-requires
second-parse_single_node-requires t c =
    (omega arith, starts_ready (ends_script c.in-Some.again c.requires.0 (sym c.script_of.ensures ∙ c.in-Some.is) c.next_token.ensures c.next_token-begin.ensures) (omega arith))

pub second-make_scripts-requires : goal.second-make_scripts-requires
second-make_scripts-requires t c =
    let g = c.in_ok-y.ensures in
    (ends_free 1 (node_ends c.parse_single_node.auto.store 2 (ends_script c.in-Some.again c.requires.0 (sym c.script_of.ensures ∙ c.in-Some.is) c.next_token.ensures c.next_token-begin.ensures) (omega arith) (single_keeps c.args.depth c.args.s.now) g) (omega arith), old_below _ _ c.args.p _ _ _ _ (next_made _ _ c.next_token-begin.ensures ∙ next_made _ c.args.p c.next_token.ensures) g c.args.base c.requires.1, old_below _ _ c.args.p _ _ _ _ (next_made _ _ c.next_token-begin.ensures ∙ next_made _ c.args.p c.next_token.ensures) g c.args.x c.requires.2, below g)

pub second-returns-in_default : goal.second-returns-in_default
second-returns-in_default t c =
    as_two _ _ c.args.p c.args.base c.args.x _ _ c.make_two.result (rw c.script_kind.ensures at c.make_two.ensures) (second_none _ c.args.s.now c.args.p c.args.side (sym c.script_of.ensures ∙ c.in_default.is))

pub second-returns-in_err-y : goal.second-returns-in_err-y
second-returns-in_err-y t c =
    let g = c.in_err-y.ensures in
    rw (handed_on _ c.from_residual.ensures.1) (λ lo m n mid u v. second_no _ c.args.s.now c.args.p c.next_token.ensures c.next_token-begin.ensures c.args.side c.in-Some.again (sym c.script_of.ensures ∙ c.in-Some.is) (sym c.repeats.ensures ∙ c.if-repeats.false) g m n)

pub second-returns : goal.second-returns
second-returns t c =
    let g = c.in_ok-y.ensures in
    beside_two _ _ c.args.p _ _ _ _ (next_made _ _ c.next_token-begin.ensures ∙ next_made _ c.args.p c.next_token.ensures) g c.args.base c.args.x _ _ _ _ c.make_scripts.result refl c.make_scripts.ensures (second_is _ c.args.s.now c.args.p c.next_token.ensures c.next_token-begin.ensures c.args.side c.in-Some.again (sym c.script_of.ensures ∙ c.in-Some.is) (sym c.repeats.ensures ∙ c.if-repeats.false) g.is)
