use mathlib.Core.Path.{refl, sym, ◌∙◌}
use Rattle.parser.proofs.AnswerLaws.{handed_on}
use Rattle.parser.proofs.BodyLaws.{node_keeps}
use Rattle.parse.proofs.LoopLaws.{loops_ready, more_ends, more_push, more_less}
use Rattle.parse.proofs.BodyLaws.{body_none, body_end, body_refused, body_turns}
use native.Mathlib.Omega.{arith}
use Rattle.parse.proofs.body.parse_nodes.Goals as goal

pub loop-store-init : goal.loop-store-init
loop-store-init c =
    let d = c.default-nodes.ensures in
    (refl, body_none c.args.depth c.args.s.now c.args.store.now _ c.requires.0 c.requires.1 c.new-q.ensures d.0 d.1.0 d.1.1)

pub returns : goal.returns
returns c =
    body_end c.args.depth c.args.s.now c.loop-store.invariant.1 (sym c.cur_token_is.ensures ∙ c.loop-store-test.false)

pub parse_node-requires : goal.parse_node-requires
parse_node-requires c = loops_ready c.loop-store.invariant.1 (sym c.cur_token_is.ensures ∙ c.loop-store-test.true)

pub returns-in_err-n : goal.returns-in_err-n
returns-in_err-n c =
    rw (handed_on c.from_residual.result c.from_residual.ensures.1) (body_refused c.args.depth c.args.s.now c.loop-store.invariant.1 (sym c.cur_token_is.ensures ∙ c.loop-store-test.true) c.in_err-n.ensures)

pub push-requires : goal.push-requires
push-requires c =
    let g = c.in_ok-n.ensures in
    more_push c.loop-store.invariant.1 (node_keeps c.args.depth c.args.s.now) (sym c.cur_token_is.ensures ∙ c.loop-store-test.true) c.parse_node.auto.store g

pub next_token-q-requires : goal.next_token-q-requires
next_token-q-requires c =
    let g = c.in_ok-n.ensures in
    let n = (more_ends c.loop-store.invariant.1 (node_keeps c.args.depth c.args.s.now) (sym c.cur_token_is.ensures ∙ c.loop-store-test.true) c.parse_node.auto.store g) in
    n.sound.peek.inside

pub loop-store-smaller : goal.loop-store-smaller
loop-store-smaller c =
    let g = c.in_ok-n.ensures in
    let l = more_less c.loop-store.invariant.1 (node_keeps c.args.depth c.args.s.now) (sym c.cur_token_is.ensures ∙ c.loop-store-test.true) c.parse_node.auto.store g _ c.next_token-q.ensures in
    let a = l.0 in
    let b = l.1 in
    omega arith

pub loop-store-preserved : goal.loop-store-preserved
loop-store-preserved c =
    let g = c.in_ok-n.ensures in
    (c.push.auto.store ∙ c.parse_node.auto.store ∙ c.loop-store.invariant.0, body_turns c.args.depth c.args.s.now c.loop-store.invariant.1 (sym c.cur_token_is.ensures ∙ c.loop-store-test.true) c.parse_node.auto.store g _ _ _ _ _ c.push.auto.store c.push.ensures.linked c.push.ensures.moved c.next_token-q.ensures)
