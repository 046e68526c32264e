-- `parse::parse_text` meets its contract.
use mathlib.Core.Path.{◌∙◌}
use Rattle.ast.specs.declared.Leaf.TheVariants.{Text}
use Rattle.parser.proofs.MoveLaws.{text_sound}
use Rattle.parse.proofs.RoomLaws.{begins, starts_text, starts_free, next_made, text_made}
use Rattle.parse.proofs.SeqLaws.{after_none}
use Rattle.parse.proofs.WayLaws.{text_is}
use native.Mathlib.Omega.{arith}
use Rattle.parse.proofs.parse_text.Goals as goal

pub parse_text-t-requires : goal.parse_text-t-requires
parse_text-t-requires c =
    let n = (begins c.requires.0 c.requires.1 c.next_token-begin.ensures) in
    n.sound

pub make_leaf-requires : goal.make_leaf-requires
make_leaf-requires c =
    let t = rw (← c.parse_text-t.ensures) at (text_sound c.args.s.now _ (begins c.requires.0 c.requires.1 c.next_token-begin.ensures).sound) in
    let u = t.rises in
    let i = t.inside in
    let l = c.requires.0.long in
    (starts_free 1 (starts_text (begins c.requires.0 c.requires.1 c.next_token-begin.ensures) c.parse_text-t.ensures) (omega arith), (omega arith, omega arith))

pub returns : goal.returns
returns c =
    after_none _ _ c.args.p _ _ _ c.make_leaf.result (text_made c.args.s.now _ c.parse_text-t.ensures ∙ next_made c.args.s.now c.args.p c.next_token-begin.ensures) c.make_leaf.ensures (text_is c.args.s.now (λ a e. Text a e) c.args.p c.next_token-begin.ensures c.parse_text-t.ensures)
