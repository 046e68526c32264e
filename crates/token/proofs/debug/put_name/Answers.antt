use mathlib.Core.Path.{sym, ap, ◌∙◌}
use Rattle.std.specs.Prelude.{◌+◌, drop, get_or}
use borrow.Author.Tests.{eqb-true, eqb-false}
use Rattle.text.specs.Xml.{in_text}
use Rattle.text.proofs.PutLaws.{putting_none, putting_room, putting_more, putting_all, room_as, puts_as}
use Rattle.token.specs.Debug.{escapes, escape_by, escape}
use Rattle.token.proofs.DebugLaws.{twice_next, twice_none, nul_none, nul_some}
use Rattle.token.proofs.debug.put_name.Goals as goal

pub put_byte-requires : goal.put_byte-requires
put_byte-requires c =
    let none = eqb-true _ _ (sym c.is_empty.ensures ∙ c.if-is_empty.true) in
    room_as (ap (in_text c.args.dialect) (nul_none c.args.name.now none)) c.requires

pub returns-then-is_empty : goal.returns-then-is_empty
returns-then-is_empty c =
    let none = eqb-true _ _ (sym c.is_empty.ensures ∙ c.if-is_empty.true) in
    puts_as (ap (in_text c.args.dialect) (nul_none c.args.name.now none)) c.put_byte.ensures

pub loop-b-init : goal.loop-b-init
loop-b-init c = putting_none c.args.out.now (in_text c.args.dialect (escape (escape c.args.name.now)))

pub put_byte-requires-in-loop-b : goal.put_byte-requires-in-loop-b
put_byte-requires-in-loop-b c =
    let d = c.args.dialect in
    let l = c.args.name.now in
    let i = c.loop-b.b-index in
    let some = nul_some l (eqb-false _ _ (sym c.is_empty.ensures ∙ c.if-is_empty.false)) in
    putting_room (in_text d (escape (escape_by escapes (get_or l i 0)))) (in_text d (escape (escape (drop (i + 1) l)))) (rw some at c.requires)
    (rw (twice_next d l i c.loop-b-test.true) at c.loop-b.invariant)

pub loop-b-preserved : goal.loop-b-preserved
loop-b-preserved c =
    let d = c.args.dialect in
    let l = c.args.name.now in
    let i = c.loop-b.b-index in
    let some = nul_some l (eqb-false _ _ (sym c.is_empty.ensures ∙ c.if-is_empty.false)) in
    putting_more (in_text d (escape (escape_by escapes (get_or l i 0)))) (in_text d (escape (escape (drop (i + 1) l)))) (rw some at c.requires)
    (rw (twice_next d l i c.loop-b-test.true) at c.loop-b.invariant) c.put_byte-in-loop-b.ensures

pub returns : goal.returns
returns c =
    let l = c.args.name.now in
    let some = nul_some l (eqb-false _ _ (sym c.is_empty.ensures ∙ c.if-is_empty.false)) in
    rw some (putting_all (rw (twice_none c.args.dialect l c.loop-b.b-index c.loop-b-test.false) at c.loop-b.invariant))
