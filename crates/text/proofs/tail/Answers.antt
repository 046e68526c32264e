use mathlib.Core.Path.{◌≡◌, refl, sym, ◌∙◌}
use Prim.Native.Nat.{◌+◌, ◌-◌}
use native.Mathlib.Numerals.{add-one}
use lib.Dec.{lit≤}
use mathlib.Core.Bool.{false}
use Rattle.text.specs.Utf8.{◌to◌, within}
use Rattle.text.proofs.Utf8Laws.{inside, beneath, beyond}
use Rattle.text.proofs.FollowLaws.{read_done, read_end, read_not, read_more, room_begins, room_more}
use native.Mathlib.Omega.{arith}
use Rattle.text.proofs.tail.Goals as goal
use Rattle.text.proofs.tail.Goals.{then-b-low-via-then-b-low, then-b-low-via-else-b-low+then-high-b}

pub loop-i-init : goal.loop-i-init
loop-i-init c =
    let e : c.args.next.left - 0 ≡ c.args.next.left = omega arith in
    rw e (refl, c.requires.1, room_begins _ _ c.requires.0 c.requires.2)

pub returns-in_default : goal.returns-in_default
returns-in_default c =
    let l = c.loop-i in
    c.replacement.ensures ∙ sym (l.invariant.0 ∙ read_end _ _ _ _ _ _ _ (λ h. omega arith) c.in_default.ensures.lookup.3)

pub returns-then-b-low : goal.returns-then-b-low
returns-then-b-low c =
    let l = c.loop-i in
    let k = c.in-Some.ensures.lookup.3 in
    let out : within (l.low to l.high) c.in-Some.field-0.now ≡ false = elim c.then-b-low.branch [
      | then-b-low-via-then-b-low w ↦ beneath (l.low to l.high) _ w.if-b-low.true
      | then-b-low-via-else-b-low+then-high-b w ↦ beyond (l.low to l.high) _ w.if-high-b.true
    ] in
    c.replacement-then-b-low.ensures ∙ sym (l.invariant.0 ∙ read_not _ _ _ _ _ _ _ (λ h. omega arith) k.0 (rw (← k.1 0) out))

pub overflow_mul-value : goal.overflow_mul-value
overflow_mul-value c =
    let l = c.loop-i in
    omega (arith, room_more (c.args.next.left - l.i) l.value 0 (λ h. omega arith) l.invariant.2 (omega arith))

pub overflow_add-value : goal.overflow_add-value
overflow_add-value c =
    let l = c.loop-i in
    omega (arith, room_more (c.args.next.left - l.i) l.value c.from.result (λ h. omega arith) l.invariant.2 (omega (arith, c.in-Some.ensures.lookup.3.1 0, c.type_inv.rest l.i)))

pub loop-i-preserved : goal.loop-i-preserved
loop-i-preserved c =
    let l = c.loop-i in
    let left = c.args.next.left - l.i in
    let more : left ≡ 0 → ⊥ = λ h. omega arith in
    let e : c.args.next.left - (l.i + 1) ≡ left - 1 = omega arith in
    let k = c.in-Some.ensures.lookup.3 in
    let here = inside (l.low to l.high) _ c.if-b-low.false c.if-high-b.false in
    rw e (
      l.invariant.0 ∙ rw (c.from.ensures, k.1 0) (read_more _ _ _ _ _ _ _ more k.0 (rw (k.1 0) at here)),
      λ h. lit≤ tt,
      (room_more left l.value c.from.result more l.invariant.2 (omega (arith, k.1 0, c.type_inv.rest l.i))).0,
    )

pub returns : goal.returns
returns c =
    let l = c.loop-i in
    rw (c.from-count.ensures, add-one) (sym (l.invariant.0 ∙ read_done c.args.rest.now l.i _ _ _ _ _ (omega arith)))
