use mathlib.Core.Path.{◌≡◌, sym, ◌∙◌}
use mathlib.Core.List.{List, [], ◌∷◌}
use Prim.Native.Nat.{ℕ}
use mathlib.Core.Option.{some}
use lib.ListN.{get_or, drop_of_length-le}
use Rattle.text.specs.Utf8.{goes_on, well_formed}
use Rattle.text.specs.Follow.{pending, ranges, after}
use Rattle.text.proofs.Utf8Laws.{goes_first, goes_ascii}
use Rattle.text.proofs.AsciiLaws.{ascii_well}
use Rattle.text.proofs.FollowLaws.{goes_on_lem, goes_end}
use Rattle.text.proofs.well_formed.Goals as goal
use Rattle.text.proofs.well_formed.Goals.{then-next-eq0+else-b-lt128, else-next-eq0}

pub returns-then-is_ascii : goal.returns-then-is_ascii
returns-then-is_ascii c = ascii_well c.args.s.now (sym c.is_ascii.ensures ∙ c.if-is_ascii.true)

pub loop-b-init : goal.loop-b-init
unfolding well_formed
loop-b-init c = rw c.new-next.ensures

pub loop-b-preserved-then-b-lt128 : goal.loop-b-preserved-then-b-lt128
loop-b-preserved-then-b-lt128 c =
    c.loop-b.invariant ∙ rw c.if-next-eq0.true (goes_on_lem _ _ [] (some []) c.loop-b-test.true (λ l. goes_ascii _ l c.if-b-lt128.true))

pub returns-in_default : goal.returns-in_default
returns-in_default c =
    let l = c.loop-b in
    let s = c.args.s.now in
    let step : (m : List ℕ) → goes_on (pending l.next.left l.next.low l.next.high) (get_or s l.b-index 0 ∷ m) ≡ after (ranges c.if-next-eq0.behind) m = elim c.if-next-eq0.branch [
      | then-next-eq0+else-b-lt128 w ↦ λ m. rw (w.if-next-eq0.true, w.behind-is, w.first_byte-behind.ensures) (goes_first _ m)
      | else-next-eq0 w ↦ λ m. rw w.behind-is (w.step-behind.ensures m)
    ] in
    sym (l.invariant ∙ rw c.in_default.is at (goes_on_lem s l.b-index _ (ranges c.if-next-eq0.behind) c.loop-b-test.true step))

pub loop-b-preserved : goal.loop-b-preserved
loop-b-preserved c =
    let l = c.loop-b in
    let s = c.args.s.now in
    let step : (m : List ℕ) → goes_on (pending l.next.left l.next.low l.next.high) (get_or s l.b-index 0 ∷ m) ≡ after (ranges c.if-next-eq0.behind) m = elim c.if-next-eq0.branch [
      | then-next-eq0+else-b-lt128 w ↦ λ m. rw (w.if-next-eq0.true, w.behind-is, w.first_byte-behind.ensures) (goes_first _ m)
      | else-next-eq0 w ↦ λ m. rw w.behind-is (w.step-behind.ensures m)
    ] in
    l.invariant ∙ rw c.in-Some.is at (goes_on_lem s l.b-index _ (ranges c.if-next-eq0.behind) c.loop-b-test.true step)

pub returns : goal.returns
returns c =
    let l = c.loop-b in
    goes_end l.next.left l.next.low l.next.high ∙ sym (rw (drop_of_length-le c.args.s.now c.loop-b-test.false) at l.invariant)
