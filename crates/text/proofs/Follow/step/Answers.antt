-- `text::Follow::step` meets its contract: where nothing is pending the byte begins a row, else it is in the next range or not.
use Rattle.text.specs.Utf8.{◌to◌}
use Rattle.text.proofs.Utf8Laws.{inside, beneath, beyond, goes_first, goes_next, goes_not}
use Rattle.text.proofs.FollowLaws.{pending_more}
use Rattle.text.proofs.Follow.step.Goals as goal
use Rattle.text.proofs.Follow.step.Goals.{then-b-self-via-then-b-self, then-b-self-via-else-b-self+then-self-b}

pub returns-then-self-eq0 : goal.returns-then-self-eq0
returns-then-self-eq0 c = λ l. rw (c.if-self-eq0.true, c.first_byte.ensures) (goes_first c.args.b l)

pub returns-then-b-self : goal.returns-then-b-self
returns-then-b-self c =
    let f = c.args.self in
    λ l. rw (pending_more _ _ _ c.if-self-eq0.false) (goes_not _ _ _ l (elim c.then-b-self.branch [
      | then-b-self-via-then-b-self w ↦ beneath (f.low to f.high) _ w.if-b-self.true
      | then-b-self-via-else-b-self+then-self-b w ↦ beyond (f.low to f.high) _ w.if-self-b.true
    ]))

pub returns : goal.returns
returns c =
    let f = c.args.self in
    λ l. rw (pending_more _ _ _ c.if-self-eq0.false, c.new.ensures) (goes_next _ _ _ l (inside (f.low to f.high) _ c.if-b-self.false c.if-self-b.false))
