-- `parse::finish_prime` meets its contract.
use mathlib.Core.Path.{refl, sym, ◌∙◌}
use Rattle.parse.proofs.RoomLaws.{next_made, next_free}
use Rattle.parse.proofs.SeqLaws.{after_prime, left_alone}
use Rattle.parse.proofs.WayLaws.{prime_is, prime_none}
use native.Mathlib.Omega.{arith}
use Rattle.parse.proofs.finish_prime.Goals as goal

pub make_leaf_second-requires : goal.make_leaf_second-requires
make_leaf_second-requires c =
    let n = next_made c.args.s.now c.args.p c.next_token-after.ensures in
    let b = c.requires.2 in
    (next_free c.args.s.now c.args.p c.next_token-after.ensures (c.requires.1 (sym c.peek_token_is.ensures ∙ c.if-peek_token_is.true)), tt, omega arith, refl)

pub returns-then-peek_token_is : goal.returns-then-peek_token_is
returns-then-peek_token_is c =
    after_prime _ _ c.args.p _ _ _ _ c.make_leaf_second.result (next_made c.args.s.now c.args.p c.next_token-after.ensures) c.make_leaf_second.ensures (λ n. prime_is c.args.s.now n c.args.p (sym c.peek_token_is.ensures ∙ c.if-peek_token_is.true) c.next_token-after.ensures)

pub returns : goal.returns
returns c =
    left_alone _ c.args.p _ _ (λ n. prime_none c.args.s.now n c.args.p (sym c.peek_token_is.ensures ∙ c.if-peek_token_is.false))
