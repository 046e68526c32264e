-- `parse::parse_big` meets its contract.
use Rattle.parse.proofs.RoomLaws.{begins, starts_free, next_made}
use Rattle.parse.proofs.SeqLaws.{after_none}
use Rattle.parse.proofs.WayLaws.{big_is}
use native.Mathlib.Omega.{arith}
use Rattle.parse.proofs.parse_big.Goals as goal

pub make_big-requires : goal.make_big-requires
make_big-requires c =
    starts_free 1 (begins c.requires.0 c.requires.1 c.next_token-after.ensures) (omega arith)

pub returns : goal.returns
returns c =
    after_none _ _ c.args.p _ _ _ c.make_big.result (next_made c.args.s.now c.args.p c.next_token-after.ensures) c.make_big.ensures (big_is c.args.s.now c.args.size c.args.p c.next_token-after.ensures)
