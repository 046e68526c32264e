use mathlib.Core.Path.{◌≡◌, refl, sym}
use Prim.Native.Nat.{◌+◌, ◌-◌}
use mathlib.Core.List.{append_assoc}
use lib.ListN.{length, take, drop}
use borrow.Rule.Slice.PartMut.{put_mid, Post-is}
use native.Mathlib.Omega.{arith}
use Rattle.text.specs.Put.{put}
use Rattle.text.proofs.put.Output.put.Goals as goal

pub returns : goal.returns
unfolding put
returns c =
    let o = c.args.self.now.bytes.now in
    let at = c.args.self.now.at in
    let bs = c.args.piece.now in
    let bytes : put_mid at (at + length bs - at) o c.copy.new.place ≡ put o at bs = rw (c.copy.ensures, Post-is at (at + length bs) o (omega arith)) (sym (append_assoc (take at o) bs (drop (at + length bs) o))) in
    record { same = refl; puts = record { place = refl; output = bytes } }
