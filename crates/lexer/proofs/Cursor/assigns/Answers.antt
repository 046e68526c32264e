-- `lexer::Cursor::assigns` meets its contract.
use mathlib.Core.Path.{◌≡◌, ◌∙◌}
use Prim.Native.Nat.{◌-◌}
use lib.ListN.{length, take, drop, length-drop}
use lib.Seq.{take_all}
use native.Mathlib.Omega.{arith}
use Rattle.lexer.proofs.NameLaws.{assigns_starts}
use Rattle.lexer.proofs.Cursor.assigns.Goals as goal

pub returns : goal.returns
returns c =
    let s = c.args.s.now in
    let at = c.args.self.at in
    let all : take (length s - at) (drop at s) ≡ drop at s = take_all (length s - at) (drop at s) (omega (arith, length-drop at s)) in
    (rw all at c.starts_with.ensures.value) ∙ assigns_starts (drop at s)
