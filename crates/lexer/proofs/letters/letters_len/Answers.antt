use mathlib.Core.Path.{ap, ◌∙◌}
use Prim.Native.Nat.{◌-◌}
use lib.ListN.{length, length-append}
use Rattle.text.specs.Utf8.{encode}
use Rattle.text.specs.Xml.{in_text}
use Rattle.lexer.proofs.LettersLaws.{reading_none, reading_more, left, left_all, left_none, left_more}
use native.Mathlib.Omega.{arith}
use Rattle.lexer.proofs.letters.letters_len.Goals as goal

pub loop-letter-init : goal.loop-letter-init
loop-letter-init c =
    let t = c.args.t.now in
    (length t, reading_none t, omega (arith, ap length (left_all c.args.dialect t)))

pub overflow_add-n : goal.overflow_add-n
overflow_add-n c =
    let d = c.args.dialect in
    let l = c.in-Some.letter in
    let v = c.loop-letter.invariant in
    let more = ap length (left_more d v.1 l c.in-Some.ensures) ∙ length-append (in_text d (encode l.code)) (left d c.args.t.now l.end (v.0 - 1)) in
    omega (arith, more, v.2, c.character_len-n.ensures)

pub loop-letter-preserved : goal.loop-letter-preserved
loop-letter-preserved c =
    let d = c.args.dialect in
    let l = c.in-Some.letter in
    let v = c.loop-letter.invariant in
    let more = ap length (left_more d v.1 l c.in-Some.ensures) ∙ length-append (in_text d (encode l.code)) (left d c.args.t.now l.end (v.0 - 1)) in
    (v.0 - 1, reading_more v.1 l c.in-Some.ensures, omega (arith, more, v.2, c.character_len-n.ensures))

pub returns : goal.returns
returns c =
    let v = c.loop-letter.invariant in
    let end = ap length (left_none c.args.dialect c.args.t.now c.loop-letter.i v.0 c.in_default.ensures) in
    omega (arith, v.2, end)
