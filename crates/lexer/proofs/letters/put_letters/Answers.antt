use Prim.Native.Nat.{◌-◌}
use lib.ListN.{length}
use Rattle.text.specs.Utf8.{encode}
use Rattle.text.specs.Xml.{in_text}
use Rattle.text.proofs.PutLaws.{putting_none, putting_room, putting_more, putting_all}
use Rattle.lexer.specs.Letters.{letters, encode_all}
use Rattle.lexer.proofs.LettersLaws.{reading_none, reading_more, left, left_all, left_none, left_more}
use Rattle.lexer.proofs.letters.put_letters.Goals as goal

pub loop-letter-init : goal.loop-letter-init
loop-letter-init c =
    let t = c.args.t.now in
    (length t, reading_none t, rw (← left_all c.args.dialect t) (putting_none c.args.out.now (in_text c.args.dialect (encode_all (letters t)))))

pub put_character-requires : goal.put_character-requires
put_character-requires c =
    let d = c.args.dialect in
    let l = c.in-Some.letter in
    let v = c.loop-letter.invariant in
    putting_room (in_text d (encode l.code)) (left d c.args.t.now l.end (v.0 - 1)) c.requires (rw (left_more d v.1 l c.in-Some.ensures) at v.2)

pub loop-letter-preserved : goal.loop-letter-preserved
loop-letter-preserved c =
    let d = c.args.dialect in
    let l = c.in-Some.letter in
    let v = c.loop-letter.invariant in (
      v.0 - 1,
      reading_more v.1 l c.in-Some.ensures,
      putting_more (in_text d (encode l.code)) (left d c.args.t.now l.end (v.0 - 1)) c.requires (rw (left_more d v.1 l c.in-Some.ensures) at v.2) c.put_character.ensures,
    )

pub returns : goal.returns
returns c =
    let v = c.loop-letter.invariant in
    putting_all (rw (left_none c.args.dialect c.args.t.now c.loop-letter.i v.0 c.in_default.ensures) at v.2)
