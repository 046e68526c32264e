-- `text::put::Output::put_code_point` meets its contract.
use Rattle.text.proofs.EncodeLaws.{encode_1, encode_2, encode_3, encode_4}
use Rattle.text.proofs.put.Output.put_code_point.Goals as goal

pub put-requires : goal.put-requires
put-requires c = rw (encode_1 c.args.c c.if-c-lt128.true) at (c.requires)

pub returns-then-c-lt128 : goal.returns-then-c-lt128
returns-then-c-lt128 c = rw (encode_1 c.args.c c.if-c-lt128.true) c.put.ensures

pub put-requires-then-c-lt2048 : goal.put-requires-then-c-lt2048
put-requires-then-c-lt2048 c = rw (encode_2 c.args.c c.if-c-lt128.false c.if-c-lt2048.true) at (c.requires)

pub returns-then-c-lt2048 : goal.returns-then-c-lt2048
returns-then-c-lt2048 c = rw (encode_2 c.args.c c.if-c-lt128.false c.if-c-lt2048.true) c.put-then-c-lt2048.ensures

pub put-requires-then-c-lt65536 : goal.put-requires-then-c-lt65536
put-requires-then-c-lt65536 c = rw (encode_3 c.args.c c.if-c-lt2048.false c.if-c-lt65536.true) at (c.requires)

pub returns-then-c-lt65536 : goal.returns-then-c-lt65536
returns-then-c-lt65536 c =
    rw (encode_3 c.args.c c.if-c-lt2048.false c.if-c-lt65536.true) c.put-then-c-lt65536.ensures

pub put-requires-2 : goal.put-requires-2
put-requires-2 c = rw (encode_4 c.args.c c.if-c-lt65536.false) at (c.requires)

pub returns : goal.returns
returns c = rw (encode_4 c.args.c c.if-c-lt65536.false) c.put-2.ensures
