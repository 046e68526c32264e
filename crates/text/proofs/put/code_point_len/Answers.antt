-- `text::put::code_point_len` meets its contract.
use mathlib.Core.Path.{sym, ap}
use lib.ListN.{length}
use Rattle.text.proofs.EncodeLaws.{encode_1, encode_2, encode_3, encode_4}
use native.Mathlib.Omega.{arith}
use Rattle.text.proofs.put.code_point_len.Goals as goal

pub returns-in-0-to-127 : goal.returns-in-0-to-127
returns-in-0-to-127 c = sym (ap length (encode_1 c.args.c (omega arith)))

pub returns-in-128-to-2047 : goal.returns-in-128-to-2047
returns-in-128-to-2047 c = sym (ap length (encode_2 c.args.c (omega arith) (omega arith)))

pub returns-in-2048-to-65535 : goal.returns-in-2048-to-65535
returns-in-2048-to-65535 c = sym (ap length (encode_3 c.args.c (omega arith) (omega arith)))

pub returns-in_default : goal.returns-in_default
returns-in_default c = sym (ap length (encode_4 c.args.c (omega arith)))
