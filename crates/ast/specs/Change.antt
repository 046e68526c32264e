-- Records with one field changed.
-- Assumes nothing.
use Rattle.std.specs.Prelude.{ℕ}
use Rattle.ast.specs.declared.Record.{Record}

-- the record r with another next
unfoldable pub with_next : Record → ℕ → Record
with_next r n = record {
  tag = r.tag;
  attr = r.attr;
  a = r.a;
  b = r.b;
  c = r.c;
  next = n;
  x = r.x;
  y = r.y;
}

-- the record r with another attribute
unfoldable pub with_attr : Record → ℕ → Record
with_attr r v = record {
  tag = r.tag;
  attr = v;
  a = r.a;
  b = r.b;
  c = r.c;
  next = r.next;
  x = r.x;
  y = r.y;
}
