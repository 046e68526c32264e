-- The markup of a body that is parsed: measured, then written.
-- Assumes nothing.
use mathlib.Core.Path.{◌≡◌, ◌∙◌, ap}
use mathlib.Core.Bool.{Bool, true}
use mathlib.Core.List.{List}
use Prim.Native.Nat.{ℕ, ◌+◌, ◌^◌, ◌≤◌, ◌<◌}
use native.Mathlib.Omega.{arith}
use native.Mathlib.Nat.{le_refl}
use lib.ListN.{length}
use Rattle.std.specs.Prelude.{Ok, Err}
use Rattle.text.specs.Put.{RoomAt, PutsAt}
use Rattle.attribute.specs.declared.DisplayStyle.{DisplayStyle}
use Rattle.error.specs.declared.Refusal.{Refusal}
use Rattle.markup.specs.Print.{print_all}
use Rattle.parse.specs.Body.{StoresBody}
use Rattle.parse.proofs.LoopLaws.{count_few}
use Rattle.print.specs.Measure.{Measurable}
use Rattle.print.specs.Shown.{NodesAt}
use Rattle.latex2mathml.specs.declared.Manner.{Manner}
use Rattle.latex2mathml.specs.Outcome.{accepted}
use Rattle.latex2mathml.specs.Translate.{checked, in_math, translate}
use Rattle.latex2mathml.specs.Replace.{translate_body}
use Rattle.latex2mathml.specs.Written.{PrintableAt, PrintsAt, read_nodes, MathLong, Gives}
use Rattle.latex2mathml.specs.Laid.{RoomFor, LaidThere}
use Rattle.latex2mathml.proofs.TranslateLaws.{nodes_read, body_translated, body_too_large, body_fits, gives_nothing, gives_markup, math_short}
use Rattle.latex2mathml.proofs.LayLaws.{laid_puts, laid_beyond, room_sure}

module _ {s st : List ℕ} {first n hi : ℕ} (manner : Manner) (store : ℕ) (b : StoresBody s st (read_nodes manner s store) first n hi) where
  there : NodesAt s st hi first n b.nodes
  there = record {
    lo = 0;
    prev = b.prev;
    last = b.last;
    hi = hi;
    held = b.held;
    many = b.many;
    inside = b.inside;
    near = le_refl hi;
    fits = b.fits;
  }

  short : length s ≤ 4096
  short = (nodes_read manner s store b.is).short

  pub few_nodes : n < 2 ^ 32
  few_nodes =
      let c = count_few st 0 first b.prev b.last hi b.nodes b.held in
      let h = short in
      let m = b.many in
      let f = b.few in
      omega arith

  -- the records can be measured
  pub measurable : Measurable s st hi
  measurable =
      let f = b.few in
      let h = short in
      record {
        nodes = b.nodes;
        f = first;
        p = b.prev;
        l = b.last;
        held = b.held;
        inside = b.inside;
        fits = b.fits;
        few = omega arith;
        short = short;
      }

  module _ (display : DisplayStyle) where
    abbrev markup : List ℕ
    markup = in_math display (print_all manner.dialect s b.nodes)

    small : length markup < 2 ^ 64
    small =
        let h = short in
        let f = b.few in
        let z = b.size in
        let m = math_short manner.dialect s display b.nodes short (omega arith) in
        omega arith

    module _ {m : ℕ} (measured : MathLong manner.dialect display s st hi m) where
      long : m ≡ length markup
      long = measured.long first b.prev b.last b.nodes b.held

      -- there is room to write it where the output is long enough
      room : (o : List ℕ) → m ≤ length o → RoomAt o 0 (length markup)
      room o fits =
          let l = long in
          let k = small in
          record { inside = omega arith }

      pub able_write : (o : List ℕ) → m ≤ length o → PrintableAt (NodesAt s st hi first n) (λ ns. in_math display (print_all manner.dialect s ns)) o 0
      able_write o fits = record { what = b.nodes; there = there; room = room o fits }

      pub too_large : {o : List ℕ} → checked 4096 s ≡ accepted tt → length o < m → Gives (translate manner s display store (length o)) (Err Refusal.OutputTooSmall) o o
      too_large {o} e lt =
          let l = long in
          gives_nothing o (body_too_large manner s display store (length o) e b.is (omega arith))

      pub written : {o o' : List ℕ} {r : ℕ} → checked 4096 s ≡ accepted tt → m ≤ length o → PrintsAt (NodesAt s st hi first n) (λ ns. in_math display (print_all manner.dialect s ns)) o o' 0 r
          → Gives (translate manner s display store (length o)) (Ok m) o o'
      written {o} {o'} {r} e fits p =
          let l = long in
          let q : PutsAt o o' 0 markup r = p.all b.nodes there (room o fits) in
          gives_markup (body_fits manner s display store (length o) e b.is (omega arith)) (omega arith) q

  -- ---- laid at a place, as a body of a document
  module _ (display : DisplayStyle) (sure : Bool) (o : List ℕ) (at : ℕ) (room_for : RoomFor (translate_body manner store display s) sure o at) where
    abbrev text : List ℕ
    text = in_math display (print_all manner.dialect s b.nodes)

    is : translate_body manner store display s ≡ accepted text
    is = body_translated manner s display store b.is

    shows : RoomAt o at (length text) → PrintableAt (NodesAt s st hi first n) (λ ns. in_math display (print_all manner.dialect s ns)) o at
    shows h = record { what = b.nodes; there = there; room = h }

    pub show_sure : sure ≡ true → PrintableAt (NodesAt s st hi first n) (λ ns. in_math display (print_all manner.dialect s ns)) o at
    show_sure e = shows (room_sure (room_for text is) e)

    pub lay_sure : {o' : List ℕ} {r : ℕ} → sure ≡ true
        → PrintsAt (NodesAt s st hi first n) (λ ns. in_math display (print_all manner.dialect s ns)) o o' at r → LaidThere (translate_body manner store display s) o o' at r
    lay_sure e p =
        let room = room_sure (room_for text is) e in
        let q = p.all b.nodes there room in
        let f = room.inside in
        record { text = text; is = is; place = q.place; laid = laid_puts (omega arith) q }

    module _ {m r : ℕ} (measured : MathLong manner.dialect display s st hi m) (place : r ≡ at + m) where
      behind : r ≡ at + length text
      behind = place ∙ ap (λ k. at + k) (measured.long first b.prev b.last b.nodes b.held)

      pub lay_beyond : length o < r → LaidThere (translate_body manner store display s) o o at r
      lay_beyond h =
          let e = behind in
          record { text = text; is = is; place = e; laid = laid_beyond o text at (omega arith) }

      fitting : r ≤ length o → RoomAt o at (length text)
      fitting h =
          let e = behind in
          record { inside = omega arith }

      pub show_fitting : r ≤ length o → PrintableAt (NodesAt s st hi first n) (λ ns. in_math display (print_all manner.dialect s ns)) o at
      show_fitting h = shows (fitting h)

      pub lay_fitting : {o' : List ℕ} {r' : ℕ} → r ≤ length o
          → PrintsAt (NodesAt s st hi first n) (λ ns. in_math display (print_all manner.dialect s ns)) o o' at r' → LaidThere (translate_body manner store display s) o o' at r
      lay_fitting h p =
          let q = p.all b.nodes there (fitting h) in
          let f = (fitting h).inside in
          record { text = text; is = is; place = behind; laid = laid_puts (omega arith) q }

    -- the place behind it is a number of the machine
    pub lay_small : {m : ℕ} → MathLong manner.dialect display s st hi m → at + m < 2 ^ 64
    lay_small measured =
        let e = measured.long first b.prev b.last b.nodes b.held in
        let k = (room_for text is).small in
        omega arith
