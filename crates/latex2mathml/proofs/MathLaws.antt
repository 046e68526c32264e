-- The markup of a body in its wrapper, in pieces.
-- Assumes nothing.
use mathlib.Core.Path.{◌≡◌}
use mathlib.Core.List.{List, [], ◌++◌, append_assoc}
use Prim.Native.Nat.{ℕ, ◌+◌, ◌≤◌}
use native.Mathlib.Omega.{arith}
use lib.ListN.{length, length-append}
use Rattle.text.specs.declared.Dialect.{Dialect}
use Rattle.text.specs.Text.{bytes}
use Rattle.text.specs.Examples.{text_opens}
use Rattle.attribute.specs.declared.DisplayStyle.{DisplayStyle}
use Rattle.attribute.specs.Names.{display_style}
use Rattle.markup.specs.declared.Place.{Place}
use Rattle.markup.specs.Print.{print_all}
use Rattle.print.specs.declared.measure.Measured.{Measured}
use Rattle.text.specs.declared.put.Output.{Output}
use Rattle.print.specs.Shown.{shown_all, Printable, Prints}
use Rattle.print.specs.Measure.{Measures}
use Rattle.print.proofs.PieceLaws.{Between}
use Rattle.print.proofs.ShownLaws.{all_plain}
use Rattle.print.proofs.MeasureLaws.{measured}
use Rattle.latex2mathml.specs.Translate.{in_math}
use Rattle.latex2mathml.specs.Written.{opening, PrintableAt, PrintsAt, MathLong}

grouped : (p q r m e : List ℕ) → p ++ q ++ r ++ m ++ e ≡ (p ++ q ++ r) ++ m ++ e
grouped p q r m e = simp append_assoc

pub math_shown : (d : Dialect) (s : List ℕ) (display : DisplayStyle)
    → Between (λ ns. in_math display (print_all d s ns)) (opening display) (shown_all d Place.Plain s) (bytes "</math>")
unfolding in_math opening
math_shown d s display = record { pieces = λ ns. rw (all_plain d s ns) (grouped (bytes "<math xmlns=\"http://www.w3.org/1998/Math/MathML\" display=\"") (bytes (display_style display)) (bytes "\">") (shown_all d Place.Plain s ns) (bytes "</math>")) }

-- the markup in its wrapper is as long as the wrapper and the markup
math_long : (display : DisplayStyle) (m : List ℕ) → length (in_math display m) ≡ length (in_math display []) + length m
unfolding in_math
math_long display m = simp length-append (omega arith)

pub wrapper_small : (display : DisplayStyle) → length (in_math display []) ≤ 73
unfolding in_math text_opens display_style
wrapper_small DisplayStyle.Block = omega arith
wrapper_small DisplayStyle.Inline = omega arith

-- .. and what is measured over the records is the length of the markup
pub math_measured : {d : Dialect} {s st : List ℕ} {top w : ℕ} {r : Measured} (display : DisplayStyle) → w ≡ length (in_math display []) → Measures d s st top r → MathLong d display s st top (w + r.length)
math_measured {d} {s} {st} {top} {w} {r} display ew m =
    record {
      long = λ f p l ns h.
          let a = measured d s st top f p l ns h in
          let b = m.long in
          let c = math_long display (print_all d s ns) in
          omega arith;
    }

-- what can be printed at a place can be put into an output that begins there, and what is put into it is printed at the place
pub output_able : {T : Type 0} {There : T → Type 0} {text : T → List ℕ} {o : List ℕ} {at : ℕ} (p : Output) → p.bytes.now ≡ o → p.at ≡ at
    → PrintableAt There text o at → Printable There text p
output_able p bytes place h = record { what = h.what; there = h.there; room = record { inside = rw (bytes, place) h.room.inside } }

pub output_prints : {T : Type 0} {There : T → Type 0} {text : T → List ℕ} {o : List ℕ} {at : ℕ} (p : Output) → p.bytes.now ≡ o → p.at ≡ at
    → {p' : Output} → Prints There text p p' → PrintsAt There text o p'.bytes.now at p'.at
output_prints p bytes place h = record {
  all = λ t there room.
      let q = h.all t there (record { inside = rw (bytes, place) room.inside }) in
      rw (← bytes, ← place) q.puts;
}
