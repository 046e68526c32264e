-- Body translation in a manner: the Rust's `convert_content` and `latex_to_mathml`, at the lent sizes.
-- Assumes nothing.
use Rattle.std.specs.Prelude.{not, ◌&&◌, List, ◌++◌, ℕ, ◌*◌, ◌/◌, ltb, length}
use Rattle.text.specs.Utf8.{well_formed}
use Rattle.text.specs.Any.{has_nul}
use Rattle.text.specs.Text.{bytes}
use Rattle.text.specs.Xml.{forbidden}
use Rattle.attribute.specs.declared.DisplayStyle.{DisplayStyle}
use Rattle.attribute.specs.Names.{display_style}
use Rattle.error.specs.declared.Refusal.{Refusal}
use Rattle.ast.specs.Tree.{Nodes}
use Rattle.markup.specs.Print.{print_all}
use Rattle.parser.specs.Parse.{Parsed, parse}
use Rattle.latex2mathml.specs.Outcome.{Outcome, accepted, refused, ◌>>=◌, refuse, body_limit, depth_limit, record_size}
use Rattle.latex2mathml.specs.declared.Manner.{Manner}
use Rattle.latex2mathml.specs.Manner.{is_strict}

unfoldable pub outcome : Parsed Nodes → Outcome Nodes
outcome (Parsed.made ns p) = accepted ns
outcome (Parsed.refused r) = refused r

-- a text has at most `limit` bytes, is well-formed and has no NUL
unfoldable pub checked : ℕ → List ℕ → Outcome (Unit {0})
checked limit s = do
  _ ← refuse (ltb limit (length s)) Refusal.TooLong
  _ ← refuse (not (well_formed s)) Refusal.IllFormed
  refuse (has_nul s) Refusal.NulByte

-- the nodes of a body: the parse is the same in both dialects, and the strict one refuses then what XML 1.0 forbids
unfoldable pub read_body : Manner → List ℕ → Outcome Nodes
read_body m s = do
  nodes ← outcome (parse depth_limit s)
  _ ← refuse (is_strict m.dialect && forbidden s) Refusal.ForbiddenCharacter
  accepted nodes

unfoldable pub convert_content : Manner → List ℕ → Outcome (List ℕ)
convert_content m s = do
  nodes ← read_body m s
  accepted (print_all m.dialect s nodes)

-- the markup of a body in its wrapper
unfoldable pub in_math : DisplayStyle → List ℕ → List ℕ
in_math display mathml =
    bytes "<math xmlns=\"http://www.w3.org/1998/Math/MathML\" display=\"" ++ bytes (display_style display) ++ bytes "\">" ++ mathml ++ bytes "</math>"

unfoldable pub latex_to_mathml : Manner → List ℕ → DisplayStyle → Outcome (List ℕ)
latex_to_mathml m s display = do
  mathml ← convert_content m s
  accepted (in_math display mathml)

-- a store of `store` bytes has fewer records than twice the body's bytes
unfoldable pub store_too_small : ℕ → List ℕ → Outcome (Unit {0})
store_too_small store s = refuse (ltb (store / record_size) (2 * length s)) Refusal.StoreTooSmall

-- the body translation of s, with `store` and `room` bytes lent for the records and the output
unfoldable pub translate : Manner → List ℕ → DisplayStyle → ℕ → ℕ → Outcome (List ℕ)
translate m s display store room = do
  _ ← checked body_limit s
  _ ← store_too_small store s
  mathml ← latex_to_mathml m s display
  _ ← refuse (ltb room (length mathml)) Refusal.OutputTooSmall
  accepted mathml
