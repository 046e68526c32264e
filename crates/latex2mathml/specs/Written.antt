-- What the operations promise: what their answers say, and what each lent buffer holds afterwards.
-- Assumes nothing.
use Rattle.std.specs.Prelude.{◌≡◌, true, false, ◌&&◌, List, ◌++◌, ℕ, length, drop, ⊤, Result, Ok, Err}
use Rattle.text.specs.Text.{bytes}
use Rattle.text.specs.Put.{RoomAt, PutsAt}
use Rattle.text.specs.Xml.{forbidden}
use Rattle.text.specs.declared.Dialect.{Dialect}
use Rattle.attribute.specs.declared.DisplayStyle.{DisplayStyle}
use Rattle.attribute.specs.Names.{display_style}
use Rattle.error.specs.declared.Refusal.{Refusal}
use Rattle.error.specs.Numbers.{number}
use Rattle.ast.specs.Tree.{Nodes}
use Rattle.ast.specs.Held.{HoldsAll}
use Rattle.markup.specs.Print.{print_all}
use Rattle.latex2mathml.specs.declared.Manner.{Manner}
use Rattle.parser.specs.Parse.{Parsed}
use Rattle.parse.specs.Body.{parse_body}
use Rattle.latex2mathml.specs.Outcome.{Outcome, accepted, refused, depth_limit, number_of, bytes_of}
use Rattle.latex2mathml.specs.Manner.{is_strict}
use Rattle.latex2mathml.specs.Translate.{checked, in_math, translate}
use Rattle.latex2mathml.specs.Replace.{replace}

-- a text passes the tests, or the answer is the refusal of the first that it fails
abbrev pub Checks : ℕ → List ℕ → Result ⊤ Refusal → Type 0
Checks limit s (Ok _) = checked limit s ≡ accepted tt
Checks limit s (Err r) = checked limit s ≡ refused r

-- the nodes of the body s, read in a manner with a store of `store` bytes
unfoldable pub read_nodes : Manner → List ℕ → ℕ → Parsed Nodes
read_nodes m s store =
    elim (parse_body depth_limit s store) [
      | Parsed.made ns p ↦
          elim (is_strict m.dialect && forbidden s) [ true ↦ Parsed.refused Refusal.ForbiddenCharacter | false ↦ Parsed.made ns p ]
      | Parsed.refused r ↦ Parsed.refused r
    ]

-- the opening tag of the wrapper
unfoldable pub opening : DisplayStyle → List ℕ
opening display = bytes "<math xmlns=\"http://www.w3.org/1998/Math/MathML\" display=\"" ++ bytes (display_style display) ++ bytes "\">"

-- there is room at a place for the text of something that stands there
pub record PrintableAt {T : Type 0} (There : T → Type 0) (text : T → List ℕ) (o : List ℕ) (at : ℕ) : Type 0 where
  pub what : T
  pub there : There what
  pub room : RoomAt o at (length (text what))

-- of whatever stands there the text is put at a place
pub record PrintsAt {T : Type 0} (There : T → Type 0) (text : T → List ℕ) (o o' : List ℕ) (at r : ℕ) : Type 0 where
  pub all : (t : T) → There t → RoomAt o at (length (text t)) → PutsAt o o' at (text t) r

-- r is the length of the markup in a dialect, in its wrapper, of whatever nodes of the body s fill the first `top` records
pub record MathLong (d : Dialect) (display : DisplayStyle) (s st : List ℕ) (top r : ℕ) : Type 0 where
  pub long : (f p l : ℕ) (ns : Nodes) → HoldsAll st 0 f p l top ns → r ≡ length (in_math display (print_all d s ns))

-- what an answer says: its number, and the length of what was written
unfoldable pub answer_number : Result ℕ Refusal → ℕ
answer_number (Ok n) = 0
answer_number (Err r) = number r

unfoldable pub answer_length : Result ℕ Refusal → ℕ
answer_length (Ok n) = n
answer_length (Err r) = 0

-- the buffer o with the bytes l at its front
unfoldable pub over : List ℕ → List ℕ → List ℕ
over l o = l ++ drop (length l) o

-- a lent buffer is free: it holds any bytes afterwards, as many as before
abbrev pub Free : List ℕ → List ℕ → Type 0
Free b b' = length b' ≡ length b

-- an operation that gives `want` answers r, and the output that was o is o'
pub record Gives (want : Outcome (List ℕ)) (r : Result ℕ Refusal) (o o' : List ℕ) : Type 0 where
  pub number : answer_number r ≡ number_of want
  pub size : answer_length r ≡ length (bytes_of want)
  pub output : o' ≡ over (bytes_of want) o

-- the body translation, with a store of `store` bytes
abbrev pub Translates : Manner → List ℕ → DisplayStyle → ℕ → Result ℕ Refusal → List ℕ → List ℕ → Type 0
Translates m s display store r o o' = Gives (translate m s display store (length o)) r o o'

-- the replacement: besides, the work buffer that was w is w'
pub record Replaces (m : Manner) (document : List ℕ) (store : ℕ) (r : Result ℕ Refusal) (w w' o o' : List ℕ) : Type 0 where
  pub gives : Gives (replace m document store (length w) (length o)).outcome r o o'
  pub work : w' ≡ over (replace m document store (length w) (length o)).work w
