-- Escapes go byte by byte, a graphic character stands as itself, and of a text escaped twice a dialect changes only what XML reads as markup.
-- Assumes nothing.
use Rattle.std.specs.Prelude.{◌≡◌, ℕ, suc, Option, Some, None, ◌+◌, ◌<◌, ◌≤◌, true, false, List, [], ◌∷◌, ◌++◌, length, get_or}
use mathlib.Core.Path.{refl, sym, ap, ◌∙◌}
use mathlib.Core.Logic.{inl, inr}
use mathlib.Core.List.{append_assoc, append-nil}
use lib.ListN.{drop, drop_of_length-le, length-append}
use lib.Seq.{drop-cons}
use native.Mathlib.Numerals.{add-one}
use Rattle.std.specs.Borrow.{Bor}
use native.Mathlib.Omega.{arith}
use borrow.Author.Tests.{le-ltb, ne_eqb}
use types.Run.{OneOf}
use Rattle.text.specs.declared.Dialect.{Dialect}
use Rattle.text.specs.Utf8.{encode}
use Rattle.text.specs.Xml.{xml_escape, xml_text, in_text, Reference}
use Rattle.text.specs.Examples.{text_opens}
use Rattle.text.specs.Text.{bytes, part}
use Rattle.text.proofs.Cases.{never}
use Rattle.text.proofs.Keys.{among, outside}
use Rattle.text.proofs.Tabled.{tab, each}
use Rattle.text.proofs.XmlLaws.{text_append, same_text}
use Rattle.token.specs.declared.Undefined.{Undefined}
use Rattle.token.specs.Debug.{digit, hexadecimal, control, escapes, escape_by, escape, or_nul, command_name, variant_name, command_text, debug, Stands}

-- an escape for another byte does not apply
miss : (k : ℕ) (t : List ℕ) (es : List (ℕ × List ℕ)) (b : ℕ) → (b ≡ k → ⊥) → escape_by ((k, t) ∷ es) b ≡ escape_by es b
unfolding escape_by
miss k t es b other = simp (escape_by, ne_eqb b k other)

unescaped : (b : ℕ) → 32 ≤ b → (b ≡ 127 → ⊥) → escape_by [] b ≡ b ∷ []
unfolding escape_by control
unescaped b low other = simp (escape_by, control, le-ltb b 32 low, ne_eqb b 127 other)

pub plain_byte : (b : ℕ) → 32 ≤ b → (b ≡ 34 → ⊥) → (b ≡ 92 → ⊥) → (b ≡ 127 → ⊥) → escape_by escapes b ≡ b ∷ []
unfolding escapes
plain_byte b low quote back delete =
    miss 34 _ _ b quote
    ∙ miss 92 _ _ b back
    ∙ miss 0 _ _ b (λ e. omega arith)
    ∙ miss 9 _ _ b (λ e. omega arith)
    ∙ miss 10 _ _ b (λ e. omega arith)
    ∙ miss 13 _ _ b (λ e. omega arith)
    ∙ unescaped b low delete

pub plain_twice : (b : ℕ) → escape_by escapes b ≡ b ∷ [] → escape (escape_by escapes b) ≡ b ∷ []
unfolding escape
plain_twice b e = rw (e, escape, e)

pub escape_append : (l m : List ℕ) → escape (l ++ m) ≡ escape l ++ escape m
unfolding escape
escape_append [] m = refl
escape_append (b ∷ l) m = rw (escape_append l m) (sym (append_assoc (escape_by escapes b) (escape l) (escape m)))

-- ---- in a dialect

-- a byte that XML reads as markup stands as itself until XML's reference takes its place
abbrev pub markup : List ℕ
markup = 38 ∷ 60 ∷ 62 ∷ []

abbrev twice : ℕ → List ℕ
twice b = escape (escape_by escapes b)

-- a text that stands for such a byte in the strict dialect
marked_at : (k b : ℕ) (r : Option (Bor (List ℕ))) → b ≡ k → (encode k ≡ xml_text (encode k) → ⊥) → xml_text (encode k) ≡ xml_text (twice k) → Reference Dialect.Strict b r
    → Stands (in_text Dialect.Strict (twice b)) b r
unfolding in_text
marked_at k b (Some text) e some same r = rw e (rw e at r ∙ same)
marked_at k b None e some same r = absurd (some (rw e at r))

pub marked : (b : ℕ) (r : Option (Bor (List ℕ))) → OneOf markup b → Reference Dialect.Strict b r → Stands (in_text Dialect.Strict (twice b)) b r
unfolding text_opens xml_text xml_escape escape escapes escape_by control
marked b w (inl e) r = marked_at 38 b w e (λ z. never cc) refl r
marked b w (inr (inl e)) r = marked_at 60 b w e (λ z. never cc) refl r
marked b w (inr (inr e)) r = marked_at 62 b w e (λ z. never cc) refl r

-- .. and one that stands for it in each dialect: in the old one it stands as itself
marked_old : (k b : ℕ) (r : Option (Bor (List ℕ))) → b ≡ k → encode k ≡ twice k → twice k ≡ k ∷ [] → Reference Dialect.Old b r → Stands (in_text Dialect.Old (twice b)) b r
unfolding in_text
marked_old k b (Some text) e same stays r = rw e (rw e at r ∙ same)
marked_old k b None e same stays r = rw e stays

pub marked_in : (d : Dialect) (b : ℕ) (r : Option (Bor (List ℕ))) → OneOf markup b → Reference d b r → Stands (in_text d (twice b)) b r
unfolding text_opens escape escapes escape_by control
marked_in Dialect.Old b w (inl e) r = marked_old 38 b w e refl refl r
marked_in Dialect.Old b w (inr (inl e)) r = marked_old 60 b w e refl refl r
marked_in Dialect.Old b w (inr (inr e)) r = marked_old 62 b w e refl refl r
marked_in Dialect.Strict b w one r = marked b w one r

-- no other byte is changed by XML, nor is its escape: one test of all bytes
abbrev unless : ℕ → List ℕ → List ℕ
unless b l = elim (among markup b) [ true ↦ [] | false ↦ l ]

all_unmarked : tab (λ b. unless b (xml_text (twice b))) 256 ≡ tab (λ b. unless b (twice b)) 256
unfolding text_opens xml_text xml_escape digit hexadecimal escape escapes escape_by control
all_unmarked = refl

pub unmarked : (b : ℕ) → b < 256 → (OneOf markup b → ⊥) → in_text Dialect.Strict (twice b) ≡ twice b
unfolding in_text
unmarked b h other =
    let none = outside markup b (((tt, λ e. other (inr (inr e))), λ e. other (inr (inl e))), λ e. other (inl e)) in
    let q = each (λ i. unless i (xml_text (twice i))) (λ i. unless i (twice i)) 256 all_unmarked b h in
    rw (none, unless) at q

-- so no dialect changes another byte's escape
module _ (b : ℕ) (high : b < 256) (ampersand : b ≡ 38 → ⊥) (less : b ≡ 60 → ⊥) (greater : b ≡ 62 → ⊥) where
  no_markup : OneOf markup b → ⊥
  no_markup (inl e) = ampersand e
  no_markup (inr (inl e)) = less e
  no_markup (inr (inr e)) = greater e

  pub unmarked_in : (d : Dialect) → in_text d (twice b) ≡ twice b
  unfolding in_text
  unmarked_in Dialect.Old = refl
  unmarked_in Dialect.Strict = unmarked b high no_markup

-- and a byte from 64 on, but the backslash and DEL, stands as itself
pub letter_stays : (b : ℕ) → 64 ≤ b → b < 256 → (b ≡ 92 → ⊥) → (b ≡ 127 → ⊥) → (d : Dialect) → in_text d (twice b) ≡ b ∷ []
letter_stays b low high back delete d =
    unmarked_in b high (λ e. omega arith) (λ e. omega arith) (λ e. omega arith) d
    ∙ plain_twice b (plain_byte b (omega arith) (λ e. omega arith) back delete)

-- a byte escaped twice, and the first of a part
pub twice_cons : (b : ℕ) (l : List ℕ) → escape (escape (b ∷ l)) ≡ escape (escape_by escapes b) ++ escape (escape l)
unfolding escape
twice_cons b l = escape_append (escape_by escapes b) (escape l)

pub twice_next : (d : Dialect) (l : List ℕ) (i : ℕ) → i < length l
    → in_text d (escape (escape (drop i l))) ≡ in_text d (escape (escape_by escapes (get_or l i 0))) ++ in_text d (escape (escape (drop (i + 1) l)))
twice_next d l i h =
    rw (add-one, drop-cons l i 0 h, twice_cons (get_or l i 0) (drop (suc i) l)) (text_append d _ _)

pub next_long : (d : Dialect) (l : List ℕ) (i : ℕ) → i < length l
    → length (in_text d (escape (escape (drop i l)))) ≡ length (in_text d (escape (escape_by escapes (get_or l i 0)))) + length (in_text d (escape (escape (drop (i + 1) l))))
next_long d l i h =
    ap length (twice_next d l i h) ∙ length-append (in_text d (escape (escape_by escapes (get_or l i 0)))) (in_text d (escape (escape (drop (i + 1) l))))

pub twice_none : (d : Dialect) (l : List ℕ) (i : ℕ) → length l ≤ i → in_text d (escape (escape (drop i l))) ≡ []
unfolding escape xml_text
twice_none d l i h = rw (drop_of_length-le l h) (same_text d [] refl)

-- the Debug text of a token that carries no name, which no dialect changes
pub plain_debug : (d : Dialect) (s : List ℕ) (u : Undefined) → ((a e : ℕ) → u ≡ Undefined.Command a e → ⊥)
    → in_text d (escape (debug s u)) ≡ variant_name u
unfolding text_opens xml_escape xml_text escapes escape_by escape control debug variant_name
plain_debug d s Undefined.EOF h = same_text d (bytes "EOF") refl
plain_debug d s Undefined.End h = same_text d (bytes "End") refl
plain_debug d s Undefined.Right h = same_text d (bytes "Right") refl
plain_debug d s Undefined.RBrace h = same_text d (bytes "RBrace") refl
plain_debug d s Undefined.Underscore h = same_text d (bytes "Underscore") refl
plain_debug d s Undefined.Circumflex h = same_text d (bytes "Circumflex") refl
plain_debug d s (Undefined.Command a e) h = absurd (h a e refl)

-- of a command it is that of its name
pub command_debug : (d : Dialect) (s : List ℕ) (a e : ℕ) → in_text d (escape (debug s (Undefined.Command a e))) ≡ command_text d (part a e s)
unfolding debug command_text command_name
command_debug d s a e = refl

-- .. in three pieces
pub command_pieces : (d : Dialect) (name : List ℕ)
    → command_text d name ≡ escape (bytes "Command(\"") ++ in_text d (escape (escape (or_nul name))) ++ escape (bytes "\")")
unfolding text_opens xml_text xml_escape escape escapes escape_by control command_text
command_pieces d l =
    let front = bytes "Command(\"" in
    let name = escape (or_nul l) in
    let back = bytes "\")" in
    ap (in_text d) (escape_append front (name ++ back) ∙ rw (escape_append name back))
    ∙ text_append d (escape front) (escape name ++ escape back)
    ∙ rw (text_append d (escape name) (escape back), same_text d (escape front) refl, same_text d (escape back) refl)
    (sym (append_assoc (escape front) (in_text d (escape name)) (escape back)))

pub command_long : (d : Dialect) (s : List ℕ) (a e : ℕ)
    → length (in_text d (escape (debug s (Undefined.Command a e)))) ≡ 13 + length (in_text d (escape (escape (or_nul (part a e s)))))
unfolding text_opens escapes escape_by escape control
command_long d s a e =
    let l = part a e s in
    let front = escape (bytes "Command(\"") in
    let name = in_text d (escape (escape (or_nul l))) in
    let back = escape (bytes "\")") in
    let whole = ap length (command_debug d s a e ∙ command_pieces d l) in
    omega (arith, whole, length-append (front ++ name) back, length-append front name)

-- the name of a command: none is a NUL
pub nul_none : (l : List ℕ) → length l ≡ 0 → escape (escape (or_nul l)) ≡ escape (escape_by escapes 0)
unfolding or_nul escape
nul_none [] h = simp append-nil
nul_none (b ∷ l) h = absurd (omega arith)

pub nul_some : (l : List ℕ) → (length l ≡ 0 → ⊥) → or_nul l ≡ l
unfolding or_nul
nul_some [] h = absurd (h refl)
nul_some (b ∷ l) h = refl
