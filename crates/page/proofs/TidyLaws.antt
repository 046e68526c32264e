-- A tidy paragraph that is replaced is its prose as typed, with each formula's body translated alone in its place.
-- Assumes nothing.
use mathlib.Core.Path.{◌≡◌, refl, sym, ◌∙◌, ap}
use mathlib.Core.Bool.{true, false}
use mathlib.Core.List.{List, [], ◌∷◌, ◌++◌, map, flatten, append_assoc}
use Prim.Native.Nat.{ℕ, ◌≤◌}
use native.Mathlib.Omega.{arith}
use lib.Dec.{ltb}
use lib.ListN.{length}
use borrow.Author.Tests.{le-ltb}
use Rattle.text.proofs.Cases.{never}
use Rattle.attribute.specs.declared.DisplayStyle.{DisplayStyle}
use Rattle.error.specs.declared.Refusal.{Refusal}
use Rattle.latex2mathml.specs.declared.Manner.{Manner}
use Rattle.latex2mathml.specs.Outcome.{accepted, ◌>>=◌, refuse, body_limit}
use Rattle.latex2mathml.specs.Translate.{checked, latex_to_mathml, store_too_small, translate}
use Rattle.latex2mathml.specs.Replace.{translate_body, replacement, replace_outcome, replace}
use Rattle.dollars.specs.declared.Delimiter.{Delimiter}
use Rattle.dollars.specs.declared.Delimiter.TheVariants.{Single, Double}
use Rattle.dollars.specs.Dollars.{width}
use Rattle.latex2mathml.specs.Laid.{passed}
use Rattle.latex2mathml.proofs.PlainLaws.{markup_plain}
use Rattle.latex2mathml.proofs.OutcomeLaws.{steps, not_refused}
use Rattle.latex2mathml.proofs.TranslateLaws.{check_gives}
use Rattle.latex2mathml.proofs.ReplaceLaws.{both_accepted, first_accepted, second_passed}
use Rattle.page.specs.Words.{ReplacedBy, dollar_runs, tidy, parts, display_of, Shows, dollars}
use Rattle.page.specs.Demand.{Each, joined, Made}
use Rattle.page.proofs.DollarRunLaws.{joins, cut_apart}
use Rattle.page.proofs.MarkLaws.{places_plain, places_body, places_inline}
use Rattle.page.proofs.PassLaws.{Item, still, body, marked, Finds, Becomes, passed_made}
use Rattle.page.proofs.SpanLaws.{Span, text, maths, part_of, spanned, Readable, Fine, spans_of}

-- ---- bodies

-- what an accepted body says
record Translated (manner : Manner) (store : ℕ) (display : DisplayStyle) (b m : List ℕ) : Type 0 where
  pub short : ltb body_limit (length b) ≡ false
  pub stored : store_too_small store b ≡ accepted tt
  pub markup : latex_to_mathml manner b display ≡ accepted m

translated : (manner : Manner) (store : ℕ) (display : DisplayStyle) (b m : List ℕ) → translate_body manner store display b ≡ accepted m → Translated manner store display b m
unfolding translate_body
translated manner store display b m is =
    let first = not_refused (ltb body_limit (length b)) Refusal.TooLong _ m is in
    let second = steps (store_too_small store b) _ m first.1 in
    record { short = first.0; stored = second.is; markup = second.then }

-- a body of a document is a body translated alone, with room for its markup
pub alone : (manner : Manner) (store : ℕ) (display : DisplayStyle) (b m : List ℕ) (room : ℕ) → Readable b → length m ≤ room
    → translate_body manner store display b ≡ accepted m → translate manner b display store room ≡ accepted m
unfolding translate checked refuse ◌>>=◌
alone manner store display b m room readable fits is =
    let t = translated manner store display b m is in
    rw (translate, checked, t.short, readable.0, readable.1, t.stored, t.markup, le-ltb room (length m) fits)

-- ---- the text of a pass

-- a formula in a pass: a body if its runs are of the pass's width
abbrev item_of : Delimiter → Delimiter → List ℕ → Item
item_of Double Double b = body b
item_of Double Single b = still (dollars 1 ++ (b ++ dollars 1))
item_of Single Double b = still (dollars 2 ++ (b ++ dollars 2))
item_of Single Single b = body b

abbrev item : Delimiter → Span → Item
item delimiter (text t) = still t
item delimiter (maths own b) = item_of delimiter own b

marked_item : (delimiter own : Delimiter) (b : List ℕ) (rest : List Item)
    → marked delimiter (item_of delimiter own b ∷ rest) ≡ dollars (width own) ++ (b ++ (dollars (width own) ++ marked delimiter rest))
marked_item Double Double b rest = refl
marked_item Double Single b rest = simp append_assoc
marked_item Single Double b rest = simp append_assoc
marked_item Single Single b rest = refl

marked_items : (delimiter : Delimiter) (l : List Span) → marked delimiter (map (item delimiter) l) ≡ spanned l
marked_items delimiter [] = refl
marked_items delimiter (text t ∷ l) = ap (λ (r : List ℕ). t ++ r) (marked_items delimiter l)
marked_items delimiter (maths own b ∷ l) = marked_item delimiter own b (map (item delimiter) l) ∙ rw (marked_items delimiter l)

-- pass one finds the runs of two dollars
finds_block : (l : List Span) → Fine l → Finds Double (map (item Double) l)
finds_block [] h = tt
finds_block (text t ∷ l) (h, more) = (λ at. places_plain Double t _ at h, finds_block l more)
finds_block (maths Double b ∷ l) (f, more) =
    (λ at. places_body b _ at f.bare Double (λ e. (f.some, rw (marked_items Double l) f.apart)), finds_block l more)
finds_block (maths Single b ∷ l) (f, more) =
    (λ at. places_inline b _ at f.bare f.some (rw (marked_items Double l) f.apart), finds_block l more)

-- ---- between the passes

-- a span with what pass one made of it
abbrev after_one : Span → List ℕ → Span
after_one (text t) x = text x
after_one (maths Double b) x = text x
after_one (maths Single b) x = maths Single b

abbrev after : List Span → List (List ℕ) → List Span
after [] xs = []
after (s ∷ l) [] = []
after (s ∷ l) (x ∷ xs) = after_one s x ∷ after l xs

module _ (manner : Manner) (store : ℕ) where
  abbrev Block : List Span → List (List ℕ) → Type 0
  Block l xs = Each (Becomes manner store DisplayStyle.Block) (map (item Double) l) xs

  abbrev Inline : List Span → List (List ℕ) → Type 0
  Inline l ys = Each (Becomes manner store DisplayStyle.Inline) (map (item Single) l) ys

  -- the text of pass one
  after_joined : (l : List Span) (xs : List (List ℕ)) → Block l xs → spanned (after l xs) ≡ joined (λ t. t) xs
  unfolding flatten
  after_joined [] [] e = refl
  after_joined [] (x ∷ xs) e = absurd e
  after_joined (s ∷ l) [] e = absurd e
  after_joined (text t ∷ l) (x ∷ xs) (e, more) = ap (λ (r : List ℕ). x ++ r) (after_joined l xs more)
  after_joined (maths Double b ∷ l) (x ∷ xs) (e, more) = ap (λ (r : List ℕ). x ++ r) (after_joined l xs more)
  after_joined (maths Single b ∷ l) (x ∷ xs) (e, more) = rw (e, after_joined l xs more) (simp append_assoc)

  -- each span as both passes leave it
  shows : (l : List Span) (xs ys : List (List ℕ)) → Fine l → Block l xs → Inline (after l xs) ys → Each (Shows manner store) (map part_of l) ys
  unfolding display_of
  shows [] [] [] h e f = tt
  shows [] [] (y ∷ ys) h e f = absurd f
  shows [] (x ∷ xs) ys h e f = absurd e
  shows (s ∷ l) [] ys h e f = absurd e
  shows (s ∷ l) (x ∷ xs) [] h e f = absurd f
  shows (text t ∷ l) (x ∷ xs) (y ∷ ys) (h, more) (e, es) (f, fs) = (f ∙ e, shows l xs ys more es fs)
  shows (maths Double b ∷ l) (x ∷ xs) (y ∷ ys) (h, more) (e, es) (f, fs) =
      (λ room fits. alone manner store DisplayStyle.Block b y room h.readable fits (rw f e), shows l xs ys more es fs)
  shows (maths Single b ∷ l) (x ∷ xs) (y ∷ ys) (h, more) (e, es) (f, fs) =
      (λ room fits. alone manner store DisplayStyle.Inline b y room h.readable fits f, shows l xs ys more es fs)

  -- pass two finds those of one dollar, as pass one printed none
  finds_inline : (l : List Span) (xs : List (List ℕ)) → Fine l → Block l xs → Finds Single (map (item Single) (after l xs))
  finds_inline [] xs h e = tt
  finds_inline (s ∷ l) [] h e = tt
  finds_inline (text t ∷ l) (x ∷ xs) (h, more) (e, es) = (λ at. places_plain Single x _ at (rw e h), finds_inline l xs more es)
  finds_inline (maths Double b ∷ l) (x ∷ xs) (f, more) (e, es) =
      let bare = markup_plain manner b DisplayStyle.Block x f.bare (translated manner store DisplayStyle.Block b x e).markup in
      (λ at. places_plain Single x _ at bare, finds_inline l xs more es)
  finds_inline (maths Single b ∷ l) (x ∷ xs) (f, more) (e, es) =
      (λ at. places_body b _ at f.bare Single (λ z. never cc), finds_inline l xs more es)

  spans_made : (l : List Span) (first m : List ℕ) → Fine l → passed manner store DisplayStyle.Block Double (spanned l) ≡ accepted first
      → passed manner store DisplayStyle.Inline Single first ≡ accepted m → Made (Shows manner store) (λ t. t) (map part_of l) m
  spans_made l first m h is then =
      let one = passed_made manner store DisplayStyle.Block Double (map (item Double) l) first (finds_block l h) (rw (marked_items Double l) is) in
      let same : first ≡ marked Single (map (item Single) (after l one.outs)) =
      one.whole ∙ sym (marked_items Single (after l one.outs) ∙ after_joined l one.outs one.each) in
      let two = passed_made manner store DisplayStyle.Inline Single (map (item Single) (after l one.outs)) m (finds_inline l one.outs h one.each) (rw same at then) in
      record { outs = two.outs; each = shows l one.outs two.outs h one.each two.each; whole = two.whole }

-- ---- the replacement

replaced_is : (manner : Manner) (d : List ℕ) (store work room : ℕ) (m : List ℕ) → (replace manner d store work room).outcome ≡ accepted m → replacement manner d store work ≡ accepted m
unfolding replace replace_outcome
replaced_is manner d store work room m is =
    let s = steps (replacement manner d store work) _ m is in
    let t = not_refused (ltb room (length s.value)) Refusal.OutputTooSmall _ m s.then in
    s.is ∙ t.1

pub tidied : (manner : Manner) (store work : ℕ) (p m : List ℕ) → tidy p ≡ true → ReplacedBy manner store work p m → Made (Shows manner store) (λ t. t) (parts p) m
unfolding tidy parts
tidied manner store work p m even replaced =
    let both = both_accepted manner p store work m (replaced_is manner p store work (length m) m (replaced (length m) (omega arith))) in
    let first = first_accepted manner p store work both.text both.first in
    let readable = check_gives 32768 p first.checked.passes in
    let s = spans_of (dollar_runs p) (cut_apart p) even (rw (joins p) (readable.1, readable.2)) in
    rw (← s.parts)
    (spans_made manner store s.spans both.text m s.fine (rw (s.typed, joins p) first.is) (second_passed manner store both.text m both.second))
