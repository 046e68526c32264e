-- What the translation of a body gives, test by test.
-- Assumes nothing.
use mathlib.Core.Path.{◌≡◌, refl, ◌∙◌}
use mathlib.Core.Bool.{Bool, true, false, not, ◌&&◌}
use mathlib.Core.List.{List}
use Prim.Native.Nat.{ℕ, ◌+◌, ◌*◌, ◌/◌, ◌≤◌, ◌<◌}
use native.Mathlib.Omega.{arith}
use native.Mathlib.Nat.{mul-le-mul}
use lib.Dec.{ltb}
use lib.ListN.{length, length-append}
use borrow.Author.Tests.{ltb-false, lt-ltb, le-ltb, not-false}
use Rattle.std.specs.Prelude.{Ok, Err}
use Rattle.text.specs.declared.Dialect.{Dialect}
use Rattle.text.specs.Utf8.{well_formed}
use Rattle.text.specs.Any.{has_nul}
use Rattle.text.specs.Text.{bytes}
use Rattle.text.specs.Put.{PutsAt}
use Rattle.text.specs.Xml.{forbidden}
use Rattle.text.specs.Examples.{text_opens}
use Rattle.text.proofs.Cases.{never, by_test}
use Rattle.text.proofs.PutLaws.{puts_all}
use Rattle.attribute.specs.declared.DisplayStyle.{DisplayStyle}
use Rattle.attribute.specs.Names.{display_style}
use Rattle.error.specs.declared.Refusal.{Refusal}
use Rattle.ast.specs.Tree.{Nodes, sizes}
use Rattle.markup.specs.Print.{print_all}
use Rattle.markup.proofs.ShortLaws.{most, short_all}
use Rattle.parser.specs.declared.Parser.{Parser}
use Rattle.parser.specs.Parse.{Parsed, parse}
use Rattle.parser.proofs.BodyLaws.{parse_kept}
use Rattle.parse.specs.Body.{parse_body, StoresBody}
use Rattle.latex2mathml.specs.declared.Manner.{Manner}
use Rattle.latex2mathml.specs.Manner.{is_strict}
use Rattle.latex2mathml.specs.Outcome.{Outcome, accepted, refused, ◌>>=◌, refuse, body_limit, depth_limit, record_size, number_of, bytes_of}
use Rattle.latex2mathml.specs.Translate.{checked, outcome, read_body, convert_content, in_math, latex_to_mathml, store_too_small, translate}
use Rattle.latex2mathml.specs.Replace.{translate_body}
use Rattle.latex2mathml.specs.Written.{read_nodes, answer_number, answer_length, over, Gives}
use Rattle.latex2mathml.specs.Laid.{growth}
use Rattle.latex2mathml.proofs.OutcomeLaws.{bind_bind, not_refused, refuses_none}

-- ---- a body that is read

read_is : (x : Parsed Nodes) (b : Bool)
    → outcome (elim x [ Parsed.made ns p ↦ elim b [ true ↦ Parsed.refused Refusal.ForbiddenCharacter | false ↦ Parsed.made ns p ] | Parsed.refused r ↦ Parsed.refused r ])
    ≡ (outcome x >>= (λ nodes. refuse b Refusal.ForbiddenCharacter >>= (λ _. accepted nodes)))
unfolding outcome refuse ◌>>=◌
read_is (Parsed.made ns p) true = refl
read_is (Parsed.made ns p) false = refl
read_is (Parsed.refused r) b = refl

parsed_is : {ns : Nodes} {p : Parser} (x : Parsed Nodes) (b : Bool)
    → (elim x [ Parsed.made ms q ↦ elim b [ true ↦ Parsed.refused Refusal.ForbiddenCharacter | false ↦ Parsed.made ms q ] | Parsed.refused r ↦ Parsed.refused r ]) ≡ Parsed.made ns p
    → x ≡ Parsed.made ns p
parsed_is (Parsed.made ms q) true e = never cc
parsed_is (Parsed.made ms q) false e = e
parsed_is (Parsed.refused r) b e = never cc

module _ (manner : Manner) (s : List ℕ) (store : ℕ) where
  -- what is read is the body, where it is not too long and the store is large enough
  nodes_is : outcome (read_nodes manner s store) ≡ (refuse (ltb body_limit (length s)) Refusal.TooLong >>= (λ _. store_too_small store s >>= (λ _. read_body manner s)))
  unfolding read_nodes parse_body read_body outcome refuse ◌>>=◌ body_limit depth_limit store_too_small record_size
  nodes_is =
      by_test (ltb 4096 (length s))
      (λ t. rw (read_nodes, parse_body, t))
      (λ t.
      by_test (ltb (store / 24) (2 * length s))
      (λ u. rw (read_nodes, parse_body, t, store_too_small, u))
      (λ u. rw (read_nodes, parse_body, t, store_too_small, u) (read_is (parse 256 s) (is_strict manner.dialect && forbidden s))))

  -- nodes that are read were parsed
  pub record Read (ns : Nodes) (p : Parser) : Type 0 where
    pub short : length s ≤ 4096
    pub parsed : parse 256 s ≡ Parsed.made ns p

  pub nodes_read : {ns : Nodes} {p : Parser} → read_nodes manner s store ≡ Parsed.made ns p → Read ns p
  unfolding read_nodes parse_body depth_limit
  nodes_read {ns} {p} f =
      by_test (ltb 4096 (length s))
      (λ t. let g = rw (read_nodes, parse_body, t) at f in never cc)
      (λ t.
      by_test (ltb (store / 24) (2 * length s))
      (λ u. let g = rw (read_nodes, parse_body, t, u) at f in never cc)
      (λ u. record { short = ltb-false 4096 (length s) t; parsed = parsed_is (parse 256 s) (is_strict manner.dialect && forbidden s) (rw (read_nodes, parse_body, t, u) at f) }))

-- what is read by what was parsed
module _ (manner : Manner) (s : List ℕ) (store : ℕ) where
  pub read_refused : {r : Refusal} → parse_body 256 s store ≡ Parsed.refused r → read_nodes manner s store ≡ Parsed.refused r
  unfolding read_nodes depth_limit
  read_refused e = rw (read_nodes, e)

  module _ {st : List ℕ} {first n hi : ℕ} (b : StoresBody s st (parse_body 256 s store) first n hi) where
    pub read_forbidden : (is_strict manner.dialect && forbidden s) ≡ true → read_nodes manner s store ≡ Parsed.refused Refusal.ForbiddenCharacter
    unfolding read_nodes depth_limit
    read_forbidden e = rw (read_nodes, b.is, e)

    pub read_stored : (is_strict manner.dialect && forbidden s) ≡ false → StoresBody s st (read_nodes manner s store) first n hi
    unfolding read_nodes depth_limit
    read_stored e = record {
      nodes = b.nodes;
      after = b.after;
      is = rw (read_nodes, b.is, e);
      records = b.records;
      prev = b.prev;
      last = b.last;
      held = b.held;
      many = b.many;
      inside = b.inside;
      size = b.size;
      few = b.few;
      fits = b.fits;
    }

module _ (manner : Manner) (s : List ℕ) (display : DisplayStyle) where
  abbrev markup : Nodes → List ℕ
  markup ns = in_math display (print_all manner.dialect s ns)

  math_is : latex_to_mathml manner s display ≡ (read_body manner s >>= (λ ns. accepted (markup ns)))
  unfolding latex_to_mathml convert_content ◌>>=◌
  math_is = simp bind_bind

-- ---- the tests of a text

module _ (limit : ℕ) (s : List ℕ) where
  pub check_long : limit < length s → checked limit s ≡ refused Refusal.TooLong
  unfolding checked refuse ◌>>=◌
  check_long h = rw (checked, lt-ltb limit (length s) h)

  pub check_ill_formed : length s ≤ limit → well_formed s ≡ false → checked limit s ≡ refused Refusal.IllFormed
  unfolding checked refuse ◌>>=◌
  check_ill_formed h e = rw (checked, le-ltb limit (length s) h, e)

  pub check_nul : length s ≤ limit → well_formed s ≡ true → has_nul s ≡ true → checked limit s ≡ refused Refusal.NulByte
  unfolding checked refuse ◌>>=◌
  check_nul h e n = rw (checked, le-ltb limit (length s) h, e, n)

  pub check_all : length s ≤ limit → well_formed s ≡ true → has_nul s ≡ false → checked limit s ≡ accepted tt
  unfolding checked refuse ◌>>=◌
  check_all h e n = rw (checked, le-ltb limit (length s) h, e, n)

  -- what a text is that passes them
  pub check_gives : checked limit s ≡ accepted tt → (length s ≤ limit) × (well_formed s ≡ true) × (has_nul s ≡ false)
  unfolding checked
  check_gives e =
      let a = not_refused (ltb limit (length s)) Refusal.TooLong _ tt e in
      let b = not_refused (not (well_formed s)) Refusal.IllFormed _ tt a.1 in
      (ltb-false limit (length s) a.0, not-false (well_formed s) b.0, refuses_none (has_nul s) Refusal.NulByte b.1)

-- ---- a body by itself

module _ (manner : Manner) (s : List ℕ) (display : DisplayStyle) (store room : ℕ) where
  -- what each test refuses, by the definition of the translation itself
  pub too_long : 4096 < length s → translate manner s display store room ≡ refused Refusal.TooLong
  unfolding translate checked refuse ◌>>=◌ body_limit
  too_long h = simp (translate, checked, lt-ltb 4096 (length s) h)

  pub ill_formed : length s ≤ 4096 → well_formed s ≡ false → translate manner s display store room ≡ refused Refusal.IllFormed
  unfolding translate checked refuse ◌>>=◌ body_limit
  ill_formed h e = simp (translate, checked, le-ltb 4096 (length s) h, e)

  pub nul_byte : length s ≤ 4096 → well_formed s ≡ true → has_nul s ≡ true → translate manner s display store room ≡ refused Refusal.NulByte
  unfolding translate checked refuse ◌>>=◌ body_limit
  nul_byte h e n = simp (translate, checked, le-ltb 4096 (length s) h, e, n)

  pub check_refused : {r : Refusal} → checked 4096 s ≡ refused r → translate manner s display store room ≡ refused r
  unfolding translate checked ◌>>=◌ body_limit
  check_refused e = rw (translate, e)

  module _ (e : checked 4096 s ≡ accepted tt) where
    body_is : translate manner s display store room
        ≡ (outcome (read_nodes manner s store) >>= (λ ns. refuse (ltb room (length (markup manner s display ns))) Refusal.OutputTooSmall >>= (λ _. accepted (markup manner s display ns))))
    unfolding translate checked refuse ◌>>=◌ body_limit
    body_is =
        let g = check_gives 4096 s e in
        simp (translate, checked, le-ltb 4096 (length s) g.0, g.1, g.2, math_is manner s display, nodes_is manner s store, bind_bind)

    pub body_no : {r : Refusal} → read_nodes manner s store ≡ Parsed.refused r → translate manner s display store room ≡ refused r
    unfolding outcome ◌>>=◌
    body_no f = body_is ∙ rw f

    pub body_too_large : {ns : Nodes} {p : Parser} → read_nodes manner s store ≡ Parsed.made ns p → room < length (markup manner s display ns) → translate manner s display store room ≡ refused Refusal.OutputTooSmall
    unfolding outcome refuse ◌>>=◌
    body_too_large {ns} f g = body_is ∙ rw (f, lt-ltb room (length (markup manner s display ns)) g)

    pub body_fits : {ns : Nodes} {p : Parser} → read_nodes manner s store ≡ Parsed.made ns p → length (markup manner s display ns) ≤ room → translate manner s display store room ≡ accepted (markup manner s display ns)
    unfolding outcome refuse ◌>>=◌
    body_fits {ns} f g = body_is ∙ rw (f, le-ltb room (length (markup manner s display ns)) g)

-- ---- a body of a document

module _ (manner : Manner) (s : List ℕ) (display : DisplayStyle) (store : ℕ) where
  document_is : translate_body manner store display s ≡ (outcome (read_nodes manner s store) >>= (λ ns. accepted (markup manner s display ns)))
  unfolding translate_body
  document_is = simp (math_is manner s display, nodes_is manner s store, bind_bind)

  pub body_refused : {r : Refusal} → read_nodes manner s store ≡ Parsed.refused r → translate_body manner store display s ≡ refused r
  unfolding outcome ◌>>=◌
  body_refused f = document_is ∙ rw f

  pub body_translated : {ns : Nodes} {p : Parser} → read_nodes manner s store ≡ Parsed.made ns p → translate_body manner store display s ≡ accepted (markup manner s display ns)
  unfolding outcome ◌>>=◌
  body_translated f = document_is ∙ rw f

-- a refusal leaves the output as it was
pub gives_nothing : {want : Outcome (List ℕ)} {r : Refusal} (o : List ℕ) → want ≡ refused r → Gives want (Err r) o o
unfolding answer_number answer_length number_of over bytes_of
gives_nothing o e = rw e (record { number = refl; size = refl; output = refl })

-- what is accepted stands at the front of the output
pub gives_markup : {want : Outcome (List ℕ)} {m o o' : List ℕ} {n r : ℕ} → want ≡ accepted m → n ≡ 0 + length m → PutsAt o o' 0 m r → Gives want (Ok n) o o'
unfolding answer_number answer_length number_of over bytes_of
gives_markup {want} {m} {o} {o'} {n} e long p =
    let l : n ≡ length m = omega arith in
    rw e (record { number = refl; size = l; output = puts_all p })

-- the opening and the closing of the wrapper are short
style_short : (display : DisplayStyle) → length (bytes (display_style display)) ≤ 6
unfolding text_opens display_style
style_short DisplayStyle.Block = omega arith
style_short DisplayStyle.Inline = omega arith

-- the markup of a body is not much longer than the body
pub math_short : (d : Dialect) (s : List ℕ) (display : DisplayStyle) (ns : Nodes) → length s ≤ 4096 → sizes ns ≤ 2 * length s
    → length (in_math display (print_all d s ns)) ≤ (length s + 1) * growth
unfolding in_math text_opens
math_short d s display ns h few =
    let a = short_all d s ns in
    let y : most (length s) ≤ 147856 = omega arith in
    let b : sizes ns * most (length s) ≤ (2 * length s) * 147856 = mul-le-mul few y in
    let c = style_short display in
    simp length-append (omega arith)

module _ (manner : Manner) (s : List ℕ) (display : DisplayStyle) (store : ℕ) (m : List ℕ) (is : translate_body manner store display s ≡ accepted m) where
  short_read : (x : Parsed Nodes) → read_nodes manner s store ≡ x → length m ≤ (length s + 1) * growth
  short_read (Parsed.made ns q) e =
      let g = body_translated manner s display store e in
      let n : markup manner s display ns ≡ m = cc in
      let f = nodes_read manner s store e in
      let k = parse_kept 256 s ns q f.parsed in
      let z = k.size in
      let y = k.few in
      rw (← n) (math_short manner.dialect s display ns f.short (omega arith))
  short_read (Parsed.refused r) e = let g = body_refused manner s display store e in never cc

  pub translated_short : length m ≤ (length s + 1) * growth
  translated_short = short_read (read_nodes manner s store) refl
