-- Cutting a document into paragraphs and breaks is its right cut, the only one, and joining the pieces gives the document.
-- Assumes nothing.
use mathlib.Core.Path.{◌≡◌, refl, sym, ◌∙◌, ap}
use mathlib.Core.Bool.{true, false, not, ◌&&◌, false≢true, and-true, and-false, and_assoc, and-eq-true_iff}
use mathlib.Core.List.{List, [], ◌∷◌, ◌++◌, append-nil, append_assoc, flat_map}
use Prim.Native.Nat.{ℕ, suc, ◌≤◌, ◌<◌}
use native.Mathlib.Omega.{arith}
use lib.Dec.{ltb}
use lib.ListN.{length}
use lib.Seq.{append_snoc}
use borrow.Author.Tests.{lt-ltb, le-ltb, ltb-true, ltb-false, eqb-true, not-true}
use Rattle.text.proofs.Cases.{by_test}
use Rattle.breaks.specs.Pieces.{Pieces, last, piece, count_ends, cut, pieces}
use Rattle.breaks.specs.Breaks.{line_feed, line_end, in_line_end, two_line_ends}
use Rattle.breaks.specs.Cut.{typed_all, unbroken, last_in_line_end, Ending, lf, crlf, typed_end, RightPiece, RightCut}
use Rattle.breaks.proofs.LineEndLaws.{by_head, none_in, none_two, same_behind, none_feed, none_alone, last_two}

-- ---- one byte more

-- where a byte of a line end stands the line ends take it
pub end_more : (p e : List ℕ) (b : ℕ) (l : List ℕ) → in_line_end (b ∷ l) ≡ true → cut p e (b ∷ l) ≡ cut p (e ++ b ∷ []) l
unfolding cut
end_more p e b l is = rw (cut, is)

-- one line end at most belongs to the paragraph
few_more : (p e l : List ℕ) → count_ends e ≤ 1 → in_line_end l ≡ false → cut p e l ≡ cut (p ++ e) [] l
unfolding cut count_ends
few_more p e [] few plain = rw (cut, le-ltb 1 (count_ends e) few, append-nil (p ++ e))
few_more p e (b ∷ l) few plain = rw (cut, plain, le-ltb 1 (count_ends e) few, append-nil (p ++ e), append_assoc p e (b ∷ []))

feed_alone : (p l : List ℕ) → in_line_end l ≡ false → cut p [] (10 ∷ l) ≡ cut (p ++ 10 ∷ []) [] l
unfolding in_line_end line_end count_ends
feed_alone p l plain = end_more p [] 10 l refl ∙ few_more p (10 ∷ []) l (omega arith) plain

return_alone : (p l : List ℕ) → in_line_end l ≡ false → cut p [] (13 ∷ 10 ∷ l) ≡ cut (p ++ 13 ∷ []) [] (10 ∷ l)
unfolding in_line_end line_end line_feed count_ends
return_alone p l plain =
    end_more p [] 13 (10 ∷ l) refl
    ∙ end_more p (13 ∷ []) 10 l refl
    ∙ few_more p (13 ∷ 10 ∷ []) l (omega arith) plain
    ∙ ap (λ q. cut q [] l) (sym (append_assoc p (13 ∷ []) (10 ∷ [])))
    ∙ sym (feed_alone (p ++ 13 ∷ []) l plain)

-- a paragraph takes a byte more where no two line ends stand
pub byte_more : (p : List ℕ) (b : ℕ) (l : List ℕ) → two_line_ends (b ∷ l) ≡ false → cut p [] (b ∷ l) ≡ cut (p ++ b ∷ []) [] l
unfolding cut count_ends two_line_ends in_line_end line_end line_feed
byte_more p =
    by_head (λ b l. two_line_ends (b ∷ l) ≡ false → cut p [] (b ∷ l) ≡ cut (p ++ b ∷ []) [] l)
    (λ l e. feed_alone p l e)
    (λ l e. return_alone p l e)
    (λ b l none e. rw (cut, none_in (b ∷ l) none) (ap (λ q. cut (q ++ b ∷ []) [] l) (append-nil p)))

-- a run of two or more is a break, and the pieces go on behind it
pub broken : (p e l : List ℕ) → 1 < count_ends e → in_line_end l ≡ false → cut p e l ≡ piece p e (pieces l)
unfolding cut pieces count_ends
broken p e [] wide plain = rw (cut, lt-ltb 1 (count_ends e) wide)
broken p e (b ∷ l) wide plain = rw (cut, plain, lt-ltb 1 (count_ends e) wide)

-- ---- the cut joined

-- the pieces join to what is read and what is ahead
joins : (p e l : List ℕ) → typed_all (cut p e l) ≡ p ++ (e ++ l)
unfolding cut typed_all
joins p e [] =
    by_test (ltb 1 (count_ends e))
    (λ wide. rw (cut, wide) (append_assoc p e []))
    (λ narrow. rw (cut, narrow) (ap (λ m. p ++ m) (sym (append-nil e))))
joins p e (b ∷ l) =
    by_test (in_line_end (b ∷ l))
    (λ end. rw (cut, end) (joins p (e ++ b ∷ []) l ∙ ap (λ m. p ++ m) (append_assoc e (b ∷ []) l)))
    (λ plain. by_test (ltb 1 (count_ends e))
    (λ wide. rw (cut, plain, wide) (ap (λ m. p ++ e ++ m) (joins (b ∷ []) [] l) ∙ append_assoc p e (b ∷ l)))
    (λ narrow. rw (cut, plain, narrow) (joins (p ++ e ++ b ∷ []) [] l ∙ simp append_assoc)))

-- joining the paragraphs and the breaks of a document gives the document
pub cut_joins : (document : List ℕ) → typed_all (pieces document) ≡ document
unfolding pieces
cut_joins document = joins [] [] document

-- ---- line ends side by side

-- bytes behind a text add no pair of line ends to it where its last byte and their first are not both of line ends
module _ (m : List ℕ) where
  abbrev Apart : List ℕ → Type 0
  Apart p = (last_in_line_end p m && in_line_end m) ≡ false

  apart_rest : (b : ℕ) (p : List ℕ) → Apart (b ∷ p) → Apart p
  unfolding last_in_line_end
  apart_rest b [] e = refl
  apart_rest b (c ∷ p) e = e

  in_joined : (b : ℕ) (p : List ℕ) → Apart (b ∷ p) → in_line_end (b ∷ p ++ m) ≡ in_line_end (b ∷ p)
  unfolding last_in_line_end line_feed
  in_joined b [] e =
      by_test (in_line_end m)
      (λ t. let plain = sym (and-true (in_line_end (b ∷ m))) ∙ rw t at e in plain ∙ sym (none_alone b m plain))
      (λ t. same_behind b m [] (none_feed m t))
  in_joined b (c ∷ p) e = same_behind b (c ∷ p ++ m) (c ∷ p) refl

  behind_feed : (p : List ℕ) → Apart (10 ∷ p) → in_line_end (p ++ m) ≡ in_line_end p
  unfolding last_in_line_end in_line_end line_end
  behind_feed [] e = e
  behind_feed (b ∷ p) e = in_joined b p e

  two_joined : (b : ℕ) (p : List ℕ) → Apart (b ∷ p) → two_line_ends (b ∷ p ++ m) ≡ two_line_ends (b ∷ p)
  unfolding two_line_ends in_line_end line_end line_feed last_in_line_end
  two_joined =
      by_head (λ b p. Apart (b ∷ p) → two_line_ends (b ∷ p ++ m) ≡ two_line_ends (b ∷ p))
      (λ p e. behind_feed p e)
      (λ p e. behind_feed p e)
      (λ b p none e.
      let plain = none_in (b ∷ p) none in
      none_two (b ∷ p ++ m) (in_joined b p e ∙ plain) ∙ sym (none_two (b ∷ p) plain))

  unbroken_joined : (p : List ℕ) → Apart p → unbroken (p ++ m) ≡ (unbroken p && unbroken m)
  unfolding unbroken
  unbroken_joined [] e = refl
  unbroken_joined (b ∷ p) e =
      rw (two_joined b p e, unbroken_joined p (apart_rest b p e)) (sym (and_assoc (not (two_line_ends (b ∷ p))) (unbroken p) (unbroken m)))

end_last : (p : List ℕ) (b : ℕ) (l : List ℕ) → last_in_line_end (p ++ b ∷ []) l ≡ in_line_end (b ∷ l)
unfolding last_in_line_end
end_last [] b l = refl
end_last (c ∷ []) b l = refl
end_last (c ∷ d ∷ p) b l = end_last (d ∷ p) b l

-- of the bytes behind a text only the first counts
first_behind : (p l m : List ℕ) → line_feed l ≡ line_feed m → last_in_line_end p l ≡ last_in_line_end p m
unfolding last_in_line_end
first_behind [] l m e = refl
first_behind (b ∷ []) l m e = same_behind b l m e
first_behind (b ∷ c ∷ p) l m e = first_behind (c ∷ p) l m e

next_behind : (p e l m : List ℕ) → line_feed l ≡ line_feed m → last_in_line_end p (e ++ l) ≡ last_in_line_end p (e ++ m)
unfolding line_feed
next_behind p [] l m same = first_behind p l m same
next_behind p (x ∷ e) l m same = first_behind p (x ∷ e ++ l) (x ∷ e ++ m) refl

-- bytes that begin with no line end do not count behind others
none_behind : (p e m : List ℕ) → in_line_end m ≡ false → last_in_line_end p (e ++ m) ≡ last_in_line_end p e
unfolding line_feed
none_behind p e m plain = next_behind p e m [] (none_feed m plain) ∙ ap (last_in_line_end p) (append-nil e)

-- ---- whole line ends

abbrev line_ends : List Ending → List ℕ
line_ends = flat_map typed_end

ends_snoc : (es : List Ending) (r : Ending) → line_ends (es ++ r ∷ []) ≡ line_ends es ++ typed_end r
unfolding flat_map
ends_snoc [] r = append-nil (typed_end r)
ends_snoc (x ∷ es) r = ap (λ l. typed_end x ++ l) (ends_snoc es r) ∙ sym (append_assoc (typed_end x) (line_ends es) (typed_end r))

count_ends_lem : (es : List Ending) → count_ends (line_ends es) ≡ length es
unfolding count_ends flat_map typed_end
count_ends_lem [] = refl
count_ends_lem (lf ∷ es) = ap suc (count_ends_lem es)
count_ends_lem (crlf ∷ es) = ap suc (count_ends_lem es)

-- one at most makes no break with a text that begins with none
few_ends : (es : List Ending) (t : List ℕ) → length es ≤ 1 → in_line_end t ≡ false → unbroken (line_ends es ++ t) ≡ unbroken t
unfolding unbroken flat_map typed_end two_line_ends in_line_end line_end line_feed
few_ends [] t h plain = refl
few_ends (lf ∷ []) t h plain = rw plain
few_ends (crlf ∷ []) t h plain = rw plain
few_ends (r ∷ s ∷ es) t h plain = absurd (omega arith)

-- the line ends take them all
taken : (q e : List ℕ) (es : List Ending) (m : List ℕ) → cut q e (line_ends es ++ m) ≡ cut q (e ++ line_ends es) m
unfolding flat_map typed_end in_line_end line_end line_feed
taken q e [] m = ap (λ f. cut q f m) (sym (append-nil e))
taken q e (lf ∷ es) m =
    end_more q e 10 (line_ends es ++ m) refl ∙ taken q (e ++ 10 ∷ []) es m ∙ ap (λ f. cut q f m) (append_assoc e (10 ∷ []) (line_ends es))
taken q e (crlf ∷ es) m =
    end_more q e 13 (10 ∷ line_ends es ++ m) refl
    ∙ end_more q (e ++ 13 ∷ []) 10 (line_ends es ++ m) refl
    ∙ taken q ((e ++ 13 ∷ []) ++ 10 ∷ []) es m
    ∙ ap (λ f. cut q f m) (simp append_assoc)

-- ---- the cut is right

-- bytes of line ends, read up to l: whole ones, or a CR more, whose LF is ahead
data Ends (e l : List ℕ) : Type 0 where
  full : (es : List Ending) → e ≡ line_ends es → Ends e l
  half : (es : List Ending) → e ≡ line_ends es ++ 13 ∷ [] → line_feed l ≡ true → Ends e l

ends_more : (e : List ℕ) (b : ℕ) (l : List ℕ) → Ends e (b ∷ l) → in_line_end (b ∷ l) ≡ true → Ends (e ++ b ∷ []) l
unfolding in_line_end line_end line_feed typed_end
ends_more e b l (full es is) t =
    by_head (λ b l. in_line_end (b ∷ l) ≡ true → Ends (e ++ b ∷ []) l)
    (λ l t. full (es ++ lf ∷ []) (rw is (sym (ends_snoc es lf))))
    (λ l t. half es (rw is) refl)
    (λ b l none t. absurd (false≢true (sym (none_in (b ∷ l) none) ∙ t)))
    b
    l
    t
ends_more e b l (half es is feed) t =
    full (es ++ crlf ∷ []) (rw (is, eqb-true b 10 feed) (append_assoc (line_ends es) (13 ∷ []) (10 ∷ []) ∙ sym (ends_snoc es crlf)))

ends_full : (e l : List ℕ) → Ends e l → in_line_end l ≡ false → (es : List Ending) × (e ≡ line_ends es)
unfolding in_line_end line_end line_feed
ends_full e l (full es is) plain = (es, is)
ends_full e [] (half es is feed) plain = absurd (false≢true feed)
ends_full e (b ∷ l) (half es is feed) plain = absurd (false≢true (sym (rw (eqb-true b 10 feed) at plain)))

-- a paragraph so far, behind which stand some bytes: it holds no break, and its last byte belongs to no line end
record Clear (p behind : List ℕ) : Type 0 where
  pub whole : unbroken p ≡ true
  pub before : last_in_line_end p behind ≡ false

clear_none : (behind : List ℕ) → Clear [] behind
unfolding unbroken last_in_line_end
clear_none behind = record { whole = refl; before = refl }

-- one line end at most makes no break, nor with a text behind it that begins with none
ends_fit : (p t : List ℕ) (es : List Ending) → Clear p (line_ends es ++ t) → length es ≤ 1 → in_line_end t ≡ false → unbroken (p ++ line_ends es ++ t) ≡ unbroken t
ends_fit p t es clear few plain =
    ap unbroken (append_assoc p (line_ends es) t) ∙ unbroken_joined (line_ends es ++ t) p (rw clear.before) ∙ rw clear.whole (few_ends es t few plain)

-- two line ends or more behind it are a break
is_break : (p follows : List ℕ) (es : List Ending) → Clear p (line_ends es ++ follows) → 2 ≤ length es → in_line_end follows ≡ false → RightPiece p (line_ends es) follows
is_break p follows es clear wide behind = record {
  whole = clear.whole;
  break = record { ends = es; two = wide; only = refl };
  before = sym (none_behind p (line_ends es) follows behind) ∙ clear.before;
  behind = behind;
}

byte_whole : (b : ℕ) → unbroken (b ∷ []) ≡ true
unfolding unbroken
byte_whole b = rw (last_two b)

-- a byte that belongs to no line end makes a clear paragraph, alone and behind one line end at most
byte_fits : (p : List ℕ) (es : List Ending) (b : ℕ) (l : List ℕ) → Clear p (line_ends es ++ b ∷ l) → length es ≤ 1 → in_line_end (b ∷ l) ≡ false
    → Clear (p ++ line_ends es ++ b ∷ []) l
unfolding line_feed
byte_fits p es b l clear few plain =
    let same = next_behind p (line_ends es) (b ∷ []) (b ∷ l) refl in
    record {
      whole = ends_fit p (b ∷ []) es (record { whole = clear.whole; before = same ∙ clear.before }) few (none_alone b l plain) ∙ byte_whole b;
      before = end_last (p ++ line_ends es) b l ∙ plain;
    }

-- a clear paragraph so far, any line ends and any bytes ahead are cut right
right : (p e l : List ℕ) → Clear p (e ++ l) → Ends e l → RightCut (cut p e l)
unfolding cut typed_all unbroken in_line_end line_end flat_map
right p e [] clear ends =
    let all = ends_full e [] ends refl in
    let es = all.0 in
    let clear' = rw all.1 at clear in
    let count = ap count_ends all.1 ∙ count_ends_lem es in
    by_test (ltb 1 (count_ends e))
    (λ wide. rw (cut, wide, all.1) (is_break p [] es clear' (let w = ltb-true 1 (count_ends e) wide in omega arith) refl, refl))
    (λ narrow. rw (cut, narrow, all.1, ← append-nil (p ++ line_ends es)) (ends_fit p [] es clear' (let w = ltb-false 1 (count_ends e) narrow in omega arith) refl))
right p e (b ∷ l) clear ends =
    by_test (in_line_end (b ∷ l))
    (λ end. rw (cut, end) (right p (e ++ b ∷ []) l (rw (append_assoc e (b ∷ []) l) clear) (ends_more e b l ends end)))
    (λ plain.
    let all = ends_full e (b ∷ l) ends plain in
    let es = all.0 in
    let clear' = rw all.1 at clear in
    let count = ap count_ends all.1 ∙ count_ends_lem es in
    by_test (ltb 1 (count_ends e))
    (λ wide. rw (cut, plain, wide, all.1) (is_break p _ es (rw (joins (b ∷ []) [] l) clear') (let w = ltb-true 1 (count_ends e) wide in omega arith) (rw (joins (b ∷ []) [] l) plain), right (b ∷ []) [] l (byte_fits [] [] b l (clear_none (b ∷ l)) (omega arith) plain) (full [] refl)))
    (λ narrow.
    let w = ltb-false 1 (count_ends e) narrow in
    rw (cut, plain, narrow, all.1) (right (p ++ line_ends es ++ b ∷ []) [] l (byte_fits p es b l clear' (omega arith) plain) (full [] refl))))

-- no paragraph of a document holds a break, and its breaks are the maximal runs of two or more line ends
pub cut_right : (document : List ℕ) → RightCut (pieces document)
unfolding pieces flat_map
cut_right document = right [] [] document (clear_none document) (full [] refl)

-- ---- no other cut is right

-- a paragraph is read to its end
through : (q p m : List ℕ) → unbroken p ≡ true → Apart m p → cut q [] (p ++ m) ≡ cut (q ++ p) [] m
unfolding unbroken
through q [] m whole apart = ap (λ r. cut r [] m) (sym (append-nil q))
through q (b ∷ p) m whole apart =
    let h = (and-eq-true_iff (not (two_line_ends (b ∷ p))) (unbroken p)).0 whole in
    byte_more q b (p ++ m) (two_joined m b p apart ∙ not-true _ h.0)
    ∙ through (q ++ b ∷ []) p m h.1 (apart_rest m b p apart)
    ∙ ap (λ r. cut r [] m) (append_snoc q b p)

-- a right cut of a document is the one made here
pub cut_only : (ps : Pieces) → RightCut ps → pieces (typed_all ps) ≡ ps
unfolding typed_all pieces cut count_ends in_line_end line_end
cut_only (last p) whole = ap pieces (sym (append-nil p)) ∙ through [] p [] whole (and-false (last_in_line_end p [])) ∙ ap last (append-nil p)
cut_only (piece p b rest) (here, more) =
    let es = here.break.ends in
    let m = typed_all rest in
    let before = none_behind p (line_ends es) m here.behind ∙ rw here.break.only at here.before in
    rw (here.break.only, append_assoc p (line_ends es) m)
    (through [] p (line_ends es ++ m) here.whole (rw before)
    ∙ taken p [] es m
    ∙ broken p (line_ends es) m (rw (count_ends_lem es) here.break.two) here.behind
    ∙ ap (λ r. piece p (line_ends es) r) (cut_only rest more))
