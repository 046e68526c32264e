-- Demand 3, from the page operation's promise.
-- Assumes nothing.
use mathlib.Core.Path.{◌≡◌, refl, sym, ◌∙◌, ap}
use mathlib.Core.List.{List, [], ◌∷◌, ◌++◌, append-nil, append_assoc, flatten}
use Prim.Native.Nat.{ℕ, suc, ◌+◌, ◌≤◌}
use native.Mathlib.Omega.{arith}
use lib.Dec.{ltb}
use lib.ListN.{length, drop}
use lib.Seq.{take_at}
use borrow.Author.Tests.{le-ltb}
use Rattle.std.specs.Prelude.{Ok}
use Rattle.text.proofs.Cases.{never}
use Rattle.error.specs.declared.Refusal.{Refusal}
use Rattle.latex2mathml.specs.declared.Manner.{Manner}
use Rattle.latex2mathml.specs.Outcome.{Outcome, accepted, refused, ◌>>=◌, refuse, document_limit, number_of}
use Rattle.latex2mathml.specs.Written.{over}
use Rattle.latex2mathml.specs.Translate.{translate}
use Rattle.latex2mathml.specs.Replace.{replacement, replace_outcome, replace}
use Rattle.latex2mathml.proofs.OutcomeLaws.{by_outcome, number_range, not_refused}
use Rattle.page.specs.declared.Totals.{Totals}
use Rattle.breaks.specs.Pieces.{Pieces, last, piece, pieces, paragraphs}
use Rattle.page.specs.Page.{shown, left, shown_all, left_all, Paged, page, output_of, paragraphs_of, left_of}
use Rattle.page.specs.Run.{answer_number, answer_length, answer_paragraphs, answer_left}
use Rattle.page.specs.Words.{Run, output, Piece, paragraph, break, listed, in_order, paragraph_count, ReplacedBy, RefusedThere, Out, copied, replaced, typed, written, Comes, typed_count, Part, prose, formula, display_of, Shows, Differ, DifferInParagraph, dollar_runs}
use Rattle.page.specs.Demand.{Each, joined, Made, Shared, TheCut, TheRuns, OneRun, Beside, NotRefused, AllButOne, TwoRuns, Demand3}
use Rattle.page.proofs.ParagraphLaws.{shown_replaced, left_replaced, shown_typed, left_typed}
use Rattle.breaks.proofs.CutLaws.{cut_joins, cut_right, cut_only}
use Rattle.page.proofs.DollarRunLaws.{joins, cut_apart, only_cut}
use Rattle.page.proofs.TidyLaws.{tidied}
use Rattle.page.proofs.SharedLaws.{OneOutcome, shared}

-- ---- a paragraph

module _ (manner : Manner) (store work : ℕ) (p : List ℕ) where
  -- a replacement with an output long enough is accepted, and one that is refused is refused with any output
  pub long_enough : (m : List ℕ) → replacement manner p store work ≡ accepted m → ReplacedBy manner store work p m
  unfolding replace replace_outcome ◌>>=◌ refuse
  long_enough m e room fits = rw (e, le-ltb room (length m) fits)

  pub never_enough : (r : Refusal) → replacement manner p store work ≡ refused r → RefusedThere manner store work p
  unfolding replace replace_outcome ◌>>=◌
  never_enough r e = (r, λ room. rw e)

  -- what the paragraph comes out as
  record Came : Type 0 where
    pub out : Out
    pub comes : Comes manner store work (paragraph p) out
    pub bytes : written out ≡ shown manner store work p
    pub count : (rest : List Out) → typed_count (out ∷ rest) ≡ left manner store work p + typed_count rest

  came : Came
  unfolding written typed_count
  came =
      by_outcome (replacement manner p store work)
      (λ m e. record {
        out = replaced m;
        comes = long_enough m e;
        bytes = sym (shown_replaced manner p store work m e);
        count = λ rest. rw (left_replaced manner p store work m e) (omega arith);
      })
      (λ r e. record {
        out = typed p;
        comes = (never_enough r e, refl);
        bytes = sym (shown_typed manner p store work r e);
        count = λ rest. rw (left_typed manner p store work r e) (omega arith);
      })

-- ---- all paragraphs and breaks

module _ (manner : Manner) (store work : ℕ) where
  record AllCame (ps : Pieces) : Type 0 where
    pub outs : List Out
    pub each : Each (Comes manner store work) (listed ps) outs
    pub bytes : joined written outs ≡ shown_all manner store work ps
    pub count : typed_count outs ≡ left_all manner store work ps

  all_came : (ps : Pieces) → AllCame ps
  unfolding listed flatten shown_all typed_count left_all written
  all_came (last p) =
      let c = came manner store work p in
      record {
        outs = c.out ∷ [];
        each = (c.comes, tt);
        bytes = append-nil (written c.out) ∙ c.bytes;
        count = c.count [] ∙ omega arith;
      }
  all_came (piece p b rest) =
      let c = came manner store work p in
      let all = all_came rest in
      record {
        outs = c.out ∷ copied b ∷ all.outs;
        each = (c.comes, (refl, all.each));
        bytes = rw (c.bytes, all.bytes) (sym (append_assoc (shown manner store work p) b (shown_all manner store work rest)));
        count = c.count (copied b ∷ all.outs) ∙ rw all.count;
      }

  counts : (ps : Pieces) → paragraphs ps ≡ paragraph_count (listed ps)
  unfolding paragraphs paragraph_count listed
  counts (last p) = refl
  counts (piece p b rest) = ap suc (counts rest)

-- ---- one run

-- a page that is accepted is its paragraphs and breaks as they come out, with their counts
record Accepts (manner : Manner) (document : List ℕ) (store work : ℕ) (p : Paged) : Type 0 where
  pub bytes : p.output ≡ shown_all manner store work (pieces document)
  pub counted : p.paragraphs ≡ paragraphs (pieces document)
  pub kept : p.left ≡ left_all manner store work (pieces document)

accepts : (manner : Manner) (document : List ℕ) (store work room : ℕ) (p : Paged) → page manner document store work room ≡ accepted p → Accepts manner document store work p
unfolding page
accepts manner document store work room p e =
    let short = not_refused (ltb document_limit (length document)) Refusal.TooLong _ p e in
    let same = (not_refused (ltb room (length (shown_all manner store work (pieces document)))) Refusal.OutputTooSmall _ p short.1).1 in
    record { bytes = cc; counted = cc; kept = cc }

-- what a run that is not refused returns, and its output
record Returns (a : Run) (count left : ℕ) : Type 0 where
  pub bytes : output a ≡ shown_all a.manner a.store a.work (pieces a.document)
  pub counted : count ≡ paragraphs (pieces a.document)
  pub kept : left ≡ left_all a.manner a.store a.work (pieces a.document)

returns : (a : Run) (t : Totals) → a.answer ≡ Ok t → Returns a t.paragraphs t.left
unfolding output answer_number answer_length answer_paragraphs answer_left number_of output_of paragraphs_of left_of over
returns a t e =
    by_outcome (page a.manner a.document a.store a.work (length a.entry))
    (λ p is.
    let h = accepts a.manner a.document a.store a.work (length a.entry) p is in
    let after = rw is at a.promise.output in
    let long = rw (e, is) at a.promise.size in
    let number = rw (e, is) at a.promise.paragraphs in
    let few = rw (e, is) at a.promise.left in
    record {
      bytes = rw (e, after) (take_at p.output (drop (length p.output) a.entry) t.length (sym long) ∙ h.bytes);
      counted = number ∙ h.counted;
      kept = few ∙ h.kept;
    })
    (λ r is. let none = rw (e, is) at a.promise.number in absurd (omega (arith, number_range r)))

the_cut : (document : List ℕ) → TheCut document
the_cut document = record { joins = cut_joins document; right = cut_right document; only = λ ps e right. sym (cut_only ps right) ∙ ap pieces e }

the_runs : (p : List ℕ) → TheRuns p
the_runs p = record { joins = joins p; right = cut_apart p; only = λ rs e right. sym (only_cut rs right) ∙ ap dollar_runs e }

pub one_run_lem : (a : Run) (t : Totals) → a.answer ≡ Ok t → OneRun a.manner a.document a.store a.work (output a) t.paragraphs t.left
unfolding in_order
one_run_lem a t e =
    let h = returns a t e in
    let all = all_came a.manner a.store a.work (pieces a.document) in
    record {
      cut = the_cut a.document;
      made = record { outs = all.outs; each = all.each; whole = h.bytes ∙ sym all.bytes };
      counted = h.counted ∙ counts a.manner a.store a.work (pieces a.document);
      kept = h.kept ∙ sym all.count;
      runs = the_runs;
      tidied = λ p m neat by. tidied a.manner a.store a.work p m neat by;
    }

-- ---- two runs

-- two texts that any output long enough takes are one
one_accepted : (f : ℕ → Outcome (List ℕ)) (m n : List ℕ) → ((room : ℕ) → length m ≤ room → f room ≡ accepted m) → ((room : ℕ) → length n ≤ room → f room ≡ accepted n) → m ≡ n
one_accepted f m n h k =
    let e = h (length m + length n) (omega arith) in
    let g = k (length m + length n) (omega arith) in
    cc

one_paragraph : (manner : Manner) (store work : ℕ) → OneOutcome (Comes manner store work)
one_paragraph manner store work (paragraph p) (copied m) z h k = absurd h
one_paragraph manner store work (paragraph p) (replaced m) (copied n) h k = absurd k
one_paragraph manner store work (paragraph p) (replaced m) (replaced n) h k = ap replaced (one_accepted (λ room. (replace manner p store work room).outcome) m n h k)
one_paragraph manner store work (paragraph p) (replaced m) (typed n) h k = let e = h (length m) (omega arith) in let g = k.0.1 (length m) in never cc
one_paragraph manner store work (paragraph p) (typed m) (copied n) h k = absurd k
one_paragraph manner store work (paragraph p) (typed m) (replaced n) h k = let e = k (length n) (omega arith) in let g = h.0.1 (length n) in never cc
one_paragraph manner store work (paragraph p) (typed m) (typed n) h k = ap typed (h.1 ∙ sym k.1)
one_paragraph manner store work (break b) (copied m) (copied n) h k = ap copied (h ∙ sym k)
one_paragraph manner store work (break b) (copied m) (replaced n) h k = absurd k
one_paragraph manner store work (break b) (copied m) (typed n) h k = absurd k
one_paragraph manner store work (break b) (replaced m) z h k = absurd h
one_paragraph manner store work (break b) (typed m) z h k = absurd h

one_part : (manner : Manner) (store : ℕ) → OneOutcome (Shows manner store)
one_part manner store (prose t) m n h k = h ∙ sym k
one_part manner store (formula d b) m n h k = one_accepted (λ room. translate manner b (display_of d) store room) m n h k

-- what is made in one manner with equal lent sizes
equally_lent : {manner other : Manner} {store work size buffer : ℕ} (xs : List Piece) (m : List ℕ) → manner ≡ other → store ≡ size → work ≡ buffer
    → Made (Comes other size buffer) written xs m → Made (Comes manner store work) written xs m
equally_lent xs m d e f h = rw (d, e, f) h

-- a text inside another: what stands around the middle of the inner one stands around it in the outer one
nested : (b s m t c w u : List ℕ) → w ≡ b ++ u ++ c → u ≡ s ++ m ++ t → w ≡ (b ++ s) ++ m ++ (t ++ c)
nested b s m t c w u e f = e ∙ rw f (simp append_assoc)

-- a formula's markup is all that differs, where the paragraph with it comes out as u in one run and as v in the other
all_but_one : (manner : Manner) (store work : ℕ) {xs ys : List Piece} {x y : Piece} {d : Differ xs ys x y} (m n : List ℕ) (others : Shared (Comes manner store work) written d m n)
    {ps qs : List Part} {f g : Part} {e : Differ ps qs f g} {u v : List ℕ} → Shared (Shows manner store) (λ m. m) e u v
    → others.own ≡ replaced u → others.other ≡ replaced v → AllButOne manner store work others e u v
unfolding written
all_but_one manner store work m n others {u = u} {v = v} inside own other =
    let front = joined written others.before in
    let back = joined written others.behind in
    let before = joined (λ m. m) inside.before in
    let behind = joined (λ m. m) inside.behind in
    record {
      inside = inside;
      head = front ++ before;
      tail = behind ++ back;
      is_head = refl;
      is_tail = refl;
      whole_first = nested front before inside.own behind back m u (rw own at others.whole_first) inside.whole_first;
      whole_second = nested front before inside.other behind back n v (rw other at others.whole_second) inside.whole_second;
    }

two_runs_lem : (a b : Run) → NotRefused a → NotRefused b → Beside a b → {p q : List ℕ} (d : DifferInParagraph a.document b.document p q)
    → TwoRuns a.manner a.document b.document a.store a.work d (output a) (output b)
two_runs_lem a b (t, e) (u, f) beside {p} {q} d =
    let one = one_paragraph a.manner a.store a.work in
    let first = (one_run_lem a t e).made in
    let second = equally_lent (in_order b.document) (output b) beside.manner beside.store beside.work (one_run_lem b u f).made in
    let all = shared one written d first second in
    record {
      others = all;
      body = λ {n} {k} {s} {t} body u v x z.
          let left-made = tidied a.manner a.store a.work p u body.tidy_first x in
          let right-made = tidied a.manner a.store a.work q v body.tidy_second z in
          all_but_one a.manner a.store a.work (output a) (output b) all (shared (one_part a.manner a.store) (λ m. m) body.differ left-made right-made)
          (one (paragraph p) all.own (replaced u) all.first x)
          (one (paragraph q) all.other (replaced v) all.second z);
    }

pub demand3 : Demand3
demand3 = record { one_run = one_run_lem; two_runs = two_runs_lem }
