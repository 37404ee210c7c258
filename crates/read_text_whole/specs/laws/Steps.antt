-- Laws of what specs/Whole.antt defines, one for each way that code goes.
use Rattle.std.specs.Prelude.{◌≡◌, true, List, ℕ, ◌+◌, ◌-◌, ◌≤◌, ◌<◌, drop, take, Option, None, Some, Result, Ok, Err}
use Rattle.std.proofs.Math.Path.{refl, ap}
use Rattle.std.proofs.Common.{sym, ◌∙◌, arith}
use Rattle.std.proofs.Math.Bool.{false}
use Rattle.std.proofs.Math.Dec.{leb}
use Rattle.std.proofs.Math.ListN.{length, length-append}
use borrow.Author.Tests.{le-leb, lt-leb}
use Rattle.octets.specs.Pick.{pick}
use Rattle.octets.specs.Append.{◌⊕◌}
use Rattle.calendar.specs.Refusal.{LENGTH, WORK, CHARACTER, EDITION, Verdict, fine, refuse, ◌otherwise◌, refusal_at}
use Rattle.source.specs.Source.{rest}
use Rattle.source.specs.laws.Facts.{rest_plain}
use Rattle.folding.specs.Unfold.{unfolded, origin, Unfolds}
use Rattle.folding.specs.laws.Unfold.{unfolded_front, length-unfolded}
use Rattle.folding.specs.Lines.{lines}
use Rattle.read_text_line.specs.LineEnd.{index}
use Rattle.read_text_line.specs.laws.Ready.{index_plain}
use Rattle.utf8.specs.Utf8.{first_bad}
use Rattle.text.specs.ReadText.{lines_verdict, kept_verdict, placed, text_verdict}
use Rattle.read_text.specs.Answers.{Checks}
use Rattle.refusals.specs.Fault.{refusal_of, fault_at}
use Rattle.refusals.specs.declared.Fault.{Fault}
use Rattle.refusals.specs.declared.Refusal.TheVariants.{Length, Work, Character}
use Rattle.refusals.specs.declared.Refusal.TheVariants.{Edition as EditionRefused}
use Rattle.calls.specs.ToXml.{unfolded_in, to_xml_work}
use Rattle.edition.specs.Edition.{edition_of}
use Rattle.edition.specs.declared.Edition.{Edition}
use Rattle.read_text_whole.specs.declared.Kept.{Kept}
use Rattle.read_text_whole.specs.Whole.{whole_verdict, Refuses, Judges, Reads, ReadsFolded}

-- ---- the place of a cursor

pub index_start : {m p : ℕ} (s : List ℕ) → m ≡ 0 → p ≤ length s → p ≡ index m s p
index_start {m} {p} s e h = rw e (sym (index_plain s p h))

module _ (m : ℕ) (s : List ℕ) (p : ℕ) {all left : ℕ} (a : all ≡ length (rest m s 0)) (l : left ≡ length (rest m s p)) where
  pub index_counted : all - left ≡ index m s p
  unfolding index
  index_counted = rw (a, l)

  -- a cursor within a fold
  pub index_none : all < left → 0 ≡ index m s p
  unfolding index
  index_none h = omega (arith, a, l)

-- ---- the lines are good, or one is faulty

module _ {ed : Edition} {m : ℕ} {u : List ℕ} (s : List ℕ) where
  pub lines_fine : Checks ed m u (Ok tt) → (n : ℕ) → n ≡ length u → Judges ed s (length u) (lines_verdict ed (length (rest m u 0)) (lines (rest m u 0))) (Ok (record { edition = ed; size = n }))
  lines_fine k n e = (k.is, refl, e)

  pub lines_refused : (f : Fault) {i q : ℕ} {g : Fault} → Checks ed m u (Err f) → i ≡ index m u f.place → q ≡ origin s i → g ≡ fault_at f.refusal q →
      Judges ed s (length u) (lines_verdict ed (length (rest m u 0)) (lines (rest m u 0))) (Err g)
  unfolding placed
  lines_refused f {i} {q} {g} k j e h =
      let v : lines_verdict ed (length (rest m u 0)) (lines (rest m u 0)) ≡ refuse (refusal_of f.refusal) i = k.is ∙ ap (refuse (refusal_of f.refusal)) (sym j) in
      ap (placed s) v ∙ ap (refuse (refusal_of f.refusal)) (sym e) ∙ ap (λ (x : Fault). refuse (refusal_of x.refusal) x.place) (sym h)

-- ---- all characters are there, or not

module _ (ed : Edition) (s u : List ℕ) (size : ℕ) where
  pub kept_bad : {p q : ℕ} {g : Fault} → first_bad u ≡ Some p → q ≡ origin s p → g ≡ fault_at Character q → Judges ed s size (kept_verdict ed u) (Err g)
  unfolding kept_verdict ◌otherwise◌ placed
  kept_bad {p} {q} h e f = rw (h, f, e)

  pub kept_good : (r : Result Kept Fault) → first_bad u ≡ None → Judges ed s size (lines_verdict ed (length u) (lines u)) r → Judges ed s size (kept_verdict ed u) r
  unfolding kept_verdict ◌otherwise◌
  kept_good r h g = rw h g

-- ---- the unfolded text in the work room

module _ {s w w' : List ℕ} {n : ℕ} (u : Unfolds s w w' n) where
  pub kept_is : take n w' ≡ unfolded s
  kept_is = unfolded_front u

  pub kept_inside : n ≤ length w'
  unfolding ◌⊕◌
  kept_inside = let e : length w' ≡ length (unfolded s) + length (drop (length (unfolded s)) w) = ap length u.is ∙ length-append (unfolded s) (drop (length (unfolded s)) w) in omega (arith, u.count)

  pub kept_count : n ≡ length (take n w')
  kept_count = u.count ∙ ap length (sym kept_is)

placed-fine : (s : List ℕ) → placed s fine ≡ fine
unfolding placed
placed-fine s = refl

-- ---- the contract: what is answered, and what the work room holds

abbrev pub Whole-read : List ℕ → List ℕ → List ℕ → ℕ → Result Kept Fault → Type 0
Whole-read s w w' edition r = Reads s w w' edition r × (w' ≡ to_xml_work s w edition)

module _ (s w : List ℕ) (edition : ℕ) where
  -- whatever the edition
  pub too_long : 65535 < length s → Whole-read s w w edition (Err (fault_at Length 0))
  unfolding whole_verdict to_xml_work text_verdict pick
  too_long h = go (edition_of edition)
    where
      e : leb (length s) 65535 ≡ false
      e = lt-leb (length s) 65535 h

      go : (o : Option Edition) → Refuses (whole_verdict o s (length w)) (fault_at Length 0) × (w ≡ pick (leb (length s) 65535) (pick (leb (length s) (length w)) (unfolded_in o s w) w) w)
      go (Some ed) = (rw e, rw e)
      go None = (rw e, rw e)

  module _ (h : length s ≤ 65535) where
    within : leb (length s) 65535 ≡ true
    within = le-leb (length s) 65535 h

    pub no_room : length w < length s → Whole-read s w w edition (Err (fault_at Work 0))
    unfolding whole_verdict to_xml_work text_verdict pick
    no_room k = go (edition_of edition)
      where
        f : leb (length s) (length w) ≡ false
        f = lt-leb (length s) (length w) k

        go : (o : Option Edition) → Refuses (whole_verdict o s (length w)) (fault_at Work 0) × (w ≡ pick (leb (length s) 65535) (pick (leb (length s) (length w)) (unfolded_in o s w) w) w)
        go (Some ed) = (rw (within, f), rw (within, f))
        go None = (rw (within, f), rw (within, f))

    module _ (k : length s ≤ length w) where
      room : leb (length s) (length w) ≡ true
      room = le-leb (length s) (length w) k

      pub no_edition : None ≡ edition_of edition → Whole-read s w w edition (Err (fault_at EditionRefused 0))
      unfolding whole_verdict to_xml_work pick
      no_edition n = (rw (← n, within, room), rw (← n, within, room))

      -- the verdict is that on the kept bytes
      whole : (ed : Edition) → text_verdict ed s (length w) ≡ placed s (kept_verdict ed (unfolded s))
      unfolding text_verdict pick
      whole ed = rw (within, room)

      work_left : {ed : Edition} {w' : List ℕ} {n : ℕ} → Some ed ≡ edition_of edition → Unfolds s w w' n → w' ≡ to_xml_work s w edition
      unfolding to_xml_work pick
      work_left i u = u.is ∙ rw (← i, within, room)

      in_edition : {ed : Edition} {v : Verdict} → Some ed ≡ edition_of edition → text_verdict ed s (length w) ≡ v → whole_verdict (edition_of edition) s (length w) ≡ v
      unfolding whole_verdict
      in_edition i e = rw (← i) e

      -- what the check says of the kept bytes is said of the text
      judged_refused : {ed : Edition} (f : Fault) → Some ed ≡ edition_of edition → Refuses (placed s (kept_verdict ed (unfolded s))) f → Refuses (whole_verdict (edition_of edition) s (length w)) f
      judged_refused {ed} f i h = in_edition i (whole ed ∙ h)

      judged_fine : (ed : Edition) → kept_verdict ed (unfolded s) ≡ fine → text_verdict ed s (length w) ≡ fine
      judged_fine ed v = whole ed ∙ ap (placed s) v ∙ placed-fine s

      -- the unfolded text, bytes as they stand
      judged_reads : {ed : Edition} {w' : List ℕ} {n : ℕ} (r : Result Kept Fault) → Some ed ≡ edition_of edition → Unfolds s w w' n → Judges ed s (length (take n w')) (kept_verdict ed (rest 0 (take n w') 0)) r → Reads s w w' edition r
      judged_reads {ed} {w'} {n} (Ok k) i u g =
          let v : kept_verdict ed (unfolded s) ≡ fine = rw (rest_plain (take n w'), kept_is u) at g.0 in
          let same : k.size ≡ n = g.2 ∙ sym (kept_count u) in
          record {
            named = ap Some g.1 ∙ i;
            good = rw g.1 (judged_fine ed v);
            front = rw same (kept_is u);
            inside = rw same (kept_inside u);
            short = rw (same, kept_is u) (omega (arith, h, length-unfolded s));
          }
      judged_reads {ed} {w'} {n} (Err f) i u g = judged_refused f i (rw (rest_plain (take n w'), kept_is u) at g)

      pub unfolded_read : {ed : Edition} {w' : List ℕ} {n : ℕ} (r : Result Kept Fault) → Some ed ≡ edition_of edition → Unfolds s w w' n → Judges ed s (length (take n w')) (kept_verdict ed (rest 0 (take n w') 0)) r → Whole-read s w w' edition r
      unfolded_read r i u g = (judged_reads r i u g, work_left i u)

-- ---- the contract where the folds stay in place: there is no work room, and all is as with one that is as long as the text

rest_folded : (s : List ℕ) → rest 2 s 0 ≡ unfolded s
unfolding rest pick
rest_folded s = refl

module _ (s : List ℕ) (edition : ℕ) where
  pub folded_long : 65535 < length s → ReadsFolded s edition (Err (fault_at Length 0))
  folded_long h = (too_long s s edition h).0

  pub folded_edition : length s ≤ 65535 → None ≡ edition_of edition → ReadsFolded s edition (Err (fault_at EditionRefused 0))
  folded_edition h n = (no_edition s s edition h (omega arith) n).0

  pub folded_read : {ed : Edition} (r : Result Kept Fault) → length s ≤ 65535 → Some ed ≡ edition_of edition → Judges ed s (length s) (kept_verdict ed (rest 2 s 0)) r → ReadsFolded s edition r
  folded_read {ed} (Ok k) h i g =
      let v : kept_verdict ed (unfolded s) ≡ fine = rw (rest_folded s) at g.0 in
      record { named = ap Some g.1 ∙ i; good = rw g.1 (judged_fine s s edition h (omega arith) ed v); short = h }
  folded_read {ed} (Err f) h i g = judged_refused s s edition h (omega arith) f i (rw (rest_folded s) at g)
