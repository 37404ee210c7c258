-- A calendar that is read from a document is valid (RFC 6321).
--     document_accepted    what is read is valid
--     document_again       and is read again from its own document, where that is within the input limit
use Rattle.std.specs.Prelude.{◌≡◌, Bool, true, ℕ, zero, suc, ◌+◌, ◌≤◌, eqb, leb, length, drop, Option, None, Some}
use Rattle.std.proofs.Math.Path.{refl}
use Rattle.std.proofs.Math.Bool.{false}
use Rattle.std.proofs.lemmas.Bool.{false≢true}
use mathlib.Core.List.{List, [], ◌∷◌}
use Rattle.std.proofs.Common.{arith}
use Rattle.octets.specs.Ascii.{ascii}
use Rattle.octets.specs.Pick.{◌and◌, ◌or◌}
use Rattle.octets.specs.laws.Pick.{pick_either, and_both, and_yes}
use Rattle.octets.specs.Words.{same, starts}
use Rattle.calendar.specs.Calendar.{Calendar}
use Rattle.calendar.specs.Levels.{levels}
use Rattle.calendar.specs.Refusal.{XML, LENGTH, CHARACTER, Verdict, fine, refuse, accepted, answer, characters}
use Rattle.calendar.specs.laws.Refusal.{refused_not}
use Rattle.utf8.specs.Utf8.{tails, first_bad}
use Rattle.utf8.specs.laws.Utf8.{good_well_formed}
use Rattle.validity.specs.ValidCalendar.{at_top, is_valid}
use Rattle.validity.proofs.laws.ValidCalendar.{valid_shallow}
use Rattle.xml.specs.Pieces.{from, any_space, name_of, ◌then◌}
use Rattle.xml.specs.Prolog.{prolog}
use Rattle.xml.specs.Reads.{is_name}
use Rattle.xml.specs.Token.{Token, s_tag, empty_elem_tag, namespace_attribute, root_tag, literal_byte, token}
use Rattle.xml.specs.Marks.{Mark, opens, closes, char, refers, fault, marks_by, scan, root_marks, document_marks}
use Rattle.xml.specs.WellFormed.{move, followed, check, xml_verdict}
use Rattle.xml.specs.Nodes.{nodes, root_by, root_node, document_nodes}
use Rattle.edition.specs.declared.Edition.{Edition}
use Rattle.xcal.specs.WriteXml.{write_document}
use Rattle.xcal.specs.ComponentNodes.{root_verdict, read_components, read_root}
use Rattle.xcal.specs.ReadDocument.{document_verdict, read_document}
use Rattle.xcal.proofs.laws.SoundContent.{is_clean}
use Rattle.xcal.proofs.laws.DocumentBack.{document_back}
use Rattle.xcal.proofs.laws.Accepted.{both_fine, test_fine}
use Rattle.xcal.proofs.laws.ValuesAccepted.{empty_clean}
use Rattle.xcal.proofs.laws.ComponentsAccepted.{one_fine, stream_accepted}
use Rattle.xcal.proofs.laws.GoodMarks.{is_good_mark, are_good_marks, good_nodes}
use Rattle.xml.specs.laws.Decoding.{State, step_state, drop_state, Ends, start_by_lem, tag_by, reference_by, name_read}
use Rattle.xml.specs.CleanRuns.{run_by, run_of}
use Rattle.xml.specs.laws.CleanRuns.{Run, run_clean, past_run}

-- ---- marks

clean_run : (lo hi : ℕ) (l : Bool) (run : List ℕ) → Run 0 lo hi l run → is_clean run ≡ true
unfolding is_clean ◌and◌
clean_run lo hi l run r = rw r.plain (good_well_formed run (r.good 0))

-- what follows a tag is clean
tag_clean : (s : List ℕ) (k p : ℕ) → State s → Ends s k → is_clean (run_of (scan s p k)) ≡ true
tag_clean s k p st e = clean_run 0x80 0x80 false (run_of (scan s p k)) (past_run s k p 0x80 0x80 false (omega arith) (run_clean s) st e)

-- the marks of a token, before those of what follows
abbrev Good : List ℕ → ℕ → Token → Type 0
Good s p t = are_good_marks (marks_by t p (scan s (p + 1))) ≡ true

module _ (s : List ℕ) (p : ℕ) (st : State s) (ih : (q k : ℕ) → are_good_marks (scan s q k) ≡ true) where
  start_good : (k : ℕ) → is_name (name_of s) ≡ true → Ends s k → Good s p (s_tag (name_of s) k)
  unfolding marks_by are_good_marks is_good_mark
  start_good k n e = and_yes _ _ (and_yes _ _ n (tag_clean s k (p + 1) st e)) (ih (p + 1) k)

  empty_good : (k : ℕ) → is_name (name_of s) ≡ true → Good s p (empty_elem_tag (name_of s) k)
  unfolding marks_by are_good_marks is_good_mark run_of run_by ◌and◌
  empty_good k n = and_yes _ _ (and_yes _ _ n empty_clean) (ih (p + 1) k)

  token_good : (b : ℕ) → Good s p (token b s)
  unfolding token literal_byte marks_by are_good_marks is_good_mark ◌and◌
  token_good b =
      pick_either (Good s p) (eqb b 60) _ _ (tag_by (Good s p) s start_good empty_good (λ n k. ih (p + 1) k) refl)
      (pick_either (Good s p) (eqb b 38) _ _ (reference_by (Good s p) s (λ w k c e. ih (p + 1) k) refl)
      (pick_either (Good s p) (eqb b 13) _ _ (pick_either (Good s p) (starts (10 ∷ []) s) _ _ (ih (p + 1) 1) (ih (p + 1) 0))
      (pick_either (Good s p) (eqb b 93 and starts (ascii "]>") s) _ _ refl (ih (p + 1) 0))))

marks_good : (s : List ℕ) → State s → (p k : ℕ) → are_good_marks (scan s p k) ≡ true
unfolding scan are_good_marks
marks_good [] st p k = refl
marks_good (b ∷ s) st p (suc k) = marks_good s (step_state b s st) (p + 1) k
marks_good (b ∷ s) st p zero = token_good s p (step_state b s st) (marks_good s (step_state b s st)) b

-- ---- the root

-- an element opens, or there is a fault
abbrev is_rooted : List Mark → Bool
is_rooted [] = true
is_rooted (opens p nm ∷ ms) = true
is_rooted (closes p nm ∷ ms) = false
is_rooted (char p b ∷ ms) = false
is_rooted (refers p bs ∷ ms) = false
is_rooted (fault p ∷ ms) = true

root_good : (p : ℕ) (s : List ℕ) → State s → (are_good_marks (root_marks p s) ≡ true) × (is_rooted (root_marks p s) ≡ true)
unfolding root_marks root_tag marks_by are_good_marks is_good_mark ◌and◌
root_good p [] st = (refl, refl)
root_good p (b ∷ s) st =
    let w = step_state b s st in
    let ih = marks_good s w in (
      pick_either (Good s p) (eqb b 60) _ _ (start_by_lem (Good s p) s (start_good s p w ih) (empty_good s p w ih) refl _ (name_read (namespace_attribute then any_space) s)) refl,
      pick_either (λ t. is_rooted (marks_by t p (scan s (p + 1))) ≡ true) (eqb b 60) _ _ (start_by_lem (λ t. is_rooted (marks_by t p (scan s (p + 1))) ≡ true) s (λ k n e. refl) (λ k n. refl) refl _ (name_read (namespace_attribute then any_space) s)) refl,
    )

-- past the mark where the root opens
later : (p : ℕ) (nm : List ℕ) (ms : List Mark) → are_good_marks (opens p nm ∷ ms) ≡ true → are_good_marks ms ≡ true
unfolding are_good_marks
later p nm ms h = (and_both (is_good_mark (opens p nm) (run_of ms)) _ h).1

-- ---- the document

none_bad : (o : Option ℕ) → characters o ≡ fine → o ≡ None
none_bad None h = refl
none_bad (Some p) h = refused_not CHARACTER p h

answered : (v : Verdict) (d c : Calendar) → answer v d ≡ accepted c → (v ≡ fine) × (d ≡ c)
answered fine d c h = (refl, cc)
answered (refuse r p) d c h = let z : ◌≡◌ {A = ℕ} 0 1 = cc in absurd (omega arith)

module _ (ed : Edition) where
  valid_root : (ms : List Mark) (e : ℕ) → are_good_marks ms ≡ true → is_rooted ms ≡ true → check ms e false [] ≡ fine → root_verdict ed (root_node ms) ≡ fine → is_valid ed (read_root (root_node ms)) ≡ true
  unfolding root_node root_by root_verdict read_root is_valid check move followed ◌and◌ ◌or◌
  valid_root [] e g r x h = absurd (false≢true (test_fine false fine XML e x).0)
  valid_root (opens p nm ∷ ms) e g r x h =
      let a = one_fine (same nm (ascii "icalendar")) _ p nm h in
      let c = stream_accepted ed (nodes ms 0) false _ (good_nodes ms 0 (later p nm ms g)) a.1 in
      rw (valid_shallow ed (read_components (nodes ms 0)) levels at_top false c.valid) (and_yes _ _ c.there c.valid)
  valid_root (closes p nm ∷ ms) e g r x h = absurd (false≢true r)
  valid_root (char p b ∷ ms) e g r x h = absurd (false≢true r)
  valid_root (refers p bs ∷ ms) e g r x h = absurd (false≢true r)
  valid_root (fault p ∷ ms) e g r x h = refused_not XML p x

  pub document_accepted : (s : List ℕ) (c : Calendar) → read_document ed s ≡ accepted c → is_valid ed c ≡ true
  unfolding read_document document_verdict xml_verdict document_nodes document_marks from tails
  document_accepted s c h =
      let a = answered (document_verdict ed s) (read_root (document_nodes s)) c h in
      let b = test_fine (leb (length s) 65535) _ LENGTH 0 a.0 in
      let d = both_fine (characters (first_bad s)) _ b.1 in
      let e = both_fine (xml_verdict s) _ d.1 in
      let st : State s = record { pending = 0; at = 0; least = 0x80; most = 0x80; last = false; above = omega arith; tail = refl; good = none_bad (first_bad s) d.0 } in
      let g = root_good (prolog s) (drop (prolog s) s) (drop_state (prolog s) s st) in
      rw (← a.1) (valid_root (document_marks s) (length s) g.0 g.1 e.0 e.1)

  pub document_again : (s : List ℕ) (c : Calendar) → read_document ed s ≡ accepted c → length (write_document c) ≤ 65535 → read_document ed (write_document c) ≡ accepted c
  document_again s c h l = document_back ed c (document_accepted s c h) l
