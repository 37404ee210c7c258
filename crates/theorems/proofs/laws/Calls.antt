-- Calls: what an accepted one states, and what it gives.
--     given           what an accepted call states, and that its XML is the document of this
--     states_accepted a call whose text states a calendar, with room for its document, is accepted
use Rattle.std.specs.Prelude.{◌≡◌, refl, Bool, List, [], ◌∷◌, ℕ, ◌≤◌, leb, length, Some}
use Rattle.std.proofs.Common.{sym, ap, ◌∙◌, le-leb}
use Rattle.std.proofs.Math.Bool.{true, false}
use Rattle.std.proofs.lemmas.Bool.{false≢true}
use Rattle.std.proofs.Math.ListN.{take, drop}
use Rattle.octets.specs.Pick.{pick}
use Rattle.octets.specs.Append.{◌⊕◌}
use Rattle.calendar.specs.Calendar.{Calendar}
use Rattle.calendar.specs.Refusal.{ROOM, Answer, accepted, refused}
use Rattle.validity.specs.ValidCalendar.{is_valid}
use Rattle.text.specs.ReadText.{read_calendar}
use Rattle.text.proofs.laws.AcceptedText.{accepted_valid}
use Rattle.xcal.specs.WriteXml.{write_document}
use Rattle.calls.specs.Conversion.{Converted, result, converted, written, refusal, outcome, contents}
use Rattle.calls.specs.ToXml.{to_xml, to_xml_outcome, to_xml_output}
use Rattle.calls.specs.ToText.{to_text, to_text_outcome, to_text_output}
use Rattle.edition.specs.Edition.{edition_number}
use Rattle.edition.specs.laws.Carets.{number_back}
use Rattle.edition.specs.declared.Edition.{Edition}
use Rattle.theorems.specs.Calls.{is_written, bytes_of, Call, is_accepted, xml_of, States}

-- ---- a result, and the output that it stands in

take_front : (a b : List ℕ) → take (length a) (a ⊕ b) ≡ a
unfolding ◌⊕◌
take_front [] b = refl
take_front (x ∷ a) b = ap (λ (l : List ℕ). x ∷ l) (take_front a b)

-- where an input gives s, and the output has room for it
pub result_given : (a : Converted) (s out : List ℕ) → a ≡ result s → length s ≤ length out →
    (is_written (outcome a (length out)) ≡ true) × (take (bytes_of (outcome a (length out))) (contents a out) ≡ s)
unfolding outcome contents pick
result_given a s out e l = rw (e, le-leb (length s) (length out) l) (refl, take_front s (drop (length s) out))

pub accepted_same : (c d : Calendar) → accepted c ≡ accepted d → c ≡ d
accepted_same c d e = cc

-- the edition that a call's number names
pub calls_by_number : (ed : Edition) (s w d : List ℕ) →
    (to_xml_outcome s w d (edition_number ed) ≡ outcome (to_xml (Some ed) s (length w)) (length d)) × (to_xml_output s w d (edition_number ed) ≡ contents (to_xml (Some ed) s (length w)) d)
    × (to_text_outcome s d (edition_number ed) ≡ outcome (to_text (Some ed) s) (length d)) × (to_text_output s d (edition_number ed) ≡ contents (to_text (Some ed) s) d)
calls_by_number ed s w d = let e = number_back ed in (rw e, rw e, rw e, rw e)

module _ (ed : Edition) where
  -- what was read, where an answer was written
  pub record Read (write : Calendar → List ℕ) (a : Answer) (out : List ℕ) : Type 0 where
    pub calendar : Calendar
    pub states : a ≡ accepted calendar
    pub bytes : take (bytes_of (outcome (converted write a) (length out))) (contents (converted write a) out) ≡ write calendar

  pub written_read : (write : Calendar → List ℕ) (a : Answer) (out : List ℕ) → is_written (outcome (converted write a) (length out)) ≡ true → Read write a out
  unfolding outcome contents pick
  written_read write (refused r p) out h = absurd (false≢true h)
  written_read write (accepted c) out h = record { calendar = c; states = refl; bytes = go (leb (length (write c)) (length out)) h }
    where
      go : (t : Bool) → is_written (pick t (written (length (write c))) (refusal ROOM (length (write c)))) ≡ true →
          take (bytes_of (pick t (written (length (write c))) (refusal ROOM (length (write c))))) (pick t (write c ⊕ drop (length (write c)) out) out) ≡ write c
      go true k = take_front (write c) (drop (length (write c)) out)
      go false k = absurd (false≢true k)

  -- ---- what an accepted call gives

  pub record Given (k : Call) : Type 0 where
    pub calendar : Calendar
    pub states : States ed k calendar
    pub valid : is_valid ed calendar ≡ true
    pub xml : xml_of ed k ≡ write_document calendar

  pub given : (k : Call) → is_accepted ed k ≡ true → Given k
  unfolding to_xml
  given k h =
      let r = written_read write_document (read_calendar ed k.input (length k.work)) k.output h in
      record { calendar = r.calendar; states = r.states; valid = accepted_valid ed k.input (length k.work) r.calendar r.states; xml = r.bytes }

  pub states_accepted : (k : Call) (c : Calendar) → States ed k c → length (write_document c) ≤ length k.output → (is_accepted ed k ≡ true) × (xml_of ed k ≡ write_document c)
  unfolding to_xml
  states_accepted k c s l = result_given (to_xml (Some ed) k.input (length k.work)) (write_document c) k.output (ap (converted write_document) s) l

  -- a text states one calendar at most
  pub states_one : (k : Call) (c d : Calendar) → States ed k c → States ed k d → c ≡ d
  states_one k c d p q = accepted_same c d (sym p ∙ q)
