-- Calls of both conversions, as whole: what is lent to each, whether it is accepted, and what it gives.
--     Call            a call to XML: the text, a work room and an output, with whatever bytes these hold
--     is_accepted     its answer is a number of bytes written
--     xml_of          these bytes, from the front of its output
--     States k c      its text states the calendar c (without any writer);   SameCalendar: two calls state the same
--     accepted_ones   of a list of calls;   SameCalendars: place by place the same calendar;   stream_of: their XML, joined
--     TextCall, is_text_accepted, text_of, StatesXml  the same of a call to text
use Rattle.std.specs.Prelude.{◌≡◌, Bool, true, false, List, [], ◌∷◌, map, ℕ, length, take, Some}
use Rattle.octets.specs.Pick.{pick}
use Rattle.octets.specs.Append.{joined}
use Rattle.calendar.specs.Calendar.{Calendar}
use Rattle.calendar.specs.Refusal.{accepted}
use Rattle.edition.specs.declared.Edition.{Edition}
use Rattle.text.specs.ReadText.{read_calendar}
use Rattle.xcal.specs.ReadDocument.{read_document}
use Rattle.calls.specs.Conversion.{Outcome, written, refusal, outcome, contents}
use Rattle.calls.specs.ToXml.{to_xml}
use Rattle.calls.specs.ToText.{to_text}

-- ---- answers

abbrev pub is_written : Outcome → Bool
is_written (written n) = true
is_written (refusal r p) = false

-- how many bytes
abbrev pub bytes_of : Outcome → ℕ
bytes_of (written n) = n
bytes_of (refusal r p) = 0

-- ---- what is lent

-- to XML
pub record Call : Type 0 where
  pub input : List ℕ
  pub work : List ℕ
  pub output : List ℕ

-- to text
pub record TextCall : Type 0 where
  pub input : List ℕ
  pub output : List ℕ

-- all that follows is of calls in one edition; a call names it by its number (calls_by_number)
module _ (ed : Edition) where
  -- ---- calls to XML

  abbrev pub answer_of : Call → Outcome
  answer_of k = outcome (to_xml (Some ed) k.input (length k.work)) (length k.output)

  abbrev pub is_accepted : Call → Bool
  is_accepted k = is_written (answer_of k)

  abbrev pub xml_of : Call → List ℕ
  xml_of k = take (bytes_of (answer_of k)) (contents (to_xml (Some ed) k.input (length k.work)) k.output)

  abbrev pub States : Call → Calendar → Type 0
  States k c = read_calendar ed k.input (length k.work) ≡ accepted c

  abbrev pub SameCalendar : Call → Call → Type 0
  SameCalendar k l = (c : Calendar) × States k c × States l c

  -- ---- lists of calls to XML

  -- the accepted ones, in order
  unfoldable pub accepted_ones : List Call → List Call
  accepted_ones [] = []
  accepted_ones (k ∷ ks) = pick (is_accepted k) (k ∷ accepted_ones ks) (accepted_ones ks)

  -- as many calls, and place by place the same calendar
  abbrev pub SameCalendars : List Call → List Call → Type 0
  SameCalendars [] [] = Unit {0}
  SameCalendars [] (l ∷ ls) = ⊥
  SameCalendars (k ∷ ks) [] = ⊥
  SameCalendars (k ∷ ks) (l ∷ ls) = SameCalendar k l × SameCalendars ks ls

  -- the XML of the accepted ones, joined
  abbrev pub stream_of : List Call → List ℕ
  stream_of ks = joined (map xml_of (accepted_ones ks))

  -- ---- calls to text

  abbrev pub text_answer_of : TextCall → Outcome
  text_answer_of t = outcome (to_text (Some ed) t.input) (length t.output)

  abbrev pub is_text_accepted : TextCall → Bool
  is_text_accepted t = is_written (text_answer_of t)

  abbrev pub text_of : TextCall → List ℕ
  text_of t = take (bytes_of (text_answer_of t)) (contents (to_text (Some ed) t.input) t.output)

  -- its document states the calendar
  abbrev pub StatesXml : TextCall → Calendar → Type 0
  StatesXml t c = read_document ed t.input ≡ accepted c
