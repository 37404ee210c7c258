-- What the proofs of specs/Engines.antt need.
--     room_is_room    a work room that is long enough may as well be as long as the text
--     workless        with such a room WORK is not answered: no fault of a line or of a character is WORK
use Rattle.std.specs.Prelude.{◌≡◌, refl, Bool, true, false, List, [], ◌∷◌, ℕ, ◌≤◌, leb, length, Option, None, Some}
use Rattle.std.proofs.Common.{sym, subst, arith, le-leb}
use Rattle.octets.specs.Ascii.{ascii}
use Rattle.octets.specs.Pick.{pick}
use Rattle.octets.specs.Class.{upper}
use Rattle.octets.specs.Words.{same, is_empty}
use Rattle.octets.specs.Reading.{is_read}
use Rattle.calendar.specs.Calendar.{Calendar, ValueType}
use Rattle.calendar.specs.Refusal.{Refusal, LENGTH, WORK, CHARACTER, LINE, NAME, FRAME, PARAMETER, VALUE, COUNT, ROOM, EDITION, number_of, Verdict, fine, refuse, ◌otherwise◌, answer, characters}
use Rattle.schema.specs.Counts.{complete}
use Rattle.folding.specs.Unfold.{unfolded}
use Rattle.folding.specs.Lines.{Line, whole, loose, lines}
use Rattle.utf8.specs.Utf8.{first_bad}
use Rattle.edition.specs.declared.Edition.{Edition}
use Rattle.read_text_line.specs.ContentLine.{RawParameter, ContentLine}
use Rattle.read_text_line.specs.Decoded.{read_line}
use Rattle.read_text_line.specs.Names.{is_component_name}
use Rattle.text.specs.Faults.{Where, Fault, fault, parameters_fault, line_fault}
use Rattle.text.specs.Statement.{fault_as, property_fault, values_of_line}
use Rattle.text.specs.Nesting.{Open, Move, on, stop, may_begin, begins, method_in, ends, may_hold, told, states, names_carried, move_by, move_of, move, onward, ended, nesting}
use Rattle.text.specs.Tree.{calendar_of}
use Rattle.text.specs.ReadText.{lines_verdict, kept_verdict, placed, text_verdict, read_calendar}
use Rattle.xcal.specs.WriteXml.{write_document}
use Rattle.calls.specs.Conversion.{Converted, result, fault as refused_with, converted, Outcome, written, refusal, outcome}
use Rattle.calls.specs.ToXml.{to_xml}

pub room_is_room : (o : Option Edition) (s : List ℕ) (room : ℕ) → length s ≤ room → to_xml o s (length s) ≡ to_xml o s room
unfolding to_xml read_calendar text_verdict pick
room_is_room (Some ed) s room h = rw (le-leb (length s) (length s) (omega arith), le-leb (length s) room h)
room_is_room None s room h = rw (le-leb (length s) (length s) (omega arith), le-leb (length s) room h)

-- ---- no fault is WORK

abbrev Other : Refusal → Type 0
Other r = number_of r ≡ 2 → ⊥

abbrev FaultOther : Fault → Type 0
FaultOther (fault r w) = Other r

abbrev MoveOther : Move → Type 0
MoveOther (on st) = Unit {0}
MoveOther (stop f) = FaultOther f

abbrev VerdictOther : Verdict → Type 0
VerdictOther fine = Unit {0}
VerdictOther (refuse r p) = Other r

abbrev Faults : Option Fault → Type 0
Faults None = Unit {0}
Faults (Some f) = FaultOther f

either : (P : Move → Type 0) (t : Bool) {a b : Move} → P a → P b → P (pick t a b)
unfolding pick
either P true x y = x
either P false x y = y

line_other : (w : Option Where) (read : Bool) → Faults (line_fault w read)
line_other (Some w) read = λ e. omega (arith, e)
line_other None true = tt
line_other None false = λ e. omega (arith, e)

told_other : (f : Option Fault) (m : Move) → Faults f → MoveOther m → MoveOther (told f m)
told_other None m h k = k
told_other (Some f) m h k = h

begins_other : (k : List ℕ) (ps : List RawParameter) (st : List Open) → MoveOther (begins k ps st)
unfolding begins
begins_other k ps st = either MoveOther (is_component_name k) (either MoveOther (may_begin k st) (either MoveOther (is_empty ps) tt (λ e. omega (arith, e))) (λ e. omega (arith, e))) (λ e. omega (arith, e))

ends_other : (st : List Open) (k : List ℕ) (ps : List RawParameter) → MoveOther (ends k ps st)
unfolding ends
ends_other [] k ps = λ e. omega (arith, e)
ends_other (f ∷ st) k ps =
    either MoveOther (same k f.name)
    (either MoveOther (is_empty ps) (either MoveOther (complete f.name f.seen (record { inner = f.inner; method = method_in st })) tt (λ e. omega (arith, e))) (λ e. omega (arith, e)))
    (λ e. omega (arith, e))

fault_other : (t : Option ValueType) (k : List ℕ) (l : ContentLine) → Faults (fault_as t k l)
unfolding fault_as
fault_other t k l = line_other (parameters_fault (upper l.name) t l.parameters) (is_read (values_of_line k t l))

states_other : (st : List Open) (l : ContentLine) → MoveOther (states l st)
unfolding states
states_other [] l = λ e. omega (arith, e)
states_other (f ∷ st) l = either MoveOther (may_hold (upper l.name) f) (told_other (property_fault f.name l) _ (fault_other _ f.name l) tt) (λ e. omega (arith, e))

move_other : (o : Option ContentLine) (st : List Open) → MoveOther (move_of o st)
unfolding move_of move_by
move_other None st = λ e. omega (arith, e)
move_other (Some l) st =
    either MoveOther (names_carried l)
    (either MoveOther (same (upper l.name) (ascii "BEGIN")) (begins_other (upper l.value) l.parameters st)
    (either MoveOther (same (upper l.name) (ascii "END")) (ends_other st (upper l.value) l.parameters) (states_other st l)))
    (λ e. omega (arith, e))

onward_other : (m : Move) (p : ℕ) (s : List ℕ) (f : List Open → Verdict) → MoveOther m → ((st : List Open) → VerdictOther (f st)) → VerdictOther (onward m p s f)
unfolding onward
onward_other (on st) p s f h k = k st
onward_other (stop (fault r w)) p s f h k = h

ended_other : (st : List Open) (e : ℕ) → VerdictOther (ended e st)
unfolding ended
ended_other [] e = tt
ended_other (f ∷ st) e = λ x. omega (arith, x)

nesting_other : (ls : List Line) (ed : Edition) (e : ℕ) (st : List Open) → VerdictOther (nesting ed e ls st)
unfolding nesting
nesting_other [] ed e st = ended_other st e
nesting_other (loose p ∷ ls) ed e st = λ x. omega (arith, x)
nesting_other (whole p s ∷ ls) ed e st = onward_other (move ed s st) p s (nesting ed e ls) (move_other (read_line ed s) st) (λ st'. nesting_other ls ed e st')

lines_other : (ls : List Line) (ed : Edition) (e : ℕ) → VerdictOther (lines_verdict ed e ls)
unfolding lines_verdict
lines_other [] ed e = λ x. omega (arith, x)
lines_other (l ∷ ls) ed e = nesting_other (l ∷ ls) ed e []

kept_other : (ed : Edition) (u : List ℕ) → VerdictOther (kept_verdict ed u)
unfolding kept_verdict ◌otherwise◌
kept_other ed u = go (first_bad u)
  where
    go : (o : Option ℕ) → VerdictOther (characters o otherwise lines_verdict ed (length u) (lines u))
    go None = lines_other (lines u) ed (length u)
    go (Some p) = λ x. omega (arith, x)

-- ---- no outcome is

abbrev OutcomeOther : Outcome → Type 0
OutcomeOther (written n) = Unit {0}
OutcomeOther (refusal r p) = Other r

result_other : (bs : List ℕ) (n : ℕ) → OutcomeOther (outcome (result bs) n)
unfolding outcome pick
result_other bs n = go (leb (length bs) n)
  where
    go : (t : Bool) → OutcomeOther (pick t (written (length bs)) (refusal ROOM (length bs)))
    go true = tt
    go false = λ x. omega (arith, x)

placed_other : (s : List ℕ) (v : Verdict) (c : Calendar) (n : ℕ) → VerdictOther v → OutcomeOther (outcome (converted write_document (answer (placed s v) c)) n)
unfolding placed outcome
placed_other s fine c n h = result_other (write_document c) n
placed_other s (refuse r p) c n h = h

outcome_other : (o : Option Edition) (s : List ℕ) (n : ℕ) → OutcomeOther (outcome (to_xml o s (length s)) n)
unfolding to_xml read_calendar text_verdict pick outcome
outcome_other (Some ed) s n = rw (le-leb (length s) (length s) (omega arith)) (go (leb (length s) 65535))
  where
    go : (t : Bool) → OutcomeOther (outcome (converted write_document (answer (pick t (placed s (kept_verdict ed (unfolded s))) (refuse LENGTH 0)) (calendar_of ed (lines (unfolded s))))) n)
    go true = placed_other s (kept_verdict ed (unfolded s)) (calendar_of ed (lines (unfolded s))) n (kept_other ed (unfolded s))
    go false = λ x. omega (arith, x)
outcome_other None s n = rw (le-leb (length s) (length s) (omega arith)) (go (leb (length s) 65535))
  where
    go : (t : Bool) → OutcomeOther (outcome (pick t (refused_with EDITION 0) (refused_with LENGTH 0)) n)
    go true = λ x. omega (arith, x)
    go false = λ x. omega (arith, x)

pub workless : (o : Option Edition) (s : List ℕ) (n p : ℕ) → outcome (to_xml o s (length s)) n ≡ refusal WORK p → ⊥
workless o s n p e = subst OutcomeOther e (outcome_other o s n) refl
