-- What a line is in an open component, by the component's name, whether there is a level left inside it, and whether a subcomponent has come: all that a reader needs of a line before it looks at what
-- the component has seen.
--     LineKind      the beginning of a subcomponent, the component's end, a property, or a fault
--     line_kind     the kind of a line
--     step          what a line of a kind does to the open components
use Rattle.std.specs.Prelude.{Bool, true, List, [], ◌∷◌, ℕ, Option, None, Some}
use Rattle.octets.specs.Ascii.{ascii}
use Rattle.octets.specs.Pick.{pick, ◌and◌}
use Rattle.octets.specs.Class.{upper}
use Rattle.octets.specs.Words.{same, is_empty}
use Rattle.calendar.specs.Calendar.{Property}
use Rattle.calendar.specs.Refusal.{LINE, NAME, FRAME, PARAMETER, COUNT}
use Rattle.schema.specs.Components.{may_contain}
use Rattle.schema.specs.Counts.{Around, complete}
use Rattle.edition.specs.declared.Edition.{Edition}
use Rattle.read_text_line.specs.ContentLine.{ContentLine}
use Rattle.read_text_line.specs.Decoded.{read_line}
use Rattle.read_text_line.specs.Names.{is_component_name}
use Rattle.text.specs.Faults.{Fault, fault, line_start, parameter_name}
use Rattle.text.specs.Statement.{property_fault, property_of}
use Rattle.text.specs.Nesting.{Open, Move, on, stop, opened, method_in, may_hold, names_carried}

pub data LineKind : Type 0 where
  starts : List ℕ → LineKind
  stops : LineKind
  holds : Property → LineKind
  faulty : Fault → LineKind

-- a component as far as a line's kind depends on it
abbrev pub open_as : List ℕ → Bool → Open
open_as k inner = record { name = k; seen = []; inner = inner }

abbrev pub begin_kind : List ℕ → Bool → ContentLine → LineKind
begin_kind k level l =
    pick (is_component_name (upper l.value))
    (pick (may_contain k (upper l.value) and level)
    (pick (is_empty l.parameters) (starts (upper l.value)) (faulty (fault PARAMETER (parameter_name 0))))
    (faulty (fault FRAME line_start)))
    (faulty (fault NAME line_start))

abbrev pub end_kind : List ℕ → ContentLine → LineKind
end_kind k l = pick (same (upper l.value) k) (pick (is_empty l.parameters) stops (faulty (fault PARAMETER (parameter_name 0)))) (faulty (fault FRAME line_start))

abbrev pub held_by : Option Fault → Property → LineKind
held_by None p = holds p
held_by (Some r) p = faulty r

abbrev pub property_kind : List ℕ → Bool → ContentLine → LineKind
property_kind k inner l = pick (may_hold (upper l.name) (open_as k inner)) (held_by (property_fault k l) (property_of k l)) (faulty (fault FRAME line_start))

unfoldable pub kind_by : List ℕ → Bool → Bool → ContentLine → LineKind
kind_by k level inner l =
    pick (names_carried l)
    (pick (same (upper l.name) (ascii "BEGIN")) (begin_kind k level l)
    (pick (same (upper l.name) (ascii "END")) (end_kind k l)
    (property_kind k inner l)))
    (faulty (fault NAME line_start))

unfoldable pub kind_of : List ℕ → Bool → Bool → Option ContentLine → LineKind
kind_of k level inner None = faulty (fault LINE line_start)
kind_of k level inner (Some l) = kind_by k level inner l

abbrev pub line_kind : Edition → List ℕ → Bool → Bool → List ℕ → LineKind
line_kind ed k level inner s = kind_of k level inner (read_line ed s)

-- ---- what it does

unfoldable pub step : LineKind → Open → List Open → Move
step (starts n) f st = on (opened n ∷ record { name = f.name; seen = f.seen; inner = true } ∷ st)
step stops f st = pick (complete f.name f.seen (record { inner = f.inner; method = method_in st })) (on st) (stop (fault COUNT line_start))
step (holds p) f st = on (record { name = f.name; seen = p ∷ f.seen; inner = f.inner } ∷ st)
step (faulty r) f st = stop r
