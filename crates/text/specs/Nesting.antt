-- Which lines are refused, and with what: one pass over the lines with the components that are open (refusals 4 to 9 of a text).
-- In a line each test is made in the order of the refusals' numbers, so that the lowest number stands.
--     method_in  whether the calendar that is open has METHOD
--     move       what one line does to the open components, or its fault
--     nesting    the verdict on the lines that are left, with these components open; both in an edition
use Rattle.std.specs.Prelude.{Bool, true, false, not, List, [], ◌∷◌, ℕ, ltb, length, Option, None, Some}
use Rattle.octets.specs.Ascii.{ascii}
use Rattle.octets.specs.Pick.{pick, ◌and◌, ◌or◌}
use Rattle.octets.specs.Class.{upper}
use Rattle.octets.specs.Words.{same, is_empty}
use Rattle.octets.specs.Lists.{every}
use Rattle.calendar.specs.Calendar.{Property}
use Rattle.calendar.specs.Levels.{levels}
use Rattle.calendar.specs.Refusal.{LINE, NAME, FRAME, PARAMETER, COUNT, Verdict, fine, refuse}
use Rattle.schema.specs.Components.{may_contain, may_stand}
use Rattle.schema.specs.Properties.{is_known_property}
use Rattle.schema.specs.Counts.{Around, method_for, complete}
use Rattle.folding.specs.Lines.{Line, whole, loose}
use Rattle.edition.specs.declared.Edition.{Edition}
use Rattle.read_text_line.specs.ContentLine.{RawParameter, ContentLine}
use Rattle.read_text_line.specs.Decoded.{read_line}
use Rattle.read_text_line.specs.Names.{is_carried_name, is_component_name}
use Rattle.text.specs.Faults.{Fault, fault, line_start, parameter_name, refused_at}
use Rattle.text.specs.Statement.{property_fault, property_of}

-- an open component: its name, its properties up to here (the last first), whether a subcomponent has come
pub record Open : Type 0 where
  pub name : List ℕ
  pub seen : List Property
  pub inner : Bool

-- on with these open components, the innermost first; or a fault
pub data Move : Type 0 where
  on : List Open → Move
  stop : Fault → Move

abbrev pub opened : List ℕ → Open
opened k = record { name = k; seen = []; inner = false }

-- ---- BEGIN

-- a component of the next level may begin where these are open
abbrev pub has_level : List Open → Bool
has_level st = ltb (length st) levels

-- a calendar stands where nothing is open, a component where its parent permits it
abbrev pub may_begin : List ℕ → List Open → Bool
may_begin k [] = same k (ascii "VCALENDAR")
may_begin k (f ∷ st) = may_contain f.name k and has_level (f ∷ st)

abbrev pub begin_in : List ℕ → List Open → List Open
begin_in k [] = opened k ∷ []
begin_in k (f ∷ st) = opened k ∷ record { name = f.name; seen = f.seen; inner = true } ∷ st

unfoldable pub begins : List ℕ → List RawParameter → List Open → Move
begins k ps st =
    pick (is_component_name k)
    (pick (may_begin k st) (pick (is_empty ps) (on (begin_in k st)) (stop (fault PARAMETER (parameter_name 0)))) (stop (fault FRAME line_start)))
    (stop (fault NAME line_start))

-- ---- END

-- up to here; none may follow a subcomponent
abbrev pub method_in : List Open → Bool
method_in [] = false
method_in (f ∷ st) = method_for f.name f.seen (method_in st)

unfoldable pub ends : List ℕ → List RawParameter → List Open → Move
ends k ps [] = stop (fault FRAME line_start)
ends k ps (f ∷ st) =
    pick (same k f.name)
    (pick (is_empty ps) (pick (complete f.name f.seen (record { inner = f.inner; method = method_in st })) (on st) (stop (fault COUNT line_start))) (stop (fault PARAMETER (parameter_name 0))))
    (stop (fault FRAME line_start))

-- ---- a property

-- a known property stands where the schema lists it; properties stand before subcomponents, except in VTIMEZONE
abbrev pub may_hold : List ℕ → Open → Bool
may_hold n f = (not (is_known_property n) or may_stand f.name n) and (not f.inner or same f.name (ascii "VTIMEZONE"))

abbrev pub told : Option Fault → Move → Move
told None m = m
told (Some r) m = stop r

unfoldable pub states : ContentLine → List Open → Move
states l [] = stop (fault FRAME line_start)
states l (f ∷ st) =
    pick (may_hold (upper l.name) f)
    (told (property_fault f.name l) (on (record { name = f.name; seen = property_of f.name l ∷ f.seen; inner = f.inner } ∷ st)))
    (stop (fault FRAME line_start))

-- ---- a line

unfoldable pub names_carried : ContentLine → Bool
names_carried l = is_carried_name l.name and every (λ (r : RawParameter). is_carried_name r.name) l.parameters

unfoldable pub move_by : ContentLine → List Open → Move
move_by l st =
    pick (names_carried l)
    (pick (same (upper l.name) (ascii "BEGIN")) (begins (upper l.value) l.parameters st)
    (pick (same (upper l.name) (ascii "END")) (ends (upper l.value) l.parameters st)
    (states l st)))
    (stop (fault NAME line_start))

unfoldable pub move_of : Option ContentLine → List Open → Move
move_of None st = stop (fault LINE line_start)
move_of (Some l) st = move_by l st

abbrev pub move : Edition → List ℕ → List Open → Move
move ed s st = move_of (read_line ed s) st

-- ---- all lines

-- a line at place p, whose bytes are s
unfoldable pub onward : Move → ℕ → List ℕ → (List Open → Verdict) → Verdict
onward (on st) p s f = f st
onward (stop r) p s f = refused_at r p s

-- nothing may be open at the end, which is at place e
unfoldable pub ended : ℕ → List Open → Verdict
ended e [] = fine
ended e (f ∷ st) = refuse FRAME e

unfoldable pub nesting : Edition → ℕ → List Line → List Open → Verdict
nesting ed e [] st = ended e st
nesting ed e (loose p ∷ ls) st = refuse LINE p
nesting ed e (whole p s ∷ ls) st = onward (move ed s st) p s (nesting ed e ls)
