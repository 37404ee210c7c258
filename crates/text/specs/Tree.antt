-- The components that the lines of a text state (RFC 5545, sections 3.4 and 3.6), with no regard to refusals.
-- A depth counts the components that the lines at hand begin inside the one that is asked for: its own lines are those at depth 0.
--     entry_of      what a line is: the beginning or the end of a component, or a property
--     own_of        the properties of a component, from the lines after its BEGIN
--     inner_of      the components that the lines begin at depth 0
--     calendar_of   the calendar that lines state; what stands too deep in it counts as nothing
use Rattle.std.specs.Prelude.{List, [], ◌∷◌, map, ℕ, zero, suc, Option, None, Some}
use Rattle.octets.specs.Ascii.{ascii}
use Rattle.octets.specs.Pick.{pick}
use Rattle.octets.specs.Class.{upper}
use Rattle.octets.specs.Words.{same}
use Rattle.calendar.specs.Calendar.{Property, Components, no_more, component}
use Rattle.calendar.specs.Levels.{levels, shallow}
use Rattle.folding.specs.Lines.{Line, whole, loose}
use Rattle.edition.specs.declared.Edition.{Edition}
use Rattle.read_text_line.specs.ContentLine.{ContentLine}
use Rattle.read_text_line.specs.Decoded.{read_line}
use Rattle.text.specs.Statement.{property_of}

pub data Entry : Type 0 where
  begin : List ℕ → Entry
  end : Entry
  property : ContentLine → Entry
  nothing : Entry

unfoldable pub entry_by : Option ContentLine → Entry
entry_by None = nothing
entry_by (Some l) = pick (same (upper l.name) (ascii "BEGIN")) (begin (upper l.value)) (pick (same (upper l.name) (ascii "END")) end (property l))

unfoldable pub entry_of : Edition → Line → Entry
entry_of ed (loose p) = nothing
entry_of ed (whole p s) = entry_by (read_line ed s)

-- the properties of a component k, VTIMEZONE's among its subcomponents too
unfoldable pub own_of : List ℕ → List Entry → ℕ → List Property
own_of k [] d = []
own_of k (begin n ∷ es) d = own_of k es (suc d)
own_of k (end ∷ es) zero = []
own_of k (end ∷ es) (suc d) = own_of k es d
own_of k (property l ∷ es) zero = property_of k l ∷ own_of k es zero
own_of k (property l ∷ es) (suc d) = own_of k es (suc d)
own_of k (nothing ∷ es) d = own_of k es d

unfoldable pub inner_of : List Entry → ℕ → Components
inner_of [] d = no_more
inner_of (begin n ∷ es) zero = component n (own_of n es zero) (inner_of es zero) (inner_of es (suc zero))
inner_of (begin n ∷ es) (suc d) = inner_of es (suc (suc d))
inner_of (end ∷ es) zero = no_more
inner_of (end ∷ es) (suc d) = inner_of es d
inner_of (property l ∷ es) d = inner_of es d
inner_of (nothing ∷ es) d = inner_of es d

unfoldable pub calendar_of : Edition → List Line → Components
calendar_of ed ls = shallow levels (inner_of (map (entry_of ed) ls) 0)
