-- PERIOD of iCalendar text as an element (RFC 6321, section 3.6.9): its start, and its end or its duration, as elements in it.
--     period_xml x l     what the code writes of the period l, where x says that it has an end
use Rattle.std.specs.Prelude.{Bool, List, ℕ}
use Rattle.octets.specs.Ascii.{ascii}
use Rattle.octets.specs.Pick.{pick}
use Rattle.octets.specs.Append.{◌⊕◌}
use Rattle.octets.specs.Reading.{or_nothing}
use Rattle.times.specs.Period.{read_period}
use Rattle.times.specs.PeriodWritten.{start_xml, end_xml}
use Rattle.xml.specs.Escape.{element_of}

-- the element after the start
unfoldable pub end_name : Bool → List ℕ
end_name x = pick x (ascii "end") (ascii "duration")

abbrev pub start_element : List ℕ → List ℕ
start_element l = element_of (ascii "start") (or_nothing start_xml (read_period l))

abbrev pub end_element : Bool → List ℕ → List ℕ
end_element x l = element_of (end_name x) (or_nothing end_xml (read_period l))

abbrev pub period_xml : Bool → List ℕ → List ℕ
period_xml x l = element_of (ascii "period") (start_element l ⊕ end_element x l)
