-- PERIOD of iCalendar text as an array (RFC 7265, section 3.6.9): its start, and its end or its duration, as strings in it.
--     period_json l     what the code writes of the period l
use Rattle.std.specs.Prelude.{List, ℕ}
use Rattle.octets.specs.Ascii.{ascii}
use Rattle.octets.specs.Append.{◌⊕◌}
use Rattle.octets.specs.Reading.{or_nothing}
use Rattle.times.specs.Period.{read_period}
use Rattle.times.specs.PeriodWritten.{start_xml, end_xml}

abbrev pub start_string : List ℕ → List ℕ
start_string l = ascii "[\"" ⊕ or_nothing start_xml (read_period l) ⊕ ascii "\""

abbrev pub end_string : List ℕ → List ℕ
end_string l = ascii ",\"" ⊕ or_nothing end_xml (read_period l) ⊕ ascii "\"]"

abbrev pub period_json : List ℕ → List ℕ
period_json l = start_string l ⊕ end_string l
