-- A REQUEST-STATUS of iCalendar text written as elements of XML (RFC 6321, section 3.4.1.3).
--     status_xml    `code`, `description` and, where there is one, `data`
--     data_behind   the element `data`, by what stands behind the second part
use Rattle.std.specs.Prelude.{List, [], ◌∷◌, ℕ, take, Option, None, Some}
use Rattle.octets.specs.Ascii.{ascii}
use Rattle.octets.specs.Append.{◌⊕◌}
use Rattle.octets.specs.Reading.{or_nothing}
use Rattle.calendar.specs.Calendar.{Value, binary, boolean, cal_address, date, date_time, duration, float, integer, period_explicit, period_start, recur, text, time, uri, utc_offset, unknown, geo, request_status}
use Rattle.source.specs.Source.{rest}
use Rattle.xml.specs.Escape.{escaped, element_of}
use Rattle.texts.specs.Text.{read_text}

abbrev pub data_element : Option (List ℕ) → List ℕ
data_element None = []
data_element (Some x) = element_of (ascii "data") (escaped x)

unfoldable pub status_xml : Value → List ℕ
status_xml (request_status c d x) = element_of (ascii "code") (escaped c) ⊕ element_of (ascii "description") (escaped d) ⊕ data_element x
status_xml (binary x) = []
status_xml (boolean x) = []
status_xml (cal_address x) = []
status_xml (date x) = []
status_xml (date_time x) = []
status_xml (duration x) = []
status_xml (float x) = []
status_xml (integer x) = []
status_xml (period_explicit x y) = []
status_xml (period_start x y) = []
status_xml (recur x) = []
status_xml (text x) = []
status_xml (time x) = []
status_xml (uri x) = []
status_xml (utc_offset x) = []
status_xml (unknown x) = []
status_xml (geo x y) = []

abbrev pub data_behind : List ℕ → List ℕ
data_behind [] = []
data_behind (x ∷ s) = element_of (ascii "data") (or_nothing escaped (read_text s))

abbrev pub parts_xml : ℕ → List ℕ → ℕ → ℕ → ℕ → ℕ → List ℕ
parts_xml m s c a d b =
    element_of (ascii "code") (or_nothing escaped (read_text (rest m (take a s) c)))
    ⊕ element_of (ascii "description") (or_nothing escaped (read_text (rest m (take b s) d)))
    ⊕ data_behind (rest m s b)
