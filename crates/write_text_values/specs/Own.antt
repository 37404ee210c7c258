-- GEO and REQUEST-STATUS from their elements, written as text (RFC 6321, section 3.4.1).
--     geo_of, status_of  the value
--     data_text          REQUEST-STATUS's data behind its semicolon
use Rattle.std.specs.Prelude.{List, [], ℕ, Option, None, Some}
use Rattle.octets.specs.Ascii.{ascii}
use Rattle.octets.specs.Append.{◌⊕◌}
use Rattle.calendar.specs.Calendar.{Value, geo, request_status}
use Rattle.texts.specs.Text.{write_text}
use Rattle.xml.specs.Nodes.{Nodes}
use Rattle.xcal.specs.ValueNodes.{child_named, text_of, float_of}

abbrev pub geo_of : Nodes → Value
geo_of kids = geo (float_of (ascii "latitude") kids) (float_of (ascii "longitude") kids)

abbrev pub status_of : Nodes → Value
status_of kids = request_status (text_of (ascii "code") kids) (text_of (ascii "description") kids) (child_named (ascii "data") kids)

abbrev pub data_text : Option (List ℕ) → List ℕ
data_text None = []
data_text (Some s) = ascii ";" ⊕ write_text s
