-- Computed examples.
use Rattle.std.specs.Prelude.{◌≡◌, refl, true, false, [], ◌∷◌, map, None, Some}
use Rattle.octets.specs.Ascii.{ascii}
use Rattle.octets.specs.Reading.{or_nothing}
use Rattle.calendar.specs.Calendar.{request_status, ical, xcal}
use Rattle.texts.specs.Text.{read_text, write_text}
use Rattle.texts.specs.TextList.{read_texts, write_texts}
use Rattle.texts.specs.RequestStatus.{read_request_status, write_request_status}
use Rattle.texts.specs.Uri.{is_uri, read_uri}
use Rattle.texts.specs.Binary.{base64_value, is_binary, read_binary}
use Rattle.texts.specs.Unknown.{read_unknown}
use Rattle.texts.specs.Quoting.{needs_quotes}
use Rattle.texts.specs.Items.{item_from}
use Rattle.texts.specs.Elements.{texts_xml}
use Rattle.texts.specs.StatusXml.{status_xml}
use Rattle.texts.specs.Computing.{texts_compute}

texts_read :
    map read_text (ascii "a\\,b\\Nc" ∷ ascii "\\\\\\;\\n" ∷ [] ∷ ascii "a:\"b\"" ∷ ascii "a,b" ∷ ascii "a;b" ∷ ascii "a\\" ∷ ascii "a\\x" ∷ ascii "\\\\," ∷ [])
    ≡ (Some (ascii "a,b\nc") ∷ Some (ascii "\\;\n") ∷ Some [] ∷ Some (ascii "a:\"b\"") ∷ None ∷ None ∷ None ∷ None ∷ None ∷ [])
unfolding texts_compute
texts_read = refl

texts_written : map write_text (ascii "a,b\nc" ∷ ascii "\\;:\"" ∷ [] ∷ []) ≡ (ascii "a\\,b\\nc" ∷ ascii "\\\\\\;:\"" ∷ [] ∷ [])
unfolding texts_compute
texts_written = refl

lists_read :
    map read_texts (ascii "a,b" ∷ [] ∷ ascii "," ∷ ascii "a\\,b,,c\\n" ∷ ascii "a;b" ∷ ascii "a,b\\" ∷ [])
    ≡ (Some (ascii "a" ∷ ascii "b" ∷ []) ∷ Some ([] ∷ []) ∷ Some ([] ∷ [] ∷ []) ∷ Some (ascii "a,b" ∷ [] ∷ ascii "c\n" ∷ []) ∷ None ∷ None ∷ [])
unfolding texts_compute
lists_read = refl

lists_written : map write_texts ((ascii "a,b" ∷ [] ∷ ascii ";" ∷ []) ∷ ([] ∷ []) ∷ []) ≡ (ascii "a\\,b,,\\;" ∷ [] ∷ [])
unfolding texts_compute
lists_written = refl

statuses_read :
    map read_request_status (ascii "2.0;Success" ∷ ascii "2.0;x;" ∷ ascii "2.0;" ∷ ascii "3.1;a\\;b;c\\,\\n" ∷ ascii "2.0" ∷ ascii "2.0;a;b;c" ∷ ascii "2.0;a,b" ∷ ascii ";" ∷ [])
    ≡ (Some (request_status (ascii "2.0") (ascii "Success") None) ∷ Some (request_status (ascii "2.0") (ascii "x") (Some []))
    ∷ Some (request_status (ascii "2.0") [] None) ∷ Some (request_status (ascii "3.1") (ascii "a;b") (Some (ascii "c,\n")))
    ∷ None ∷ None ∷ None ∷ Some (request_status [] [] None) ∷ [])
unfolding texts_compute
statuses_read = refl

status_written : write_request_status (ascii "3.1") (ascii "a;b") (Some (ascii "c,\n")) ≡ ascii "3.1;a\\;b;c\\,\\n"
unfolding texts_compute
status_written = refl

items : map (item_from false 44) (ascii "a\\,b,c" ∷ ascii ",c" ∷ ascii "a;b" ∷ []) ≡ (ascii "a\\,b" ∷ [] ∷ ascii "a;b" ∷ [])
unfolding texts_compute
items = refl

lists_xml : map (or_nothing texts_xml) (read_texts (ascii "a\\,<,") ∷ read_texts (ascii "a;b") ∷ []) ≡ (ascii "<text>a,&lt;</text><text></text>" ∷ [] ∷ [])
unfolding texts_compute
lists_xml = refl

status_xml_lem : or_nothing status_xml (read_request_status (ascii "2.0;ok;")) ≡ ascii "<code>2.0</code><description>ok</description><data></data>"
unfolding texts_compute
status_xml_lem = refl

uris :
    map is_uri (ascii "mailto:a@example.com" ∷ ascii "a+-.9:" ∷ ascii "x:%zz:/?#[]@!$&'()*+,;=~" ∷ [] ∷ ascii ":a" ∷ ascii "9a:b" ∷ ascii "abc" ∷ ascii "a_b:c"
    ∷ ascii "a:b c" ∷ ascii "a:\"" ∷ ascii "a:<" ∷ ascii "a:\\" ∷ ascii "a:^" ∷ ascii "a:`" ∷ ascii "a:{" ∷ ascii "a:|" ∷ (97 ∷ 58 ∷ 195 ∷ 169 ∷ []) ∷ [])
    ≡ (true ∷ true ∷ true ∷ false ∷ false ∷ false ∷ false ∷ false ∷ false ∷ false ∷ false ∷ false ∷ false ∷ false ∷ false ∷ false ∷ false ∷ [])
unfolding texts_compute
uris = refl

uris_read : map read_uri (ascii "CID:x" ∷ ascii "x" ∷ []) ≡ (Some (ascii "CID:x") ∷ None ∷ [])
unfolding texts_compute
uris_read = refl

-- RFC 4648, section 10, has the first seven
binaries :
    map is_binary ([] ∷ ascii "Zg==" ∷ ascii "Zm8=" ∷ ascii "Zm9v" ∷ ascii "Zm9vYg==" ∷ ascii "Zm9vYmE=" ∷ ascii "Zm9vYmFy" ∷ ascii "+/+/"
    ∷ ascii "Zh==" ∷ ascii "Zm9=" ∷ ascii "Z===" ∷ ascii "Zg=" ∷ ascii "Zg" ∷ ascii "====" ∷ ascii "Zg==Zg==" ∷ ascii "Zm8=Zm9v" ∷ ascii "Zg=a" ∷ ascii "Zm9_" ∷ [])
    ≡ (true ∷ true ∷ true ∷ true ∷ true ∷ true ∷ true ∷ true
    ∷ false ∷ false ∷ false ∷ false ∷ false ∷ false ∷ false ∷ false ∷ false ∷ false ∷ [])
unfolding texts_compute
binaries = refl

binaries_read :
    (map (read_binary ical) (ascii "Zm 9v" ∷ ascii "Zm9v" ∷ []) ≡ (None ∷ Some (ascii "Zm9v") ∷ []))
    × (map (read_binary xcal) (ascii "\t Zm\n9\r\nv " ∷ ascii " " ∷ ascii "Zm9" ∷ []) ≡ (Some (ascii "Zm9v") ∷ Some [] ∷ None ∷ []))
unfolding texts_compute
binaries_read = (refl, refl)

base64_values : map base64_value (ascii "AZaz09+/=") ≡ (0 ∷ 25 ∷ 26 ∷ 51 ∷ 52 ∷ 61 ∷ 62 ∷ 63 ∷ 0 ∷ [])
unfolding texts_compute
base64_values = refl

unknowns_read : map read_unknown (ascii "a\\,;:\"" ∷ [] ∷ ascii "a\nb" ∷ []) ≡ (Some (ascii "a\\,;:\"") ∷ Some [] ∷ None ∷ [])
unfolding texts_compute
unknowns_read = refl

quotes_needed : map needs_quotes (ascii "a b" ∷ ascii "a:b" ∷ ascii "a;b" ∷ ascii "a,b" ∷ [] ∷ []) ≡ (false ∷ true ∷ true ∷ true ∷ false ∷ [])
unfolding texts_compute
quotes_needed = refl
