-- BOOLEAN (RFC 5545, section 3.3.2; RFC 6321, section 3.6.2): boolean = "TRUE" / "FALSE", in any letter case. In XML the lexical forms of xsd:boolean: true, false, 1, 0.
--     read_boolean, write_boolean
use Rattle.std.specs.Prelude.{Bool, true, false, List, [], ◌∷◌, ℕ, Option, Some}
use Rattle.octets.specs.Ascii.{ascii}
use Rattle.octets.specs.Pick.{pick}
use Rattle.octets.specs.Class.{upper}
use Rattle.octets.specs.Words.{same, is_one_of}
use Rattle.octets.specs.Reading.{provided}
use Rattle.calendar.specs.Calendar.{Format, ical, xcal}

abbrev pub read_boolean : Format → List ℕ → Option Bool
read_boolean ical s = pick (same (upper s) (ascii "TRUE")) (Some true) (provided (same (upper s) (ascii "FALSE")) false)
read_boolean xcal s = pick (is_one_of s (ascii "true" ∷ ascii "1" ∷ [])) (Some true) (provided (is_one_of s (ascii "false" ∷ ascii "0" ∷ [])) false)

abbrev pub write_boolean : Format → Bool → List ℕ
write_boolean ical b = pick b (ascii "TRUE") (ascii "FALSE")
write_boolean xcal b = pick b (ascii "true") (ascii "false")
