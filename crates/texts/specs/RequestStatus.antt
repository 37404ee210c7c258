-- REQUEST-STATUS of RFC 5545, section 3.8.8.3, as iCalendar text writes it. In xCal its parts are elements (RFC 6321, section 3.4.1.3).
-- Its code is any TEXT, as are the description and the data: RFC 6321, section 3.4.1.3, has "two or three TEXT values".
--     read_request_status s                       two or three texts between bare semicolons; a bare comma is a fault; an empty third part is kept
--     write_request_status code description data  the same back
use Rattle.std.specs.Prelude.{List, [], ◌∷◌, map, ℕ, Option, None, Some}
use Rattle.octets.specs.Words.{joined_by}
use Rattle.octets.specs.Reading.{and_then}
use Rattle.calendar.specs.Calendar.{Value, request_status}
use Rattle.texts.specs.Text.{split_text, write_text}

--   rstatus  = "REQUEST-STATUS" rstatparam ":" statcode ";" statdesc [";" extdata]
--   statcode = 1*DIGIT 1*2("." 1*DIGIT)
--   statdesc = text
--   extdata  = text

-- the parts in order, by how many are left
abbrev pub with_data : List ℕ → List ℕ → List ℕ → List (List ℕ) → Option Value
with_data code description x [] = Some (request_status code description (Some x))
with_data code description x (p ∷ ps) = None

abbrev pub with_description : List ℕ → List ℕ → List (List ℕ) → Option Value
with_description code description [] = Some (request_status code description None)
with_description code description (x ∷ ps) = with_data code description x ps

abbrev pub with_code : List ℕ → List (List ℕ) → Option Value
with_code code [] = None
with_code code (description ∷ ps) = with_description code description ps

abbrev pub status_of : List (List ℕ) → Option Value
status_of [] = None
status_of (code ∷ ps) = with_code code ps

abbrev pub read_request_status : List ℕ → Option Value
read_request_status s = and_then (split_text 59 s) status_of

abbrev pub status_parts : List ℕ → List ℕ → Option (List ℕ) → List (List ℕ)
status_parts code description None = code ∷ description ∷ []
status_parts code description (Some x) = code ∷ description ∷ x ∷ []

abbrev pub write_request_status : List ℕ → List ℕ → Option (List ℕ) → List ℕ
write_request_status code description x = joined_by 59 (map write_text (status_parts code description x))
