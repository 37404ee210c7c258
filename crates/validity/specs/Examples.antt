-- Calendars that are valid, and ones that are not.
--     rota          a calendar with an event: each way in which values are spelled
--     variants      small changes to an event, and whether the calendar is still valid
--     fleets        unrecognised components, with others inside them and nine levels deep
--     invited       an event without DTSTART, in a calendar without METHOD and in one with it
use Rattle.std.specs.Prelude.{◌≡◌, refl, true, false, List, [], ◌∷◌, map, ℕ, None, Some}
use Rattle.octets.specs.Ascii.{ascii}
use Rattle.calendar.specs.Calendar.{moment, word, weekday, Value, binary, boolean, cal_address, date, date_time, integer, period_start, recur, text, uri, unknown, geo, request_status, Parameter, Property, Components, no_more, component}
use Rattle.edition.specs.declared.Edition.TheVariants.{Rfc5545, Rfc6868}
use Rattle.validity.specs.ValidCalendar.{is_valid}
use Rattle.validity.specs.Computing.{validity_compute}

abbrev prop : List ℕ → List Value → Property
prop n vs = record { name = n; parameters = []; values = vs }

abbrev param : List ℕ → List Value → Parameter
param n vs = record { name = n; values = vs }

abbrev calendar : List Property → Components
calendar ps =
    component (ascii "VCALENDAR") (prop (ascii "PRODID") (text (ascii "p") ∷ []) ∷ prop (ascii "VERSION") (text (ascii "2.0") ∷ []) ∷ [])
    (component (ascii "VEVENT")
    (prop (ascii "DTSTAMP") (date_time (ascii "20240504T080000Z") ∷ []) ∷ prop (ascii "DTSTART") (date (ascii "20240504") ∷ []) ∷ prop (ascii "UID") (text (ascii "u") ∷ []) ∷ ps)
    no_more no_more)
    no_more

abbrev pub rota : Components
rota = calendar (
    prop (ascii "SUMMARY") (text (ascii "a < b & c\nd") ∷ [])
    ∷ prop (ascii "CATEGORIES") (text (ascii "x") ∷ text (ascii "y,z") ∷ [])
    ∷ prop (ascii "GEO") (geo (record { minus = false; before = ascii "37"; after = ascii "386" }) (record { minus = true; before = ascii "122"; after = [] }) ∷ [])
    ∷ prop (ascii "REQUEST-STATUS") (request_status (ascii "2.0") (ascii "Done; all") (Some []) ∷ [])
    ∷ prop (ascii "RRULE") (recur (
    record { part = ascii "FREQ"; items = word (ascii "MONTHLY") ∷ [] }
    ∷ record { part = ascii "UNTIL"; items = moment (ascii "20301231") ∷ [] }
    ∷ record { part = ascii "BYDAY"; items = weekday (Some (record { negative = true; magnitude = 1 })) (ascii "SU") ∷ weekday None (ascii "FR") ∷ [] }
    ∷ []) ∷ [])
    ∷ prop (ascii "RDATE") (period_start (ascii "20240504T080000") (ascii "PT1H") ∷ period_start (ascii "20240505T080000Z") (ascii "-P1W") ∷ [])
    ∷ record { name = ascii "ATTACH"; parameters = param (ascii "ENCODING") (text (ascii "BASE64") ∷ []) ∷ []; values = binary (ascii "AAAA") ∷ [] }
    ∷ record {
      name = ascii "ATTENDEE";
      parameters = param (ascii "MEMBER") (cal_address (ascii "mailto:a@b.c") ∷ cal_address (ascii "mailto:d@e.f") ∷ []) ∷ param (ascii "RSVP") (boolean true ∷ []) ∷ param (ascii "X-P") (unknown (ascii "a;b") ∷ []) ∷ [];
      values = cal_address (ascii "mailto:jo@b.c") ∷ [];
    }
    ∷ prop (ascii "X-GLASS") (integer (record { negative = true; magnitude = 5 }) ∷ [])
    ∷ [])

pub rota_valid : is_valid Rfc5545 rota ≡ true
unfolding validity_compute
rota_valid = refl

-- one property more in the event
abbrev variants : List Property
variants =
    prop (ascii "COMMENT") (text [] ∷ [])
    ∷ prop (ascii "COMMENT") (text (ascii "a\rb") ∷ [])  -- CR
    ∷ prop (ascii "COMMENT") (text (0xFF ∷ []) ∷ [])  -- no UTF-8
    ∷ prop (ascii "COMMENT") (text (ascii "a") ∷ text (ascii "b") ∷ [])  -- two values
    ∷ prop (ascii "COMMENT") (uri (ascii "a:b") ∷ [])  -- a type that is not permitted
    ∷ prop (ascii "Comment") (text (ascii "a") ∷ [])  -- not in capitals
    ∷ prop (ascii "XML-A") (text (ascii "a") ∷ [])  -- no name that is carried
    ∷ prop (ascii "UID") (text (ascii "v") ∷ [])  -- twice
    ∷ prop (ascii "CLASS") (text (ascii "SECRET") ∷ [])  -- no word of the closed set
    ∷ prop (ascii "ATTACH") (binary (ascii "AAAA") ∷ [])  -- no ENCODING
    ∷ record { name = ascii "X-A"; parameters = param (ascii "CN") (text (ascii "a\"b") ∷ []) ∷ []; values = text (ascii "a") ∷ [] }  -- a double quote in a parameter
    ∷ []

variants_valid : map (λ p. is_valid Rfc5545 (calendar (p ∷ []))) variants ≡ (true ∷ false ∷ false ∷ false ∷ false ∷ false ∷ false ∷ false ∷ false ∷ false ∷ false ∷ [])
unfolding validity_compute
variants_valid = refl

-- with carets the double quote can be spelled
carets_valid : map (λ p. is_valid Rfc6868 (calendar (p ∷ []))) variants ≡ (true ∷ false ∷ false ∷ false ∷ false ∷ false ∷ false ∷ false ∷ false ∷ false ∷ true ∷ [])
unfolding validity_compute
carets_valid = refl

-- two calendars, the second with an event that has no DTSTART; of METHOD only its own counts
abbrev invited : List Property → List Property → Components
invited ps qs =
    component (ascii "VCALENDAR") (prop (ascii "PRODID") (text (ascii "p") ∷ []) ∷ prop (ascii "VERSION") (text (ascii "2.0") ∷ []) ∷ ps) no_more
    (component (ascii "VCALENDAR") (prop (ascii "PRODID") (text (ascii "p") ∷ []) ∷ prop (ascii "VERSION") (text (ascii "2.0") ∷ []) ∷ qs)
    (component (ascii "VEVENT") (prop (ascii "DTSTAMP") (date_time (ascii "20240504T080000Z") ∷ []) ∷ prop (ascii "UID") (text (ascii "u") ∷ []) ∷ []) no_more no_more)
    no_more)

abbrev request : List Property
request = prop (ascii "METHOD") (text (ascii "REQUEST") ∷ []) ∷ []

invited_valid : is_valid Rfc5545 (invited [] []) ∷ is_valid Rfc5545 (invited request []) ∷ is_valid Rfc5545 (invited [] request) ∷ [] ≡ false ∷ false ∷ true ∷ []
unfolding validity_compute
invited_valid = refl

-- a calendar with these components
abbrev holding : Components → Components
holding c = component (ascii "VCALENDAR") (prop (ascii "PRODID") (text (ascii "p") ∷ []) ∷ prop (ascii "VERSION") (text (ascii "2.0") ∷ []) ∷ []) c no_more

abbrev within : List (List ℕ) → Components
within [] = no_more
within (k ∷ ks) = component k [] (within ks) no_more

abbrev x : List ℕ
x = ascii "X-A"

fleets : List Components
fleets =
    component x (prop (ascii "UID") (text [] ∷ []) ∷ prop (ascii "UID") (text [] ∷ []) ∷ prop (ascii "STATUS") (text (ascii "DRAFT") ∷ []) ∷ []) no_more no_more
    ∷ component x (prop (ascii "STATUS") (text (ascii "WET") ∷ []) ∷ []) no_more no_more  -- no word of the schema's
    ∷ within (x ∷ ascii "BEGIN" ∷ ascii "END" ∷ [])
    ∷ within (x ∷ ascii "VCALENDAR" ∷ [])
    ∷ within (x ∷ ascii "VEVENT" ∷ [])  -- by its own rules
    ∷ within (x ∷ ascii "XML-A" ∷ [])  -- no name that is carried
    ∷ within (x ∷ ascii "x-b" ∷ [])  -- not in capitals
    ∷ within (x ∷ x ∷ x ∷ x ∷ x ∷ x ∷ x ∷ x ∷ [])
    ∷ within (x ∷ x ∷ x ∷ x ∷ x ∷ x ∷ x ∷ x ∷ x ∷ [])  -- too deep
    ∷ []

fleets_valid : map (λ c. is_valid Rfc5545 (holding c)) fleets ≡ (true ∷ false ∷ true ∷ false ∷ false ∷ false ∷ false ∷ true ∷ false ∷ [])
unfolding validity_compute fleets
fleets_valid = refl
