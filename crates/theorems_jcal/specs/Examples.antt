-- Two rotas that are joined, to jCal: the first ends with a fold, the second begins with one.
--     given    what a text gives, to jCal
use Rattle.std.specs.Prelude.{◌≡◌, refl, List, [], ◌∷◌, ◌++◌, map, ℕ, length, Some}
use Rattle.octets.specs.Ascii.{ascii}
use Rattle.calendar.specs.Refusal.{LINE}
use Rattle.edition.specs.declared.Edition.TheVariants.{Rfc5545}
use Rattle.json_text.specs.Written.{written, written_elements, written_members}
use Rattle.jcal.specs.Notation.{json, in_event}
use Rattle.calls.specs.Conversion.{Converted, result, fault}
use Rattle.calls_jcal.specs.ToJcal.{to_jcal}
use Rattle.calls_jcal.specs.Computing.{jcal_calls_compute}
use Rattle.theorems_jcal.specs.Joined.{objects_in}

-- with a work room as long as the text
abbrev given : List ℕ → Converted
given s = to_jcal (Some Rfc5545) s (length s)

-- a rota of one event, in which this line stands last
abbrev rota_text : List ℕ → List ℕ
rota_text s =
    ascii "BEGIN:VCALENDAR\r\nPRODID:p\r\nVERSION:2.0\r\nBEGIN:VEVENT\r\nUID:u\r\nDTSTAMP:20240501T060000Z\r\nDTSTART:20240504T080000\r\n"
    ++ s ++ ascii "\r\nEND:VEVENT\r\nEND:VCALENDAR\r\n"

abbrev glass : List ℕ
glass = rota_text (ascii "SUMMARY:Read glass") ++ ascii "\r\n "

abbrev boats : List ℕ
boats = ascii "\r\n " ++ rota_text (ascii "SUMMARY:Count boats")

abbrev glass_jcal : List ℕ
glass_jcal = in_event (json "['summary',{},'text','Read glass']")

abbrev boats_jcal : List ℕ
boats_jcal = in_event (json "['summary',{},'text','Count boats']")

abbrev both : List ℕ
both = json "[" ++ glass_jcal ++ json "," ++ boats_jcal ++ json "]"

-- each alone, without an outer array; both in either order, three: in one
rotas_joined : map given (glass ∷ boats ∷ (glass ++ boats) ∷ (boats ++ glass) ∷ (boats ++ boats ++ glass) ∷ [])
    ≡ map result (
    glass_jcal ∷ boats_jcal ∷ both ∷ (json "[" ++ boats_jcal ++ json "," ++ glass_jcal ++ json "]") ∷
    (json "[" ++ boats_jcal ++ json "," ++ boats_jcal ++ json "," ++ glass_jcal ++ json "]") ∷ [])
unfolding jcal_calls_compute
rotas_joined = refl

-- the objects of each, of both, of one in an outer array, also with white space
objects : map objects_in (glass_jcal ∷ both ∷ (json "[" ++ boats_jcal ++ json "]") ∷ (json "[ " ++ boats_jcal ++ json " ,\n " ++ glass_jcal ++ json " ]") ∷ [])
    ≡ (glass_jcal ∷ []) ∷ (glass_jcal ∷ boats_jcal ∷ []) ∷ (boats_jcal ∷ []) ∷ (boats_jcal ∷ glass_jcal ∷ []) ∷ []
unfolding jcal_calls_compute written written_elements written_members
objects = refl

-- a text that begins with a blank is not accepted by itself
blank_refused : given (ascii " " ++ boats) ≡ fault LINE 0
unfolding jcal_calls_compute
blank_refused = refl
