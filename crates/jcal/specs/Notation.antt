-- How the examples write JSON down.
--     json        quoted text in which ' stands for the quotation mark
--     in_event    a small calendar with one event, in which a property stands last, at place 201
--     canonical   what is written of a text that is accepted in the edition of RFC 5545 alone, or its refusal
--     property    the same of one property's array in a component
use Rattle.std.specs.Prelude.{List, [], ◌∷◌, ◌++◌, ℕ, eqb, Option, None, Some}
use Prim.Native.Char.{code}
use Prim.Native.String
use Prim.Native.String.{String}
use Rattle.octets.specs.Pick.{pick}
use Rattle.octets.specs.Reading.{read_or}
use Rattle.calendar.specs.Calendar.{Property}
use Rattle.calendar.specs.Refusal.{Refusal, Answer, accepted, refused}
use Rattle.edition.specs.declared.Edition.TheVariants.{Rfc5545}
use Rattle.json_text.specs.Tree.{Json, value_of}
use Rattle.json_text.specs.Kinds.{as_array}
use Rattle.jcal.specs.Property.{property_fault, property_of}
use Rattle.jcal.specs.ReadJcal.{read_jcal}
use Rattle.jcal.specs.WriteJcal.{property_json, write_jcal}

-- 39 is ', 34 the quotation mark
abbrev pub json : String → List ℕ
json String.[] = []
json (String.◌∷◌ c s) = pick (eqb (code c) 39) 34 (code c) ∷ json s

abbrev pub in_event : List ℕ → List ℕ
in_event s =
    json "['vcalendar',[['prodid',{},'text','p'],['version',{},'text','2.0']],[['vevent',["
    ++ json "['uid',{},'text','u'],['dtstamp',{},'date-time','2024-05-01T06:00:00Z'],['dtstart',{},'date-time','2024-05-04T08:00:00'],"
    ++ s ++ json "],[]]]]"

pub data Given : Type 0 where
  is : List ℕ → Given
  refusal : Refusal → ℕ → Given

abbrev pub given_by : Answer → Given
given_by (accepted c) = is (write_jcal c)
given_by (refused r p) = refusal r p

abbrev pub canonical : List ℕ → Given
canonical s = given_by (read_jcal Rfc5545 s)

abbrev pub property_by : Option Refusal → Property → Given
property_by None p = is (property_json p)
property_by (Some r) p = refusal r 0

abbrev pub elements_of : String → List Json
elements_of s = read_or [] (as_array (value_of (json s)))

abbrev pub property : List ℕ → String → Given
property k s = property_by (property_fault Rfc5545 k (elements_of s)) (property_of k (elements_of s))
