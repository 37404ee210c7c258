-- Calendar components: RFC 5545, section 3.6; schema 3.6, lines 392 to 638. What may stand in a component, and how often: the columns of the one table of properties (Properties).
--     component_names     the components
--     subcomponents_of    the components that may stand directly in a component
--     Occurrence          a property with how often it stands: `least` times, and at most `most` times; `most` is none where any number may stand
--     list_in             the list of a column of the table
--     occurrences_of      the list of a component; for a VALARM there are three, by the word of its ACTION: alarm_table
--     is_known_component  the schema's components
--     may_contain         whether a component may stand directly in another: unrecognised ones in a VCALENDAR and in each other
--     may_stand           whether a known property may stand in a component; in a VALARM, one that any of the three lists has
-- The pairs and choices inside the lists (lines 447, 492, 614, 627, 637) are judged in Counts; here each of their properties is one that may be missing.
use Rattle.std.specs.Prelude.{Bool, not, List, [], ◌∷◌, map, ℕ, eqb, get_or, Option, None, Some}
use Rattle.octets.specs.Ascii.{ascii}
use Rattle.octets.specs.Pick.{pick, ◌and◌, ◌or◌}
use Rattle.octets.specs.Append.{◌⊕◌}
use Rattle.octets.specs.Words.{same, is_one_of, holds, row_of}
use Rattle.octets.specs.Reading.{and_then, read_or}
use Rattle.schema.specs.Properties.{PropertyRow, property_table}

pub record Occurrence : Type 0 where
  pub property : List ℕ
  pub least : ℕ
  pub most : Option ℕ

-- how often a property stands, by its sign: x, x+ at least once; x*, x+ any number of times
abbrev pub signed : List ℕ → ℕ → Occurrence
signed n s = record {
  property = n;
  least = pick (holds s (ascii "1+")) 1 0;
  most = pick (holds s (ascii "*+")) None (Some 1);
}

abbrev point : ℕ
point = 46

-- the properties of some rows that have a sign by the list l
unfoldable pub standing : ℕ → List PropertyRow → List Occurrence
standing l [] = []
standing l (r ∷ rs) = pick (eqb (get_or r.signs l point) point) (standing l rs) (signed r.name (get_or r.signs l point) ∷ standing l rs)

-- the list of a column of the table
abbrev pub list_in : ℕ → List Occurrence
list_in l = standing l property_table

-- type-audioprop, line 609;  type-dispprop, line 632;  type-emailprop, line 619
abbrev pub audioprop : List Occurrence
audioprop = list_in 8

abbrev pub dispprop : List Occurrence
dispprop = list_in 9

abbrev pub emailprop : List Occurrence
emailprop = list_in 10

-- the lists of a VALARM, line 606: type-audioprop | type-dispprop | type-emailprop. The rules: the list that ACTION names decides
pub record AlarmRow : Type 0 where
  pub action : List ℕ
  pub occurrences : List Occurrence

abbrev pub alarm_table : List AlarmRow
alarm_table =
    record { action = ascii "AUDIO"; occurrences = audioprop } ∷
    record { action = ascii "DISPLAY"; occurrences = dispprop } ∷
    record { action = ascii "EMAIL"; occurrences = emailprop } ∷
    []

-- a component: its name, the components that may stand in it, its list
pub record ComponentRow : Type 0 where
  pub name : List ℕ
  pub subcomponents : List (List ℕ)
  pub occurrences : List Occurrence

abbrev pub component_table : List ComponentRow
component_table =
    -- line 394, with type-component, line 406
    record { name = ascii "VCALENDAR"; subcomponents = ascii "VEVENT" ∷ ascii "VTODO" ∷ ascii "VJOURNAL" ∷ ascii "VFREEBUSY" ∷ ascii "VTIMEZONE" ∷ []; occurrences = list_in 0 } ∷
    record { name = ascii "VEVENT"; subcomponents = ascii "VALARM" ∷ []; occurrences = list_in 1 } ∷  -- line 418
    record { name = ascii "VTODO"; subcomponents = ascii "VALARM" ∷ []; occurrences = list_in 2 } ∷  -- line 463
    record { name = ascii "VJOURNAL"; subcomponents = []; occurrences = list_in 3 } ∷  -- line 511
    record { name = ascii "VFREEBUSY"; subcomponents = []; occurrences = list_in 4 } ∷  -- line 546
    record { name = ascii "VTIMEZONE"; subcomponents = ascii "STANDARD" ∷ ascii "DAYLIGHT" ∷ []; occurrences = list_in 5 } ∷  -- line 569
    record { name = ascii "STANDARD"; subcomponents = []; occurrences = list_in 6 } ∷  -- line 583, type-tzprop
    record { name = ascii "DAYLIGHT"; subcomponents = []; occurrences = list_in 7 } ∷  -- line 587, the same
    record { name = ascii "VALARM"; subcomponents = []; occurrences = [] } ∷  -- line 605: see alarm_table
    []

abbrev pub component_names : List (List ℕ)
component_names = map (λ r. r.name) component_table

-- what stands for a component that is no row: in an unrecognised one every component but VCALENDAR may stand, and every property, any number of times
abbrev pub unknown_component : ComponentRow
unknown_component = record {
  name = [];
  subcomponents =
      ascii "VEVENT" ∷ ascii "VTODO" ∷ ascii "VJOURNAL" ∷ ascii "VFREEBUSY" ∷ ascii "VTIMEZONE" ∷ ascii "STANDARD" ∷ ascii "DAYLIGHT" ∷ ascii "VALARM" ∷ [];
  occurrences = map (λ r. signed r.name 42) property_table;
}

unfoldable pub component_row : List ℕ → ComponentRow
component_row c = read_or unknown_component (row_of (λ r. r.name) c component_table)

abbrev pub subcomponents_of : List ℕ → List (List ℕ)
subcomponents_of c = (component_row c).subcomponents

unfoldable pub is_known_component : List ℕ → Bool
is_known_component c = is_one_of c component_names

-- unrecognised components stand in a VCALENDAR and in each other
abbrev pub holds_unknown : List ℕ → Bool
holds_unknown k = same k (ascii "VCALENDAR") or not (is_known_component k)

-- a component c directly in a component k
unfoldable pub may_contain : List ℕ → List ℕ → Bool
may_contain k c = is_one_of c (subcomponents_of k) or (holds_unknown k and not (is_known_component c))

abbrev pub occurrences_of : List ℕ → List Occurrence
occurrences_of c = (component_row c).occurrences

-- the list of a VALARM whose ACTION is a given word
unfoldable pub alarm_occurrences : List ℕ → Option (List Occurrence)
alarm_occurrences w = and_then (row_of (λ r. r.action) w alarm_table) (λ r. Some r.occurrences)

abbrev pub is_alarm : List ℕ → Bool
is_alarm c = same c (ascii "VALARM")

-- the known properties that may stand in a component
abbrev pub standing_in : List ℕ → List (List ℕ)
standing_in c = map (λ o. o.property) (pick (is_alarm c) (audioprop ⊕ dispprop ⊕ emailprop) (occurrences_of c))

unfoldable pub may_stand : List ℕ → List ℕ → Bool
may_stand c p = is_one_of p (standing_in c)
