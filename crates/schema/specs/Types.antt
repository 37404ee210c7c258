-- The value types by name: RFC 5545, section 3.3; schema 3.3, lines 185 to 384. A type's element in xCal is its name in small letters.
--     type_name    a type's name in capitals
--     value_types  RFC 5545's fourteen, in its order; UNKNOWN (schema, line 382) is none of them
--     type_named   the type, of the fourteen, that has a name given in capitals
--     same_type    the same type
--     is_type_of   one of a list of types
use Rattle.std.specs.Prelude.{Bool, false, List, [], ◌∷◌, ℕ, eqb, Option}
use Rattle.octets.specs.Ascii.{ascii}
use Rattle.octets.specs.Pick.{◌or◌}
use Rattle.octets.specs.Words.{row_of}
use Rattle.calendar.specs.Calendar.{ValueType, BINARY, BOOLEAN, CAL-ADDRESS, DATE, DATE-TIME, DURATION, FLOAT, INTEGER, PERIOD, RECUR, TEXT, TIME, URI, UTC-OFFSET, UNKNOWN}

abbrev pub type_name : ValueType → List ℕ
type_name BINARY = ascii "BINARY"  -- 3.3.1,  schema line 189
type_name BOOLEAN = ascii "BOOLEAN"  -- 3.3.2,  line 195
type_name CAL-ADDRESS = ascii "CAL-ADDRESS"  -- 3.3.3,  line 201
type_name DATE = ascii "DATE"  -- 3.3.4,  line 211
type_name DATE-TIME = ascii "DATE-TIME"  -- 3.3.5,  line 221
type_name DURATION = ascii "DURATION"  -- 3.3.6,  line 234
type_name FLOAT = ascii "FLOAT"  -- 3.3.7,  line 240
type_name INTEGER = ascii "INTEGER"  -- 3.3.8,  line 246
type_name PERIOD = ascii "PERIOD"  -- 3.3.9,  line 252
type_name RECUR = ascii "RECUR"  -- 3.3.10, line 268
type_name TEXT = ascii "TEXT"  -- 3.3.11, line 354
type_name TIME = ascii "TIME"  -- 3.3.12, line 364
type_name URI = ascii "URI"  -- 3.3.13, line 370
type_name UTC-OFFSET = ascii "UTC-OFFSET"  -- 3.3.14, line 376
type_name UNKNOWN = ascii "UNKNOWN"  -- line 382

abbrev pub value_types : List ValueType
value_types = BINARY ∷ BOOLEAN ∷ CAL-ADDRESS ∷ DATE ∷ DATE-TIME ∷ DURATION ∷ FLOAT ∷ INTEGER ∷ PERIOD ∷ RECUR ∷ TEXT ∷ TIME ∷ URI ∷ UTC-OFFSET ∷ []

-- VALUE names one of the fourteen
unfoldable pub type_named : List ℕ → Option ValueType
type_named w = row_of type_name w value_types

-- where a type stands in RFC 5545's order
abbrev pub type_place : ValueType → ℕ
type_place BINARY = 0
type_place BOOLEAN = 1
type_place CAL-ADDRESS = 2
type_place DATE = 3
type_place DATE-TIME = 4
type_place DURATION = 5
type_place FLOAT = 6
type_place INTEGER = 7
type_place PERIOD = 8
type_place RECUR = 9
type_place TEXT = 10
type_place TIME = 11
type_place URI = 12
type_place UTC-OFFSET = 13
type_place UNKNOWN = 14

unfoldable pub same_type : ValueType → ValueType → Bool
same_type t u = eqb (type_place t) (type_place u)

unfoldable pub is_type_of : ValueType → List ValueType → Bool
is_type_of t [] = false
is_type_of t (u ∷ us) = same_type t u or is_type_of t us
