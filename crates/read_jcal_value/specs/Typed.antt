-- A value of a type (crate jcal, specs/Values.antt), by the type's number and by the head that code finds.
--     typed_in       whether it is one
--     pair_in        two strings that are a PERIOD;   geo_in: two numbers that are a GEO
use Rattle.std.specs.Prelude.{Bool, true, false, List, ℕ, eqb, Option, option_map}
use Rattle.octets.specs.Pick.{pick}
use Rattle.octets.specs.Reading.{and_then, is_read}
use Rattle.calendar.specs.Calendar.{ical, xcal, BINARY, BOOLEAN, DATE-TIME, DURATION, FLOAT, Value, integer}
use Rattle.schema.specs.Numbers.{type_at}
use Rattle.values.specs.ReadValue.{read_value}
use Rattle.jcal.specs.Integer.{read_number}
use Rattle.jcal.specs.Values.{read_period, read_recur}
use Rattle.read_json.specs.declared.Head.{Head}
use Rattle.read_jcal_value.specs.Elements.{string_of, number_of, literal_of, array_of, object_of}

abbrev pub read_integer : List ℕ → Option Value
read_integer l = option_map integer (read_number l)

-- BINARY, BOOLEAN, FLOAT, INTEGER, PERIOD, RECUR by their numbers, any other as its XML element
abbrev pub typed_in : ℕ → List ℕ → Head → Bool
typed_in t s h =
    pick (eqb t 0) (is_read (and_then (string_of s h) (read_value ical BINARY)))
    (pick (eqb t 1) (is_read (and_then (literal_of s h) (read_value xcal BOOLEAN)))
    (pick (eqb t 6) (is_read (and_then (number_of s h) (read_value xcal FLOAT)))
    (pick (eqb t 7) (is_read (and_then (number_of s h) read_integer))
    (pick (eqb t 8) (is_read (and_then (array_of s h) read_period))
    (pick (eqb t 9) (is_read (and_then (object_of s h) read_recur))
    (is_read (and_then (string_of s h) (read_value xcal (type_at t)))))))))

abbrev pub pair_in : List ℕ → List ℕ → Bool
pair_in x y =
    pick (is_read (read_value xcal DATE-TIME x)) (pick (is_read (read_value xcal DURATION y)) true (is_read (read_value xcal DATE-TIME y))) false

abbrev pub geo_in : List ℕ → List ℕ → Bool
geo_in x y = pick (is_read (read_value xcal FLOAT x)) (is_read (read_value xcal FLOAT y)) false
