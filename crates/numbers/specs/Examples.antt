-- Examples that compute.
use Rattle.std.specs.Prelude.{◌≡◌, refl, Bool, true, false, List, [], ◌∷◌, map, ℕ, Option, None, Some}
use Rattle.octets.specs.Ascii.{ascii}
use Rattle.octets.specs.Reading.{and_then}
use Rattle.calendar.specs.Calendar.{ical, xcal, Whole, geo}
use Rattle.numbers.specs.Integer.{read_integer, write_integer, is_integer}
use Rattle.numbers.specs.Float.{decimal, read_float, write_float, is_normal}
use Rattle.numbers.specs.Boolean.{read_boolean, write_boolean}
use Rattle.numbers.specs.Geo.{read_geo, write_geo}
use Rattle.numbers.specs.Computing.{numbers_compute}

abbrev w : Bool → ℕ → Whole
w m n = record { negative = m; magnitude = n }

-- a text read and written again
abbrev integer_again : List ℕ → Option (List ℕ)
integer_again s = and_then (read_integer s) (λ v. Some (write_integer v))

abbrev float_again : List ℕ → Option (List ℕ)
float_again s = and_then (read_float s) (λ v. Some (write_float v))

integers : map read_integer (ascii "2147483647" ∷ ascii "2147483648" ∷ ascii "-2147483648" ∷ ascii "-2147483649" ∷ ascii "+007" ∷ ascii "-0" ∷ ascii "-012" ∷ [])
    ≡ (Some (w false 2147483647) ∷ None ∷ Some (w true 2147483648) ∷ None ∷ Some (w false 7) ∷ Some (w false 0) ∷ Some (w true 12) ∷ [])
unfolding numbers_compute
integers = refl

integers_refused : map read_integer (ascii "" ∷ ascii "+" ∷ ascii "-" ∷ ascii "--1" ∷ ascii "+-1" ∷ ascii "1.0" ∷ ascii " 1" ∷ ascii "1e3" ∷ ascii "99999999999999999999999999" ∷ [])
    ≡ (None ∷ None ∷ None ∷ None ∷ None ∷ None ∷ None ∷ None ∷ None ∷ [])
unfolding numbers_compute
integers_refused = refl

integers_written : map integer_again (ascii "+007" ∷ ascii "-0" ∷ ascii "0000000000000000000000002147483647" ∷ ascii "-0002147483648" ∷ [])
    ≡ (Some (ascii "7") ∷ Some (ascii "0") ∷ Some (ascii "2147483647") ∷ Some (ascii "-2147483648") ∷ [])
unfolding numbers_compute
integers_written = refl

integers_kept : map is_integer (w false 2147483647 ∷ w false 2147483648 ∷ w true 2147483648 ∷ w true 0 ∷ []) ≡ (true ∷ false ∷ true ∷ false ∷ [])
unfolding numbers_compute
integers_kept = refl

floats : map read_float (ascii "-037.50" ∷ ascii "0.5" ∷ ascii "+10" ∷ ascii "-0.00" ∷ ascii "-0.05" ∷ [])
    ≡ (Some (decimal true (ascii "37") (ascii "5")) ∷ Some (decimal false [] (ascii "5")) ∷ Some (decimal false (ascii "10") [])
    ∷ Some (decimal false [] []) ∷ Some (decimal true [] (ascii "05")) ∷ [])
unfolding numbers_compute
floats = refl

floats_refused : map read_float (ascii "" ∷ ascii ".5" ∷ ascii "5." ∷ ascii "." ∷ ascii "-.5" ∷ ascii "1.2.3" ∷ ascii "1e5" ∷ ascii "1,5" ∷ ascii "+" ∷ ascii "1.-5" ∷ [])
    ≡ (None ∷ None ∷ None ∷ None ∷ None ∷ None ∷ None ∷ None ∷ None ∷ None ∷ [])
unfolding numbers_compute
floats_refused = refl

floats_written : map float_again (ascii "-037.50" ∷ ascii "0.5" ∷ ascii "000" ∷ ascii "-0" ∷ ascii "100.00" ∷ ascii "-1.10" ∷ ascii "12345678901234567890.123456789012345678900" ∷ [])
    ≡ (Some (ascii "-37.5") ∷ Some (ascii "0.5") ∷ Some (ascii "0") ∷ Some (ascii "0") ∷ Some (ascii "100") ∷ Some (ascii "-1.1")
    ∷ Some (ascii "12345678901234567890.1234567890123456789") ∷ [])
unfolding numbers_compute
floats_written = refl

floats_kept : map is_normal (decimal false [] [] ∷ decimal true [] [] ∷ decimal true (ascii "1") [] ∷ decimal false (ascii "01") [] ∷ decimal false [] (ascii "10") ∷ decimal false [] (ascii "01") ∷ [])
    ≡ (true ∷ false ∷ true ∷ false ∷ false ∷ true ∷ [])
unfolding numbers_compute
floats_kept = refl

booleans : map (read_boolean ical) (ascii "TRUE" ∷ ascii "false" ∷ ascii "tRuE" ∷ ascii "1" ∷ ascii "" ∷ ascii "TRUE " ∷ [])
    ≡ (Some true ∷ Some false ∷ Some true ∷ None ∷ None ∷ None ∷ [])
unfolding numbers_compute
booleans = refl

booleans_xml : map (read_boolean xcal) (ascii "true" ∷ ascii "false" ∷ ascii "1" ∷ ascii "0" ∷ ascii "TRUE" ∷ ascii "01" ∷ [])
    ≡ (Some true ∷ Some false ∷ Some true ∷ Some false ∷ None ∷ None ∷ [])
unfolding numbers_compute
booleans_xml = refl

booleans_written : map (write_boolean ical) (true ∷ false ∷ []) ≡ (ascii "TRUE" ∷ ascii "FALSE" ∷ [])
unfolding numbers_compute
booleans_written = refl

booleans_written_xml : map (write_boolean xcal) (true ∷ false ∷ []) ≡ (ascii "true" ∷ ascii "false" ∷ [])
unfolding numbers_compute
booleans_written_xml = refl

geos : map read_geo (ascii "37.386013;-122.082932" ∷ ascii "+1.0;-0" ∷ ascii "1" ∷ ascii "1;2;3" ∷ ascii "1;" ∷ ascii ";1" ∷ ascii "1;.5" ∷ [])
    ≡ (Some (geo (decimal false (ascii "37") (ascii "386013")) (decimal true (ascii "122") (ascii "082932")))
    ∷ Some (geo (decimal false (ascii "1") []) (decimal false [] [])) ∷ None ∷ None ∷ None ∷ None ∷ None ∷ [])
unfolding numbers_compute
geos = refl

geo_written : write_geo (decimal false (ascii "37") (ascii "386013")) (decimal true [] (ascii "5")) ≡ ascii "37.386013;-0.5"
unfolding numbers_compute
geo_written = refl
