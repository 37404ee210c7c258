-- The walk over a line's parameters by numbers: of types, of parameters, and the property's row.
--     number_of        the number of a parameter's name, VALUE's too
--     comes_again      whether the name of a parameter stands before it, by what a walk has noted
--     type_for         the type by which a parameter is judged
--     fits_by          a parameter of a number fits;   fits_at: a parameter of a line
--     behind_at        the type behind a parameter, if that is sound
--     Notes, ended_by  what is noted of a parameter;   the answer where all are sound
--     ParametersAt     the contract of the walk
use Rattle.std.specs.Prelude.{◌≡◌, Bool, true, false, not, cond, List, [], ℕ, ◌+◌, eqb, ltb, take, Option, None, Some, option_map, Result, Ok, Err}
use Rattle.bits.specs.Masks.{has}
use Rattle.octets.specs.Ascii.{ascii}
use Rattle.octets.specs.Pick.{pick, ◌and◌, ◌or◌}
use Rattle.octets.specs.Class.{upper}
use Rattle.octets.specs.Words.{same, is_one_of}
use Rattle.octets.specs.Lists.{any_one}
use Rattle.octets.specs.Reading.{provided, is_read, read_or}
use Rattle.names.specs.Table.{place_of}
use Rattle.schema.specs.Types.{type_place}
use Rattle.schema.specs.Parameters.{parameter_names}
use Rattle.schema.specs.Numbers.{parameter_at}
use Rattle.schema.specs.Columns.{permits_at}
use Rattle.schema.specs.declared.table.Row.{Row}
use Rattle.distinct.specs.Again.{first_again}
use Rattle.read_text_line.specs.ContentLine.{ParamValue, RawParameter}
use Rattle.text.specs.Parameters.{is_word, is_raw_base64_encoding, read_parameter, type_in}
use Rattle.text.specs.Faults.{Where, parameter_name, value_start, is_encoding, first_faulty, place_of_fault}
use Rattle.read_text_parameters.specs.Readable.{is_read_by}
use Rattle.read_text_parameters.specs.Stating.{stated_at}
use Rattle.read_text_parameters.specs.declared.walk.Noted.{Noted}
use Rattle.read_text_parameters.specs.declared.ParameterFault.{ParameterFault}
use Rattle.read_text_parameters.specs.declared.ParameterFault.TheVariants.{Faulty, Unencoded}

-- 20 is VALUE's, 19 an unrecognised one's
unfoldable pub number_of : List ℕ → ℕ
number_of w = pick (same w (ascii "VALUE")) 20 (place_of w parameter_names)

-- ---- it comes again

-- a name w that has no number of its own, behind some of `names`: up to sixteen are compared; from there on the place of the first that comes again is known
abbrev pub other_again : Noted → List ℕ → List (List ℕ) → Bool
other_again n w names = pick (ltb n.count 16) (is_one_of w (take n.count names)) (eqb n.count n.again)

-- the same notes with that place, once there are so many
abbrev pub sought_by : Noted → List (List ℕ) → Noted
sought_by n names = record { count = n.count; seen = n.seen; again = pick (eqb n.count 16) (first_again [] names) n.again; value_type = n.value_type }

-- its number is q; those that have a number are noted
abbrev pub comes_again : Noted → ℕ → List ℕ → List (List ℕ) → Bool
comes_again n q w names = pick (eqb q 19) (other_again n w names) (has n.seen q)

-- ---- it fits: 5 is DURATION, 0 BINARY; 13 is RELATED, 6 ENCODING

-- RELATED and ENCODING are judged by the type that the value has, all others as with DURATION
abbrev pub type_for : ℕ → Option ℕ → ℕ
type_for q t = pick (eqb q 13 or eqb q 6) (read_or 5 t) 5

abbrev pub encodes_by : ℕ → ℕ → List ParamValue → Bool
encodes_by t q vs = not (eqb t 0 and eqb q 6) or is_word (ascii "BASE64") vs

abbrev pub fits_by : Row → ℕ → ℕ → List ParamValue → Bool
fits_by row t q vs = permits_at row t q and is_read_by (parameter_at q) vs and encodes_by t q vs

abbrev pub is_binary_at : Option ℕ → Bool
is_binary_at None = false
is_binary_at (Some t) = eqb t 0

unfoldable pub fits_at : Row → Option ℕ → RawParameter → Bool
fits_at row t r =
    permits_at row (read_or 5 t) (place_of (upper r.name) parameter_names)
    and is_read (read_parameter r)
    and (not (is_binary_at t and is_encoding r) or is_raw_base64_encoding r)

-- ---- the type behind it: of the values of a parameter of the number q, where the line states the type o, and t is the type so far

abbrev pub behind_at : Row → Option ℕ → ℕ → ℕ → List ParamValue → Option ℕ
behind_at row o t q vs = pick (eqb q 20) (option_map type_place (type_in vs)) (provided (fits_by row (type_for q o) q vs) t)

-- what the line states, where rs are still to come: by the VALUE that has come, or by them
abbrev pub stated_by : Noted → List RawParameter → Option ℕ
stated_by n rs = pick (has n.seen 20) (Some n.value_type) (stated_at n.value_type rs)

-- ---- the walk

abbrev pub lacks_at : Option ℕ → List RawParameter → Bool
lacks_at t rs = is_binary_at t and not (any_one is_encoding rs)

-- r is n with one parameter more, of the number q, and the type behind it
pub record Notes (n : Noted) (q t : ℕ) (r : Noted) : Type 0 where
  pub count : r.count ≡ n.count + 1
  pub seen : (j : ℕ) → has r.seen j ≡ cond (eqb q j) true (has n.seen j)
  pub again : r.again ≡ n.again
  pub typed : r.value_type ≡ t

-- where all are sound
abbrev pub ended_by : Noted → Result ℕ ParameterFault
ended_by n = pick (eqb n.value_type 0) (pick (has n.seen 6) (Ok n.value_type) (Err Unencoded)) (Ok n.value_type)

abbrev pub where_of : Result ℕ ParameterFault → Option Where
where_of (Ok t) = None
where_of (Err (Faulty i)) = Some (parameter_name i)
where_of (Err Unencoded) = Some value_start

-- by the type that they state
unfoldable pub fault_as : Row → Option ℕ → List RawParameter → Option Where
fault_as row t rs = place_of_fault (first_faulty (fits_at row t) [] rs) (lacks_at t rs)

pub record ParametersAt (row : Row) (rs : List RawParameter) (r : Result ℕ ParameterFault) : Type 0 where
  pub fault : fault_as row (stated_at row.default rs) rs ≡ where_of r
  pub typed : (t : ℕ) → r ≡ Ok t → stated_at row.default rs ≡ Some t
