-- The parameters of a property in jCal (RFC 7265, section 3.5): the members of an object, each a string or an array of strings.
--     read_parameter     a parameter with its values typed; none where one of them is bad
--     are_spelled        whether their values can be spelled in an edition
--     parameters_good    whether none is repeated, each is readable, permitted and spelled, and BINARY has ENCODING=BASE64 (refusal 7)
use Rattle.std.specs.Prelude.{Bool, true, false, not, List, [], map, ℕ, Option, None, Some}
use Rattle.octets.specs.Ascii.{ascii}
use Rattle.octets.specs.Pick.{pick, ◌and◌, ◌or◌}
use Rattle.octets.specs.Class.{upper}
use Rattle.octets.specs.Words.{same, is_one_of, holds}
use Rattle.octets.specs.Lists.{every, any_one, distinct}
use Rattle.octets.specs.Reading.{provided, and_then, is_read, read_or, read_each}
use Rattle.calendar.specs.Calendar.{xcal, ValueType, BINARY, BOOLEAN, UNKNOWN, Value, boolean, text, unknown, Parameter}
use Rattle.schema.specs.Types.{same_type}
use Rattle.schema.specs.Properties.{permits_parameter}
use Rattle.schema.specs.Parameters.{parameter_type, is_listed_parameter, parameter_words}
use Rattle.edition.specs.declared.Edition.{Edition}
use Rattle.edition.specs.declared.Edition.TheVariants.{Rfc5545, Rfc6868}
use Rattle.values.specs.ReadValue.{read_value}
use Rattle.values.specs.Valid.{is_amount, is_base64_encoding}
use Rattle.json_text.specs.Tree.{Member}
use Rattle.json_text.specs.Kinds.{as_string, or_alone}

-- ---- one value

-- RSVP (3.5, its example)
abbrev pub read_truth : List ℕ → Option Value
read_truth s = pick (same s (ascii "TRUE")) (Some (boolean true)) (provided (same s (ascii "FALSE")) (boolean false))

-- a word of a closed set exactly; that of an unrecognised parameter is any characters; else as in XML
abbrev pub read_word_in : Option (List (List ℕ)) → ValueType → List ℕ → Option Value
read_word_in None t s = pick (same_type t UNKNOWN) (Some (unknown s)) (pick (same_type t BOOLEAN) (read_truth s) (read_value xcal t s))
read_word_in (Some words) t s = provided (is_one_of s words) (text s)

abbrev pub read_characters : List ℕ → List ℕ → Option Value
read_characters n s = read_word_in (parameter_words n) (parameter_type n) s

-- ---- one parameter

-- 3.5.2: a single value with or without an array
unfoldable pub read_parameter : Member → Option Parameter
read_parameter m =
    and_then (read_each (λ v. and_then (as_string v) (read_characters (upper m.name))) (or_alone m.value))
    (λ vs. provided (is_amount (is_listed_parameter (upper m.name)) vs) (record { name = upper m.name; values = vs }))

abbrev pub read_parameters : List Member → Option (List Parameter)
read_parameters ms = read_each read_parameter ms

-- ---- what an edition can spell

-- no double quote (34) and no LF (10)
abbrev pub is_plain : List ℕ → Bool
is_plain s = not (holds 34 s or holds 10 s)

-- RFC 5545 alone can spell neither
unfoldable pub are_spelled : Edition → List Member → Bool
are_spelled Rfc5545 ms = every (λ (m : Member). every (λ v. is_plain (read_or [] (as_string v))) (or_alone m.value)) ms
are_spelled Rfc6868 ms = true

-- ---- all parameters of the property n, whose value has type t

unfoldable pub parameters_good : Edition → List ℕ → ValueType → List Member → Bool
parameters_good ed n t ms =
    distinct (map (λ (m : Member). m.name) ms)
    and is_read (read_parameters ms)
    and every (λ (m : Member). permits_parameter n t (upper m.name)) ms
    and are_spelled ed ms
    and (not (same_type t BINARY) or any_one is_base64_encoding (read_or [] (read_parameters ms)))
