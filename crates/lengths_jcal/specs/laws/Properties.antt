-- The jCal of a property, by the length of its content line with the two bytes that end it.
--     property_length    the property that a line states, and a comma
use Rattle.std.specs.Prelude.{◌≡◌, refl, List, [], ◌∷◌, map, ℕ, ◌+◌, ◌*◌, ◌≤◌, length, Option, None, Some}
use Rattle.std.proofs.Common.{arith}
use Rattle.octets.specs.Class.{upper, lower}
use Rattle.octets.specs.laws.Letters.{upper-length, lower-length}
use Rattle.octets.specs.Reading.{read_or}
use Rattle.calendar.specs.Calendar.{ValueType, TEXT, Value, Parameter}
use Rattle.schema.specs.Types.{type_name}
use Rattle.values.specs.WriteValue.{type_of_all}
use Rattle.read_text_line.specs.ContentLine.{RawParameter, ContentLine}
use Rattle.read_text_line.specs.Write.{write_content_line}
use Rattle.text.specs.Parameters.{stated_type, read_parameters}
use Rattle.text.specs.Values.{read_values}
use Rattle.text.specs.Statement.{property_of}
use Rattle.json_text.specs.Write.{quoted, object_of}
use Rattle.jcal.specs.WriteJcal.{value_json, parameter_json, property_json}
use Rattle.lengths_xml.specs.laws.Elements.{rate}
use Rattle.lengths_xml.specs.laws.Pieces.{weight}
use Rattle.lengths_xml.specs.laws.Values.{type_length}
use Rattle.lengths_xml.specs.laws.Parameters.{bytes}
use Rattle.lengths_xml.specs.laws.Properties.{line_length}
use Rattle.lengths_jcal.specs.laws.Strings.{quoted_length, array_length, object_length}
use Rattle.lengths_jcal.specs.laws.PropertyValues.{Brief, values_length}
use Rattle.lengths_jcal.specs.laws.Parameters.{parameters_length}

parameters_or : (rs : List RawParameter) → weight (map parameter_json (read_or [] (read_parameters rs))) ≤ rate * bytes rs
unfolding read_or weight
parameters_or rs = go (read_parameters rs) refl
  where
    go : (o : Option (List Parameter)) → read_parameters rs ≡ o → weight (map parameter_json (read_or [] o)) ≤ rate * bytes rs
    go None e = omega arith
    go (Some ps) e = parameters_length rs ps e

values_or : (k n : List ℕ) (t : ValueType) (s : List ℕ) → Brief s (read_or [] (read_values k n t s))
unfolding read_or weight
values_or k n t s = go (read_values k n t s) refl
  where
    go : (o : Option (List Value)) → read_values k n t s ≡ o → Brief s (read_or [] o)
    go None e = omega arith
    go (Some vs) e = values_length k n t s vs e

pub property_length : (k : List ℕ) (l : ContentLine) → length (property_json (property_of k l)) + 1 ≤ rate * (length (write_content_line l) + 2)
unfolding property_json property_of weight
property_length k l =
    let n : List ℕ = upper l.name in
    let t : ValueType = read_or TEXT (stated_type n l.parameters) in
    let ps : List Parameter = read_or [] (read_parameters l.parameters) in
    let vs : List Value = read_or [] (read_values k n t l.value) in
    let u : List ℕ = lower (type_name (type_of_all vs)) in
    let whole = array_length (quoted (lower n) ∷ object_of (map parameter_json ps) ∷ quoted u ∷ map value_json vs) in
    let kind = type_length (type_of_all vs) in
    omega (arith, whole, quoted_length (lower n), lower-length n, upper-length l.name, object_length (map parameter_json ps), quoted_length u, lower-length (type_name (type_of_all vs)), kind, parameters_or l.parameters, values_or k n t l.value, line_length l)
