-- The XML of a property, by the length of its content line with the two bytes that end it.
--     property_length    the property that a line states
--     line_length        a content line, by its parts
use Rattle.std.specs.Prelude.{◌≡◌, refl, List, [], ◌∷◌, map, ℕ, suc, ◌+◌, ◌*◌, ◌≤◌, length, Option, None, Some}
use Rattle.std.proofs.Common.{arith}
use Rattle.octets.specs.Append.{◌⊕◌, joined}
use Rattle.octets.specs.laws.Append.{length_both}
use Rattle.octets.specs.Class.{upper, lower}
use Rattle.octets.specs.Reading.{read_or}
use Rattle.octets.specs.laws.Letters.{upper-length, lower-length}
use Rattle.calendar.specs.Calendar.{ValueType, TEXT, Value, Parameter}
use Rattle.read_text_line.specs.ContentLine.{RawParameter, ContentLine}
use Rattle.read_text_line.specs.Write.{write_parameter, write_content_line}
use Rattle.text.specs.Values.{read_values}
use Rattle.text.specs.Parameters.{stated_type, read_parameters}
use Rattle.text.specs.Statement.{property_of}
use Rattle.xcal.specs.WriteXml.{values_xml, parameters_xml, parameters_element, property_xml}
use Rattle.lengths_xml.specs.laws.Elements.{rate, element_length}
use Rattle.lengths_xml.specs.laws.PropertyValues.{Brief, values_length}
use Rattle.lengths_xml.specs.laws.Parameters.{bytes, parameters_length, wrapped_length}

parameters_or : (rs : List RawParameter) → length (parameters_xml (read_or [] (read_parameters rs))) ≤ rate * bytes rs
unfolding read_or parameters_xml
parameters_or rs = go (read_parameters rs) refl
  where
    go : (o : Option (List Parameter)) → read_parameters rs ≡ o → length (parameters_xml (read_or [] o)) ≤ rate * bytes rs
    go None e = omega arith
    go (Some ps) e = parameters_length rs ps e

values_or : (k n : List ℕ) (t : ValueType) (s : List ℕ) → Brief s (read_or [] (read_values k n t s))
unfolding read_or values_xml
values_or k n t s = go (read_values k n t s) refl
  where
    go : (o : Option (List Value)) → read_values k n t s ≡ o → Brief s (read_or [] o)
    go None e = omega arith
    go (Some vs) e = values_length k n t s vs e

pub line_length : (l : ContentLine) → length (write_content_line l) ≡ length l.name + bytes l.parameters + suc (length l.value)
unfolding write_content_line
line_length l = omega (arith, length_both l.name (joined (map write_parameter l.parameters) ⊕ 58 ∷ l.value), length_both (joined (map write_parameter l.parameters)) (58 ∷ l.value))

pub property_length : (k : List ℕ) (l : ContentLine) → length (property_xml (property_of k l)) ≤ rate * (length (write_content_line l) + 2)
unfolding property_xml property_of
property_length k l =
    let n : List ℕ = upper l.name in
    let t : ValueType = read_or TEXT (stated_type n l.parameters) in
    let ps : List Parameter = read_or [] (read_parameters l.parameters) in
    let vs : List Value = read_or [] (read_values k n t l.value) in
    let outer = element_length (lower n) (parameters_element ps ⊕ values_xml vs) in
    let both = length_both (parameters_element ps) (values_xml vs) in
    omega (arith, outer, lower-length n, upper-length l.name, both, wrapped_length ps, parameters_or l.parameters, values_or k n t l.value, line_length l)
