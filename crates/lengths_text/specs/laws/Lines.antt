-- The content line of a property, by the size of its element.
--     line_length      its content line;   line_short: with less added, but more for each byte
use Rattle.std.specs.Prelude.{◌≡◌, List, [], ◌∷◌, map, ℕ, ◌+◌, ◌*◌, ◌≤◌, length}
use Rattle.std.proofs.Common.{ap, arith}
use Rattle.octets.specs.Ascii.{ascii}
use Rattle.octets.specs.Pick.{pick}
use Rattle.octets.specs.laws.Pick.{pick_either}
use Rattle.octets.specs.Append.{◌⊕◌, joined}
use Rattle.octets.specs.laws.Append.{length_both}
use Rattle.octets.specs.Class.{upper}
use Rattle.octets.specs.Words.{each_after, joined_by}
use Rattle.octets.specs.laws.Letters.{upper-length}
use Rattle.calendar.specs.Calendar.{ValueType}
use Rattle.edition.specs.Edition.{encode}
use Rattle.edition.specs.declared.Edition.{Edition}
use Rattle.schema.specs.Types.{type_name, same_type}
use Rattle.schema.specs.Properties.{default_type}
use Rattle.values.specs.WriteValue.{write_values, type_of_all}
use Rattle.read_text_line.specs.ContentLine.{RawParameter}
use Rattle.read_text_line.specs.Write.{write_param_value, write_parameter}
use Rattle.read_text_line.specs.Decoded.{encoded_parameter, encoded_line, write_line}
use Rattle.text.proofs.laws.Carets.{type_encoded}
use Rattle.text.specs.WriteText.{raw_of, value_parameter, with_value, content_line_of}
use Rattle.xml.specs.Nodes.{Nodes}
use Rattle.xcal.specs.ValueNodes.{read_value_nodes}
use Rattle.xcal.specs.ParameterNodes.{read_parameter_nodes}
use Rattle.xcal.specs.PropertyNodes.{parameters_in, property_in}
use Rattle.lengths_xml.specs.laws.Values.{type_length}
use Rattle.lengths_xml.specs.laws.Parameters.{bytes}
use Rattle.lengths_xml.specs.laws.Properties.{line_length as length_of_line}
use Rattle.lengths_text.specs.laws.Bytes.{name_bytes, name_length}
use Rattle.lengths_text.specs.laws.Sizes.{size}
use Rattle.lengths_text.specs.laws.PropertyValues.{values_length, named_length}
use Rattle.lengths_text.specs.laws.Parameters.{parameters_length}

-- ;VALUE= and the name of a type
value_parameter_lem : (ed : Edition) (t : ValueType) → length (write_parameter (encoded_parameter ed (value_parameter t))) ≡ 7 + length (type_name t)
unfolding write_parameter write_param_value joined_by each_after pick
value_parameter_lem ed t =
    omega (arith, length_both (ascii "VALUE") (61 ∷ (encode ed (type_name t) ⊕ [])), length_both (encode ed (type_name t)) [], ap length (type_encoded ed t))

with_length : (ed : Edition) (n : List ℕ) (t : ValueType) (ps : List RawParameter) → bytes (map (encoded_parameter ed) (with_value n t ps)) ≤ 7 + length (type_name t) + bytes (map (encoded_parameter ed) ps)
unfolding with_value
with_length ed n t ps =
    pick_either (λ (l : List RawParameter). bytes (map (encoded_parameter ed) l) ≤ 7 + length (type_name t) + bytes (map (encoded_parameter ed) ps)) (same_type t (default_type n)) ps (value_parameter t ∷ ps) (omega arith)
    (unfold joined in omega (arith, length_both (write_parameter (encoded_parameter ed (value_parameter t))) (joined (map write_parameter (map (encoded_parameter ed) ps))), value_parameter_lem ed t))

-- the line, by its values and its parameters
parts_length : (ed : Edition) (m : List ℕ) (kids : Nodes) → length (write_line ed (content_line_of (property_in m kids))) ≤
    length m + 8 + length (type_name (type_of_all (read_value_nodes (upper m) kids))) + length (write_values (read_value_nodes (upper m) kids)) + 2 * size (parameters_in (upper m) kids)
unfolding content_line_of
parts_length ed m kids =
    let n : List ℕ = upper m in
    let ps : List RawParameter = map raw_of (read_parameter_nodes (parameters_in n kids)) in
    let t : ValueType = type_of_all (read_value_nodes n kids) in
    omega (arith, length_of_line (encoded_line ed (content_line_of (property_in m kids))), upper-length m, with_length ed n t ps, parameters_length ed (parameters_in n kids))

pub line_length : (ed : Edition) (m : List ℕ) (kids : Nodes) → length (write_line ed (content_line_of (property_in m kids))) ≤ length m + 26 + 2 * size kids
line_length ed m kids = omega (arith, parts_length ed m kids, values_length (upper m) kids, type_length (type_of_all (read_value_nodes (upper m) kids)))

pub line_short : (ed : Edition) (m : List ℕ) (kids : Nodes) → length (write_line ed (content_line_of (property_in m kids))) ≤ 5 * name_bytes m + 11 + 3 * size kids
line_short ed m kids = omega (arith, parts_length ed m kids, named_length m kids, name_length m)
