-- The element of the property that a content line states in an edition, by its cursors.
--     name_in        the name
--     stated_xml     the elements of its values, of the type that it states
--     content_xml    those of its parameters and its values
--     parts_xml      the whole element
use Rattle.std.specs.Prelude.{List, [], ℕ, take}
use Rattle.octets.specs.Append.{◌⊕◌}
use Rattle.octets.specs.Class.{upper, lower}
use Rattle.octets.specs.Reading.{read_or}
use Rattle.calendar.specs.Calendar.{TEXT}
use Rattle.source.specs.Source.{rest}
use Rattle.schema.specs.Numbers.{component_name}
use Rattle.xml.specs.Escape.{element_of}
use Rattle.edition.specs.declared.Edition.{Edition}
use Rattle.read_text_line.specs.Decoded.{params_in}
use Rattle.read_text_line.specs.declared.LineCursors.{LineCursors}
use Rattle.text.specs.Parameters.{stated_type, read_parameters}
use Rattle.text.specs.Values.{read_values}
use Rattle.xcal.specs.WriteXml.{values_xml, parameters_element}

abbrev pub name_in : ℕ → List ℕ → LineCursors → List ℕ
name_in m s l = rest m (take l.parameters s) l.name

abbrev pub stated_xml : Edition → ℕ → ℕ → List ℕ → LineCursors → List ℕ
stated_xml ed k m s l =
    values_xml (read_or [] (read_values (component_name k) (upper (name_in m s l)) (read_or TEXT (stated_type (upper (name_in m s l)) (params_in ed m s l.parameters))) (rest m s l.value)))

abbrev pub content_xml : Edition → ℕ → ℕ → List ℕ → LineCursors → List ℕ
content_xml ed k m s l = parameters_element (read_or [] (read_parameters (params_in ed m s l.parameters))) ⊕ stated_xml ed k m s l

abbrev pub parts_xml : Edition → ℕ → ℕ → List ℕ → LineCursors → List ℕ
parts_xml ed k m s l = element_of (lower (name_in m s l)) (content_xml ed k m s l)
