-- The array of the property that a content line states in an edition, by its cursors.
--     name_in, name_json  the name, and what stands in the array up to its parameters
--     stated_json         the type that it states, and its values
--     content_json        its parameters, and these
--     parts_json          the whole array
use Rattle.std.specs.Prelude.{List, [], map, ℕ, take}
use Rattle.octets.specs.Ascii.{ascii}
use Rattle.octets.specs.Append.{◌⊕◌}
use Rattle.octets.specs.Class.{upper, lower}
use Rattle.octets.specs.Reading.{read_or}
use Rattle.calendar.specs.Calendar.{TEXT}
use Rattle.source.specs.Source.{rest}
use Rattle.schema.specs.Numbers.{component_name}
use Rattle.edition.specs.declared.Edition.{Edition}
use Rattle.read_text_line.specs.Decoded.{params_in}
use Rattle.read_text_line.specs.declared.LineCursors.{LineCursors}
use Rattle.text.specs.Parameters.{stated_type, read_parameters}
use Rattle.text.specs.Values.{read_values}
use Rattle.json_text.specs.Write.{quoted, object_of}
use Rattle.jcal.specs.WriteJcal.{parameter_json}
use Rattle.write_jcal_property.specs.Shown.{typed_json}

abbrev pub name_in : ℕ → List ℕ → LineCursors → List ℕ
name_in m s l = rest m (take l.parameters s) l.name

abbrev pub name_json : ℕ → List ℕ → LineCursors → List ℕ
name_json m s l = ascii "[" ⊕ quoted (lower (name_in m s l)) ⊕ ascii ","

abbrev pub stated_json : Edition → ℕ → ℕ → List ℕ → LineCursors → List ℕ
stated_json ed k m s l =
    typed_json (read_or [] (read_values (component_name k) (upper (name_in m s l)) (read_or TEXT (stated_type (upper (name_in m s l)) (params_in ed m s l.parameters))) (rest m s l.value)))

abbrev pub content_json : Edition → ℕ → ℕ → List ℕ → LineCursors → List ℕ
content_json ed k m s l = object_of (map parameter_json (read_or [] (read_parameters (params_in ed m s l.parameters)))) ⊕ ascii "," ⊕ stated_json ed k m s l

abbrev pub parts_json : Edition → ℕ → ℕ → List ℕ → LineCursors → List ℕ
parts_json ed k m s l = name_json m s l ⊕ content_json ed k m s l ⊕ ascii "]"
