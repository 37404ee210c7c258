-- What is written of the arrays of properties and of components, one by one.
--     properties_of c es    the properties that elements state, in a component c
--     name_of es            the name of the component whose array has these elements
--     head_text, head_room  what stands before the components inside a component, and what the room for a line then holds
use Rattle.std.specs.Prelude.{List, [], map, ℕ}
use Rattle.octets.specs.Ascii.{ascii}
use Rattle.octets.specs.Append.{◌⊕◌}
use Rattle.octets.specs.Reading.{read_or}
use Rattle.calendar.specs.Calendar.{Property}
use Rattle.sink.specs.Sink.{overwrite}
use Rattle.text.specs.WriteText.{property_lines, begin_line}
use Rattle.json_text.specs.Tree.{Elements, element_list}
use Rattle.json_text.specs.Kinds.{as_array}
use Rattle.jcal.specs.Property.{property_of}
use Rattle.jcal.specs.Components.{component_name, read_properties}
use Rattle.edition.specs.declared.Edition.{Edition}
use Rattle.write_text_pieces.specs.Filled.{properties_room}

abbrev pub properties_of : List ℕ → Elements → List Property
properties_of c es = map (λ v. property_of c (read_or [] (as_array v))) (element_list es)

abbrev pub name_of : Elements → List ℕ
name_of es = component_name (element_list es)

module _ (ed : Edition) where
  unfoldable pub head_text : Elements → List ℕ
  head_text es = begin_line (name_of es) ⊕ property_lines ed (read_properties (element_list es))

  unfoldable pub head_room : Elements → List ℕ → List ℕ
  head_room es k = properties_room ed (read_properties (element_list es)) (overwrite k 0 (ascii "BEGIN:" ⊕ name_of es))
