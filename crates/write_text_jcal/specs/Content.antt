-- The content line of a property's array, with these elements, in a component c.
--     line_text        its content line;   parameters_text: VALUE, for its values vs, and the other parameters
use Rattle.std.specs.Prelude.{List, [], map, ℕ}
use Rattle.octets.specs.Append.{joined}
use Rattle.octets.specs.Reading.{read_or}
use Rattle.calendar.specs.Calendar.{Value}
use Rattle.values.specs.WriteValue.{type_of_all}
use Rattle.read_text_line.specs.Write.{write_parameter}
use Rattle.read_text_line.specs.Decoded.{encoded_parameter, write_line}
use Rattle.text.specs.WriteText.{raw_of, with_value, content_line_of}
use Rattle.json_text.specs.Tree.{Elements, element_list}
use Rattle.jcal.specs.Parameters.{read_parameters}
use Rattle.jcal.specs.Property.{member_list, property_of}
use Rattle.edition.specs.declared.Edition.{Edition}

module _ (ed : Edition) where
  unfoldable pub line_text : List ℕ → Elements → List ℕ
  line_text c es = write_line ed (content_line_of (property_of c (element_list es)))

  unfoldable pub parameters_text : List ℕ → List Value → Elements → List ℕ
  parameters_text w vs es = joined (map write_parameter (map (encoded_parameter ed) (with_value w (type_of_all vs) (map raw_of (read_or [] (read_parameters (member_list (element_list es))))))))
