-- The content line of a property's element: of the name m, with these children.
--     line_text        its content line;   parameters_text: VALUE and the other parameters
use Rattle.std.specs.Prelude.{List, map, ℕ}
use Rattle.octets.specs.Append.{joined}
use Rattle.values.specs.WriteValue.{type_of_all}
use Rattle.read_text_line.specs.Write.{write_parameter}
use Rattle.read_text_line.specs.Decoded.{encoded_parameter, write_line}
use Rattle.text.specs.WriteText.{raw_of, with_value, content_line_of}
use Rattle.xml.specs.Nodes.{Nodes}
use Rattle.xcal.specs.ValueNodes.{read_value_nodes}
use Rattle.xcal.specs.ParameterNodes.{read_parameter_nodes}
use Rattle.xcal.specs.PropertyNodes.{parameters_in, property_in}
use Rattle.edition.specs.declared.Edition.{Edition}

module _ (ed : Edition) where
  unfoldable pub line_text : List ℕ → Nodes → List ℕ
  line_text m kids = write_line ed (content_line_of (property_in m kids))

  unfoldable pub parameters_text : List ℕ → Nodes → List ℕ
  parameters_text w kids = joined (map write_parameter (map (encoded_parameter ed) (with_value w (type_of_all (read_value_nodes w kids)) (map raw_of (read_parameter_nodes (parameters_in w kids))))))
