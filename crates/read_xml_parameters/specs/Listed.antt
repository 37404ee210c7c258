-- The parameters of a property as text, one after another.
--     parameter_shown                      one parameter, and all of them
use Rattle.std.specs.Prelude.{List, [], ℕ}
use Rattle.octets.specs.Class.{upper}
use Rattle.octets.specs.Reading.{read_or}
use Rattle.read_text_line.specs.Write.{write_parameter}
use Rattle.read_text_line.specs.Decoded.{encoded_parameter}
use Rattle.text.specs.WriteText.{raw_of}
use Rattle.xml.specs.Nodes.{Nodes}
use Rattle.xcal.specs.ParameterNodes.{read_param_nodes}
use Rattle.edition.specs.declared.Edition.{Edition}

module _ (ed : Edition) where
  -- ---- the parameters

  unfoldable pub parameter_shown : List ℕ → Nodes → List ℕ
  parameter_shown m kids = write_parameter (encoded_parameter ed (raw_of (record { name = upper m; values = read_or [] (read_param_nodes (upper m) kids) })))
