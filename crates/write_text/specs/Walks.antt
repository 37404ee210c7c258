-- What is written of the elements of properties and of components, one by one.
--     head_text  what stands before the components inside a component;   head_room: what the room for a line then holds
use Rattle.std.specs.Prelude.{List, ℕ}
use Rattle.octets.specs.Ascii.{ascii}
use Rattle.octets.specs.Append.{◌⊕◌}
use Rattle.octets.specs.Class.{upper}
use Rattle.sink.specs.Sink.{overwrite}
use Rattle.text.specs.WriteText.{property_lines, begin_line}
use Rattle.xml.specs.Nodes.{Nodes}
use Rattle.xcal.specs.PropertyNodes.{read_properties}
use Rattle.xcal.specs.ComponentNodes.{inside_of}
use Rattle.edition.specs.declared.Edition.{Edition}
use Rattle.write_text_pieces.specs.Filled.{properties_room}

module _ (ed : Edition) where
  unfoldable pub head_text : List ℕ → Nodes → List ℕ
  head_text m kids = begin_line (upper m) ⊕ property_lines ed (read_properties (inside_of (ascii "properties") kids))

  unfoldable pub head_room : List ℕ → Nodes → List ℕ → List ℕ
  head_room m kids k = properties_room ed (read_properties (inside_of (ascii "properties") kids)) (overwrite k 0 (ascii "BEGIN:" ⊕ upper m))
