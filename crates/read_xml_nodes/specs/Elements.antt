-- An element by its places.
--     name_at      its name
use Rattle.std.specs.Prelude.{List, ℕ, take}
use Rattle.source.specs.Source.{rest}
use Rattle.read_xml_nodes.specs.declared.Element.{Element}

abbrev pub name_at : List ℕ → Element → List ℕ
name_at s e = rest 0 (take e.name_end s) e.name
