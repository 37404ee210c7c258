-- The first element of some content.
--     first_element   its place and its name, if there is one
--     first_of        its place and its name, by the answer of the look for it
use Rattle.std.specs.Prelude.{List, ℕ, take, Option, None, Some}
use Rattle.source.specs.Source.{rest}
use Rattle.xml.specs.Nodes.{Nodes, no_nodes, element, literal, referred}
use Rattle.read_xml_nodes.specs.declared.first.FirstElement.{FirstElement}

unfoldable pub first_element : Nodes → Option (ℕ × List ℕ)
first_element no_nodes = None
first_element (element p n x kids more) = Some (p, n)
first_element (literal p b more) = first_element more
first_element (referred p bs more) = first_element more

abbrev pub first_of : List ℕ → FirstElement → ℕ × List ℕ
first_of s f = (f.place, rest 0 (take f.name_end s) f.name)
