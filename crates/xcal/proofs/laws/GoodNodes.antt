-- Nodes of a document that can be read: elements whose names are names, and whose character data is clean.
--     is_good
use Rattle.std.specs.Prelude.{Bool, true}
use Rattle.octets.specs.Pick.{◌and◌}
use Rattle.xml.specs.Nodes.{Nodes, no_nodes, element, literal, referred}
use Rattle.xml.specs.Reads.{is_name}
use Rattle.xcal.proofs.laws.ValuesAccepted.{is_clean_content}

unfoldable pub is_good : Nodes → Bool
is_good no_nodes = true
is_good (literal p b more) = is_good more
is_good (referred p bs more) = is_good more
is_good (element p m x kids more) = is_name m and is_clean_content kids and is_good kids and is_good more
