-- `read_xml_value::leaves::leaf` meets its contract.
use Rattle.read_xml_value.specs.laws.Leaves.{leaves, leaf_fine}
use Rattle.read_xml_value.proofs.leaves.leaf.Goals as goal

pub returns-in_err-inner_element : goal.returns-in_err-inner_element
returns-in_err-inner_element c = search leaves

pub returns : goal.returns
returns c = leaf_fine _ _ c.inner_element.ensures c.in_ok-inner_element.was
