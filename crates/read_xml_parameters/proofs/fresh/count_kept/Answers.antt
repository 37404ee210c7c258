-- `read_xml_parameters::count_kept` meets its contract.
use borrow.Author.Rules.{rules}
use Rattle.read_xml_parameters.proofs.fresh.count_kept.Goals as goal

pub returns : goal.returns
returns c = rw (c.collect-n.ensures c.longest.result c.longest.ensures.0) c.longest.ensures.1
