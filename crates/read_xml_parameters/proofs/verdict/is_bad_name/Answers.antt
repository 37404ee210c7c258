-- `read_xml_parameters::verdict::is_bad_name` meets its contract.
use Rattle.read_xml_parameters.specs.laws.Sound.{bad_capital, bad_start, bad_value}
use borrow.Author.Rules.{rules}
use Rattle.read_xml_parameters.proofs.verdict.is_bad_name.Goals as goal

pub returns-then-capital : goal.returns-then-capital
returns-then-capital c = search (bad_capital, rules)

pub returns-then-carried : goal.returns-then-carried
returns-then-carried c = search (bad_value, rules)

pub returns : goal.returns
returns c = search (bad_start, rules)
