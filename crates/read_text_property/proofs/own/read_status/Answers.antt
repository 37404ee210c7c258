-- `read_text_property::own::read_status` meets its contract.
use Rattle.read_text_property.specs.laws.ValuesAt.{values_yes, values_no, status_yes, status_no}
use Rattle.read_text_property.proofs.own.read_status.Goals as goal

pub returns-in_default : goal.returns-in_default
returns-in_default g c = values_no c.args.t (status_no c.read_request_status.ensures c.in_default.is)

pub returns : goal.returns
returns g c = values_yes c.args.t (status_yes c.read_request_status.ensures c.in-Some.is)
