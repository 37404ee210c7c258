-- `read_jcal::opened` meets its contract.
use Rattle.std.proofs.Common.{rules}
use Rattle.read_jcal.specs.laws.Components.{opened_refused, opening}
use Rattle.read_jcal.proofs.component.opened.Goals as goal

pub returns-in_err-kept : goal.returns-in_err-kept
returns-in_err-kept c = search (rules, opened_refused c.args.edition {h = c.args.shape} c.in_err-kept.ensures)

pub returns : goal.returns
returns c = search opening
