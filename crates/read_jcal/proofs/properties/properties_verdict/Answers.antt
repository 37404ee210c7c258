-- `read_jcal::properties_verdict` meets its contract.
use Rattle.std.proofs.Common.{rules}
use Rattle.read_jcal.specs.laws.Properties.{list_bad, listing}
use Rattle.read_jcal.proofs.properties.properties_verdict.Goals as goal

pub loop-edition-init : goal.loop-edition-init
loop-edition-init c = search listing

pub returns-then-not-is_there : goal.returns-then-not-is_there
returns-then-not-is_there c = search listing

pub returns-in_err-e : goal.returns-in_err-e
returns-in_err-e c =
    search (rules, list_bad c.args.edition c.loop-edition.invariant c.element_at-h.ensures c.is_there.ensures c.if-not-is_there.false c.in_err-e.ensures)

pub loop-edition-smaller : goal.loop-edition-smaller
loop-edition-smaller c = search listing

pub loop-edition-preserved : goal.loop-edition-preserved
loop-edition-preserved c = search listing
