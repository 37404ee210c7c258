-- `text_entries::entry::kind_of` meets its contract.
use Rattle.octets.specs.laws.Pick.{branching}
use Rattle.text_entries.proofs.entry.kind_of.Goals as goal

pub returns-then-begin : goal.returns-then-begin
returns-then-begin g c = search branching

pub returns-then-end : goal.returns-then-end
returns-then-end g c = search branching

pub returns : goal.returns
returns g c = search branching
