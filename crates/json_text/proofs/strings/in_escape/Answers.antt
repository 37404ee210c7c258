-- `json_text::in_escape` meets its contract. Assumes nothing.
use Rattle.octets.specs.laws.Pick.{branching}
use Rattle.json_text.proofs.strings.in_escape.Goals as goal

pub returns-then-b-eq117 : goal.returns-then-b-eq117
returns-then-b-eq117 c = search branching

pub names_good-requires : goal.names_good-requires
names_good-requires c = search branching

pub returns-then-names_good : goal.returns-then-names_good
returns-then-names_good c = search branching

pub names_bad-requires : goal.names_bad-requires
names_bad-requires c = search branching

pub returns-then-names_bad : goal.returns-then-names_bad
returns-then-names_bad c = search branching

pub returns : goal.returns
returns c = search branching
