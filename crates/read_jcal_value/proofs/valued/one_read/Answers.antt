-- `read_jcal_value::one_read` meets its contract.
use Rattle.octets.specs.laws.Pick.{branching}
use Rattle.read_jcal_value.specs.laws.Values.{one_in_lem}
use Rattle.read_jcal_value.proofs.valued.one_read.Goals as goal

pub geo_read-requires : goal.geo_read-requires
geo_read-requires c = search branching

pub returns-then-p-eq-GEO : goal.returns-then-p-eq-GEO
returns-then-p-eq-GEO c = search (one_in_lem, branching)

pub status_read-requires : goal.status_read-requires
status_read-requires c = search branching

pub returns-then-p-eq-REQUEST_STATUS : goal.returns-then-p-eq-REQUEST_STATUS
returns-then-p-eq-REQUEST_STATUS c = search (one_in_lem, branching)

pub chosen_read-requires : goal.chosen_read-requires
chosen_read-requires c = search branching

pub returns : goal.returns
returns c = search (one_in_lem, branching)
