-- `read_jcal_parameters::several::are_all_good` meets its contract.
use Rattle.read_jcal_parameters.specs.laws.Values.{goods}
use Rattle.read_jcal_parameters.proofs.several.are_all_good.Goals as goal

pub loop-kind-init : goal.loop-kind-init
loop-kind-init c = search goods

pub element_at-h-requires : goal.element_at-h-requires
element_at-h-requires c = search goods

pub is_string-string-requires : goal.is_string-string-requires
is_string-string-requires c = search goods

pub cursor_of-k-requires : goal.cursor_of-k-requires
cursor_of-k-requires c = search goods

pub is_good-good-requires : goal.is_good-good-requires
is_good-good-requires c = search goods

pub loop-kind-smaller : goal.loop-kind-smaller
loop-kind-smaller c = search goods

pub loop-kind-preserved : goal.loop-kind-preserved
loop-kind-preserved c = search goods

pub returns-else-good : goal.returns-else-good
returns-else-good c = search goods

pub is_none-requires : goal.is_none-requires
is_none-requires c = search goods

pub returns-else-string : goal.returns-else-string
returns-else-string c = search goods
