-- `read_json::token_place` meets its contract.
use Rattle.read_json.specs.laws.Pieces.{passing}
use Rattle.read_json.proofs.pieces.token_place.Goals as goal

pub loop-i-init : goal.loop-i-init
loop-i-init c = search passing

pub bounds-s-i : goal.bounds-s-i
bounds-s-i c = search passing

pub wide-requires : goal.wide-requires
wide-requires c = search passing

pub is_separator-requires : goal.is_separator-requires
is_separator-requires c = search passing

pub overflow_add-i : goal.overflow_add-i
overflow_add-i c = search passing

pub loop-i-smaller : goal.loop-i-smaller
loop-i-smaller c = search passing

pub loop-i-preserved : goal.loop-i-preserved
loop-i-preserved c = search passing

pub returns-else-is_separator : goal.returns-else-is_separator
returns-else-is_separator c = search passing

pub returns-after-loop-i : goal.returns-after-loop-i
returns-after-loop-i c = search passing
