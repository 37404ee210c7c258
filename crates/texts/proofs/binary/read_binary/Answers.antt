-- `texts::read_binary` meets its contract.
use Rattle.texts.specs.laws.Kept.{reading_binary}
use Rattle.texts.proofs.binary.read_binary.Goals as goal

pub returns-then-t-eq-END : goal.returns-then-t-eq-END
returns-then-t-eq-END g c = search reading_binary

pub loop-t-preserved-then-is_passed : goal.loop-t-preserved-then-is_passed
loop-t-preserved-then-is_passed g c = search reading_binary

pub loop-t-preserved : goal.loop-t-preserved
loop-t-preserved g c = search reading_binary

pub returns-else-in_group : goal.returns-else-in_group
returns-else-in_group g c = search reading_binary
