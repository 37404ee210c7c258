-- `utf8::spell::spelled_byte` meets its contract.
use Rattle.utf8.specs.laws.SpellAt.{byte_one, byte_past, byte_two, byte_three, byte_four}
use Rattle.utf8.proofs.spell.spelled_byte.Goals as goal

pub returns-then-k-eq0 : goal.returns-then-k-eq0
returns-then-k-eq0 c = byte_one _ _ c.if-c-lt128.true c.if-k-eq0.true

pub returns-else-k-eq0 : goal.returns-else-k-eq0
returns-else-k-eq0 c = byte_past _ _ c.if-c-lt128.true c.if-k-eq0.false

pub returns-then-c-lt2048 : goal.returns-then-c-lt2048
returns-then-c-lt2048 c = byte_two _ _ c.if-c-lt128.false c.if-c-lt2048.true c.of_two.ensures

pub returns-then-c-lt65536 : goal.returns-then-c-lt65536
returns-then-c-lt65536 c = byte_three _ _ c.if-c-lt2048.false c.if-c-lt65536.true c.of_three.ensures

pub returns-else-c-lt65536 : goal.returns-else-c-lt65536
returns-else-c-lt65536 c = byte_four _ _ c.if-c-lt65536.false c.requires c.of_four.ensures
