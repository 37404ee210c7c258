-- `json_text::hex_value` meets its contract. Assumes nothing.
use native.Mathlib.Omega.{arith}
use Rattle.octets.specs.laws.Pick.{within_range}
use mathlib.Core.Path.{sym, ◌∙◌}
use Rattle.octets.specs.laws.Pick.{branching}
use Rattle.json_text.proofs.bytes.hex_value.Goals as goal

pub is_digit-requires : goal.is_digit-requires
is_digit-requires c = search branching

pub overflow_sub-result : goal.overflow_sub-result
overflow_sub-result c = (within_range 0x30 0x39 _ (sym c.is_digit.ensures ∙ c.if-is_digit.true)).0

pub returns-then-is_digit : goal.returns-then-is_digit
returns-then-is_digit c = search branching

pub is_upper_hex-requires : goal.is_upper_hex-requires
is_upper_hex-requires c = search branching

pub overflow_sub-result-then-is_upper_hex : goal.overflow_sub-result-then-is_upper_hex
overflow_sub-result-then-is_upper_hex c = omega (arith, within_range 0x41 0x46 c.args.b (sym c.is_upper_hex.ensures ∙ c.if-is_upper_hex.true))

pub returns-then-is_upper_hex : goal.returns-then-is_upper_hex
returns-then-is_upper_hex c = search branching

pub is_lower_hex-requires : goal.is_lower_hex-requires
is_lower_hex-requires c = search branching

pub overflow_sub-result-then-is_lower_hex : goal.overflow_sub-result-then-is_lower_hex
overflow_sub-result-then-is_lower_hex c = omega (arith, within_range 0x61 0x66 c.args.b (sym c.is_lower_hex.ensures ∙ c.if-is_lower_hex.true))

pub returns-then-is_lower_hex : goal.returns-then-is_lower_hex
returns-then-is_lower_hex c = search branching

pub returns : goal.returns
returns c = search branching
