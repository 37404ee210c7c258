-- `read_text_property::own::read_values` meets its contract.
use mathlib.Core.Path.{refl}
use Rattle.octets.specs.laws.Pick.{flag_yes, flag_no}
use Rattle.read_text_property.specs.laws.ValuesAt.{own_take, own_skip}
use Rattle.read_text_property.proofs.own.read_values.Goals as goal

pub returns-then-permits_type : goal.returns-then-permits_type
returns-then-permits_type g c = own_take _ _ _ (flag_yes _ _ c.permits_type.ensures c.if-permits_type.true) c.read_own.ensures

pub returns : goal.returns
returns g c = own_skip c.args.c.value_type _ _ (flag_no _ _ c.permits_type.ensures c.if-permits_type.false) refl
