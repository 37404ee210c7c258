-- `write_jcal_parameters::value::has_next_value` meets its contract.
use Rattle.std.proofs.Common.{rules, ◌≡◌, ◌∙◌, ap, None, Ok}
use Rattle.write_jcal_parameters.specs.laws.Walk.{next_there, next_over, next_fault}
use Rattle.write_jcal_parameters.proofs.value.has_next_value.Goals as goal

pub returns-in-Ok-Some : goal.returns-in-Ok-Some
returns-in-Ok-Some g c = next_there c.next_value.ensures (c.in-Ok-Some.is ∙ ap Ok c.in-Ok-Some.field-0-is)

pub returns-in_default : goal.returns-in_default
returns-in_default g c = let e : c.in_default.field-0 ≡ None = search rules in next_over c.next_value.ensures (c.in_default.is ∙ ap Ok e)

pub returns-in_default-2 : goal.returns-in_default-2
returns-in_default-2 g c = next_fault c.next_value.ensures c.in_default.is
