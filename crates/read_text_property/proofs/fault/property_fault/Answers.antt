-- `read_text_property::property_fault` meets its contract.
use Rattle.read_text_property.specs.laws.Faults.{fault_parameter, fault_encoding, fault_value}
use Rattle.std.proofs.Common.{ap, ◌∙◌, Err}
use Rattle.read_text_property.proofs.fault.property_fault.Goals as goal

pub returns-in-Ok : goal.returns-in-Ok
returns-in-Ok g c = fault_value _ c.read_parameters.ensures _ c.in-Ok.is c.value_fault.ensures

pub returns-in-Err-Faulty : goal.returns-in-Err-Faulty
returns-in-Err-Faulty g c = rw c.in-Err-Faulty.i-is (fault_parameter _ c.read_parameters.ensures _ (c.in-Err-Faulty.is ∙ ap Err c.in-Err-Faulty.field-0-is))

pub returns-in-Err-Unencoded : goal.returns-in-Err-Unencoded
returns-in-Err-Unencoded g c = fault_encoding _ c.read_parameters.ensures _ (c.in-Err-Unencoded.is ∙ ap Err c.in-Err-Unencoded.field-0-is)
