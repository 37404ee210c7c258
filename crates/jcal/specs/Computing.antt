-- One name that opens every shut definition on the way from a text to its answer and from a calendar to its jCal: `unfolding jcal_compute`.
use Rattle.std.specs.Prelude.{ℕ}
use Rattle.octets.specs.Computing.{octets_compute}
use Rattle.calendar.specs.Levels.{shallow}
use Rattle.calendar.specs.Refusal.{◌otherwise◌}
use Rattle.schema.specs.Computing.{schema_compute}
use Rattle.read_text_line.specs.Computing.{lines_compute}
use Rattle.values.specs.Computing.{values_compute}
use Rattle.json_text.specs.Computing.{json_compute}
use Rattle.jcal.specs.Values.{read_typed, read_values}
use Rattle.jcal.specs.Parameters.{read_parameter, are_spelled, parameters_good}
use Rattle.jcal.specs.Property.{names_bad, is_shaped, property_fault, property_of}
use Rattle.jcal.specs.Components.{properties_verdict, component_fault, components_verdict, component_verdict, inner_verdict, array_verdict, read_components, read_inside, read_inner, read_array, calendars_in}
use Rattle.jcal.specs.ReadJcal.{jcal_verdict, read_jcal}
use Rattle.jcal.specs.WriteJcal.{value_json, parameter_value, parameter_json, property_json, components_json, write_jcal}

unfoldable pub jcal_compute : ℕ
unfolding octets_compute shallow ◌otherwise◌ schema_compute lines_compute values_compute json_compute read_typed read_values read_parameter are_spelled parameters_good names_bad is_shaped property_fault property_of properties_verdict component_fault components_verdict component_verdict inner_verdict array_verdict read_components read_inside read_inner read_array calendars_in jcal_verdict read_jcal value_json parameter_value parameter_json property_json components_json write_jcal
jcal_compute = 0
