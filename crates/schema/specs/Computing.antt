-- One name that opens every shut definition of this crate, and octets', with the tables of names, for examples that compute: `unfolding schema_compute`.
use Rattle.std.specs.Prelude.{ℕ}
use Rattle.octets.specs.Computing.{octets_compute}
use Rattle.schema.specs.Types.{type_named, same_type, is_type_of}
use Rattle.schema.specs.Parameters.{parameter_row, is_known_parameter}
use Rattle.schema.specs.Components.{standing, component_row, is_known_component, may_contain, alarm_occurrences, may_stand}
use Rattle.schema.specs.Properties.{property_row, is_known_property, permits_parameter, property_words}
use Rattle.schema.specs.Counts.{tally, each_often, method_for, action_of, complete}
use Rattle.names.specs.Table.{place_of, names_in, nth}
use Rattle.schema.specs.Cells.{tabled}
use Rattle.schema.specs.Arrays.{bumped, tallies, each_from}
use Rattle.schema.specs.Completing.{all_often}

unfoldable pub schema_compute : ℕ
unfolding octets_compute type_named same_type is_type_of parameter_row is_known_parameter standing component_row is_known_component may_contain alarm_occurrences may_stand property_row is_known_property permits_parameter property_words tally each_often method_for action_of complete place_of names_in nth tabled bumped tallies each_from all_often
schema_compute = 0
