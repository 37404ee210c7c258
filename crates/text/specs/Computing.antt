-- One name that opens every shut definition on the way from a text to its answer and from a calendar to its text: `unfolding ical_compute`.
use Rattle.std.specs.Prelude.{ℕ}
use Rattle.octets.specs.Computing.{octets_compute}
use Rattle.calendar.specs.Levels.{shallow}
use Rattle.calendar.specs.Refusal.{◌otherwise◌}
use Rattle.folding.specs.Computing.{folding_compute}
use Rattle.utf8.specs.Computing.{utf8_compute}
use Rattle.schema.specs.Computing.{schema_compute}
use Rattle.values.specs.Computing.{values_compute}
use Rattle.read_text_line.specs.Computing.{lines_compute}
use Rattle.text.specs.Parameters.{read_param_value, read_parameter, stated_type, own_parameters}
use Rattle.text.specs.Values.{read_values}
use Rattle.text.specs.Faults.{behind, offset, is_faulty, first_faulty, parameters_fault}
use Rattle.text.specs.Statement.{fault_as, property_of}
use Rattle.text.specs.Nesting.{begins, ends, states, names_carried, move_by, move_of, onward, ended, nesting}
use Rattle.text.specs.Tree.{entry_by, entry_of, own_of, inner_of, calendar_of}
use Rattle.text.specs.ReadText.{lines_verdict, kept_verdict, placed, text_verdict, read_calendar}
use Rattle.text.specs.WriteText.{with_value, content_line_of, property_lines, write_calendar}

unfoldable pub ical_compute : ℕ
unfolding octets_compute ◌otherwise◌ folding_compute utf8_compute schema_compute values_compute lines_compute read_param_value read_parameter stated_type own_parameters read_values behind offset is_faulty first_faulty parameters_fault fault_as property_of begins ends states names_carried move_by move_of onward ended nesting entry_by entry_of own_of inner_of shallow calendar_of lines_verdict kept_verdict placed text_verdict read_calendar with_value content_line_of property_lines write_calendar
ical_compute = 0
