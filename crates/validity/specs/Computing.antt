-- One name that opens every shut definition of a valid calendar: `unfolding validity_compute`.
use Rattle.std.specs.Prelude.{ℕ}
use Rattle.utf8.specs.Computing.{utf8_compute}
use Rattle.read_text_line.specs.Computing.{lines_compute}
use Rattle.values.specs.Computing.{values_compute}
use Rattle.validity.specs.ValidCalendar.{is_valid_parameter, is_valid_property, are_valid, is_valid}

unfoldable pub validity_compute : ℕ
unfolding utf8_compute lines_compute values_compute is_valid_parameter is_valid_property are_valid is_valid
validity_compute = 0
