-- One name that opens every shut definition of this crate and of those below, for examples that compute: `unfolding lines_compute`.
use Rattle.std.specs.Prelude.{ℕ}
use Rattle.octets.specs.Computing.{octets_compute}
use Rattle.edition.specs.Computing.{edition_compute}
use Rattle.read_text_line.specs.ContentLine.{is_name, is_param_value, is_raw_parameter, is_content_line, paramtext, quoted_string, param_value, next_value, with_values, with_first, param, next_param, with_value, content_line}
use Rattle.read_text_line.specs.Write.{write_param_value, write_parameter, write_content_line}
use Rattle.read_text_line.specs.Names.{starts_off_name, is_carried_name}
use Rattle.read_text_line.specs.Items.{items_by, items_in, items}
use Rattle.read_text_line.specs.Cursor.{values_of}

unfoldable pub lines_compute : ℕ
unfolding octets_compute edition_compute is_name is_param_value is_raw_parameter is_content_line paramtext quoted_string param_value next_value with_values with_first param next_param with_value content_line write_param_value write_parameter write_content_line starts_off_name is_carried_name items_by items_in items values_of
lines_compute = 0
