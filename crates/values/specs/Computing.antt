-- One name that opens every shut definition of values: `unfolding values_compute`.
use Rattle.std.specs.Prelude.{ℕ}
use Rattle.octets.specs.Computing.{octets_compute}
use Rattle.times.specs.Computing.{times_compute}
use Rattle.numbers.specs.Computing.{numbers_compute}
use Rattle.texts.specs.Computing.{texts_compute}
use Rattle.recur.specs.Computing.{recur_compute}
use Rattle.schema.specs.Computing.{schema_compute}
use Rattle.values.specs.ReadValue.{read_value}
use Rattle.values.specs.WriteValue.{write_value, write_values, value_characters}
use Rattle.values.specs.PutValue.{xml_of}
use Rattle.values.specs.Valid.{is_parameter, are_values_of, are_parameters, is_property}

unfoldable pub values_compute : ℕ
unfolding octets_compute schema_compute times_compute numbers_compute texts_compute recur_compute read_value write_value write_values value_characters is_parameter are_values_of are_parameters is_property xml_of
values_compute = 0
