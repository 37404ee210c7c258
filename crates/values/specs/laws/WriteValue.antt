-- Laws of what specs/WriteValue.antt defines.
--     one_written    of one value
use Rattle.std.specs.Prelude.{◌≡◌, [], ◌∷◌}
use Rattle.octets.specs.laws.Append.{append_none}
use Rattle.octets.specs.Words.{each_after, joined_by}
use Rattle.calendar.specs.Calendar.{Value}
use Rattle.values.specs.WriteValue.{write_value, write_values}

-- one value has nothing between values
pub one_written : (v : Value) → write_values (v ∷ []) ≡ write_value v
unfolding write_values joined_by each_after
one_written v = append_none (write_value v)
