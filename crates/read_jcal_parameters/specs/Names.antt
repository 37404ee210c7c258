-- Names in small letters.
--     is_small_name_char     a character of a name that is no capital
--     is_bad_parameter_name  the name of a parameter that is bad
use Rattle.std.specs.Prelude.{Bool, not, List, ℕ}
use Rattle.octets.specs.Ascii.{ascii}
use Rattle.octets.specs.Pick.{◌and◌, ◌or◌}
use Rattle.octets.specs.Class.{is_capital, is_name_char}
use Rattle.octets.specs.Words.{same}
use Rattle.jcal.specs.Property.{is_bad_name}

abbrev pub is_small_name_char : ℕ → Bool
is_small_name_char b = is_name_char b and not (is_capital b)

unfoldable pub is_bad_parameter_name : List ℕ → Bool
is_bad_parameter_name n = is_bad_name n or same n (ascii "value")
