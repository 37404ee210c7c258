-- One name that opens every shut definition of this crate and of those that it uses, for examples that compute: `unfolding numbers_compute`.
use Rattle.std.specs.Prelude.{ℕ}
use Rattle.octets.specs.Computing.{octets_compute}
use Rattle.numbers.specs.Sign.{has_minus, after_sign, leads_in_digit}
use Rattle.numbers.specs.Float.{fraction, pointed, no_leading, kept, no_trailing, or_zero, after_point, leads_in_zero, ends_in_zero}
use Rattle.numbers.specs.Worth.{zeros}
use Rattle.numbers.specs.Geo.{longitude, coordinates}
use Rattle.numbers.specs.Numeral.{worth_to}
use Rattle.numbers.specs.ReadInteger.{number_in}
use Rattle.numbers.specs.Until.{until}
use Rattle.numbers.specs.FloatParts.{front, after_digits, more_after}
use Rattle.numbers.specs.ReadGeo.{both_of}
use Rattle.source.specs.Source.{rest, spell}

unfoldable pub numbers_compute : ℕ
unfolding octets_compute has_minus after_sign leads_in_digit fraction pointed no_leading kept no_trailing or_zero after_point leads_in_zero ends_in_zero zeros longitude coordinates worth_to number_in until front after_digits more_after both_of rest spell
numbers_compute = 0
