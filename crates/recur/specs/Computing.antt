-- One name that opens every shut definition of this crate and of those it uses, for examples that compute: `unfolding recur_compute`.
use Rattle.std.specs.Prelude.{ℕ}
use Rattle.octets.specs.Computing.{octets_compute}
use Rattle.names.specs.Table.{place_of}
use Rattle.times.specs.Computing.{times_compute}
use Rattle.numbers.specs.Sign.{has_minus, after_sign}
use Rattle.recur.specs.Rule.{with_part, in_order, after_named, is_ordered}

unfoldable pub recur_compute : ℕ
unfolding octets_compute times_compute place_of has_minus after_sign with_part in_order after_named is_ordered
recur_compute = 0
