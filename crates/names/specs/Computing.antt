-- One name that opens every shut definition of this crate and of those it uses, for examples that compute: `unfolding names_compute`.
use Rattle.std.specs.Prelude.{ℕ}
use Rattle.octets.specs.Computing.{octets_compute}
use Rattle.source.specs.Source.{rest, spell}
use Rattle.names.specs.Table.{place_of, names_in, nth}
use Rattle.names.specs.Packing.{packing_compute}
use Rattle.names.specs.Matching.{sought}

unfoldable pub names_compute : ℕ
unfolding octets_compute rest spell place_of names_in nth packing_compute sought
names_compute = 0
