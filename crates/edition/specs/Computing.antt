-- One name that opens every shut definition of this crate, for examples that compute: `unfolding edition_compute`.
use Rattle.std.specs.Prelude.{ℕ}
use Rattle.octets.specs.Computing.{octets_compute}
use Rattle.edition.specs.Edition.{decoding, encoding, decode, encode}

unfoldable pub edition_compute : ℕ
unfolding octets_compute decoding encoding decode encode
edition_compute = 0
