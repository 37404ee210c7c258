-- One name that opens every shut definition of this crate, for examples that compute: `unfolding utf8_compute`.
use Rattle.std.specs.Prelude.{ℕ}
use Rattle.octets.specs.Computing.{octets_compute}
use Rattle.utf8.specs.Utf8.{tails, bad_from, tail_at, well_formed}
use Rattle.utf8.specs.Spell.{spell, is_character}

unfoldable pub utf8_compute : ℕ
unfolding octets_compute tails bad_from tail_at well_formed spell is_character
utf8_compute = 0
