-- Values of the type `unknown` (RFC 6321, section 5): raw, any bytes without LF, in text and in xCal alike.
--     is_unknown s, read_unknown s
use Rattle.std.specs.Prelude.{Bool, true, false, List, ℕ, Option}
use Rattle.octets.specs.Pick.{pick}
use Rattle.octets.specs.Words.{holds}
use Rattle.octets.specs.Reading.{provided}

abbrev pub is_unknown : List ℕ → Bool
is_unknown s = pick (holds 10 s) false true

abbrev pub read_unknown : List ℕ → Option (List ℕ)
read_unknown s = provided (is_unknown s) s
