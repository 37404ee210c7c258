-- The first byte of a class.
--     without p         the test that fails where p passes: `span_end (without p) s i` is the first place from i whose byte is in the class p, or the length
--     is_return         CR
use Rattle.std.specs.Prelude.{Bool, true, false, ℕ, eqb}
use Rattle.octets.specs.Pick.{pick}

unfoldable pub without : (ℕ → Bool) → ℕ → Bool
without p b = pick (p b) false true

abbrev pub is_return : ℕ → Bool
is_return b = eqb b 13
