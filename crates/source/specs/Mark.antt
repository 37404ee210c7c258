-- Where the name of a character begins: a reference of XML with `&`, an escape of JSON with a reverse solidus.
--     mark_before b s q   the place of the byte b that stands at q or at most two bytes before
use Rattle.std.specs.Prelude.{List, ℕ, ◌-◌, eqb, get_or}
use Rattle.octets.specs.Pick.{pick}

unfoldable pub mark_before : ℕ → List ℕ → ℕ → ℕ
mark_before b s q = pick (eqb (get_or s q 0) b) q (pick (eqb (get_or s (q - 1) 0) b) (q - 1) (q - 2))
