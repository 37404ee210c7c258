-- Bytes of a document that are characters of their own, whatever follows them: none of `<`, `&`, `]` and CR. Whoever seeks a tag passes over them without looking for a token.
--     is_plain        such a byte
use Rattle.std.specs.Prelude.{Bool, true, false, ℕ, eqb}
use Rattle.octets.specs.Pick.{pick}

abbrev pub is_plain : ℕ → Bool
is_plain b = pick (eqb b 60) false (pick (eqb b 38) false (pick (eqb b 93) false (pick (eqb b 13) false true)))
