-- Values that are made of characters (RFC 7265, section 3.6).
--     stands_bare t   BOOLEAN (1), FLOAT (6) and INTEGER (7) are no strings
use Rattle.std.specs.Prelude.{Bool, ℕ, eqb}
use Rattle.octets.specs.Pick.{◌or◌}

abbrev pub stands_bare : ℕ → Bool
stands_bare t = eqb t 1 or eqb t 6 or eqb t 7
