-- Values that are kept by their characters, written: the characters as they stand, or as XML's character data.
--     as_is           the characters as they stand, byte by byte
use Rattle.std.specs.Prelude.{List, [], ◌∷◌, ℕ}

abbrev pub as_is : List ℕ → List ℕ
as_is s = s

abbrev pub as_is_byte : ℕ → List ℕ
as_is_byte b = b ∷ []
