-- The prolog at the front of the input.
--     attribute    white space and an attribute of a given name
use Rattle.std.specs.Prelude.{List, ℕ}
use Rattle.xml.specs.Pieces.{Piece, exactly, some_space, ◌then◌, equals_sign, quoted}

-- an attribute with a given name, and the piece v as its value, between quotes
abbrev pub attribute : List ℕ → Piece → Piece
attribute n v = some_space then exactly n then equals_sign then quoted v
