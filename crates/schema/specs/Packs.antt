-- The numbers of the parameters' names (specs/Packing.antt of crate names), with their places, in groups as the code compares them: each in the order of its low halves.
-- That they are the names is computed in specs/laws/Numbers.antt.
--     parameter_rows   the groups but the last, each with the bound of its low halves; the rows of a group have its number behind
use Rattle.std.specs.Prelude.{List, [], ◌∷◌}
use Rattle.names.specs.Packing.{Row, row, Group, group}

abbrev pub parameter_rows1 : List Row
parameter_rows1 =
    row 0x0 0x61ce 1 ∷ row 0x0 0x3124d2 5 ∷ row 0x0 0x1a53e645 15 ∷ row 0x0 0x1a54eb50 16
    ∷ row 0x0 0x1a96a4c4 18 ∷ row 0x0 0xd2833a3c5 12 ∷ []

abbrev pub parameter_rows2 : List Row
parameter_rows2 =
    row 0x0 0x60cca94a2d0 0 ∷ row 0x0 0x61d5a966845 2 ∷ row 0x0 0x6342a966845 8 ∷ row 0x0 0x66c59b0a2d2 10
    ∷ row 0x0 0x31a6d4a966845 7 ∷ row 0x0 0x34a2cc83522c4 13 ∷ []

abbrev pub parameter_rows3 : List Row
parameter_rows3 =
    row 0x0 0x34a2cca966845 14 ∷ row 0x0 0x34e2cea8b6159 17 ∷ row 0x1 0x8b3a1cf8926747 6 ∷ row 0x18916645 0x8f06a4588b6a4f 4
    ∷ row 0x1 0x9906747ab063c5 9 ∷ row 0x1 0xa106954a7520d4 11 ∷ row 0x624599163c1 0xa91622d8d4a7cd 3 ∷ []

abbrev pub parameter_rows : List Group
parameter_rows = group 0x60cca94a2d0 parameter_rows1 ∷ group 0x34a2cca966845 parameter_rows2 ∷ []
