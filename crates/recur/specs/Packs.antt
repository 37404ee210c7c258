-- The numbers of the names of a rule's parts (specs/Packing.antt of crate names), with their places, in two groups as the code compares them, each in the order of its low halves.
-- That they are the names of specs/Parts.antt is computed in specs/laws/Whole.antt.
--     part_rows  the first group with the bound of its low halves;   part_rows1, part_rows2: the rows
use Rattle.std.specs.Prelude.{List, [], ◌∷◌}
use Rattle.names.specs.Packing.{Row, row, Group, group}

abbrev pub part_rows1 : List Row
part_rows1 =
    row 0x0 0x18d4a2d1 0 ∷ row 0x0 0x1af2e9d4 13 ∷ row 0x0 0xc2b3120d9 7 ∷ row 0x0 0xc39f56754 2
    ∷ row 0x0 0xd59d524cc 1 ∷ row 0x0 0x6159913ead2 6 ∷ row 0x0 0x30accd9f3aa48 11 ∷ []

abbrev pub part_rows2 : List Row
part_rows2 =
    row 0x1 0x85666c99d56a45 5 ∷ row 0x1 0x85669c5873e744 4 ∷ row 0x1 0x85669c5a9427d3 12 ∷ row 0x1 0x8566bc58b2e74f 10
    ∷ row 0x1 0x933aa45a55a0cc 3 ∷ row 0x6159 0x9b3e75491120d9 8 ∷ row 0xc2 0xb3662c1a5120d9 9 ∷ []

abbrev pub part_rows : List Group
part_rows = group 0x85666c99d56a45 part_rows1 ∷ []
