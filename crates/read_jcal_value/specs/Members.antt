-- A rule by the members of its object (crate jcal, specs/Values.antt), as code reads it: one after another, with the parts seen in a mask.
--     cap_name, place_in   the name of a member's part, and its number
--     has_place p ms       some member has the part at the place p
--     each_part ms         each member is a part, and no later one has its name
--     is_whole ms          FREQ is there; UNTIL and COUNT are not both there;   whole_in: the same of a mask
use Rattle.std.specs.Prelude.{Bool, true, false, not, List, [], ◌∷◌, ℕ, eqb}
use Rattle.bits.specs.Masks.{has}
use Rattle.octets.specs.Pick.{pick, ◌and◌, ◌or◌}
use Rattle.octets.specs.Class.{upper}
use Rattle.octets.specs.Reading.{is_read}
use Rattle.names.specs.Table.{place_of}
use Rattle.recur.specs.Parts.{part_names}
use Rattle.json_text.specs.Tree.{Member}
use Rattle.jcal.specs.Values.{read_part}

abbrev pub cap_name : Member → List ℕ
cap_name m = upper m.name

unfoldable pub place_in : Member → ℕ
place_in m = place_of (cap_name m) part_names

unfoldable pub has_place : ℕ → List Member → Bool
has_place p [] = false
has_place p (m ∷ ms) = eqb (place_in m) p or has_place p ms

unfoldable pub each_part : List Member → Bool
each_part [] = true
each_part (m ∷ ms) = is_read (read_part m) and pick (has_place (place_in m) ms) false (each_part ms)

abbrev pub is_whole : List Member → Bool
is_whole ms = has_place 0 ms and not (has_place 1 ms and has_place 2 ms)

abbrev pub whole_in : ℕ → Bool
whole_in k = pick (has k 0) (pick (has k 1) (pick (has k 2) false true) true) false
