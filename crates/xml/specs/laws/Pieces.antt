-- Laws of what specs/Pieces.antt defines.
--     length_from    how long it is
use Rattle.std.specs.Prelude.{◌≡◌, List, ℕ, ◌-◌, length}
use Rattle.std.proofs.Common.{length-drop}
use Rattle.xml.specs.Pieces.{from}

pub length_from : (n : ℕ) (xs : List ℕ) → length (from n xs) ≡ length xs - n
unfolding from
length_from n xs = length-drop n xs
