-- A rule as the code reads it: piece by piece, in an encoding whose cursors are indices.
--     Ends k m s c r       what stands from c on has its first byte k, or its end, at r
--     place_at w         the place of the name of the piece w in the schema's order; 14 of no part's name
--     are_items p ws     each of these is an item of the part at the place p
use Rattle.std.specs.Prelude.{◌≡◌, Bool, true, List, [], ◌∷◌, ℕ, ◌≤◌, eqb, get_or}
use Rattle.octets.specs.Pick.{◌and◌}
use Rattle.octets.specs.Append.{◌⊕◌}
use Rattle.octets.specs.Class.{upper}
use Rattle.octets.specs.Reading.{is_read}
use Rattle.octets.specs.Front.{up_to, from_on}
use Rattle.calendar.specs.Calendar.{ical}
use Rattle.source.specs.Source.{rest, Within, Reach}
use Rattle.names.specs.Table.{place_of}
use Rattle.recur.specs.Parts.{part_names}
use Rattle.recur.specs.Item.{read_item}
use Rattle.recur.specs.Rule.{is_equals}

pub record Ends (k m : ℕ) (s : List ℕ) (c r : ℕ) : Type 0 where
  pub is : rest m s c ≡ up_to (λ (b : ℕ). eqb b k) (rest m s c) ⊕ rest m s r
  pub left : rest m s r ≡ from_on (λ (b : ℕ). eqb b k) (rest m s c)
  pub onward : c ≤ r
  pub inside : Within m s r
  pub reach : Reach m s c r

abbrev pub piece_name : List ℕ → List ℕ
piece_name w = upper (up_to is_equals w)

unfoldable pub place_at : List ℕ → ℕ
place_at w = place_of (piece_name w) part_names

unfoldable pub are_items : ℕ → List (List ℕ) → Bool
are_items p [] = true
are_items p (w ∷ ws) = is_read (read_item ical (get_or part_names p []) w) and are_items p ws
