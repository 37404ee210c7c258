-- What stands in a child of PERIOD or RECUR, and which slots must be filled. `rule` is true for RECUR.
--     inside_of, inside_at                the verdict on a child's content, by its name and by its number
--     flags_of                            the slots that must be filled: the first, and of PERIOD the second
use Rattle.std.specs.Prelude.{Bool, true, false, List, [], ◌∷◌, ℕ, eqb, get_or}
use Rattle.octets.specs.Pick.{pick}
use Rattle.octets.specs.Reading.{is_read}
use Rattle.calendar.specs.Calendar.{xcal, DATE-TIME, DURATION}
use Rattle.calendar.specs.Refusal.{Verdict}
use Rattle.recur.specs.Parts.{part_names}
use Rattle.recur.specs.Item.{read_item}
use Rattle.values.specs.ReadValue.{read_value}
use Rattle.xml.specs.Nodes.{Nodes}
use Rattle.xcal.specs.Layout.{leaf}
use Rattle.xcal.specs.ValueNodes.{period_inside, recur_inside}

abbrev pub inside_of : Bool → ℕ → List ℕ → ℕ → Nodes → Verdict
inside_of true = recur_inside
inside_of false = period_inside

-- ---- what stands in a child

abbrev pub inside_at : Bool → ℕ → ℕ → Nodes → Verdict
inside_at true i p kids = leaf (λ l. is_read (read_item xcal (get_or part_names i []) l)) p kids
inside_at false i p kids = pick (eqb i 2) (leaf (λ l. is_read (read_value xcal DURATION l)) p kids) (leaf (λ l. is_read (read_value xcal DATE-TIME l)) p kids)

-- ---- slots that must be filled

abbrev pub flags_of : Bool → Bool → Bool → List Bool
flags_of true f g = f ∷ []
flags_of false f g = f ∷ g ∷ []
