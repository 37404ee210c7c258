-- Components by their numbers: 9 is the number of none.
--     same_component      a name tested, by numbers
use Rattle.std.specs.Prelude.{◌≡◌, List, ℕ, ◌<◌, eqb}
use Rattle.std.proofs.Common.{◌∙◌}
use Rattle.octets.specs.Words.{same}
use Rattle.names.specs.Table.{place_of}
use Rattle.names.specs.laws.Places.{same_place}
use Rattle.schema.specs.Components.{component_names}
use Rattle.schema.specs.Numbers.{component_name}
use Rattle.schema.specs.laws.Places.{known_component, component_at_lem}

pub same_component : (w : List ℕ) {n : ℕ} (k : ℕ) → k < 9 → n ≡ place_of w component_names → same w (component_name k) ≡ eqb n k
same_component w {n} k h e = same_place w (component_name k) component_names (known_component k h) ∙ rw (component_at_lem k h, ← e)
