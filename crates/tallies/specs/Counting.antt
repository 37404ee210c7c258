-- What is kept of the properties of a component while they are read.
--     Counted       the tallies of properties, and what the first ACTION names
--     is_first      a property of a number is an ACTION, and none has come
--     Numbered      the number of a property's name, and what its word names where it is an ACTION
--     CountsOn      the contract of `count`: one property more
use Rattle.std.specs.Prelude.{◌≡◌, Bool, List, [], ◌∷◌, ℕ, eqb, get_or, Option}
use Rattle.octets.specs.Pick.{◌and◌}
use Rattle.octets.specs.Append.{◌⊕◌}
use Rattle.names.specs.Table.{place_of}
use Rattle.calendar.specs.Calendar.{Property}
use Rattle.schema.specs.Properties.{property_names}
use Rattle.schema.specs.Counts.{first_text, action_of}
use Rattle.schema.specs.Arrays.{tallies}
use Rattle.schema.specs.Completing.{alarm_action}
use Rattle.schema.specs.declared.Action.{Action}
use Rattle.schema.specs.Property as property
use Rattle.tallies.specs.declared.Kept.{Kept}

pub record Counted (ps : List Property) (t : Kept) : Type 0 where
  pub tallied : t.counts ≡ tallies ps
  pub acting : t.action ≡ alarm_action (action_of ps)

abbrev pub is_first : ℕ → Kept → Bool
is_first p t = eqb p property.ACTION and eqb (get_or t.counts property.ACTION 0) 0

pub record Numbered (x : Property) (p : ℕ) (named : Option Action) : Type 0 where
  pub number : p ≡ place_of x.name property_names
  pub acts : p ≡ property.ACTION → named ≡ alarm_action (first_text x.values)

pub record CountsOn (p : ℕ) (named : Option Action) (t r : Kept) : Type 0 where
  pub is : (ps : List Property) (x : Property) → Numbered x p named → Counted ps t → Counted (ps ⊕ (x ∷ [])) r
