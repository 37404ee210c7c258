-- The action that an ACTION names.
--     action_in    the action that the first of some elements names, where it is a string
--     ActionAt     the contract of `action_of`
use Rattle.std.specs.Prelude.{◌≡◌, true, List, [], ℕ, Option}
use Rattle.octets.specs.Reading.{and_then, is_read, read_or}
use Rattle.names.specs.Table.{place_of}
use Rattle.calendar.specs.Calendar.{ValueType}
use Rattle.schema.specs.Properties.{property_names}
use Rattle.schema.specs.Counts.{first_text}
use Rattle.schema.specs.Completing.{alarm_action}
use Rattle.schema.specs.declared.Action.{Action}
use Rattle.schema.specs.Property as property
use Rattle.json_text.specs.Tree.{Json}
use Rattle.json_text.specs.Kinds.{as_string, first_in}
use Rattle.jcal.specs.Values.{read_values}

abbrev pub action_in : List Json → Option Action
action_in vs = alarm_action (and_then (first_in vs) as_string)

-- where the property is an ACTION, and its values are read
pub record ActionAt (p : ℕ) (vs : List Json) (r : Option Action) : Type 0 where
  pub is : (c w : List ℕ) (t : ValueType) → p ≡ place_of w property_names → p ≡ property.ACTION → is_read (read_values c w t vs) ≡ true → r ≡ alarm_action (first_text (read_or [] (read_values c w t vs)))
