-- The kind of a line in an open component, by numbers.
--     KindIs P v m s      what the code's answer says of a kind, where P says that a place in the line has a cursor, v whether there is a level left, and the line is s;   Held: of a property;   Faulted: of a fault
use Rattle.std.specs.Prelude.{◌≡◌, Bool, true, List, ℕ, Result, Ok, Err, Option}
use Rattle.octets.specs.Class.{upper}
use Rattle.source.specs.Source.{rest}
use Rattle.names.specs.Table.{place_of}
use Rattle.calendar.specs.Calendar.{Property}
use Rattle.schema.specs.Components.{component_names}
use Rattle.schema.specs.Properties.{property_names}
use Rattle.schema.specs.Counts.{first_text}
use Rattle.schema.specs.Completing.{alarm_action}
use Rattle.schema.specs.Property.{ACTION}
use Rattle.schema.specs.declared.Action.{Action}
use Rattle.text.specs.Faults.{Where, fault}
use Rattle.text.specs.LineKind.{LineKind, starts, stops, holds, faulty}
use Rattle.read_text.specs.declared.Kind.{Kind}
use Rattle.refusals.specs.Fault.{refusal_of}
use Rattle.refusals.specs.declared.Fault.{Fault}
use Rattle.read_text.specs.declared.Kind.TheVariants.{Starts, Stops, Holds}

-- x is a property of the number p; if that is ACTION's, its word names the action a
pub record Held (x : LineKind) (p : ℕ) (a : Option Action) : Type 0 where
  pub property : Property
  pub is : x ≡ holds property
  pub number : p ≡ place_of property.name property_names
  pub action : p ≡ ACTION → a ≡ alarm_action (first_text property.values)

pub record Faulted (P : Where → ℕ → Type 0) (x : LineKind) (f : Fault) : Type 0 where
  pub place : Where
  pub is : x ≡ faulty (fault (refusal_of f.refusal) place)
  pub there : P place f.place

-- of a component that starts its number, and where its name stands in the line
abbrev pub KindIs : (Where → ℕ → Type 0) → Bool → ℕ → List ℕ → LineKind → Result Kind Fault → Type 0
KindIs P v m s x (Ok (Starts n a)) = (x ≡ starts (upper (rest m s a))) × (n ≡ place_of (upper (rest m s a)) component_names) × (v ≡ true)
KindIs P v m s x (Ok Stops) = x ≡ stops
KindIs P v m s x (Ok (Holds p a)) = Held x p a
KindIs P v m s x (Err f) = Faulted P x f
