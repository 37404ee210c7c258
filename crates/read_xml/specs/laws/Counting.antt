-- Laws of what specs/Counting.antt defines.
--     counting          the rules of the word of an ACTION
use Rattle.std.specs.Prelude.{◌≡◌, List, ℕ, Option}
use Rattle.std.proofs.Common.{sym, ap, ◌∙◌, rules}
use Rattle.octets.specs.Pick.{pick}
use Rattle.octets.specs.Class.{upper}
use Rattle.names.specs.Table.{place_of}
use Rattle.calendar.specs.Calendar.{Value}
use Rattle.schema.specs.Properties.{property_names}
use Rattle.schema.specs.Counts.{first_text}
use Rattle.schema.specs.Completing.{alarm_action}
use Rattle.schema.specs.declared.Action.{Action}
use Rattle.schema.specs.laws.Sets.{geo_place, request_status_place}
use Rattle.schema.specs.Property as property
use Rattle.xml.specs.Nodes.{Nodes}
use Rattle.xcal.specs.ValueNodes.{typed_values, read_value_nodes}
use Rattle.read_xml.specs.Counting.{WordAt}

-- ACTION has a value of a type
action_values : (w : List ℕ) (kids : Nodes) → place_of w property_names ≡ property.ACTION → read_value_nodes w kids ≡ typed_values kids
unfolding read_value_nodes pick
action_values w kids h = rw (geo_place w, request_status_place w, h)

module _ (p : ℕ) (kids : Nodes) where
  pub word_here : {r : Option Action} → r ≡ alarm_action (first_text (typed_values kids)) → WordAt p kids r
  word_here e = record {
    is = λ m o. record {
      number = o;
      acts = λ a. e ∙ sym (ap (λ (vs : List Value). alarm_action (first_text vs)) (action_values (upper m) kids (sym o ∙ a)));
    };
  }

  pub word_other : (r : Option Action) → (p ≡ property.ACTION → ⊥) → WordAt p kids r
  word_other r z = record { is = λ m o. record { number = o; acts = λ a. absurd (z a) } }

pub ruleset counting = (word_here, word_other, rules)
