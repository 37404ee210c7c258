-- The word of an ACTION: where its line has no fault, the line's value in capitals.
--     action_read     its number
--     action_seen     the number of the word of the ACTION that came last
use Rattle.std.specs.Prelude.{◌≡◌, refl, Bool, true, false, List, [], ◌∷◌, ℕ, eqb, Option, None, Some}
use Rattle.std.proofs.Common.{sym, ap, ◌∙◌, eq-eqb, eqb-true}
use Rattle.std.proofs.lemmas.Bool.{false≢true}
use Rattle.octets.specs.Ascii.{ascii}
use Rattle.octets.specs.Pick.{pick}
use Rattle.octets.specs.laws.Pick.{eqb_swap}
use Rattle.octets.specs.Class.{upper}
use Rattle.octets.specs.Words.{is_one_of}
use Rattle.octets.specs.laws.Words.{same_true}
use Rattle.octets.specs.Reading.{is_read, read_or, provided}
use Rattle.octets.specs.Computing.{octets_compute}
use Rattle.names.specs.Table.{place_of}
use Rattle.calendar.specs.Calendar.{ValueType, TEXT, text, Property}
use Rattle.schema.specs.Types.{is_type_of}
use Rattle.schema.specs.Properties.{property_names, property_row, permitted_types, property_words}
use Rattle.schema.specs.Counts.{first_text, action_of}
use Rattle.schema.specs.Completing.{action_names, action_named, alarm_action}
use Rattle.schema.specs.laws.Sets.{action_place, action_first}
use Rattle.schema.specs.Property as property
use Rattle.schema.specs.declared.Action.{Action}
use Rattle.read_text_line.specs.ContentLine.{ContentLine}
use Rattle.text.specs.Parameters.{stated_type}
use Rattle.text.specs.Values.{read_values, read_own, one_value}
use Rattle.text.specs.Faults.{parameters_fault}
use Rattle.text.proofs.laws.AcceptedProperty.{both_pass}
use Rattle.text.specs.Statement.{fault_as, property_fault, property_of}

-- the values of an ACTION
own_action : (k : List ℕ) (t : ValueType) (s : List ℕ) → read_own k (ascii "ACTION") t s ≡ one_value (provided (is_one_of (upper s) action_names) (text (upper s)))
unfolding octets_compute property_row property_words
own_action k t s = refl

word_read : (b : Bool) (s : List ℕ) → is_read (one_value (provided b (text s))) ≡ true → first_text (read_or [] (one_value (provided b (text s)))) ≡ Some s
unfolding pick is_read read_or
word_read true s h = refl
word_read false s h = absurd (false≢true h)

action_values : (k n : List ℕ) (t : ValueType) (s : List ℕ) → n ≡ ascii "ACTION" → is_read (read_values k n t s) ≡ true → first_text (read_or [] (read_values k n t s)) ≡ Some (upper s)
unfolding read_values pick is_read
action_values k n t s e h = rw e (go (is_type_of t (permitted_types (ascii "ACTION"))) (rw e at h))
  where
    go : (b : Bool) → is_read (pick b (read_own k (ascii "ACTION") t s) None) ≡ true → first_text (read_or [] (pick b (read_own k (ascii "ACTION") t s) None)) ≡ Some (upper s)
    go true f = rw (own_action k t s) (word_read (is_one_of (upper s) action_names) (upper s) (rw (own_action k t s) at f))
    go false f = absurd (false≢true f)

-- a line without a fault has a type, and its value is read
none_fault : (o : Option ValueType) (k : List ℕ) (l : ContentLine) → fault_as o k l ≡ None → is_read (read_values k (upper l.name) (read_or TEXT o) l.value) ≡ true
unfolding fault_as
none_fault o k l h = (both_pass (parameters_fault (upper l.name) o l.parameters) (is_read (read_values k (upper l.name) (read_or TEXT o) l.value)) h).1

pub action_read : (k : List ℕ) (l : ContentLine) → property_fault k l ≡ None → place_of (upper l.name) property_names ≡ property.ACTION →
    alarm_action (first_text (property_of k l).values) ≡ action_named (upper l.value)
unfolding property_of
action_read k l h e =
    ap alarm_action (action_values k (upper l.name) (read_or TEXT (stated_type (upper l.name) l.parameters)) l.value
    (same_true (upper l.name) (ascii "ACTION") (action_place (upper l.name) ∙ eq-eqb _ _ e)) (none_fault (stated_type (upper l.name) l.parameters) k l h))

-- one property more
pub action_seen : (p : Property) (ps : List Property) {n : ℕ} {a b : Option Action} → n ≡ place_of p.name property_names → (n ≡ property.ACTION → a ≡ alarm_action (first_text p.values)) → b ≡ alarm_action (action_of ps) →
    pick (eqb n property.ACTION) a b ≡ alarm_action (action_of (p ∷ ps))
unfolding action_of pick
action_seen p ps {n} {a} {b} e f g = rw (action_first p.name, ← e) (go (eqb n property.ACTION) refl)
  where
    go : (t : Bool) → eqb n property.ACTION ≡ t → pick t a b ≡ alarm_action (pick (eqb property.ACTION n) (first_text p.values) (action_of ps))
    go true q = f (eqb-true n property.ACTION q) ∙ rw (eq-eqb property.ACTION n (sym (eqb-true n property.ACTION q)))
    go false q = g ∙ rw (eqb_swap n property.ACTION q)
