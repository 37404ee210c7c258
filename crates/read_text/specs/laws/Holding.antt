-- A property in an open component, by its row.
--     follow_inner ..     a property may stand behind subcomponents, or not
--     hold_known ..       it may stand in the component
--     property_held ..    the kind of its line
use Rattle.std.specs.Prelude.{◌≡◌, Bool, true, false, not, List, ℕ, ◌≤◌, ◌<◌, eqb, ltb, length, Option, option_map, None, Some, Ok, Err}
use Rattle.std.proofs.Math.Path.{refl, sym}
use Rattle.std.proofs.Common.{ap, ◌∙◌, arith, eq-eqb, lt-ltb, le-ltb}
use Rattle.std.proofs.Math.ListN.{length-map}
use Rattle.octets.specs.Ascii.{ascii}
use Rattle.octets.specs.Pick.{pick, ◌and◌, ◌or◌}
use Rattle.octets.specs.laws.Pick.{pick_yes, pick_no}
use Rattle.octets.specs.Class.{upper}
use Rattle.octets.specs.Words.{same}
use Rattle.names.specs.Table.{place_of}
use Rattle.names.specs.laws.Table.{one_of_place}
use Rattle.source.specs.Source.{rest}
use Rattle.schema.specs.Components.{component_names}
use Rattle.schema.specs.Properties.{property_names, is_known_property}
use Rattle.schema.specs.Coded.{row_at}
use Rattle.schema.specs.Columns.{stands_at}
use Rattle.schema.specs.laws.Columns.{number_place, stand_place, row_stands}
use Rattle.schema.specs.laws.Sets.{timezone_place}
use Rattle.schema.specs.Completing.{action_named}
use Rattle.schema.specs.Property as property
use Rattle.schema.specs.declared.Action.{Action}
use Rattle.schema.specs.declared.table.Row.{Row}
use Rattle.read_text_line.specs.Cursor.{params_at}
use Rattle.read_text_line.specs.Decoded.{decoded_parameter, decoded_line}
use Rattle.read_text_line.specs.Line.{line_from}
use Rattle.read_text_line.specs.declared.LineCursors.{LineCursors}
use Rattle.text.specs.Faults.{line_start, parameter_name, value_start, Fault}
use Rattle.text.proofs.laws.Faults.{fault_within}
use Rattle.text.specs.Statement.{property_fault, property_of}
use Rattle.text.specs.Nesting.{may_hold}
use Rattle.text.specs.LineKind.{open_as, held_by, property_kind}
use Rattle.read_text_property.specs.Faults.{fault_of, FaultIs}
use Rattle.read_text_property.specs.declared.LineFault.{LineFault}
use Rattle.read_text_property.specs.declared.LineFault.TheVariants.{Parameter, Encoding, Value}
use Rattle.refusals.specs.Fault.{fault_at}
use Rattle.refusals.specs.declared.Refusal.TheVariants.{Frame, Parameter as BadParameter, Value as BadValue}
use Rattle.edition.specs.declared.Edition.{Edition}
use Rattle.read_text.specs.Places.{NameAt, PlaceOf}
use Rattle.read_text.specs.laws.Action.{action_read}
use Rattle.read_text.specs.Kinds.{KindIs}
use Rattle.read_text.specs.declared.Kind.TheVariants.{Holds}

-- ---- where it may stand

pub follow_inner : (inner t : Bool) → inner ≡ true → t ≡ (not inner or t)
unfolding ◌or◌
follow_inner inner t h = rw h

pub follow_first : (inner t : Bool) → inner ≡ false → true ≡ (not inner or t)
unfolding ◌or◌
follow_first inner t h = rw h

-- the number of a name's row
number_of : {row : Row} (w : List ℕ) → row ≡ row_at (place_of w property_names) → row.number ≡ place_of w property_names
number_of w e = ap (λ (r : Row). r.number) e ∙ number_place w

module _ {k : ℕ} {row : Row} (inner : Bool) (c w : List ℕ) (o : k ≡ place_of c component_names) (e : row ≡ row_at (place_of w property_names)) where
  follow_at : (not inner or same c (ascii "VTIMEZONE")) ≡ (not inner or eqb k 5)
  follow_at = rw (timezone_place c, ← o)

  hold_at : may_hold w (open_as c inner) ≡ ((not (ltb row.number property.KNOWN) or stands_at k row) and (not inner or eqb k 5))
  unfolding is_known_property
  hold_at = rw (one_of_place w property_names, stand_place c w, ← o, ← (row_stands k (place_of w property_names)), ← e, ← (number_of w e), follow_at)

  pub hold_known : {m r : Bool} → row.number < property.KNOWN → m ≡ stands_at k row → m ≡ true → r ≡ (not inner or eqb k 5) → r ≡ may_hold w (open_as c inner)
  unfolding ◌and◌ ◌or◌
  hold_known f q g u = u ∙ sym (hold_at ∙ rw (lt-ltb row.number property.KNOWN f, ← q, g))

  pub hold_not : {m : Bool} → row.number < property.KNOWN → m ≡ stands_at k row → m ≡ false → false ≡ may_hold w (open_as c inner)
  unfolding ◌and◌ ◌or◌
  hold_not f q g = sym (hold_at ∙ rw (lt-ltb row.number property.KNOWN f, ← q, g))

  pub hold_other : {r : Bool} → property.KNOWN ≤ row.number → r ≡ (not inner or eqb k 5) → r ≡ may_hold w (open_as c inner)
  unfolding ◌and◌ ◌or◌
  hold_other f u = u ∙ sym (hold_at ∙ rw (le-ltb row.number property.KNOWN f))

module _ (ed : Edition) where
  -- ---- its line

  module _ (v : Bool) (m : ℕ) (s : List ℕ) (c : LineCursors) (w n : List ℕ) {row : Row} (inner : Bool) {b : Bool} (e : row ≡ row_at (place_of (upper w) property_names)) (q : b ≡ may_hold (upper w) (open_as n inner)) where
    pub property_not : b ≡ false → KindIs (PlaceOf m s c) v m s (property_kind n inner (decoded_line ed (line_from w m s c))) (Err (fault_at Frame c.name))
    property_not g = record { place = line_start; is = pick_no _ _ _ (sym q ∙ g); there = refl }

    module _ {f : Option LineFault} (g : b ≡ true) (u : FaultIs (property_fault n (decoded_line ed (line_from w m s c))) f) where
      fault_as : (x : Option LineFault) → f ≡ x → property_fault n (decoded_line ed (line_from w m s c)) ≡ option_map fault_of x
      fault_as x z = sym u.is ∙ ap (option_map fault_of) z

      kind_as : (x : Option LineFault) → f ≡ x → property_kind n inner (decoded_line ed (line_from w m s c)) ≡ held_by (option_map fault_of x) (property_of n (decoded_line ed (line_from w m s c)))
      kind_as x z = pick_yes _ _ _ (sym q ∙ g) ∙ ap (λ (o : Option Fault). held_by o (property_of n (decoded_line ed (line_from w m s c)))) (fault_as x z)

      pub property_parameter : {i r : ℕ} → f ≡ Some (Parameter i) → (i < length (params_at m s c.parameters) → NameAt m s c.parameters i r) →
          KindIs (PlaceOf m s c) v m s (property_kind n inner (decoded_line ed (line_from w m s c))) (Err (fault_at BadParameter r))
      property_parameter {i} z x = record {
        place = parameter_name i;
        is = kind_as (Some (Parameter i)) z;
        there = x (let j = length-map (params_at m s c.parameters) (decoded_parameter ed) in let y = fault_within n (decoded_line ed (line_from w m s c)) i (fault_as (Some (Parameter i)) z) in omega (arith, j, y));
      }

      pub property_encoding : f ≡ Some Encoding → KindIs (PlaceOf m s c) v m s (property_kind n inner (decoded_line ed (line_from w m s c))) (Err (fault_at BadParameter c.value))
      property_encoding z = record { place = value_start; is = kind_as (Some Encoding) z; there = refl }

      pub property_value : f ≡ Some Value → KindIs (PlaceOf m s c) v m s (property_kind n inner (decoded_line ed (line_from w m s c))) (Err (fault_at BadValue c.value))
      property_value z = record { place = value_start; is = kind_as (Some Value) z; there = refl }

      pub property_held : {a : Option Action} → f ≡ None → a ≡ pick (eqb row.number property.ACTION) (action_named (upper (rest m s c.value))) None →
          KindIs (PlaceOf m s c) v m s (property_kind n inner (decoded_line ed (line_from w m s c))) (Ok (Holds row.number a))
      unfolding pick property_of
      property_held {a} z y = record {
        property = property_of n (decoded_line ed (line_from w m s c));
        is = kind_as None z;
        number = number_of (upper w) e;
        action = λ x. y ∙ rw (eq-eqb row.number property.ACTION x) (sym (action_read n (decoded_line ed (line_from w m s c)) (fault_as None z) (sym (number_of (upper w) e) ∙ x)));
      }
