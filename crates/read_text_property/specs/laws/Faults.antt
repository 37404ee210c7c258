-- Laws of what specs/Faults.antt defines.
--     value_..       each way of `value_fault`;   fault_parameter, fault_encoding, fault_value: of `property_fault`
--     fault_named    it is `property_fault` of names that have the number and the row
use Rattle.std.specs.Prelude.{◌≡◌, Bool, List, ℕ, Option, None, Some, option_map, Result, Ok, Err}
use Rattle.std.proofs.Math.Path.{refl, sym, ap}
use Rattle.std.proofs.Common.{◌∙◌}
use Rattle.std.proofs.Math.Bool.{true, false}
use Rattle.octets.specs.Class.{upper}
use Rattle.octets.specs.Reading.{read_or}
use Rattle.calendar.specs.Calendar.{ValueType, TEXT}
use Rattle.names.specs.Table.{place_of}
use Rattle.schema.specs.Types.{type_place}
use Rattle.schema.specs.Components.{component_names}
use Rattle.schema.specs.Properties.{property_names}
use Rattle.schema.specs.Coded.{row_at}
use Rattle.schema.specs.declared.table.Row.{Row}
use Rattle.read_text_line.specs.ContentLine.{ContentLine, RawParameter}
use Rattle.text.specs.Faults.{line_fault}
use Rattle.text.specs.Statement as statement
use Rattle.text.specs.Statement.{type_of_line, property_fault}
use Rattle.read_text_parameters.specs.Stating.{stated_at}
use Rattle.read_text_parameters.specs.Walking.{where_of, ParametersAt}
use Rattle.read_text_parameters.specs.laws.Named.{fault_place, stated_place}
use Rattle.read_text_parameters.specs.declared.ParameterFault.{ParameterFault}
use Rattle.read_text_parameters.specs.declared.ParameterFault.TheVariants.{Faulty, Unencoded}
use Rattle.read_text_property.specs.ValuesAt.{good_at, values_read}
use Rattle.read_text_property.specs.laws.ValuesAt.{are_good, good_values, values_place}
use Rattle.read_text_property.specs.Faults.{fault_of, FaultIs, value_fault, fault_at}
use Rattle.read_text_property.specs.declared.LineFault.{LineFault}
use Rattle.read_text_property.specs.declared.LineFault.TheVariants.{Parameter, Encoding, Value}

-- ---- for the code

module _ (t : ℕ) (b : Bool) {y : Option ℕ} (u : y ≡ values_read t b) where
  pub value_bad : y ≡ None → Some Value ≡ value_fault b
  value_bad h = ap value_fault (sym (good_values t b u ∙ ap are_good h))

  pub value_good : {n : ℕ} → y ≡ Some n → None ≡ value_fault b
  value_good h = ap value_fault (sym (good_values t b u ∙ ap are_good h))

module _ (k : ℕ) {row : Row} {rs : List RawParameter} {x : Result ℕ ParameterFault} (a : ParametersAt row rs x) (bytes : List ℕ) where
  fault_is : {y : Result ℕ ParameterFault} → x ≡ y → fault_at k row rs bytes ≡ line_fault (where_of y) (good_at k row (read_or 10 (stated_at row.default rs)) bytes)
  unfolding fault_at
  fault_is h = rw (a.fault, h)

  pub fault_parameter : {i : ℕ} → x ≡ Err (Faulty i) → FaultIs (fault_at k row rs bytes) (Some (Parameter i))
  fault_parameter h = record { is = sym (fault_is h) }

  pub fault_encoding : x ≡ Err Unencoded → FaultIs (fault_at k row rs bytes) (Some Encoding)
  fault_encoding h = record { is = sym (fault_is h) }

  pub fault_value : {t : ℕ} {f : Option LineFault} → x ≡ Ok t → f ≡ value_fault (good_at k row t bytes) → FaultIs (fault_at k row rs bytes) f
  unfolding read_or
  fault_value {t} h e = record { is = ap (option_map fault_of) e ∙ go (good_at k row t bytes) ∙ sym (fault_is h ∙ rw (a.typed t h)) }
    where
      go : (b : Bool) → option_map fault_of (value_fault b) ≡ line_fault None b
      go true = refl
      go false = refl

-- ---- of names

type_or : (o : Option ValueType) → read_or 10 (option_map type_place o) ≡ type_place (read_or TEXT o)
unfolding read_or
type_or None = refl
type_or (Some t) = refl

module _ (c : List ℕ) (l : ContentLine) where
  abbrev named : Row
  named = row_at (place_of (upper l.name) property_names)

  fault_is_named : fault_at (place_of c component_names) named l.parameters l.value ≡ property_fault c l
  unfolding fault_at statement.fault_as
  fault_is_named =
      rw (stated_place (upper l.name) refl l.parameters, fault_place (upper l.name) refl (type_of_line l) l.parameters, type_or (type_of_line l), ← (values_place c (upper l.name) (read_or TEXT (type_of_line l)) l.value))

  pub fault_named : {r : Option LineFault} {k : ℕ} {row : Row} {rs : List RawParameter} {bytes : List ℕ} → FaultIs (fault_at k row rs bytes) r →
      k ≡ place_of c component_names → row ≡ named → l.parameters ≡ rs → l.value ≡ bytes → FaultIs (property_fault c l) r
  fault_named e i j f g = record { is = e.is ∙ rw (← f, ← g, i, j) fault_is_named }
