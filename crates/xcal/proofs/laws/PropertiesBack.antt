-- Properties that are written to XML are read back from their elements, and not refused (RFC 6321, section 3.4).
--     properties_back          the properties that the elements of properties state
--     properties_fine          the verdict on them
use Rattle.std.specs.Prelude.{◌≡◌, true, false, not, ℕ, ◌≤◌, None}
use Rattle.std.proofs.Math.Path.{refl}
use Rattle.std.proofs.Common.{ap, ◌∙◌, arith}
use mathlib.Core.List.{List, [], ◌∷◌}
use Rattle.std.proofs.lemmas.Bool.{not-true}
use Rattle.octets.specs.Ascii.{ascii}
use Rattle.octets.specs.Pick.{pick, ◌and◌}
use Rattle.octets.specs.laws.Pick.{or_no, or_cases, and_no_left, and_no_right}
use Rattle.octets.specs.Class.{upper, lower}
use Rattle.octets.specs.Lists.{every}
use Rattle.octets.specs.laws.Lists.{every_both}
use Rattle.octets.specs.Reading.{read_or}
use Rattle.octets.specs.Computing.{octets_compute}
use Rattle.calendar.specs.Calendar.{ValueType, Value, Parameter, Property}
use Rattle.calendar.specs.Refusal.{fine, ◌otherwise◌}
use Rattle.schema.specs.Components.{may_stand}
use Rattle.schema.specs.Properties.{is_known_property}
use Rattle.schema.specs.Computing.{schema_compute}
use Rattle.values.specs.WriteValue.{type_of_all}
use Rattle.validity.specs.ValidCalendar.{is_valid_property}
use Rattle.validity.proofs.laws.ValidCalendar.{ValidProperty, valid_property}
use Rattle.xml.specs.Nodes.{Nodes, no_nodes, element}
use Rattle.xml.specs.Content.{Content, nothing, placed}
use Rattle.edition.specs.declared.Edition.{Edition}
use Rattle.xcal.specs.Layout.{sequence}
use Rattle.xcal.proofs.laws.ElementNames.{lower-same, no_capital, kept_upper, kept_back, kept_carried}
use Rattle.xcal.proofs.laws.Contents.{values_before, parameters_before, parameters_part, property_inside, properties_before}
use Rattle.xcal.specs.ValueNodes.{element_type, first_type, type_of_nodes, child_named, typed_values, read_value_nodes}
use Rattle.xcal.specs.ParameterNodes.{parameters_verdict, read_parameter_nodes}
use Rattle.xcal.specs.PropertyNodes.{bad_name, property_slots, parameters_in, child_verdict, lacks_encoding, property_verdict, properties_verdict, read_properties}
use Rattle.xcal.proofs.laws.ParametersBack.{parameters_back}
use Rattle.xcal.proofs.laws.ParametersFine.{parameters_good_lem, has_encoding_lem}
use Rattle.xcal.proofs.laws.PropertyValues.{Stands}
use Rattle.xcal.proofs.laws.OwnValues.{values_stand}

-- ---- `parameters` before the values

pub no_type : element_type (ascii "parameters") ≡ None
unfolding schema_compute element_type
no_type = refl

type_part : (n : List ℕ) (t : ValueType) (ps : List Parameter) (c : Content) → ((q : ℕ) → type_of_nodes n (placed c q no_nodes) ≡ t) →
    (q : ℕ) → type_of_nodes n (placed (parameters_part ps c) q no_nodes) ≡ t
unfolding placed type_of_nodes first_type read_or
type_part n t [] c h q = h q
type_part n t (p ∷ ps) c h q = rw no_type (h _)

skips_parameters : (n : List ℕ) (p x : ℕ) (kids more : Nodes) → read_value_nodes n (element p (ascii "parameters") x kids more) ≡ read_value_nodes n more
unfolding octets_compute read_value_nodes child_named typed_values
skips_parameters n p x kids more = rw no_type

values_part : (n : List ℕ) (vs : List Value) (ps : List Parameter) (c : Content) → ((q : ℕ) → read_value_nodes n (placed c q no_nodes) ≡ vs) →
    (q : ℕ) → read_value_nodes n (placed (parameters_part ps c) q no_nodes) ≡ vs
unfolding placed
values_part n vs [] c h q = h q
values_part n vs (p ∷ ps) c h q = skips_parameters n _ _ _ _ ∙ h _

parameters_part_lem : (n : List ℕ) (ps : List Parameter) (c : Content) → ((q : ℕ) → parameters_in n (placed c q no_nodes) ≡ no_nodes) →
    (q : ℕ) → (r : ℕ) × (parameters_in n (placed (parameters_part ps c) q no_nodes) ≡ placed (parameters_before ps nothing) r no_nodes)
unfolding octets_compute placed parameters_before parameters_in
parameters_part_lem n [] c h q = (0, h q)
parameters_part_lem n (p ∷ ps) c h q = (_, refl)

-- ---- one property

begin_name : upper (ascii "BEGIN") ≡ ascii "BEGIN"
unfolding octets_compute
begin_name = refl

end_name : upper (ascii "END") ≡ ascii "END"
unfolding octets_compute
end_name = refl

module _ (ed : Edition) where
  good_part : (k n : List ℕ) (t : ValueType) (ps : List Parameter) (c : Content) (x : ℕ) → ((q : ℕ) → parameters_verdict ed n t (placed (parameters_before ps nothing) q no_nodes) [] ≡ fine) →
      ((next : ℕ) (seen : List (List ℕ)) (q : ℕ) → next ≤ 1 → sequence (property_slots n) (child_verdict ed k n t) (placed c q no_nodes) next seen x ≡ fine) →
      (q : ℕ) → sequence (property_slots n) (child_verdict ed k n t) (placed (parameters_part ps c) q no_nodes) 0 [] x ≡ fine
  unfolding octets_compute placed sequence ◌otherwise◌
  good_part k n t [] c x g h q = h 0 [] q (omega arith)
  good_part k n t (p ∷ ps) c x g h q = rw (g _) (h 1 (ascii "parameters" ∷ []) _ (omega arith))

  module _ (k : List ℕ) (p : Property) (c : ValidProperty ed k p) where
    good_name : bad_name (lower p.name) ≡ false
    unfolding lower pick ◌and◌
    good_name =
        or_no _ _ (no_capital p.name) (or_no _ _ (rw (kept_carried p.name c.kept))
        (or_no _ _ (lower-same p.name (ascii "BEGIN") (kept_upper p.name c.kept) begin_name ∙ c.begins) (lower-same p.name (ascii "END") (kept_upper p.name c.kept) end_name ∙ c.ends)))

    stands : Stands ed k p.name (type_of_all p.values) p.values
    stands = values_stand ed k p.name p.values c.values

    type_in : (q : ℕ) → type_of_nodes p.name (placed (property_inside p) q no_nodes) ≡ type_of_all p.values
    unfolding type_of_nodes
    type_in q = type_part p.name (type_of_all p.values) p.parameters (values_before p.values nothing) stands.typed q

    parameters_in_lem : (q : ℕ) → (r : ℕ) × (parameters_in p.name (placed (property_inside p) q no_nodes) ≡ placed (parameters_before p.parameters nothing) r no_nodes)
    parameters_in_lem q = parameters_part_lem p.name p.parameters (values_before p.values nothing) stands.apart q

    not_misplaced : (is_known_property p.name and not (may_stand k p.name)) ≡ false
    not_misplaced = or_cases _ _ c.stands (λ e. and_no_left _ _ (not-true _ e)) (λ e. and_no_right _ _ (rw e))

    encoded : (q : ℕ) → lacks_encoding p.name (placed (property_inside p) q no_nodes) ≡ false
    encoded q =
        let e = parameters_in_lem q in
        rw (type_in q, e.1) (has_encoding_lem ed p.name (type_of_all p.values) p.parameters c.agree c.parameters e.0)

    property_fine : (a x q : ℕ) → property_verdict ed k a (lower p.name) x (placed (property_inside p) q no_nodes) ≡ fine
    unfolding property_verdict pick
    property_fine a x q =
        rw (good_name, kept_back p.name c.kept, not_misplaced, encoded q, type_in q)
        (good_part k p.name (type_of_all p.values) p.parameters (values_before p.values nothing) x
        (parameters_good_lem ed p.name (type_of_all p.values) p.parameters c.agree c.parameters) (λ next seen q u. stands.good next seen x q u) q)

    -- what its element states
    parameters_stated : (q : ℕ) → read_parameter_nodes (parameters_in p.name (placed (property_inside p) q no_nodes)) ≡ p.parameters
    parameters_stated q = let e = parameters_in_lem q in rw e.1 (parameters_back ed p.parameters c.parameters e.0)

    values_stated : (q : ℕ) → read_value_nodes p.name (placed (property_inside p) q no_nodes) ≡ p.values
    values_stated q = values_part p.name p.values p.parameters (values_before p.values nothing) stands.stated q

  -- ---- properties

  pub properties_back : (k : List ℕ) (ps : List Property) → every (is_valid_property ed k) ps ≡ true → (q : ℕ) → read_properties (placed (properties_before ps nothing) q no_nodes) ≡ ps
  unfolding properties_before placed read_properties
  properties_back k [] h q = refl
  properties_back k (p ∷ ps) h q =
      let a = every_both (is_valid_property ed k) p ps h in
      let c = valid_property ed k p a.0 in
      rw (kept_back p.name c.kept, parameters_stated k p c, values_stated k p c) (ap (λ (l : List Property). p ∷ l) (properties_back k ps a.1 _))

  pub properties_fine : (k : List ℕ) (ps : List Property) → every (is_valid_property ed k) ps ≡ true → (q : ℕ) → properties_verdict ed k (placed (properties_before ps nothing) q no_nodes) ≡ fine
  unfolding properties_before placed properties_verdict ◌otherwise◌
  properties_fine k [] h q = refl
  properties_fine k (p ∷ ps) h q =
      let a = every_both (is_valid_property ed k) p ps h in
      rw (property_fine k p (valid_property ed k p a.0) q) (properties_fine k ps a.1 _)
