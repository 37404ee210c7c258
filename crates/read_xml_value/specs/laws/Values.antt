-- Laws of what specs/Values.antt defines.
--     typing, valuing     the rules of the code
use Rattle.std.specs.Prelude.{◌≡◌, refl, Bool, List, ℕ, ◌≤◌, eqb, Option, None, Some, Err}
use Rattle.std.proofs.Common.{sym, ap, subst, ◌∙◌, rules}
use Rattle.std.proofs.Math.Bool.{true, false}
use Rattle.std.proofs.lemmas.Bool.{false≢true}
use borrow.Author.Tests.{eq-eqb, ne_eqb, eqb-true}
use Rattle.octets.specs.Pick.{pick, ◌and◌}
use Rattle.octets.specs.laws.Pick.{branching_joined}
use Rattle.octets.specs.Reading.{is_read}
use Rattle.names.specs.Table.{place_of}
use Rattle.calendar.specs.Calendar.{xcal, ValueType, FLOAT, float}
use Rattle.calendar.specs.Refusal.{VALUE, Verdict, fine, refuse}
use Rattle.schema.specs.Types.{same_type}
use Rattle.schema.specs.Components.{component_names}
use Rattle.schema.specs.Properties.{property_names}
use Rattle.schema.specs.Numbers.{type_at}
use Rattle.schema.specs.Coded.{row_at}
use Rattle.schema.specs.Columns.{permits_type}
use Rattle.schema.specs.laws.Columns.{number_place, permits_type_place}
use Rattle.schema.specs.Sets.{is_word_of}
use Rattle.schema.specs.laws.Sets.{words_place, geo_place, request_status_place}
use Rattle.schema.specs.laws.Places.{type_back}
use Rattle.numbers.specs.Float.{read_float}
use Rattle.values.specs.ReadValue.{read_value}
use Rattle.values.specs.laws.ValueAt.{mapped}
use Rattle.xml.specs.Nodes.{Nodes, characters_of}
use Rattle.xcal.specs.Layout.{leaf}
use Rattle.xcal.specs.ValueNodes.{read_word_of, typed_verdict, as_typed, value_verdict, element_type}
use Rattle.read_xml_value.specs.Leaves.{leaf_by}
use Rattle.refusals.specs.Fault.{fault_at, judged_as}
use Rattle.refusals.specs.declared.Refusal.TheVariants.{Value}
use Rattle.refusals.specs.declared.Fault.{Fault}
use Rattle.read_xml_value.specs.ElementTypes.{TypeNamed}
use Rattle.read_xml_value.specs.laws.ElementTypes.{number_of}
use Rattle.read_xml_value.specs.Values.{typed_at}
use Rattle.schema.specs.declared.Context.{Context}
use Rattle.schema.specs.Property as property

-- ---- of names

-- the context of a component, a property and a type by their names
abbrev context_of : List ℕ → List ℕ → ℕ → Context
context_of c w u = record { component = place_of c component_names; row = row_at (place_of w property_names); value_type = u }

typed_place : (c w : List ℕ) (u place e : ℕ) (kids : Nodes) → u ≤ 14 → typed_verdict c w (type_at u) place e kids ≡ typed_at (context_of c w u) place e kids
unfolding typed_verdict same_type
typed_place c w u place e kids h = rw (type_back u h, words_place c w, number_place w)

module _ (c w : List ℕ) (place : ℕ) (n : List ℕ) (e : ℕ) (kids : Nodes) where
  geo_as : (t : ValueType) → place_of w property_names ≡ property.GEO → value_verdict c w t place n e kids ≡ leaf (λ l. is_read (read_float l)) place kids
  unfolding value_verdict pick
  geo_as t h = rw (geo_place w, eq-eqb (place_of w property_names) property.GEO h)

  module _ (g : place_of w property_names ≡ property.GEO → ⊥) where
    status_as : (t : ValueType) → place_of w property_names ≡ property.REQUEST-STATUS → value_verdict c w t place n e kids ≡ leaf_by fine kids
    unfolding value_verdict pick
    status_as t h = rw (geo_place w, ne_eqb (place_of w property_names) property.GEO g, request_status_place w, eq-eqb (place_of w property_names) property.REQUEST-STATUS h)

    other_as : (t : ValueType) → (place_of w property_names ≡ property.REQUEST-STATUS → ⊥) → value_verdict c w t place n e kids ≡ as_typed (element_type n) c w t place e kids
    unfolding value_verdict pick
    other_as t h = rw (geo_place w, ne_eqb (place_of w property_names) property.GEO g, request_status_place w, ne_eqb (place_of w property_names) property.REQUEST-STATUS h)

-- where two types are the same, either serves
either_type : (a : Bool) (u t : ℕ) (f : ℕ → Verdict) (v : Verdict) → pick (a and eqb u t) (f u) v ≡ pick (a and eqb u t) (f t) v
unfolding pick ◌and◌
either_type false u t f v = refl
either_type true u t f v = go (eqb u t) refl
  where
    go : (b : Bool) → eqb u t ≡ b → pick b (f u) v ≡ pick b (f t) v
    go true h = ap f (eqb-true u t h)
    go false h = refl

typed_as : (c w : List ℕ) (place e : ℕ) (kids : Nodes) (u t : ℕ) → u ≤ 14 → t ≤ 14 → as_typed (Some (type_at u)) c w (type_at t) place e kids ≡
    pick (permits_type (row_at (place_of w property_names)) u and eqb u t) (typed_at (context_of c w t) place e kids) (refuse VALUE place)
unfolding same_type
typed_as c w place e kids u t h l =
    rw (permits_type_place w (type_at u), type_back u h, type_back t l, typed_place c w u place e kids h)
    (either_type (permits_type (row_at (place_of w property_names)) u) u t (λ (i : ℕ). typed_at (context_of c w i) place e kids) (refuse VALUE place))

-- ---- for code

module _ (o : Option (List (List ℕ))) (t : ValueType) (place : ℕ) (kids : Nodes) {a : Bool} (e : a ≡ is_read o) {v : Verdict} where
  pub typed_word : a ≡ true → v ≡ leaf (λ l. is_word_of o l) place kids → v ≡ leaf (read_word_of o t) place kids
  unfolding is_read
  typed_word h q = go o (sym e ∙ h) q
    where
      go : (o : Option (List (List ℕ))) → is_read o ≡ true → v ≡ leaf (λ l. is_word_of o l) place kids → v ≡ leaf (read_word_of o t) place kids
      go None k q = absurd (false≢true k)
      go (Some ws) k q = q

  pub typed_other : a ≡ false → v ≡ leaf (λ l. is_read (read_value xcal t l)) place kids → v ≡ leaf (read_word_of o t) place kids
  unfolding is_read
  typed_other h q = go o (sym e ∙ h)
    where
      go : (o : Option (List (List ℕ))) → is_read o ≡ false → v ≡ leaf (read_word_of o t) place kids
      go None k = q
      go (Some ws) k = absurd (false≢true (sym k))

module _ (x : Context) (place : ℕ) (n : List ℕ) (e : ℕ) (kids : Nodes) where
  pub value_geo : {v : Verdict} → x.row.number ≡ property.GEO → v ≡ leaf (λ l. is_read (read_value xcal FLOAT l)) place kids →
      (c w : List ℕ) → x.component ≡ place_of c component_names → x.row ≡ row_at (place_of w property_names) → x.value_type ≤ 14 → v ≡ value_verdict c w (type_at x.value_type) place n e kids
  unfolding read_value
  value_geo h q c w a y l = q ∙ rw (geo_as c w place n e kids (type_at x.value_type) (sym (number_of w y) ∙ h), mapped float (read_float (characters_of kids)))

  module _ (g : x.row.number ≡ property.GEO → ⊥) where
    pub value_status : {v : Verdict} → x.row.number ≡ property.REQUEST-STATUS → v ≡ leaf_by fine kids →
        (c w : List ℕ) → x.component ≡ place_of c component_names → x.row ≡ row_at (place_of w property_names) → x.value_type ≤ 14 → v ≡ value_verdict c w (type_at x.value_type) place n e kids
    value_status h q c w a y l = q ∙ sym (status_as c w place n e kids (λ z. g (number_of w y ∙ z)) (type_at x.value_type) (sym (number_of w y) ∙ h))

    module _ (h : x.row.number ≡ property.REQUEST-STATUS → ⊥) {m : Option ℕ} (d : TypeNamed n m) where
      pub value_typed : {v : Verdict} {u : ℕ} → m ≡ Some u → v ≡ pick (permits_type x.row u and eqb u x.value_type) (typed_at x place e kids) (refuse VALUE place) →
          (c w : List ℕ) → x.component ≡ place_of c component_names → x.row ≡ row_at (place_of w property_names) → x.value_type ≤ 14 → v ≡ value_verdict c w (type_at x.value_type) place n e kids
      value_typed {v} {u} z q c w a y l =
          let f : TypeNamed n (Some u) = subst (TypeNamed n) z d in
          q ∙ rw (a, y) (sym (other_as c w place n e kids (λ i. g (number_of w y ∙ i)) (type_at x.value_type) (λ i. h (number_of w y ∙ i)) ∙ rw f.is (typed_as c w place e kids u x.value_type f.small l)))

      pub value_bad : {v : Fault} → m ≡ None → v ≡ fault_at Value place →
          (c w : List ℕ) → x.component ≡ place_of c component_names → x.row ≡ row_at (place_of w property_names) → x.value_type ≤ 14 → judged_as (Err v) ≡ value_verdict c w (type_at x.value_type) place n e kids
      value_bad z q c w a y l =
          let f : TypeNamed n None = subst (TypeNamed n) z d in
          rw q (sym (other_as c w place n e kids (λ i. g (number_of w y ∙ i)) (type_at x.value_type) (λ i. h (number_of w y ∙ i)) ∙ rw f.is))

-- a type that is not permitted, or is another
pub type_refused : (p : ℕ) {v : Fault} → v ≡ fault_at Value p → judged_as (Err v) ≡ refuse VALUE p
type_refused p q = rw q

pub ruleset typing = (typed_word, typed_other, rules)

pub ruleset verdicts = (type_refused, branching_joined)

pub ruleset valuing = (value_geo, value_status, value_typed, value_bad, rules)
