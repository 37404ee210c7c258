-- The values of a property by its number.
--     values_at        they, by the number;   values_at_lem: those of a name are those of its number
--     values_named     those of a name are those of its number's name
--     put_..           the ways of `put_values`;   type_..: of `type_of_values`
use Rattle.std.specs.Prelude.{◌≡◌, List, [], ◌∷◌, ℕ, ◌≤◌, eqb}
use Rattle.std.proofs.Common.{sym, ap, ◌∙◌, arith}
use Rattle.std.proofs.Math.Decide.{dec_le}
use Rattle.std.proofs.Math.ListN.{get_or-eq_default}
use borrow.Author.Tests.{eq-eqb, ne_eqb}
use Rattle.octets.specs.Pick.{pick}
use Rattle.calendar.specs.Calendar.{Value}
use Rattle.sink.specs.Sink.{Put}
use Rattle.names.specs.Table.{place_of}
use Rattle.schema.specs.Properties.{property_names}
use Rattle.schema.specs.Numbers.{type_at, property_name}
use Rattle.schema.specs.laws.Places.{property_at_lem, no_property}
use Rattle.schema.specs.laws.Sets.{geo_place, request_status_place}
use Rattle.schema.specs.Property as property
use Rattle.values.specs.WriteValue.{write_value, write_values, type_of_all}
use Rattle.values.specs.laws.WriteValue.{one_written}
use Rattle.xml.specs.Nodes.{Nodes}
use Rattle.xcal.specs.ValueNodes.{read_value_nodes, typed_values}
use Rattle.write_text_values.specs.Own.{geo_of, status_of}

abbrev pub values_at : ℕ → Nodes → List Value
values_at p kids = pick (eqb p property.GEO) (geo_of kids ∷ []) (pick (eqb p property.REQUEST-STATUS) (status_of kids ∷ []) (typed_values kids))

pub values_at_lem : (w : List ℕ) (kids : Nodes) → read_value_nodes w kids ≡ values_at (place_of w property_names) kids
unfolding read_value_nodes
values_at_lem w kids = rw (geo_place w, request_status_place w)

-- ---- the name of a number

pub values_number : (p : ℕ) (kids : Nodes) → read_value_nodes (property_name p) kids ≡ values_at p kids
unfolding pick
values_number p kids = values_at_lem (property_name p) kids ∙ go (dec_le property.KNOWN p)
  where
    go : Dec (property.KNOWN ≤ p) → values_at (place_of (property_name p) property_names) kids ≡ values_at p kids
    go (yes h) = rw (get_or-eq_default property_names [] h, no_property, ne_eqb p property.GEO (λ e. omega arith), ne_eqb p property.REQUEST-STATUS (λ e. omega arith))
    go (no h) = ap (λ (q : ℕ). values_at q kids) (property_at_lem p (omega (arith, h)))

pub values_named : (w : List ℕ) (p : ℕ) (kids : Nodes) → p ≡ place_of w property_names → read_value_nodes (property_name p) kids ≡ read_value_nodes w kids
values_named w p kids e = values_number p kids ∙ ap (λ (q : ℕ). values_at q kids) e ∙ sym (values_at_lem w kids)

-- ---- the ways of the code

module _ (p : ℕ) (kids : Nodes) where
  values_geo : p ≡ property.GEO → read_value_nodes (property_name p) kids ≡ geo_of kids ∷ []
  unfolding pick
  values_geo e = values_number p kids ∙ rw (eq-eqb p property.GEO e)

  values_status : (p ≡ property.GEO → ⊥) → p ≡ property.REQUEST-STATUS → read_value_nodes (property_name p) kids ≡ status_of kids ∷ []
  unfolding pick
  values_status n e = values_number p kids ∙ rw (ne_eqb p property.GEO n, eq-eqb p property.REQUEST-STATUS e)

  values_typed : (p ≡ property.GEO → ⊥) → (p ≡ property.REQUEST-STATUS → ⊥) → read_value_nodes (property_name p) kids ≡ typed_values kids
  unfolding pick
  values_typed n m = values_number p kids ∙ rw (ne_eqb p property.GEO n, ne_eqb p property.REQUEST-STATUS m)

  module _ {d e : List ℕ} {o r : ℕ} where
    pub put_geo : p ≡ property.GEO → Put d e o r (write_value (geo_of kids)) → Put d e o r (write_values (read_value_nodes (property_name p) kids))
    put_geo h w = rw (values_geo h, one_written (geo_of kids)) w

    module _ (n : p ≡ property.GEO → ⊥) where
      pub put_status : p ≡ property.REQUEST-STATUS → Put d e o r (write_value (status_of kids)) → Put d e o r (write_values (read_value_nodes (property_name p) kids))
      put_status h w = rw (values_status n h, one_written (status_of kids)) w

      pub put_typed : (p ≡ property.REQUEST-STATUS → ⊥) → Put d e o r (write_values (typed_values kids)) → Put d e o r (write_values (read_value_nodes (property_name p) kids))
      put_typed h w = rw (values_typed n h) w

  pub type_geo : p ≡ property.GEO → (type_at 6 ≡ type_of_all (read_value_nodes (property_name p) kids)) × (6 ≤ 14)
  type_geo h = (rw (values_geo h), omega arith)

  module _ (n : p ≡ property.GEO → ⊥) where
    pub type_status : p ≡ property.REQUEST-STATUS → (type_at 10 ≡ type_of_all (read_value_nodes (property_name p) kids)) × (10 ≤ 14)
    type_status h = (rw (values_status n h), omega arith)

    pub type_typed : (p ≡ property.REQUEST-STATUS → ⊥) → {r : ℕ} → (type_at r ≡ type_of_all (typed_values kids)) × (r ≤ 14) → (type_at r ≡ type_of_all (read_value_nodes (property_name p) kids)) × (r ≤ 14)
    type_typed h q = (q.0 ∙ sym (ap type_of_all (values_typed n h)), q.1)
