-- The values of GEO and REQUEST-STATUS, which have children of their own, in the property's element (RFC 6321, section 3.4.1; schema, lines 744 and 1183).
--     geo_stands, status_stands    what their elements are
--     values_stand                 the elements of any property's values
use Rattle.std.specs.Prelude.{◌≡◌, Bool, not, ℕ, Option, None, Some}
use Rattle.std.proofs.Math.Path.{refl, subst}
use Rattle.std.proofs.Common.{sym}
use Rattle.std.proofs.Math.Bool.{true, false}
use Rattle.std.proofs.lemmas.Bool.{false≢true}
use mathlib.Core.List.{List, [], ◌∷◌}
use borrow.Author.Tests.{le-ltb, not-true}
use Rattle.octets.specs.Ascii.{ascii}
use Rattle.octets.specs.Pick.{pick, ◌or◌}
use Rattle.octets.specs.laws.Pick.{and_both, or_left, or_right}
use Rattle.octets.specs.Words.{same}
use Rattle.octets.specs.laws.Words.{same_self, same_true}
use Rattle.octets.specs.Lists.{every}
use Rattle.octets.specs.laws.Lists.{every_both, every_weaker}
use Rattle.octets.specs.Reading.{is_read}
use Rattle.calendar.specs.Calendar.{ValueType, FLOAT, TEXT, Decimal, Value, geo, request_status, type_of}
use Rattle.calendar.specs.Refusal.{◌otherwise◌}
use Rattle.schema.specs.Types.{is_type_of}
use Rattle.schema.specs.Properties.{permitted_types, is_listed_property, property_words}
use Rattle.schema.specs.Computing.{schema_compute}
use Rattle.numbers.specs.Float.{is_normal, read_float, write_float}
use Rattle.numbers.specs.laws.FloatLaws.{float_read_back}
use Rattle.values.specs.WriteValue.{type_of_all}
use Rattle.values.specs.ReadBack.{is_value, is_typed}
use Rattle.values.specs.Valid.{is_amount, is_chosen, has_own_values, is_own_value, is_property_value, are_values_of, are_property_values}
use Rattle.values.specs.laws.Valid.{only_one, own_value}
use Rattle.xml.specs.Content.{placed}
use Rattle.edition.specs.declared.Edition.{Edition}
use Rattle.xcal.specs.Layout.{lacks, sequence}
use Rattle.xcal.specs.ValueNodes.{value_verdict, child_named, read_value_nodes}
use Rattle.xcal.specs.PropertyNodes.{parameters_in}
use Rattle.xcal.proofs.laws.Contents.{value_before, values_before}
use Rattle.xcal.proofs.laws.LeavesBack.{leaf_characters, leaf_fine}
use Rattle.xcal.proofs.laws.PropertyValues.{Stands, typed_stands}

one_only : is_listed_property (ascii "GEO") ≡ false
unfolding schema_compute
one_only = refl

one_status : is_listed_property (ascii "REQUEST-STATUS") ≡ false
unfolding schema_compute
one_status = refl

as_chosen : (k n : List ℕ) (t : ValueType) (vs : List Value) → same n (ascii "GEO") ≡ false → same n (ascii "REQUEST-STATUS") ≡ false → every (is_property_value k n t) vs ≡ true →
    every (is_chosen (property_words k n) t) vs ≡ true
unfolding pick ◌or◌
as_chosen k n t vs g s h = every_weaker (is_property_value k n t) (is_chosen (property_words k n) t) (λ v e. rw (g, s) at e) vs h

as_own : (k n : List ℕ) (t : ValueType) (vs : List Value) → has_own_values n ≡ true → every (is_property_value k n t) vs ≡ true → every (is_own_value t) vs ≡ true
unfolding pick
as_own k n t vs o h = every_weaker (is_property_value k n t) (is_own_value t) (λ v e. rw o at e) vs h

module _ (ed : Edition) where
  pub geo_stands : (k : List ℕ) (la lo : Decimal) → is_normal la ≡ true → is_normal lo ≡ true → Stands ed k (ascii "GEO") FLOAT (geo la lo ∷ [])
  unfolding schema_compute value_before values_before placed read_value_nodes child_named parameters_in sequence value_verdict lacks ◌otherwise◌
  geo_stands k la lo a b = record {
    stated = λ q. rw (leaf_characters (write_float la), leaf_characters (write_float lo), float_read_back la a, float_read_back lo b);
    typed = λ q. refl;
    apart = λ q. refl;
    good = λ next seen x q u. rw (
      le-ltb 1 next u,
      leaf_fine (λ s. is_read (read_float s)) q (write_float la) _ (rw (float_read_back la a)),
      leaf_fine (λ s. is_read (read_float s)) _ (write_float lo) _ (rw (float_read_back lo b)),
    );
  }

  pub status_stands : (k c d : List ℕ) (x : Option (List ℕ)) → Stands ed k (ascii "REQUEST-STATUS") TEXT (request_status c d x ∷ [])
  unfolding schema_compute value_before values_before placed read_value_nodes child_named parameters_in sequence value_verdict lacks ◌otherwise◌
  status_stands k c d None = record {
    stated = λ q. rw (leaf_characters c, leaf_characters d);
    typed = λ q. refl;
    apart = λ q. refl;
    good = λ next seen x q u. rw (le-ltb 1 next u, leaf_fine (λ s. true) q c _ refl, leaf_fine (λ s. true) _ d _ refl);
  }
  status_stands k c d (Some s) = record {
    stated = λ q. rw (leaf_characters c, leaf_characters d, leaf_characters s);
    typed = λ q. refl;
    apart = λ q. refl;
    good = λ next seen x q u. rw (le-ltb 1 next u, leaf_fine (λ s. true) q c _ refl, leaf_fine (λ s. true) _ d _ refl, leaf_fine (λ s. true) _ s _ refl);
  }

  -- ---- any property

  -- where a property takes one type, its own values have that type
  geo_own : (k : List ℕ) (v : Value) → is_type_of (type_of v) (permitted_types (ascii "GEO")) ≡ true → is_typed v ≡ false → is_value v ≡ true → Stands ed k (ascii "GEO") (type_of v) (v ∷ [])
  unfolding schema_compute
  geo_own k v p t h =
      own_value (λ v. is_type_of (type_of v) (permitted_types (ascii "GEO")) ≡ true → Stands ed k (ascii "GEO") (type_of v) (v ∷ []))
      (λ la lo a b p. geo_stands k la lo a b) (λ c d x p. absurd (false≢true p)) v t h p

  status_own : (k : List ℕ) (v : Value) → is_type_of (type_of v) (permitted_types (ascii "REQUEST-STATUS")) ≡ true → is_typed v ≡ false → is_value v ≡ true →
      Stands ed k (ascii "REQUEST-STATUS") (type_of v) (v ∷ [])
  unfolding schema_compute
  status_own k v p t h =
      own_value (λ v. is_type_of (type_of v) (permitted_types (ascii "REQUEST-STATUS")) ≡ true → Stands ed k (ascii "REQUEST-STATUS") (type_of v) (v ∷ []))
      (λ la lo a b p. absurd (false≢true p)) (λ c d x p. status_stands k c d x) v t h p

  -- a property of one value of its own
  own_stands : (k n : List ℕ) (vs : List Value) → is_listed_property n ≡ false → has_own_values n ≡ true →
      ((v : Value) → is_type_of (type_of v) (permitted_types n) ≡ true → is_typed v ≡ false → is_value v ≡ true → Stands ed k n (type_of v) (v ∷ [])) → are_property_values k n vs ≡ true → Stands ed k n (type_of_all vs) vs
  unfolding are_values_of
  own_stands k n vs l o f h =
      let a = and_both (is_type_of (type_of_all vs) (permitted_types n)) _ h in
      let b = and_both (is_amount (is_listed_property n) vs) _ a.1 in
      only_one (λ vs. is_type_of (type_of_all vs) (permitted_types n) ≡ true → every (is_own_value (type_of_all vs)) vs ≡ true → Stands ed k n (type_of_all vs) vs)
      (λ v p e. let w = and_both (not (is_typed v)) (is_value v) (and_both _ _ (every_both (is_own_value (type_of v)) v [] e).0).1 in f v p (not-true _ w.0) w.1)
      vs (rw l at b.0) a.0 (as_own k n (type_of_all vs) vs o b.1)

  pub values_stand : (k n : List ℕ) (vs : List Value) → are_property_values k n vs ≡ true → Stands ed k n (type_of_all vs) vs
  unfolding are_values_of
  values_stand k n vs h = go (same n (ascii "GEO")) refl (same n (ascii "REQUEST-STATUS")) refl
    where
      go : (g : Bool) → same n (ascii "GEO") ≡ g → (s : Bool) → same n (ascii "REQUEST-STATUS") ≡ s → Stands ed k n (type_of_all vs) vs
      go true eg s es =
          let z : n ≡ ascii "GEO" = same_true _ _ eg in
          subst (λ (m : List ℕ). (Stands ed) k m (type_of_all vs) vs) (sym z)
          (own_stands k (ascii "GEO") vs one_only (or_left _ _ (same_self (ascii "GEO"))) (geo_own k) (subst (λ (m : List ℕ). are_property_values k m vs ≡ true) z h))
      go false eg true es =
          let z : n ≡ ascii "REQUEST-STATUS" = same_true _ _ es in
          subst (λ (m : List ℕ). (Stands ed) k m (type_of_all vs) vs) (sym z)
          (own_stands k (ascii "REQUEST-STATUS") vs one_status (or_right _ _ (same_self (ascii "REQUEST-STATUS"))) (status_own k) (subst (λ (m : List ℕ). are_property_values k m vs ≡ true) z h))
      go false eg false es =
          let a = and_both (is_type_of (type_of_all vs) (permitted_types n)) _ h in
          let b = and_both (is_amount (is_listed_property n) vs) _ a.1 in
          typed_stands ed k n eg es (type_of_all vs) a.0 vs b.0 (as_chosen k n (type_of_all vs) vs eg es b.1)
