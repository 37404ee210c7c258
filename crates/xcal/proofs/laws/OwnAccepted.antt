-- The values of a property read from elements that are not refused; GEO and REQUEST-STATUS have children of their own.
--     values_accepted    they are the property's, of the type of its elements, and clean
use Rattle.std.specs.Prelude.{◌≡◌, Bool, not, ℕ, Option, None, Some}
use Rattle.std.proofs.Math.Path.{refl}
use Rattle.std.proofs.Common.{sym, ap, subst, ◌∙◌}
use Rattle.std.proofs.Math.Bool.{true, false}
use Rattle.std.proofs.lemmas.Bool.{false≢true}
use mathlib.Core.List.{List, [], ◌∷◌}
use Rattle.octets.specs.Ascii.{ascii}
use Rattle.octets.specs.Pick.{pick, ◌and◌, ◌or◌}
use Rattle.octets.specs.laws.Pick.{and_both, and_yes}
use Rattle.octets.specs.Class.{is_space}
use Rattle.octets.specs.Words.{same, is_one_of}
use Rattle.octets.specs.laws.Words.{same_true}
use Rattle.octets.specs.Lists.{every, any_one}
use Rattle.octets.specs.laws.Lists.{every_weaker, every_both}
use Rattle.octets.specs.Reading.{is_read, read_or}
use Rattle.octets.specs.laws.Reading.{read_some}
use Rattle.octets.specs.Computing.{octets_compute}
use Rattle.calendar.specs.Calendar.{ValueType, Value}
use Rattle.calendar.specs.Refusal.{FRAME, fine}
use Rattle.calendar.specs.laws.Refusal.{refused_not}
use Rattle.schema.specs.Types.{is_type_of}
use Rattle.schema.specs.Properties.{permitted_types, is_listed_property, property_words}
use Rattle.schema.specs.Computing.{schema_compute}
use Rattle.numbers.specs.Float.{is_normal, read_float}
use Rattle.numbers.specs.laws.FloatLaws.{float_accepted}
use Rattle.values.specs.WriteValue.{type_of_all}
use Rattle.values.specs.Valid.{is_amount, is_chosen, is_property_value, are_values_of, are_property_values}
use Rattle.xml.specs.Reads.{is_name}
use Rattle.xml.specs.Nodes.{Nodes, no_nodes, element, literal, referred, characters_of}
use Rattle.edition.specs.declared.Edition.{Edition}
use Rattle.xcal.specs.Layout.{Slot, slot_of, lacks, sequence}
use Rattle.xcal.specs.ValueNodes.{value_verdict, child_named, text_of, zero', float_of, type_of_nodes, typed_values, read_value_nodes}
use Rattle.xcal.specs.ParameterNodes.{parameters_verdict}
use Rattle.xcal.specs.PropertyNodes.{property_slots, child_verdict}
use Rattle.xcal.proofs.laws.Chosen.{chosen_typed}
use Rattle.xcal.proofs.laws.PropertyValues.{of_text}
use Rattle.xcal.proofs.laws.SoundContent.{is_clean}
use Rattle.xcal.proofs.laws.CleanValues.{is_clean_value, is_clean_data, status_clean}
use Rattle.xcal.proofs.laws.Accepted.{all_children, comes, test_fine, admitted-fine, leaf_accepted, sequence_each, sequence-comes, comes_named, child_good}
use Rattle.xcal.proofs.laws.PeriodAccepted.{read_passes}
use Rattle.xcal.proofs.laws.ValuesAccepted.{is_clean_content, clean_leaf, empty_clean}
use Rattle.xcal.proofs.laws.GoodNodes.{is_good}
use Rattle.xcal.proofs.laws.TypedAccepted.{typed_values_accepted}

-- what is known of the values that the children of the property n state
pub record Given (k n : List ℕ) (kids : Nodes) : Type 0 where
  pub values : are_property_values k n (read_value_nodes n kids) ≡ true
  pub type : type_of_all (read_value_nodes n kids) ≡ type_of_nodes n kids
  pub clean : every is_clean_value (read_value_nodes n kids) ≡ true

-- ---- GEO

abbrev is_float_child : List ℕ → Nodes → Bool
is_float_child m kids = pick (same m (ascii "parameters")) true (is_read (read_float (characters_of kids)))

geo_filled : (seen : List (List ℕ)) → lacks (property_slots (ascii "GEO")) seen ≡ false → (is_one_of (ascii "latitude") seen ≡ true) × (is_one_of (ascii "longitude") seen ≡ true)
unfolding lacks same pick any_one ◌and◌ ◌or◌
geo_filled seen h = go (is_one_of (ascii "latitude") seen) (is_one_of (ascii "longitude") seen) h
  where
    go : (a b : Bool) → (not (a or false) or (not (b or false) or false)) ≡ false → (a ≡ true) × (b ≡ true)
    go true true k = (refl, refl)
    go true false k = absurd (false≢true (sym k))
    go false b k = absurd (false≢true (sym k))

-- ---- REQUEST-STATUS

abbrev is_clean_child : List ℕ → Nodes → Bool
is_clean_child m kids = pick (same m (ascii "parameters")) true (is_clean (characters_of kids))

data_clean : (n : List ℕ) (kids : Nodes) → same n (ascii "parameters") ≡ false → all_children is_clean_child kids ≡ true → is_clean_data (child_named n kids) ≡ true
unfolding pick
data_clean n kids o h = go (child_named n kids) refl
  where
    go : (w : Option (List ℕ)) → child_named n kids ≡ w → is_clean_data w ≡ true
    go None e = refl
    go (Some s) e = let b = child_good n is_clean_child kids s h e in ap is_clean (sym b.1) ∙ (rw o at b.2)

text_clean : (n : List ℕ) (kids : Nodes) → same n (ascii "parameters") ≡ false → all_children is_clean_child kids ≡ true → is_clean (text_of n kids) ≡ true
unfolding read_or
text_clean n kids o h = go (child_named n kids) (data_clean n kids o h)
  where
    go : (w : Option (List ℕ)) → is_clean_data w ≡ true → is_clean (read_or [] w) ≡ true
    go None e = empty_clean
    go (Some s) e = e

module _ (ed : Edition) where
  geo_child : (k : List ℕ) (t : ValueType) (p : ℕ) (m : List ℕ) (x : ℕ) (kids : Nodes) → child_verdict ed k (ascii "GEO") t p m x kids ≡ fine → is_float_child m kids ≡ true
  unfolding octets_compute value_verdict
  geo_child k t p m x kids h = go (same m (ascii "parameters")) h
    where
      go : (b : Bool) → pick b (parameters_verdict ed (ascii "GEO") t kids []) (value_verdict k (ascii "GEO") t p m x kids) ≡ fine → pick b true (is_read (read_float (characters_of kids))) ≡ true
      go true h = refl
      go false h = (leaf_accepted (λ s. is_read (read_float s)) p kids h).0

  module _ (k : List ℕ) (t : ValueType) (kids : Nodes) (x : ℕ) (h : sequence (property_slots (ascii "GEO")) (child_verdict ed k (ascii "GEO") t) kids 0 [] x ≡ fine) where
    floats : all_children is_float_child kids ≡ true
    floats = sequence_each (property_slots (ascii "GEO")) (child_verdict ed k (ascii "GEO") t) is_float_child (geo_child k t) kids 0 [] x h

    float_good : (n : List ℕ) → same n (ascii "parameters") ≡ false → is_one_of n (comes kids []) ≡ true → is_normal (float_of n kids) ≡ true
    unfolding is_one_of ◌or◌ pick read_or
    float_good n o c =
        let a = read_some (child_named n kids) (sym (comes_named n kids []) ∙ c) in
        let b = child_good n is_float_child kids a.0 floats a.1 in
        rw a.1 (read_passes zero' (read_float a.0) is_normal (ap (λ (s : List ℕ). is_read (read_float s)) (sym b.1) ∙ (rw o at b.2)) (λ d e. float_accepted a.0 d e))

    geo_given : Given k (ascii "GEO") kids
    unfolding schema_compute read_value_nodes are_values_of type_of_nodes
    geo_given =
        let f = geo_filled (comes kids []) (sequence-comes (property_slots (ascii "GEO")) (child_verdict ed k (ascii "GEO") t) kids 0 [] x h) in
        record {
          values = rw (float_good (ascii "latitude") refl f.0, float_good (ascii "longitude") refl f.1);
          type = refl;
          clean = refl;
        }

  status_child : (k : List ℕ) (t : ValueType) (p : ℕ) (m : List ℕ) (x : ℕ) (kids : Nodes) → is_clean_content kids ≡ true → child_verdict ed k (ascii "REQUEST-STATUS") t p m x kids ≡ fine → is_clean_child m kids ≡ true
  unfolding octets_compute value_verdict
  status_child k t p m x kids c h = go (same m (ascii "parameters")) h
    where
      go : (b : Bool) → pick b (parameters_verdict ed (ascii "REQUEST-STATUS") t kids []) (value_verdict k (ascii "REQUEST-STATUS") t p m x kids) ≡ fine → pick b true (is_clean (characters_of kids)) ≡ true
      go true h = refl
      go false h = clean_leaf kids (leaf_accepted (λ s. true) p kids h).1 c

  -- the same of every child
  all_clean : (slots : List Slot) (k : List ℕ) (t : ValueType) (kids : Nodes) (next : ℕ) (seen : List (List ℕ)) (x : ℕ) → is_good kids ≡ true →
      sequence slots (child_verdict ed k (ascii "REQUEST-STATUS") t) kids next seen x ≡ fine → all_children is_clean_child kids ≡ true
  unfolding sequence all_children is_good
  all_clean slots k t no_nodes next seen x g h = refl
  all_clean slots k t (literal p b more) next seen x g h = all_clean slots k t more next seen x g (test_fine (is_space b) _ FRAME p h).1
  all_clean slots k t (referred p bs more) next seen x g h = refused_not FRAME p h
  all_clean slots k t (element p m y kids more) next seen x g h =
      let a = admitted-fine (slot_of m slots 0) next p m (child_verdict ed k (ascii "REQUEST-STATUS") t p m y kids) _ h in
      let b = and_both (is_name m) _ g in
      let c = and_both (is_clean_content kids) _ b.1 in
      let d = and_both (is_good kids) _ c.1 in
      and_yes _ _ (status_child k t p m y kids c.0 a.3) (all_clean slots k t more _ (m ∷ seen) x d.1 a.4)

  status_given : (k : List ℕ) (t : ValueType) (kids : Nodes) (x : ℕ) → is_good kids ≡ true → sequence (property_slots (ascii "REQUEST-STATUS")) (child_verdict ed k (ascii "REQUEST-STATUS") t) kids 0 [] x ≡ fine →
      Given k (ascii "REQUEST-STATUS") kids
  unfolding schema_compute read_value_nodes are_values_of type_of_nodes
  status_given k t kids x g h =
      let c = all_clean (property_slots (ascii "REQUEST-STATUS")) k t kids 0 [] x g h in
      record {
        values = refl;
        type = refl;
        clean = and_yes _ _ (status_clean (text_of (ascii "code") kids) (text_of (ascii "description") kids) (child_named (ascii "data") kids) (text_clean (ascii "code") kids refl c) (text_clean (ascii "description") kids refl c) (data_clean (ascii "data") kids refl c)) refl;
      }

  -- ---- values that are spelled as their type says

  module _ (k n : List ℕ) (g : same n (ascii "GEO") ≡ false) (s : same n (ascii "REQUEST-STATUS") ≡ false) where
    stated : (kids : Nodes) → read_value_nodes n kids ≡ typed_values kids
    unfolding read_value_nodes pick
    stated kids = rw (g, s)

    all_property : (t : ValueType) (vs : List Value) → every (is_chosen (property_words k n) t) vs ≡ true → every (is_property_value k n t) vs ≡ true
    unfolding pick ◌or◌
    all_property t vs h = every_weaker (is_chosen (property_words k n) t) (is_property_value k n t) (λ v e. rw (g, s) e) vs h

    first_type_lem : (t : ValueType) (l : Bool) (vs : List Value) → is_type_of t (permitted_types n) ≡ true → is_amount l vs ≡ true → every (is_chosen (property_words k n) t) vs ≡ true → type_of_all vs ≡ t
    first_type_lem t l [] p a h = absurd (false≢true a)
    first_type_lem t l (v ∷ vs) p a h = (chosen_typed (property_words k n) t v (of_text k n t p) (every_both _ v vs h).0).0

    typed_given : (kids : Nodes) (x : ℕ) → is_good kids ≡ true → sequence (property_slots n) (child_verdict ed k n (type_of_nodes n kids)) kids 0 [] x ≡ fine → Given k n kids
    unfolding are_values_of pick
    typed_given kids x c h =
        let t = type_of_nodes n kids in
        let r = typed_values_accepted ed k n g s t (is_listed_property n) kids x c (rw (g, s) at h) in
        let z = first_type_lem t (is_listed_property n) (typed_values kids) r.2 r.0 r.1 in
        record {
          values = rw (stated kids, z) (and_yes _ _ r.2 (and_yes _ _ r.0 (all_property t (typed_values kids) r.1)));
          type = rw (stated kids) z;
          clean = rw (stated kids) r.3;
        }

  pub values_accepted : (k n : List ℕ) (kids : Nodes) (x : ℕ) → is_good kids ≡ true → sequence (property_slots n) (child_verdict ed k n (type_of_nodes n kids)) kids 0 [] x ≡ fine → Given k n kids
  values_accepted k n kids x c h = go (same n (ascii "GEO")) refl (same n (ascii "REQUEST-STATUS")) refl
    where
      go : (g : Bool) → same n (ascii "GEO") ≡ g → (s : Bool) → same n (ascii "REQUEST-STATUS") ≡ s → Given k n kids
      go true g s e =
          let z : n ≡ ascii "GEO" = same_true _ _ g in
          subst (λ (m : List ℕ). Given k m kids) (sym z)
          (geo_given k (type_of_nodes (ascii "GEO") kids) kids x (subst (λ (m : List ℕ). sequence (property_slots m) (child_verdict ed k m (type_of_nodes m kids)) kids 0 [] x ≡ fine) z h))
      go false g true e =
          let z : n ≡ ascii "REQUEST-STATUS" = same_true _ _ e in
          subst (λ (m : List ℕ). Given k m kids) (sym z)
          (status_given k (type_of_nodes (ascii "REQUEST-STATUS") kids) kids x c (subst (λ (m : List ℕ). sequence (property_slots m) (child_verdict ed k m (type_of_nodes m kids)) kids 0 [] x ≡ fine) z h))
      go false g false e = typed_given k n g e kids x c h
