-- The one table of properties answers what the lists in the schema's order answer (specs/laws/Lists.antt), for every name, recognised or not, and every component and list.
--     table_same       default type, types, whether listed, parameters, components, and how often by each list
--     Same             what it says of a name
use Rattle.std.specs.Prelude.{◌≡◌, refl, Bool, true, false, List, [], ◌∷◌, map, ℕ, ◌<◌, eqb}
use Rattle.std.proofs.Common.{sym, ap, ◌∙◌, eqb-true}
use Rattle.std.proofs.lemmas.Bool.{false≢true}
use Rattle.octets.specs.Ascii.{ascii}
use Rattle.octets.specs.Pick.{pick, ◌and◌}
use Rattle.octets.specs.laws.Pick.{and_both}
use Rattle.octets.specs.Words.{same, is_one_of, row_of}
use Rattle.octets.specs.laws.Tables.{row_none, row_any_passes}
use Rattle.octets.specs.Lists.{every}
use Rattle.octets.specs.laws.Lists.{word_passes}
use Rattle.octets.specs.Reading.{read_or}
use Rattle.octets.specs.Computing.{octets_compute}
use Rattle.calendar.specs.Calendar.{ValueType, DURATION}
use Rattle.schema.specs.Types.{same_type}
use Rattle.schema.specs.laws.Types.{same_type_true}
use Rattle.schema.specs.Parameters.{is_known_parameter}
use Rattle.schema.specs.Properties.{PropertyRow, property_names, property_row, is_known_property, default_type, permitted_types, is_listed_property, permits_parameter}
use Rattle.schema.specs.Components.{Occurrence, component_names, list_in, may_stand}
use Rattle.schema.specs.Counts.{absent, occurrence_in}
use Rattle.schema.specs.Arrays.{each_from}
use Rattle.schema.specs.Computing.{schema_compute}
use Rattle.schema.specs.laws.Rows.{unrecognised_property_lem, list_names_known}
use Rattle.schema.specs.laws.Cells.{at_passes, below_passes}
use Rattle.schema.specs.laws.Columns.{even, even_is, stand_outside, stand_unknown}
use Rattle.schema.specs.laws.Unknown.{unknown_stands}
use Rattle.schema.specs.laws.Completing.{even_most, most_is}
use Rattle.schema.specs.laws.Sets.{same_words, words_are}
use Rattle.schema.specs.laws.Lists.{ListedRow, unlisted, names_listed, row_listed, listed_rows, ListRow, component_lists, free_list, stands_listed, occurrence_lists, list_listed}

-- what the lists say of a parameter: unrecognised ones stand anywhere; RELATED exactly with DURATION
unfoldable pub permits_listed : List ℕ → ValueType → List ℕ → Bool
permits_listed w t q =
    pick (is_known_parameter q and is_one_of w names_listed)
    (is_one_of q (row_listed w).parameters and pick (same q (ascii "RELATED")) (same_type t DURATION) true)
    true

pub record Same (w : List ℕ) : Type 0 where
  pub known : is_known_property w ≡ is_one_of w names_listed
  pub default : default_type w ≡ (row_listed w).default
  pub types : permitted_types w ≡ (row_listed w).default ∷ (row_listed w).others
  pub listed : is_listed_property w ≡ (row_listed w).listed
  pub parameters : (t : ValueType) (q : List ℕ) → permits_parameter w t q ≡ permits_listed w t q
  pub stands : (c : List ℕ) → may_stand c w ≡ stands_listed c w
  pub least : (l : ℕ) → l < 11 → (occurrence_in (list_in l) w).least ≡ (occurrence_in (list_listed l) w).least
  pub most : (l : ℕ) → l < 11 → (occurrence_in (list_in l) w).most ≡ (occurrence_in (list_listed l) w).most

-- ---- tests, and what they say

same_types : List ValueType → List ValueType → Bool
same_types [] [] = true
same_types [] (u ∷ us) = false
same_types (t ∷ ts) [] = false
same_types (t ∷ ts) (u ∷ us) = same_type t u and same_types ts us

types_are : (ts us : List ValueType) → same_types ts us ≡ true → ts ≡ us
unfolding same_types
types_are [] [] h = refl
types_are [] (u ∷ us) h = absurd (false≢true h)
types_are (t ∷ ts) [] h = absurd (false≢true h)
types_are (t ∷ ts) (u ∷ us) h =
    let a = and_both (same_type t u) (same_types ts us) h in
    rw (same_type_true t u a.0, types_are ts us a.1)

test_row : PropertyRow → ListedRow → Bool
test_row r o = same_type r.default o.default and same_types r.others o.others and same_words r.parameters o.parameters and even r.listed o.listed

test_components : List ℕ → Bool
test_components w = every (λ c. even (may_stand c w) (stands_listed c w)) component_names

test_often : List ℕ → ℕ → Bool
test_often w l = eqb (occurrence_in (list_in l) w).least (occurrence_in (list_listed l) w).least and even_most (occurrence_in (list_in l) w).most (occurrence_in (list_listed l) w).most

test : List ℕ → Bool
test w = test_row (property_row w) (row_listed w) and test_components w and each_from 0 11 (test_often w)

table_test : every test property_names ≡ true
unfolding schema_compute row_listed stands_listed even even_most same_types same_words test_row test_components test_often test
table_test = refl

-- ---- names

known_same : (w : List ℕ) → is_known_property w ≡ is_one_of w names_listed
unfolding is_known_property octets_compute
known_same w = go (is_one_of w property_names) refl (is_one_of w names_listed) refl
  where
    go : (a : Bool) → is_one_of w property_names ≡ a → (b : Bool) → is_one_of w names_listed ≡ b → a ≡ b
    go true e true f = refl
    go false e false f = refl
    go true e false f = absurd (false≢true (sym f ∙ word_passes (λ v. is_one_of v names_listed) property_names w refl e))
    go false e true f = absurd (false≢true (sym e ∙ word_passes (λ v. is_one_of v property_names) names_listed w refl f))

unlisted_row : (w : List ℕ) → is_one_of w names_listed ≡ false → row_listed w ≡ unlisted
unfolding row_listed read_or
unlisted_row w u = rw (row_none (λ r. r.name) w listed_rows u)

-- a word that fails what all of vs pass is none of vs
apart : (p : List ℕ → Bool) (w : List ℕ) (vs : List (List ℕ)) → every p vs ≡ true → p w ≡ false → is_one_of w vs ≡ false
apart p w vs a u = go (is_one_of w vs) refl
  where
    go : (b : Bool) → is_one_of w vs ≡ b → b ≡ false
    go true e = absurd (false≢true (sym u ∙ word_passes p vs w a e))
    go false e = refl

parameters_same : (w : List ℕ) → (property_row w).parameters ≡ (row_listed w).parameters → (t : ValueType) (q : List ℕ) → permits_parameter w t q ≡ permits_listed w t q
unfolding permits_parameter permits_listed
parameters_same w e t q = rw (known_same w, e)

-- ---- components

names_of : ListRow → List (List ℕ)
names_of r = map (λ o. o.property) r.occurrences

outside_listed : (c w : List ℕ) → is_one_of c component_names ≡ false → stands_listed c w ≡ is_one_of w names_listed
unfolding stands_listed read_or octets_compute
outside_listed c w u = rw (row_none (λ r. r.name) c component_lists (apart (λ v. is_one_of v component_names) c (map (λ r. r.name) component_lists) refl u))

stands_same : (w : List ℕ) → test_components w ≡ true → (c : List ℕ) → may_stand c w ≡ stands_listed c w
unfolding test_components
stands_same w h c = go (is_one_of c component_names) refl
  where
    go : (b : Bool) → is_one_of c component_names ≡ b → may_stand c w ≡ stands_listed c w
    go true e = even_is _ _ (word_passes (λ c. even (may_stand c w) (stands_listed c w)) component_names c h e)
    go false e = stand_outside c w e ∙ unknown_stands w ∙ known_same w ∙ sym (outside_listed c w e)

unlisted_stands : (c w : List ℕ) → is_known_property w ≡ false → stands_listed c w ≡ false
unfolding stands_listed octets_compute names_of is_known_property
unlisted_stands c w u =
    apart is_known_property w (names_of (read_or free_list (row_of (λ r. r.name) c component_lists)))
    (row_any_passes (λ r. r.name) c (λ r. every is_known_property (names_of r)) free_list component_lists refl refl) u

-- ---- lists

absent_in : (os : List Occurrence) (w : List ℕ) → every is_known_property (map (λ o. o.property) os) ≡ true → is_known_property w ≡ false → occurrence_in os w ≡ absent w
unfolding read_or
absent_in os w a u = rw (row_none (λ o. o.property) w os (apart is_known_property w (map (λ o. o.property) os) a u))

listed_known : (l : ℕ) → every is_known_property (map (λ o. o.property) (list_listed l)) ≡ true
unfolding octets_compute is_known_property
listed_known l = at_passes (λ os. every is_known_property (map (λ o. o.property) os)) [] occurrence_lists l refl refl

-- ---- the theorem

known_row : (w : List ℕ) → test w ≡ true → Same w
unfolding test test_row test_often
known_row w h =
    let a = and_both (test_row (property_row w) (row_listed w)) (test_components w and each_from 0 11 (test_often w)) h in
    let b = and_both (same_type (property_row w).default (row_listed w).default) _ a.0 in
    let d = and_both (same_types (property_row w).others (row_listed w).others) _ b.1 in
    let e = and_both (same_words (property_row w).parameters (row_listed w).parameters) _ d.1 in
    let s = and_both (test_components w) _ a.1 in
    let f = same_type_true _ _ b.0 in
    record {
      known = known_same w;
      default = f;
      types = rw (f, types_are _ _ d.0);
      listed = even_is _ _ e.1;
      parameters = parameters_same w (words_are _ _ e.0);
      stands = stands_same w s.0;
      least = λ l k. eqb-true _ _ (and_both _ _ (below_passes (test_often w) 11 l s.1 k)).0;
      most = λ l k. most_is _ _ (and_both _ _ (below_passes (test_often w) 11 l s.1 k)).1;
    }

unknown_row : (w : List ℕ) → is_known_property w ≡ false → Same w
unfolding is_known_property
unknown_row w u =
    let p = unrecognised_property_lem w u in
    let q = unlisted_row w (sym (known_same w) ∙ u) in
    record {
      known = known_same w;
      default = ap (λ (r : PropertyRow). r.default) p ∙ sym (ap (λ (r : ListedRow). r.default) q);
      types = ap (λ (r : PropertyRow). r.default ∷ r.others) p ∙ sym (ap (λ (r : ListedRow). r.default ∷ r.others) q);
      listed = ap (λ (r : PropertyRow). r.listed) p ∙ sym (ap (λ (r : ListedRow). r.listed) q);
      parameters = parameters_same w (ap (λ (r : PropertyRow). r.parameters) p ∙ sym (ap (λ (r : ListedRow). r.parameters) q));
      stands = λ c. stand_unknown c w u ∙ sym (unlisted_stands c w u);
      least = λ l k. ap (λ (o : Occurrence). o.least) (absent_in (list_in l) w (list_names_known l) u ∙ sym (absent_in (list_listed l) w (listed_known l) u));
      most = λ l k. ap (λ (o : Occurrence). o.most) (absent_in (list_in l) w (list_names_known l) u ∙ sym (absent_in (list_listed l) w (listed_known l) u));
    }

pub table_same : (w : List ℕ) → Same w
unfolding is_known_property
table_same w = go (is_known_property w) refl
  where
    go : (b : Bool) → is_known_property w ≡ b → Same w
    go true e = known_row w (word_passes test property_names w table_test e)
    go false e = unknown_row w e
