-- Laws of what specs/Parameters.antt defines.
--     Sought          the invariant of the loop over the children;   `search sought`
--     geo_at, status_at    GEO and REQUEST-STATUS by their numbers
use Rattle.std.specs.Prelude.{◌≡◌, Bool, true, false, not, List, [], ◌∷◌, ◌++◌, map, ℕ, suc, leb, length, Some}
use Rattle.std.proofs.Math.Path.{refl, sym, ap}
use Rattle.std.proofs.Common.{◌∙◌, rules}
use native.Mathlib.Omega.{arith}
use Rattle.std.proofs.Math.Dec.{eqb, ltb}
use borrow.Author.Tests.{ne_eqb, le-leb, lt-leb, ltb-true, ltb-false}
use Rattle.octets.specs.Ascii.{ascii}
use Rattle.octets.specs.Pick.{pick, ◌or◌}
use Rattle.octets.specs.laws.Pick.{or-false}
use Rattle.octets.specs.Class.{lower}
use Rattle.octets.specs.Words.{same, is_one_of}
use Rattle.octets.specs.Computing.{octets_compute}
use Rattle.names.specs.Table.{place_of, names_in}
use Rattle.names.specs.laws.Table.{by_table, one_of_place}
use Rattle.names.specs.laws.Places.{same_place}
use Rattle.schema.specs.Types.{type_name, value_types}
use Rattle.schema.specs.Properties.{property_names, is_listed_property}
use Rattle.schema.specs.Numbers.{type_words}
use Rattle.schema.specs.laws.Numbers.{type_words_are}
use Rattle.schema.specs.Property as property
use Rattle.xcal.specs.Layout.{Slot, slot_of}
use Rattle.xcal.specs.ValueNodes.{type_elements, geo_elements, status_elements, must, may, value_slots}
use Rattle.xcal.specs.PropertyNodes.{still_before, parameters_in}
use Rattle.xml.specs.NodesAt.{nodes_at}
use Rattle.xml.specs.laws.NodesAt.{nodes_none}
use Rattle.read_xml_nodes.specs.HeadFound.{HeadAt, NodeEnded}
use Rattle.read_xml_nodes.specs.laws.HeadFound.{head_none, head_element, head_whole, head_literal, head_referred, head_less}
use Rattle.read_xml_nodes.specs.declared.Ended.{Ended}
use Rattle.read_xml_nodes.specs.declared.Head.{Head}
use Rattle.read_xml_nodes.specs.declared.NodeKind.TheVariants.{Absent, Element, Literal, Referred}
use Rattle.write_text.specs.Children.{name_in}
use Rattle.write_text.specs.Parameters.{value_names, ParametersAt}

-- ---- the children that are the value

abbrev slot_names : List Slot → List (List ℕ)
slot_names [] = []
slot_names (s ∷ ss) = s.names ++ slot_names ss

one_of_both : (m : List ℕ) (a b : List (List ℕ)) → is_one_of m (a ++ b) ≡ (is_one_of m a or is_one_of m b)
unfolding is_one_of ◌or◌
one_of_both m [] b = refl
one_of_both m (x ∷ a) b = go (same m x) (one_of_both m a b)
  where
    go : (t : Bool) → is_one_of m (a ++ b) ≡ (is_one_of m a or is_one_of m b) → (t or is_one_of m (a ++ b)) ≡ ((t or is_one_of m a) or is_one_of m b)
    go true ih = refl
    go false ih = ih

-- a name that no slot has
before_all : (m : List ℕ) (slots : List Slot) (k : ℕ) → still_before (slot_of m slots k) ≡ not (is_one_of m (slot_names slots))
unfolding is_one_of pick ◌or◌
before_all m [] k = refl
before_all m (s ∷ ss) k = go (is_one_of m s.names) (before_all m ss (suc k)) ∙ ap not (sym (one_of_both m s.names (slot_names ss)))
  where
    go : (t : Bool) → still_before (slot_of m ss (suc k)) ≡ not (is_one_of m (slot_names ss)) →
        still_before (pick t (Some (k, s.several)) (slot_of m ss (suc k))) ≡ not (t or is_one_of m (slot_names ss))
    go true ih = refl
    go false ih = ih

by_number : (a b : Bool) (w : List ℕ) →
    slot_names (pick a (must (ascii "latitude") ∷ must (ascii "longitude") ∷ []) (pick b (must (ascii "code") ∷ must (ascii "description") ∷ may (ascii "data") ∷ [])
    (record { names = type_elements; several = is_listed_property w; required = true } ∷ [])))
    ≡ pick a geo_elements (pick b status_elements type_elements)
unfolding pick
by_number true b w = refl
by_number false true w = refl
by_number false false w = refl

module _ (w : List ℕ) {p : ℕ} (e : p ≡ place_of w property_names) where
  pub geo_at : same w (ascii "GEO") ≡ eqb p property.GEO
  unfolding octets_compute place_of
  geo_at = same_place w (ascii "GEO") property_names refl ∙ ap (λ (n : ℕ). eqb n property.GEO) (sym e)

  pub status_at : same w (ascii "REQUEST-STATUS") ≡ eqb p property.REQUEST-STATUS
  unfolding octets_compute place_of
  status_at = same_place w (ascii "REQUEST-STATUS") property_names refl ∙ ap (λ (n : ℕ). eqb n property.REQUEST-STATUS) (sym e)

  names_at : slot_names (value_slots w) ≡ value_names p
  names_at = rw (geo_at, status_at) (by_number (eqb p property.GEO) (eqb p property.REQUEST-STATUS) w)

  pub still_before_lem : (m : List ℕ) → still_before (slot_of m (value_slots w) 0) ≡ not (is_one_of m (value_names p))
  still_before_lem m = before_all m (value_slots w) 0 ∙ ap (λ (l : List (List ℕ)). not (is_one_of m l)) names_at

-- ---- `parameters`

pub record Sought (p : ℕ) (s : List ℕ) (from at : ℕ) : Type 0 where
  pub is : (w : List ℕ) → p ≡ place_of w property_names → parameters_in w (nodes_at s from) ≡ parameters_in w (nodes_at s at)

pub sought_start : (p : ℕ) (s : List ℕ) (from : ℕ) → Sought p s from from
sought_start p s from = record { is = λ w e. refl }

module _ {p : ℕ} {s : List ℕ} {from at : ℕ} {r : Head} (k : Sought p s from at) (n : HeadAt s at r) where
  pub sought_none : r.kind ≡ Absent → ParametersAt p s from (length s)
  unfolding parameters_in
  sought_none q = record { is = λ w e. k.is w e ∙ ap (parameters_in w) (head_none n q) ∙ sym (nodes_none s (length s) (omega arith)); within = omega arith }

  module _ {b : Bool} (q : r.kind ≡ Element) (h : b ≡ same (name_in s r.name r.name_end) (ascii "parameters")) where
    pub sought_here : b ≡ true → ParametersAt p s from r.inside
    unfolding parameters_in pick
    sought_here y = record { is = λ w e. k.is w e ∙ ap (parameters_in w) (head_element n q) ∙ rw (← h, y); within = n.inside_within }

    module _ {c : Bool} (y : b ≡ false) (i : c ≡ is_one_of (name_in s r.name r.name_end) (value_names p)) where
      pub sought_value : c ≡ true → ParametersAt p s from (length s)
      unfolding parameters_in pick
      sought_value z = record {
        is = λ w e. k.is w e ∙ ap (parameters_in w) (head_element n q) ∙ rw (← h, y, still_before_lem w e, ← i, z) (sym (nodes_none s (length s) (omega arith)));
        within = omega arith;
      }

      pub sought_pass : {x : Ended} → NodeEnded s at r.opens r.next x → c ≡ false → Sought p s from x.next
      unfolding parameters_in pick
      sought_pass o z = record { is = λ w e. k.is w e ∙ ap (parameters_in w) (head_whole n q o) ∙ rw (← h, y, still_before_lem w e, ← i, z) }

  pub sought_literal : r.kind ≡ Literal → Sought p s from r.next
  unfolding parameters_in
  sought_literal q = record { is = λ w e. k.is w e ∙ ap (parameters_in w) (head_literal n q) }

  pub sought_referred : r.kind ≡ Referred → Sought p s from r.next
  unfolding parameters_in
  sought_referred q = record { is = λ w e. k.is w e ∙ ap (parameters_in w) (head_referred n q) }

pub ruleset sought = (sought_start, sought_none, sought_here, sought_value, sought_pass, sought_literal, sought_referred, head_less, rules)

-- ---- the names of those children, in the code

module _ (m : List ℕ) {a : Bool} (e : a ≡ same m (ascii "latitude")) where
  pub geo_first : a ≡ true → true ≡ is_one_of m geo_elements
  unfolding is_one_of ◌or◌
  geo_first h = rw (← e, h)

  pub geo_last : a ≡ false → {b : Bool} → b ≡ same m (ascii "longitude") → b ≡ is_one_of m geo_elements
  unfolding is_one_of ◌or◌
  geo_last h {b} f = rw (← e, h, ← f) (sym (or-false b))

module _ (m : List ℕ) {a : Bool} (e : a ≡ same m (ascii "code")) where
  pub status_first : a ≡ true → true ≡ is_one_of m status_elements
  unfolding is_one_of ◌or◌
  status_first h = rw (← e, h)

  module _ (h : a ≡ false) {b : Bool} (f : b ≡ same m (ascii "description")) where
    pub status_second : b ≡ true → true ≡ is_one_of m status_elements
    unfolding is_one_of ◌or◌
    status_second k = rw (← e, h, ← f, k)

    pub status_last : b ≡ false → {c : Bool} → c ≡ same m (ascii "data") → c ≡ is_one_of m status_elements
    unfolding is_one_of ◌or◌
    status_last k {c} g = rw (← e, h, ← f, k, ← g) (sym (or-false c))

-- `unknown` stands first in the one list of types and last in the other
last_of : (m u : List ℕ) (ws : List (List ℕ)) → is_one_of m (u ∷ ws) ≡ is_one_of m (ws ++ u ∷ [])
unfolding is_one_of ◌or◌
last_of m u [] = refl
last_of m u (w ∷ ws) = go (same m u) (same m w) (last_of m u ws)
  where
    go : (a b : Bool) → (a or is_one_of m ws) ≡ is_one_of m (ws ++ u ∷ []) → (a or (b or is_one_of m ws)) ≡ (b or is_one_of m (ws ++ u ∷ []))
    go true true ih = refl
    go true false ih = ih
    go false true ih = refl
    go false false ih = ih

types_are : map (λ t. lower (type_name t)) value_types ++ ascii "unknown" ∷ [] ≡ type_words
unfolding octets_compute
types_are = refl

type_one : (m : List ℕ) → is_one_of m type_elements ≡ ltb (place_of m type_words) 15
type_one m = last_of m (ascii "unknown") (map (λ t. lower (type_name t)) value_types) ∙ ap (is_one_of m) types_are ∙ one_of_place m type_words

most : (i : ℕ) → ltb i 15 ≡ leb i 14
most i = go (ltb i 15) refl
  where
    go : (t : Bool) → ltb i 15 ≡ t → ltb i 15 ≡ leb i 14
    go true e = e ∙ sym (le-leb i 14 (omega (arith, ltb-true i 15 e)))
    go false e = e ∙ sym (lt-leb i 14 (omega (arith, ltb-false i 15 e)))

module _ {p : ℕ} (m : List ℕ) where
  pub geo_found : {r : Bool} → p ≡ property.GEO → r ≡ is_one_of m geo_elements → r ≡ is_one_of m (value_names p)
  unfolding pick
  geo_found q e = rw q e

  pub status_found : {r : Bool} → (p ≡ property.GEO → ⊥) → p ≡ property.REQUEST-STATUS → r ≡ is_one_of m status_elements → r ≡ is_one_of m (value_names p)
  unfolding pick
  status_found n q e = rw q e

  pub type_found : (p ≡ property.GEO → ⊥) → (p ≡ property.REQUEST-STATUS → ⊥) → {i : ℕ} →
      i ≡ place_of m (names_in (ascii "binary\nboolean\ncal-address\ndate\ndate-time\nduration\nfloat\ninteger\nperiod\nrecur\ntext\ntime\nuri\nutc-offset\nunknown\n")) → leb i 14 ≡ is_one_of m (value_names p)
  unfolding pick
  type_found n o {i} e = rw (ne_eqb p property.GEO n, ne_eqb p property.REQUEST-STATUS o) (sym (type_one m ∙ ap (λ (k : ℕ). ltb k 15) (sym (by_table m type_words_are e)) ∙ most i))

pub ruleset naming = (geo_first, geo_last, status_first, status_second, status_last, geo_found, status_found, type_found, rules)
