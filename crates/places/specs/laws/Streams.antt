-- A jCal text is refused at a place within it, or at its end.
--     InsideJson, InsideElements, InsideMembers    every place in a value, in elements, in members is at most n
--     value_inside         the value of a text
--     components_within    the verdict on components
--     jcal_place           a refusal's place is at most the text's length;   jcal_place_small: and at most the input limit
use Rattle.std.specs.Prelude.{◌≡◌, Bool, leb, eqb, length, drop, Option, None, Some}
use Rattle.std.proofs.Math.Path.{refl}
use Rattle.std.proofs.Math.Bool.{true, false}
use mathlib.Core.List.{List, [], ◌∷◌}
use Prim.Native.Nat.{ℕ, zero, suc, ◌+◌, ◌-◌, ◌≤◌, ◌<◌}
use native.Mathlib.Omega.{arith}
use borrow.Author.Tests.{leb-true}
use Rattle.octets.specs.Pick.{pick}
use Rattle.octets.specs.laws.Pick.{pick_either}
use Rattle.octets.specs.Scan.{span_len}
use Rattle.octets.specs.Class.{is_small}
use Rattle.octets.specs.Reading.{and_then, read_or}
use Rattle.calendar.specs.Refusal.{LENGTH, FRAME, COUNT, JSON, Refusal, Verdict, fine, refuse, ◌otherwise◌, characters, limit}
use Rattle.calendar.specs.Levels.{levels}
use Rattle.schema.specs.Components.{may_contain}
use Rattle.utf8.specs.Utf8.{first_bad}
use Rattle.edition.specs.declared.Edition.{Edition}
use Rattle.json_text.specs.Bytes.{most_open, begin_array, begin_object, quotation_mark}
use Rattle.json_text.specs.Strings.{quoted_length}
use Rattle.json_text.specs.Check.{verdict}
use Rattle.json_text.specs.Tree.{Json, string, number, literal, array, object, Elements, no_elements, element, Members, no_members, member, place_of, Token, opens_array, opens_object, closes, name, scalar, is_closing, is_separator, is_scalar, string_token, word_token, tokens_by, scan, end_by, end_place, first_of, elements_by, members_by, elements, members, value_of, element_list}
use Rattle.json_text.specs.Kinds.{as_array, nth, first_in}
use Rattle.json_grammar.specs.Faults.{Stops, by_byte, by_escape, by_end}
use Rattle.json_grammar.proofs.laws.Places.{place_stops}
use Rattle.validity.specs.ValidCalendar.{at_top}
use Rattle.jcal.specs.Property.{property_fault}
use Rattle.jcal.specs.Components.{at, property_verdict, properties_verdict, component_name, property_arrays, component_fault, method_inside, is_complete, components_verdict, component_verdict, inner_verdict, array_verdict, stream_in, is_stream, calendars_in}
use Rattle.jcal.specs.ReadJcal.{json, jcal_verdict}
use Rattle.places.specs.laws.Bounds.{Within, within_fine, within_refuse, within_pick, within_otherwise}
use Rattle.places.specs.laws.Documents.{characters_within}

unfoldable mutual
  InsideJson : Json → ℕ → Type 0
  InsideJson (string p s) n = p ≤ n
  InsideJson (number p s) n = p ≤ n
  InsideJson (literal p s) n = p ≤ n
  InsideJson (array p e vs) n = (p ≤ n) × (e ≤ n) × InsideElements vs n
  InsideJson (object p e ms) n = (p ≤ n) × (e ≤ n) × InsideMembers ms n

  InsideElements : Elements → ℕ → Type 0
  InsideElements no_elements n = Unit {0}
  InsideElements (element v vs) n = InsideJson v n × InsideElements vs n

  InsideMembers : Members → ℕ → Type 0
  InsideMembers no_members n = Unit {0}
  InsideMembers (member w v ms) n = InsideJson v n × InsideMembers ms n

-- ---- tokens

abbrev InsideToken : ℕ → Token → Type 0
InsideToken n (opens_array p) = p ≤ n
InsideToken n (opens_object p) = p ≤ n
InsideToken n (closes p) = p ≤ n
InsideToken n (name p w) = p ≤ n
InsideToken n (scalar v) = InsideJson v n

abbrev InsideTokens : ℕ → List Token → Type 0
InsideTokens n [] = Unit {0}
InsideTokens n (t ∷ ts) = InsideToken n t × InsideTokens n ts

module _ (n : ℕ) where
  string_inside : (p : ℕ) (s : List ℕ) → p ≤ n → InsideToken n (string_token p s)
  unfolding InsideJson
  string_inside p s h = pick_either (InsideToken n) _ _ _ h h

  word_inside : (p b : ℕ) (s : List ℕ) → p ≤ n → InsideToken n (word_token p b s)
  unfolding InsideJson
  word_inside p b s h = pick_either (InsideToken n) _ _ _ h h

  by_inside : (b : ℕ) (s : List ℕ) (p : ℕ) (rest : ℕ → List Token) → p ≤ n → ((k : ℕ) → InsideTokens n (rest k)) → InsideTokens n (tokens_by b s p rest)
  by_inside b s p rest h f =
      pick_either (InsideTokens n) (is_separator b) _ _ (f 0)
      (pick_either (InsideTokens n) (eqb b begin_array) _ _ (h, f 0)
      (pick_either (InsideTokens n) (eqb b begin_object) _ _ (h, f 0)
      (pick_either (InsideTokens n) (is_closing b) _ _ (h, f 0)
      (pick_either (InsideTokens n) (eqb b quotation_mark) _ _ (string_inside p s h, f (quoted_length s))
      (word_inside p b s h, f (span_len is_scalar s))))))

  scan_inside : (s : List ℕ) (p k : ℕ) → p + length s ≤ n → InsideTokens n (scan s p k)
  unfolding scan
  scan_inside [] p k h = tt
  scan_inside (b ∷ s) p (suc k) h = scan_inside s (p + 1) k (omega arith)
  scan_inside (b ∷ s) p zero h = by_inside b s p (scan s (p + 1)) (omega arith) (λ k. scan_inside s (p + 1) k (omega arith))

  -- ---- the tree

  end_inside : (ts : List Token) (d : ℕ) → InsideTokens n ts → end_place ts d ≤ n
  unfolding end_place end_by
  end_inside [] d h = omega arith
  end_inside (opens_array p ∷ ts) d h = end_inside ts (suc d) h.1
  end_inside (opens_object p ∷ ts) d h = end_inside ts (suc d) h.1
  end_inside (closes p ∷ ts) zero h = h.0
  end_inside (closes p ∷ ts) (suc d) h = end_inside ts d h.1
  end_inside (name p w ∷ ts) d h = end_inside ts d h.1
  end_inside (scalar v ∷ ts) d h = end_inside ts d h.1

  first_inside : (vs : Elements) → InsideElements vs n → InsideJson (first_of vs) n
  unfolding InsideJson InsideElements
  first_inside no_elements h = omega arith
  first_inside (element v vs) h = h.0

  mutual
    unfolding elements members elements_by members_by InsideJson InsideElements InsideMembers

    elements_inside : (ts : List Token) (d : ℕ) → InsideTokens n ts → InsideElements (elements ts d) n
    elements_inside [] d h = tt
    elements_inside (opens_array p ∷ ts) zero h = ((h.0, end_inside ts 0 h.1, elements_inside ts 0 h.1), elements_inside ts 1 h.1)
    elements_inside (opens_array p ∷ ts) (suc d) h = elements_inside ts (suc (suc d)) h.1
    elements_inside (opens_object p ∷ ts) zero h = ((h.0, end_inside ts 0 h.1, members_inside ts 0 h.1), elements_inside ts 1 h.1)
    elements_inside (opens_object p ∷ ts) (suc d) h = elements_inside ts (suc (suc d)) h.1
    elements_inside (closes p ∷ ts) zero h = tt
    elements_inside (closes p ∷ ts) (suc d) h = elements_inside ts d h.1
    elements_inside (name p w ∷ ts) d h = elements_inside ts d h.1
    elements_inside (scalar v ∷ ts) zero h = (h.0, elements_inside ts 0 h.1)
    elements_inside (scalar v ∷ ts) (suc d) h = elements_inside ts (suc d) h.1

    members_inside : (ts : List Token) (d : ℕ) → InsideTokens n ts → InsideMembers (members ts d) n
    members_inside [] d h = tt
    members_inside (opens_array p ∷ ts) d h = members_inside ts (suc d) h.1
    members_inside (opens_object p ∷ ts) d h = members_inside ts (suc d) h.1
    members_inside (closes p ∷ ts) zero h = tt
    members_inside (closes p ∷ ts) (suc d) h = members_inside ts d h.1
    members_inside (name p w ∷ ts) zero h = (first_inside (elements ts 0) (elements_inside ts 0 h.1), members_inside ts 0 h.1)
    members_inside (name p w ∷ ts) (suc d) h = members_inside ts (suc d) h.1
    members_inside (scalar v ∷ ts) d h = members_inside ts d h.1

  -- ---- lists of values

  abbrev InsideList : List Json → Type 0
  InsideList [] = Unit {0}
  InsideList (v ∷ vs) = InsideJson v n × InsideList vs

  list_inside : (vs : Elements) → InsideElements vs n → InsideList (element_list vs)
  unfolding element_list InsideElements
  list_inside no_elements h = tt
  list_inside (element v vs) h = (h.0, list_inside vs h.1)

  place_inside : (v : Json) → InsideJson v n → place_of v ≤ n
  unfolding InsideJson
  place_inside (string p s) h = h
  place_inside (number p s) h = h
  place_inside (literal p s) h = h
  place_inside (array p e vs) h = h.0
  place_inside (object p e ms) h = h.0

  array_inside : (v : Json) → InsideJson v n → InsideList (read_or [] (as_array v))
  unfolding InsideJson read_or
  array_inside (string p s) h = tt
  array_inside (number p s) h = tt
  array_inside (literal p s) h = tt
  array_inside (array p e vs) h = list_inside vs h.2
  array_inside (object p e ms) h = tt

  -- element k, as an array
  nth_inside : (k : ℕ) (l : List Json) → InsideList l → InsideList (read_or [] (and_then (nth k l) as_array))
  unfolding and_then read_or
  nth_inside zero [] h = tt
  nth_inside zero (v ∷ l) h = array_inside v h.0
  nth_inside (suc k) [] h = tt
  nth_inside (suc k) (v ∷ l) h = nth_inside k l h.1

  -- ---- the verdict on properties and components

  at_within : (p : ℕ) (o : Option Refusal) → p ≤ n → Within n (at p o)
  at_within p None h = within_fine n
  at_within p (Some r) h = within_refuse n r p h

  module _ (ed : Edition) where
    property_within : (k : List ℕ) (v : Json) (o : Option (List Json)) → place_of v ≤ n → Within n (property_verdict ed k v o)
    property_within k v None h = within_refuse n FRAME (place_of v) h
    property_within k v (Some vs) h = at_within (place_of v) (property_fault ed k vs) h

    properties_within : (k : List ℕ) (l : List Json) → InsideList l → Within n (properties_verdict ed k l)
    unfolding properties_verdict
    properties_within k [] h = within_fine n
    properties_within k (v ∷ l) h = within_otherwise n _ _ (property_within k v (as_array v) (place_inside v h.0)) (properties_within k l h.1)

    mutual
      unfolding components_verdict component_verdict inner_verdict array_verdict InsideJson InsideElements

      components_within : (vs : Elements) (may : List ℕ → Bool) (left : ℕ) (m : Bool) → InsideElements vs n → Within n (components_verdict ed vs may left m)
      components_within no_elements may left m h = within_fine n
      components_within (element v vs) may left m h = within_otherwise n _ _ (component_within v may left m h.0) (components_within vs may left m h.1)

      component_within : (v : Json) (may : List ℕ → Bool) (left : ℕ) (m : Bool) → InsideJson v n → Within n (component_verdict ed v may left m)
      component_within (string p s) may left m h = within_refuse n FRAME p h
      component_within (number p s) may left m h = within_refuse n FRAME p h
      component_within (literal p s) may left m h = within_refuse n FRAME p h
      component_within (object p e ms) may left m h = within_refuse n FRAME p h.0
      component_within (array p e vs) may left m h =
          within_otherwise n _ _ (at_within p (component_fault may left (element_list vs)) h.0)
          (within_otherwise n _ _ (properties_within (component_name (element_list vs)) (read_or [] (property_arrays (element_list vs))) (nth_inside 1 (element_list vs) (list_inside vs h.2)))
          (within_otherwise n _ _ (inner_within vs 2 (may_contain (component_name (element_list vs))) (left - 1) (method_inside (element_list vs) m) h.2)
          (within_pick n (is_complete (element_list vs) m) fine (refuse COUNT e) (within_fine n) (within_refuse n COUNT e h.1))))

      inner_within : (vs : Elements) (k : ℕ) (may : List ℕ → Bool) (left : ℕ) (m : Bool) → InsideElements vs n → Within n (inner_verdict ed vs k may left m)
      inner_within no_elements k may left m h = within_fine n
      inner_within (element v vs) zero may left m h = inside_within v may left m h.0
      inner_within (element v vs) (suc k) may left m h = inner_within vs k may left m h.1

      inside_within : (v : Json) (may : List ℕ → Bool) (left : ℕ) (m : Bool) → InsideJson v n → Within n (array_verdict ed v may left m)
      inside_within (string p s) may left m h = within_fine n
      inside_within (number p s) may left m h = within_fine n
      inside_within (literal p s) may left m h = within_fine n
      inside_within (object p e ms) may left m h = within_fine n
      inside_within (array p e vs) may left m h = components_within vs may left m h.2

  stream_inside : (v : Json) → InsideJson v n → InsideElements (stream_in v) n
  unfolding InsideJson InsideElements
  stream_inside (string p s) h = tt
  stream_inside (number p s) h = tt
  stream_inside (literal p s) h = tt
  stream_inside (object p e ms) h = tt
  stream_inside (array p e vs) h = h.2

  calendars_inside : (v : Json) → InsideJson v n → InsideElements (calendars_in v) n
  unfolding calendars_in InsideElements
  calendars_inside v h = pick_either (λ vs. InsideElements vs n) (is_stream v) (stream_in v) (element v no_elements) (stream_inside v h) (h, tt)

-- ---- the text

value_inside : (s : List ℕ) → InsideJson (value_of s) (length s)
unfolding value_of
value_inside s = first_inside (length s) (elements (scan s 0 0) 0) (elements_inside (length s) (scan s 0 0) 0 (scan_inside (length s) s 0 0 (omega arith)))

stops_inside : (s : List ℕ) (k : ℕ) → Stops most_open s k → k ≤ length s
stops_inside s k (by_byte h f g) = omega (arith, h)
stops_inside s k (by_escape h f j a b g) = omega (arith, a, b)
stops_inside s k (by_end h) = omega (arith, h)

json_within : (s : List ℕ) (v : Option ℕ) → verdict most_open s ≡ v → Within (length s) (json v)
json_within s None e = within_fine (length s)
json_within s (Some k) e = within_refuse (length s) JSON k (stops_inside s k (place_stops most_open s k e))

module _ (ed : Edition) (s : List ℕ) where
  inside : Within (length s) (characters (first_bad s) otherwise json (verdict most_open s) otherwise components_verdict ed (calendars_in (value_of s)) at_top levels false)
  inside =
      within_otherwise (length s) _ _ (characters_within s (first_bad s) refl)
      (within_otherwise (length s) _ _ (json_within s (verdict most_open s) refl) (components_within (length s) ed (calendars_in (value_of s)) at_top levels false (calendars_inside (length s) (value_of s) (value_inside s))))

  within : Within (length s) (jcal_verdict ed s)
  unfolding jcal_verdict
  within = within_pick (length s) (leb (length s) limit) _ (refuse LENGTH 0) inside (within_refuse (length s) LENGTH 0 (omega arith))

  pub jcal_place : {r : Refusal} {p : ℕ} → jcal_verdict ed s ≡ refuse r p → p ≤ length s
  jcal_place {r} {p} e = within.place r p e

  small : (t : Bool) → leb (length s) limit ≡ t → (v : Verdict) → Within (length s) v → Within 65535 (pick t v (refuse LENGTH 0))
  unfolding pick
  small true h v w = record { place = λ r p e. let k = w.place r p e in omega (arith, k, leb-true (length s) 65535 h) }
  small false h v w = within_refuse 65535 LENGTH 0 (omega arith)

  pub jcal_place_small : {r : Refusal} {p : ℕ} → jcal_verdict ed s ≡ refuse r p → p ≤ 65535
  unfolding jcal_verdict
  jcal_place_small {r} {p} e = (small (leb (length s) limit) refl _ inside).place r p e
