-- What jCal is written of a calendar with a gap, in three parts: before the property in the gap, the property, after it. Commas stand in the first part and in the last.
--     Among f         of the values that f writes one is in three parts, the others are the same for every property
--     gap_jcal        the jCal of a calendar with a gap
--     array_begins    an array begins with [ and its first value, and ends with ]
use Rattle.std.specs.Prelude.{◌≡◌, refl, ℕ}
use Rattle.std.proofs.Common.{ap, ◌∙◌}
use mathlib.Core.List.{List, [], ◌∷◌, map}
use Rattle.octets.specs.Ascii.{ascii}
use Rattle.octets.specs.Append.{◌⊕◌}
use Rattle.octets.specs.laws.Append.{append_regroup}
use Rattle.octets.specs.Class.{lower}
use Rattle.octets.specs.Words.{each_after, joined_by}
use Rattle.calendar.specs.Calendar.{Property}
use Rattle.json_text.specs.Bytes.{value_separator}
use Rattle.json_text.specs.Write.{quoted, array_of}
use Rattle.jcal.specs.WriteJcal.{one_or_array, property_json, components_json, write_jcal}
use Rattle.theorems.proofs.laws.Joined.{map_both}
use Rattle.theorems.proofs.laws.Gap.{Gap, here, inside, later, filled}
use Rattle.theorems.proofs.laws.Split.{Split, split_one, split_front, split_back, split_same}

record Among (f : Property → List (List ℕ)) : Type 0 where
  front : List (List ℕ)
  item : Property → List ℕ
  back : List (List ℕ)
  split : Split property_json item
  is : (p : Property) → f p ≡ front ⊕ (item p ∷ back)

-- ---- an array

module _ {item : Property → List ℕ} (back : List (List ℕ)) (s : Split property_json item) where
  after_split : (front : List (List ℕ)) → Split property_json (λ p. each_after value_separator (front ⊕ (item p ∷ back)))
  unfolding each_after ◌⊕◌
  after_split [] = split_front (value_separator ∷ []) (split_back (each_after value_separator back) s)
  after_split (v ∷ front) = split_front (value_separator ∷ []) (split_front v (after_split front))

  joined_split : (front : List (List ℕ)) → Split property_json (λ p. joined_by value_separator (front ⊕ (item p ∷ back)))
  unfolding joined_by ◌⊕◌
  joined_split [] = split_back (each_after value_separator back) s
  joined_split (v ∷ front) = split_front v (after_split front)

  items_split : (front : List (List ℕ)) → Split property_json (λ p. array_of (front ⊕ (item p ∷ back)))
  items_split front = split_front (ascii "[") (split_back (ascii "]") (joined_split front))

array_split : {f : Property → List (List ℕ)} → Among f → Split property_json (λ p. array_of (f p))
array_split a = split_same (λ p. ap array_of (a.is p)) (items_split a.back a.split a.front)

-- one alone, or an array
some_split : {f : Property → List (List ℕ)} → Among f → Split property_json (λ p. one_or_array (f p))
unfolding ◌⊕◌
some_split a = split_same (λ p. ap one_or_array (a.is p)) (go a.front a.back a.split)
  where
    go : {item : Property → List ℕ} (front back : List (List ℕ)) → Split property_json item → Split property_json (λ p. one_or_array (front ⊕ (item p ∷ back)))
    go [] [] s = s
    go [] (w ∷ back) s = items_split (w ∷ back) s []
    go (v ∷ []) back s = items_split back s (v ∷ [])
    go (v ∷ w ∷ front) back s = items_split back s (v ∷ w ∷ front)

-- ---- components

-- a component of this name with the arrays of its properties and of its subcomponents
abbrev component_of : List ℕ → List ℕ → List ℕ → List ℕ
component_of n ps inner = array_of (quoted (lower n) ∷ ps ∷ inner ∷ [])

properties_among : (ps qs : List Property) → Among (λ p. map property_json (ps ⊕ (p ∷ qs)))
properties_among ps qs = record { front = map property_json ps; item = property_json; back = map property_json qs; split = split_one; is = λ p. map_both property_json ps (p ∷ qs) }

gap_components : (g : Gap) → Among (λ p. components_json (filled g p))
unfolding components_json filled ◌⊕◌
gap_components (here n ps qs inner next) = record {
  front = [];
  item = λ p. component_of n (array_of (map property_json (ps ⊕ (p ∷ qs)))) (array_of (components_json inner));
  back = components_json next;
  split = items_split (array_of (components_json inner) ∷ []) (array_split (properties_among ps qs)) (quoted (lower n) ∷ []);
  is = λ p. refl;
}
gap_components (inside n ps g next) = record {
  front = [];
  item = λ p. component_of n (array_of (map property_json ps)) (array_of (components_json (filled g p)));
  back = components_json next;
  split = items_split [] (array_split (gap_components g)) (quoted (lower n) ∷ array_of (map property_json ps) ∷ []);
  is = λ p. refl;
}
gap_components (later n ps inner g) =
    let a = gap_components g in record {
      front = component_of n (array_of (map property_json ps)) (array_of (components_json inner)) ∷ a.front;
      item = a.item;
      back = a.back;
      split = a.split;
      is = λ p. ap (λ (vs : List (List ℕ)). component_of n (array_of (map property_json ps)) (array_of (components_json inner)) ∷ vs) (a.is p);
    }

pub gap_jcal : (g : Gap) → Split property_json (λ p. write_jcal (filled g p))
unfolding write_jcal
gap_jcal g = some_split (gap_components g)

-- ---- the array of a property

-- of two values or more
pub array_begins : (v w : List ℕ) (vs : List (List ℕ)) → (items : List ℕ) × (array_of (v ∷ w ∷ vs) ≡ ascii "[" ⊕ v ⊕ ascii "," ⊕ items ⊕ ascii "]")
unfolding joined_by each_after ◌⊕◌
array_begins v w vs = (
  w ⊕ each_after value_separator vs,
  ap (λ (x : List ℕ). ascii "[" ⊕ x) (append_regroup v (each_after value_separator (w ∷ vs)) (ascii "]")),
)
