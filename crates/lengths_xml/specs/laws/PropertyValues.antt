-- The XML of a property's values, by the length of its text: a list has a value for each piece between commas.
--     values_length    the values of a property
--     word_short       a word of a closed set
--     same_all         a list whose elements are spelled as they are
use Rattle.std.specs.Prelude.{◌≡◌, refl, Bool, true, false, List, [], ◌∷◌, map, ℕ, suc, ◌+◌, ◌*◌, ◌≤◌, length, Option, None, Some, option_map}
use Rattle.std.proofs.Common.{ap, arith}
use Rattle.octets.specs.Ascii.{ascii}
use Rattle.octets.specs.Pick.{pick}
use Rattle.octets.specs.laws.Append.{length_both}
use Rattle.octets.specs.Class.{upper}
use Rattle.octets.specs.Words.{same, is_one_of, cut_at}
use Rattle.octets.specs.Reading.{provided, read_each}
use Rattle.octets.specs.laws.Reading.{provided-some, none-some}
use Rattle.octets.specs.laws.Letters.{upper-length}
use Rattle.calendar.specs.Calendar.{ical, ValueType, TEXT, Value, text}
use Rattle.schema.specs.Types.{same_type, is_type_of}
use Rattle.schema.specs.Properties.{is_listed_property, permitted_types, property_words}
use Rattle.numbers.specs.Float.{write_float}
use Rattle.numbers.specs.Geo.{read_geo}
use Rattle.texts.specs.TextList.{read_texts}
use Rattle.texts.specs.RequestStatus.{read_request_status}
use Rattle.values.specs.ReadValue.{read_value}
use Rattle.text.specs.Values.{one_value, read_listed, read_chosen, read_own, read_values}
use Rattle.xcal.specs.WriteXml.{text_element, value_xml, values_xml}
use Rattle.lengths_xml.specs.laws.Elements.{rate, text_element_length}
use Rattle.lengths_xml.specs.laws.Pieces.{weight, cut_weight, split_weight}
use Rattle.lengths_xml.specs.laws.Numbers.{geo_length}
use Rattle.lengths_xml.specs.laws.Texts.{status_length}
use Rattle.lengths_xml.specs.laws.Values.{Short, kept_length, value_length, each_length}

-- the XML of values, whose text is s, is within the bound, but that GEO's two elements have eight bytes more
abbrev pub Brief : List ℕ → List Value → Type 0
Brief s vs = length (values_xml vs) ≤ rate * suc (length s) + 8

one_length : (s : List ℕ) (o : Option Value) (vs : List Value) → ((v : Value) → o ≡ Some v → length (value_xml v) ≤ rate * suc (length s) + 8) → one_value o ≡ Some vs → Brief s vs
unfolding values_xml
one_length s None vs f h = none-some h
one_length s (Some v) vs f h = let q : v ∷ [] ≡ vs = cc in rw (← q) (omega (arith, f v refl, length_both (value_xml v) []))

geo_short : (s : List ℕ) (v : Value) → read_geo s ≡ Some v → length (value_xml v) ≤ rate * suc (length s) + 8
unfolding value_xml
geo_short s v h =
    let g = geo_length s v h in
    let a : List ℕ = write_float g.latitude in
    let o : List ℕ = write_float g.longitude in
    let both = length_both (text_element (ascii "latitude") a) (text_element (ascii "longitude") o) in
    rw g.is (omega (arith, g.short, both, text_element_length (ascii "latitude") a, text_element_length (ascii "longitude") o))

texts_length : (ps : List (List ℕ)) → length (values_xml (map text ps)) ≤ rate * weight ps
unfolding values_xml weight
texts_length [] = omega arith
texts_length (p ∷ ps) = omega (arith, length_both (value_xml (text p)) (values_xml (map text ps)), kept_length p p (omega arith), texts_length ps)

pub same_all : (l : List (List ℕ)) → map (λ (s : List ℕ). s) l ≡ l
same_all [] = refl
same_all (s ∷ l) = ap (λ (m : List (List ℕ)). s ∷ m) (same_all l)

listed_length : (t : ValueType) (s : List ℕ) (vs : List Value) → read_listed t s ≡ Some vs → Brief s vs
unfolding pick
listed_length t s vs h = go (same_type t TEXT) h
  where
    texts : (o : Option (List (List ℕ))) → read_texts s ≡ o → option_map (map text) o ≡ Some vs → Brief s vs
    texts None e k = none-some k
    texts (Some ps) e k = let q : map text ps ≡ vs = cc in rw (← q) (omega (arith, texts_length ps, split_weight 44 s ps e))

    go : (b : Bool) → pick b (option_map (map text) (read_texts s)) (read_each (read_value ical t) (cut_at 44 s)) ≡ Some vs → Brief s vs
    go true k = texts (read_texts s) refl k
    go false k =
        let p : length (values_xml vs) ≤ rate * weight (cut_at 44 s) = rw (same_all (cut_at 44 s)) at (each_length (read_value ical t) (λ (s : List ℕ). s) (value_length t) (cut_at 44 s) vs k) in
        omega (arith, p, cut_weight 44 s)

-- a word of a closed set
pub word_short : (ws : List (List ℕ)) (s : List ℕ) (v : Value) → provided (is_one_of (upper s) ws) (text (upper s)) ≡ Some v → Short s v
word_short ws s v h = rw (← (provided-some (is_one_of (upper s) ws) (text (upper s)) v h).1) (kept_length s (upper s) (omega (arith, upper-length s)))

chosen_short : (o : Option (List (List ℕ))) (t : ValueType) (s : List ℕ) (v : Value) → read_chosen o t s ≡ Some v → Short s v
chosen_short None t s v h = value_length t s v h
chosen_short (Some ws) t s v h = word_short ws s v h

own_length : (k n : List ℕ) (t : ValueType) (s : List ℕ) (vs : List Value) → read_own k n t s ≡ Some vs → Brief s vs
unfolding pick
own_length k n t s vs h = go (same n (ascii "GEO")) (same n (ascii "REQUEST-STATUS")) (is_listed_property n) h
  where
    go : (a b c : Bool) → pick a (one_value (read_geo s)) (pick b (one_value (read_request_status s)) (pick c (read_listed t s) (one_value (read_chosen (property_words k n) t s)))) ≡ Some vs → Brief s vs
    go true b c h = one_length s (read_geo s) vs (geo_short s) h
    go false true c h = one_length s (read_request_status s) vs (λ v e. omega (arith, status_length s v e)) h
    go false false true h = listed_length t s vs h
    go false false false h = one_length s (read_chosen (property_words k n) t s) vs (λ v e. omega (arith, chosen_short (property_words k n) t s v e)) h

pub values_length : (k n : List ℕ) (t : ValueType) (s : List ℕ) (vs : List Value) → read_values k n t s ≡ Some vs → Brief s vs
unfolding read_values pick
values_length k n t s vs h = go (is_type_of t (permitted_types n)) h
  where
    go : (b : Bool) → pick b (read_own k n t s) None ≡ Some vs → Brief s vs
    go true h = own_length k n t s vs h
    go false h = none-some h
