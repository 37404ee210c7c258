-- The jCal of a property's values, by the length of its text: a list has a value for each piece between commas.
--     values_length    the values of a property, each with a comma
--     word_short       a word of a closed set
use Rattle.std.specs.Prelude.{◌≡◌, refl, Bool, true, false, List, [], ◌∷◌, map, ℕ, suc, ◌+◌, ◌*◌, ◌≤◌, length, Option, None, Some, option_map}
use Rattle.std.proofs.Common.{arith}
use Rattle.octets.specs.Ascii.{ascii}
use Rattle.octets.specs.Pick.{pick}
use Rattle.octets.specs.Class.{upper}
use Rattle.octets.specs.laws.Letters.{upper-length}
use Rattle.octets.specs.Words.{same, is_one_of, cut_at}
use Rattle.octets.specs.Reading.{provided, read_each}
use Rattle.octets.specs.laws.Reading.{none-some, and_then-some, provided-some}
use Rattle.calendar.specs.Calendar.{ical, ValueType, TEXT, Value, text, request_status}
use Rattle.schema.specs.Types.{is_type_of, same_type}
use Rattle.schema.specs.Properties.{permitted_types, is_listed_property, property_words}
use Rattle.numbers.specs.Float.{write_float}
use Rattle.numbers.specs.Geo.{read_geo}
use Rattle.texts.specs.Text.{split_text}
use Rattle.texts.specs.TextList.{read_texts}
use Rattle.texts.specs.RequestStatus.{status_of, read_request_status}
use Rattle.values.specs.ReadValue.{read_value}
use Rattle.text.specs.Values.{one_value, read_listed, read_chosen, read_own, read_values}
use Rattle.json_text.specs.Write.{quoted}
use Rattle.jcal.specs.WriteJcal.{value_json}
use Rattle.lengths_xml.specs.laws.Elements.{rate}
use Rattle.lengths_xml.specs.laws.Pieces.{weight, cut_weight, split_weight}
use Rattle.lengths_xml.specs.laws.Numbers.{geo_length}
use Rattle.lengths_xml.specs.laws.PropertyValues.{same_all}
use Rattle.lengths_jcal.specs.laws.Strings.{quoted_length, array_length}
use Rattle.lengths_jcal.specs.laws.Values.{Short, kept_length, value_length, each_length}

-- the jCal of values, each with a comma, whose text is s, is within the bound
abbrev pub Brief : List ℕ → List Value → Type 0
Brief s vs = weight (map value_json vs) ≤ rate * suc (length s)

one_length : (s : List ℕ) (o : Option Value) (vs : List Value) → ((v : Value) → o ≡ Some v → Short s v) → one_value o ≡ Some vs → Brief s vs
unfolding weight
one_length s None vs f h = none-some h
one_length s (Some v) vs f h = let q : v ∷ [] ≡ vs = cc in rw (← q) (omega (arith, f v refl))

geo_short : (s : List ℕ) (v : Value) → read_geo s ≡ Some v → Short s v
unfolding value_json weight
geo_short s v h =
    let g = geo_length s v h in
    rw g.is (omega (arith, g.short, array_length (write_float g.latitude ∷ write_float g.longitude ∷ [])))

-- the parts of a REQUEST-STATUS
parts_length : (ps : List (List ℕ)) → weight (map quoted ps) ≤ 4 * weight ps
unfolding weight
parts_length [] = omega arith
parts_length (p ∷ ps) = omega (arith, quoted_length p, parts_length ps)

of_length : (ps : List (List ℕ)) (v : Value) → status_of ps ≡ Some v → length (value_json v) ≤ 2 + weight (map quoted ps)
unfolding value_json
of_length [] v h = none-some h
of_length (c ∷ []) v h = none-some h
of_length (c ∷ d ∷ []) v h = let q : request_status c d None ≡ v = cc in rw (← q) (array_length (quoted c ∷ quoted d ∷ []))
of_length (c ∷ d ∷ x ∷ []) v h = let q : request_status c d (Some x) ≡ v = cc in rw (← q) (array_length (quoted c ∷ quoted d ∷ quoted x ∷ []))
of_length (c ∷ d ∷ x ∷ p ∷ ps) v h = none-some h

status_short : (s : List ℕ) (v : Value) → read_request_status s ≡ Some v → Short s v
status_short s v h =
    let q = and_then-some (split_text 59 s) status_of v h in
    omega (arith, of_length q.0 v q.2, parts_length q.0, split_weight 59 s q.0 q.1)

texts_length : (ps : List (List ℕ)) → weight (map value_json (map text ps)) ≤ rate * weight ps
unfolding weight
texts_length [] = omega arith
texts_length (p ∷ ps) = omega (arith, kept_length p p (omega arith), texts_length ps)

listed_length : (t : ValueType) (s : List ℕ) (vs : List Value) → read_listed t s ≡ Some vs → Brief s vs
unfolding pick
listed_length t s vs h = go (same_type t TEXT) h
  where
    texts : (o : Option (List (List ℕ))) → read_texts s ≡ o → option_map (map text) o ≡ Some vs → Brief s vs
    texts None e k = none-some k
    texts (Some ps) e k = let q : map text ps ≡ vs = cc in rw (← q) (omega (arith, texts_length ps, split_weight 44 s ps e))

    go : (b : Bool) → pick b (option_map (map text) (read_texts s)) (read_each (read_value ical t) (cut_at 44 s)) ≡ Some vs → Brief s vs
    go true k = texts (read_texts s) refl k
    go false k =
        let p : weight (map value_json vs) ≤ rate * weight (cut_at 44 s) = rw (same_all (cut_at 44 s)) at (each_length (read_value ical t) value_json (λ (s : List ℕ). s) (value_length t) (cut_at 44 s) vs k) in
        omega (arith, p, cut_weight 44 s)

-- a word of a closed set
pub word_short : (ws : List (List ℕ)) (s : List ℕ) (v : Value) → provided (is_one_of (upper s) ws) (text (upper s)) ≡ Some v → Short s v
word_short ws s v h = rw (← (provided-some (is_one_of (upper s) ws) (text (upper s)) v h).1) (kept_length s (upper s) (omega (arith, upper-length s)))

chosen_short : (o : Option (List (List ℕ))) (t : ValueType) (s : List ℕ) (v : Value) → read_chosen o t s ≡ Some v → Short s v
chosen_short None t s v h = value_length t s v h
chosen_short (Some ws) t s v h = word_short ws s v h

own_length : (k n : List ℕ) (t : ValueType) (s : List ℕ) (vs : List Value) → read_own k n t s ≡ Some vs → Brief s vs
unfolding pick
own_length k n t s vs h = go (same n (ascii "GEO")) (same n (ascii "REQUEST-STATUS")) (is_listed_property n) h
  where
    go : (a b c : Bool) → pick a (one_value (read_geo s)) (pick b (one_value (read_request_status s)) (pick c (read_listed t s) (one_value (read_chosen (property_words k n) t s)))) ≡ Some vs → Brief s vs
    go true b c h = one_length s (read_geo s) vs (geo_short s) h
    go false true c h = one_length s (read_request_status s) vs (status_short s) h
    go false false true h = listed_length t s vs h
    go false false false h = one_length s (read_chosen (property_words k n) t s) vs (chosen_short (property_words k n) t s) h

pub values_length : (k n : List ℕ) (t : ValueType) (s : List ℕ) (vs : List Value) → read_values k n t s ≡ Some vs → Brief s vs
unfolding read_values pick
values_length k n t s vs h = go (is_type_of t (permitted_types n)) h
  where
    go : (b : Bool) → pick b (read_own k n t s) None ≡ Some vs → Brief s vs
    go true h = own_length k n t s vs h
    go false h = none-some h
