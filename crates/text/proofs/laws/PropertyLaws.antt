-- A property that is written as a content line is read back, and no fault is found in its line.
--     parameters_good_lem   the parameters of a property are good where they are written
--     property_read_back    the line of a property states that property
--     property_no_fault     and is not refused
use Rattle.std.specs.Prelude.{◌≡◌, refl, Bool, true, false, not, List, [], ◌∷◌, map, ℕ, Option, None, Some}
use Rattle.std.proofs.lemmas.Bool.{false≢true}
use Rattle.octets.specs.Ascii.{ascii}
use Rattle.octets.specs.Pick.{pick, ◌and◌}
use Rattle.octets.specs.laws.Pick.{pick_either, and_yes, and_both, or_no, or_left, or_right, or_cases}
use Rattle.octets.specs.Class.{upper}
use Rattle.octets.specs.Words.{same, is_one_of}
use Rattle.octets.specs.laws.Words.{same_self, same_true, same_swap}
use Rattle.octets.specs.Lists.{every, any_one, distinct}
use Rattle.octets.specs.laws.Lists.{every_both}
use Rattle.octets.specs.Reading.{is_read, read_or}
use Rattle.octets.specs.Computing.{octets_compute}
use Rattle.calendar.specs.Calendar.{ValueType, BINARY, Value, text_in, Parameter, Property}
use Rattle.schema.specs.Types.{same_type}
use Rattle.schema.specs.Parameters.{parameter_row, is_listed_parameter}
use Rattle.schema.specs.Properties.{permits_parameter, default_type}
use Rattle.values.specs.WriteValue.{type_of_all, write_value}
use Rattle.values.specs.Valid
use Rattle.values.specs.Valid.{is_amount, is_word_in, is_parameter, are_parameters, are_values_of, are_property_values, is_property, is_base64_encoding}
use Rattle.values.specs.laws.Valid.{only_one}
use Rattle.read_text_line.specs.ContentLine.{RawParameter}
use Rattle.text.specs.Parameters.{is_word, is_raw_base64_encoding, read_parameters, stated_type}
use Rattle.text.specs.Statement.{fault_as, property_fault, property_of}
use Rattle.text.proofs.laws.Faults.{parameters_good, good_faultless}
use Rattle.text.specs.WriteText.{param_value_of, raw_of, value_parameter, with_value, content_line_of}
use Rattle.text.proofs.laws.ParameterLaws.{parameter_name, parameter_own, own_written, parameters_read_back, own_with_value, type_read_back}
use Rattle.text.proofs.laws.ValuesLaws.{values_read_back}

-- ---- names

names_written : (ps : List Parameter) → every is_parameter ps ≡ true → map (λ (r : RawParameter). upper r.name) (map raw_of ps) ≡ map (λ (p : Parameter). p.name) ps
names_written [] h = refl
names_written (p ∷ ps) h = let e = every_both is_parameter p ps h in rw (parameter_name p e.0, names_written ps e.1)

no_value : (ps : List Parameter) → every is_parameter ps ≡ true → is_one_of (ascii "VALUE") (map (λ (p : Parameter). p.name) ps) ≡ false
unfolding is_one_of
no_value [] h = refl
no_value (p ∷ ps) h =
    let e = every_both is_parameter p ps h in
    let o : same p.name (ascii "VALUE") ≡ false = rw (parameter_name p e.0) at (parameter_own p e.0) in
    or_no _ _ (same_swap p.name (ascii "VALUE") o) (no_value ps e.1)

value_capitals : upper (ascii "VALUE") ≡ ascii "VALUE"
unfolding octets_compute
value_capitals = refl

distinct_written : (n : List ℕ) (t : ValueType) (ps : List Parameter) → every is_parameter ps ≡ true → distinct (map (λ (p : Parameter). p.name) ps) ≡ true →
    distinct (map (λ (r : RawParameter). upper r.name) (with_value n t (map raw_of ps))) ≡ true
unfolding with_value distinct pick
distinct_written n t ps h d = go (same_type t (default_type n))
  where
    go : (b : Bool) → distinct (map (λ (r : RawParameter). upper r.name) (pick b (map raw_of ps) (value_parameter t ∷ map raw_of ps))) ≡ true
    go true = rw (names_written ps h) d
    go false = rw (value_capitals, names_written ps h, no_value ps h) d

-- ---- ENCODING=BASE64

-- the one word, written, is that word in any letter case
word_written : (n w : List ℕ) (v : Value) → upper w ≡ w → is_word_in (w ∷ []) (text_in v) ≡ true → is_word w (param_value_of n v ∷ []) ≡ true
unfolding is_one_of read_or
word_written n w v c h = go (text_in v) h
  where
    go : (x : Option (List ℕ)) → is_word_in (w ∷ []) x ≡ true → (same (upper (read_or (write_value v) x)) w and true) ≡ true
    go None h = absurd (false≢true h)
    go (Some s) h =
        let e : s ≡ w = or_cases (same s w) false h (same_true s w) (λ z. absurd (false≢true z)) in
        rw (e, c) (and_yes _ _ (same_self w) refl)

one_word : (n w : List ℕ) (vs : List Value) → upper w ≡ w → is_amount false vs ≡ true → every (λ v. is_word_in (w ∷ []) (text_in v)) vs ≡ true → is_word w (map (param_value_of n) vs) ≡ true
one_word n w vs c a h =
    only_one (λ (l : List Value). every (λ v. is_word_in (w ∷ []) (text_in v)) l ≡ true → is_word w (map (param_value_of n) l) ≡ true)
    (λ v k. word_written n w v c (every_both _ v [] k).0) vs a h

encoding_row : (n : List ℕ) → same n (ascii "ENCODING") ≡ true → is_listed_parameter n ≡ false
unfolding parameter_row octets_compute
encoding_row n h = rw (same_true n (ascii "ENCODING") h)

base64_capitals : upper (ascii "BASE64") ≡ ascii "BASE64"
unfolding octets_compute
base64_capitals = refl

base64_written : (p : Parameter) → is_parameter p ≡ true → is_base64_encoding p ≡ true → is_raw_base64_encoding (raw_of p) ≡ true
unfolding is_parameter
base64_written p h b =
    let e = and_both (same p.name (ascii "ENCODING")) _ b in
    let a = (and_both _ _ (and_both _ _ (and_both _ _ h).1).1).0 in
    and_yes _ _ (rw (parameter_name p h) e.0) (one_word p.name (ascii "BASE64") p.values base64_capitals (rw (encoding_row p.name e.0) at a) e.1)

any_base64 : (ps : List Parameter) → every is_parameter ps ≡ true → any_one is_base64_encoding ps ≡ true → any_one is_raw_base64_encoding (map raw_of ps) ≡ true
unfolding any_one
any_base64 [] h b = b
any_base64 (p ∷ ps) h b =
    let e = every_both is_parameter p ps h in
    let ih = any_base64 ps e.1 in
    or_cases (is_base64_encoding p) _ b (λ k. or_left _ _ (base64_written p e.0 k)) (λ k. or_right _ _ (ih k))

-- VALUE in front changes nothing
any_with_value : (n : List ℕ) (t : ValueType) (rs : List RawParameter) → any_one is_raw_base64_encoding rs ≡ true → any_one is_raw_base64_encoding (with_value n t rs) ≡ true
unfolding with_value any_one
any_with_value n t rs h = pick_either (λ (l : List RawParameter). any_one is_raw_base64_encoding l ≡ true) (same_type t (default_type n)) rs (value_parameter t ∷ rs) h (or_right _ _ h)

-- ---- the parameters of a property

permitted_written : (n : List ℕ) (t : ValueType) (ps : List Parameter) → every is_parameter ps ≡ true → every (λ (p : Parameter). permits_parameter n t p.name) ps ≡ true →
    every (λ (r : RawParameter). permits_parameter n t (upper r.name)) (map raw_of ps) ≡ true
unfolding every
permitted_written n t [] h a = refl
permitted_written n t (p ∷ ps) h a =
    let e = every_both is_parameter p ps h in
    let d = every_both (λ (p : Parameter). permits_parameter n t p.name) p ps a in
    and_yes _ _ (rw (parameter_name p e.0) d.0) (permitted_written n t ps e.1 d.1)

pub parameters_with_value : (n : List ℕ) (t : ValueType) (ps : List Parameter) → every is_parameter ps ≡ true → read_parameters (with_value n t (map raw_of ps)) ≡ Some ps
parameters_with_value n t ps h = rw (own_with_value n t (map raw_of ps)) (parameters_read_back ps h)

pub parameters_good_lem : (n : List ℕ) (t : ValueType) (ps : List Parameter) → are_parameters n t ps ≡ true → parameters_good n t (with_value n t (map raw_of ps)) ≡ true
unfolding are_parameters parameters_good is_read
parameters_good_lem n t ps h =
    let a = and_both (every is_parameter ps) _ h in
    let b = and_both (distinct (map (λ (p : Parameter). p.name) ps)) _ a.1 in
    let c = and_both (every (λ (p : Parameter). permits_parameter n t p.name) ps) _ b.1 in
    and_yes _ _ (distinct_written n t ps a.0 b.0)
    (and_yes _ _ (rw (parameters_with_value n t ps a.0))
    (and_yes _ _ (rw (own_with_value n t (map raw_of ps), own_written ps a.0) (permitted_written n t ps a.0 c.0))
    (or_cases (not (same_type t BINARY)) _ c.1 (λ k. or_left _ _ k) (λ k. or_right _ _ (any_with_value n t (map raw_of ps) (any_base64 ps a.0 k))))))

-- ---- the property

-- what a property is made of
module _ (k : List ℕ) (p : Property) (h : is_property k p ≡ true) where
  name_is : upper p.name ≡ p.name
  unfolding is_property
  name_is = same_true (upper p.name) p.name (and_both _ _ h).0

  parameters_are : are_parameters p.name (type_of_all p.values) p.parameters ≡ true
  unfolding is_property
  parameters_are = (and_both _ _ (and_both _ _ h).1).0

  each_is : every is_parameter p.parameters ≡ true
  unfolding are_parameters
  each_is = (and_both _ _ parameters_are).0

  values_are : are_property_values k p.name p.values ≡ true
  unfolding is_property
  values_are = (and_both _ _ (and_both _ _ h).1).1

  type_stated : stated_type p.name (with_value p.name (type_of_all p.values) (map raw_of p.parameters)) ≡ Some (type_of_all p.values)
  unfolding are_values_of
  type_stated = type_read_back p.name (type_of_all p.values) p.parameters (and_both _ _ values_are).0 each_is

  pub property_read_back : property_of k (content_line_of p) ≡ p
  unfolding property_of content_line_of read_or
  property_read_back =
      rw (name_is, parameters_with_value p.name (type_of_all p.values) p.parameters each_is, type_stated, values_read_back k p.name p.values values_are)

  pub property_no_fault : property_fault k (content_line_of p) ≡ None
  unfolding fault_as content_line_of is_read read_or
  property_no_fault =
      let rs = with_value p.name (type_of_all p.values) (map raw_of p.parameters) in
      let f = good_faultless p.name (type_of_all p.values) rs type_stated (parameters_good_lem p.name (type_of_all p.values) p.parameters parameters_are) in
      rw (name_is, f, type_stated, values_read_back k p.name p.values values_are)
