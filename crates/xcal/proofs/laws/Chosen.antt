-- A value of a type, or a word of a closed set, in XML.
--     plain_value     a value of another type than PERIOD and RECUR is character data
--     chosen_typed    what is chosen has the type asked for;   parameter_typed: so has a parameter's value
--     chosen_word     its characters pass the test of a property's value
--     parameter_read  those of a parameter's value are read back, as a value of the type or as a word
use Rattle.std.specs.Prelude.{◌≡◌, refl, true, false, List, ℕ, Option, None, Some}
use Rattle.std.proofs.Common.{sym, ◌∙◌}
use Rattle.std.proofs.lemmas.Bool.{false≢true}
use Rattle.octets.specs.Pick.{pick, ◌and◌, ◌or◌}
use Rattle.octets.specs.laws.Pick.{pick_yes, pick_case, and_both, or_cases}
use Rattle.octets.specs.Words.{is_one_of}
use Rattle.octets.specs.Reading.{is_read}
use Rattle.calendar.specs.Calendar.{ValueType, PERIOD, RECUR, TEXT, UNKNOWN, Value, text, unknown, text_in, type_of}
use Rattle.schema.specs.Types.{same_type}
use Rattle.schema.specs.laws.Types.{same_type_true}
use Rattle.values.specs.WriteValue.{value_characters}
use Rattle.values.specs.ReadBack.{is_value, is_typed}
use Rattle.values.specs.laws.ReadBack.{is_character_data, characters_read_back}
use Rattle.values.specs.Valid.{is_word_in, is_chosen, is_parameter_value}
use Rattle.values.specs.laws.Valid.{text_in_lem, any_unknown}
use Rattle.xcal.proofs.laws.Contents.{plain_inside, inside}
use Rattle.xcal.specs.ValueNodes.{read_word_of}
use Rattle.xcal.specs.ParameterNodes.{read_word_in}
use Rattle.xcal.proofs.laws.ValuesBack.{by_spelling}

pub plain_value : (v : Value) → is_typed v ≡ true → same_type (type_of v) PERIOD ≡ false → same_type (type_of v) RECUR ≡ false → (is_character_data v ≡ true) × (inside v ≡ plain_inside v)
unfolding same_type
plain_value v t a b =
    by_spelling (λ v. same_type (type_of v) PERIOD ≡ false → same_type (type_of v) RECUR ≡ false → (is_character_data v ≡ true) × (inside v ≡ plain_inside v))
    (λ v c e p r a b. (c, e))
    (λ s e a b. absurd (false≢true (sym a))) (λ s d a b. absurd (false≢true (sym a))) (λ ps a b. absurd (false≢true (sym b))) v t a b

-- a word is a TEXT
word_text : (words : List (List ℕ)) (v : Value) → is_word_in words (text_in v) ≡ true → (s : List ℕ) × (v ≡ text s) × (is_one_of s words ≡ true)
word_text words v h = go (text_in v) refl h
  where
    go : (o : Option (List ℕ)) → text_in v ≡ o → is_word_in words o ≡ true → (s : List ℕ) × (v ≡ text s) × (is_one_of s words ≡ true)
    go None e k = absurd (false≢true k)
    go (Some s) e k = (s, text_in_lem v s e, k)

-- a closed set is one of TEXT
abbrev pub OfText : Option (List (List ℕ)) → ValueType → Type 0
OfText o t = (words : List (List ℕ)) → o ≡ Some words → t ≡ TEXT

pub chosen_typed : (o : Option (List (List ℕ))) (t : ValueType) (v : Value) → OfText o t → is_chosen o t v ≡ true → (type_of v ≡ t) × (is_typed v ≡ true) × (is_value v ≡ true)
chosen_typed None t v f h =
    let p = and_both (same_type (type_of v) t) (is_typed v and is_value v) h in
    let q = and_both (is_typed v) (is_value v) p.1 in
    (same_type_true (type_of v) t p.0, q.0, q.1)
chosen_typed (Some words) t v f h =
    let w = word_text words v h in
    rw w.1 (sym (f words refl), refl, refl)

pub chosen_word : (o : Option (List (List ℕ))) (t : ValueType) (v : Value) → OfText o t → is_chosen o t v ≡ true → is_character_data v ≡ true → read_word_of o t (value_characters v) ≡ true
unfolding is_read value_characters
chosen_word None t v f h c = let k = chosen_typed None t v f h in rw (← k.0, characters_read_back v c k.2)
chosen_word (Some words) t v f h c = let w = word_text words v h in rw w.1 w.2

-- ---- a parameter's value

pub parameter_typed : (o : Option (List (List ℕ))) (t : ValueType) (v : Value) → OfText o t → is_parameter_value o t v ≡ true → (type_of v ≡ t) × (is_typed v ≡ true)
parameter_typed None t v f h = let p = and_both (same_type (type_of v) t) _ h in (same_type_true (type_of v) t p.0, (and_both (is_typed v) _ p.1).0)
parameter_typed (Some words) t v f h =
    let w = word_text words v h in
    rw w.1 (sym (f words refl), refl)

pub parameter_read : (o : Option (List (List ℕ))) (t : ValueType) (v : Value) → OfText o t → is_parameter_value o t v ≡ true → is_character_data v ≡ true → read_word_in o t (value_characters v) ≡ Some v
unfolding value_characters
parameter_read None t v f h c =
    let p = and_both (same_type (type_of v) t) _ h in
    let q = and_both (is_typed v) (same_type (type_of v) UNKNOWN or is_value v) p.1 in
    rw (← (same_type_true (type_of v) t p.0))
    (pick_case (λ (o : Option Value). o ≡ Some v) (same_type (type_of v) UNKNOWN) _ _ (any_unknown (λ v. Some (unknown (value_characters v)) ≡ Some v) (λ s. refl) v)
    (λ e. characters_read_back v c (or_cases (same_type (type_of v) UNKNOWN) (is_value v) q.1 (λ k. absurd (false≢true (sym e ∙ k))) (λ k. k))))
parameter_read (Some words) t v f h c = let w = word_text words v h in rw w.1 (pick_yes (is_one_of w.0 words) _ _ w.2)
