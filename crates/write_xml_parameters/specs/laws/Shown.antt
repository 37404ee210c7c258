-- Laws of what specs/Shown.antt defines.
--     shown_is                       of parameters that are readable it is the XML of what they state
use Rattle.std.specs.Prelude.{◌≡◌, refl, Bool, true, false, not, List, [], ◌∷◌, map, ℕ, Option, None, Some, option_map}
use Rattle.std.proofs.Common.{ap, ◌∙◌}
use Rattle.octets.specs.Pick.{pick, ◌and◌, ◌or◌}
use Rattle.octets.specs.Append.{◌⊕◌, joined}
use Rattle.octets.specs.laws.Append.{append_empty}
use Rattle.octets.specs.Class.{upper}
use Rattle.octets.specs.laws.Letters.{lower_any_case}
use Rattle.octets.specs.Words.{is_one_of}
use Rattle.octets.specs.Reading.{is_read, or_nothing, read_each, cons_read}
use Rattle.octets.specs.laws.Reading.{none-some, provided-some, and_then-some, cons_read-some}
use Rattle.calendar.specs.Calendar.{ical, TEXT, UNKNOWN, Value, text, unknown, Parameter}
use Rattle.schema.specs.Types.{same_type}
use Rattle.schema.specs.Parameters.{parameter_row, parameter_type, parameter_words, is_listed_parameter, is_quoted_parameter}
use Rattle.values.specs.ReadValue.{read_value}
use Rattle.read_text_line.specs.ContentLine.{ParamValue, RawParameter}
use Rattle.text.specs.Parameters.{read_word, read_param_value, is_single, read_parameter, is_value_parameter, own_parameters, read_parameters}
use Rattle.xcal.specs.WriteXml.{value_xml, values_xml, parameter_xml, parameters_xml}
use Rattle.write_xml_parameters.specs.Shown.{value_shown, chars_shown, shown, parameters_shown}

-- ---- each of a list, read and written

-- what is written of each is what is written of what it was read as
pub each_written : {A B : Type 0} (reading : A → Option B) (f : A → List ℕ) (g : B → List ℕ) → ((a : A) (b : B) → reading a ≡ Some b → f a ≡ g b) →
    (l : List A) (r : List B) → read_each reading l ≡ Some r → joined (map f l) ≡ joined (map g r)
unfolding read_each joined
each_written reading f g k [] r h = let z : [] ≡ r = cc in rw (← z)
each_written reading f g k (a ∷ l) r h =
    let e = and_then-some (reading a) (λ b. cons_read b (read_each reading l)) r h in
    let t = cons_read-some e.0 (read_each reading l) r e.2 in
    rw (← t.2, k a e.0 e.1, each_written reading f g k l t.0 t.1)

values_joined : (vs : List Value) → joined (map value_xml vs) ≡ values_xml vs
unfolding joined values_xml
values_joined [] = refl
values_joined (v ∷ vs) = rw (values_joined vs)

parameters_joined : (ps : List Parameter) → joined (map parameter_xml ps) ≡ parameters_xml ps
unfolding joined parameters_xml
parameters_joined [] = refl
parameters_joined (p ∷ ps) = rw (parameters_joined ps)

-- ---- what is readable

value_is : (n : List ℕ) (v : ParamValue) (x : Value) → read_param_value n v ≡ Some x → chars_shown (parameter_row n) v ≡ value_xml x
unfolding value_shown read_param_value pick is_read
value_is n v x h = quotes (not v.quoted and is_quoted_parameter n) h
  where
    s : List ℕ
    s = v.chars

    other : (t : Bool) → pick t (Some (unknown s)) (read_value ical (parameter_type n) s) ≡ Some x →
        pick t (value_xml (unknown s)) (or_nothing value_xml (read_value ical (parameter_type n) s)) ≡ value_xml x
    other true h = let z : unknown s ≡ x = cc in rw z
    other false h = rw h

    typed : (t : Bool) → pick t (Some (text s)) (pick (same_type (parameter_type n) UNKNOWN) (Some (unknown s)) (read_value ical (parameter_type n) s)) ≡ Some x →
        pick t (value_xml (text s)) (pick (same_type (parameter_type n) UNKNOWN) (value_xml (unknown s)) (or_nothing value_xml (read_value ical (parameter_type n) s))) ≡ value_xml x
    typed true h = let z : text s ≡ x = cc in rw z
    typed false h = other (same_type (parameter_type n) UNKNOWN) h

    word : (o : Option (List (List ℕ))) → read_word o (parameter_type n) s ≡ Some x →
        pick (is_read o) (value_xml (text (upper s)))
        (pick (same_type (parameter_type n) TEXT) (value_xml (text s))
        (pick (same_type (parameter_type n) UNKNOWN) (value_xml (unknown s)) (or_nothing value_xml (read_value ical (parameter_type n) s)))) ≡ value_xml x
    word None h = typed (same_type (parameter_type n) TEXT) h
    word (Some ws) h = ap value_xml (provided-some (is_one_of (upper s) ws) (text (upper s)) x h).1

    quotes : (t : Bool) → pick t None (read_word (parameter_words n) (parameter_type n) s) ≡ Some x → chars_shown (parameter_row n) v ≡ value_xml x
    quotes true h = none-some h
    quotes false h = word (parameter_words n) h

parameter_is : (r : RawParameter) (p : Parameter) → read_parameter r ≡ Some p → shown r ≡ parameter_xml p
unfolding read_parameter parameter_xml pick
parameter_is r p h = go (is_listed_parameter n or is_single r.values) h
  where
    n : List ℕ
    n = upper r.name

    of : (o : Option (List Value)) → read_each (read_param_value n) r.values ≡ o → option_map (λ vs. record { name = n; values = vs }) o ≡ Some p →
        shown r ≡ parameter_xml p
    of None e h = none-some h
    of (Some vs) e h =
        let z : ◌≡◌ {A = Parameter} (record { name = n; values = vs }) p = cc in
        let q = each_written (read_param_value n) (chars_shown (parameter_row n)) value_xml (value_is n) r.values vs e in
        rw (← z, lower_any_case r.name, ← (values_joined vs), q)

    go : (t : Bool) → pick t (option_map (λ vs. record { name = n; values = vs }) (read_each (read_param_value n) r.values)) None ≡ Some p →
        shown r ≡ parameter_xml p
    go true h = of (read_each (read_param_value n) r.values) refl h
    go false h = none-some h

own_joined : (rs : List RawParameter) → parameters_shown rs ≡ joined (map shown (own_parameters rs))
unfolding joined own_parameters pick
own_joined [] = refl
own_joined (r ∷ rs) = go (is_value_parameter r) (own_joined rs)
  where
    go : (t : Bool) → parameters_shown rs ≡ joined (map shown (own_parameters rs)) →
        pick t [] (shown r) ⊕ parameters_shown rs ≡ joined (map shown (pick t (own_parameters rs) (r ∷ own_parameters rs)))
    go true e = append_empty (parameters_shown rs) ∙ e
    go false e = ap (λ (l : List ℕ). shown r ⊕ l) e

pub shown_is : (rs : List RawParameter) (ps : List Parameter) → read_parameters rs ≡ Some ps → parameters_shown rs ≡ parameters_xml ps
shown_is rs ps h = own_joined rs ∙ each_written read_parameter shown parameter_xml parameter_is (own_parameters rs) ps h ∙ parameters_joined ps
