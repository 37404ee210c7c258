-- Laws of what specs/Shown.antt defines.
--     shown_is                       of parameters that are readable it is the jCal of what they state
use Rattle.std.specs.Prelude.{◌≡◌, refl, Bool, true, false, not, List, map, ℕ, Option, None, Some, option_map}
use Rattle.octets.specs.Pick.{pick, ◌and◌, ◌or◌}
use Rattle.octets.specs.Class.{upper}
use Rattle.octets.specs.laws.Letters.{lower_any_case}
use Rattle.octets.specs.Words.{is_one_of}
use Rattle.octets.specs.Reading.{is_read, or_nothing, read_each}
use Rattle.octets.specs.laws.Reading.{none-some, provided-some}
use Rattle.calendar.specs.Calendar.{ical, TEXT, UNKNOWN, Value, text, unknown, Parameter}
use Rattle.schema.specs.Types.{same_type}
use Rattle.schema.specs.Parameters.{parameter_row, parameter_type, parameter_words, is_listed_parameter, is_quoted_parameter}
use Rattle.values.specs.ReadValue.{read_value}
use Rattle.values.specs.WriteValue.{value_characters}
use Rattle.read_text_line.specs.ContentLine.{ParamValue, RawParameter}
use Rattle.text.specs.Parameters.{read_word, read_param_value, is_single, read_parameter, own_parameters, read_parameters}
use Rattle.json_text.specs.Write.{quoted}
use Rattle.jcal.specs.WriteJcal.{parameter_value, parameter_json}
use Rattle.write_jcal_value.specs.laws.Each.{each_written}
use Rattle.write_jcal_parameters.specs.Shown.{string_of, value_shown, chars_shown, shown, members_shown}

text_string : (s : List ℕ) → quoted s ≡ string_of (text s)
unfolding parameter_value value_characters
text_string s = refl

unknown_string : (s : List ℕ) → quoted s ≡ string_of (unknown s)
unfolding parameter_value value_characters
unknown_string s = refl

value_is : (n : List ℕ) (v : ParamValue) (x : Value) → read_param_value n v ≡ Some x → chars_shown (parameter_row n) v ≡ string_of x
unfolding value_shown read_param_value pick is_read
value_is n v x h = quotes (not v.quoted and is_quoted_parameter n) h
  where
    s : List ℕ
    s = v.chars

    other : (t : Bool) → pick t (Some (unknown s)) (read_value ical (parameter_type n) s) ≡ Some x →
        pick t (quoted s) (or_nothing string_of (read_value ical (parameter_type n) s)) ≡ string_of x
    other true h = let z : unknown s ≡ x = cc in rw (← z) (unknown_string s)
    other false h = rw h

    typed : (t : Bool) → pick t (Some (text s)) (pick (same_type (parameter_type n) UNKNOWN) (Some (unknown s)) (read_value ical (parameter_type n) s)) ≡ Some x →
        pick t (quoted s) (pick (same_type (parameter_type n) UNKNOWN) (quoted s) (or_nothing string_of (read_value ical (parameter_type n) s))) ≡ string_of x
    typed true h = let z : text s ≡ x = cc in rw (← z) (text_string s)
    typed false h = other (same_type (parameter_type n) UNKNOWN) h

    word : (o : Option (List (List ℕ))) → read_word o (parameter_type n) s ≡ Some x →
        pick (is_read o) (quoted (upper s))
        (pick (same_type (parameter_type n) TEXT) (quoted s)
        (pick (same_type (parameter_type n) UNKNOWN) (quoted s) (or_nothing string_of (read_value ical (parameter_type n) s)))) ≡ string_of x
    word None h = typed (same_type (parameter_type n) TEXT) h
    word (Some ws) h = rw (← (provided-some (is_one_of (upper s) ws) (text (upper s)) x h).1) (text_string (upper s))

    quotes : (t : Bool) → pick t None (read_word (parameter_words n) (parameter_type n) s) ≡ Some x → chars_shown (parameter_row n) v ≡ string_of x
    quotes true h = none-some h
    quotes false h = word (parameter_words n) h

parameter_is : (r : RawParameter) (p : Parameter) → read_parameter r ≡ Some p → shown r ≡ parameter_json p
unfolding read_parameter parameter_json pick
parameter_is r p h = go (is_listed_parameter n or is_single r.values) h
  where
    n : List ℕ
    n = upper r.name

    of : (o : Option (List Value)) → read_each (read_param_value n) r.values ≡ o → option_map (λ vs. record { name = n; values = vs }) o ≡ Some p →
        shown r ≡ parameter_json p
    of None e h = none-some h
    of (Some vs) e h =
        let z : ◌≡◌ {A = Parameter} (record { name = n; values = vs }) p = cc in
        let q = each_written (read_param_value n) (chars_shown (parameter_row n)) string_of (value_is n) r.values vs e in
        rw (← z, lower_any_case r.name, q)

    go : (t : Bool) → pick t (option_map (λ vs. record { name = n; values = vs }) (read_each (read_param_value n) r.values)) None ≡ Some p →
        shown r ≡ parameter_json p
    go true h = of (read_each (read_param_value n) r.values) refl h
    go false h = none-some h

pub shown_is : (rs : List RawParameter) (ps : List Parameter) → read_parameters rs ≡ Some ps → members_shown rs ≡ map parameter_json ps
shown_is rs ps h = each_written read_parameter shown parameter_json parameter_is (own_parameters rs) ps h
