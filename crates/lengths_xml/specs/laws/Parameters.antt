-- The XML of parameters, by the length of their text in a content line.
--     bytes                the bytes of the parameters of a line
--     parameters_length    the parameters that are read
--     wrapped_length       and the element round them
--     quoted_length        the characters of a value, with its quotes or without
--     own_bytes            the parameters but VALUE
use Rattle.std.specs.Prelude.{◌≡◌, refl, Bool, true, false, not, List, [], ◌∷◌, map, ℕ, ◌+◌, ◌*◌, ◌≤◌, length, Option, None, Some, option_map}
use Rattle.std.proofs.Common.{arith}
use Rattle.octets.specs.Ascii.{ascii}
use Rattle.octets.specs.Pick.{pick, ◌and◌, ◌or◌}
use Rattle.octets.specs.Append.{◌⊕◌, joined}
use Rattle.octets.specs.laws.Append.{length_both}
use Rattle.octets.specs.Class.{upper, lower}
use Rattle.octets.specs.Words.{joined_by}
use Rattle.octets.specs.Reading.{read_each, cons_read}
use Rattle.octets.specs.laws.Reading.{and_then-some, cons_read-some, none-some}
use Rattle.octets.specs.laws.Letters.{upper-length, lower-length}
use Rattle.calendar.specs.Calendar.{ical, ValueType, TEXT, UNKNOWN, Value, text, unknown, Parameter}
use Rattle.schema.specs.Types.{same_type}
use Rattle.schema.specs.Parameters.{parameter_type, is_listed_parameter, parameter_words, is_quoted_parameter}
use Rattle.values.specs.ReadValue.{read_value}
use Rattle.read_text_line.specs.ContentLine.{ParamValue, RawParameter}
use Rattle.read_text_line.specs.Write.{write_param_value, write_parameter}
use Rattle.text.specs.Parameters.{read_typed, read_word, read_param_value, is_single, read_parameter, is_value_parameter, own_parameters, read_parameters}
use Rattle.xml.specs.Escape.{element_of}
use Rattle.xcal.specs.WriteXml.{values_xml, parameter_xml, parameters_xml, parameters_element}
use Rattle.lengths_xml.specs.laws.Elements.{rate, element_length}
use Rattle.lengths_xml.specs.laws.Pieces.{joined_weight}
use Rattle.lengths_xml.specs.laws.Values.{Short, kept_length, unknown-length, value_length, each_length}
use Rattle.lengths_xml.specs.laws.PropertyValues.{word_short}

typed_short : (t : ValueType) (s : List ℕ) (v : Value) → read_typed t s ≡ Some v → Short s v
unfolding pick
typed_short t s v h = go (same_type t TEXT) h
  where
    other : (b : Bool) → pick b (Some (unknown s)) (read_value ical t s) ≡ Some v → Short s v
    other true h = let q : unknown s ≡ v = cc in rw (← q) (unknown-length s s (omega arith))
    other false h = value_length t s v h

    go : (b : Bool) → pick b (Some (text s)) (pick (same_type t UNKNOWN) (Some (unknown s)) (read_value ical t s)) ≡ Some v → Short s v
    go true h = let q : text s ≡ v = cc in rw (← q) (kept_length s s (omega arith))
    go false h = other (same_type t UNKNOWN) h

in_word_short : (o : Option (List (List ℕ))) (t : ValueType) (s : List ℕ) (v : Value) → read_word o t s ≡ Some v → Short s v
in_word_short None t s v h = typed_short t s v h
in_word_short (Some ws) t s v h = word_short ws s v h

pub quoted_length : (v : ParamValue) → length v.chars ≤ length (write_param_value v)
unfolding write_param_value pick
quoted_length v = go v.quoted
  where
    go : (b : Bool) → length v.chars ≤ length (pick b (34 ∷ (v.chars ⊕ 34 ∷ [])) v.chars)
    go true = omega (arith, length_both v.chars (34 ∷ []))
    go false = omega arith

param_short : (n : List ℕ) (r : ParamValue) (v : Value) → read_param_value n r ≡ Some v → Short (write_param_value r) v
unfolding read_param_value pick
param_short n r v h = go (not r.quoted and is_quoted_parameter n) h
  where
    go : (b : Bool) → pick b None (read_word (parameter_words n) (parameter_type n) r.chars) ≡ Some v → Short (write_param_value r) v
    go true h = none-some h
    go false h = omega (arith, in_word_short (parameter_words n) (parameter_type n) r.chars v h, quoted_length r)

parameter_length : (r : RawParameter) (p : Parameter) → read_parameter r ≡ Some p → length (parameter_xml p) ≤ rate * length (write_parameter r)
unfolding read_parameter parameter_xml write_parameter pick
parameter_length r p h = go (is_listed_parameter (upper r.name) or is_single r.values) h
  where
    n : List ℕ
    n = upper r.name

    vs : List (List ℕ)
    vs = map write_param_value r.values

    named : List Value → Parameter
    named xs = record { name = n; values = xs }

    Brief : Type 0
    Brief = length (element_of (lower p.name) (values_xml p.values)) ≤ rate * length (59 ∷ (r.name ⊕ 61 ∷ joined_by 44 vs))

    read : (o : Option (List Value)) → read_each (read_param_value n) r.values ≡ o → option_map named o ≡ Some p → Brief
    read None e k = none-some k
    read (Some xs) e k =
        let q : named xs ≡ p = cc in
        let outer = element_length (lower n) (values_xml xs) in
        let each = each_length (read_param_value n) write_param_value (param_short n) r.values xs e in
        rw (← q) (omega (arith, outer, lower-length n, upper-length r.name, each, joined_weight 44 vs, length_both r.name (61 ∷ joined_by 44 vs)))

    go : (b : Bool) → pick b (option_map named (read_each (read_param_value n) r.values)) None ≡ Some p → Brief
    go true h = read (read_each (read_param_value n) r.values) refl h
    go false h = none-some h

-- how many bytes the parameters of a line have
abbrev pub bytes : List RawParameter → ℕ
bytes rs = length (joined (map write_parameter rs))

each_parameter : (rs : List RawParameter) (ps : List Parameter) → read_each read_parameter rs ≡ Some ps → length (parameters_xml ps) ≤ rate * bytes rs
unfolding read_each parameters_xml joined
each_parameter [] ps h = let q : [] ≡ ps = cc in rw (← q) (omega arith)
each_parameter (r ∷ rs) ps h =
    let e = and_then-some (read_parameter r) (λ b. cons_read b (read_each read_parameter rs)) ps h in
    let g = cons_read-some e.0 (read_each read_parameter rs) ps e.2 in
    let written = length_both (write_parameter r) (joined (map write_parameter rs)) in
    rw (← g.2) (omega (arith, length_both (parameter_xml e.0) (parameters_xml g.0), written, parameter_length r e.0 e.1, each_parameter rs g.0 g.1))

pub own_bytes : (rs : List RawParameter) → bytes (own_parameters rs) ≤ bytes rs
unfolding own_parameters joined pick
own_bytes [] = omega arith
own_bytes (r ∷ rs) = go (is_value_parameter r) (own_bytes rs)
  where
    go : (b : Bool) → bytes (own_parameters rs) ≤ bytes rs → bytes (pick b (own_parameters rs) (r ∷ own_parameters rs)) ≤ length (write_parameter r ⊕ joined (map write_parameter rs))
    go true ih = omega (arith, ih, length_both (write_parameter r) (joined (map write_parameter rs)))
    go false ih = omega (arith, ih, length_both (write_parameter r) (joined (map write_parameter rs)), length_both (write_parameter r) (joined (map write_parameter (own_parameters rs))))

pub parameters_length : (rs : List RawParameter) (ps : List Parameter) → read_parameters rs ≡ Some ps → length (parameters_xml ps) ≤ rate * bytes rs
parameters_length rs ps h = omega (arith, each_parameter (own_parameters rs) ps h, own_bytes rs)

pub wrapped_length : (ps : List Parameter) → length (parameters_element ps) ≤ 25 + length (parameters_xml ps)
wrapped_length [] = omega arith
wrapped_length (p ∷ ps) = omega (arith, element_length (ascii "parameters") (parameters_xml (p ∷ ps)))
