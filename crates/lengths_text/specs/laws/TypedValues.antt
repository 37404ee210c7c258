-- The text of values whose elements are named as types, by the size of the elements.
--     type_least      the name of a type has three letters at least
--     typed           a name that is a type's
--     typed_length    the values of the children that have such names;   typed_name: the name of their type
use Rattle.std.specs.Prelude.{◌≡◌, refl, Bool, true, false, List, [], ◌∷◌, map, ℕ, ◌+◌, ◌*◌, ◌≤◌, leb, length, Option, None, Some}
use Rattle.std.proofs.Common.{ap, arith, leb-true}
use Rattle.octets.specs.Ascii.{ascii}
use Rattle.octets.specs.Pick.{pick}
use Rattle.octets.specs.laws.Pick.{pick_either}
use Rattle.octets.specs.laws.Append.{length_both}
use Rattle.octets.specs.Class.{upper, lower}
use Rattle.octets.specs.Words.{same}
use Rattle.octets.specs.laws.Words.{same_true}
use Rattle.octets.specs.Reading.{read_or, is_read}
use Rattle.octets.specs.laws.Reading.{none-some}
use Rattle.octets.specs.laws.Letters.{upper-length}
use Rattle.calendar.specs.Calendar.{xcal, ValueType, PERIOD, RECUR, UNKNOWN, Value, text, recur, type_of}
use Rattle.schema.specs.Types.{type_name, type_named, same_type}
use Rattle.schema.specs.laws.Types.{type_named_is, type_passes}
use Rattle.schema.specs.Computing.{schema_compute}
use Rattle.times.specs.DateTime.{read_date_time}
use Rattle.times.specs.Duration.{read_duration}
use Rattle.times.specs.Period.{write_period}
use Rattle.recur.specs.Parts.{part_names}
use Rattle.values.specs.ReadValue.{read_value}
use Rattle.values.specs.WriteValue.{write_value, type_of_all}
use Rattle.xml.specs.Nodes.{Nodes, no_nodes, element, literal, referred, characters_of}
use Rattle.xcal.specs.ValueNodes.{element_type, child_named, text_of, moment_of, period_of, parts_of, value_of, one_of, typed_values}
use Rattle.lengths_xml.specs.laws.Pieces.{weight}
use Rattle.lengths_xml.specs.laws.Values.{type_length}
use Rattle.lengths_text.specs.laws.Bytes.{name_bytes, name_length}
use Rattle.lengths_text.specs.laws.Sizes.{size, characters_size, part}
use Rattle.lengths_text.specs.laws.Values.{escaped_most, date_time_kept, duration_length, value_length}
use Rattle.lengths_text.specs.laws.Rules.{rule_length}
use Rattle.lengths_text.specs.laws.Children.{text_within}

-- ---- PERIOD

moment_length : (n : List ℕ) (ns : Nodes) → length (moment_of n ns) ≤ size ns
unfolding read_or
moment_length n ns = go (read_date_time xcal (text_of n ns)) refl
  where
    go : (o : Option (List ℕ)) → read_date_time xcal (text_of n ns) ≡ o → length (read_or [] o) ≤ size ns
    go None e = omega arith
    go (Some v) e = omega (arith, date_time_kept (text_of n ns) v e, text_within n ns)

duration_or : (s : List ℕ) → length (read_or [] (read_duration xcal s)) ≤ length s
unfolding read_or
duration_or s = go (read_duration xcal s) refl
  where
    go : (o : Option (List ℕ)) → read_duration xcal s ≡ o → length (read_or [] o) ≤ length s
    go None e = omega arith
    go (Some v) e = duration_length s v e

period_length : (o : Option (List ℕ)) (ns : Nodes) → length (read_or [] o) ≤ size ns → length (write_value (period_of o ns)) ≤ 2 * size ns + 1
unfolding write_value write_period read_or
period_length None ns h =
    let a : List ℕ = moment_of (ascii "start") ns in
    let z : List ℕ = moment_of (ascii "end") ns in
    omega (arith, length_both a (47 ∷ z), moment_length (ascii "start") ns, moment_length (ascii "end") ns)
period_length (Some s) ns h =
    let a : List ℕ = moment_of (ascii "start") ns in
    let d : List ℕ = read_or [] (read_duration xcal s) in
    omega (arith, length_both a (47 ∷ d), moment_length (ascii "start") ns, duration_or s)

-- ---- a value of a type

or_length : (t : ValueType) (s : List ℕ) → length (write_value (read_or (text []) (read_value xcal t s))) ≤ 2 * length s + 5
unfolding read_or write_value
or_length t s = go (read_value xcal t s) refl
  where
    go : (o : Option Value) → read_value xcal t s ≡ o → length (write_value (read_or (text []) o)) ≤ 2 * length s + 5
    go None e = omega (arith, escaped_most [])
    go (Some v) e = value_length t s v e

of_length : (t : ValueType) (ns : Nodes) → length (write_value (value_of t ns)) ≤ 2 * size ns + 5
unfolding value_of
of_length t ns =
    pick_either Short (same_type t PERIOD) (period_of (child_named (ascii "duration") ns) ns) _
    (omega (arith, period_length (child_named (ascii "duration") ns) ns (text_within (ascii "duration") ns)))
    (pick_either Short (same_type t RECUR) (recur (parts_of part_names ns)) _ rule
    (omega (arith, or_length t (characters_of ns), characters_size ns)))
  where
    Short : Value → Type 0
    Short v = length (write_value v) ≤ 2 * size ns + 5

    rule : Short (recur (parts_of part_names ns))
    rule = unfold write_value in omega (arith, rule_length ns)

-- ---- children named as types

-- the name of a type has three letters at least
pub type_least : (t : ValueType) → 3 ≤ length (type_name t)
unfolding schema_compute
type_least t = leb-true 3 (length (type_name t)) (type_passes (λ u. leb 3 (length (type_name u))) refl t)

element_least : (m : List ℕ) (t : ValueType) → element_type m ≡ Some t → 3 ≤ length m
unfolding element_type pick
element_least m t h = go (same m (ascii "unknown")) refl (same m (lower m)) h
  where
    go : (a : Bool) → same m (ascii "unknown") ≡ a → (b : Bool) → pick a (Some UNKNOWN) (pick b (type_named (upper m)) None) ≡ Some t → 3 ≤ length m
    go true e b k = omega (arith, ap length (same_true m (ascii "unknown") e))
    go false e true k = omega (arith, ap length (type_named_is (upper m) t k), upper-length m, type_least t)
    go false e false k = none-some k

abbrev pub typed : List ℕ → Bool
typed m = is_read (element_type m)

pub typed_length : (ns : Nodes) → weight (map write_value (typed_values ns)) ≤ 2 * part typed ns
unfolding typed_values part pick weight is_read
typed_length no_nodes = omega arith
typed_length (literal p b more) = typed_length more
typed_length (referred p bs more) = typed_length more
typed_length (element p m x kids more) = go (element_type m) refl (typed_length more)
  where
    go : (o : Option ValueType) → element_type m ≡ o → weight (map write_value (typed_values more)) ≤ 2 * part typed more →
        weight (map write_value (one_of o kids (typed_values more))) ≤ 2 * (pick (is_read o) (name_bytes m + 2 + size kids) 0 + part typed more)
    go None e ih = omega (arith, ih)
    go (Some t) e ih = omega (arith, ih, of_length t kids, element_least m t e, name_length m)

-- the type of the values, or `unknown`
pub typed_name : (ns : Nodes) → length (type_name (type_of_all (typed_values ns))) ≤ 7 + part typed ns
unfolding typed_values part pick is_read
typed_name no_nodes = omega arith
typed_name (literal p b more) = typed_name more
typed_name (referred p bs more) = typed_name more
typed_name (element p m x kids more) = go (element_type m) refl (typed_name more)
  where
    go : (o : Option ValueType) → element_type m ≡ o → length (type_name (type_of_all (typed_values more))) ≤ 7 + part typed more →
        length (type_name (type_of_all (one_of o kids (typed_values more)))) ≤ 7 + (pick (is_read o) (name_bytes m + 2 + size kids) 0 + part typed more)
    go None e ih = omega (arith, ih)
    go (Some t) e ih = omega (arith, type_length (type_of (value_of t kids)), element_least m t e, name_length m)
