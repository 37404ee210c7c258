-- The text of a property's values, by the size of its children. No child is a value and the parameters too.
--     values_length    the values of any property, beside its parameters;   named_length: and the name of their type
use Rattle.std.specs.Prelude.{◌≡◌, refl, true, false, List, [], ◌∷◌, map, ℕ, ◌+◌, ◌*◌, ◌≤◌, length, Option, None, Some}
use Rattle.std.proofs.Common.{ap, arith}
use Rattle.octets.specs.Ascii.{ascii}
use Rattle.octets.specs.Pick.{◌or◌}
use Rattle.octets.specs.laws.Pick.{pick_either, pick_case}
use Rattle.octets.specs.laws.Append.{length_both}
use Rattle.octets.specs.Class.{upper}
use Rattle.octets.specs.Words.{same}
use Rattle.octets.specs.laws.Words.{same_true}
use Rattle.octets.specs.Lists.{distinct}
use Rattle.octets.specs.Reading.{read_or}
use Rattle.octets.specs.laws.Letters.{upper-length}
use Rattle.octets.specs.Computing.{octets_compute}
use Rattle.calendar.specs.Calendar.{Decimal, Value, geo, request_status, type_of}
use Rattle.schema.specs.Types.{type_name}
use Rattle.schema.specs.Computing.{schema_compute}
use Rattle.numbers.specs.Float.{read_float, write_float}
use Rattle.texts.specs.Text.{write_text}
use Rattle.texts.specs.RequestStatus.{status_parts, write_request_status}
use Rattle.values.specs.WriteValue.{write_value, write_values, type_of_all}
use Rattle.values.specs.laws.WriteValue.{one_written}
use Rattle.xml.specs.Nodes.{Nodes}
use Rattle.xcal.specs.ValueNodes.{element_type, child_named, text_of, zero', float_of, typed_values, read_value_nodes}
use Rattle.xcal.specs.PropertyNodes.{parameters_in}
use Rattle.lengths_xml.specs.laws.Pieces.{weight, joined_within}
use Rattle.lengths_xml.specs.laws.Numbers.{float_length, written_length}
use Rattle.lengths_text.specs.laws.Bytes.{name_bytes, name_some, name_length}
use Rattle.lengths_text.specs.laws.Sizes.{size, part, part-size, part_apart, named, parts, parts-size}
use Rattle.lengths_text.specs.laws.Values.{escaped_most}
use Rattle.lengths_text.specs.laws.Children.{named_text, parameters_part_lem}
use Rattle.lengths_text.specs.laws.TypedValues.{typed, typed_length, typed_name}

-- ---- GEO and REQUEST-STATUS

float_or : (s : List ℕ) → length (write_float (read_or zero' (read_float s))) ≤ length s + 3
unfolding read_or
float_or s = go (read_float s) refl
  where
    go : (o : Option Decimal) → read_float s ≡ o → length (write_float (read_or zero' o)) ≤ length s + 3
    go None e = omega (arith, written_length zero')
    go (Some d) e = float_length s d e

float_part : (n : List ℕ) (ns : Nodes) → length (write_float (float_of n ns)) ≤ part (named n) ns + 3
float_part n ns = omega (arith, float_or (text_of n ns), named_text n ns)

status_length : (c d : List ℕ) (x : Option (List ℕ)) → length (write_request_status c d x) ≤ 2 * (length c + length d + length (read_or [] x)) + 3
unfolding read_or weight
status_length c d None = omega (arith, joined_within 59 (map write_text (status_parts c d None)), escaped_most c, escaped_most d)
status_length c d (Some x) = omega (arith, joined_within 59 (map write_text (status_parts c d (Some x))), escaped_most c, escaped_most d, escaped_most x)

-- ---- the values of a property, beside its parameters

one_value : (v : Value) → length (write_values (v ∷ [])) ≡ length (write_value v)
one_value v = ap length (one_written v)

-- values, beside the parameters of the property n that stand there too
unfoldable Short : List ℕ → Nodes → List Value → Type 0
Short n ns vs = length (write_values vs) + 2 * size (parameters_in n ns) ≤ 2 * size ns + 7

abbrev geo_names : List (List ℕ)
geo_names = ascii "parameters" ∷ ascii "latitude" ∷ ascii "longitude" ∷ []

geo_distinct : distinct geo_names ≡ true
unfolding octets_compute
geo_distinct = refl

geo_short : (n : List ℕ) (ns : Nodes) → Short n ns (geo (float_of (ascii "latitude") ns) (float_of (ascii "longitude") ns) ∷ [])
unfolding Short write_value parts
geo_short n ns =
    let la : Decimal = float_of (ascii "latitude") ns in
    let lo : Decimal = float_of (ascii "longitude") ns in
    let written = length_both (write_float la) (59 ∷ write_float lo) in
    omega (arith, one_value (geo la lo), written, float_part (ascii "latitude") ns, float_part (ascii "longitude") ns, parameters_part_lem n ns, parts-size geo_names geo_distinct ns)

abbrev status_names : List (List ℕ)
status_names = ascii "parameters" ∷ ascii "code" ∷ ascii "description" ∷ ascii "data" ∷ []

status_distinct : distinct status_names ≡ true
unfolding octets_compute
status_distinct = refl

status_short : (n : List ℕ) (ns : Nodes) → Short n ns (request_status (text_of (ascii "code") ns) (text_of (ascii "description") ns) (child_named (ascii "data") ns) ∷ [])
unfolding Short write_value parts
status_short n ns =
    let c : List ℕ = text_of (ascii "code") ns in
    let d : List ℕ = text_of (ascii "description") ns in
    let x : Option (List ℕ) = child_named (ascii "data") ns in
    let code = named_text (ascii "code") ns in
    let description = named_text (ascii "description") ns in
    let extra = named_text (ascii "data") ns in
    omega (arith, one_value (request_status c d x), status_length c d x, code, description, extra, parameters_part_lem n ns, parts-size status_names status_distinct ns)

-- `parameters` is no type
no_type : (m : List ℕ) → same m (ascii "parameters") ≡ true → typed m ≡ false
unfolding schema_compute element_type
no_type m h = ap (λ (n : List ℕ). typed n) (same_true m (ascii "parameters") h)

typed_short : (n : List ℕ) (ns : Nodes) → Short n ns (typed_values ns)
unfolding Short write_values
typed_short n ns =
    let apart = part_apart (named (ascii "parameters")) typed no_type ns in
    omega (arith, joined_within 44 (map write_value (typed_values ns)), typed_length ns, parameters_part_lem n ns, apart, part-size (λ m. named (ascii "parameters") m or typed m) ns)

pub values_length : (n : List ℕ) (ns : Nodes) → length (write_values (read_value_nodes n ns)) + 2 * size (parameters_in n ns) ≤ 2 * size ns + 7
unfolding read_value_nodes Short
values_length n ns =
    pick_either (Short n ns) (same n (ascii "GEO")) _ _ (geo_short n ns)
    (pick_either (Short n ns) (same n (ascii "REQUEST-STATUS")) _ (typed_values ns) (status_short n ns) (typed_short n ns))

-- ---- and the name of their type, by the size of the property's element

unfoldable Brief : List ℕ → Nodes → List Value → Type 0
Brief m ns vs = length (type_name (type_of_all vs)) + length (write_values vs) + 2 * size (parameters_in (upper m) ns) ≤ 4 * name_bytes m + 3 + 3 * size ns

typed_brief : (m : List ℕ) (ns : Nodes) → Brief m ns (typed_values ns)
unfolding Brief write_values
typed_brief m ns =
    let apart = part_apart (named (ascii "parameters")) typed no_type ns in
    let all = part-size (λ m. named (ascii "parameters") m or typed m) ns in
    omega (arith, joined_within 44 (map write_value (typed_values ns)), typed_length ns, typed_name ns, parameters_part_lem (upper m) ns, apart, all, name_some m)

-- a name that is one of three letters or more, of values whose type has five letters at most
own_brief : (m w : List ℕ) (ns : Nodes) (v : Value) → same (upper m) w ≡ true → 3 ≤ length w → length (type_name (type_of v)) ≤ 5 → Short (upper m) ns (v ∷ []) → Brief m ns (v ∷ [])
unfolding Brief Short
own_brief m w ns v e l t h = omega (arith, h, ap length (same_true (upper m) w e), upper-length m, name_length m)

pub named_length : (m : List ℕ) (ns : Nodes) → length (type_name (type_of_all (read_value_nodes (upper m) ns))) + length (write_values (read_value_nodes (upper m) ns)) + 2 * size (parameters_in (upper m) ns) ≤ 4 * name_bytes m + 3 + 3 * size ns
unfolding read_value_nodes Brief
named_length m ns =
    pick_case (Brief m ns) (same (upper m) (ascii "GEO")) _ _ (λ e. own_brief m (ascii "GEO") ns _ e (omega arith) (omega arith) (geo_short (upper m) ns))
    (λ d. pick_case (Brief m ns) (same (upper m) (ascii "REQUEST-STATUS")) _ (typed_values ns)
    (λ e. own_brief m (ascii "REQUEST-STATUS") ns _ e (omega arith) (omega arith) (status_short (upper m) ns)) (λ e. typed_brief m ns))
