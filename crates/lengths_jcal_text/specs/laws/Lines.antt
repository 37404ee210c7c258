-- The content line of a property, by the size of its array.
--     name_size       the name in an array
--     line_length     the content line of a property, of any value
--     fold_length     a line folded
--     at-fine         a fault that is none
--     lines_length    the lines of properties whose arrays have no fault
use Rattle.std.specs.Prelude.{◌≡◌, refl, Bool, true, false, not, List, [], ◌∷◌, map, ℕ, suc, ◌+◌, ◌-◌, ◌*◌, ◌≤◌, ◌<◌, length, drop, Option, None, Some}
use Rattle.std.proofs.Common.{ap, ltb-true}
use Rattle.std.proofs.lemmas.Bool.{false≢true, not-false}
use native.Mathlib.Omega.{arith}
use Rattle.octets.specs.Ascii.{ascii}
use Rattle.octets.specs.Pick.{pick, ◌and◌, ◌or◌}
use Rattle.octets.specs.laws.Pick.{pick_either, and_both}
use Rattle.octets.specs.Append.{◌⊕◌, joined}
use Rattle.octets.specs.laws.Append.{length_both}
use Rattle.octets.specs.Class.{upper}
use Rattle.octets.specs.Words.{each_after, joined_by}
use Rattle.octets.specs.Reading.{and_then, is_read, read_or}
use Rattle.octets.specs.laws.Reading.{read_some, and_then-some, none-some}
use Rattle.octets.specs.laws.Letters.{upper-length}
use Rattle.calendar.specs.Calendar.{ValueType, Value, Parameter, Property}
use Rattle.calendar.specs.Refusal.{Refusal, NAME, FRAME, fine}
use Rattle.calendar.specs.laws.Refusal.{refused_not}
use Rattle.edition.specs.Edition.{encode}
use Rattle.edition.specs.declared.Edition.{Edition}
use Rattle.schema.specs.Types.{type_name, same_type}
use Rattle.schema.specs.Properties.{default_type}
use Rattle.folding.specs.Fold.{width, is_over, fold_from}
use Rattle.folding.specs.laws.Fold.{width_most}
use Rattle.values.specs.WriteValue.{write_value, write_values, type_of_all}
use Rattle.read_text_line.specs.ContentLine.{RawParameter}
use Rattle.read_text_line.specs.Write.{write_param_value, write_parameter}
use Rattle.read_text_line.specs.Decoded.{encoded_parameter, encoded_line, write_line}
use Rattle.text.proofs.laws.Carets.{type_encoded}
use Rattle.text.specs.WriteText.{raw_of, value_parameter, with_value, content_line_of, property_line, property_lines}
use Rattle.xcal.proofs.laws.Accepted.{both_fine}
use Rattle.json_text.specs.Tree.{Json, Member, place_of}
use Rattle.json_text.specs.Kinds.{as_string, as_array, as_object, nth}
use Rattle.jcal.specs.Parameters.{read_parameters}
use Rattle.jcal.specs.Values.{read_values}
use Rattle.jcal.specs.Property.{name_in, parameters_in, type_in, type_of, values_in, property_name, member_list, value_type_of, names_bad, is_shaped, property_fault, property_of}
use Rattle.jcal.specs.Components.{at, property_verdict, properties_verdict}
use Rattle.jcal.proofs.laws.PropertyAccepted.{past_fault}
use Rattle.lengths_xml.specs.laws.Pieces.{weight, joined_within}
use Rattle.lengths_xml.specs.laws.Values.{type_length}
use Rattle.lengths_xml.specs.laws.Parameters.{bytes}
use Rattle.lengths_xml.specs.laws.Properties.{line_length as length_of_line}
use Rattle.lengths_jcal_text.specs.laws.Sizes.{size, size_some, total, member_total, as_string_lem, as_object_lem, array_size, size_in, split_size}
use Rattle.lengths_jcal_text.specs.laws.Values.{values_brief}
use Rattle.lengths_jcal_text.specs.laws.Parameters.{parameters_brief}

-- ---- the elements of an array

-- a name that is there has a quotation mark more
pub name_size : (l : List Json) → length (upper (read_or [] (name_in l))) ≤ size_in (nth 0 l)
unfolding read_or
name_size l = go (name_in l) refl
  where
    go : (o : Option (List ℕ)) → name_in l ≡ o → length (upper (read_or [] o)) ≤ size_in (nth 0 l)
    go None e = omega (arith, upper-length [])
    go (Some n) e = let q = and_then-some (nth 0 l) as_string n e in rw q.1 (unfold size_in in omega (arith, as_string_lem q.0 n q.2, upper-length n))

pub read_name : (l : List Json) → is_read (name_in l) ≡ true → length (upper (read_or [] (name_in l))) + 1 ≤ size_in (nth 0 l)
unfolding read_or is_read
read_name l h = go (name_in l) refl h
  where
    go : (o : Option (List ℕ)) → name_in l ≡ o → is_read o ≡ true → length (upper (read_or [] o)) + 1 ≤ size_in (nth 0 l)
    go None e h = absurd (false≢true h)
    go (Some n) e h = let q = and_then-some (nth 0 l) as_string n e in rw q.1 (unfold size_in in omega (arith, as_string_lem q.0 n q.2, upper-length n))

members_size : (l : List Json) → member_total (member_list l) ≤ size_in (nth 1 l)
unfolding read_or
members_size l = go (parameters_in l) refl
  where
    go : (o : Option (List Member)) → parameters_in l ≡ o → member_total (read_or [] o) ≤ size_in (nth 1 l)
    go None e = unfold member_total in omega arith
    go (Some ms) e = let q = and_then-some (nth 1 l) as_object ms e in rw q.1 (unfold size_in in omega (arith, as_object_lem q.0 ms q.2))

read_members : (l : List Json) → is_read (parameters_in l) ≡ true → member_total (member_list l) + 1 ≤ size_in (nth 1 l)
unfolding read_or is_read
read_members l h = go (parameters_in l) refl h
  where
    go : (o : Option (List Member)) → parameters_in l ≡ o → is_read o ≡ true → member_total (read_or [] o) + 1 ≤ size_in (nth 1 l)
    go None e h = absurd (false≢true h)
    go (Some ms) e h = let q = and_then-some (nth 1 l) as_object ms e in rw q.1 (unfold size_in in omega (arith, as_object_lem q.0 ms q.2))

read_type : (l : List Json) → is_read (type_in l) ≡ true → 1 ≤ size_in (nth 2 l)
read_type l h =
    let t = read_some (type_in l) h in
    let p = and_then-some (and_then (nth 2 l) as_string) type_of t.0 t.1 in
    let q = and_then-some (nth 2 l) as_string p.0 p.1 in
    rw q.1 (unfold size_in in size_some q.0)

-- ---- the line

-- ;VALUE= and the name of a type
value_parameter_lem : (ed : Edition) (t : ValueType) → length (write_parameter (encoded_parameter ed (value_parameter t))) ≡ 7 + length (type_name t)
unfolding write_parameter write_param_value joined_by each_after pick
value_parameter_lem ed t =
    omega (arith, length_both (ascii "VALUE") (61 ∷ (encode ed (type_name t) ⊕ [])), length_both (encode ed (type_name t)) [], ap length (type_encoded ed t))

with_length : (ed : Edition) (n : List ℕ) (t : ValueType) (ps : List RawParameter) → bytes (map (encoded_parameter ed) (with_value n t ps)) ≤ 7 + length (type_name t) + bytes (map (encoded_parameter ed) ps)
unfolding with_value
with_length ed n t ps =
    pick_either (λ (l : List RawParameter). bytes (map (encoded_parameter ed) l) ≤ 7 + length (type_name t) + bytes (map (encoded_parameter ed) ps)) (same_type t (default_type n)) ps (value_parameter t ∷ ps) (omega arith)
    (unfold joined in omega (arith, length_both (write_parameter (encoded_parameter ed (value_parameter t))) (joined (map write_parameter (map (encoded_parameter ed) ps))), value_parameter_lem ed t))

parts_length : (ed : Edition) (k : List ℕ) (l : List Json) → length (write_line ed (content_line_of (property_of k l))) ≤ 19 + length (property_name l) + 4 * member_total (member_list l) + 4 * total (values_in l)
unfolding content_line_of property_of write_values
parts_length ed k l =
    let vs : List Value = read_or [] (read_values k (property_name l) (value_type_of l) (values_in l)) in
    let ps : List RawParameter = map raw_of (read_or [] (read_parameters (member_list l))) in
    let values = values_brief k (property_name l) (value_type_of l) (values_in l) in
    omega (arith, length_of_line (encoded_line ed (content_line_of (property_of k l))), with_length ed (property_name l) (type_of_all vs) ps, type_length (type_of_all vs), parameters_brief ed (member_list l), joined_within 44 (map write_value vs), values)

pub line_length : (ed : Edition) (k : List ℕ) (v : Json) → length (write_line ed (content_line_of (property_of k (read_or [] (as_array v))))) ≤ 15 + 4 * size v
line_length ed k v =
    let l : List Json = read_or [] (as_array v) in
    omega (arith, parts_length ed k l, name_size l, members_size l, split_size l, array_size v)

-- ---- folded: three bytes more where a line has 72 or more, so that each byte after the first 40 comes to a tenth more at most

pub fold_length : (c : ℕ) (s : List ℕ) → 10 * length (fold_from c s) ≤ 10 * length s + 20 + (c + length s - 40)
unfolding fold_from pick
fold_length c [] = omega arith
fold_length c (b ∷ s) = go (is_over c b) refl (λ (d : ℕ). fold_length d s)
  where
    go : (t : Bool) → is_over c b ≡ t → ((d : ℕ) → 10 * length (fold_from d s) ≤ 10 * length s + 20 + (d + length s - 40)) →
        10 * length (pick t (13 ∷ 10 ∷ 32 ∷ []) [] ⊕ (b ∷ fold_from (pick t 1 c + 1) s)) ≤ 10 * suc (length s) + 20 + (c + suc (length s) - 40)
    go true e ih =
        let late : 75 < c + width b = ltb-true 75 (c + width b) e in
        omega (arith, length_both (13 ∷ 10 ∷ 32 ∷ []) (b ∷ fold_from 2 s), ih 2, late, width_most b)
    go false e ih = omega (arith, length_both [] (b ∷ fold_from (c + 1) s), ih (c + 1))

-- ---- properties without a fault

pub at-fine : (p : ℕ) (o : Option Refusal) → at p o ≡ fine → o ≡ None
at-fine p None h = refl
at-fine p (Some r) h = refused_not r p h

-- an array that has a name, an object and a type
shaped_length : (ed : Edition) (k : List ℕ) (l : List Json) (n : ℕ) → property_fault ed k l ≡ None → suc (total l) ≤ n → length (property_line ed (property_of k l)) ≤ 6 * n
unfolding property_fault is_shaped
shaped_length ed k l n h z =
    let a = past_fault (names_bad l) NAME _ h in
    let b = past_fault (not (is_shaped k l)) FRAME _ a.1 in
    let c = and_both (is_read (name_in l)) _ (not-false _ b.0) in
    let d = and_both (is_read (parameters_in l)) _ c.1 in
    let e = and_both (is_read (type_in l)) _ d.1 in
    omega (arith, fold_length 0 (write_line ed (content_line_of (property_of k l))), parts_length ed k l, read_name l c.0, read_members l d.0, read_type l e.0, split_size l, z)

property_length : (ed : Edition) (k : List ℕ) (v : Json) (o : Option (List Json)) → as_array v ≡ o → property_verdict ed k v o ≡ fine → length (property_line ed (property_of k (read_or [] o))) ≤ 6 * size v
unfolding read_or
property_length ed k v None e h = refused_not FRAME (place_of v) h
property_length ed k v (Some l) e h = shaped_length ed k l (size v) (at-fine (place_of v) (property_fault ed k l) h) (rw e at (array_size v))

pub lines_length : (ed : Edition) (k : List ℕ) (l : List Json) → properties_verdict ed k l ≡ fine → length (property_lines ed (map (λ v. property_of k (read_or [] (as_array v))) l)) ≤ 6 * total l
unfolding properties_verdict property_lines total
lines_length ed k [] h = omega arith
lines_length ed k (v ∷ l) h =
    let a = both_fine (property_verdict ed k v (as_array v)) _ h in
    let here : List ℕ = property_line ed (property_of k (read_or [] (as_array v))) in
    let rest : List ℕ = property_lines ed (map (λ v. property_of k (read_or [] (as_array v))) l) in
    omega (arith, length_both here rest, property_length ed k v (as_array v) refl a.0, lines_length ed k l a.1)
