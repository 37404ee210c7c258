-- The text of parameters, by the size of their elements.
--     parameters_length
use Rattle.std.specs.Prelude.{◌≡◌, Bool, length, Option, None, Some}
use Rattle.std.proofs.Math.Path.{refl}
use Rattle.std.proofs.Common.{ap}
use Rattle.std.proofs.Math.Bool.{true, false}
use Rattle.std.proofs.lemmas.Bool.{false≢true}
use mathlib.Core.List.{List, [], ◌∷◌, map}
use Prim.Native.Nat.{ℕ, suc, ◌+◌, ◌*◌, ◌≤◌}
use native.Mathlib.Omega.{arith}
use Rattle.octets.specs.Pick.{pick}
use Rattle.octets.specs.laws.Pick.{pick_either}
use Rattle.octets.specs.Append.{◌⊕◌, joined}
use Rattle.octets.specs.laws.Append.{length_both}
use Rattle.octets.specs.Class.{is_space, upper, lower}
use Rattle.octets.specs.Words.{same, is_one_of, joined_by}
use Rattle.octets.specs.Computing.{octets_compute}
use Rattle.octets.specs.laws.Words.{same_true}
use Rattle.octets.specs.Reading.{and_then, cons_read, read_or}
use Rattle.octets.specs.laws.Reading.{provided-some, and_then-some, cons_read-some, none-some}
use Rattle.octets.specs.laws.Letters.{upper-length, lower-length}
use Rattle.calendar.specs.Calendar.{xcal, ValueType, BINARY, BOOLEAN, CAL-ADDRESS, DATE, DATE-TIME, DURATION, FLOAT, INTEGER, PERIOD, RECUR, TEXT, TIME, URI, UTC-OFFSET, UNKNOWN}
use Rattle.calendar.specs.Calendar.{Value, boolean, cal_address, text, uri, unknown}
use Rattle.edition.specs.Edition.{encode}
use Rattle.edition.specs.Computing.{edition_compute}
use Rattle.edition.specs.laws.Carets.{encode_short}
use Rattle.edition.specs.declared.Edition.{Edition}
use Rattle.edition.specs.declared.Edition.TheVariants.{Rfc5545, Rfc6868}
use Rattle.schema.specs.Types.{type_name, is_type_of}
use Rattle.schema.specs.Computing.{schema_compute}
use Rattle.schema.specs.laws.Rows.{parameter_types, parameter_type_lem}
use Rattle.numbers.specs.Boolean.{read_boolean}
use Rattle.texts.specs.Uri.{is_uri, read_uri}
use Rattle.values.specs.ReadValue.{read_value}
use Rattle.values.specs.WriteValue.{write_value}
use Rattle.values.specs.laws.ReadBack.{made}
use Rattle.schema.specs.Parameters.{parameter_type, parameter_words}
use Rattle.read_text_line.specs.ContentLine.{ParamValue}
use Rattle.read_text_line.specs.Write.{write_param_value, write_parameter}
use Rattle.read_text_line.specs.Decoded.{encoded_value, encoded_parameter}
use Rattle.text.specs.WriteText.{param_chars, param_value_of, raw_of}
use Rattle.xml.specs.Nodes.{Nodes, no_nodes, element, literal, referred, characters_of, has_element}
use Rattle.xcal.specs.ParameterNodes.{read_word_in, read_param_node, read_param_nodes, read_parameter_nodes}
use Rattle.lengths_xml.specs.laws.Pieces.{weight, joined_within}
use Rattle.lengths_xml.specs.laws.Parameters.{bytes}
use Rattle.lengths_text.specs.laws.Bytes.{name_bytes, name_length}
use Rattle.lengths_text.specs.laws.Sizes.{size, characters_size}
use Rattle.lengths_text.specs.laws.TypedValues.{type_least}

-- ---- a value

-- TRUE and FALSE have no carets
truth_length : (ed : Edition) (b : Bool) → length (encode ed (param_chars (boolean b))) ≤ 5
unfolding octets_compute edition_compute write_value
truth_length Rfc5545 true = omega arith
truth_length Rfc5545 false = omega arith
truth_length Rfc6868 true = omega arith
truth_length Rfc6868 false = omega arith

-- the characters of a value, encoded
chars_length : (ed : Edition) (t : ValueType) (s : List ℕ) (v : Value) → is_type_of t parameter_types ≡ true → read_word_in None t s ≡ Some v → length (encode ed (param_chars v)) ≤ 2 * length s + 5
unfolding schema_compute read_value write_value read_or pick
chars_length ed TEXT s v p h = made (λ v. length (encode ed (param_chars v)) ≤ 2 * length s + 5) text (Some s) v h (λ x e. let z : s ≡ x = cc in rw (← z) (omega (arith, encode_short ed s)))
chars_length ed URI s v p h = made (λ v. length (encode ed (param_chars v)) ≤ 2 * length s + 5) uri (read_uri s) v h (λ x e. rw (← (provided-some (is_uri s) s x e).1) (omega (arith, encode_short ed s)))
chars_length ed CAL-ADDRESS s v p h = made (λ v. length (encode ed (param_chars v)) ≤ 2 * length s + 5) cal_address (read_uri s) v h (λ x e. rw (← (provided-some (is_uri s) s x e).1) (omega (arith, encode_short ed s)))
chars_length ed BOOLEAN s v p h = made (λ v. length (encode ed (param_chars v)) ≤ 2 * length s + 5) boolean (read_boolean xcal s) v h (λ x e. omega (arith, truth_length ed x))
chars_length ed UNKNOWN s v p h = let z : unknown s ≡ v = cc in rw (← z) (omega (arith, encode_short ed s))
chars_length ed BINARY s v p h = absurd (false≢true p)
chars_length ed DATE s v p h = absurd (false≢true p)
chars_length ed DATE-TIME s v p h = absurd (false≢true p)
chars_length ed DURATION s v p h = absurd (false≢true p)
chars_length ed FLOAT s v p h = absurd (false≢true p)
chars_length ed INTEGER s v p h = absurd (false≢true p)
chars_length ed PERIOD s v p h = absurd (false≢true p)
chars_length ed RECUR s v p h = absurd (false≢true p)
chars_length ed TIME s v p h = absurd (false≢true p)
chars_length ed UTC-OFFSET s v p h = absurd (false≢true p)

word_length : (ed : Edition) (n : List ℕ) (o : Option (List (List ℕ))) (s : List ℕ) (v : Value) → read_word_in o (parameter_type n) s ≡ Some v → length (encode ed (param_chars v)) ≤ 2 * length s + 5
unfolding read_or
word_length ed n None s v h = chars_length ed (parameter_type n) s v (parameter_type_lem n) h
word_length ed n (Some ws) s v h = rw (← (provided-some (is_one_of s ws) (text s) v h).1) (omega (arith, encode_short ed s))

node_length : (ed : Edition) (n : List ℕ) (kids : Nodes) (v : Value) → read_param_node n kids ≡ Some v → length (encode ed (param_chars v)) ≤ 2 * size kids + 5
unfolding read_param_node pick
node_length ed n kids v h = go (has_element kids) h
  where
    go : (t : Bool) → pick t None (read_word_in (parameter_words n) (parameter_type n) (characters_of kids)) ≡ Some v → length (encode ed (param_chars v)) ≤ 2 * size kids + 5
    go true k = none-some k
    go false k = omega (arith, word_length ed n (parameter_words n) (characters_of kids) v k, characters_size kids)

-- quotes are two bytes
quoted_length : (r : ParamValue) → length (write_param_value r) ≤ length r.chars + 2
unfolding write_param_value
quoted_length r =
    pick_either (λ (l : List ℕ). length l ≤ length r.chars + 2) r.quoted (34 ∷ (r.chars ⊕ 34 ∷ [])) r.chars (omega (arith, length_both r.chars (34 ∷ []))) (omega arith)

module _ (ed : Edition) where
  -- ---- the values of a parameter

  abbrev written : List ℕ → List Value → List (List ℕ)
  written n vs = map write_param_value (map (encoded_value ed) (map (param_value_of n) vs))

  nodes_length : (n : List ℕ) (ns : Nodes) (vs : List Value) → read_param_nodes n ns ≡ Some vs → weight (written n vs) ≤ 2 * size ns
  unfolding read_param_nodes size pick weight
  nodes_length n no_nodes vs h = let q : [] ≡ vs = cc in rw (← q) (omega arith)
  nodes_length n (literal p b more) vs h = go (is_space b) h (nodes_length n more vs)
    where
      go : (t : Bool) → pick t (read_param_nodes n more) None ≡ Some vs → (read_param_nodes n more ≡ Some vs → weight (written n vs) ≤ 2 * size more) → weight (written n vs) ≤ 2 * suc (size more)
      go true k ih = omega (arith, ih k)
      go false k ih = none-some k
  nodes_length n (referred p bs more) vs h = none-some h
  nodes_length n (element p m x kids more) vs h = go (same m (lower (type_name (parameter_type n)))) refl h (nodes_length n more)
    where
      t : ValueType
      t = parameter_type n

      read : Option (List Value)
      read = and_then (read_param_node n kids) (λ v. cons_read v (read_param_nodes n more))

      go : (b : Bool) → same m (lower (type_name t)) ≡ b → pick b read None ≡ Some vs → ((ws : List Value) → read_param_nodes n more ≡ Some ws → weight (written n ws) ≤ 2 * size more) →
          weight (written n vs) ≤ 2 * (name_bytes m + 2 + size kids + size more)
      go true e k ih =
          let f = and_then-some (read_param_node n kids) (λ v. cons_read v (read_param_nodes n more)) vs k in
          let g = cons_read-some f.0 (read_param_nodes n more) vs f.2 in
          let name = ap length (same_true m (lower (type_name t)) e) in
          rw (← g.2)
          (omega (arith, ih g.0 g.1, node_length ed n kids f.0 f.1, quoted_length (encoded_value ed (param_value_of n f.0)), name, name_length m, lower-length (type_name t), type_least t))
      go false e k ih = none-some k

  or_length : (n : List ℕ) (ns : Nodes) → weight (written n (read_or [] (read_param_nodes n ns))) ≤ 2 * size ns
  unfolding read_or weight
  or_length n ns = go (read_param_nodes n ns) refl
    where
      go : (o : Option (List Value)) → read_param_nodes n ns ≡ o → weight (written n (read_or [] o)) ≤ 2 * size ns
      go None e = omega arith
      go (Some vs) e = nodes_length n ns vs e

  -- ---- the parameters

  pub parameters_length : (ns : Nodes) → bytes (map (encoded_parameter ed) (map raw_of (read_parameter_nodes ns))) ≤ 2 * size ns
  unfolding read_parameter_nodes size joined write_parameter
  parameters_length no_nodes = omega arith
  parameters_length (literal p b more) = omega (arith, parameters_length more)
  parameters_length (referred p bs more) = omega (arith, parameters_length more)
  parameters_length (element p m x kids more) =
      let n : List ℕ = upper m in
      let vs : List (List ℕ) = written n (read_or [] (read_param_nodes n kids)) in
      let rest : List ℕ = joined (map write_parameter (map (encoded_parameter ed) (map raw_of (read_parameter_nodes more)))) in
      omega (arith, length_both (59 ∷ (n ⊕ 61 ∷ joined_by 44 vs)) rest, length_both n (61 ∷ joined_by 44 vs), upper-length m, name_length m, joined_within 44 vs, or_length n kids, parameters_length more)
