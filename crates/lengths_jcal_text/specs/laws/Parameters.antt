-- The text of parameters, by the size of their members: four bytes for each at most.
--     parameters_brief
use Rattle.std.specs.Prelude.{◌≡◌, Bool, Option, None, Some}
use Rattle.std.proofs.Math.Path.{refl, ap}
use Rattle.std.proofs.Math.Bool.{true, false}
use Rattle.std.proofs.lemmas.Bool.{false≢true}
use mathlib.Core.List.{List, [], ◌∷◌, map}
use Prim.Native.Nat.{ℕ, suc, ◌+◌, ◌*◌, ◌≤◌}
use native.Mathlib.Omega.{arith}
use Rattle.std.proofs.Math.ListN.{length}
use Rattle.octets.specs.Ascii.{ascii}
use Rattle.octets.specs.Pick.{pick}
use Rattle.octets.specs.laws.Pick.{pick_either}
use Rattle.octets.specs.Append.{◌⊕◌, joined}
use Rattle.octets.specs.laws.Append.{length_both}
use Rattle.octets.specs.Class.{upper}
use Rattle.octets.specs.Words.{same, is_one_of, joined_by}
use Rattle.octets.specs.Computing.{octets_compute}
use Rattle.octets.specs.laws.Words.{same_true}
use Rattle.octets.specs.Reading.{provided, and_then, cons_read, read_or, read_each}
use Rattle.octets.specs.laws.Reading.{provided-some, and_then-some, cons_read-some}
use Rattle.octets.specs.laws.Letters.{upper-length}
use Rattle.calendar.specs.Calendar.{xcal, ValueType, BINARY, BOOLEAN, CAL-ADDRESS, DATE, DATE-TIME, DURATION, FLOAT, INTEGER, PERIOD, RECUR, TEXT, TIME, URI, UTC-OFFSET, UNKNOWN}
use Rattle.calendar.specs.Calendar.{Value, boolean, cal_address, text, uri, unknown, Parameter}
use Rattle.edition.specs.Edition.{encode}
use Rattle.edition.specs.Computing.{edition_compute}
use Rattle.edition.specs.laws.Carets.{encode_short}
use Rattle.edition.specs.declared.Edition.{Edition}
use Rattle.edition.specs.declared.Edition.TheVariants.{Rfc5545, Rfc6868}
use Rattle.schema.specs.Types.{is_type_of}
use Rattle.schema.specs.Computing.{schema_compute}
use Rattle.schema.specs.laws.Rows.{parameter_types, parameter_type_lem}
use Rattle.schema.specs.Parameters.{parameter_type, is_listed_parameter, parameter_words}
use Rattle.texts.specs.Uri.{is_uri, read_uri}
use Rattle.values.specs.ReadValue.{read_value}
use Rattle.values.specs.WriteValue.{write_value}
use Rattle.values.specs.Valid.{is_amount}
use Rattle.values.specs.laws.ReadBack.{made}
use Rattle.read_text_line.specs.ContentLine.{ParamValue}
use Rattle.read_text_line.specs.Write.{write_param_value, write_parameter}
use Rattle.read_text_line.specs.Decoded.{encoded_value, encoded_parameter}
use Rattle.text.specs.WriteText.{param_chars, param_value_of, raw_of}
use Rattle.json_text.specs.Tree.{Json, Member}
use Rattle.json_text.specs.Kinds.{as_string, or_alone}
use Rattle.jcal.specs.Parameters.{read_truth, read_word_in, read_characters, read_parameter, read_parameters}
use Rattle.lengths_xml.specs.laws.Pieces.{weight, joined_within}
use Rattle.lengths_xml.specs.laws.Parameters.{bytes}
use Rattle.lengths_jcal_text.specs.laws.Sizes.{size, total, member_total, as_string_lem, alone_size}

-- ---- the characters of a value, encoded

-- TRUE and FALSE have no carets
truth_length : (ed : Edition) (b : Bool) → length (encode ed (param_chars (boolean b))) ≤ 5
unfolding octets_compute edition_compute write_value
truth_length Rfc5545 true = omega arith
truth_length Rfc5545 false = omega arith
truth_length Rfc6868 true = omega arith
truth_length Rfc6868 false = omega arith

module _ (ed : Edition) where
  abbrev Kept : List ℕ → Value → Type 0
  Kept s v = length (encode ed (param_chars v)) ≤ 2 * length s

  truth_kept : (s : List ℕ) (v : Value) → read_truth s ≡ Some v → Kept s v
  unfolding pick
  truth_kept s v h = go (same s (ascii "TRUE")) refl h
    where
      go : (t : Bool) → same s (ascii "TRUE") ≡ t → pick t (Some (boolean true)) (provided (same s (ascii "FALSE")) (boolean false)) ≡ Some v → Kept s v
      go true e k = let q : boolean true ≡ v = cc in rw (← q) (omega (arith, truth_length ed true, ap length (same_true s (ascii "TRUE") e)))
      go false e k =
          let f = provided-some (same s (ascii "FALSE")) (boolean false) v k in
          rw (← f.1) (omega (arith, truth_length ed false, ap length (same_true s (ascii "FALSE") f.0)))

  typed_kept : (t : ValueType) (s : List ℕ) (v : Value) → is_type_of t parameter_types ≡ true → read_word_in None t s ≡ Some v → Kept s v
  unfolding schema_compute read_value write_value read_or pick
  typed_kept TEXT s v p h = made (Kept s) text (Some s) v h (λ x e. let z : s ≡ x = cc in rw (← z) (encode_short ed s))
  typed_kept URI s v p h = made (Kept s) uri (read_uri s) v h (λ x e. rw (← (provided-some (is_uri s) s x e).1) (encode_short ed s))
  typed_kept CAL-ADDRESS s v p h = made (Kept s) cal_address (read_uri s) v h (λ x e. rw (← (provided-some (is_uri s) s x e).1) (encode_short ed s))
  typed_kept BOOLEAN s v p h = truth_kept s v h
  typed_kept UNKNOWN s v p h = let z : unknown s ≡ v = cc in rw (← z) (encode_short ed s)
  typed_kept BINARY s v p h = absurd (false≢true p)
  typed_kept DATE s v p h = absurd (false≢true p)
  typed_kept DATE-TIME s v p h = absurd (false≢true p)
  typed_kept DURATION s v p h = absurd (false≢true p)
  typed_kept FLOAT s v p h = absurd (false≢true p)
  typed_kept INTEGER s v p h = absurd (false≢true p)
  typed_kept PERIOD s v p h = absurd (false≢true p)
  typed_kept RECUR s v p h = absurd (false≢true p)
  typed_kept TIME s v p h = absurd (false≢true p)
  typed_kept UTC-OFFSET s v p h = absurd (false≢true p)

  word_kept : (n : List ℕ) (o : Option (List (List ℕ))) (s : List ℕ) (v : Value) → read_word_in o (parameter_type n) s ≡ Some v → Kept s v
  unfolding read_or
  word_kept n None s v h = typed_kept (parameter_type n) s v (parameter_type_lem n) h
  word_kept n (Some ws) s v h = rw (← (provided-some (is_one_of s ws) (text s) v h).1) (encode_short ed s)

  -- quotes are two bytes
  quoted_length : (r : ParamValue) → length (write_param_value r) ≤ length r.chars + 2
  unfolding write_param_value
  quoted_length r =
      pick_either (λ (l : List ℕ). length l ≤ length r.chars + 2) r.quoted (34 ∷ (r.chars ⊕ 34 ∷ [])) r.chars (omega (arith, length_both r.chars (34 ∷ []))) (omega arith)

  -- ---- the values of a parameter

  abbrev written : List ℕ → List Value → List (List ℕ)
  written n vs = map write_param_value (map (encoded_value ed) (map (param_value_of n) vs))

  abbrev reading : List ℕ → Json → Option Value
  reading n v = and_then (as_string v) (read_characters n)

  values_brief : (n : List ℕ) (l : List Json) (vs : List Value) → read_each (reading n) l ≡ Some vs → weight (written n vs) ≤ 4 * total l
  unfolding read_each weight total
  values_brief n [] vs h = let q : [] ≡ vs = cc in rw (← q) (omega arith)
  values_brief n (j ∷ l) vs h =
      let e = and_then-some (reading n j) (λ v. cons_read v (read_each (reading n) l)) vs h in
      let f = cons_read-some e.0 (read_each (reading n) l) vs e.2 in
      let c = and_then-some (as_string j) (read_characters n) e.0 e.1 in
      rw (← f.2)
      (omega (arith, as_string_lem j c.0 c.1, word_kept n (parameter_words n) c.0 e.0 c.2, quoted_length (encoded_value ed (param_value_of n e.0)), values_brief n l f.0 f.1))

  -- ---- the parameters

  parameter_brief : (m : Member) (p : Parameter) → read_parameter m ≡ Some p → length (write_parameter (encoded_parameter ed (raw_of p))) ≤ 4 * (suc (length m.name) + size m.value)
  unfolding read_parameter write_parameter
  parameter_brief m p h =
      let n : List ℕ = upper m.name in
      let l : List Json = or_alone m.value in
      let q = and_then-some (read_each (reading n) l) (λ vs. provided (is_amount (is_listed_parameter n) vs) (record { name = n; values = vs })) p h in
      let e = provided-some (is_amount (is_listed_parameter n) q.0) (record { name = n; values = q.0 }) p q.2 in
      let ws : List (List ℕ) = written n q.0 in
      rw (← e.1) (omega (arith, length_both n (61 ∷ joined_by 44 ws), joined_within 44 ws, values_brief n l q.0 q.1, alone_size m.value, upper-length m.name))

  each_brief : (ms : List Member) (ps : List Parameter) → read_parameters ms ≡ Some ps → bytes (map (encoded_parameter ed) (map raw_of ps)) ≤ 4 * member_total ms
  unfolding read_each joined member_total
  each_brief [] ps h = let q : [] ≡ ps = cc in rw (← q) (omega arith)
  each_brief (m ∷ ms) ps h =
      let e = and_then-some (read_parameter m) (λ p. cons_read p (read_each read_parameter ms)) ps h in
      let f = cons_read-some e.0 (read_each read_parameter ms) ps e.2 in
      let here : List ℕ = write_parameter (encoded_parameter ed (raw_of e.0)) in
      let rest : List ℕ = joined (map write_parameter (map (encoded_parameter ed) (map raw_of f.0))) in
      rw (← f.2) (omega (arith, length_both here rest, parameter_brief m e.0 e.1, each_brief ms f.0 f.1))

  -- what is not read counts as nothing
  pub parameters_brief : (ms : List Member) → bytes (map (encoded_parameter ed) (map raw_of (read_or [] (read_parameters ms)))) ≤ 4 * member_total ms
  unfolding read_or joined
  parameters_brief ms = go (read_parameters ms) refl
    where
      go : (o : Option (List Parameter)) → read_parameters ms ≡ o → bytes (map (encoded_parameter ed) (map raw_of (read_or [] o))) ≤ 4 * member_total ms
      go None e = omega arith
      go (Some ps) e = each_brief ms ps e
