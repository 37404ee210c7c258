-- Parameters that are written to XML are read back from their elements (RFC 6321, section 3.5).
--     is_carried_value         a value whose characters hold no double quote and no LF
--     parameter_values_back    the values that a parameter's element states;   spelled_in: an edition in which the parameter is valid can spell them
--     parameters_back          the parameters that the elements of parameters state
use Rattle.std.specs.Prelude.{◌≡◌, refl, Bool, true, false, not, List, [], ◌∷◌, ℕ, Some}
use Rattle.std.proofs.Common.{ap}
use Rattle.std.proofs.lemmas.Bool.{false≢true, not-true}
use Rattle.octets.specs.Pick.{pick, ◌and◌, ◌or◌}
use Rattle.octets.specs.laws.Pick.{and_both, and_yes, or_no}
use Rattle.octets.specs.Class.{is_visible, lower}
use Rattle.octets.specs.Words.{holds, none_holds}
use Rattle.octets.specs.laws.Words.{same_self, none_split, all_without}
use Rattle.octets.specs.Lists.{every}
use Rattle.octets.specs.laws.Lists.{every_both, every_weaker, every-and}
use Rattle.octets.specs.Reading.{and_then, cons_read, read_or}
use Rattle.octets.specs.laws.Tables.{row_any_passes}
use Rattle.octets.specs.Computing.{octets_compute}
use Rattle.calendar.specs.Calendar.{PERIOD, RECUR, TEXT, Value, boolean, text, type_of, Parameter}
use Rattle.schema.specs.Types.{type_name, same_type}
use Rattle.schema.specs.laws.Closed.{parameter_words_text}
use Rattle.schema.specs.Parameters.{parameter_table, parameter_row, unrecognised_parameter, parameter_type, parameter_words}
use Rattle.texts.specs.Uri.{is_uri}
use Rattle.texts.specs.laws.Uri.{uri_visible, uri_unquoted}
use Rattle.values.specs.WriteValue.{value_characters}
use Rattle.values.specs.ReadBack.{is_typed}
use Rattle.values.specs.Valid.{is_amount, is_parameter_value}
use Rattle.xml.specs.Nodes.{no_nodes, characters_of, has_element}
use Rattle.xml.specs.Content.{nothing, placed}
use Rattle.edition.specs.declared.Edition.{Edition}
use Rattle.edition.specs.declared.Edition.TheVariants.{Rfc5545, Rfc6868}
use Rattle.validity.specs.ValidCalendar.{is_parameter_text, is_valid_parameter}
use Rattle.validity.proofs.laws.ValidCalendar.{ValidParameter, valid_parameter, parameter_value_lem}
use Rattle.xcal.proofs.laws.ElementNames.{kept_back}
use Rattle.xcal.proofs.laws.Contents.{inside, values_before, parameters_before}
use Rattle.xcal.proofs.laws.LeavesBack.{leaf_placed, leaf_characters, leaf_no_element}
use Rattle.xcal.specs.ParameterNodes.{are_plain, are_spelled, read_param_node, read_param_nodes, read_parameter_nodes}
use Rattle.xcal.proofs.laws.ValuesBack.{typed_before}
use Rattle.xcal.proofs.laws.Chosen.{plain_value, parameter_typed, parameter_read}

-- ---- one value

-- 34 is the double quote, 10 LF
abbrev pub is_carried_value : Value → Bool
is_carried_value v = not (holds 34 (value_characters v)) and not (holds 10 (value_characters v))

-- no parameter is a PERIOD or a RECUR
parameter_plain : (n : List ℕ) → (not (same_type (parameter_type n) PERIOD) and not (same_type (parameter_type n) RECUR)) ≡ true
unfolding octets_compute parameter_row same_type
parameter_plain n = row_any_passes (λ r. r.name) n (λ r. not (same_type r.type PERIOD) and not (same_type r.type RECUR)) unrecognised_parameter parameter_table refl refl

of_text : (n : List ℕ) (words : List (List ℕ)) → parameter_words n ≡ Some words → parameter_type n ≡ TEXT
of_text n words e = (parameter_words_text n words e).0

module _ (n : List ℕ) (v : Value) (h : is_parameter_value (parameter_words n) (parameter_type n) v ≡ true) where
  param_typed : (type_of v ≡ parameter_type n) × (is_typed v ≡ true)
  param_typed = parameter_typed (parameter_words n) (parameter_type n) v (of_text n) h

  param_value_back : (q : ℕ) → read_param_node n (placed (inside v) q no_nodes) ≡ Some v
  unfolding read_param_node pick
  param_value_back q =
      let k = param_typed in
      let t = and_both _ _ (parameter_plain n) in
      let p = plain_value v k.1 (rw k.0 (not-true _ t.0)) (rw k.0 (not-true _ t.1)) in
      rw (p.1, leaf_placed (value_characters v) q, leaf_no_element (value_characters v) q, leaf_characters (value_characters v) q)
      (parameter_read (parameter_words n) (parameter_type n) v (of_text n) h p.0)

  param_characters : (q : ℕ) → characters_of (placed (inside v) q no_nodes) ≡ value_characters v
  param_characters q =
      let k = param_typed in
      let t = and_both _ _ (parameter_plain n) in
      let p = plain_value v k.1 (rw k.0 (not-true _ t.0)) (rw k.0 (not-true _ t.1)) in
      rw (p.1, leaf_placed (value_characters v) q) (leaf_characters (value_characters v) q)

-- ---- the values of a parameter

pub parameter_values_back : (n : List ℕ) (vs : List Value) → every (is_parameter_value (parameter_words n) (parameter_type n)) vs ≡ true →
    (q : ℕ) → read_param_nodes n (placed (values_before vs nothing) q no_nodes) ≡ Some vs
unfolding values_before placed read_param_nodes pick and_then cons_read
parameter_values_back n [] h q = refl
parameter_values_back n (v ∷ vs) h q =
    let a = every_both _ v vs h in
    let k = param_typed n v a.0 in
    rw (typed_before v (values_before vs nothing) k.1, k.0, same_self (lower (type_name (parameter_type n))), param_value_back n v a.0, parameter_values_back n vs a.1)

-- no double quote and no LF among them
values_plain : (n : List ℕ) (vs : List Value) → every (is_parameter_value (parameter_words n) (parameter_type n)) vs ≡ true → every is_carried_value vs ≡ true →
    (q : ℕ) → are_plain (placed (values_before vs nothing) q no_nodes) ≡ true
unfolding values_before placed are_plain
values_plain n [] h c q = refl
values_plain n (v ∷ vs) h c q =
    let a = every_both _ v vs h in
    let b = every_both _ v vs c in
    let d = and_both (not (holds 34 (value_characters v))) (not (holds 10 (value_characters v))) b.0 in
    let k = param_typed n v a.0 in
    rw (typed_before v (values_before vs nothing) k.1, param_characters n v a.0)
    (and_yes _ _ (rw (or_no _ _ (not-true _ d.0) (not-true _ d.1))) (values_plain n vs a.1 b.1 _))

-- a parameter has a value, which is an element
pub has_element_lem : (n : List ℕ) (l : Bool) (vs : List Value) → is_amount l vs ≡ true → every (is_parameter_value (parameter_words n) (parameter_type n)) vs ≡ true →
    (q : ℕ) → has_element (placed (values_before vs nothing) q no_nodes) ≡ true
unfolding values_before placed has_element
has_element_lem n l [] a h q = absurd (false≢true a)
has_element_lem n l (v ∷ vs) a h q = rw (typed_before v (values_before vs nothing) (param_typed n v (every_both _ v vs h).0).1)

-- ---- parameters

neither : (s : List ℕ) → holds 34 s ≡ false → holds 10 s ≡ false → (not (holds 34 s) and not (holds 10 s)) ≡ true
neither s a b = and_yes _ _ (rw a) (rw b)

uri_carried : (s : List ℕ) → is_uri s ≡ true → (not (holds 34 s) and not (holds 10 s)) ≡ true
unfolding octets_compute
uri_carried s h = neither s (uri_unquoted s h) (all_without is_visible 10 refl s (uri_visible s h))

free_carried : (s : List ℕ) → is_parameter_text Rfc5545 (text s) ≡ true → (not (holds 34 s) and not (holds 10 s)) ≡ true
free_carried s h =
    let q = and_both (none_holds 10 (s ∷ [])) _ (and_both (none_holds 13 (s ∷ [])) _ h).1 in
    neither s (none_split 34 s [] q.1).0 (none_split 10 s [] q.0).0

-- where the characters that a value's type leaves free hold no double quote and no LF, its element does not either
value_carried : (n : List ℕ) (v : Value) → is_parameter_value (parameter_words n) (parameter_type n) v ≡ true → is_parameter_text Rfc5545 v ≡ true → is_carried_value v ≡ true
unfolding octets_compute value_characters
value_carried n v h f =
    parameter_value_lem (λ v. is_parameter_text Rfc5545 v ≡ true → is_carried_value v ≡ true) truth (λ s u f. uri_carried s u) (λ s u f. uri_carried s u) free_carried free_carried n v h f
  where
    truth : (b : Bool) → is_parameter_text Rfc5545 (boolean b) ≡ true → is_carried_value (boolean b) ≡ true
    truth true f = refl
    truth false f = refl

pub values_in : (ed : Edition) (p : Parameter) → ValidParameter ed p → (q : ℕ) → read_param_nodes p.name (placed (values_before p.values nothing) q no_nodes) ≡ Some p.values
values_in ed p c q = parameter_values_back p.name p.values c.chosen q

pub spelled_in : (ed : Edition) (p : Parameter) → ValidParameter ed p → (q : ℕ) → are_spelled ed (placed (values_before p.values nothing) q no_nodes) ≡ true
unfolding are_spelled
spelled_in Rfc5545 p c q =
    values_plain p.name p.values c.chosen
    (every_weaker _ is_carried_value (λ v h. let a = and_both (is_parameter_value (parameter_words p.name) (parameter_type p.name) v) _ h in value_carried p.name v a.0 a.1) p.values
    (every-and (is_parameter_value (parameter_words p.name) (parameter_type p.name)) (is_parameter_text Rfc5545) p.values c.chosen c.plain))
    q
spelled_in Rfc6868 p c q = refl

pub parameters_back : (ed : Edition) (ps : List Parameter) → every (is_valid_parameter ed) ps ≡ true → (q : ℕ) → read_parameter_nodes (placed (parameters_before ps nothing) q no_nodes) ≡ ps
unfolding parameters_before placed read_parameter_nodes read_or
parameters_back ed [] h q = refl
parameters_back ed (p ∷ ps) h q =
    let a = every_both (is_valid_parameter ed) p ps h in
    let c = valid_parameter ed p a.0 in
    rw (kept_back p.name c.kept, values_in ed p c) (ap (λ (l : List Parameter). p ∷ l) (parameters_back ed ps a.1 _))
