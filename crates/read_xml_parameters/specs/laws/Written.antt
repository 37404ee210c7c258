-- Laws of what specs/Written.antt defines.
--     shown_is    it is the text of the value that was read
--     list_is    they are the text of the values that were read
--     quoted_.., truth_.., value-put-.., item_.., values_..    for code
use Rattle.std.specs.Prelude.{◌≡◌, Bool, not, ℕ, ◌*◌, ◌^◌, ◌<◌, length, Option, None, Some, option_map}
use Rattle.std.proofs.Math.Path.{refl}
use Rattle.std.proofs.Common.{sym, ◌∙◌, eq-eqb, ne_eqb}
use Rattle.std.proofs.Math.Bool.{true, false}
use Rattle.std.proofs.lemmas.Bool.{false≢true}
use mathlib.Core.List.{List, [], ◌∷◌}
use Rattle.octets.specs.Ascii.{ascii}
use Rattle.octets.specs.Pick.{pick, ◌or◌}
use Rattle.octets.specs.laws.Pick.{or_take, or_skip}
use Rattle.octets.specs.Append.{◌⊕◌}
use Rattle.octets.specs.laws.Append.{append_empty}
use Rattle.octets.specs.Words.{holds, is_one_of, joined_by, each_after}
use Rattle.octets.specs.Lists.{every}
use Rattle.octets.specs.Reading.{is_read, read_or}
use Rattle.octets.specs.laws.Reading.{none-some}
use Rattle.octets.specs.Computing.{octets_compute}
use Rattle.calendar.specs.Calendar.{ical, xcal, ValueType, BINARY, BOOLEAN, CAL-ADDRESS, DATE, DATE-TIME, DURATION, FLOAT, INTEGER, PERIOD, RECUR, TEXT, TIME, URI, UTC-OFFSET, UNKNOWN, Value, boolean, cal_address, text, uri, unknown}
use Rattle.sink.specs.Sink.{Put}
use Rattle.sink.specs.laws.Sink.{put_none, put_yes, put_no, ◌▷◌}
use Rattle.numbers.specs.Boolean.{read_boolean, write_boolean}
use Rattle.texts.specs.Uri.{is_uri}
use Rattle.texts.specs.Quoting.{needs_quotes}
use Rattle.schema.specs.Types.{type_place, same_type}
use Rattle.schema.specs.laws.Types.{same_type_true}
use Rattle.schema.specs.Parameters.{ParameterRow, parameter_table, unrecognised_parameter}
use Rattle.schema.specs.Numbers.{parameter_at}
use Rattle.schema.specs.laws.Cells.{at_passes}
use Rattle.edition.specs.Edition.{encode}
use Rattle.edition.specs.Computing.{edition_compute}
use Rattle.edition.specs.declared.Edition.{Edition}
use Rattle.edition.specs.declared.Edition.TheVariants.{Rfc5545, Rfc6868}
use Rattle.read_text_line.specs.Write.{write_param_value}
use Rattle.read_text_line.specs.Decoded.{encoded_value}
use Rattle.values.specs.ReadValue.{read_value}
use Rattle.values.specs.WriteValue.{write_value}
use Rattle.text.specs.WriteText.{param_chars}
use Rattle.xml.specs.Nodes.{Nodes, no_nodes, element, literal, referred, characters_of, has_element}
use Rattle.xcal.specs.ParameterNodes.{read_word_in}
use Rattle.read_xml_parameters.specs.Rows.{row_at, read_leaf, read_leaves}
use Rattle.read_xml_parameters.specs.laws.Rows.{literal_read, element_read}
use Rattle.read_xml_parameters.specs.Several.{all_values}
use Rattle.read_xml_parameters.specs.laws.Several.{all_read}
use Rattle.read_xml_parameters.specs.Written.{row_value, truth_shown, plain_shown, value_shown, item_shown, list_shown, texts, values_shown, quoted_at}

-- ---- one value

-- what the schema's parameters take: words, or one of five types, BOOLEAN with no quotes
abbrev usual : Option (List (List ℕ)) → ValueType → Bool → Bool
usual (Some ws) t z = same_type t TEXT
usual None BINARY z = false
usual None BOOLEAN z = not z
usual None CAL-ADDRESS z = true
usual None DATE z = false
usual None DATE-TIME z = false
usual None DURATION z = false
usual None FLOAT z = false
usual None INTEGER z = false
usual None PERIOD z = false
usual None RECUR z = false
usual None TEXT z = true
usual None TIME z = false
usual None URI z = true
usual None UTC-OFFSET z = false
usual None UNKNOWN z = true

abbrev is_usual : ParameterRow → Bool
is_usual r = usual r.words r.type r.quoted

rows_usual : every is_usual parameter_table ≡ true
unfolding octets_compute same_type
rows_usual = refl

row_usual : (q : ℕ) → is_usual (row_at q) ≡ true
unfolding row_at
row_usual q = at_passes is_usual unrecognised_parameter parameter_table q rows_usual refl

-- TRUE and FALSE have no carets
true_encoded : (ed : Edition) → encode ed (ascii "TRUE") ≡ ascii "TRUE"
unfolding edition_compute
true_encoded Rfc5545 = refl
true_encoded Rfc6868 = refl

false_encoded : (ed : Edition) → encode ed (ascii "FALSE") ≡ ascii "FALSE"
unfolding edition_compute
false_encoded Rfc5545 = refl
false_encoded Rfc6868 = refl

-- ---- all values

-- values with commas between them; before each of them, where they are later ones
abbrev commas : Bool → List (List ℕ) → List ℕ
commas true ws = each_after 44 ws
commas false ws = joined_by 44 ws

-- ---- for code

module _ (q : ℕ) (l : List ℕ) {a : Bool} (e : a ≡ (parameter_at q).quoted) where
  pub quoted_always : a ≡ true → true ≡ quoted_at q l
  unfolding quoted_at row_at
  quoted_always h = or_take _ _ (sym e ∙ h)

  module _ {b : Bool} (h : a ≡ false) (f : b ≡ holds 58 l) where
    pub quoted_colon : b ≡ true → true ≡ quoted_at q l
    unfolding quoted_at row_at
    quoted_colon k = or_skip _ _ _ (sym e ∙ h) (or_take _ _ (sym f ∙ k))

    module _ {c : Bool} (k : b ≡ false) (g : c ≡ holds 59 l) where
      pub quoted_semicolon : c ≡ true → true ≡ quoted_at q l
      unfolding quoted_at row_at
      quoted_semicolon m = or_skip _ _ _ (sym e ∙ h) (or_skip _ _ _ (sym f ∙ k) (or_take _ _ (sym g ∙ m)))

      pub quoted_comma : {d : Bool} → c ≡ false → d ≡ holds 44 l → d ≡ quoted_at q l
      unfolding quoted_at row_at
      quoted_comma m p = or_skip _ _ _ (sym e ∙ h) (or_skip _ _ _ (sym f ∙ k) (or_skip _ _ _ (sym g ∙ m) p))

pub truth_put : {d e : List ℕ} {o n : ℕ} (l : List ℕ) {r : Option Bool} {b : Bool} → read_boolean xcal l ≡ r → r ≡ Some b → Put d e o n (write_boolean ical b) → Put d e o n (truth_shown l)
unfolding truth_shown
truth_put l k h p = rw (k, h) p

pub truth_none : {d : List ℕ} {o : ℕ} (l : List ℕ) {r : Option Bool} → read_boolean xcal l ≡ r → r ≡ None → length d * 1 < 2 ^ 63 → Put d d o o (truth_shown l)
unfolding truth_shown
truth_none {d} {o} l k h z = rw (k, h) (put_none d o z)

read : (q : ℕ) (kids : Nodes) {a : Bool} → a ≡ all_values (row_at q) kids → a ≡ is_read (read_leaves (row_at q) kids)
read q kids e = e ∙ sym (all_read (row_at q) kids)

module _ (ed : Edition) where
  module _ (l : List ℕ) (v : Value) where
    -- a type whose characters are kept
    kept : (z t : Bool) (make : List ℕ → Value) → param_chars (make l) ≡ l → option_map make (pick t (Some l) None) ≡ Some v → plain_shown ed z l ≡ write_param_value (encoded_value ed (record { quoted = z or needs_quotes (param_chars v); chars = param_chars v }))
    unfolding pick
    kept z true make k e = let y : make l ≡ v = cc in rw (← y, k)
    kept z false make k e = none-some e

    truth : (o : Option Bool) → read_boolean xcal l ≡ o → option_map boolean o ≡ Some v → truth_shown l ≡ write_param_value (encoded_value ed (record { quoted = false or needs_quotes (param_chars v); chars = param_chars v }))
    unfolding truth_shown write_param_value write_value read_or octets_compute
    truth None e h = none-some h
    truth (Some true) e h = let y : boolean true ≡ v = cc in rw (e, ← y, true_encoded ed)
    truth (Some false) e h = let y : boolean false ≡ v = cc in rw (e, ← y, false_encoded ed)

    by_type : (o : Option (List (List ℕ))) (t : ValueType) (z : Bool) → usual o t z ≡ true → read_word_in o t l ≡ Some v →
        pick (same_type t BOOLEAN) (truth_shown l) (plain_shown ed z l) ≡ write_param_value (encoded_value ed (record { quoted = z or needs_quotes (param_chars v); chars = param_chars v }))
    unfolding read_value write_value same_type pick read_or
    by_type (Some ws) t z u h = rw (same_type_true t TEXT u) (kept z (is_one_of l ws) text refl (words (is_one_of l ws) h))
      where
        words : (b : Bool) → pick b (Some (text l)) None ≡ Some v → option_map text (pick b (Some l) None) ≡ Some v
        words true e = e
        words false e = e
    by_type None BINARY z u h = absurd (false≢true u)
    by_type None BOOLEAN false u h = truth (read_boolean xcal l) refl h
    by_type None BOOLEAN true u h = absurd (false≢true u)
    by_type None CAL-ADDRESS z u h = kept z (is_uri l) cal_address refl h
    by_type None DATE z u h = absurd (false≢true u)
    by_type None DATE-TIME z u h = absurd (false≢true u)
    by_type None DURATION z u h = absurd (false≢true u)
    by_type None FLOAT z u h = absurd (false≢true u)
    by_type None INTEGER z u h = absurd (false≢true u)
    by_type None PERIOD z u h = absurd (false≢true u)
    by_type None RECUR z u h = absurd (false≢true u)
    by_type None TEXT z u h = kept z true text refl h
    by_type None TIME z u h = absurd (false≢true u)
    by_type None URI z u h = kept z (is_uri l) uri refl h
    by_type None UTC-OFFSET z u h = absurd (false≢true u)
    by_type None UNKNOWN z u h = kept z true unknown refl h

  pub shown_is : (q : ℕ) (kids : Nodes) (v : Value) → read_leaf (row_at q) kids ≡ Some v → value_shown ed (row_at q) (characters_of kids) ≡ write_param_value (encoded_value ed (row_value (row_at q) v))
  unfolding read_leaf value_shown pick
  shown_is q kids v h = go (has_element kids) h
    where
      go : (t : Bool) → pick t None (read_word_in (row_at q).words (row_at q).type (characters_of kids)) ≡ Some v → value_shown ed (row_at q) (characters_of kids) ≡ write_param_value (encoded_value ed (row_value (row_at q) v))
      go true e = none-some e
      go false e = by_type (characters_of kids) v (row_at q).words (row_at q).type (row_at q).quoted (row_usual q) e

  list_is : (q : ℕ) (later : Bool) (kids : Nodes) (vs : List Value) → read_leaves (row_at q) kids ≡ Some vs → list_shown ed (row_at q) later kids ≡ commas later (texts ed (row_at q) vs)
  unfolding read_leaves list_shown item_shown each_after joined_by pick ◌⊕◌
  list_is q true no_nodes vs h = let z : [] ≡ vs = cc in rw (← z)
  list_is q false no_nodes vs h = let z : [] ≡ vs = cc in rw (← z)
  list_is q later (literal p b more) vs h = list_is q later more vs (literal_read (row_at q) vs p b more h)
  list_is q later (referred p bs more) vs h = none-some h
  list_is q later (element p m x kids more) vs h =
      let a = element_read (row_at q) vs p m x kids more h in
      rw (← a.4, list_is q true more a.2 a.3) (go later (shown_is q kids a.0 a.1) (texts ed (row_at q) a.2))
    where
      go : (b : Bool) {w : List ℕ} → value_shown ed (row_at q) (characters_of kids) ≡ w → (ws : List (List ℕ)) → item_shown ed (row_at q) b (characters_of kids) ⊕ each_after 44 ws ≡ commas b (w ∷ ws)
      go true e ws = rw e
      go false e ws = rw e

  module _ {d e : List ℕ} {o n : ℕ} (q : ℕ) (l : List ℕ) where
    pub plain_put : {b : Bool} → b ≡ quoted_at q l → Put d e o n (write_param_value (encoded_value ed (record { quoted = b; chars = l }))) → Put d e o n (plain_shown ed (row_at q).quoted l)
    unfolding quoted_at
    plain_put h p = rw h at p

    module _ (kids : Nodes) {t : ℕ} (i : l ≡ characters_of kids) (h : t ≡ type_place (parameter_at q).type) where
      pub value_truth : t ≡ 1 → Put d e o n (truth_shown l) → Put d e o n (value_shown ed (row_at q) (characters_of kids))
      unfolding value_shown row_at same_type
      value_truth k p = rw (← i) (put_yes _ _ _ (eq-eqb _ _ (sym h ∙ k)) p)

      pub value_plain : (t ≡ 1 → ⊥) → Put d e o n (plain_shown ed (row_at q).quoted l) → Put d e o n (value_shown ed (row_at q) (characters_of kids))
      unfolding value_shown row_at same_type
      value_plain k p = rw (← i) (put_no _ _ _ (ne_eqb _ _ (λ z. k (h ∙ z))) p)

  module _ {d f : List ℕ} {o n : ℕ} (r : ParameterRow) (l : List ℕ) {later : Bool} where
    pub item_later : {e : List ℕ} {a : ℕ} → later ≡ true → Put d e o a (44 ∷ []) → Put e f a n (value_shown ed r l) → Put d f o n (item_shown ed r later l)
    unfolding item_shown pick
    item_later h x y = rw h (x ▷ y)

    pub item_first : later ≡ false → Put d f o n (value_shown ed r l) → Put d f o n (item_shown ed r later l)
    unfolding item_shown pick
    item_first h x = rw (h, append_empty (value_shown ed r l)) x

  module _ (q : ℕ) (kids : Nodes) {a : Bool} (e : a ≡ all_values (row_at q) kids) where
    pub values_put : {d f : List ℕ} {o n : ℕ} → a ≡ true → Put d f o n (list_shown ed (row_at q) false kids) → Put d f o n (values_shown ed (row_at q) kids)
    unfolding values_shown is_read read_or
    values_put {d} {f} {o} {n} h p = go (read_leaves (row_at q) kids) refl (sym (read q kids e) ∙ h)
      where
        go : (v : Option (List Value)) → read_leaves (row_at q) kids ≡ v → is_read v ≡ true → Put d f o n (joined_by 44 (texts ed (row_at q) (read_or [] v)))
        go None i k = absurd (false≢true k)
        go (Some vs) i k = rw (← (list_is q false kids vs i)) p

    pub values_unread : {d : List ℕ} {o : ℕ} → a ≡ false → length d * 1 < 2 ^ 63 → Put d d o o (values_shown ed (row_at q) kids)
    unfolding values_shown is_read read_or joined_by
    values_unread {d} {o} h z = go (read_leaves (row_at q) kids) (sym (read q kids e) ∙ h)
      where
        go : (v : Option (List Value)) → is_read v ≡ false → Put d d o o (joined_by 44 (texts ed (row_at q) (read_or [] v)))
        go None k = put_none d o z
        go (Some vs) k = absurd (false≢true (sym k))
