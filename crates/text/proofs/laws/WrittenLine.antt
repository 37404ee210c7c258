-- The lines of a calendar as bytes: no CR stands in one, none begins with a blank, and their characters are well formed.
--     line_passes      what holds of bytes that show, and of joined bytes where it holds of both, holds of a content line where it holds of its values
--     is_good_line     such a line;   begin_good, end_good, property_good
use Rattle.std.specs.Prelude.{◌≡◌, Bool, false, not, ℕ, Option, None, Some}
use Rattle.std.proofs.Math.Path.{refl}
use Rattle.std.proofs.Common.{◌∙◌, arith, ne_eqb}
use Rattle.std.proofs.Math.Bool.{true}
use Rattle.std.proofs.lemmas.Bool.{false≢true}
use mathlib.Core.List.{List, [], ◌∷◌, map}
use Rattle.octets.specs.Ascii.{ascii}
use Rattle.octets.specs.Pick.{pick, ◌and◌, ◌or◌}
use Rattle.octets.specs.laws.Pick.{pick_either, pick_second, and_yes, and_both, and_no_left, or_no, within_range}
use Rattle.octets.specs.Scan.{all_of}
use Rattle.octets.specs.laws.Scan.{all_cons, all_split, all_append, all_weaker}
use Rattle.octets.specs.Append.{◌⊕◌, joined}
use Rattle.octets.specs.Class.{is_name_char, is_visible}
use Rattle.octets.specs.laws.Class.{name_char_visible}
use Rattle.octets.specs.Words.{starts, holds, each_after, joined_by}
use Rattle.octets.specs.laws.Words.{holds_neither, all_without}
use Rattle.octets.specs.Lists.{every}
use Rattle.octets.specs.laws.Lists.{every_both, every_weaker, every_map}
use Rattle.octets.specs.Reading.{read_or}
use Rattle.octets.specs.Computing.{octets_compute}
use Rattle.calendar.specs.Calendar.{ValueType, Value, unknown, text_in, Parameter, Property}
use Rattle.schema.specs.Types.{type_name, same_type}
use Rattle.schema.specs.laws.Types.{type_name_is_name}
use Rattle.schema.specs.Parameters.{parameter_type, parameter_words}
use Rattle.schema.specs.Properties.{default_type}
use Rattle.utf8.specs.Utf8.{is_ascii, first_bad, well_formed}
use Rattle.utf8.specs.laws.Utf8.{well_formed_good, good_well_formed, good_append, visible_good}
use Rattle.folding.specs.Unfold.{blank_at}
use Rattle.values.specs.WriteValue.{write_value, write_values, type_of_all}
use Rattle.values.specs.ReadBack.{is_value}
use Rattle.values.specs.Valid.{is_parameter_value, is_property_value, are_values_of}
use Rattle.values.specs.laws.Valid.{text_in_lem, parameter_value_valid, property_value_valid}
use Rattle.read_text_line.specs.ContentLine.{ParamValue, RawParameter, ContentLine, is_value_char, is_q_safe_char, is_safe_char, is_name, is_param_value, is_raw_parameter, is_content_line}
use Rattle.read_text_line.specs.Write.{write_param_value, write_parameter, write_content_line}
use Rattle.edition.specs.declared.Edition.{Edition}
use Rattle.read_text_line.specs.Decoded.{encoded_value, encoded_parameter, encoded_line}
use Rattle.validity.specs.ValidCalendar.{is_permitted, is_valid_parameter, is_valid_property}
use Rattle.validity.proofs.laws.ValidCalendar.{kept_parts, name_visible, valid_parameter, ValidProperty, valid_property}
use Rattle.text.specs.WriteText.{param_chars, param_value_of, raw_of, value_parameter, with_value, content_line_of}
use Rattle.text.proofs.laws.LineLaws.{line_is_line}
use Rattle.text.proofs.laws.EscapedCharacters.{joined_good, value_good}
use Rattle.text.proofs.laws.Carets.{encode_good}
use Rattle.text.proofs.laws.TreeBack.{begin_of, end_of, line_of, begin_name, end_name}

-- ---- what holds of a line

module _ (G : List ℕ → Type 0) (shown : (s : List ℕ) → all_of is_visible s ≡ true → G s) (both : (a b : List ℕ) → G a → G b → G (a ⊕ b)) where
  marked : (c : ℕ) (s : List ℕ) → is_visible c ≡ true → G s → G (c ∷ s)
  unfolding ◌⊕◌ all_of
  marked c s v g = both (c ∷ []) s (shown (c ∷ []) (all_cons is_visible c [] v refl)) g

  module _ (q : ParamValue → Bool) (each : (v : ParamValue) → q v ≡ true → G v.chars) where
    abbrev is_passing : RawParameter → Bool
    is_passing r = is_name r.name and every q r.values

    value_passes : (v : ParamValue) → q v ≡ true → G (write_param_value v)
    unfolding write_param_value ◌and◌
    value_passes v h = pick_either G v.quoted _ _ (marked 34 _ refl (both v.chars (34 ∷ []) (each v h) (marked 34 [] refl (shown [] empty)))) (each v h)
      where
        empty : all_of is_visible [] ≡ true
        empty = unfold all_of in refl

    after_passes : (vs : List ParamValue) → every q vs ≡ true → G (each_after 44 (map write_param_value vs))
    unfolding each_after ◌and◌ all_of
    after_passes [] h = shown [] refl
    after_passes (v ∷ vs) h = let e = every_both q v vs h in marked 44 _ refl (both _ _ (value_passes v e.0) (after_passes vs e.1))

    values_pass : (vs : List ParamValue) → every q vs ≡ true → G (joined_by 44 (map write_param_value vs))
    unfolding joined_by all_of
    values_pass [] h = shown [] refl
    values_pass (v ∷ vs) h = let e = every_both q v vs h in both _ _ (value_passes v e.0) (after_passes vs e.1)

    parameter_passes : (r : RawParameter) → is_passing r ≡ true → G (write_parameter r)
    unfolding write_parameter ◌and◌
    parameter_passes r h =
        let e = and_both (is_name r.name) _ h in
        marked 59 _ refl (both _ _ (shown _ (name_visible r.name e.0)) (marked 61 _ refl (values_pass r.values e.1)))

    parameters_pass : (rs : List RawParameter) → every is_passing rs ≡ true → G (joined (map write_parameter rs))
    unfolding joined all_of
    parameters_pass [] h = shown [] refl
    parameters_pass (r ∷ rs) h = let e = every_both is_passing r rs h in both _ _ (parameter_passes r e.0) (parameters_pass rs e.1)

    pub line_passes : (l : ContentLine) → is_name l.name ≡ true → every is_passing l.parameters ≡ true → G l.value → G (write_content_line l)
    unfolding write_content_line ◌and◌
    line_passes l n p v = both _ _ (shown _ (name_visible l.name n)) (both _ _ (parameters_pass l.parameters p) (marked 58 _ refl v))

-- ---- no CR

visible_no_return : (s : List ℕ) → all_of is_visible s ≡ true → holds 13 s ≡ false
unfolding ◌and◌
visible_no_return s h = all_without is_visible 13 refl s h

param_value_no_return : (v : ParamValue) → is_param_value v ≡ true → holds 13 v.chars ≡ false
unfolding is_param_value pick ◌or◌
param_value_no_return v h = go v.quoted h
  where
    go : (b : Bool) → pick b (all_of is_q_safe_char v.chars) (all_of is_safe_char v.chars) ≡ true → holds 13 v.chars ≡ false
    go true k = all_without is_q_safe_char 13 refl v.chars k
    go false k = all_without is_safe_char 13 refl v.chars k

raw_passes : (r : RawParameter) → is_raw_parameter r ≡ true → (is_name r.name and every is_param_value r.values) ≡ true
unfolding is_raw_parameter
raw_passes r h = let e = and_both (is_name r.name) _ h in and_yes _ _ e.0 (pick_second _ _ e.1).1

pub line_no_return : (l : ContentLine) → is_content_line l ≡ true → holds 13 (write_content_line l) ≡ false
unfolding is_content_line pick ◌or◌
line_no_return l h =
    let a = and_both (is_name l.name) _ h in
    let b = and_both (every is_raw_parameter l.parameters) _ a.1 in
    line_passes (λ s. holds 13 s ≡ false) visible_no_return (holds_neither 13) is_param_value param_value_no_return l a.0
    (every_weaker is_raw_parameter _ raw_passes l.parameters b.0) (all_without is_value_char 13 refl l.value b.1)

-- ---- no blank in front

byte_no_blank : (b : ℕ) (s : List ℕ) → is_visible b ≡ true → blank_at (b ∷ s) ≡ false
unfolding blank_at starts
byte_no_blank b s h =
    let r = within_range 33 126 b h in
    or_no _ _ (and_no_left _ _ (ne_eqb 32 b (λ e. omega arith))) (and_no_left _ _ (ne_eqb 9 b (λ e. omega arith)))

name_no_blank : (n r : List ℕ) → is_name n ≡ true → blank_at (n ⊕ r) ≡ false
unfolding is_name ◌⊕◌ pick
name_no_blank [] r h = absurd (false≢true h)
name_no_blank (b ∷ n) r h = byte_no_blank b (n ⊕ r) (name_char_visible b (all_split is_name_char b n h).0)

-- ---- characters

param_chars_good : (v : Value) → is_value v ≡ true → is_permitted v ≡ true → first_bad (param_chars v) ≡ None
unfolding read_or
param_chars_good v h g = go (text_in v) refl
  where
    go : (x : Option (List ℕ)) → text_in v ≡ x → first_bad (read_or (write_value v) x) ≡ None
    go None e = value_good v h g
    go (Some s) e = well_formed_good s (every_both well_formed s [] (rw (text_in_lem v s e) at g)).0

unknown_good : (s : List ℕ) → is_permitted (unknown s) ≡ true → first_bad (param_chars (unknown s)) ≡ None
unfolding read_or write_value
unknown_good s g = well_formed_good s (every_both well_formed s [] g).0

abbrev pub is_good_chars : ParamValue → Bool
is_good_chars v = well_formed v.chars

abbrev is_good_raw : RawParameter → Bool
is_good_raw r = is_name r.name and every is_good_chars r.values

chars_good : (n : List ℕ) (vs : List Value) → every (is_parameter_value (parameter_words n) (parameter_type n)) vs ≡ true → every is_permitted vs ≡ true → every is_good_chars (map (param_value_of n) vs) ≡ true
unfolding every
chars_good n [] h g = refl
chars_good n (v ∷ vs) h g =
    let a = every_both (is_parameter_value (parameter_words n) (parameter_type n)) v vs h in
    let b = every_both is_permitted v vs g in
    and_yes _ _ (good_well_formed _ (parameter_value_valid (λ v. is_permitted v ≡ true → first_bad (param_chars v) ≡ None) unknown_good param_chars_good (parameter_words n) (parameter_type n) v a.0 b.0)) (chars_good n vs a.1 b.1)

raw_good : (ed : Edition) (p : Parameter) → is_valid_parameter ed p ≡ true → is_good_raw (raw_of p) ≡ true
raw_good ed p h =
    let v = valid_parameter ed p h in
    and_yes _ _ (kept_parts p.name v.kept).1 (chars_good p.name p.values v.chosen v.permitted)

raws_good : (ed : Edition) (ps : List Parameter) → every (is_valid_parameter ed) ps ≡ true → every is_good_raw (map raw_of ps) ≡ true
raws_good ed ps h = every_map is_good_raw raw_of ps ∙ every_weaker (is_valid_parameter ed) (λ p. is_good_raw (raw_of p)) (raw_good ed) ps h

-- and where its values are encoded
value_encoded : (ed : Edition) (v : ParamValue) → is_good_chars v ≡ true → is_good_chars (encoded_value ed v) ≡ true
value_encoded ed v h = good_well_formed _ (encode_good ed v.chars (well_formed_good v.chars h))

raw_encoded : (ed : Edition) (r : RawParameter) → is_good_raw r ≡ true → is_good_raw (encoded_parameter ed r) ≡ true
raw_encoded ed r h =
    let a = and_both (is_name r.name) _ h in
    and_yes _ _ a.0 (every_map is_good_chars (encoded_value ed) r.values ∙ every_weaker is_good_chars (λ v. is_good_chars (encoded_value ed v)) (value_encoded ed) r.values a.1)

value_name : is_name (ascii "VALUE") ≡ true
unfolding octets_compute is_name
value_name = refl

type_good : (t : ValueType) → is_good_raw (value_parameter t) ≡ true
unfolding every
type_good t = and_yes _ _ value_name (and_yes _ _ (good_well_formed _ (visible_good _ (all_weaker is_name_char is_visible name_char_visible (type_name t) (type_name_is_name t)))) refl)

with_value_good : (n : List ℕ) (t : ValueType) (rs : List RawParameter) → every is_good_raw rs ≡ true → every is_good_raw (with_value n t rs) ≡ true
unfolding with_value every
with_value_good n t rs h = pick_either (λ (l : List RawParameter). every is_good_raw l ≡ true) (same_type t (default_type n)) rs (value_parameter t ∷ rs) h (and_yes _ _ (type_good t) h)

values_good : (k n : List ℕ) (t : ValueType) (vs : List Value) → every (is_property_value k n t) vs ≡ true → every is_permitted vs ≡ true → every well_formed (map write_value vs) ≡ true
unfolding every
values_good k n t [] h g = refl
values_good k n t (v ∷ vs) h g =
    let a = every_both (is_property_value k n t) v vs h in
    let b = every_both is_permitted v vs g in
    and_yes _ _ (good_well_formed _ (value_good v (property_value_valid k n t v a.0) b.0)) (values_good k n t vs a.1 b.1)

pub comma_ascii : is_ascii 44 ≡ true
unfolding ◌and◌ ◌or◌
comma_ascii = refl

line_good : (ed : Edition) (k : List ℕ) (p : Property) → ValidProperty ed k p → first_bad (line_of ed p) ≡ None
unfolding are_values_of content_line_of write_values
line_good ed k p s =
    line_passes (λ s. first_bad s ≡ None) visible_good good_append is_good_chars (λ v h. well_formed_good v.chars h) (encoded_line ed (content_line_of p)) (kept_parts p.name s.kept).1
    (every_map is_good_raw (encoded_parameter ed) _ ∙ every_weaker is_good_raw (λ r. is_good_raw (encoded_parameter ed r)) (raw_encoded ed) _ (with_value_good p.name _ _ (raws_good ed p.parameters s.parameters)))
    (joined_good 44 (map write_value p.values) comma_ascii (values_good k p.name (type_of_all p.values) p.values (and_both _ _ (and_both _ _ s.values).1).1 s.permitted))

-- ---- lines

unfoldable pub is_good_line : List ℕ → Bool
is_good_line s = not (holds 13 s) and not (blank_at s) and well_formed s

good_line : (s : List ℕ) → holds 13 s ≡ false → blank_at s ≡ false → first_bad s ≡ None → is_good_line s ≡ true
unfolding is_good_line
good_line s a b c = and_yes _ _ (rw a) (and_yes _ _ (rw b) (good_well_formed s c))

shown_good : (n k : List ℕ) → is_name n ≡ true → all_of is_visible k ≡ true → is_good_line (n ⊕ (58 ∷ k)) ≡ true
unfolding ◌and◌
shown_good n k a h =
    let v : all_of is_visible (n ⊕ (58 ∷ k)) ≡ true = all_append is_visible n (58 ∷ k) (name_visible n a) (all_cons is_visible 58 k refl h) in
    good_line _ (visible_no_return _ v) (name_no_blank n (58 ∷ k) a) (visible_good _ v)

pub begin_good : (k : List ℕ) → all_of is_visible k ≡ true → is_good_line (begin_of k) ≡ true
unfolding ◌⊕◌
begin_good k h = shown_good (ascii "BEGIN") k begin_name h

pub end_good : (k : List ℕ) → all_of is_visible k ≡ true → is_good_line (end_of k) ≡ true
unfolding ◌⊕◌
end_good k h = shown_good (ascii "END") k end_name h

pub property_good : (ed : Edition) (k : List ℕ) (p : Property) → is_valid_property ed k p ≡ true → is_good_line (line_of ed p) ≡ true
unfolding is_content_line write_content_line
property_good ed k p h =
    let s = valid_property ed k p h in
    let l = line_is_line ed k p s in
    good_line (line_of ed p) (line_no_return (encoded_line ed (content_line_of p)) l) (name_no_blank (content_line_of p).name _ (and_both _ _ l).0) (line_good ed k p s)
