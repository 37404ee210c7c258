-- What a content line with no fault states can be written as a content line again: its names are names, and its free characters are such that a line can have.
--     line_accepted, line_property    what a line with no fault states is such a property
--     alone_is, status_parts, text_made, unknown_is    what a value was read from
use Rattle.std.specs.Prelude.{◌≡◌, Bool, not, List, [], ◌∷◌, map, ℕ, Option, None, Some, option_map}
use Rattle.std.proofs.Math.Path.{refl}
use Rattle.std.proofs.Common.{sym, ◌∙◌}
use Rattle.std.proofs.Math.Bool.{true, false}
use Rattle.std.proofs.lemmas.Bool.{false≢true, not-true}
use Rattle.octets.specs.Pick.{pick, ◌and◌, ◌or◌}
use Rattle.octets.specs.laws.Pick.{pick_second, and_yes, and_both}
use Rattle.octets.specs.Scan.{all_of}
use Rattle.octets.specs.Class.{upper}
use Rattle.octets.specs.Ascii.{ascii}
use Rattle.octets.specs.Words.{same, is_one_of, holds, cut_at, none_holds, is_empty}
use Rattle.octets.specs.laws.Words.{none_split, all_without}
use Rattle.octets.specs.Lists.{every}
use Rattle.octets.specs.laws.Lists.{every_weaker, every_map}
use Rattle.octets.specs.Reading.{read_or, read_each}
use Rattle.octets.specs.laws.Reading.{none-some, provided-some, and_then-some, each_accepted_of}
use Rattle.texts.specs.Text.{split_text, alone, read_text}
use Rattle.calendar.specs.Calendar.{ical, ValueType, TEXT, UNKNOWN, Value, text, unknown, request_status, type_of, Parameter}
use Rattle.schema.specs.Types.{same_type, is_type_of}
use Rattle.schema.specs.laws.Types.{same_type_self}
use Rattle.schema.specs.Properties.{permitted_types, is_listed_property, property_words}
use Rattle.schema.specs.Parameters.{parameter_type, parameter_words, is_quoted_parameter}
use Rattle.schema.specs.laws.Closed.{is_word_char, parameter_words_plain, property_words_plain}
use Rattle.numbers.specs.Geo.{read_geo}
use Rattle.numbers.specs.laws.Geo.{geo_accepted}
use Rattle.texts.specs.TextList.{read_texts}
use Rattle.texts.specs.RequestStatus.{status_of, read_request_status}
use Rattle.texts.specs.Unknown.{read_unknown}
use Rattle.texts.specs.laws.Unknown.{unknown_kept}
use Rattle.values.specs.ReadValue.{read_value}
use Rattle.values.specs.ReadBack.{is_typed}
use Rattle.values.specs.laws.ReadBack.{value_accepted}
use Rattle.values.specs.Valid.{is_property}
use Rattle.values.specs.Characters.{free_in, is_value_text}
use Rattle.values.specs.laws.Characters.{free_or_shown}
use Rattle.edition.specs.declared.Edition.{Edition}
use Rattle.edition.specs.declared.Edition.TheVariants.{Rfc5545, Rfc6868}
use Rattle.read_text_line.specs.ContentLine.{ParamValue, RawParameter, ContentLine, is_value_char, is_q_safe_char, is_safe_char, is_name, is_param_value, is_raw_parameter, is_content_line}
use Rattle.read_text_line.specs.laws.Chars.{safe_qsafe}
use Rattle.read_text_line.specs.Decoded.{decoded_value, decoded_parameter, decoded_line}
use Rattle.read_text_line.specs.laws.Decoded.{is_unbroken, is_spelled, decoded_spelled, map_empty}
use Rattle.read_text_line.specs.laws.Names.{name_upper}
use Rattle.validity.specs.ValidCalendar.{is_parameter_text}
use Rattle.validity.proofs.laws.ValidCalendar.{nothing_free}
use Rattle.text.specs.Parameters.{read_word, read_param_value, read_parameter, own_parameters, read_parameters}
use Rattle.text.specs.Values.{one_value, read_listed, read_chosen, read_values}
use Rattle.text.specs.Statement.{property_fault, property_of}
use Rattle.text.proofs.laws.Faults.{own_every}
use Rattle.text.proofs.laws.ParameterLaws.{has_value}
use Rattle.text.proofs.laws.AcceptedProperty.{parameter_read, no_fault, property_accepted}
use Rattle.text.proofs.laws.Pieces.{split_without, cut_without}

-- ---- the free characters of a value

none_one : (x : ℕ) (s : List ℕ) → holds x s ≡ false → none_holds x (s ∷ []) ≡ true
unfolding none_holds pick
none_one x s h = rw h

nothing_value : (v : Value) → free_in v ≡ [] → is_value_text v ≡ true
unfolding none_holds
nothing_value v e = rw e

word_whole : (s : List ℕ) → all_of is_word_char s ≡ true → is_value_text (text s) ≡ true
unfolding ◌or◌ ◌and◌
word_whole s h = none_one 13 s (all_without is_word_char 13 refl s h)

pub alone_is : (ps : List (List ℕ)) (s : List ℕ) → alone ps ≡ Some s → ps ≡ s ∷ []
alone_is [] s h = none-some h
alone_is (p ∷ []) s h = let q : p ≡ s = cc in rw q
alone_is (p ∷ q ∷ ps) s h = none-some h

text_free : (s x : List ℕ) → holds 13 s ≡ false → read_text s ≡ Some x → none_holds 13 (x ∷ []) ≡ true
text_free s x h e =
    let a = and_then-some (split_text 0 s) alone x e in
    rw (← (alone_is a.0 x a.2)) (split_without 13 0 s a.0 refl h a.1)

-- what a constructor was put to
pub text_made : (o : Option (List ℕ)) (x : List ℕ) → option_map text o ≡ Some (text x) → o ≡ Some x
text_made None x h = none-some h
text_made (Some y) x h = let q : y ≡ x = cc in rw q

unknown_made : (o : Option (List ℕ)) (x : List ℕ) → option_map unknown o ≡ Some (unknown x) → o ≡ Some x
unknown_made None x h = none-some h
unknown_made (Some y) x h = let q : y ≡ x = cc in rw q

-- a raw value is what stands there
pub unknown_is : (t : ValueType) (s x : List ℕ) → UNKNOWN ≡ t → read_value ical t s ≡ Some (unknown x) → s ≡ x
unfolding read_value
unknown_is t s x u h = unknown_kept s x (unknown_made (read_unknown s) x (rw (← u) at h))

typed_free : (t : ValueType) (s : List ℕ) (v : Value) → holds 13 s ≡ false → read_value ical t s ≡ Some v → is_value_text v ≡ true
unfolding read_value
typed_free t s v n h =
    let a = value_accepted ical t s v h in
    free_or_shown (λ v. is_typed v ≡ true → type_of v ≡ t → read_value ical t s ≡ Some v → is_value_text v ≡ true)
    (λ v e k y u h. nothing_value v e)
    (λ x y u h. text_free s x n (text_made (read_text s) x (rw (← u) at h)))
    (λ x k y u h. rw (← (unknown_is t s x u h)) (none_one 13 s n))
    (λ c d x y u h. absurd (false≢true y))
    v a.0 a.1 a.2 h

-- ---- the characters of a parameter's value in an edition

word_free : (ed : Edition) (s : List ℕ) → all_of is_word_char s ≡ true → is_parameter_text ed (text s) ≡ true
unfolding ◌or◌ ◌and◌
word_free Rfc5545 s h = and_yes _ _ (word_whole s h) (and_yes _ _ (none_one 10 s (all_without is_word_char 10 refl s h)) (none_one 34 s (all_without is_word_char 34 refl s h)))
word_free Rfc6868 s h = word_whole s h

spelled_free : (ed : Edition) (s : List ℕ) → all_of (is_spelled ed) s ≡ true → is_parameter_text ed (text s) ≡ true
unfolding ◌or◌ pick
spelled_free Rfc5545 s h = and_yes _ _ (none_one 13 s (all_without is_q_safe_char 13 refl s h)) (and_yes _ _ (none_one 10 s (all_without is_q_safe_char 10 refl s h)) (none_one 34 s (all_without is_q_safe_char 34 refl s h)))
spelled_free Rfc6868 s h = none_one 13 s (all_without is_unbroken 13 refl s h)

unknown_free : (ed : Edition) (s : List ℕ) → all_of (is_spelled ed) s ≡ true → is_parameter_text ed (unknown s) ≡ true
unknown_free Rfc5545 s h = spelled_free Rfc5545 s h
unknown_free Rfc6868 s h = spelled_free Rfc6868 s h

value_qsafe : (r : ParamValue) → is_param_value r ≡ true → all_of is_q_safe_char r.chars ≡ true
unfolding is_param_value pick
value_qsafe r h = go r.quoted h
  where
    go : (b : Bool) → pick b (all_of is_q_safe_char r.chars) (all_of is_safe_char r.chars) ≡ true → all_of is_q_safe_char r.chars ≡ true
    go true k = k
    go false k = safe_qsafe r.chars k

-- ---- values

one_free : (o : Option Value) (vs : List Value) → ((v : Value) → o ≡ Some v → is_value_text v ≡ true) → one_value o ≡ Some vs → every is_value_text vs ≡ true
unfolding every
one_free None vs f h = none-some h
one_free (Some v) vs f h = let e : v ∷ [] ≡ vs = cc in rw (← e) (and_yes _ _ (f v refl) refl)

geo_free : (s : List ℕ) (v : Value) → read_geo s ≡ Some v → is_value_text v ≡ true
unfolding none_holds
geo_free s v h = rw (geo_accepted s v h).both

pub status_parts : (ps : List (List ℕ)) (v : Value) → status_of ps ≡ Some v → free_in v ≡ ps
status_parts [] v h = none-some h
status_parts (c ∷ []) v h = none-some h
status_parts (c ∷ d ∷ []) v h = let q : request_status c d None ≡ v = cc in rw (← q)
status_parts (c ∷ d ∷ x ∷ []) v h = let q : request_status c d (Some x) ≡ v = cc in rw (← q)
status_parts (c ∷ d ∷ x ∷ y ∷ ps) v h = none-some h

status_free : (s : List ℕ) (v : Value) → holds 13 s ≡ false → read_request_status s ≡ Some v → is_value_text v ≡ true
status_free s v n h =
    let a = and_then-some (split_text 59 s) status_of v h in
    rw (status_parts a.0 v a.2) (split_without 13 59 s a.0 refl n a.1)

texts_free : (ts : List (List ℕ)) → none_holds 13 ts ≡ true → every is_value_text (map text ts) ≡ true
unfolding every
texts_free [] h = refl
texts_free (t ∷ ts) h = let e = none_split 13 t ts h in and_yes _ _ (none_one 13 t e.0) (texts_free ts e.1)

-- pieces that do not hold CR
is_whole : List ℕ → Bool
is_whole s = not (holds 13 s)

pieces_whole : (ps : List (List ℕ)) → none_holds 13 ps ≡ true → every is_whole ps ≡ true
unfolding every is_whole
pieces_whole [] h = refl
pieces_whole (p ∷ ps) h = let e = none_split 13 p ps h in and_yes _ _ (rw e.0) (pieces_whole ps e.1)

listed_free : (t : ValueType) (s : List ℕ) (vs : List Value) → holds 13 s ≡ false → read_listed t s ≡ Some vs → every is_value_text vs ≡ true
unfolding pick is_whole
listed_free t s vs n h = go (same_type t TEXT) h
  where
    texts : (o : Option (List (List ℕ))) → read_texts s ≡ o → option_map (map text) o ≡ Some vs → every is_value_text vs ≡ true
    texts None e k = none-some k
    texts (Some ts) e k = let q : map text ts ≡ vs = cc in rw (← q) (texts_free ts (split_without 13 44 s ts refl n e))

    go : (b : Bool) → pick b (option_map (map text) (read_texts s)) (read_each (read_value ical t) (cut_at 44 s)) ≡ Some vs → every is_value_text vs ≡ true
    go true k = texts (read_texts s) refl k
    go false k =
        each_accepted_of (read_value ical t) is_value_text is_whole (λ r v w e. typed_free t r v (not-true _ w) e) (cut_at 44 s) vs (pieces_whole (cut_at 44 s) (cut_without 13 44 s n)) k

chosen_free : (k n : List ℕ) (o : Option (List (List ℕ))) (t : ValueType) (s : List ℕ) (v : Value) → property_words k n ≡ o → holds 13 s ≡ false → read_chosen o t s ≡ Some v → is_value_text v ≡ true
chosen_free k n None t s v e c h = typed_free t s v c h
chosen_free k n (Some words) t s v e c h =
    let p = provided-some (is_one_of (upper s) words) (text (upper s)) v h in
    rw (← p.1) (word_whole (upper s) (and_both _ _ (and_both _ _ (property_words_plain k n words (upper s) e p.0)).1).0)

values_free : (k n : List ℕ) (t : ValueType) (s : List ℕ) (vs : List Value) → holds 13 s ≡ false → read_values k n t s ≡ Some vs → every is_value_text vs ≡ true
unfolding read_values pick
values_free k n t s vs c h =
    go (is_type_of t (permitted_types n)) (same n (ascii "GEO")) (same n (ascii "REQUEST-STATUS")) (is_listed_property n) h
  where
    go : (b g r l : Bool) → pick b (pick g (one_value (read_geo s)) (pick r (one_value (read_request_status s)) (pick l (read_listed t s) (one_value (read_chosen (property_words k n) t s))))) None ≡ Some vs →
        every is_value_text vs ≡ true
    go false g r l h = none-some h
    go true true r l h = one_free (read_geo s) vs (geo_free s) h
    go true false true l h = one_free (read_request_status s) vs (λ v e. status_free s v c e) h
    go true false false true h = listed_free t s vs c h
    go true false false false h = one_free (read_chosen (property_words k n) t s) vs (λ v e. chosen_free k n (property_words k n) t s v refl c e) h

module _ (ed : Edition) where
  -- what is read in an edition
  abbrev is_stated_value : ParamValue → Bool
  is_stated_value v = all_of (is_spelled ed) v.chars

  abbrev is_stated : RawParameter → Bool
  is_stated r = is_name r.name and pick (is_empty r.values) false (every is_stated_value r.values)

  value_stated : (v : ParamValue) → is_param_value v ≡ true → is_stated_value (decoded_value ed v) ≡ true
  value_stated v h = decoded_spelled ed v.chars (value_qsafe v h)

  raw_stated : (r : RawParameter) → is_raw_parameter r ≡ true → is_stated (decoded_parameter ed r) ≡ true
  unfolding is_raw_parameter pick
  raw_stated r h =
      let a = and_both (is_name r.name) _ h in
      let b = pick_second (is_empty r.values) _ a.1 in
      and_yes _ _ a.0 (rw (map_empty (decoded_value ed) r.values, b.0) (every_map is_stated_value (decoded_value ed) r.values ∙ every_weaker is_param_value (λ v. is_stated_value (decoded_value ed v)) value_stated r.values b.1))

  raws_stated : (rs : List RawParameter) → every is_raw_parameter rs ≡ true → every is_stated (map (decoded_parameter ed) rs) ≡ true
  raws_stated rs h = every_map is_stated (decoded_parameter ed) rs ∙ every_weaker is_raw_parameter (λ r. is_stated (decoded_parameter ed r)) raw_stated rs h

  -- ---- parameters

  other_free : (t : ValueType) (s : List ℕ) (v : Value) → same_type t TEXT ≡ false → all_of (is_spelled ed) s ≡ true → read_value ical t s ≡ Some v → is_parameter_text ed v ≡ true
  other_free t s v n q h =
      let a = value_accepted ical t s v h in
      free_or_shown (λ v. is_typed v ≡ true → type_of v ≡ t → read_value ical t s ≡ Some v → is_parameter_text ed v ≡ true)
      (λ v e k y u h. nothing_free ed v e)
      (λ x y u h. absurd (false≢true (sym n ∙ rw (← u) (same_type_self TEXT))))
      (λ x k y u h. rw (← (unknown_is t s x u h)) (unknown_free ed s q))
      (λ c d x y u h. absurd (false≢true y))
      v a.0 a.1 a.2 h

  word_read_free : (n : List ℕ) (o : Option (List (List ℕ))) (t : ValueType) (s : List ℕ) (v : Value) → parameter_words n ≡ o → all_of (is_spelled ed) s ≡ true → read_word o t s ≡ Some v → is_parameter_text ed v ≡ true
  unfolding pick
  word_read_free n None t s v e q h = go (same_type t TEXT) refl h
    where
      other : same_type t TEXT ≡ false → (b : Bool) → pick b (Some (unknown s)) (read_value ical t s) ≡ Some v → is_parameter_text ed v ≡ true
      other e true k = let u : unknown s ≡ v = cc in rw (← u) (unknown_free ed s q)
      other e false k = other_free t s v e q k

      go : (b : Bool) → same_type t TEXT ≡ b → pick b (Some (text s)) (pick (same_type t UNKNOWN) (Some (unknown s)) (read_value ical t s)) ≡ Some v → is_parameter_text ed v ≡ true
      go true e k = let u : text s ≡ v = cc in rw (← u) (spelled_free ed s q)
      go false e k = other e (same_type t UNKNOWN) k
  word_read_free n (Some words) t s v e q h =
      let p = provided-some (is_one_of (upper s) words) (text (upper s)) v h in
      rw (← p.1) (word_free ed (upper s) (and_both _ _ (and_both _ _ (parameter_words_plain n words (upper s) e p.0)).1).0)

  param_value_free : (n : List ℕ) (r : ParamValue) (v : Value) → is_stated_value r ≡ true → read_param_value n r ≡ Some v → is_parameter_text ed v ≡ true
  unfolding read_param_value pick
  param_value_free n r v q h = go (not r.quoted and is_quoted_parameter n) h
    where
      go : (b : Bool) → pick b None (read_word (parameter_words n) (parameter_type n) r.chars) ≡ Some v → is_parameter_text ed v ≡ true
      go true k = none-some k
      go false k = word_read_free n (parameter_words n) (parameter_type n) r.chars v refl q k

  -- what a line says of a parameter: its name is a name, and a line can have the free characters
  abbrev pub is_line_parameter : Parameter → Bool
  is_line_parameter p = is_name p.name and every (is_parameter_text ed) p.values

  parameter_line : (r : RawParameter) (p : Parameter) → is_stated r ≡ true → read_parameter r ≡ Some p → is_line_parameter p ≡ true
  parameter_line r p q h =
      let d = parameter_read r p h in
      let a = and_both (is_name r.name) _ q in
      and_yes _ _ (rw d.named (name_upper r.name a.0))
      (each_accepted_of (read_param_value (upper r.name)) (is_parameter_text ed) is_stated_value (λ v x k e. param_value_free (upper r.name) v x k e) r.values p.values (pick_second _ _ a.1).1 d.each)

  parameters_line : (rs : List RawParameter) (ps : List Parameter) → every is_stated rs ≡ true → read_parameters rs ≡ Some ps → every is_line_parameter ps ≡ true
  parameters_line rs ps q h = each_accepted_of read_parameter is_line_parameter is_stated parameter_line (own_parameters rs) ps (own_every is_stated rs q) h

  -- ---- the line

  pub line_accepted : (k : List ℕ) (l : ContentLine) → is_content_line l ≡ true → property_fault k (decoded_line ed l) ≡ None →
      (is_name (upper l.name) ≡ true) × (every is_line_parameter (property_of k (decoded_line ed l)).parameters ≡ true) × (every is_value_text (property_of k (decoded_line ed l)).values ≡ true)
  unfolding is_content_line property_of read_or pick ◌or◌
  line_accepted k l q h =
      let a = and_both (is_name l.name) _ q in
      let b = and_both (every is_raw_parameter l.parameters) _ a.1 in
      let f = no_fault k (decoded_line ed l) h in
      rw (f.stated, f.parameters_read, f.values_read) (
        name_upper l.name a.0,
        parameters_line (map (decoded_parameter ed) l.parameters) f.parameters (raws_stated l.parameters b.0) f.parameters_read,
        values_free k (upper l.name) f.type l.value f.values (all_without is_value_char 13 refl l.value b.1) f.values_read,
      )

  -- every parameter of a content line has a value
  raw_has_value : (r : RawParameter) → is_stated r ≡ true → has_value r ≡ true
  raw_has_value r h = rw (pick_second (is_empty r.values) _ (and_both _ _ h).1).0

  -- what such a line states is a property
  pub line_property : (k : List ℕ) (l : ContentLine) → is_content_line l ≡ true → property_fault k (decoded_line ed l) ≡ None → is_property k (property_of k (decoded_line ed l)) ≡ true
  unfolding is_content_line
  line_property k l q h = property_accepted k (decoded_line ed l) (every_weaker is_stated has_value raw_has_value _ (raws_stated l.parameters (and_both _ _ (and_both _ _ q).1).0)) h
