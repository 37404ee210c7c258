-- A value, a parameter and all parameters of a line, each written by its parts.
--     put_truth, put_no_truth           RSVP
--     put_good, put_bad                 a value of another type
--     put_word, put_raw, put_unknown, put_typed      a value, by what its parameter takes;   no_recur: it is no RECUR
--     put_several, put_alone, put_no_first     the values of a parameter
--     put_parameter                     a parameter
--     least_value, least_member         a slice cut at its length, or before
--     put_unread, put_shown             the object, or an empty one
use Rattle.std.specs.Prelude.{◌≡◌, Bool, not, ℕ, min, ◌≤◌, length, take, Option, None, Some, is_some, Result, Ok, Err}
use Rattle.std.proofs.Math.Path.{refl, ap}
use Rattle.std.proofs.Common.{sym, ◌∙◌, subst, arith, eq-eqb, ne_eqb}
use Rattle.std.proofs.Math.Bool.{true, false}
use Rattle.std.proofs.lemmas.Bool.{false≢true}
use mathlib.Core.List.{List, [], ◌∷◌, map}
use Rattle.std.proofs.Math.Decide.{dec_le}
use Rattle.std.proofs.Math.ListN.{get_or-eq_default}
use Rattle.octets.specs.Ascii.{ascii}
use Rattle.octets.specs.laws.Scan.{take_least}
use Rattle.octets.specs.Append.{◌⊕◌}
use Rattle.octets.specs.laws.Append.{append_regroup}
use Rattle.octets.specs.Class.{upper, lower}
use Rattle.octets.specs.Words.{is_empty, each_after, joined_by}
use Rattle.octets.specs.Computing.{octets_compute}
use Rattle.octets.specs.Reading.{is_read, read_or, or_nothing}
use Rattle.calendar.specs.Calendar.{ical, BOOLEAN, UNKNOWN, type_of}
use Rattle.calendar.specs.Calendar.{Value, binary, boolean, cal_address, date, date_time, duration, float, integer, period_explicit, period_start, recur, text, time, uri, utc_offset, unknown, geo, request_status, Parameter}
use Rattle.sink.specs.Sink.{Put}
use Rattle.sink.specs.laws.Sink.{put_yes, put_no, ◌▷◌}
use Rattle.edition.specs.Edition.{decode}
use Rattle.edition.specs.declared.Edition.{Edition}
use Rattle.source.specs.Source.{rest, cuts, Decodes}
use Rattle.names.specs.Table.{place_of}
use Rattle.schema.specs.Types.{value_types, same_type, type_place}
use Rattle.schema.specs.laws.Types.{place_type}
use Rattle.schema.specs.Parameters.{ParameterRow, parameter_names}
use Rattle.schema.specs.Numbers.{type_at, parameter_at}
use Rattle.schema.specs.laws.Numbers.{parameter_place}
use Rattle.schema.specs.laws.Places.{type_back}
use Rattle.schema.specs.Sets.{parameter_words_at}
use Rattle.numbers.specs.Boolean.{read_boolean}
use Rattle.values.specs.ReadValue.{read_value}
use Rattle.values.specs.WriteValue.{value_characters}
use Rattle.values.specs.laws.ReadBack.{value_accepted}
use Rattle.read_text_line.specs.ContentLine.{ParamValue, RawParameter, param_value, next_value}
use Rattle.read_text_line.specs.Items.{items}
use Rattle.read_text_line.specs.Decoded.{decoded_value}
use Rattle.read_text_line.specs.Cursor.{values_of, values_at, there}
use Rattle.read_text_line.specs.laws.Repeating.{item_bad}
use Rattle.read_text_line.specs.Values.{value_in, ValueAt}
use Rattle.read_text_line.specs.laws.Values.{value_first, value_chars}
use Rattle.read_text_line.specs.declared.Malformed.{Malformed}
use Rattle.read_text_line.specs.declared.ValueCursors.{ValueCursors}
use Rattle.text.specs.Parameters.{read_parameters}
use Rattle.read_text_parameters.specs.Cutting.{param_read}
use Rattle.read_text_parameters.specs.laws.Typing.{no_rule}
use Rattle.json_text.specs.Bytes.{value_separator}
use Rattle.json_text.specs.Write.{escaped, quoted, object_of}
use Rattle.json_text.specs.Computing.{json_compute}
use Rattle.jcal.specs.WriteJcal.{one_or_array, parameter_value, parameter_json}
use Rattle.write_json.specs.Separated.{separator}
use Rattle.write_jcal_parameters.specs.Shown.{truth_string, string_of, value_shown, chars_shown, chars_in, row_at, shown, members_shown}
use Rattle.write_jcal_parameters.specs.laws.Shown.{shown_is}

-- ---- RSVP

truth_is : (b : Bool) → truth_string b ≡ string_of (boolean b)
unfolding parameter_value octets_compute json_compute
truth_is true = refl
truth_is false = refl

module _ {d e : List ℕ} {o r : ℕ} (l : List ℕ) {b : Option Bool} (q : read_boolean ical l ≡ b) where
  pub put_truth : {t : Bool} → b ≡ Some t → Put d e o r (truth_string t) → Put d e o r (or_nothing string_of (read_value ical BOOLEAN l))
  unfolding read_value
  put_truth {t} h p = rw (q, h) (subst (Put d e o r) (truth_is t) p)

  pub put_no_truth : b ≡ None → Put d e o r [] → Put d e o r (or_nothing string_of (read_value ical BOOLEAN l))
  unfolding read_value
  put_no_truth h p = rw (q, h) p

-- ---- a value of another type

-- any other value is written as its characters
alike : (v : Value) → (type_place (type_of v) ≡ 1 → ⊥) → value_characters v ≡ parameter_value v
unfolding parameter_value
alike (binary s) h = refl
alike (boolean b) h = absurd (h refl)
alike (cal_address s) h = refl
alike (date s) h = refl
alike (date_time s) h = refl
alike (duration s) h = refl
alike (float d) h = refl
alike (integer w) h = refl
alike (period_explicit s e) h = refl
alike (period_start s d) h = refl
alike (recur ps) h = refl
alike (text s) h = refl
alike (time s) h = refl
alike (uri s) h = refl
alike (utc_offset s) h = refl
alike (unknown s) h = refl
alike (geo la lo) h = refl
alike (request_status c d x) h = refl

no_truth : (t : ℕ) → (t ≡ 1 → ⊥) → type_place (type_at t) ≡ 1 → ⊥
no_truth t a e = go (dec_le 14 t)
  where
    go : Dec (14 ≤ t) → ⊥
    go (yes k) = let z : type_place (type_at t) ≡ 14 = rw (get_or-eq_default value_types UNKNOWN k) in let y : ◌≡◌ {A = ℕ} 14 1 = sym z ∙ e in absurd (omega arith)
    go (no k) = a (sym (type_back t (omega arith)) ∙ e)

read_alike : (t : ℕ) (l : List ℕ) (v : Value) → (t ≡ 1 → ⊥) → read_value ical (type_at t) l ≡ Some v → value_characters v ≡ parameter_value v
read_alike t l v a h = alike v (λ e. no_truth t a (ap type_place (sym (value_accepted ical (type_at t) l v h).2) ∙ e))

module _ {d e : List ℕ} {o r : ℕ} (t : ℕ) (l : List ℕ) {x : Option ℕ} (p : is_read (read_value ical (type_at t) l) ≡ is_some x) where
  pub put_good : {k : ℕ} → (t ≡ 1 → ⊥) → x ≡ Some k → Put d e o r (ascii "\"" ⊕ or_nothing (λ v. escaped (value_characters v)) (read_value ical (type_at t) l) ⊕ ascii "\"") →
      Put d e o r (or_nothing string_of (read_value ical (type_at t) l))
  unfolding is_read
  put_good a h w = go (read_value ical (type_at t) l) refl (p ∙ ap is_some h) w
    where
      go : (u : Option Value) → read_value ical (type_at t) l ≡ u → is_read u ≡ true → Put d e o r (ascii "\"" ⊕ or_nothing (λ v. escaped (value_characters v)) u ⊕ ascii "\"") → Put d e o r (or_nothing string_of u)
      go None k z w = absurd (false≢true z)
      go (Some v) k z w = rw (← (read_alike t l v a k)) w

  pub put_bad : x ≡ None → Put d e o r [] → Put d e o r (or_nothing string_of (read_value ical (type_at t) l))
  unfolding is_read
  put_bad h w = go (read_value ical (type_at t) l) (p ∙ ap is_some h)
    where
      go : (u : Option Value) → is_read u ≡ false → Put d e o r (or_nothing string_of u)
      go None z = w
      go (Some v) z = absurd (false≢true (sym z))

pub put_boolean : {d e : List ℕ} {o r : ℕ} (t : ℕ) (l : List ℕ) → t ≡ 1 → Put d e o r (or_nothing string_of (read_value ical BOOLEAN l)) → Put d e o r (or_nothing string_of (read_value ical (type_at t) l))
put_boolean t l h w = rw h w

-- ---- a value, by what its parameter takes

-- no parameter is a RECUR, 9: it would have to be cut in every encoding, and in mode 1 nothing is
pub no_recur : (q : ℕ) {t : ℕ} → t ≡ type_place (parameter_at q).type → t ≡ 9 → ⊥
no_recur q e h = false≢true (no_rule q 1 e h)

module _ {d e : List ℕ} {o r : ℕ} (q : ℕ) (l : List ℕ) {t : Bool} (h : t ≡ is_read (parameter_words_at q)) where
  pub put_word : t ≡ true → Put d e o r (quoted (upper l)) → Put d e o r (value_shown (row_at q) l)
  unfolding row_at value_shown
  put_word k p = put_yes _ _ _ (sym h ∙ k) p

  module _ {n : ℕ} (i : n ≡ type_place (parameter_at q).type) (k : t ≡ false) where
    pub put_raw : n ≡ 10 → Put d e o r (quoted l) → Put d e o r (value_shown (row_at q) l)
    unfolding row_at value_shown same_type
    put_raw z p = put_no _ _ _ (sym h ∙ k) (put_yes _ _ _ (eq-eqb _ _ (sym i ∙ z)) p)

    pub put_unknown : (n ≡ 10 → ⊥) → n ≡ 14 → Put d e o r (quoted l) → Put d e o r (value_shown (row_at q) l)
    unfolding row_at value_shown same_type
    put_unknown z y p = put_no _ _ _ (sym h ∙ k) (put_no _ _ _ (ne_eqb _ _ (λ x. z (i ∙ x))) (put_yes _ _ _ (eq-eqb _ _ (sym i ∙ y)) p))

    pub put_typed : (n ≡ 10 → ⊥) → (n ≡ 14 → ⊥) → Put d e o r (or_nothing string_of (read_value ical (type_at n) l)) → Put d e o r (value_shown (row_at q) l)
    unfolding row_at value_shown same_type
    put_typed z y p = put_no _ _ _ (sym h ∙ k) (put_no _ _ _ (ne_eqb _ _ (λ x. z (i ∙ x))) (put_no _ _ _ (ne_eqb _ _ (λ x. y (i ∙ x))) (rw (← (place_type (parameter_at q).type), ← i) p)))

-- ---- the values of a parameter

array_of : (x y : List ℕ) (l : List (List ℕ)) → ascii "[" ⊕ x ⊕ each_after value_separator (y ∷ l) ⊕ ascii "]" ≡ one_or_array (x ∷ y ∷ l)
unfolding joined_by
array_of x y l = ap (λ (m : List ℕ). ascii "[" ⊕ m) (sym (append_regroup x (each_after value_separator (y ∷ l)) (ascii "]")))

-- the value that was found
abbrev found : ℕ → List ℕ → ValueCursors → ParamValue
found m s r = value_in m s r.quoted r.from

module _ (ed : Edition) (p : ParameterRow) {m : ℕ} {s : List ℕ} {c : ℕ} {b : Result ValueCursors (Malformed ValueCursors)} (y : cuts m ≡ true) (v : ValueAt param_value m s c (there b)) {d e : List ℕ} {o n : ℕ} where
  module _ {t : Bool} {r : ValueCursors} (h : b ≡ Ok r) (q : t ≡ not (is_empty (items next_value (rest m s r.next)))) where
    pub put_several : t ≡ true →
        Put d e o n (ascii "[" ⊕ value_shown p (decode ed (rest m (take r.to s) r.from)) ⊕ each_after value_separator (map (chars_in ed p) (items next_value (rest m s r.next))) ⊕ ascii "]") →
        Put d e o n (one_or_array (map (chars_in ed p) (values_at m s c)))
    put_several z w =
        rw (value_first v (ap there h)) (go (items next_value (rest m s r.next)) (sym q ∙ z)
        (subst (λ (l : List ℕ). Put d e o n (ascii "[" ⊕ value_shown p (decode ed l) ⊕ each_after value_separator (map (chars_in ed p) (items next_value (rest m s r.next))) ⊕ ascii "]")) (value_chars y v (ap there h)) w))
      where
        go : (l : List ParamValue) → not (is_empty l) ≡ true → Put d e o n (ascii "[" ⊕ chars_in ed p (found m s r) ⊕ each_after value_separator (map (chars_in ed p) l) ⊕ ascii "]") →
            Put d e o n (one_or_array (chars_in ed p (found m s r) ∷ map (chars_in ed p) l))
        go [] k w = absurd (false≢true k)
        go (a ∷ l) k w = subst (Put d e o n) (array_of (chars_in ed p (found m s r)) (chars_in ed p a) (map (chars_in ed p) l)) w

    pub put_alone : t ≡ false → Put d e o n (value_shown p (decode ed (rest m (take r.to s) r.from))) → Put d e o n (one_or_array (map (chars_in ed p) (values_at m s c)))
    put_alone z w =
        rw (value_first v (ap there h)) (go (items next_value (rest m s r.next)) (sym q ∙ z) (subst (λ (l : List ℕ). Put d e o n (value_shown p (decode ed l))) (value_chars y v (ap there h)) w))
      where
        go : (l : List ParamValue) → not (is_empty l) ≡ false → Put d e o n (chars_in ed p (found m s r)) → Put d e o n (one_or_array (chars_in ed p (found m s r) ∷ map (chars_in ed p) l))
        go [] k w = w
        go (a ∷ l) k w = absurd (false≢true (sym k))

  pub put_no_first : {x : Malformed ValueCursors} → b ≡ Err x → Put d e o n (ascii "[]") → Put d e o n (one_or_array (map (chars_in ed p) (values_at m s c)))
  unfolding values_of joined_by ◌⊕◌
  put_no_first h w = rw (item_bad v.item (ap there h)) w

-- ---- a parameter

chars_in_lem : (ed : Edition) (p : ParameterRow) (vs : List ParamValue) → map (chars_in ed p) vs ≡ map (chars_shown p) (map (decoded_value ed) vs)
chars_in_lem ed p [] = refl
chars_in_lem ed p (v ∷ vs) = ap (λ (l : List (List ℕ)). chars_in ed p v ∷ l) (chars_in_lem ed p vs)

pub put_parameter : (ed : Edition) {d e f g : List ℕ} {o a b r q : ℕ} (n : List ℕ) (vs : List ParamValue) → q ≡ place_of (upper n) parameter_names →
    Put d e o a (quoted (lower n)) → Put e f a b (ascii ":") → Put f g b r (one_or_array (map (chars_in ed (row_at q)) vs)) →
    Put d g o r (shown (record { name = n; values = map (decoded_value ed) vs }))
unfolding row_at
put_parameter ed {q = q} n vs h x y z = x ▷ y ▷ rw (parameter_place (upper n), ← h, ← (chars_in_lem ed (row_at q) vs)) z

-- ---- a slice cut at its length, or before

module _ {d f : List ℕ} {o r e : ℕ} (m : ℕ) (s : List ℕ) (c to : ℕ) (h : e ≡ min to (length s)) where
  pub least_value : {ed : Edition} {u : ℕ} (p : ParameterRow) → Decodes ed m u → Put d f o r (value_shown p (rest u (take e s) c)) → Put d f o r (value_shown p (decode ed (rest m (take to s) c)))
  least_value p k w = rw (← (k.is (take to s) c), ← (take_least s to), ← h) w

  pub least_member : (ed : Edition) (first : ℕ) (started : Bool) {g : List ℕ} {a : ℕ} → Put d g o a (separator started) → Put g f a r (shown (param_read ed m s c e first)) →
      Put d f o r (separator started ⊕ shown (param_read ed m s c to first))
  least_member ed first started x w = x ▷ rw (← (take_least s to), ← h) w

-- ---- all parameters

module _ {d e : List ℕ} {o r : ℕ} (rs : List RawParameter) {t : Bool} (h : t ≡ is_read (read_parameters rs)) where
  pub put_unread : t ≡ false → Put d e o r (ascii "{}") → Put d e o r (object_of (map parameter_json (read_or [] (read_parameters rs))))
  unfolding is_read read_or joined_by ◌⊕◌
  put_unread k w = go (read_parameters rs) (sym h ∙ k)
    where
      go : (q : Option (List Parameter)) → is_read q ≡ false → Put d e o r (object_of (map parameter_json (read_or [] q)))
      go None z = w
      go (Some ps) z = absurd (false≢true (sym z))

  pub put_shown : t ≡ true → Put d e o r (object_of (members_shown rs)) → Put d e o r (object_of (map parameter_json (read_or [] (read_parameters rs))))
  unfolding is_read read_or
  put_shown k w = go (read_parameters rs) refl (sym h ∙ k)
    where
      go : (q : Option (List Parameter)) → read_parameters rs ≡ q → is_read q ≡ true → Put d e o r (object_of (map parameter_json (read_or [] q)))
      go None x z = absurd (false≢true z)
      go (Some ps) x z = rw (← (shown_is rs ps x)) w
