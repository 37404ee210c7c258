-- Laws of what specs/Parts.antt defines.
--     put_word, put_raw, put_unknown, put_typed      a value, by what its parameter takes
--     put_first, put_no_first           the values of a parameter, from the first on
--     put_parameter, put_value_name, put_other_name     a parameter
--     least_value, least_own            a slice cut at its length, or before
--     put_unread, put_only, put_shown   the element `parameters`, or nothing
use Rattle.std.specs.Prelude.{◌≡◌, Bool, ℕ, ◌*◌, ◌^◌, min, ◌<◌, length, take, Option, None, Some, Result, Ok, Err}
use Rattle.std.proofs.Math.Path.{refl}
use Rattle.std.proofs.Common.{sym, ap, ◌∙◌, subst, eq-eqb, ne_eqb}
use Rattle.std.proofs.Math.Bool.{true, false}
use Rattle.std.proofs.lemmas.Bool.{false≢true}
use mathlib.Core.List.{List, [], ◌∷◌, map}
use Rattle.octets.specs.Ascii.{ascii}
use Rattle.octets.specs.laws.Scan.{take_least}
use Rattle.octets.specs.Append.{◌⊕◌, joined}
use Rattle.octets.specs.Class.{upper, lower}
use Rattle.octets.specs.Words.{same, is_empty}
use Rattle.octets.specs.Reading.{is_read, read_or, or_nothing}
use Rattle.octets.specs.laws.Reading.{each_empty}
use Rattle.calendar.specs.Calendar.{ical, text, unknown, Parameter}
use Rattle.sink.specs.Sink.{Put}
use Rattle.sink.specs.laws.Sink.{put_none, put_yes, put_no, ◌▷◌}
use Rattle.edition.specs.Edition.{decode}
use Rattle.edition.specs.declared.Edition.{Edition}
use Rattle.source.specs.Source.{rest, cuts, Decodes}
use Rattle.names.specs.Table.{place_of}
use Rattle.schema.specs.Types.{same_type, type_place}
use Rattle.schema.specs.laws.Types.{place_type}
use Rattle.schema.specs.Parameters.{ParameterRow, parameter_names}
use Rattle.schema.specs.Numbers.{type_at, parameter_at}
use Rattle.schema.specs.laws.Numbers.{parameter_place}
use Rattle.schema.specs.Sets.{parameter_words_at}
use Rattle.values.specs.ReadValue.{read_value}
use Rattle.read_text_line.specs.ContentLine.{ParamValue, RawParameter, param_value, next_value}
use Rattle.read_text_line.specs.Items.{items}
use Rattle.read_text_line.specs.Decoded.{decoded_value, decoded_parameter}
use Rattle.read_text_line.specs.Cursor.{values_of, values_at, there}
use Rattle.read_text_line.specs.laws.Repeating.{item_bad}
use Rattle.read_text_line.specs.Values.{ValueAt}
use Rattle.read_text_line.specs.laws.Values.{value_first, value_chars}
use Rattle.read_text_line.specs.declared.Malformed.{Malformed}
use Rattle.read_text_line.specs.declared.ValueCursors.{ValueCursors}
use Rattle.xml.specs.Escape.{start_tag, end_tag, element_of}
use Rattle.text.specs.Parameters.{read_parameter, own_parameters, read_parameters}
use Rattle.xcal.specs.WriteXml.{value_xml, parameters_xml, parameters_element}
use Rattle.read_text_parameters.specs.Cutting.{param_read}
use Rattle.write_xml_parameters.specs.Shown.{value_shown, chars_shown, shown, own_shown, parameters_shown, chars_in}
use Rattle.write_xml_parameters.specs.laws.Shown.{shown_is}
use Rattle.write_xml_parameters.specs.laws.Walk.{own_none}
use Rattle.write_xml_parameters.specs.Parts.{row_at}

-- ---- a value

module _ {d e : List ℕ} {o r : ℕ} (q : ℕ) (l : List ℕ) {t : Bool} (h : t ≡ is_read (parameter_words_at q)) where
  pub put_word : t ≡ true → Put d e o r (value_xml (text (upper l))) → Put d e o r (value_shown (row_at q) l)
  unfolding row_at value_shown
  put_word k p = put_yes _ _ _ (sym h ∙ k) p

  module _ {n : ℕ} (i : n ≡ type_place (parameter_at q).type) (k : t ≡ false) where
    pub put_raw : n ≡ 10 → Put d e o r (value_xml (text l)) → Put d e o r (value_shown (row_at q) l)
    unfolding row_at value_shown same_type
    put_raw z p = put_no _ _ _ (sym h ∙ k) (put_yes _ _ _ (eq-eqb _ _ (sym i ∙ z)) p)

    pub put_unknown : (n ≡ 10 → ⊥) → n ≡ 14 → Put d e o r (value_xml (unknown l)) → Put d e o r (value_shown (row_at q) l)
    unfolding row_at value_shown same_type
    put_unknown z y p = put_no _ _ _ (sym h ∙ k) (put_no _ _ _ (ne_eqb _ _ (λ x. z (i ∙ x))) (put_yes _ _ _ (eq-eqb _ _ (sym i ∙ y)) p))

    pub put_typed : (n ≡ 10 → ⊥) → (n ≡ 14 → ⊥) → Put d e o r (or_nothing value_xml (read_value ical (type_at n) l)) → Put d e o r (value_shown (row_at q) l)
    unfolding row_at value_shown same_type
    put_typed z y p = put_no _ _ _ (sym h ∙ k) (put_no _ _ _ (ne_eqb _ _ (λ x. z (i ∙ x))) (put_no _ _ _ (ne_eqb _ _ (λ x. y (i ∙ x))) (rw (← (place_type (parameter_at q).type), ← i) p)))

-- ---- the values of a parameter

module _ (ed : Edition) (p : ParameterRow) {m : ℕ} {s : List ℕ} {c : ℕ} {r : Result ValueCursors (Malformed ValueCursors)} (y : cuts m ≡ true) (v : ValueAt param_value m s c (there r)) {d : List ℕ} {o : ℕ} where
  pub put_first : {u : ValueCursors} {e f : List ℕ} {a n : ℕ} → r ≡ Ok u → Put d e o a (value_shown p (decode ed (rest m (take u.to s) u.from))) →
      Put e f a n (joined (map (chars_in ed p) (items next_value (rest m s u.next)))) → Put d f o n (joined (map (chars_in ed p) (values_at m s c)))
  unfolding joined
  put_first {u} {e} {f} {a} {n} h x w = rw (value_first v (ap there h)) (subst (λ (l : List ℕ). Put d e o a (value_shown p (decode ed l))) (value_chars y v (ap there h)) x ▷ w)

  pub put_no_first : {x : Malformed ValueCursors} → r ≡ Err x → length d * 1 < 2 ^ 63 → Put d d o o (joined (map (chars_in ed p) (values_at m s c)))
  unfolding joined values_of
  put_no_first h z = rw (item_bad v.item (ap there h)) (put_none d o z)

-- ---- a parameter

chars_in_lem : (ed : Edition) (p : ParameterRow) (vs : List ParamValue) → joined (map (chars_in ed p) vs) ≡ joined (map (chars_shown p) (map (decoded_value ed) vs))
unfolding joined
chars_in_lem ed p [] = refl
chars_in_lem ed p (v ∷ vs) = ap (λ (l : List ℕ). chars_in ed p v ⊕ l) (chars_in_lem ed p vs)

pub put_parameter : (ed : Edition) {d e f g : List ℕ} {o a b r q : ℕ} (n : List ℕ) (vs : List ParamValue) → q ≡ place_of (upper n) parameter_names →
    Put d e o a (start_tag (lower n)) → Put e f a b (joined (map (chars_in ed (row_at q)) vs)) → Put f g b r (end_tag (lower n)) →
    Put d g o r (shown (record { name = n; values = map (decoded_value ed) vs }))
unfolding row_at
put_parameter ed {q = q} n vs h x y z = x ▷ rw (parameter_place (upper n), ← h, ← (chars_in_lem ed (row_at q) vs)) y ▷ z

module _ {d : List ℕ} {o : ℕ} (n : List ℕ) (vs : List ParamValue) {t : Bool} (h : t ≡ same (upper n) (ascii "VALUE")) where
  pub put_value_name : t ≡ true → length d * 1 < 2 ^ 63 → Put d d o o (own_shown (record { name = n; values = vs }))
  put_value_name k z = put_yes _ _ _ (sym h ∙ k) (put_none d o z)

  pub put_other_name : {e : List ℕ} {r : ℕ} → t ≡ false → Put d e o r (shown (record { name = n; values = vs })) → Put d e o r (own_shown (record { name = n; values = vs }))
  put_other_name k p = put_no _ _ _ (sym h ∙ k) p

-- ---- a slice cut at its length, or before

module _ {d f : List ℕ} {o r e : ℕ} (m : ℕ) (s : List ℕ) (c to : ℕ) (h : e ≡ min to (length s)) where
  pub least_value : {ed : Edition} {u : ℕ} (p : ParameterRow) → Decodes ed m u → Put d f o r (value_shown p (rest u (take e s) c)) → Put d f o r (value_shown p (decode ed (rest m (take to s) c)))
  least_value p k w = rw (← (k.is (take to s) c), ← (take_least s to), ← h) w

  pub least_own : (ed : Edition) (first : ℕ) → Put d f o r (own_shown (param_read ed m s c e first)) → Put d f o r (own_shown (param_read ed m s c to first))
  least_own ed first w = rw (← (take_least s to), ← h) w

-- ---- all parameters

module _ {d : List ℕ} {o : ℕ} (ed : Edition) (rs : List RawParameter) {t : Bool} (h : t ≡ is_read (read_parameters (map (decoded_parameter ed) rs))) where
  pub put_unread : t ≡ false → length d * 1 < 2 ^ 63 → Put d d o o (parameters_element (read_or [] (read_parameters (map (decoded_parameter ed) rs))))
  unfolding is_read read_or
  put_unread k z = go (read_parameters (map (decoded_parameter ed) rs)) (sym h ∙ k)
    where
      go : (q : Option (List Parameter)) → is_read q ≡ false → Put d d o o (parameters_element (read_or [] q))
      go None e = put_none d o z
      go (Some ps) e = absurd (false≢true (sym e))

  module _ {u : Bool} (i : u ≡ is_empty (own_parameters rs)) (k : t ≡ true) where
    pub put_only : u ≡ true → length d * 1 < 2 ^ 63 → Put d d o o (parameters_element (read_or [] (read_parameters (map (decoded_parameter ed) rs))))
    unfolding read_or
    put_only w z = go (read_parameters (map (decoded_parameter ed) rs)) refl
      where
        all : (ps : List Parameter) → is_empty ps ≡ true → Put d d o o (parameters_element ps)
        all [] e = put_none d o z
        all (p ∷ ps) e = absurd (false≢true e)

        go : (q : Option (List Parameter)) → read_parameters (map (decoded_parameter ed) rs) ≡ q → Put d d o o (parameters_element (read_or [] q))
        go None e = put_none d o z
        go (Some ps) e = all ps (each_empty read_parameter (own_parameters (map (decoded_parameter ed) rs)) ps e ∙ own_none ed rs ∙ sym i ∙ w)

    pub put_shown : {e : List ℕ} {r : ℕ} → u ≡ false → Put d e o r (element_of (ascii "parameters") (parameters_shown (map (decoded_parameter ed) rs))) →
        Put d e o r (parameters_element (read_or [] (read_parameters (map (decoded_parameter ed) rs))))
    unfolding is_read read_or
    put_shown {e} {r} w p = go (read_parameters (map (decoded_parameter ed) rs)) refl (sym h ∙ k)
      where
        all : (ps : List Parameter) → is_empty ps ≡ false → parameters_shown (map (decoded_parameter ed) rs) ≡ parameters_xml ps → Put d e o r (parameters_element ps)
        all [] x y = absurd (false≢true (sym x))
        all (q ∷ ps) x y = rw (← y) p

        go : (q : Option (List Parameter)) → read_parameters (map (decoded_parameter ed) rs) ≡ q → is_read q ≡ true → Put d e o r (parameters_element (read_or [] q))
        go None x y = absurd (false≢true y)
        go (Some ps) x y = all ps (each_empty read_parameter (own_parameters (map (decoded_parameter ed) rs)) ps x ∙ own_none ed rs ∙ sym i ∙ w) (shown_is (map (decoded_parameter ed) rs) ps x)
