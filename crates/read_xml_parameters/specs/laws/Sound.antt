-- Laws of what specs/Sound.antt defines.
--     bad_..                 a name that no parameter has
--     encoded_..    for code
--     sound_is    the same of names
use Rattle.std.specs.Prelude.{◌≡◌, Bool, ℕ, ◌≤◌, length, take, Option, None, Some}
use Rattle.std.proofs.Math.Path.{refl, sym}
use Rattle.std.proofs.Common.{ap, ◌∙◌}
use Rattle.std.proofs.Math.Bool.{true, false, not}
use Rattle.std.proofs.lemmas.Bool.{false≢true}
use mathlib.Core.List.{List, []}
use Rattle.std.proofs.Math.Dec.{eqb}
use Rattle.std.proofs.Math.Seq.{take-length}
use borrow.Author.Tests.{eq-eqb, ne_eqb, eqb-true}
use Rattle.octets.specs.Ascii.{ascii}
use Rattle.octets.specs.Pick.{◌and◌, ◌or◌}
use Rattle.octets.specs.laws.Pick.{and_both}
use Rattle.octets.specs.Words.{same, is_one_of}
use Rattle.octets.specs.Reading.{is_read, read_or}
use Rattle.octets.specs.Computing.{octets_compute}
use Rattle.calendar.specs.Calendar.{Value}
use Rattle.source.specs.Source.{rest}
use Rattle.source.specs.laws.Facts.{rest_plain}
use Rattle.names.specs.Table.{place_of}
use Rattle.names.specs.laws.Places.{same_place}
use Rattle.schema.specs.Types.{same_type}
use Rattle.schema.specs.Properties.{property_names, permits_parameter}
use Rattle.schema.specs.Parameters.{ParameterRow, parameter_names, is_listed_parameter, encodings}
use Rattle.schema.specs.Numbers.{type_at}
use Rattle.schema.specs.Coded.{row_at as property_row_at}
use Rattle.schema.specs.Columns.{permits_at}
use Rattle.schema.specs.declared.table.Row.{Row}
use Rattle.schema.specs.laws.Columns.{permits_place}
use Rattle.schema.specs.laws.Places.{type_back}
use Rattle.read_text_line.specs.Names.{is_carried_name}
use Rattle.xml.specs.Nodes.{Nodes}
use Rattle.xcal.specs.Layout.{has_capital}
use Rattle.xcal.specs.ParameterNodes.{are_spelled, read_param_nodes, values_good, encodes, are_base64, bad_name}
use Rattle.edition.specs.declared.Edition.{Edition}
use Rattle.read_xml_parameters.specs.Rows.{row_at, read_leaves}
use Rattle.read_xml_parameters.specs.laws.Rows.{row_named, leaves_are}
use Rattle.read_xml_parameters.specs.Several.{good_by, first_is}
use Rattle.read_xml_parameters.specs.laws.Several.{all_read, good_is, first_is_lem}
use Rattle.read_xml_parameters.specs.Sound.{encoded_by, sound_by}

-- ---- names

module _ (w : List ℕ) {a : Bool} (e : a ≡ has_capital (rest 0 (take (length w) w) 0)) where
  capital : a ≡ has_capital w
  capital = e ∙ rw (take-length w, rest_plain w)

  pub bad_capital : a ≡ true → true ≡ bad_name w
  unfolding ◌or◌
  bad_capital h = rw (← capital, h)

  module _ {b : Bool} (h : a ≡ false) (f : b ≡ is_carried_name (rest 0 w 0)) where
    carried : b ≡ is_carried_name w
    carried = f ∙ rw (rest_plain w)

    pub bad_start : b ≡ false → true ≡ bad_name w
    unfolding ◌or◌
    bad_start k = rw (← capital, h, ← carried, k)

    pub bad_value : {c : Bool} → b ≡ true → c ≡ same (rest 0 w 0) (ascii "value") → c ≡ bad_name w
    unfolding ◌or◌
    bad_value k g = g ∙ rw (rest_plain w, ← capital, h, ← carried, k)

-- ---- ENCODING, the parameter of the number 6, and BINARY, the type of the number 0

module _ (q t : ℕ) (kids : Nodes) where
  pub encoded_other : (q ≡ 6 → ⊥) → true ≡ encoded_by q t kids
  unfolding encoded_by ◌and◌ ◌or◌
  encoded_other h = rw (ne_eqb q 6 h)

  pub encoded_free : q ≡ 6 → (t ≡ 0 → ⊥) → true ≡ encoded_by q t kids
  unfolding encoded_by ◌and◌ ◌or◌
  encoded_free h k = rw (eq-eqb q 6 h, ne_eqb t 0 k)

  pub encoded_binary : {b : Bool} → q ≡ 6 → t ≡ 0 → b ≡ first_is (ascii "BASE64") kids → b ≡ encoded_by q t kids
  unfolding encoded_by ◌and◌ ◌or◌
  encoded_binary h k e = e ∙ rw (eq-eqb q 6 h, eq-eqb t 0 k)

-- ---- the same of names

encoding_known : is_one_of (ascii "ENCODING") parameter_names ≡ true
unfolding octets_compute
encoding_known = refl

encoding_place : place_of (ascii "ENCODING") parameter_names ≡ 6
unfolding octets_compute place_of
encoding_place = refl

encoding_words : (row_at 6).words ≡ Some encodings
unfolding row_at
encoding_words = refl

module _ (n : List ℕ) (kids : Nodes) where
  pub leaves_at : read_param_nodes n kids ≡ read_leaves (row_at (place_of n parameter_names)) kids
  leaves_at = leaves_are n kids ∙ ap (λ (r : ParameterRow). read_leaves r kids) (row_named n)

  good_at : values_good (is_listed_parameter n) (read_param_nodes n kids) ≡ good_by (row_at (place_of n parameter_names)) kids
  good_at =
      ap (values_good (is_listed_parameter n)) (leaves_are n kids)
      ∙ ap (λ (r : ParameterRow). values_good r.listed (read_leaves r kids)) (row_named n)
      ∙ good_is (row_at (place_of n parameter_names)) kids

  module _ (t : ℕ) (k : t ≤ 14) (g : good_by (row_at (place_of n parameter_names)) kids ≡ true) where
    base64 : place_of n parameter_names ≡ 6 → first_is (ascii "BASE64") kids ≡ are_base64 (read_or [] (read_param_nodes n kids))
    unfolding good_by is_read read_or
    base64 h = rw leaves_at (go (read_leaves (row_at (place_of n parameter_names)) kids) refl (all_read _ kids ∙ (and_both _ _ g).0))
      where
        go : (o : Option (List Value)) → read_leaves (row_at (place_of n parameter_names)) kids ≡ o → is_read o ≡ true → first_is (ascii "BASE64") kids ≡ are_base64 (read_or [] o)
        go None e z = absurd (false≢true z)
        go (Some vs) e z = sym (first_is_lem (row_at (place_of n parameter_names)) encodings (rw h encoding_words) kids vs e)

    encoded_is : encoded_by (place_of n parameter_names) t kids ≡ encodes n (type_at t) kids
    unfolding encoded_by same_type ◌and◌ ◌or◌
    encoded_is = rw (same_place n (ascii "ENCODING") parameter_names encoding_known, encoding_place, type_back t k) (go (eqb (place_of n parameter_names) 6) (eqb t 0) refl)
      where
        go : (a b : Bool) → eqb (place_of n parameter_names) 6 ≡ a → (not (a and b) or first_is (ascii "BASE64") kids) ≡ (not (a and b) or are_base64 (read_or [] (read_param_nodes n kids)))
        go false b e = refl
        go true false e = refl
        go true true e = base64 (eqb-true _ _ e)

module _ (ed : Edition) where
  -- ---- all of it

  module _ (row : Row) (t q : ℕ) (kids : Nodes) {a : Bool} (e : a ≡ permits_at row t q) where
    pub sound_denied : a ≡ false → false ≡ sound_by ed row t q kids
    unfolding sound_by ◌and◌
    sound_denied h = rw (← e, h)

    module _ {b : Bool} (h : a ≡ true) (f : b ≡ good_by (row_at q) kids) where
      pub sound_other : b ≡ false → false ≡ sound_by ed row t q kids
      unfolding sound_by ◌and◌
      sound_other k = rw (← e, h, ← f, k)

      module _ {c : Bool} (k : b ≡ true) (g : c ≡ encoded_by q t kids) where
        pub sound_uncoded : c ≡ false → false ≡ sound_by ed row t q kids
        unfolding sound_by ◌and◌
        sound_uncoded l = rw (← e, h, ← f, k, ← g, l)

        pub sound_spelled : {d : Bool} → c ≡ true → d ≡ are_spelled ed kids → d ≡ sound_by ed row t q kids
        unfolding sound_by ◌and◌
        sound_spelled l i = i ∙ rw (← e, h, ← f, k, ← g, l)

  -- a parameter that is not sound, as the verdict has it
  pub sound_is : (w n : List ℕ) (row : Row) (t : ℕ) (kids : Nodes) → row ≡ property_row_at (place_of w property_names) → t ≤ 14 →
      not (sound_by ed row t (place_of n parameter_names) kids)
      ≡ (not (permits_parameter w (type_at t) n) or not (values_good (is_listed_parameter n) (read_param_nodes n kids)) or not (encodes n (type_at t) kids) or not (are_spelled ed kids))
  unfolding sound_by ◌and◌ ◌or◌
  sound_is w n row t kids h k =
      rw (permits_place w n (type_at t), type_back t k, ← h, good_at n kids)
      (go (permits_at row t (place_of n parameter_names)) (good_by (row_at (place_of n parameter_names)) kids) (encoded_by (place_of n parameter_names) t kids) (encodes n (type_at t) kids) (are_spelled ed kids) (λ g. encoded_is n kids t k g))
    where
      both : (d s : Bool) → not (d and s) ≡ (not d or not s)
      both true s = refl
      both false s = refl

      go : (a b c d s : Bool) → (b ≡ true → c ≡ d) → not (a and b and c and s) ≡ (not a or not b or not d or not s)
      go false b c d s f = refl
      go true false c d s f = refl
      go true true c d s f = rw (f refl) (both d s)
