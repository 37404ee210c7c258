-- A property is read back from its array, which has no fault (RFC 7265, section 3.4).
--     property_back, property_fine
use Rattle.std.specs.Prelude.{◌≡◌, Bool, true, false, List, [], ◌∷◌, map, ℕ, None, Some}
use Rattle.std.proofs.Math.Path.{refl, ap}
use Rattle.std.proofs.Common.{◌∙◌}
use Rattle.std.proofs.lemmas.Bool.{false≢true}
use Rattle.octets.specs.Ascii.{ascii}
use Rattle.octets.specs.Pick.{pick, ◌and◌}
use Rattle.octets.specs.laws.Pick.{and_both, or_no}
use Rattle.octets.specs.Class.{upper, lower}
use Rattle.octets.specs.Words.{same}
use Rattle.octets.specs.laws.Words.{same_self}
use Rattle.octets.specs.Lists.{every, any_one}
use Rattle.octets.specs.laws.Lists.{every_both}
use Rattle.octets.specs.Reading.{and_then, is_read, read_or}
use Rattle.octets.specs.Computing.{octets_compute}
use Rattle.calendar.specs.Calendar.{ValueType, BINARY, BOOLEAN, CAL-ADDRESS, DATE, DATE-TIME, DURATION, FLOAT, INTEGER, PERIOD, RECUR, TEXT, TIME, URI, UTC-OFFSET, UNKNOWN, Value, Parameter, Property}
use Rattle.schema.specs.Types.{type_name}
use Rattle.schema.specs.Properties.{is_listed_property}
use Rattle.schema.specs.Computing.{schema_compute}
use Rattle.read_text_line.specs.ContentLine.{is_name}
use Rattle.values.specs.WriteValue.{type_of_all}
use Rattle.values.specs.Valid.{is_amount, are_values_of}
use Rattle.edition.specs.declared.Edition.{Edition}
use Rattle.validity.specs.ValidCalendar.{is_kept_name, is_valid_parameter}
use Rattle.validity.proofs.laws.ValidCalendar.{valid_parameter, ValidProperty}
use Rattle.xml.specs.Reads.{is_name as is_xml_name}
use Rattle.xcal.proofs.laws.ElementNames.{lower-same, kept_upper, kept_back, kept_carried, kept_element}
use Rattle.jcal.specs.Property.{parameters_in, type_of, type_in, is_bad_name, is_bad_parameter, names_bad, is_shaped, property_fault, property_of}
use Rattle.jcal.specs.Values.{read_values}
use Rattle.jcal.proofs.laws.Trees.{member_list_lem, value_tree, parameter_member, property_elements}
use Rattle.jcal.proofs.laws.ValuesBack.{small_twice, values_back}
use Rattle.jcal.proofs.laws.ParametersBack.{parameters_back, parameters_good_lem}

-- ---- names

name_there : (n : List ℕ) → is_xml_name n ≡ true → is_name n ≡ true
unfolding is_xml_name is_name pick
name_there [] h = absurd (false≢true h)
name_there (b ∷ n) h = (and_both _ _ h).1

pub good_name : (n : List ℕ) → is_kept_name n ≡ true → is_bad_name (lower n) ≡ false
good_name n h =
    or_no _ _ (rw (name_there (lower n) (kept_element n h)))
    (or_no _ _ (rw (small_twice n (kept_upper n h), same_self (lower n))) (rw (kept_carried n h)))

other_name : (n w : List ℕ) → is_kept_name n ≡ true → upper w ≡ w → same n w ≡ false → same (lower n) (lower w) ≡ false
other_name n w h u e = lower-same n w (kept_upper n h) u ∙ e

good_parameters : (ed : Edition) (ps : List Parameter) → every (is_valid_parameter ed) ps ≡ true → any_one is_bad_parameter (map parameter_member ps) ≡ false
unfolding any_one octets_compute
good_parameters ed [] h = refl
good_parameters ed (p ∷ ps) h =
    let a = every_both (is_valid_parameter ed) p ps h in
    let c = valid_parameter ed p a.0 in
    or_no _ _ (or_no _ _ (good_name p.name c.kept) (other_name p.name (ascii "VALUE") c.kept refl c.other)) (good_parameters ed ps a.1)

-- ---- types

pub type_back : (t : ValueType) → type_of (lower (type_name t)) ≡ Some t
unfolding schema_compute
type_back BINARY = refl
type_back BOOLEAN = refl
type_back CAL-ADDRESS = refl
type_back DATE = refl
type_back DATE-TIME = refl
type_back DURATION = refl
type_back FLOAT = refl
type_back INTEGER = refl
type_back PERIOD = refl
type_back RECUR = refl
type_back TEXT = refl
type_back TIME = refl
type_back URI = refl
type_back UTC-OFFSET = refl
type_back UNKNOWN = refl

-- ---- a property

amount_same : (l : Bool) (vs : List Value) → is_amount l (map value_tree vs) ≡ is_amount l vs
amount_same l [] = refl
amount_same l (v ∷ []) = refl
amount_same l (v ∷ w ∷ vs) = refl

module _ (ed : Edition) (k : List ℕ) (p : Property) (c : ValidProperty ed k p) where
  params : parameters_in (property_elements p) ≡ Some (map parameter_member p.parameters)
  unfolding and_then
  params = ap Some (member_list_lem (map parameter_member p.parameters))

  type_there : type_in (property_elements p) ≡ Some (type_of_all p.values)
  unfolding and_then
  type_there = type_back (type_of_all p.values)

  values_there : read_values k p.name (type_of_all p.values) (map value_tree p.values) ≡ Some p.values
  values_there = values_back k p.name (type_of_all p.values) p.values c.values

  names_good : names_bad (property_elements p) ≡ false
  unfolding names_bad and_then read_or octets_compute
  names_good =
      or_no _ _
      (or_no _ _ (good_name p.name c.kept) (or_no _ _ (other_name p.name (ascii "BEGIN") c.kept refl c.begins) (other_name p.name (ascii "END") c.kept refl c.ends)))
      (rw (member_list_lem (map parameter_member p.parameters)) (good_parameters ed p.parameters c.parameters))

  amount : is_amount (is_listed_property p.name) (map value_tree p.values) ≡ true
  unfolding are_values_of
  amount = amount_same (is_listed_property p.name) p.values ∙ (and_both (is_amount (is_listed_property p.name) p.values) _ (and_both _ _ c.values).1).0

  shaped : is_shaped k (property_elements p) ≡ true
  unfolding is_shaped and_then is_read read_or ◌and◌
  shaped = rw (type_back (type_of_all p.values), kept_back p.name c.kept, amount) c.stands

  pub property_fine : property_fault ed k (property_elements p) ≡ None
  unfolding property_fault and_then is_read read_or pick
  property_fine =
      rw (
        names_good,
        shaped,
        kept_back p.name c.kept,
        type_back (type_of_all p.values),
        member_list_lem (map parameter_member p.parameters),
        parameters_good_lem ed p.name (type_of_all p.values) p.parameters c.agree c.parameters,
        values_there,
      )

  pub property_back : property_of k (property_elements p) ≡ p
  unfolding property_of and_then read_or
  property_back =
      rw (
        kept_back p.name c.kept,
        type_back (type_of_all p.values),
        member_list_lem (map parameter_member p.parameters),
        parameters_back ed p.parameters c.parameters,
        values_there,
      )
