-- Laws of what specs/Values.antt defines.
--     one_in_lem   an element by its head, and by its JSON value
--     values_as    the values of a property, by numbers and by names
--     set_told    a word of a closed set;   answering: the rules of `values_read`
use Rattle.std.specs.Prelude.{◌≡◌, Bool, true, false, ℕ, ◌≤◌, eqb, Option, None, Some, is_some}
use Rattle.std.proofs.Math.Path.{refl, ap}
use Rattle.std.proofs.Common.{sym, ◌∙◌, rules}
use mathlib.Core.List.{List, [], ◌∷◌}
use Rattle.octets.specs.Pick.{pick}
use Rattle.octets.specs.Lists.{every}
use Rattle.octets.specs.Reading.{and_then, is_read, read_each}
use Rattle.calendar.specs.Calendar.{text}
use Rattle.names.specs.Table.{place_of}
use Rattle.schema.specs.Components.{component_names}
use Rattle.schema.specs.Properties.{property_names}
use Rattle.schema.specs.Numbers.{type_at}
use Rattle.schema.specs.Coded.{row_at}
use Rattle.schema.specs.Columns.{permits_type}
use Rattle.schema.specs.laws.Columns.{number_place, permits_type_place}
use Rattle.schema.specs.Sets.{is_word_of, words_at, word_in}
use Rattle.schema.specs.laws.Sets.{words_place, geo_place, request_status_place, word_yes, word_no}
use Rattle.schema.specs.laws.Places.{type_back}
use Rattle.schema.specs.Property as property
use Rattle.schema.specs.declared.Context.{Context}
use Rattle.schema.specs.declared.table.Row.{Row}
use Rattle.recur.specs.laws.Fits.{provided_is}
use Rattle.json_text.specs.Tree.{Json}
use Rattle.json_text.specs.Kinds.{as_array}
use Rattle.jcal.specs.Values.{read_geo, read_chosen, read_one, read_values}
use Rattle.read_json.specs.Heads.{value_of_head}
use Rattle.read_json.specs.declared.Head.{Head}
use Rattle.read_jcal_value.specs.Elements.{string_of, array_of}
use Rattle.read_jcal_value.specs.laws.Typed.{typed_is}
use Rattle.read_jcal_value.specs.laws.Items.{each_read}
use Rattle.read_jcal_value.specs.Values.{read_strings, read_word_in, chosen_in, one_in, one_at, values_in}

-- ---- a word of a closed set

pub set_told : {r : Option ℕ} (o : Option (List (List ℕ))) (l : List ℕ) → r ≡ word_in o l → {b : Bool} → b ≡ is_some r → b ≡ is_read (read_word_in o l)
set_told {r} o l e f = f ∙ go r e ∙ sym (provided_is (is_word_of o l) (text l))
  where
    go : (r : Option ℕ) → r ≡ word_in o l → is_some r ≡ is_word_of o l
    go None e = word_no o l e refl
    go (Some i) e = word_yes o l e refl

-- ---- one value

chosen_is : (o : Option (List (List ℕ))) (t : ℕ) (s : List ℕ) (h : Head) → chosen_in o t s h ≡ is_read (read_chosen o (type_at t) (value_of_head s h))
unfolding pick is_read string_of
chosen_is None t s h = sym (typed_is s h t)
chosen_is (Some ws) t s h = refl

pub one_in_lem : (x : Context) (s : List ℕ) (h : Head) {r : Bool} → r ≡ one_in x s h → r ≡ one_at x (value_of_head s h)
unfolding one_at array_of
one_in_lem x s h e = e ∙ rw (chosen_is (words_at x.component x.row.number) x.value_type s h)

pick_read : {A : Type 0} (t : Bool) (a b : Option A) → is_read (pick t a b) ≡ pick t (is_read a) (is_read b)
unfolding pick
pick_read true a b = refl
pick_read false a b = refl

-- ---- by names

module _ (x : Context) (c w : List ℕ) (a : x.component ≡ place_of c component_names) (y : x.row ≡ row_at (place_of w property_names)) where
  number_of_lem : x.row.number ≡ place_of w property_names
  number_of_lem = ap (λ (r : Row). r.number) y ∙ number_place w

  one_as : (v : Json) → is_read (read_one c w (type_at x.value_type) v) ≡ one_at x v
  unfolding one_at
  one_as v =
      rw (geo_place w, request_status_place w, words_place c w, ← a, ← number_of_lem)
      (pick_read (eqb x.row.number property.GEO) (and_then (as_array v) read_geo) _
      ∙ ap (λ (b : Bool). pick (eqb x.row.number property.GEO) (is_read (and_then (as_array v) read_geo)) b)
      (pick_read (eqb x.row.number property.REQUEST-STATUS) (and_then (as_array v) read_strings) (read_chosen (words_at x.component x.row.number) (type_at x.value_type) v)))

  every_as : (vs : List Json) → every (λ v. is_read (read_one c w (type_at x.value_type) v)) vs ≡ every (one_at x) vs
  unfolding every
  every_as [] = refl
  every_as (v ∷ vs) = rw (one_as v, every_as vs)

  pub values_as : x.value_type ≤ 14 → (vs : List Json) → is_read (read_values c w (type_at x.value_type) vs) ≡ values_in x vs
  unfolding read_values is_read
  values_as h vs =
      rw (permits_type_place w (type_at x.value_type), type_back x.value_type h, ← y)
      (pick_read (permits_type x.row x.value_type) (read_each (read_one c w (type_at x.value_type)) vs) None
      ∙ ap (λ (b : Bool). pick (permits_type x.row x.value_type) b false) (each_read (read_one c w (type_at x.value_type)) vs ∙ every_as vs))

-- ---- the answers

module _ (x : Context) (vs : List Json) {b : Bool} (p : b ≡ permits_type x.row x.value_type) where
  answer_as : (r : Bool) → r ≡ values_in x vs → (c w : List ℕ) → x.component ≡ place_of c component_names → x.row ≡ row_at (place_of w property_names) → x.value_type ≤ 14 →
      r ≡ is_read (read_values c w (type_at x.value_type) vs)
  answer_as r e c w a y h = e ∙ sym (values_as x c w a y h vs)

  pub answer_other : b ≡ false → (c w : List ℕ) → x.component ≡ place_of c component_names → x.row ≡ row_at (place_of w property_names) → x.value_type ≤ 14 →
      b ≡ is_read (read_values c w (type_at x.value_type) vs)
  unfolding pick
  answer_other h = answer_as b (rw (← p, h))

  pub answer_each : {r : Bool} → b ≡ true → r ≡ every (one_at x) vs → (c w : List ℕ) → x.component ≡ place_of c component_names → x.row ≡ row_at (place_of w property_names) → x.value_type ≤ 14 →
      r ≡ is_read (read_values c w (type_at x.value_type) vs)
  unfolding pick
  answer_each {r} h q = answer_as r (rw (← p, h) q)

pub ruleset answering = (answer_other, answer_each, rules)
