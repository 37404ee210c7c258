-- Laws of what specs/Typing.antt defines.
--     value_place  it is `read_param_value` of a name, by the name's number
--     typed_.., chosen_.., by_..   for the code that reads one
use Rattle.std.specs.Prelude.{◌≡◌, Bool, not, List, ℕ, eqb, Option, None, Some}
use Rattle.std.proofs.Math.Path.{refl}
use Rattle.std.proofs.Common.{sym, ap, ◌∙◌}
use Rattle.std.proofs.Math.Bool.{true, false}
use Rattle.std.proofs.lemmas.Bool.{false≢true}
use borrow.Author.Tests.{eq-eqb, ne_eqb, not-true}
use Rattle.octets.specs.Pick.{pick, ◌and◌}
use Rattle.octets.specs.Class.{upper}
use Rattle.octets.specs.Lists.{every}
use Rattle.octets.specs.Computing.{octets_compute}
use Rattle.octets.specs.Words.{is_one_of}
use Rattle.octets.specs.Reading.{is_read}
use Rattle.calendar.specs.Calendar.{ical, ValueType, Value}
use Rattle.names.specs.Table.{place_of}
use Rattle.schema.specs.Types.{type_place, same_type}
use Rattle.schema.specs.laws.Types.{place_type}
use Rattle.schema.specs.Parameters.{ParameterRow, parameter_names, parameter_table, unrecognised_parameter}
use Rattle.schema.specs.Numbers.{type_at, parameter_at}
use Rattle.schema.specs.laws.Numbers.{parameter_place}
use Rattle.schema.specs.laws.Cells.{at_passes}
use Rattle.schema.specs.Sets.{is_word_of}
use Rattle.values.specs.ReadValue.{read_value}
use Rattle.values.specs.ValueAt.{value_read, is_read_at}
use Rattle.source.specs.Source.{cuts}
use Rattle.values.specs.laws.ValueAt.{at_plain}
use Rattle.read_text_line.specs.ContentLine.{ParamValue}
use Rattle.text.specs.Parameters.{read_typed, read_word, read_param_value}
use Rattle.read_text_parameters.specs.Typing.{read_by}

pub value_place : (w : List ℕ) (v : ParamValue) → read_param_value w v ≡ read_by (parameter_at (place_of w parameter_names)) v
unfolding read_param_value
value_place w v = ap (λ (p : ParameterRow). read_by p v) (parameter_place w)

-- ---- for code

-- no parameter is a RECUR, 9
rows_plain : every (λ r. not (eqb (type_place r.type) 9)) parameter_table ≡ true
unfolding octets_compute
rows_plain = refl

row_plain : (q : ℕ) → not (eqb (type_place (parameter_at q).type) 9) ≡ true
row_plain q = at_passes (λ r. not (eqb (type_place r.type) 9)) unrecognised_parameter parameter_table q rows_plain refl

-- so that what `read_value` says holds in any encoding
pub typed_there : {r : Option ℕ} (q : ℕ) {t : ℕ} (m : ℕ) (l : List ℕ) → t ≡ type_place (parameter_at q).type → r ≡ value_read t (is_read_at false m (type_at t) l) →
    r ≡ value_read t (is_read (read_value ical (type_at t) l))
typed_there q {t} m l e p =
    let h : eqb (type_place (type_at t)) 9 ≡ false = rw (e, place_type (parameter_at q).type) (not-true _ (row_plain q)) in
    p ∙ ap (value_read t) (sym (at_plain false m (type_at t) l h refl))

pub no_rule : (q m : ℕ) {t : ℕ} → t ≡ type_place (parameter_at q).type → t ≡ 9 → cuts m ≡ true
no_rule q m e h = absurd (false≢true (sym (not-true _ (row_plain q)) ∙ eq-eqb (type_place (parameter_at q).type) 9 (sym e ∙ h)))

-- 10 is TEXT
module _ (t : ValueType) (l : List ℕ) {n : ℕ} (e : n ≡ type_place t) where
  pub typed_text : n ≡ 10 → true ≡ is_read (read_typed t l)
  unfolding same_type pick is_read
  typed_text h = rw (eq-eqb (type_place t) 10 (sym e ∙ h))

  pub typed_unknown : (n ≡ 10 → ⊥) → n ≡ 14 → true ≡ is_read (read_typed t l)
  unfolding same_type pick is_read
  typed_unknown h k = rw (ne_eqb (type_place t) 10 (λ z. h (e ∙ z)), eq-eqb (type_place t) 14 (sym e ∙ k))

  pub typed_other : {r : Bool} → (n ≡ 10 → ⊥) → (n ≡ 14 → ⊥) → r ≡ is_read (read_value ical (type_at n) l) → r ≡ is_read (read_typed t l)
  unfolding same_type pick
  typed_other h k p = p ∙ rw (ne_eqb (type_place t) 10 (λ z. h (e ∙ z)), ne_eqb (type_place t) 14 (λ z. k (e ∙ z)), e, place_type t)

module _ (o : Option (List (List ℕ))) (t : ValueType) (l : List ℕ) {a : Bool} (e : a ≡ is_read o) where
  pub chosen_word : {r : Bool} → a ≡ true → r ≡ is_word_of o (upper l) → r ≡ is_read (read_word o t l)
  unfolding is_read pick
  chosen_word {r} h p = go o (sym e ∙ h) p
    where
      tested : (b : Bool) (v : Value) → b ≡ is_read (pick b (Some v) None)
      tested true v = refl
      tested false v = refl

      go : (o : Option (List (List ℕ))) → is_read o ≡ true → r ≡ is_word_of o (upper l) → r ≡ is_read (read_word o t l)
      go None k q = absurd (false≢true k)
      go (Some ws) k q = q ∙ tested (is_one_of (upper l) ws) _

  pub chosen_other : {r : Bool} → a ≡ false → r ≡ is_read (read_typed t l) → r ≡ is_read (read_word o t l)
  unfolding is_read
  chosen_other {r} h p = go o (sym e ∙ h)
    where
      go : (o : Option (List (List ℕ))) → is_read o ≡ false → r ≡ is_read (read_word o t l)
      go None k = p
      go (Some ws) k = absurd (false≢true (sym k))

module _ (p : ParameterRow) (l : List ℕ) {quoted : Bool} where
  pub by_quoted : {r : Bool} → quoted ≡ true → r ≡ is_read (read_word p.words p.type l) → r ≡ is_read (read_by p (record { quoted = quoted; chars = l }))
  unfolding pick ◌and◌
  by_quoted h e = rw h e

  module _ {must : Bool} (h : quoted ≡ false) (q : must ≡ p.quoted) where
    pub by_missing : must ≡ true → false ≡ is_read (read_by p (record { quoted = quoted; chars = l }))
    unfolding pick ◌and◌ is_read
    by_missing k = rw (h, ← q, k)

    pub by_free : {r : Bool} → must ≡ false → r ≡ is_read (read_word p.words p.type l) → r ≡ is_read (read_by p (record { quoted = quoted; chars = l }))
    unfolding pick ◌and◌
    by_free k e = rw (h, ← q, k) e
