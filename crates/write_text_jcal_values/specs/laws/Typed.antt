-- Values of any type, written as text.
--     typed_period, typed_recur, typed_scalar    the ways of `put_typed`
--     typed_type                                 what is read as a type has that type
use Rattle.std.specs.Prelude.{◌≡◌, refl, true, List, [], ◌∷◌, ℕ, Option, None, Some, option_map}
use Rattle.std.proofs.Common.{sym, ap, ◌∙◌}
use Rattle.std.proofs.Math.Path.{subst}
use Rattle.octets.specs.Reading.{and_then, is_read, read_or, read_each}
use Rattle.octets.specs.laws.Reading.{none-some, and_then-some}
use Rattle.calendar.specs.Calendar.{ical, xcal, ValueType, BINARY, BOOLEAN, CAL-ADDRESS, DATE, DATE-TIME, DURATION, FLOAT, INTEGER, PERIOD, RECUR, TEXT, TIME, URI, UTC-OFFSET, UNKNOWN}
use Rattle.calendar.specs.Calendar.{Value, binary, integer, recur, period_start, period_explicit, text, RulePart, type_of}
use Rattle.sink.specs.Sink.{Put}
use Rattle.schema.specs.Numbers.{type_at}
use Rattle.times.specs.DateTime.{read_date_time}
use Rattle.times.specs.Duration.{read_duration}
use Rattle.recur.specs.Item.{or_other}
use Rattle.recur.specs.Rule.{ruled, write_rule}
use Rattle.texts.specs.Binary.{read_binary}
use Rattle.values.specs.ReadValue.{read_value}
use Rattle.values.specs.WriteValue.{write_value}
use Rattle.json_text.specs.Tree.{Json}
use Rattle.json_text.specs.Kinds.{as_string, as_number, as_literal, as_array, as_object}
use Rattle.jcal.specs.Integer.{read_number}
use Rattle.jcal.specs.Values.{period_from, read_period, read_part, read_recur, read_typed}
use Rattle.read_json.specs.Heads.{value_of_head}
use Rattle.read_json.specs.declared.Head.{Head}
use Rattle.write_text_pieces.specs.laws.Reading.{type_of_read}
use Rattle.write_text_jcal_values.specs.Elements.{list_at, member_list_at}
use Rattle.write_text_jcal_values.specs.laws.Joining.{same_some}
use Rattle.write_text_jcal_values.specs.laws.Scalars.{map-some, array_some, object_some, typed_as}

module _ (s : List ℕ) (h : Head) {d e : List ℕ} {o r : ℕ} (t : ℕ) where
  pub typed_period : t ≡ 8 → ((v : Value) → read_period (list_at s h.next) ≡ Some v → Put d e o r (write_value v)) → (v : Value) → read_typed (type_at t) (value_of_head s h) ≡ Some v → Put d e o r (write_value v)
  unfolding read_typed
  typed_period q p v k = p v (array_some s h.place h.next v read_period h.kind (typed_as t 8 (value_of_head s h) v q k))

  pub typed_recur : t ≡ 9 → ((ps : List RulePart) → and_then (read_each read_part (member_list_at s h.next)) ruled ≡ Some ps → Put d e o r (write_rule ps)) →
      (v : Value) → read_typed (type_at t) (value_of_head s h) ≡ Some v → Put d e o r (write_value v)
  unfolding read_typed write_value
  typed_recur q p v k =
      let i : read_recur (member_list_at s h.next) ≡ Some v = object_some s h.place h.next v read_recur h.kind (typed_as t 9 (value_of_head s h) v q k) in
      let m = map-some recur (and_then (read_each read_part (member_list_at s h.next)) ruled) v i in
      subst (λ (y : Value). Put d e o r (write_value y)) (sym m.2) (p m.0 m.1)

  pub typed_scalar : (t ≡ 8 → ⊥) → (t ≡ 9 → ⊥) →
      ((t ≡ 8 → ⊥) → (t ≡ 9 → ⊥) → (v : Value) → read_typed (type_at t) (value_of_head s h) ≡ Some v → Put d e o r (write_value v)) → (v : Value) → read_typed (type_at t) (value_of_head s h) ≡ Some v → Put d e o r (write_value v)
  typed_scalar n m p v k = p n m v k

-- ---- its type

value_type : (x : ValueType) (l : List ℕ) (v : Value) → read_value xcal x l ≡ Some v → type_of v ≡ x
unfolding is_read read_or
value_type x l v h = ap (λ (o : Option Value). type_of (read_or (text []) o)) (sym h) ∙ type_of_read x l (ap is_read h)

string_type : (x : ValueType) (u : Json) (v : Value) → and_then (as_string u) (read_value xcal x) ≡ Some v → type_of v ≡ x
string_type x u v h = let e = and_then-some (as_string u) (read_value xcal x) v h in value_type x e.0 v e.2

period_type : (m l : List ℕ) (v : Value) → period_from m l ≡ Some v → type_of v ≡ PERIOD
period_type m l v h = go (read_duration xcal l) (read_date_time xcal l) h
  where
    go : (a b : Option (List ℕ)) → or_other (option_map (period_start m) a) (option_map (period_explicit m) b) ≡ Some v → type_of v ≡ PERIOD
    go (Some x) b k = ap type_of (sym (same_some k))
    go None (Some x) k = ap type_of (sym (same_some k))
    go None None k = none-some k

periods_type : (vs : List Json) (v : Value) → read_period vs ≡ Some v → type_of v ≡ PERIOD
periods_type [] v h = none-some h
periods_type (a ∷ []) v h = none-some h
periods_type (a ∷ b ∷ []) v h =
    let e = and_then-some (and_then (as_string a) (read_date_time xcal)) (λ m. and_then (as_string b) (period_from m)) v h in
    let g = and_then-some (as_string b) (period_from e.0) v e.2 in
    period_type e.0 g.0 v g.2
periods_type (a ∷ b ∷ x ∷ xs) v h = none-some h

pub typed_type : (x : ValueType) (u : Json) (v : Value) → read_typed x u ≡ Some v → type_of v ≡ x
unfolding read_typed read_value
typed_type BINARY u v h =
    let e = and_then-some (as_string u) (read_value ical BINARY) v h in
    let m = map-some binary (read_binary ical e.0) v e.2 in
    ap type_of m.2
typed_type BOOLEAN u v h = let e = and_then-some (as_literal u) (read_value xcal BOOLEAN) v h in value_type BOOLEAN e.0 v e.2
typed_type CAL-ADDRESS u v h = string_type CAL-ADDRESS u v h
typed_type DATE u v h = string_type DATE u v h
typed_type DATE-TIME u v h = string_type DATE-TIME u v h
typed_type DURATION u v h = string_type DURATION u v h
typed_type FLOAT u v h = let e = and_then-some (as_number u) (read_value xcal FLOAT) v h in value_type FLOAT e.0 v e.2
typed_type INTEGER u v h =
    let e = and_then-some (as_number u) (λ l. option_map integer (read_number l)) v h in
    let m = map-some integer (read_number e.0) v e.2 in
    ap type_of m.2
typed_type PERIOD u v h = let e = and_then-some (as_array u) read_period v h in periods_type e.0 v e.2
typed_type RECUR u v h =
    let e = and_then-some (as_object u) read_recur v h in
    let m = map-some recur (and_then (read_each read_part e.0) ruled) v e.2 in
    ap type_of m.2
typed_type TEXT u v h = string_type TEXT u v h
typed_type TIME u v h = string_type TIME u v h
typed_type URI u v h = string_type URI u v h
typed_type UTC-OFFSET u v h = string_type UTC-OFFSET u v h
typed_type UNKNOWN u v h = string_type UNKNOWN u v h
