-- Values of one scalar, written as text.
--     string_some, array_some, object_some     what is read of a kind, is read of what stands there
--     number_put, no_number                    INTEGER by its value
--     scalar_binary .. scalar_string           the ways of `put_scalar`
use Rattle.std.specs.Prelude.{◌≡◌, Bool, List, [], ℕ, ◌≤◌, length, take, Option, None, Some, option_map}
use Rattle.std.proofs.Math.Path.{refl, subst}
use Rattle.std.proofs.Common.{sym, ap, ◌∙◌, arith, length-take-le}
use Rattle.octets.specs.Reading.{and_then, or_nothing}
use Rattle.octets.specs.laws.Reading.{none-some}
use Rattle.octets.specs.Computing.{octets_compute}
use Rattle.calendar.specs.Calendar.{ical, xcal, ValueType, BINARY, BOOLEAN, CAL-ADDRESS, DATE, DATE-TIME, DURATION, FLOAT, INTEGER, PERIOD, RECUR, TEXT, TIME, URI, UTC-OFFSET, UNKNOWN}
use Rattle.calendar.specs.Calendar.{Value, binary, integer, Whole}
use Rattle.sink.specs.Sink.{Put}
use Rattle.schema.specs.Types.{type_place}
use Rattle.schema.specs.Numbers.{type_at}
use Rattle.schema.specs.laws.Places.{type_back}
use Rattle.numbers.specs.Integer.{write_whole}
use Rattle.numbers.specs.Boolean.{read_boolean}
use Rattle.numbers.specs.ReadInteger.{whole_of}
use Rattle.numbers.specs.declared.integer.Integer.{Integer}
use Rattle.texts.specs.Binary.{read_binary}
use Rattle.texts.specs.Chars.{as_is}
use Rattle.values.specs.ReadValue.{read_value}
use Rattle.values.specs.WriteValue.{write_value}
use Rattle.json_text.specs.Tree.{Json, Member, element_list, member_list}
use Rattle.json_text.specs.Kinds.{as_string, as_literal, as_array, as_object}
use Rattle.jcal.specs.Integer.{read_number}
use Rattle.jcal.specs.Values.{read_typed}
use Rattle.read_json.specs.TreeAt.{elements_at, members_at, string_at, word_at}
use Rattle.read_json.specs.Heads.{value_by, value_of_head}
use Rattle.read_json.specs.declared.Head.{Head}
use Rattle.read_json.specs.declared.HeadKind.{HeadKind}
use Rattle.read_json.specs.declared.HeadKind.TheVariants.{Absent, String, Number, Literal, Array, Object}
use Rattle.write_text_pieces.specs.Leaves.{value_text}
use Rattle.write_text_jcal_values.specs.laws.Joining.{same_some}
use Rattle.write_text_jcal_values.specs.laws.Own.{number_some, put_some}

pub map-some : {A B : Type 0} (g : A → B) (o : Option A) (v : B) → option_map g o ≡ Some v → (a : A) × (o ≡ Some a) × (v ≡ g a)
map-some g None v h = none-some h
map-some g (Some a) v h = (a, refl, sym (same_some h))

module _ {A : Type 0} (s : List ℕ) (p n : ℕ) (a : A) where
  pub string_some : (f : List ℕ → Option A) (k : HeadKind) → and_then (as_string (value_by k s p n)) f ≡ Some a → f (string_at s p) ≡ Some a
  unfolding and_then
  string_some f Absent h = none-some h
  string_some f String h = h
  string_some f Number h = none-some h
  string_some f Literal h = none-some h
  string_some f Array h = none-some h
  string_some f Object h = none-some h

  literal_some : (f : List ℕ → Option A) → f [] ≡ None → (k : HeadKind) → and_then (as_literal (value_by k s p n)) f ≡ Some a → f (word_at s p n) ≡ Some a
  unfolding and_then
  literal_some f e Absent h = none-some (sym e ∙ h)
  literal_some f e String h = none-some h
  literal_some f e Number h = none-some h
  literal_some f e Literal h = h
  literal_some f e Array h = none-some h
  literal_some f e Object h = none-some h

  pub array_some : (f : List Json → Option A) (k : HeadKind) → and_then (as_array (value_by k s p n)) f ≡ Some a → f (element_list (elements_at s n)) ≡ Some a
  unfolding and_then
  array_some f Absent h = none-some h
  array_some f String h = none-some h
  array_some f Number h = none-some h
  array_some f Literal h = none-some h
  array_some f Array h = h
  array_some f Object h = none-some h

  pub object_some : (f : List Member → Option A) (k : HeadKind) → and_then (as_object (value_by k s p n)) f ≡ Some a → f (member_list (members_at s n)) ≡ Some a
  unfolding and_then
  object_some f Absent h = none-some h
  object_some f String h = none-some h
  object_some f Number h = none-some h
  object_some f Literal h = none-some h
  object_some f Array h = none-some h
  object_some f Object h = h

-- ---- INTEGER

pub cut_place : (s : List ℕ) (p n : ℕ) → p ≤ n → n ≤ length s → p ≤ length (take n s)
cut_place s p n h k = omega (arith, length-take-le n s k, h)

module _ {d e : List ℕ} {o r : ℕ} (s : List ℕ) (p n : ℕ) {x : Option Integer} (q : read_number (word_at s p n) ≡ option_map whole_of x) where
  pub number_put : {i : Integer} → x ≡ Some i → Put d e o r (write_whole (whole_of i)) → (w : Whole) → read_number (word_at s p n) ≡ Some w → Put d e o r (write_whole w)
  number_put {i} h t w k =
      let z : Some (whole_of i) ≡ Some w = sym (q ∙ ap (option_map whole_of) h) ∙ k in
      subst (λ (y : Whole). Put d e o r (write_whole y)) (same_some z) t

  pub no_number : x ≡ None → (w : Whole) → read_number (word_at s p n) ≡ Some w → Put d e o r (write_whole w)
  no_number h w k = none-some (sym (q ∙ ap (option_map whole_of) h) ∙ k)

-- ---- by the number of a type

other_type : (t : ℕ) (x : ValueType) → t ≤ 14 → (t ≡ type_place x → ⊥) → type_at t ≡ x → ⊥
other_type t x l n q = n (sym (type_back t l) ∙ ap type_place q)

pub typed_as : (t k : ℕ) (u : Json) (v : Value) → t ≡ k → read_typed (type_at t) u ≡ Some v → read_typed (type_at k) u ≡ Some v
typed_as t k u v e h = subst (λ (i : ℕ). read_typed (type_at i) u ≡ Some v) e h

no_truth : read_value xcal BOOLEAN [] ≡ None
unfolding read_value octets_compute
no_truth = refl

-- what the writer of leaves put
leaf_put : {d e : List ℕ} {o r : ℕ} (x : ValueType) (l : List ℕ) {v : Value} → read_value xcal x l ≡ Some v → Put d e o r (value_text (read_value xcal x l)) → Put d e o r (write_value v)
unfolding value_text
leaf_put x l i p = put_some write_value i p

module _ (s : List ℕ) (h : Head) {d e : List ℕ} {o r : ℕ} (t : ℕ) where
  pub scalar_binary : t ≡ 0 → Put d e o r (or_nothing as_is (read_binary ical (string_at s h.place))) → (v : Value) → read_typed (type_at t) (value_of_head s h) ≡ Some v → Put d e o r (write_value v)
  unfolding read_typed read_value write_value
  scalar_binary q p v k =
      let i : read_value ical BINARY (string_at s h.place) ≡ Some v = string_some s h.place h.next v (read_value ical BINARY) h.kind (typed_as t 0 (value_of_head s h) v q k) in
      let m = map-some binary (read_binary ical (string_at s h.place)) v i in
      subst (λ (y : Value). Put d e o r (write_value y)) (sym m.2) (put_some as_is m.1 p)

  pub scalar_boolean : t ≡ 1 → Put d e o r (value_text (read_value xcal (type_at t) (word_at s h.place h.next))) → (v : Value) → read_typed (type_at t) (value_of_head s h) ≡ Some v → Put d e o r (write_value v)
  unfolding read_typed
  scalar_boolean q p v k =
      leaf_put BOOLEAN (word_at s h.place h.next) (literal_some s h.place h.next v (read_value xcal BOOLEAN) no_truth h.kind (typed_as t 1 (value_of_head s h) v q k))
      (subst (λ (i : ℕ). Put d e o r (value_text (read_value xcal (type_at i) (word_at s h.place h.next)))) q p)

  pub scalar_float : t ≡ 6 → Put d e o r (value_text (read_value xcal (type_at t) (word_at s h.place h.next))) → (v : Value) → read_typed (type_at t) (value_of_head s h) ≡ Some v → Put d e o r (write_value v)
  unfolding read_typed
  scalar_float q p v k =
      leaf_put FLOAT (word_at s h.place h.next) (number_some (read_value xcal FLOAT) h.kind s h.place h.next v (typed_as t 6 (value_of_head s h) v q k))
      (subst (λ (i : ℕ). Put d e o r (value_text (read_value xcal (type_at i) (word_at s h.place h.next)))) q p)

  pub scalar_integer : t ≡ 7 → ((w : Whole) → read_number (word_at s h.place h.next) ≡ Some w → Put d e o r (write_whole w)) → (v : Value) → read_typed (type_at t) (value_of_head s h) ≡ Some v → Put d e o r (write_value v)
  unfolding read_typed write_value
  scalar_integer q p v k =
      let i : option_map integer (read_number (word_at s h.place h.next)) ≡ Some v = number_some (λ l. option_map integer (read_number l)) h.kind s h.place h.next v (typed_as t 7 (value_of_head s h) v q k) in
      let m = map-some integer (read_number (word_at s h.place h.next)) v i in
      subst (λ (y : Value). Put d e o r (write_value y)) (sym m.2) (p m.0 m.1)

  pub scalar_string : t ≤ 14 → (t ≡ 0 → ⊥) → (t ≡ 1 → ⊥) → (t ≡ 6 → ⊥) → (t ≡ 7 → ⊥) → Put d e o r (value_text (read_value xcal (type_at t) (string_at s h.place))) →
      (t ≡ 8 → ⊥) → (t ≡ 9 → ⊥) → (v : Value) → read_typed (type_at t) (value_of_head s h) ≡ Some v → Put d e o r (write_value v)
  unfolding read_typed
  scalar_string l n0 n1 n6 n7 p n8 n9 v k = leaf_put (type_at t) (string_at s h.place) (go (type_at t) refl k) p
    where
      strung : (x : ValueType) → and_then (as_string (value_of_head s h)) (read_value xcal x) ≡ Some v → read_value xcal x (string_at s h.place) ≡ Some v
      strung x i = string_some s h.place h.next v (read_value xcal x) h.kind i

      go : (x : ValueType) → type_at t ≡ x → read_typed x (value_of_head s h) ≡ Some v → read_value xcal x (string_at s h.place) ≡ Some v
      go BINARY q i = absurd (other_type t BINARY l n0 q)
      go BOOLEAN q i = absurd (other_type t BOOLEAN l n1 q)
      go CAL-ADDRESS q i = strung CAL-ADDRESS i
      go DATE q i = strung DATE i
      go DATE-TIME q i = strung DATE-TIME i
      go DURATION q i = strung DURATION i
      go FLOAT q i = absurd (other_type t FLOAT l n6 q)
      go INTEGER q i = absurd (other_type t INTEGER l n7 q)
      go PERIOD q i = absurd (other_type t PERIOD l n8 q)
      go RECUR q i = absurd (other_type t RECUR l n9 q)
      go TEXT q i = strung TEXT i
      go TIME q i = strung TIME i
      go URI q i = strung URI i
      go UTC-OFFSET q i = strung UTC-OFFSET i
      go UNKNOWN q i = strung UNKNOWN i
