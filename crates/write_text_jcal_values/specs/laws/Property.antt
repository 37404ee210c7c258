-- Laws of the values of a property by numbers.
--     value_geo, value_status, value_typed    the ways of `put_value`
--     written_..                              those of `written_type`;   `search written`
--     values_put, values_unread               those of `put_values`
--     type_first, type_none, type_unread      those of `type_of_values`
use Rattle.std.specs.Prelude.{◌≡◌, refl, Bool, ℕ, ◌*◌, ◌^◌, ◌≤◌, ◌<◌, eqb, length, Option, None, Some}
use Rattle.std.proofs.Common.{sym, ◌∙◌, arith, rules}
use Rattle.std.proofs.Math.Path.{ap, subst}
use Rattle.std.proofs.Math.Bool.{true, false}
use Rattle.std.proofs.lemmas.Bool.{false≢true}
use mathlib.Core.List.{List, [], ◌∷◌, map}
use borrow.Author.Tests.{eq-eqb, ne_eqb}
use Rattle.octets.specs.Pick.{pick}
use Rattle.octets.specs.Words.{is_one_of, joined_by}
use Rattle.octets.specs.Reading.{provided, and_then, is_read, read_or, cons_read, read_each}
use Rattle.octets.specs.laws.Reading.{none-some, read_some, provided-some, and_then-some}
use Rattle.calendar.specs.Calendar.{xcal, FLOAT, TEXT, Value, text, type_of}
use Rattle.sink.specs.Sink.{Put}
use Rattle.names.specs.Table.{place_of}
use Rattle.schema.specs.Types.{is_type_of}
use Rattle.schema.specs.Components.{component_names}
use Rattle.schema.specs.Properties.{property_names, permitted_types, property_words}
use Rattle.schema.specs.Numbers.{type_at}
use Rattle.schema.specs.Sets.{words_at}
use Rattle.schema.specs.Coded.{row_at}
use Rattle.schema.specs.laws.Columns.{number_place}
use Rattle.schema.specs.laws.Sets.{geo_place, request_status_place, words_place}
use Rattle.schema.specs.Property as property
use Rattle.schema.specs.declared.Context.{Context}
use Rattle.schema.specs.declared.table.Row.{Row}
use Rattle.values.specs.ReadValue.{read_value}
use Rattle.values.specs.WriteValue.{write_value, write_values, type_of_all}
use Rattle.json_text.specs.Tree.{Json}
use Rattle.json_text.specs.Kinds.{as_string, as_array}
use Rattle.jcal.specs.Values.{read_typed, read_chosen, read_geo, read_status, read_one, read_values}
use Rattle.read_json.specs.Heads.{value_of_head, HeadAt}
use Rattle.read_json.specs.Kinds.{is_there}
use Rattle.read_json.specs.declared.Head.{Head}
use Rattle.read_json.specs.laws.Heads.{list_none}
use Rattle.write_text_pieces.specs.laws.Typing.{number_of}
use Rattle.write_text_jcal_values.specs.Elements.{list_at}
use Rattle.write_text_jcal_values.specs.Property.{one_at, written_at, stated_as, ReadAs}
use Rattle.write_text_jcal_values.specs.laws.Elements.{there_of_list, none_list}
use Rattle.write_text_jcal_values.specs.laws.Joining.{same_some, each_first, each_none, each_more}
use Rattle.write_text_jcal_values.specs.laws.Own.{geo_typed, status_typed}
use Rattle.write_text_jcal_values.specs.laws.Scalars.{array_some}
use Rattle.write_text_jcal_values.specs.laws.Typed.{typed_type}

-- ---- one value

module _ (s : List ℕ) (h : Head) {d e : List ℕ} {o r : ℕ} (p t : ℕ) where
  pub value_geo : p ≡ property.GEO → ((v : Value) → read_geo (list_at s h.next) ≡ Some v → Put d e o r (write_value v)) → (v : Value) → one_at p t (value_of_head s h) ≡ Some v → Put d e o r (write_value v)
  unfolding pick
  value_geo q w v k = w v (array_some s h.place h.next v read_geo h.kind (rw (eq-eqb p property.GEO q) at k))

  module _ (n : p ≡ property.GEO → ⊥) where
    pub value_status : p ≡ property.REQUEST-STATUS → ((v : Value) → and_then (read_each as_string (list_at s h.next)) read_status ≡ Some v → Put d e o r (write_value v)) →
        (v : Value) → one_at p t (value_of_head s h) ≡ Some v → Put d e o r (write_value v)
    unfolding pick
    value_status q w v k =
        w v (array_some s h.place h.next v (λ vs. and_then (read_each as_string vs) read_status) h.kind (rw (ne_eqb p property.GEO n, eq-eqb p property.REQUEST-STATUS q) at k))

    pub value_typed : (p ≡ property.REQUEST-STATUS → ⊥) → ((v : Value) → read_typed (type_at t) (value_of_head s h) ≡ Some v → Put d e o r (write_value v)) →
        (v : Value) → one_at p t (value_of_head s h) ≡ Some v → Put d e o r (write_value v)
    unfolding pick
    value_typed m w v k = w v (rw (ne_eqb p property.GEO n, ne_eqb p property.REQUEST-STATUS m) at k)

-- ---- the type that values have

module _ (k p t : ℕ) (l : t ≤ 14) where
  pub written_geo : p ≡ property.GEO → (6 ≡ written_at k p t) × (6 ≤ 14)
  unfolding pick
  written_geo q = (rw (eq-eqb p property.GEO q), omega arith)

  module _ (n : p ≡ property.GEO → ⊥) where
    pub written_status : p ≡ property.REQUEST-STATUS → (10 ≡ written_at k p t) × (10 ≤ 14)
    unfolding pick
    written_status q = (rw (ne_eqb p property.GEO n, eq-eqb p property.REQUEST-STATUS q), omega arith)

    module _ (m : p ≡ property.REQUEST-STATUS → ⊥) {b : Bool} (e : b ≡ is_read (words_at k p)) where
      pub written_word : b ≡ true → (10 ≡ written_at k p t) × (10 ≤ 14)
      unfolding pick
      written_word q = (rw (ne_eqb p property.GEO n, ne_eqb p property.REQUEST-STATUS m, ← e, q), omega arith)

      pub written_stated : b ≡ false → (t ≡ written_at k p t) × (t ≤ 14)
      unfolding pick
      written_stated q = (rw (ne_eqb p property.GEO n, ne_eqb p property.REQUEST-STATUS m, ← e, q), l)

pub ruleset written = (written_geo, written_status, written_word, written_stated, rules)

-- ---- names and numbers

-- a word of a closed set is a TEXT
chosen_text : (ws : List (List ℕ)) (v : Json) (x : Value) → and_then (as_string v) (λ l. provided (is_one_of l ws) (text l)) ≡ Some x → read_typed TEXT v ≡ Some x
unfolding read_typed read_value and_then
chosen_text ws v x h =
    let e = and_then-some (as_string v) (λ l. provided (is_one_of l ws) (text l)) x h in
    let g = provided-some (is_one_of e.0 ws) (text e.0) x e.2 in
    rw e.1 (ap Some g.1)

module _ (c w : List ℕ) (t : ℕ) where
  abbrev row_place : ℕ
  row_place = place_of w property_names

  abbrev type_place : ℕ
  type_place = written_at (place_of c component_names) row_place t

  one_read : (v : Json) (x : Value) → read_one c w (type_at t) v ≡ Some x → one_at row_place type_place v ≡ Some x
  unfolding pick is_read
  one_read v x h = go (eqb row_place property.GEO) (eqb row_place property.REQUEST-STATUS) (words_at (place_of c component_names) row_place) (rw (geo_place w, request_status_place w, words_place c w) at h)
    where
      go : (a b : Bool) (o : Option (List (List ℕ))) →
          pick a (and_then (as_array v) read_geo) (pick b (and_then (as_array v) (λ vs. and_then (read_each as_string vs) read_status)) (read_chosen o (type_at t) v)) ≡ Some x →
          pick a (and_then (as_array v) read_geo) (pick b (and_then (as_array v) (λ vs. and_then (read_each as_string vs) read_status)) (read_typed (type_at (pick a 6 (pick b 10 (pick (is_read o) 10 t)))) v)) ≡ Some x
      go true b o k = k
      go false true o k = k
      go false false None k = k
      go false false (Some ws) k = chosen_text ws v x k

  each_read : (vs : List Json) (xs : List Value) → read_each (read_one c w (type_at t)) vs ≡ Some xs → read_each (one_at row_place type_place) vs ≡ Some xs
  unfolding read_each
  each_read [] xs h = h
  each_read (v ∷ vs) xs h =
      let g = each_first (read_one c w (type_at t)) v vs xs h in
      each_more (one_at row_place type_place) v vs g.0 g.1 (one_read v g.0 g.2) (each_read vs g.1 g.3) ∙ ap Some (sym g.4)

  one_type : (v : Json) (x : Value) → one_at row_place type_place v ≡ Some x → type_of x ≡ type_at type_place
  unfolding pick
  one_type v x h = go (eqb row_place property.GEO) (eqb row_place property.REQUEST-STATUS) (pick (is_read (words_at (place_of c component_names) row_place)) 10 t) h
    where
      go : (a b : Bool) (u : ℕ) →
          pick a (and_then (as_array v) read_geo) (pick b (and_then (as_array v) (λ vs. and_then (read_each as_string vs) read_status)) (read_typed (type_at (pick a 6 (pick b 10 u))) v)) ≡ Some x → type_of x ≡ type_at (pick a 6 (pick b 10 u))
      go true b u k = let e = and_then-some (as_array v) read_geo x k in geo_typed e.0 x e.2
      go false true u k =
          let e = and_then-some (as_array v) (λ vs. and_then (read_each as_string vs) read_status) x k in
          let g = and_then-some (read_each as_string e.0) read_status x e.2 in
          status_typed g.0 x g.2
      go false false u k = typed_type (type_at u) v x k

  -- values that are read
  values_read : (vs : List Json) → is_read (read_values c w (type_at t) vs) ≡ true → (xs : List Value) × (read_each (one_at row_place type_place) vs ≡ Some xs) × (read_or [] (read_values c w (type_at t) vs) ≡ xs)
  unfolding read_values
  values_read vs h = go (is_type_of (type_at t) (permitted_types w)) h
    where
      go : (b : Bool) → is_read (pick b (read_each (read_one c w (type_at t)) vs) None) ≡ true →
          (xs : List Value) × (read_each (one_at row_place type_place) vs ≡ Some xs) × (read_or [] (pick b (read_each (read_one c w (type_at t)) vs) None) ≡ xs)
      go true k =
          let e = read_some (read_each (read_one c w (type_at t)) vs) (unfold pick in k) in
          (e.0, each_read vs e.0 e.1, unfold pick read_or in ap (λ (o : Option (List Value)). read_or [] o) e.1)
      go false k = absurd (false≢true (unfold pick is_read in k))

unread : {A : Type 0} (o : Option (List A)) → is_read o ≡ false → read_or [] o ≡ []
unfolding is_read read_or
unread None h = refl
unread (Some l) h = absurd (false≢true (sym h))

-- ---- the ways of the code

module _ {x : Context} {t : ℕ} (z : (t ≡ written_at x.component x.row.number x.value_type) × (t ≤ 14)) (s : List ℕ) (from : ℕ) {b : Bool} where
  module _ (c w : List ℕ) (a : ReadAs x c w (list_at s from) b) where
    number : x.row.number ≡ place_of w property_names
    number = number_of w a.row

    type : t ≡ written_at (place_of c component_names) (place_of w property_names) x.value_type
    type = z.0 ∙ ap (λ (k : ℕ). written_at k x.row.number x.value_type) a.component ∙ ap (λ (p : ℕ). written_at (place_of c component_names) p x.value_type) number

    reads : b ≡ true → (xs : List Value) × (read_each (one_at x.row.number t) (list_at s from) ≡ Some xs) × (stated_as x c w (list_at s from) ≡ xs)
    reads q =
        let g = values_read c w x.value_type (list_at s from) (sym a.is ∙ q) in
        (g.0, ap (λ (p : ℕ). read_each (one_at p t) (list_at s from)) number ∙ ap (λ (u : ℕ). read_each (one_at (place_of w property_names) u) (list_at s from)) type ∙ g.1, g.2)

    types : b ≡ true → (v : Json) (y : Value) → one_at x.row.number t v ≡ Some y → type_of y ≡ type_at t
    types q v y k =
        one_type c w x.value_type v y (sym (ap (λ (p : ℕ). one_at p t v) number ∙ ap (λ (u : ℕ). one_at (place_of w property_names) u v) type) ∙ k) ∙ ap type_at (sym type)

  pub values_put : {d e : List ℕ} {o r : ℕ} → b ≡ true → ((vs : List Value) → read_each (one_at x.row.number t) (list_at s from) ≡ Some vs → Put d e o r (joined_by 44 (map write_value vs))) →
      (c w : List ℕ) → ReadAs x c w (list_at s from) b → Put d e o r (write_values (stated_as x c w (list_at s from)))
  unfolding write_values
  values_put {d} {e} {o} {r} q p c w a = let g = reads c w a q in subst (λ (l : List Value). Put d e o r (joined_by 44 (map write_value l))) (sym g.2) (p g.0 g.1)

  pub values_unread : {d e : List ℕ} {o r : ℕ} → b ≡ false → Put d e o r [] → (c w : List ℕ) → ReadAs x c w (list_at s from) b → Put d e o r (write_values (stated_as x c w (list_at s from)))
  unfolding write_values joined_by
  values_unread q p c w a = rw (unread (read_values c w (type_at x.value_type) (list_at s from)) (sym a.is ∙ q)) p

  module _ {h : Head} (k : HeadAt s from h) {y : Bool} (e : y ≡ is_there h.kind) where
    pub type_first : b ≡ true → y ≡ true → (c w : List ℕ) → ReadAs x c w (list_at s from) b → (type_at t ≡ type_of_all (stated_as x c w (list_at s from))) × (t ≤ 14)
    type_first q i c w a =
        let g = reads c w a q in
        let f = there_of_list k e i in
        let u = each_first (one_at x.row.number t) (value_of_head s h) f.0 g.0 (ap (read_each (one_at x.row.number t)) (sym f.1) ∙ g.1) in
        (sym (ap (λ (l : List Value). type_of_all l) (g.2 ∙ u.4) ∙ types c w a q (value_of_head s h) u.0 u.2), z.1)

    pub type_none : b ≡ true → y ≡ false → (c w : List ℕ) → ReadAs x c w (list_at s from) b → (type_at 14 ≡ type_of_all (stated_as x c w (list_at s from))) × (14 ≤ 14)
    type_none q i c w a =
        let g = reads c w a q in
        (sym (ap (λ (l : List Value). type_of_all l) (g.2 ∙ each_none (one_at x.row.number t) g.0 (ap (read_each (one_at x.row.number t)) (sym (none_list k e i)) ∙ g.1))), omega arith)

  pub type_unread : b ≡ false → (c w : List ℕ) → ReadAs x c w (list_at s from) b → (type_at 14 ≡ type_of_all (stated_as x c w (list_at s from))) × (14 ≤ 14)
  type_unread q c w a = (sym (ap (λ (l : List Value). type_of_all l) (unread (read_values c w (type_at x.value_type) (list_at s from)) (sym a.is ∙ q))), omega arith)
