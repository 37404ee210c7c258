-- Laws of what specs/ValuesAt.antt defines.
--     are_good        whether they are;   good_values: whether they were read
--     values_place    it is what `read_values` says of the names;   values_named: so is the answer
--     values_yes, values_no, values_as, own_take, own_skip             the answer, by tests
--     geo_yes, status_yes, chosen_word, chosen_value ..                the ways of the code
use Rattle.std.specs.Prelude.{◌≡◌, refl, Bool, List, [], ◌∷◌, ℕ, ◌≤◌, Option, None, Some}
use Rattle.std.proofs.Math.Path.{sym}
use Rattle.std.proofs.Common.{ap, ◌∙◌}
use Rattle.std.proofs.Math.Bool.{true, false}
use Rattle.std.proofs.lemmas.Bool.{false≢true}
use Rattle.octets.specs.Pick.{pick}
use Rattle.octets.specs.Class.{upper}
use Rattle.octets.specs.Words.{is_one_of}
use Rattle.octets.specs.Reading.{is_read}
use Rattle.calendar.specs.Calendar.{ical, ValueType, Value, text}
use Rattle.source.specs.Source.{rest}
use Rattle.names.specs.Table.{place_of}
use Rattle.schema.specs.Types.{type_place, is_type_of}
use Rattle.schema.specs.laws.Types.{place_type}
use Rattle.schema.specs.Components.{component_names}
use Rattle.schema.specs.Properties.{property_names, permitted_types}
use Rattle.schema.specs.Numbers.{type_at}
use Rattle.schema.specs.Coded.{row_at}
use Rattle.schema.specs.laws.Columns.{number_place, listed_place, permits_type_place}
use Rattle.schema.specs.laws.Places.{type_back}
use Rattle.schema.specs.declared.table.Row.{Row}
use Rattle.schema.specs.Sets.{is_word_of}
use Rattle.schema.specs.laws.Sets.{words_place, geo_place, request_status_place}
use Rattle.numbers.specs.Geo.{read_geo}
use Rattle.numbers.specs.ReadGeo.{ReadsGeo}
use Rattle.texts.specs.RequestStatus.{read_request_status}
use Rattle.texts.specs.StatusParts.{StatusEnds}
use Rattle.texts.specs.declared.StatusParts.{StatusParts}
use Rattle.recur.specs.laws.Fits.{provided_is}
use Rattle.values.specs.ReadValue.{read_value}
use Rattle.values.specs.laws.ValueAt.{mapped}
use Rattle.text.specs.Values.{one_value, read_listed, read_chosen, read_own, read_values}
use Rattle.read_text_property.specs.ValuesAt.{values_read, own_at, good_at}

abbrev pub are_good : Option ℕ → Bool
are_good (Some t) = true
are_good None = false

pub good_values : (t : ℕ) (b : Bool) {r : Option ℕ} → r ≡ values_read t b → b ≡ are_good r
good_values t true e = rw e
good_values t false e = rw e

module _ (t : ℕ) where
  module _ {b : Bool} where
    pub values_yes : true ≡ b → Some t ≡ values_read t b
    values_yes h = rw (← h)

    pub values_no : false ≡ b → None ≡ values_read t b
    values_no h = rw (← h)

  module _ {r : Option ℕ} where
    pub values_as : {a b : Bool} → r ≡ values_read t a → a ≡ b → r ≡ values_read t b
    values_as e h = rw (← h) e

    module _ {x : Bool} (a b : Bool) where
      pub own_take : x ≡ true → r ≡ values_read t a → r ≡ values_read t (pick x a b)
      unfolding pick
      own_take h e = rw h e

      pub own_skip : x ≡ false → r ≡ values_read t b → r ≡ values_read t (pick x a b)
      unfolding pick
      own_skip h e = rw h e

-- ---- names and their numbers

one_read : (o : Option Value) → is_read (one_value o) ≡ is_read o
one_read o = mapped (λ v. v ∷ []) o

own_read : (a b d : Bool) (o : Option (List (List ℕ))) (t : ValueType) (l : List ℕ) →
    is_read (pick a (one_value (read_geo l)) (pick b (one_value (read_request_status l)) (pick d (read_listed t l) (one_value (read_chosen o t l)))))
    ≡ pick a (is_read (read_geo l)) (pick b (is_read (read_request_status l)) (pick d (is_read (read_listed t l)) (is_read (read_chosen o t l))))
unfolding pick
own_read true b d o t l = one_read (read_geo l)
own_read false true d o t l = one_read (read_request_status l)
own_read false false true o t l = refl
own_read false false false o t l = one_read (read_chosen o t l)

own_same : {a a' b b' d d' : Bool} {o o' : Option (List (List ℕ))} (t : ValueType) (l : List ℕ) → a ≡ a' → b ≡ b' → d ≡ d' → o ≡ o' →
    is_read (pick a (one_value (read_geo l)) (pick b (one_value (read_request_status l)) (pick d (read_listed t l) (one_value (read_chosen o t l)))))
    ≡ pick a' (is_read (read_geo l)) (pick b' (is_read (read_request_status l)) (pick d' (is_read (read_listed t l)) (is_read (read_chosen o' t l))))
own_same {a} {a'} {b} {b'} {d} {d'} {o} {o'} t l p q r u = rw (← p, ← q, ← r, ← u) (own_read a b d o t l)

own_place : (c w : List ℕ) (t : ValueType) (l : List ℕ) → is_read (read_own c w t l) ≡ own_at (place_of c component_names) (row_at (place_of w property_names)) (type_place t) l
own_place c w t l = rw (number_place w, listed_place w, place_type t) (own_same t l (geo_place w) (request_status_place w) refl (words_place c w))

pick_read : {A : Type 0} (b : Bool) (o : Option A) → is_read (pick b o None) ≡ pick b (is_read o) false
unfolding pick is_read
pick_read true o = refl
pick_read false o = refl

pub values_place : (c w : List ℕ) (t : ValueType) (l : List ℕ) → is_read (read_values c w t l) ≡ good_at (place_of c component_names) (row_at (place_of w property_names)) (type_place t) l
unfolding read_values
values_place c w t l =
    pick_read (is_type_of t (permitted_types w)) (read_own c w t l)
    ∙ ap (λ (b : Bool). pick (is_type_of t (permitted_types w)) b false) (own_place c w t l)
    ∙ ap (λ (b : Bool). pick b (own_at (place_of c component_names) (row_at (place_of w property_names)) (type_place t) l) false) (permits_type_place w t)

-- ---- GEO, REQUEST-STATUS, a word of a closed set

module _ {m : ℕ} {s : List ℕ} {c : ℕ} where
  pub geo_yes : {r : Option ℕ} {e : ℕ} → ReadsGeo m s c r → r ≡ Some e → true ≡ is_read (read_geo (rest m s c))
  geo_yes p h = sym (p.good ∙ rw h)

  pub geo_no : {r : Option ℕ} → ReadsGeo m s c r → r ≡ None → false ≡ is_read (read_geo (rest m s c))
  geo_no p h = sym (p.good ∙ rw h)

  pub status_yes : {r : Option StatusParts} {a : StatusParts} → StatusEnds m s c r → r ≡ Some a → true ≡ is_read (read_request_status (rest m s c))
  status_yes p h = rw (← p.is, h)

  pub status_no : {r : Option StatusParts} → StatusEnds m s c r → r ≡ None → false ≡ is_read (read_request_status (rest m s c))
  status_no p h = rw (← p.is, h)

module _ {a r : Bool} (o : Option (List (List ℕ))) (t : ValueType) (l : List ℕ) (e : a ≡ is_read o) where
  pub chosen_word : a ≡ true → r ≡ is_word_of o (upper l) → r ≡ is_read (read_chosen o t l)
  unfolding is_read
  chosen_word h q = go o (sym h ∙ e) q
    where
      go : (o : Option (List (List ℕ))) → true ≡ is_read o → r ≡ is_word_of o (upper l) → r ≡ is_read (read_chosen o t l)
      go None z q = absurd (false≢true (sym z))
      go (Some ws) z q = q ∙ sym (provided_is (is_one_of (upper l) ws) (text (upper l)))

  pub chosen_value : a ≡ false → r ≡ is_read (read_value ical t l) → r ≡ is_read (read_chosen o t l)
  unfolding is_read
  chosen_value h q = go o (sym h ∙ e) q
    where
      go : (o : Option (List (List ℕ))) → false ≡ is_read o → r ≡ is_read (read_value ical t l) → r ≡ is_read (read_chosen o t l)
      go None z q = q
      go (Some ws) z q = absurd (false≢true z)

-- ---- the answer

-- of names that have this number and this row
pub values_named : {r : Option ℕ} (k : ℕ) (row : Row) (t : ℕ) (l : List ℕ) → r ≡ values_read t (good_at k row t l) → (c w : List ℕ) →
    k ≡ place_of c component_names → row ≡ row_at (place_of w property_names) → t ≤ 14 → r ≡ values_read t (is_read (read_values c w (type_at t) l))
values_named k row t l e c w i j h = e ∙ rw (values_place c w (type_at t) l, type_back t h, i, j)
