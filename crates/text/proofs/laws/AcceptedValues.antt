-- What is read for a property is values that the property has in its component.
--     values_accepted    of a type that is permitted, all of that type, one unless a list is taken, words of the closed set where there is one
use Rattle.std.specs.Prelude.{◌≡◌, refl, Bool, true, false, List, [], ◌∷◌, map, ℕ, Option, None, Some, option_map}
use Rattle.std.proofs.Common.{sym, ◌∙◌}
use Rattle.std.proofs.lemmas.Bool.{false≢true}
use Rattle.octets.specs.Ascii.{ascii}
use Rattle.octets.specs.Pick.{pick, ◌and◌, ◌or◌}
use Rattle.octets.specs.laws.Pick.{and_yes, and_both, or_right}
use Rattle.octets.specs.Class.{upper}
use Rattle.octets.specs.Words.{same, is_one_of, is_empty, cut_at}
use Rattle.octets.specs.laws.Words.{cut_some}
use Rattle.octets.specs.Lists.{every}
use Rattle.octets.specs.laws.Lists.{every_both}
use Rattle.octets.specs.Reading.{read_each}
use Rattle.octets.specs.laws.Reading.{none-some, provided-some, each_accepted, each_empty}
use Rattle.calendar.specs.Calendar.{ical, ValueType, FLOAT, TEXT, Value, text, type_of}
use Rattle.schema.specs.Types.{same_type, is_type_of}
use Rattle.schema.specs.laws.Types.{same_type_self, same_type_true}
use Rattle.schema.specs.Properties.{permitted_types, is_listed_property, property_words}
use Rattle.schema.specs.laws.Closed.{property_words_text}
use Rattle.numbers.specs.Geo.{read_geo}
use Rattle.numbers.specs.laws.Geo.{geo_accepted}
use Rattle.texts.specs.TextList.{read_texts}
use Rattle.texts.specs.laws.TextList.{texts_accepted}
use Rattle.texts.specs.RequestStatus.{read_request_status}
use Rattle.texts.specs.laws.RequestStatus.{request_status_accepted}
use Rattle.values.specs.ReadValue.{read_value}
use Rattle.values.specs.WriteValue.{type_of_all}
use Rattle.values.specs.laws.ReadBack.{value_accepted}
use Rattle.values.specs.Valid.{is_amount, is_of_type, is_chosen, is_own_value, is_property_value, are_values_of}
use Rattle.text.specs.Values.{one_value, read_listed, read_chosen, read_own, read_values}
use Rattle.text.proofs.laws.ValuesLaws.{geo_row, status_row, only_type, listed_unchosen}

-- values that pass a test, as many as are taken, of a type
abbrev Pass : (Value → Bool) → Bool → ValueType → List Value → Type 0
Pass p l t vs = (is_amount l vs ≡ true) × (every p vs ≡ true) × (type_of_all vs ≡ t)

-- ---- one value

one_passes : (p : Value → Bool) (l : Bool) (t : ValueType) (o : Option Value) (vs : List Value) →
    ((v : Value) → o ≡ Some v → (p v ≡ true) × (type_of v ≡ t)) → one_value o ≡ Some vs → Pass p l t vs
unfolding every
one_passes p l t None vs f h = none-some h
one_passes p l t (Some v) vs f h =
    let e : v ∷ [] ≡ vs = cc in
    let q = f v refl in
    rw (← e) (or_right l true refl, and_yes (p v) true q.0 refl, q.1)

geo_passes : (s : List ℕ) (v : Value) → read_geo s ≡ Some v → (is_own_value FLOAT v ≡ true) × (type_of v ≡ FLOAT)
geo_passes s v h =
    let g = geo_accepted s v h in
    rw g.both (and_yes _ _ (same_type_self FLOAT) (and_yes _ _ refl (and_yes _ _ g.latitude_normal g.longitude_normal)), refl)

status_passes : (s : List ℕ) (v : Value) → read_request_status s ≡ Some v → (is_own_value TEXT v ≡ true) × (type_of v ≡ TEXT)
unfolding ◌and◌
status_passes s v h = rw ((request_status_accepted s v h).is, same_type_self TEXT) (refl, refl)

typed_passes : (t : ValueType) (s : List ℕ) (v : Value) → read_value ical t s ≡ Some v → (is_of_type t v ≡ true) × (type_of v ≡ t)
typed_passes t s v h = let a = value_accepted ical t s v h in (rw (a.2, same_type_self t) (and_yes _ _ refl (and_yes _ _ a.1 a.0)), a.2)

chosen_passes : (k n : List ℕ) (o : Option (List (List ℕ))) (t : ValueType) (s : List ℕ) (v : Value) → property_words k n ≡ o → is_type_of t (permitted_types n) ≡ true →
    read_chosen o t s ≡ Some v → (is_chosen o t v ≡ true) × (type_of v ≡ t)
chosen_passes k n None t s v e p h = typed_passes t s v h
chosen_passes k n (Some words) t s v e p h =
    let q = provided-some (is_one_of (upper s) words) (text (upper s)) v h in
    let u : t ≡ TEXT = only_type t TEXT (rw (property_words_text k n words e).0 at p) in
    rw (← q.1, u) (q.0, refl)

-- ---- lists

typed_all : (t : ValueType) (vs : List Value) → is_empty vs ≡ false → every (is_of_type t) vs ≡ true → Pass (is_of_type t) true t vs
unfolding ◌or◌
typed_all t [] x h = absurd (false≢true (sym x))
typed_all t (v ∷ vs) x h = (refl, h, same_type_true (type_of v) t (and_both _ _ (every_both (is_of_type t) v vs h).0).0)

texts_pass : (ts : List (List ℕ)) → every (is_of_type TEXT) (map text ts) ≡ true
unfolding every ◌and◌
texts_pass [] = refl
texts_pass (t ∷ ts) = rw (same_type_self TEXT) (texts_pass ts)

texts_some : (ts : List (List ℕ)) → is_empty ts ≡ false → is_empty (map text ts) ≡ false
texts_some [] h = h
texts_some (t ∷ ts) h = refl

listed_passes : (t : ValueType) (s : List ℕ) (vs : List Value) → read_listed t s ≡ Some vs → Pass (is_of_type t) true t vs
unfolding pick
listed_passes t s vs h = go (same_type t TEXT) refl h
  where
    texts : (o : Option (List (List ℕ))) → read_texts s ≡ o → option_map (map text) o ≡ Some vs → Pass (is_of_type TEXT) true TEXT vs
    texts None e k = none-some k
    texts (Some ts) e k = let q : map text ts ≡ vs = cc in rw (← q) (typed_all TEXT (map text ts) (texts_some ts (texts_accepted s ts e)) (texts_pass ts))

    go : (b : Bool) → same_type t TEXT ≡ b → pick b (option_map (map text) (read_texts s)) (read_each (read_value ical t) (cut_at 44 s)) ≡ Some vs → Pass (is_of_type t) true t vs
    go true e k = rw (same_type_true t TEXT e) (texts (read_texts s) refl k)
    go false e k =
        typed_all t vs (each_empty (read_value ical t) (cut_at 44 s) vs k ∙ cut_some 44 s)
        (each_accepted (read_value ical t) (is_of_type t) (λ r v q. (typed_passes t r v q).0) (cut_at 44 s) vs k)

-- ---- the values of a property

own_passes : (k n : List ℕ) (t : ValueType) (s : List ℕ) (vs : List Value) → is_type_of t (permitted_types n) ≡ true → read_own k n t s ≡ Some vs →
    Pass (is_property_value k n t) (is_listed_property n) t vs
unfolding pick ◌or◌
own_passes k n t s vs p h = go (same n (ascii "GEO")) refl (same n (ascii "REQUEST-STATUS")) refl (is_listed_property n) refl h
  where
    go : (g : Bool) → same n (ascii "GEO") ≡ g → (r : Bool) → same n (ascii "REQUEST-STATUS") ≡ r → (l : Bool) → is_listed_property n ≡ l →
        pick g (one_value (read_geo s)) (pick r (one_value (read_request_status s)) (pick l (read_listed t s) (one_value (read_chosen (property_words k n) t s)))) ≡ Some vs →
        Pass (λ v. pick (g or r) (is_own_value t v) (is_chosen (property_words k n) t v)) l t vs
    go true e r f l x h =
        let u : t ≡ FLOAT = only_type t FLOAT (rw (geo_row n e).0 at p) in
        one_passes (is_own_value t) l t (read_geo s) vs (λ v c. rw u (geo_passes s v c)) h
    go false e true f l x h =
        let u : t ≡ TEXT = only_type t TEXT (rw (status_row n f).0 at p) in
        one_passes (is_own_value t) l t (read_request_status s) vs (λ v c. rw u (status_passes s v c)) h
    go false e false f true x h = rw (listed_unchosen k n x) (listed_passes t s vs h)
    go false e false f false x h =
        one_passes (is_chosen (property_words k n) t) false t (read_chosen (property_words k n) t s) vs (λ v c. chosen_passes k n (property_words k n) t s v refl p c) h

pub values_accepted : (k n : List ℕ) (t : ValueType) (s : List ℕ) (vs : List Value) → read_values k n t s ≡ Some vs → (are_values_of k n t vs ≡ true) × (type_of_all vs ≡ t)
unfolding are_values_of read_values pick
values_accepted k n t s vs h = go (is_type_of t (permitted_types n)) refl h
  where
    go : (b : Bool) → is_type_of t (permitted_types n) ≡ b → pick b (read_own k n t s) None ≡ Some vs →
        ((b and is_amount (is_listed_property n) vs and every (is_property_value k n t) vs) ≡ true) × (type_of_all vs ≡ t)
    go true p q = let a = own_passes k n t s vs p q in (and_yes _ _ refl (and_yes _ _ a.0 a.1), a.2)
    go false p q = none-some q
