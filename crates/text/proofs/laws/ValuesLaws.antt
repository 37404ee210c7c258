-- The values of a property that are written are read back.
--     values_read_back    of any property, in any component
use Rattle.std.specs.Prelude.{◌≡◌, refl, Bool, true, false, not, List, [], ◌∷◌, map, ℕ, Option, None, Some, option_map}
use Rattle.std.proofs.Common.{sym, subst, ◌∙◌}
use Rattle.std.proofs.lemmas.Bool.{false≢true, not-true}
use Rattle.octets.specs.Ascii.{ascii}
use Rattle.octets.specs.Pick.{pick, ◌and◌, ◌or◌}
use Rattle.octets.specs.laws.Pick.{pick_yes, and_both, pick_first, eqb_apart}
use Rattle.octets.specs.Append.{◌⊕◌}
use Rattle.octets.specs.Scan.{all_of}
use Rattle.octets.specs.Class.{upper}
use Rattle.octets.specs.Words.{same, is_one_of, holds, cut_at}
use Rattle.octets.specs.laws.Words.{same_true, cut_joined}
use Rattle.octets.specs.Lists.{every}
use Rattle.octets.specs.laws.Lists.{none_holds_lem, every_both}
use Rattle.octets.specs.laws.Tables.{row_any_passes}
use Rattle.octets.specs.Reading.{provided, read_or, read_each}
use Rattle.octets.specs.laws.Reading.{each_read_back}
use Rattle.octets.specs.Computing.{octets_compute}
use Rattle.calendar.specs.Calendar.{ical, ValueType, DATE, DATE-TIME, FLOAT, PERIOD, TEXT, Value, binary, boolean, cal_address, date, date_time, duration, float, integer, period_explicit, period_start, recur, text, time, uri, utc_offset, unknown, geo, request_status, type_of, text_in}
use Rattle.schema.specs.Types.{same_type, is_type_of}
use Rattle.schema.specs.laws.Types.{same_type_true, listed_passes}
use Rattle.schema.specs.Properties.{permitted_types, is_listed_property, property_words, property_row, property_table, unrecognised_property}
use Rattle.schema.specs.laws.Closed.{is_word_char, property_words_plain, property_words_text}
use Rattle.times.specs.laws.Date.{date_no_comma}
use Rattle.times.specs.laws.DateTime.{date_time_no_comma}
use Rattle.times.specs.laws.Period.{period_explicit_no_comma, period_start_no_comma}
use Rattle.numbers.specs.Geo.{read_geo}
use Rattle.numbers.specs.laws.Geo.{geo_read_back}
use Rattle.texts.specs.Text.{write_text, escape_text}
use Rattle.texts.specs.TextList.{read_texts}
use Rattle.texts.specs.laws.TextList.{texts_read_back}
use Rattle.texts.specs.RequestStatus.{read_request_status}
use Rattle.texts.specs.laws.RequestStatus.{request_status_read_back}
use Rattle.values.specs.ReadValue.{read_value}
use Rattle.values.specs.WriteValue.{write_value, write_values, type_of_all}
use Rattle.values.specs.laws.WriteValue.{one_written}
use Rattle.values.specs.ReadBack.{is_value, is_typed}
use Rattle.values.specs.laws.ReadBack.{value_read_back}
use Rattle.values.specs.Valid.{is_amount, is_of_type, is_word_in, is_chosen, is_own_value, is_property_value, are_values_of, are_property_values}
use Rattle.values.specs.laws.Valid.{only_one, text_or_other, text_in_lem, own_value}
use Rattle.text.specs.Values.{one_value, read_listed, read_chosen, read_own, read_values}

-- ---- one value

one_read_back : (read : List ℕ → Option Value) (p : Value → Bool) → ((v : Value) → p v ≡ true → read (write_value v) ≡ Some v) →
    (vs : List Value) → is_amount false vs ≡ true → every p vs ≡ true → one_value (read (write_values vs)) ≡ Some vs
one_read_back read p one vs a h =
    only_one (λ (l : List Value). every p l ≡ true → one_value (read (write_values l)) ≡ Some l) (λ v k. rw (one_written v, one v (every_both p v [] k).0)) vs a h

typed_read : (t : ValueType) (v : Value) → is_of_type t v ≡ true → read_value ical t (write_value v) ≡ Some v
typed_read t v h =
    let p = and_both (same_type (type_of v) t) (is_typed v and is_value v) h in
    let q = and_both (is_typed v) (is_value v) p.1 in
    rw (← (same_type_true (type_of v) t p.0)) (value_read_back v q.0 q.1)

-- no character of a word is escaped
word_char : (b : ℕ) → is_word_char b ≡ true → escape_text b ≡ b ∷ []
unfolding pick ◌or◌ ◌and◌
word_char b h = rw (eqb_apart is_word_char b 10 h refl, eqb_apart is_word_char b 44 h refl, eqb_apart is_word_char b 59 h refl, eqb_apart is_word_char b 92 h refl)

word_written : (s : List ℕ) → all_of is_word_char s ≡ true → write_text s ≡ s
unfolding write_text all_of ◌⊕◌
word_written [] h = refl
word_written (b ∷ s) h = let e = pick_first (is_word_char b) (all_of is_word_char s) h in rw (word_char b e.0, word_written s e.1)

chosen_read : (k n : List ℕ) (o : Option (List (List ℕ))) (t : ValueType) (v : Value) → property_words k n ≡ o → is_chosen o t v ≡ true → read_chosen o t (write_value v) ≡ Some v
unfolding write_value
chosen_read k n None t v e h = typed_read t v h
chosen_read k n (Some words) t v e h = go (text_in v) refl h
  where
    go : (x : Option (List ℕ)) → text_in v ≡ x → is_word_in words x ≡ true → provided (is_one_of (upper (write_value v)) words) (text (upper (write_value v))) ≡ Some v
    go None x h = absurd (false≢true h)
    go (Some s) x h =
        let c = and_both _ _ (and_both _ _ (property_words_plain k n words s e h)).1 in
        rw (text_in_lem v s x, word_written s c.0, same_true (upper s) s c.1) (pick_yes (is_one_of s words) _ _ h)

-- ---- GEO and REQUEST-STATUS

pub geo_row : (n : List ℕ) → same n (ascii "GEO") ≡ true → (permitted_types n ≡ FLOAT ∷ []) × (is_listed_property n ≡ false)
unfolding property_row octets_compute
geo_row n h = rw (same_true n (ascii "GEO") h) (refl, refl)

pub status_row : (n : List ℕ) → same n (ascii "REQUEST-STATUS") ≡ true → (permitted_types n ≡ TEXT ∷ []) × (is_listed_property n ≡ false)
unfolding property_row octets_compute
status_row n h = rw (same_true n (ascii "REQUEST-STATUS") h) (refl, refl)

pub only_type : (t u : ValueType) → is_type_of t (u ∷ []) ≡ true → t ≡ u
unfolding is_type_of ◌or◌
only_type t u h = go (same_type t u) refl h
  where
    go : (b : Bool) → same_type t u ≡ b → (b or false) ≡ true → t ≡ u
    go true e k = same_type_true t u e
    go false e k = absurd (false≢true k)

geo_read : (v : Value) → is_own_value FLOAT v ≡ true → read_geo (write_value v) ≡ Some v
unfolding same_type write_value
geo_read v h =
    let p = and_both (same_type (type_of v) FLOAT) _ h in
    let q = and_both (not (is_typed v)) (is_value v) p.1 in
    own_value (λ v. same_type (type_of v) FLOAT ≡ true → read_geo (write_value v) ≡ Some v)
    (λ la lo a b e. geo_read_back la lo a b)
    (λ c d x e. absurd (false≢true e))
    v (not-true _ q.0) q.1 p.0

status_read : (v : Value) → is_own_value TEXT v ≡ true → read_request_status (write_value v) ≡ Some v
unfolding same_type write_value
status_read v h =
    let p = and_both (same_type (type_of v) TEXT) _ h in
    let q = and_both (not (is_typed v)) (is_value v) p.1 in
    own_value (λ v. same_type (type_of v) TEXT ≡ true → read_request_status (write_value v) ≡ Some v)
    (λ la lo a b e. absurd (false≢true e))
    (λ c d x e. request_status_read_back c d x)
    v (not-true _ q.0) q.1 p.0

-- ---- lists of TEXT

text_of : (v : Value) → is_of_type TEXT v ≡ true → text (read_or [] (text_in v)) ≡ v
unfolding read_or
text_of v h =
    let p = and_both (same_type (type_of v) TEXT) _ h in
    let q = and_both (is_typed v) (is_value v) p.1 in
    text_or_other (λ v. same_type (type_of v) TEXT ≡ true → text (read_or [] (text_in v)) ≡ v) (λ s e. refl) (λ v e n k. absurd (false≢true (sym n ∙ k))) v q.0 p.0

abbrev texts_in : List Value → List (List ℕ)
texts_in vs = map (λ v. read_or [] (text_in v)) vs

texts_of : (vs : List Value) → every (is_of_type TEXT) vs ≡ true → map text (texts_in vs) ≡ vs
texts_of [] h = refl
texts_of (v ∷ vs) h = let e = every_both (is_of_type TEXT) v vs h in rw (text_of v e.0, texts_of vs e.1)

texts_written : (ts : List (List ℕ)) → map write_value (map text ts) ≡ map write_text ts
unfolding write_value
texts_written [] = refl
texts_written (t ∷ ts) = rw (texts_written ts)

texts_listed : (t : List ℕ) (ts : List (List ℕ)) → option_map (map text) (read_texts (write_values (map text (t ∷ ts)))) ≡ Some (map text (t ∷ ts))
unfolding write_values
texts_listed t ts = rw (texts_written (t ∷ ts), texts_read_back t ts)

texts_read : (v : Value) (vs : List Value) → every (is_of_type TEXT) (v ∷ vs) ≡ true → option_map (map text) (read_texts (write_values (v ∷ vs))) ≡ Some (v ∷ vs)
texts_read v vs h =
    subst (λ (l : List Value). option_map (map text) (read_texts (write_values l)) ≡ Some l) (texts_of (v ∷ vs) h) (texts_listed (read_or [] (text_in v)) (texts_in vs))

-- ---- lists of DATE, DATE-TIME and PERIOD

-- the types that lists have
is_listed_type : ValueType → Bool
is_listed_type t = is_type_of t (TEXT ∷ DATE ∷ DATE-TIME ∷ PERIOD ∷ [])

listed_types : (n : List ℕ) (t : ValueType) → is_listed_property n ≡ true → is_type_of t (permitted_types n) ≡ true → is_listed_type t ≡ true
unfolding octets_compute property_row is_listed_type is_type_of same_type
listed_types n t l h = listed_passes is_listed_type t (permitted_types n) (rw l at row) h
  where
    row : pick (is_listed_property n) (every is_listed_type (permitted_types n)) true ≡ true
    row = row_any_passes (λ r. r.name) n (λ r. pick r.listed (every is_listed_type (r.default ∷ r.others)) true) unrecognised_property property_table refl refl

-- none of them has a comma
no_comma : (v : Value) → is_typed v ≡ true → is_value v ≡ true → is_listed_type (type_of v) ≡ true → same_type (type_of v) TEXT ≡ false → holds 44 (write_value v) ≡ false
unfolding octets_compute is_listed_type is_type_of same_type write_value
no_comma (binary s) t h l n = absurd (false≢true l)
no_comma (boolean b) t h l n = absurd (false≢true l)
no_comma (cal_address s) t h l n = absurd (false≢true l)
no_comma (date s) t h l n = date_no_comma s h
no_comma (date_time s) t h l n = date_time_no_comma s h
no_comma (duration s) t h l n = absurd (false≢true l)
no_comma (float d) t h l n = absurd (false≢true l)
no_comma (integer w) t h l n = absurd (false≢true l)
no_comma (period_explicit s e) t h l n = let p = and_both _ _ h in period_explicit_no_comma s e p.0 p.1
no_comma (period_start s d) t h l n = let p = and_both _ _ h in period_start_no_comma s d p.0 p.1
no_comma (recur r) t h l n = absurd (false≢true l)
no_comma (text s) t h l n = absurd (false≢true (sym n))
no_comma (time s) t h l n = absurd (false≢true l)
no_comma (uri s) t h l n = absurd (false≢true l)
no_comma (utc_offset s) t h l n = absurd (false≢true l)
no_comma (unknown s) t h l n = absurd (false≢true l)
no_comma (geo la lo) t h l n = absurd (false≢true t)
no_comma (request_status c d x) t h l n = absurd (false≢true t)

typed_no_comma : (t : ValueType) → is_listed_type t ≡ true → same_type t TEXT ≡ false → (v : Value) → is_of_type t v ≡ true → holds 44 (write_value v) ≡ false
typed_no_comma t l n v h =
    let p = and_both (same_type (type_of v) t) _ h in
    let q = and_both (is_typed v) (is_value v) p.1 in
    let u : type_of v ≡ t = same_type_true (type_of v) t p.0 in
    no_comma v q.0 q.1 (rw u l) (rw u n)

parted_read : (t : ValueType) → is_listed_type t ≡ true → same_type t TEXT ≡ false → (v : Value) (vs : List Value) → every (is_of_type t) (v ∷ vs) ≡ true →
    read_each (read_value ical t) (cut_at 44 (write_values (v ∷ vs))) ≡ Some (v ∷ vs)
unfolding write_values
parted_read t l n v vs h =
    rw (cut_joined 44 (write_value v) (map write_value vs) (none_holds_lem (is_of_type t) write_value 44 (typed_no_comma t l n) (v ∷ vs) h)) (each_read_back (read_value ical t) (is_of_type t) write_value (typed_read t) (v ∷ vs) h)

listed_read : (t : ValueType) → is_listed_type t ≡ true → (vs : List Value) → is_amount true vs ≡ true → every (is_of_type t) vs ≡ true → read_listed t (write_values vs) ≡ Some vs
unfolding pick
listed_read t l [] a h = absurd (false≢true a)
listed_read t l (v ∷ vs) a h = go (same_type t TEXT) refl
  where
    go : (b : Bool) → same_type t TEXT ≡ b → pick b (option_map (map text) (read_texts (write_values (v ∷ vs)))) (read_each (read_value ical t) (cut_at 44 (write_values (v ∷ vs)))) ≡ Some (v ∷ vs)
    go true e = texts_read v vs (rw (same_type_true t TEXT e) at h)
    go false e = parted_read t l e v vs h

-- ---- the values of a property

-- what takes a list has no closed set
pub listed_unchosen : (k n : List ℕ) → is_listed_property n ≡ true → property_words k n ≡ None
listed_unchosen k n l = go (property_words k n) refl
  where
    go : (o : Option (List (List ℕ))) → property_words k n ≡ o → o ≡ None
    go None e = refl
    go (Some words) e = absurd (false≢true (sym (property_words_text k n words e).1 ∙ l))

own_read_back : (k n : List ℕ) (t : ValueType) (vs : List Value) → is_type_of t (permitted_types n) ≡ true → is_amount (is_listed_property n) vs ≡ true →
    every (is_property_value k n t) vs ≡ true → read_own k n t (write_values vs) ≡ Some vs
unfolding pick ◌or◌
own_read_back k n t vs p a h = go (same n (ascii "GEO")) refl (same n (ascii "REQUEST-STATUS")) refl (is_listed_property n) refl a h
  where
    go : (g : Bool) → same n (ascii "GEO") ≡ g → (r : Bool) → same n (ascii "REQUEST-STATUS") ≡ r → (l : Bool) → is_listed_property n ≡ l → is_amount l vs ≡ true →
        every (λ v. pick (g or r) (is_own_value t v) (is_chosen (property_words k n) t v)) vs ≡ true →
        pick g (one_value (read_geo (write_values vs))) (pick r (one_value (read_request_status (write_values vs)))
        (pick l (read_listed t (write_values vs)) (one_value (read_chosen (property_words k n) t (write_values vs))))) ≡ Some vs
    go true e r f l x a h =
        let c = geo_row n e in
        let u : t ≡ FLOAT = only_type t FLOAT (rw c.0 at p) in
        let y : l ≡ false = sym x ∙ c.1 in
        one_read_back read_geo (is_own_value t) (λ v k. geo_read v (rw u at k)) vs (rw y at a) h
    go false e true f l x a h =
        let c = status_row n f in
        let u : t ≡ TEXT = only_type t TEXT (rw c.0 at p) in
        let y : l ≡ false = sym x ∙ c.1 in
        one_read_back read_request_status (is_own_value t) (λ v k. status_read v (rw u at k)) vs (rw y at a) h
    go false e false f true x a h = listed_read t (listed_types n t x p) vs a (rw (listed_unchosen k n x) at h)
    go false e false f false x a h =
        one_read_back (read_chosen (property_words k n) t) (is_chosen (property_words k n) t) (λ v c. chosen_read k n (property_words k n) t v refl c) vs a h

-- of a type that the property permits
pub values_of_read_back : (k n : List ℕ) (t : ValueType) (vs : List Value) → are_values_of k n t vs ≡ true → read_values k n t (write_values vs) ≡ Some vs
unfolding are_values_of read_values
values_of_read_back k n t vs h =
    let p = and_both (is_type_of t (permitted_types n)) _ h in
    let q = and_both (is_amount (is_listed_property n) vs) _ p.1 in
    pick_yes (is_type_of t (permitted_types n)) _ None p.0 ∙ own_read_back k n t vs p.0 q.0 q.1

pub values_read_back : (k n : List ℕ) (vs : List Value) → are_property_values k n vs ≡ true → read_values k n (type_of_all vs) (write_values vs) ≡ Some vs
values_read_back k n vs h = values_of_read_back k n (type_of_all vs) vs h
