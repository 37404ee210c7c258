-- Laws of what specs/Valid.antt defines.
--     chosen_valid, property_value_valid    a value of a property is spelled as its type says
--     kept_or_valid, parameter_value_valid  so is that of a parameter, or it is any characters
use Rattle.std.specs.Prelude.{◌≡◌, refl, Bool, true, false, List, [], ◌∷◌, ℕ, Option, None, Some}
use Rattle.std.proofs.Common.{sym}
use Rattle.std.proofs.lemmas.Bool.{false≢true}
use Rattle.octets.specs.Pick.{pick, ◌or◌}
use Rattle.octets.specs.laws.Pick.{and_both, or_cases}
use Rattle.octets.specs.Reading.{cons_read, read_each}
use Rattle.octets.specs.laws.Reading.{none-some, and_then-some, cons_read-some, each_empty}
use Rattle.calendar.specs.Calendar.{Decimal, ValueType, TEXT, UNKNOWN, Value, binary, boolean, cal_address, date, date_time, duration, float, integer, period_explicit, period_start, recur, text, time, uri, utc_offset, unknown, geo, request_status, type_of, text_in}
use Rattle.schema.specs.Types.{same_type}
use Rattle.schema.specs.Properties.{property_words}
use Rattle.numbers.specs.Float.{is_normal}
use Rattle.values.specs.ReadBack.{is_value, is_typed}
use Rattle.values.specs.Valid.{is_amount, is_word_in, is_chosen, is_parameter_value, has_own_values, is_own_value, is_property_value}

-- ---- laws of amounts

-- as many as were read
pub each_amount : {A B : Type 0} (f : A → Option B) (b : Bool) (l : List A) (r : List B) → read_each f l ≡ Some r → is_amount b r ≡ is_amount b l
unfolding read_each
each_amount f b [] r h = let q : [] ≡ r = cc in rw (← q)
each_amount f b (a ∷ l) r h =
    let e = and_then-some (f a) (λ x. cons_read x (read_each f l)) r h in
    let g = cons_read-some e.0 (read_each f l) r e.2 in
    rw (← g.2, each_empty f l g.0 g.1)

-- only one, where no list is taken
pub only_one : {A : Type 0} (P : List A → Type 0) → ((x : A) → P (x ∷ [])) → (l : List A) → is_amount false l ≡ true → P l
unfolding ◌or◌
only_one P f [] h = absurd (false≢true h)
only_one P f (x ∷ []) h = f x
only_one P f (x ∷ y ∷ l) h = absurd (false≢true h)

-- ---- laws of values by their kind

-- a value that is spelled as its type says is a TEXT, or has another type
pub text_or_other : (P : Value → Type 0) → ((s : List ℕ) → P (text s)) → ((v : Value) → text_in v ≡ None → same_type (type_of v) TEXT ≡ false → P v) →
    (v : Value) → is_typed v ≡ true → P v
unfolding same_type
text_or_other P t o (binary s) h = o (binary s) refl refl
text_or_other P t o (boolean b) h = o (boolean b) refl refl
text_or_other P t o (cal_address s) h = o (cal_address s) refl refl
text_or_other P t o (date s) h = o (date s) refl refl
text_or_other P t o (date_time s) h = o (date_time s) refl refl
text_or_other P t o (duration s) h = o (duration s) refl refl
text_or_other P t o (float d) h = o (float d) refl refl
text_or_other P t o (integer w) h = o (integer w) refl refl
text_or_other P t o (period_explicit s e) h = o (period_explicit s e) refl refl
text_or_other P t o (period_start s d) h = o (period_start s d) refl refl
text_or_other P t o (recur r) h = o (recur r) refl refl
text_or_other P t o (text s) h = t s
text_or_other P t o (time s) h = o (time s) refl refl
text_or_other P t o (uri s) h = o (uri s) refl refl
text_or_other P t o (utc_offset s) h = o (utc_offset s) refl refl
text_or_other P t o (unknown s) h = o (unknown s) refl refl
text_or_other P t o (geo la lo) h = absurd (false≢true h)
text_or_other P t o (request_status c d x) h = absurd (false≢true h)

pub text_in_lem : (v : Value) (s : List ℕ) → text_in v ≡ Some s → v ≡ text s
text_in_lem (binary b) s h = none-some h
text_in_lem (boolean b) s h = none-some h
text_in_lem (cal_address a) s h = none-some h
text_in_lem (date d) s h = none-some h
text_in_lem (date_time d) s h = none-some h
text_in_lem (duration d) s h = none-some h
text_in_lem (float d) s h = none-some h
text_in_lem (integer w) s h = none-some h
text_in_lem (period_explicit b e) s h = none-some h
text_in_lem (period_start b d) s h = none-some h
text_in_lem (recur r) s h = none-some h
text_in_lem (text r) s h = let q : r ≡ s = cc in rw q
text_in_lem (time d) s h = none-some h
text_in_lem (uri u) s h = none-some h
text_in_lem (utc_offset o) s h = none-some h
text_in_lem (unknown r) s h = none-some h
text_in_lem (geo la lo) s h = none-some h
text_in_lem (request_status c d x) s h = none-some h

-- a value that is not spelled as its type says is GEO's or REQUEST-STATUS's
pub own_value : (P : Value → Type 0) → ((la lo : Decimal) → is_normal la ≡ true → is_normal lo ≡ true → P (geo la lo)) →
    ((c d : List ℕ) (x : Option (List ℕ)) → P (request_status c d x)) → (v : Value) → is_typed v ≡ false → is_value v ≡ true → P v
own_value P g r (binary s) t h = absurd (false≢true (sym t))
own_value P g r (boolean b) t h = absurd (false≢true (sym t))
own_value P g r (cal_address s) t h = absurd (false≢true (sym t))
own_value P g r (date s) t h = absurd (false≢true (sym t))
own_value P g r (date_time s) t h = absurd (false≢true (sym t))
own_value P g r (duration s) t h = absurd (false≢true (sym t))
own_value P g r (float d) t h = absurd (false≢true (sym t))
own_value P g r (integer w) t h = absurd (false≢true (sym t))
own_value P g r (period_explicit s e) t h = absurd (false≢true (sym t))
own_value P g r (period_start s d) t h = absurd (false≢true (sym t))
own_value P g r (recur p) t h = absurd (false≢true (sym t))
own_value P g r (text s) t h = absurd (false≢true (sym t))
own_value P g r (time s) t h = absurd (false≢true (sym t))
own_value P g r (uri s) t h = absurd (false≢true (sym t))
own_value P g r (utc_offset s) t h = absurd (false≢true (sym t))
own_value P g r (unknown s) t h = absurd (false≢true (sym t))
own_value P g r (geo la lo) t h = let e = and_both (is_normal la) (is_normal lo) h in g la lo e.0 e.1
own_value P g r (request_status c d x) t h = r c d x

-- ---- a value of a parameter or of a property is spelled as its type says

pub chosen_valid : (o : Option (List (List ℕ))) (t : ValueType) (v : Value) → is_chosen o t v ≡ true → is_value v ≡ true
chosen_valid None t v h = (and_both _ _ (and_both _ _ h).1).1
chosen_valid (Some words) t v h = go (text_in v) refl h
  where
    go : (x : Option (List ℕ)) → text_in v ≡ x → is_word_in words x ≡ true → is_value v ≡ true
    go None e k = absurd (false≢true k)
    go (Some s) e k = rw (text_in_lem v s e)

-- that of a parameter is, or is any characters
pub any_unknown : (P : Value → Type 0) → ((s : List ℕ) → P (unknown s)) → (v : Value) → same_type (type_of v) UNKNOWN ≡ true → P v
unfolding same_type
any_unknown P u (binary s) h = absurd (false≢true h)
any_unknown P u (boolean b) h = absurd (false≢true h)
any_unknown P u (cal_address s) h = absurd (false≢true h)
any_unknown P u (date s) h = absurd (false≢true h)
any_unknown P u (date_time s) h = absurd (false≢true h)
any_unknown P u (duration s) h = absurd (false≢true h)
any_unknown P u (float d) h = absurd (false≢true h)
any_unknown P u (integer w) h = absurd (false≢true h)
any_unknown P u (period_explicit s e) h = absurd (false≢true h)
any_unknown P u (period_start s d) h = absurd (false≢true h)
any_unknown P u (recur p) h = absurd (false≢true h)
any_unknown P u (text s) h = absurd (false≢true h)
any_unknown P u (time s) h = absurd (false≢true h)
any_unknown P u (uri s) h = absurd (false≢true h)
any_unknown P u (utc_offset s) h = absurd (false≢true h)
any_unknown P u (unknown s) h = u s
any_unknown P u (geo la lo) h = absurd (false≢true h)
any_unknown P u (request_status c d x) h = absurd (false≢true h)

pub kept_or_valid : (P : Value → Type 0) → ((s : List ℕ) → P (unknown s)) → ((v : Value) → is_value v ≡ true → P v) → (v : Value) → (same_type (type_of v) UNKNOWN or is_value v) ≡ true → P v
kept_or_valid P u f v h = or_cases (same_type (type_of v) UNKNOWN) (is_value v) h (any_unknown P u v) (f v)

pub parameter_value_valid : (P : Value → Type 0) → ((s : List ℕ) → P (unknown s)) → ((v : Value) → is_value v ≡ true → P v) → (o : Option (List (List ℕ))) (t : ValueType) (v : Value) → is_parameter_value o t v ≡ true → P v
parameter_value_valid P u f None t v h = kept_or_valid P u f v (and_both _ _ (and_both _ _ h).1).1
parameter_value_valid P u f (Some words) t v h = f v (chosen_valid (Some words) t v h)

pub property_value_valid : (k n : List ℕ) (t : ValueType) (v : Value) → is_property_value k n t v ≡ true → is_value v ≡ true
unfolding pick
property_value_valid k n t v h = go (has_own_values n) h
  where
    go : (b : Bool) → pick b (is_own_value t v) (is_chosen (property_words k n) t v) ≡ true → is_value v ≡ true
    go true h = (and_both _ _ (and_both _ _ h).1).1
    go false h = chosen_valid (property_words k n) t v h
