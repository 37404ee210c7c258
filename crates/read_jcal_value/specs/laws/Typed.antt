-- Laws of what specs/Typed.antt defines.
--     typed_is             it is the value of the type of the number
--     leaves               the rules of the readers of a string, and of bytes
--     periods, geos, statuses    the rules of the readers of these arrays
use Rattle.std.specs.Prelude.{◌≡◌, Bool, true, false, List, [], ◌∷◌, Option, None, Some, option_map, is_some}
use Rattle.std.proofs.Math.Path.{refl}
use Rattle.std.proofs.Common.{sym, ◌∙◌, arith, rules}
use Rattle.std.proofs.lemmas.Bool.{false≢true}
use Prim.Native.Nat.{ℕ, zero, suc, ◌≤◌}
use borrow.Author.Tests.{ne_eqb}
use Rattle.octets.specs.Pick.{pick}
use Rattle.octets.specs.Words.{is_empty}
use Rattle.octets.specs.Reading.{and_then, is_read, cons_read, read_each}
use Rattle.octets.specs.Computing.{octets_compute}
use Rattle.calendar.specs.Calendar.{ical, xcal, BOOLEAN, Decimal, Value, date_time, duration, integer, float, period_explicit, period_start, geo}
use Rattle.times.specs.DateTime.{read_date_time}
use Rattle.times.specs.Duration.{read_duration}
use Rattle.numbers.specs.Float.{read_float}
use Rattle.numbers.specs.ReadInteger.{whole_of}
use Rattle.numbers.specs.declared.integer.Integer.{Integer}
use Rattle.schema.specs.Numbers.{type_at}
use Rattle.recur.specs.Item.{or_other}
use Rattle.values.specs.ReadValue.{read_value}
use Rattle.values.specs.ValueAt.{value_read, is_read_at}
use Rattle.values.specs.laws.ValueAt.{good_value, value_plain, value_there}
use Rattle.json_text.specs.Tree.{Json, string, number, element_list}
use Rattle.json_text.specs.Kinds.{as_string}
use Rattle.jcal.specs.Integer.{read_number}
use Rattle.jcal.specs.Values.{period_from, read_period, read_typed, read_geo, read_status}
use Rattle.read_json.specs.TreeAt.{elements_at, string_at, word_at}
use Rattle.read_json.specs.Heads.{value_of_head}
use Rattle.read_json.specs.declared.Head.{Head}
use Rattle.read_jcal_value.specs.Elements.{string_of, number_of, literal_of, array_of, object_of, first_text, FirstAt}
use Rattle.read_jcal_value.specs.laws.Elements.{first_at, first_other, first_place, first_end}
use Rattle.read_jcal_value.specs.Typed.{read_integer, typed_in, pair_in, geo_in}
use Rattle.read_jcal_value.specs.declared.elements.Leaf.{Leaf}

-- ---- by the type

module _ (s : List ℕ) (h : Head) where
  typed_other : (t : ℕ) → 14 ≤ t → is_read (and_then (string_of s h) (read_value xcal (type_at t))) ≡ typed_in t s h
  unfolding pick
  typed_other t l =
      rw (
        ne_eqb t 0 (λ e. omega arith),
        ne_eqb t 1 (λ e. omega arith),
        ne_eqb t 6 (λ e. omega arith),
        ne_eqb t 7 (λ e. omega arith),
        ne_eqb t 8 (λ e. omega arith),
        ne_eqb t 9 (λ e. omega arith),
      )

  pub typed_is : (t : ℕ) → is_read (read_typed (type_at t) (value_of_head s h)) ≡ typed_in t s h
  unfolding read_typed pick string_of number_of literal_of array_of object_of
  typed_is zero = refl
  typed_is (suc zero) = refl
  typed_is (suc (suc zero)) = refl
  typed_is (suc (suc (suc zero))) = refl
  typed_is (suc (suc (suc (suc zero)))) = refl
  typed_is (suc (suc (suc (suc (suc zero))))) = refl
  typed_is (suc (suc (suc (suc (suc (suc zero)))))) = refl
  typed_is (suc (suc (suc (suc (suc (suc (suc zero))))))) = refl
  typed_is (suc (suc (suc (suc (suc (suc (suc (suc zero)))))))) = refl
  typed_is (suc (suc (suc (suc (suc (suc (suc (suc (suc zero))))))))) = refl
  typed_is (suc (suc (suc (suc (suc (suc (suc (suc (suc (suc zero)))))))))) = refl
  typed_is (suc (suc (suc (suc (suc (suc (suc (suc (suc (suc (suc zero))))))))))) = refl
  typed_is (suc (suc (suc (suc (suc (suc (suc (suc (suc (suc (suc (suc zero)))))))))))) = refl
  typed_is (suc (suc (suc (suc (suc (suc (suc (suc (suc (suc (suc (suc (suc zero))))))))))))) = refl
  typed_is (suc (suc (suc (suc (suc (suc (suc (suc (suc (suc (suc (suc (suc (suc n)))))))))))))) = typed_other (suc (suc (suc (suc (suc (suc (suc (suc (suc (suc (suc (suc (suc (suc n)))))))))))))) (omega arith)

-- no bytes are no BOOLEAN
pub no_boolean : is_read (read_value xcal BOOLEAN []) ≡ false
unfolding read_value octets_compute
no_boolean = refl

-- ---- a string, and bytes

module _ {r : Option ℕ} (t m : ℕ) (l : List ℕ) {b : Bool} (f : b ≡ is_some r) where
  pub element_read : r ≡ value_read t (is_read_at true m (type_at t) l) → b ≡ is_read (read_value xcal (type_at t) l)
  element_read e = f ∙ sym (good_value t _ (value_there t true m (type_at t) l e (λ h. absurd (false≢true (sym h)))))

  pub text_read : (t ≡ 9 → ⊥) → r ≡ value_read t (is_read_at false m (type_at t) l) → b ≡ is_read (read_value ical (type_at t) l)
  text_read z e = f ∙ sym (good_value t _ (value_plain t m l z e))

whole_read : (r : Option Integer) → is_some r ≡ is_read (option_map integer (option_map whole_of r))
unfolding is_read
whole_read None = refl
whole_read (Some n) = refl

pub integer_read : (r : Option Integer) (l : List ℕ) → read_number l ≡ option_map whole_of r → {b : Bool} → b ≡ is_some r → b ≡ is_read (read_integer l)
integer_read r l e f = f ∙ rw e (whole_read r)

pub ruleset leaves = (element_read, rules)

-- ---- PERIOD

no_first : (l : List Json) → first_text false l ≡ None → is_read (read_period l) ≡ false
unfolding and_then is_read
no_first [] h = refl
no_first (v ∷ []) h = refl
no_first (v ∷ e ∷ []) h = rw h
no_first (v ∷ e ∷ w ∷ l) h = refl

no_second : (p : ℕ) (x : List ℕ) (l : List Json) → first_text false l ≡ None → is_read (read_period (string p x ∷ l)) ≡ false
unfolding and_then is_read
no_second p x [] h = refl
no_second p x (e ∷ []) h = rw h (go (read_date_time xcal x))
  where
    go : (o : Option (List ℕ)) → is_read (and_then o (λ m. and_then None (period_from m))) ≡ false
    go None = refl
    go (Some m) = refl
no_second p x (e ∷ w ∷ l) h = refl

no_third : (a b : Json) (l : List Json) → is_empty l ≡ false → is_read (read_period (a ∷ b ∷ l)) ≡ false
unfolding is_read
no_third a b [] h = absurd (false≢true (sym h))
no_third a b (w ∷ l) h = refl

two_strings : (p q : ℕ) (x y : List ℕ) (l : List Json) → is_empty l ≡ true → is_read (read_period (string p x ∷ string q y ∷ l)) ≡ pair_in x y
unfolding and_then read_value pick is_read
two_strings p q x y (w ∷ l) h = absurd (false≢true h)
two_strings p q x y [] h = go (read_date_time xcal x) (read_duration xcal y) (read_date_time xcal y)
  where
    go : (a b c : Option (List ℕ)) → is_read (and_then a (λ m. or_other (option_map (period_start m) b) (option_map (period_explicit m) c)))
        ≡ pick (is_read (option_map date_time a)) (pick (is_read (option_map duration b)) true (is_read (option_map date_time c))) false
    go None b c = refl
    go (Some m) None None = refl
    go (Some m) None (Some e) = refl
    go (Some m) (Some d) c = refl

module _ {s : List ℕ} {from : ℕ} where
  pub period_empty : FirstAt false s from None → false ≡ is_read (read_period (element_list (elements_at s from)))
  period_empty f = sym (no_first (element_list (elements_at s from)) (first_other f))

  module _ {a : Leaf} (f : FirstAt false s from (Some a)) where
    pub period_half : FirstAt false s a.next None → false ≡ is_read (read_period (element_list (elements_at s from)))
    period_half g = sym (rw (first_at f) (no_second a.place (string_at s a.place) (element_list (elements_at s a.next)) (first_other g)))

    module _ {b : Leaf} (g : FirstAt false s a.next (Some b)) {l : Bool} (z : l ≡ is_empty (element_list (elements_at s b.next))) where
      pub period_long : l ≡ false → false ≡ is_read (read_period (element_list (elements_at s from)))
      period_long h =
          sym (rw (first_at f, first_at g) (no_third (string a.place (string_at s a.place)) (string b.place (string_at s b.place)) (element_list (elements_at s b.next)) (sym z ∙ h)))

      pub period_pair : {r : Bool} → l ≡ true → r ≡ pair_in (string_at s a.place) (string_at s b.place) → r ≡ is_read (read_period (element_list (elements_at s from)))
      period_pair h k =
          k ∙ sym (rw (first_at f, first_at g) (two_strings a.place b.place (string_at s a.place) (string_at s b.place) (element_list (elements_at s b.next)) (sym z ∙ h)))

pub ruleset periods = (period_empty, period_half, period_long, period_pair, first_place, rules)

-- ---- GEO

no_latitude : (l : List Json) → first_text true l ≡ None → is_read (read_geo l) ≡ false
unfolding and_then is_read
no_latitude [] h = refl
no_latitude (v ∷ []) h = refl
no_latitude (v ∷ e ∷ []) h = rw h
no_latitude (v ∷ e ∷ w ∷ l) h = refl

no_longitude : (p : ℕ) (x : List ℕ) (l : List Json) → first_text true l ≡ None → is_read (read_geo (number p x ∷ l)) ≡ false
unfolding and_then is_read
no_longitude p x [] h = refl
no_longitude p x (e ∷ []) h = rw h (go (read_float x))
  where
    go : (o : Option Decimal) → is_read {A = Value} (and_then o (λ a. None)) ≡ false
    go None = refl
    go (Some m) = refl
no_longitude p x (e ∷ w ∷ l) h = refl

no_more_lem : (a b : Json) (l : List Json) → is_empty l ≡ false → is_read (read_geo (a ∷ b ∷ l)) ≡ false
unfolding is_read
no_more_lem a b [] h = absurd (false≢true (sym h))
no_more_lem a b (w ∷ l) h = refl

two_numbers : (p q : ℕ) (x y : List ℕ) (l : List Json) → is_empty l ≡ true → is_read (read_geo (number p x ∷ number q y ∷ l)) ≡ geo_in x y
unfolding and_then read_value pick is_read
two_numbers p q x y (w ∷ l) h = absurd (false≢true h)
two_numbers p q x y [] h = go (read_float x) (read_float y)
  where
    go : (a b : Option Decimal) → is_read (and_then a (λ m. and_then b (λ n. Some (geo m n)))) ≡ pick (is_read (option_map float a)) (is_read (option_map float b)) false
    go None b = refl
    go (Some m) None = refl
    go (Some m) (Some d) = refl

module _ {s : List ℕ} {from : ℕ} where
  pub geo_empty : FirstAt true s from None → false ≡ is_read (read_geo (element_list (elements_at s from)))
  geo_empty f = sym (no_latitude (element_list (elements_at s from)) (first_other f))

  module _ {a : Leaf} (f : FirstAt true s from (Some a)) where
    pub geo_half : FirstAt true s a.next None → false ≡ is_read (read_geo (element_list (elements_at s from)))
    geo_half g = sym (rw (first_at f) (no_longitude a.place (word_at s a.place a.next) (element_list (elements_at s a.next)) (first_other g)))

    module _ {b : Leaf} (g : FirstAt true s a.next (Some b)) {l : Bool} (z : l ≡ is_empty (element_list (elements_at s b.next))) where
      pub geo_long : l ≡ false → false ≡ is_read (read_geo (element_list (elements_at s from)))
      geo_long h =
          sym (rw (first_at f, first_at g) (no_more_lem (number a.place (word_at s a.place a.next)) (number b.place (word_at s b.place b.next)) (element_list (elements_at s b.next)) (sym z ∙ h)))

      pub geo_pair : {r : Bool} → l ≡ true → r ≡ geo_in (word_at s a.place a.next) (word_at s b.place b.next) → r ≡ is_read (read_geo (element_list (elements_at s from)))
      geo_pair h k =
          k ∙ sym (rw (first_at f, first_at g) (two_numbers a.place b.place (word_at s a.place a.next) (word_at s b.place b.next) (element_list (elements_at s b.next)) (sym z ∙ h)))

pub ruleset geos = (geo_empty, geo_half, geo_long, geo_pair, first_end, rules)

-- ---- REQUEST-STATUS

abbrev status_in : List Json → Bool
status_in l = is_read (and_then (read_each as_string l) read_status)

no_code : (l : List Json) → first_text false l ≡ None → status_in l ≡ false
unfolding and_then is_read read_each
no_code [] h = refl
no_code (v ∷ l) h = rw h

no_text : (p : ℕ) (x : List ℕ) (l : List Json) → first_text false l ≡ None → status_in (string p x ∷ l) ≡ false
unfolding and_then is_read read_each cons_read
no_text p x [] h = refl
no_text p x (v ∷ l) h = rw h

two_texts : (p q : ℕ) (x y : List ℕ) (l : List Json) → is_empty l ≡ true → status_in (string p x ∷ string q y ∷ l) ≡ true
unfolding and_then is_read read_each cons_read
two_texts p q x y [] h = refl
two_texts p q x y (v ∷ l) h = absurd (false≢true h)

no_data : (p q : ℕ) (x y : List ℕ) (l : List Json) → is_empty l ≡ false → first_text false l ≡ None → status_in (string p x ∷ string q y ∷ l) ≡ false
unfolding and_then is_read read_each cons_read
no_data p q x y [] k h = absurd (false≢true (sym k))
no_data p q x y (v ∷ l) k h = rw h

three_texts : (p q o : ℕ) (x y z : List ℕ) (l : List Json) → status_in (string p x ∷ string q y ∷ string o z ∷ l) ≡ is_empty l
unfolding and_then is_read read_each cons_read
three_texts p q o x y z [] = refl
three_texts p q o x y z (v ∷ l) = go (as_string v) (read_each as_string l)
  where
    go : (a : Option (List ℕ)) (b : Option (List (List ℕ))) →
        is_read (and_then (cons_read x (cons_read y (cons_read z (and_then a (λ c. cons_read c b))))) read_status) ≡ false
    go None b = refl
    go (Some c) None = refl
    go (Some c) (Some cs) = refl

module _ {s : List ℕ} {from : ℕ} where
  pub status_empty : FirstAt false s from None → false ≡ status_in (element_list (elements_at s from))
  status_empty f = sym (no_code (element_list (elements_at s from)) (first_other f))

  module _ {a : Leaf} (f : FirstAt false s from (Some a)) where
    pub status_half : FirstAt false s a.next None → false ≡ status_in (element_list (elements_at s from))
    status_half g = sym (rw (first_at f) (no_text a.place (string_at s a.place) (element_list (elements_at s a.next)) (first_other g)))

    module _ {b : Leaf} (g : FirstAt false s a.next (Some b)) {l : Bool} (z : l ≡ is_empty (element_list (elements_at s b.next))) where
      pub status_two : l ≡ true → true ≡ status_in (element_list (elements_at s from))
      status_two h = sym (rw (first_at f, first_at g) (two_texts a.place b.place (string_at s a.place) (string_at s b.place) (element_list (elements_at s b.next)) (sym z ∙ h)))

      module _ (y : l ≡ false) where
        pub status_other : FirstAt false s b.next None → false ≡ status_in (element_list (elements_at s from))
        status_other i =
            sym (rw (first_at f, first_at g) (no_data a.place b.place (string_at s a.place) (string_at s b.place) (element_list (elements_at s b.next)) (sym z ∙ y) (first_other i)))

        pub status_three : {c : Leaf} → FirstAt false s b.next (Some c) → {r : Bool} → r ≡ is_empty (element_list (elements_at s c.next)) → r ≡ status_in (element_list (elements_at s from))
        status_three {c} i j =
            j ∙ sym (rw (first_at f, first_at g, first_at i) (three_texts a.place b.place c.place (string_at s a.place) (string_at s b.place) (string_at s c.place) (element_list (elements_at s c.next))))

pub ruleset statuses = (status_empty, status_half, status_two, status_other, status_three, rules)
