-- Values read from a JSON value whose strings are text are values of the type asked for, and clean (RFC 7265, section 3.6).
--     string_clean      the characters of a string
--     values_accepted   the values of a property
use Rattle.std.specs.Prelude.{◌≡◌, refl, Bool, true, false, List, [], ◌∷◌, map, ℕ, ◌≤◌, ltb, leb, Option, None, Some, option_map}
use Rattle.std.proofs.Common.{sym, ap, subst, ◌∙◌, arith, le-leb, leb-true, ltb-false}
use Rattle.std.proofs.lemmas.Bool.{false≢true}
use Rattle.octets.specs.Ascii.{ascii}
use Rattle.octets.specs.Pick.{pick, within, ◌and◌, ◌or◌}
use Rattle.octets.specs.laws.Pick.{and_both, and_yes, or-false, within_yes}
use Rattle.octets.specs.Class.{upper, lower}
use Rattle.octets.specs.Words.{same, is_one_of}
use Rattle.octets.specs.laws.Words.{same_true}
use Rattle.octets.specs.laws.Tables.{row_named}
use Rattle.octets.specs.Lists.{every, distinct}
use Rattle.octets.specs.laws.Lists.{every_both, every_weaker}
use Rattle.octets.specs.Reading.{provided, and_then, read_each}
use Rattle.octets.specs.laws.Reading.{none-some, provided-some, and_then-some, each_accepted, each_accepted_of}
use Rattle.octets.specs.Computing.{octets_compute}
use Rattle.calendar.specs.Calendar.{Format, ical, xcal, ValueType, BINARY, BOOLEAN, CAL-ADDRESS, DATE, DATE-TIME, DURATION, FLOAT, INTEGER, PERIOD, RECUR, TEXT, TIME, URI, UTC-OFFSET, UNKNOWN, Whole, RuleItem, RulePart, Value, binary, boolean, float, integer, period_explicit, period_start, recur, text, geo, request_status, type_of}
use Rattle.schema.specs.Types.{same_type, is_type_of}
use Rattle.schema.specs.laws.Types.{same_type_self, same_type_true}
use Rattle.schema.specs.Properties.{permitted_types, is_listed_property, property_words}
use Rattle.schema.specs.Computing.{schema_compute}
use Rattle.times.specs.DateTime.{is_date_time, read_date_time}
use Rattle.times.specs.laws.DateTime.{date_time_accepted}
use Rattle.times.specs.Duration.{read_duration}
use Rattle.times.specs.laws.Duration.{duration_accepted}
use Rattle.numbers.specs.Sign.{has_minus}
use Rattle.numbers.specs.Integer.{most, integer_of, is_integer}
use Rattle.numbers.specs.Float.{read_float}
use Rattle.numbers.specs.laws.FloatLaws.{float_accepted}
use Rattle.numbers.specs.Boolean.{read_boolean}
use Rattle.texts.specs.Binary.{read_binary}
use Rattle.recur.specs.Parts.{Part, part_table, part_names, part_of}
use Rattle.recur.specs.Item.{read_form, is_item, or_other}
use Rattle.recur.specs.laws.ItemLaws.{item_accepted}
use Rattle.recur.specs.Rule.{rule_part, is_amount as is_part_amount, is_part, name_of, is_complete, in_order, is_ordered, ruled, is_rule}
use Rattle.recur.specs.laws.OrderLaws.{ordered_order, every_order, named_order}
use Rattle.recur.specs.laws.RuleLaws.{names_once}
use Rattle.values.specs.ReadValue.{read_value}
use Rattle.values.specs.WriteValue.{type_of_all}
use Rattle.values.specs.laws.ReadBack.{value_accepted, made}
use Rattle.values.specs.Valid.{is_amount, is_of_type, is_chosen, is_own_value, is_property_value, are_values_of}
use Rattle.values.specs.laws.Valid.{each_amount}
use Rattle.xcal.proofs.laws.SoundContent.{is_clean}
use Rattle.xcal.proofs.laws.CleanValues.{is_clean_value, one_clean, status_clean}
use Rattle.xcal.proofs.laws.ValuesAccepted.{read_clean}
use Rattle.json_text.specs.Tree.{Json, string, number, literal, array, object, Elements, no_elements, element, Member, element_list}
use Rattle.json_text.specs.Kinds.{as_string, as_number, as_literal, as_array, as_object, or_alone}
use Rattle.json_text.specs.Written.{is_text}
use Rattle.jcal.specs.Integer.{read_number}
use Rattle.jcal.specs.Values.{read_string, period_from, read_period, item_text, read_item, read_items, read_part, read_recur, read_typed, read_chosen, read_geo, read_status, read_one, read_values}
use Rattle.jcal.proofs.laws.ValuesBack.{only_text}
use Rattle.jcal.proofs.laws.Textual.{is_textual, are_textual}

-- ---- strings

pub text_clean : (s : List ℕ) → is_text s ≡ true → is_clean s ≡ true
unfolding is_clean is_text
text_clean s h = h

pub string_clean : (v : Json) (s : List ℕ) → is_textual v ≡ true → as_string v ≡ Some s → is_clean s ≡ true
unfolding is_textual
string_clean (string p x) s h e = let z : x ≡ s = cc in rw (← z) (text_clean x h)
string_clean (number p x) s h e = none-some e
string_clean (literal p x) s h e = none-some e
string_clean (array p q vs) s h e = none-some e
string_clean (object p q ms) s h e = none-some e

pub elements_textual : (vs : Elements) → are_textual vs ≡ true → every is_textual (element_list vs) ≡ true
unfolding are_textual element_list every
elements_textual no_elements h = refl
elements_textual (element v vs) h = let a = and_both (is_textual v) _ h in and_yes _ _ a.0 (elements_textual vs a.1)

pub array_textual : (v : Json) (vs : List Json) → is_textual v ≡ true → as_array v ≡ Some vs → every is_textual vs ≡ true
unfolding is_textual
array_textual (string p x) vs h e = none-some e
array_textual (number p x) vs h e = none-some e
array_textual (literal p x) vs h e = none-some e
array_textual (array p q xs) vs h e = let z : element_list xs ≡ vs = cc in rw (← z) (elements_textual xs h)
array_textual (object p q ms) vs h e = none-some e

-- ---- values by their type

record Good (t : ValueType) (x : Value) : Type 0 where
  typed : is_of_type t x ≡ true
  clean : is_clean_value x ≡ true

of_read : (f : Format) (t : ValueType) (s : List ℕ) (x : Value) → read_value f t s ≡ Some x → is_of_type t x ≡ true
of_read f t s x h = let a = value_accepted f t s x h in and_yes _ _ (rw a.2 (same_type_self t)) (and_yes _ _ a.1 a.0)

string_good : (t : ValueType) (v : Json) (x : Value) → is_textual v ≡ true → read_string t v ≡ Some x → Good t x
string_good t v x c h =
    let e = and_then-some (as_string v) (read_value xcal t) x h in
    record { typed = of_read xcal t e.0 x e.2; clean = read_clean t e.0 x (string_clean v e.0 c e.1) e.2 }

binary_clean : (s : List ℕ) (x : Value) → read_value ical BINARY s ≡ Some x → is_clean_value x ≡ true
unfolding read_value every
binary_clean s x h = made (λ v. is_clean_value v ≡ true) binary (read_binary ical s) x h (λ a e. refl)

boolean_clean : (s : List ℕ) (x : Value) → read_value xcal BOOLEAN s ≡ Some x → is_clean_value x ≡ true
unfolding read_value every
boolean_clean s x h = made (λ v. is_clean_value v ≡ true) boolean (read_boolean xcal s) x h (λ a e. refl)

float_clean : (s : List ℕ) (x : Value) → read_value xcal FLOAT s ≡ Some x → is_clean_value x ≡ true
unfolding read_value every
float_clean s x h = made (λ v. is_clean_value v ≡ true) float (read_float s) x h (λ a e. refl)

-- ---- INTEGER

whole_integer : (m : Bool) (n : ℕ) → n ≤ most m → is_integer (integer_of m n) ≡ true
unfolding pick ◌and◌
whole_integer true n l = go (ltb 0 n) refl
  where
    go : (t : Bool) → ltb 0 n ≡ t → pick t (within 1 2147483648 n) (leb n 2147483647) ≡ true
    go true e = within_yes 1 2147483648 n e (le-leb n 2147483648 l)
    go false e = let z = ltb-false 0 n e in le-leb n 2147483647 (omega arith)
whole_integer false n l = le-leb n 2147483647 l

number_accepted : (s : List ℕ) (w : Whole) → read_number s ≡ Some w → is_integer w ≡ true
number_accepted s w h =
    let e = and_then-some _ (λ n. provided (leb n (most (has_minus s))) (integer_of (has_minus s) n)) w h in
    let p = provided-some (leb e.0 (most (has_minus s))) (integer_of (has_minus s) e.0) w e.2 in
    rw (← p.1) (whole_integer (has_minus s) e.0 (leb-true _ _ p.0))

integer_good : (v : Json) (x : Value) → and_then (as_number v) (λ s. option_map integer (read_number s)) ≡ Some x → Good INTEGER x
unfolding every
integer_good v x h =
    let e = and_then-some (as_number v) (λ s. option_map integer (read_number s)) x h in
    made (Good INTEGER) integer (read_number e.0) x e.2
    (λ w z. record { typed = and_yes _ _ (same_type_self INTEGER) (and_yes _ _ refl (number_accepted e.0 w z)); clean = refl })

-- ---- PERIOD

period_from_lem : (m e : List ℕ) (x : Value) → is_date_time m ≡ true → period_from m e ≡ Some x → Good PERIOD x
unfolding every
period_from_lem m e x h k = go (read_duration xcal e) refl k
  where
    span : (d : List ℕ) → read_duration xcal e ≡ Some d → Good PERIOD (period_start m d)
    span d z = record { typed = and_yes _ _ (same_type_self PERIOD) (and_yes _ _ refl (and_yes _ _ h (duration_accepted xcal e d z))); clean = refl }

    go : (o : Option (List ℕ)) → read_duration xcal e ≡ o → or_other (option_map (period_start m) o) (option_map (period_explicit m) (read_date_time xcal e)) ≡ Some x → Good PERIOD x
    go None z k =
        made (Good PERIOD) (period_explicit m) (read_date_time xcal e) x k
        (λ d y. record { typed = and_yes _ _ (same_type_self PERIOD) (and_yes _ _ refl (and_yes _ _ h (date_time_accepted xcal e d y))); clean = refl })
    go (Some d) z k = let y : period_start m d ≡ x = cc in rw (← y) (span d z)

period_good : (vs : List Json) (x : Value) → read_period vs ≡ Some x → Good PERIOD x
period_good [] x h = none-some h
period_good (s ∷ []) x h = none-some h
period_good (s ∷ e ∷ []) x h =
    let a = and_then-some (and_then (as_string s) (read_date_time xcal)) (λ m. and_then (as_string e) (period_from m)) x h in
    let b = and_then-some (as_string s) (read_date_time xcal) a.0 a.1 in
    let c = and_then-some (as_string e) (period_from a.0) x a.2 in
    period_from_lem a.0 c.0 x (date_time_accepted xcal b.0 a.0 b.2) c.2
period_good (s ∷ e ∷ v ∷ vs) x h = none-some h

-- ---- RECUR

module _ (r : Part) (e : part_of r.name ≡ Some r) where
  item_good : (v : Json) (i : RuleItem) → read_item r v ≡ Some i → is_item r.name i ≡ true
  unfolding and_then
  item_good v i h =
      let a = and_then-some (item_text r.form v) (read_form xcal r.form) i h in
      item_accepted xcal r.name a.0 i (rw e a.2)

  items_good : (vs : List Json) (p : RulePart) → read_items r vs ≡ Some p → is_part p ≡ true
  items_good vs p h =
      let a = and_then-some (read_each (read_item r) vs) (λ is. provided (is_part_amount r.listed is) (rule_part r.name is)) p h in
      let b = provided-some (is_part_amount r.listed a.0) (rule_part r.name a.0) p a.2 in
      rw (← b.1) (and_yes _ _ (rw e b.0) (each_accepted (read_item r) (is_item r.name) item_good vs a.0 a.1))

part_accepted : (m : Member) (p : RulePart) → read_part m ≡ Some p → is_part p ≡ true
unfolding pick
part_accepted m p h = go (same m.name (lower m.name)) h
  where
    go : (t : Bool) → pick t (and_then (part_of (upper m.name)) (λ r. read_items r (or_alone m.value))) None ≡ Some p → is_part p ≡ true
    go true k =
        let a = and_then-some (part_of (upper m.name)) (λ r. read_items r (or_alone m.value)) p k in
        let z : a.0.name ≡ upper m.name = row_named (λ (r : Part). r.name) (upper m.name) part_table a.0 a.1 in
        items_good a.0 (ap part_of z ∙ a.1) (or_alone m.value) p a.2
    go false k = none-some k

same_complete : (ps : List RulePart) → is_complete (in_order part_names ps) ≡ is_complete ps
unfolding octets_compute
same_complete ps =
    rw (
      named_order (ascii "FREQ") part_names ps names_once refl,
      named_order (ascii "UNTIL") part_names ps names_once refl,
      named_order (ascii "COUNT") part_names ps names_once refl,
    )

rule_accepted : (ps r : List RulePart) → every is_part ps ≡ true → ruled ps ≡ Some r → is_rule r ≡ true
rule_accepted ps r g h =
    let f = provided-some (distinct (map name_of ps) and is_complete ps) (in_order part_names ps) r h in
    rw (← f.1)
    (and_yes (is_ordered part_names (in_order part_names ps)) _ (ordered_order part_names ps names_once)
    (and_yes (is_complete (in_order part_names ps)) _ (same_complete ps ∙ (and_both (distinct (map name_of ps)) (is_complete ps) f.0).1) (every_order is_part part_names ps g)))

recur_good : (ms : List Member) (x : Value) → read_recur ms ≡ Some x → Good RECUR x
unfolding every
recur_good ms x h =
    made (Good RECUR) recur (and_then (read_each read_part ms) ruled) x h
    (λ r e.
    let a = and_then-some (read_each read_part ms) ruled r e in
    record { typed = and_yes _ _ (same_type_self RECUR) (and_yes _ _ refl (rule_accepted a.0 r (each_accepted read_part is_part part_accepted ms a.0 a.1) a.2)); clean = refl })

-- ---- by type

typed_good : (t : ValueType) (v : Json) (x : Value) → is_textual v ≡ true → read_typed t v ≡ Some x → Good t x
unfolding read_typed
typed_good BINARY v x c h =
    let e = and_then-some (as_string v) (read_value ical BINARY) x h in
    record { typed = of_read ical BINARY e.0 x e.2; clean = binary_clean e.0 x e.2 }
typed_good BOOLEAN v x c h =
    let e = and_then-some (as_literal v) (read_value xcal BOOLEAN) x h in
    record { typed = of_read xcal BOOLEAN e.0 x e.2; clean = boolean_clean e.0 x e.2 }
typed_good CAL-ADDRESS v x c h = string_good CAL-ADDRESS v x c h
typed_good DATE v x c h = string_good DATE v x c h
typed_good DATE-TIME v x c h = string_good DATE-TIME v x c h
typed_good DURATION v x c h = string_good DURATION v x c h
typed_good FLOAT v x c h =
    let e = and_then-some (as_number v) (read_value xcal FLOAT) x h in
    record { typed = of_read xcal FLOAT e.0 x e.2; clean = float_clean e.0 x e.2 }
typed_good INTEGER v x c h = integer_good v x h
typed_good PERIOD v x c h = let e = and_then-some (as_array v) read_period x h in period_good e.0 x e.2
typed_good RECUR v x c h = let e = and_then-some (as_object v) read_recur x h in recur_good e.0 x e.2
typed_good TEXT v x c h = string_good TEXT v x c h
typed_good TIME v x c h = string_good TIME v x c h
typed_good URI v x c h = string_good URI v x c h
typed_good UTC-OFFSET v x c h = string_good UTC-OFFSET v x c h
typed_good UNKNOWN v x c h = string_good UNKNOWN v x c h

-- ---- the values of a property

-- what is known of one value of type t of the property n in a component k
abbrev is_good : List ℕ → List ℕ → ValueType → Value → Bool
is_good k n t x = (same_type (type_of x) t and is_property_value k n t x) and is_clean_value x

geo_value : (vs : List Json) (x : Value) → read_geo vs ≡ Some x → (is_own_value FLOAT x ≡ true) × (is_clean_value x ≡ true)
unfolding every same_type ◌and◌
geo_value [] x h = none-some h
geo_value (la ∷ []) x h = none-some h
geo_value (la ∷ lo ∷ []) x h =
    let a = and_then-some (and_then (as_number la) read_float) (λ a. and_then (and_then (as_number lo) read_float) (λ o. Some (geo a o))) x h in
    let b = and_then-some (and_then (as_number lo) read_float) (λ o. Some (geo a.0 o)) x a.2 in
    let c = and_then-some (as_number la) read_float a.0 a.1 in
    let d = and_then-some (as_number lo) read_float b.0 b.1 in
    let z : geo a.0 b.0 ≡ x = cc b.2 in
    rw (← z) (rw (float_accepted c.0 a.0 c.2, float_accepted d.0 b.0 d.2), refl)
geo_value (la ∷ lo ∷ v ∷ vs) x h = none-some h

status_value : (ss : List (List ℕ)) (x : Value) → every is_clean ss ≡ true → read_status ss ≡ Some x → (is_own_value TEXT x ≡ true) × (is_clean_value x ≡ true)
unfolding same_type ◌and◌
status_value [] x c h = none-some h
status_value (a ∷ []) x c h = none-some h
status_value (a ∷ b ∷ []) x c h =
    let p = every_both is_clean a (b ∷ []) c in
    let q = every_both is_clean b [] p.1 in
    let z : request_status a b None ≡ x = cc in
    rw (← z) (refl, status_clean a b None p.0 q.0 refl)
status_value (a ∷ b ∷ d ∷ []) x c h =
    let p = every_both is_clean a (b ∷ d ∷ []) c in
    let q = every_both is_clean b (d ∷ []) p.1 in
    let r = every_both is_clean d [] q.1 in
    let z : request_status a b (Some d) ≡ x = cc in
    rw (← z) (refl, status_clean a b (Some d) p.0 q.0 r.0)
status_value (a ∷ b ∷ d ∷ e ∷ ss) x c h = none-some h

chosen_good : (o : Option (List (List ℕ))) (t : ValueType) (v : Json) (x : Value) → ((words : List (List ℕ)) → o ≡ Some words → t ≡ TEXT) → is_textual v ≡ true → read_chosen o t v ≡ Some x →
    (same_type (type_of x) t ≡ true) × (is_chosen o t x ≡ true) × (is_clean_value x ≡ true)
chosen_good None t v x f c h = let g = typed_good t v x c h in ((and_both (same_type (type_of x) t) _ g.typed).0, g.typed, g.clean)
chosen_good (Some words) t v x f c h =
    let a = and_then-some (as_string v) (λ s. provided (is_one_of s words) (text s)) x h in
    let b = provided-some (is_one_of a.0 words) (text a.0) x a.2 in
    rw (← b.1) (rw (f words refl) (same_type_self TEXT), b.0, one_clean a.0 (string_clean v a.0 c a.1))

geo_type : (t : ValueType) → is_type_of t (permitted_types (ascii "GEO")) ≡ true → t ≡ FLOAT
unfolding schema_compute
geo_type t h = same_type_true t FLOAT (sym (or-false (same_type t FLOAT)) ∙ h)

status_type : (t : ValueType) → is_type_of t (permitted_types (ascii "REQUEST-STATUS")) ≡ true → t ≡ TEXT
unfolding schema_compute
status_type t h = same_type_true t TEXT (sym (or-false (same_type t TEXT)) ∙ h)

own_good : (t : ValueType) (x : Value) → is_own_value t x ≡ true → is_clean_value x ≡ true → ((same_type (type_of x) t and is_own_value t x) and is_clean_value x) ≡ true
own_good t x h c = and_yes _ _ (and_yes _ _ (and_both (same_type (type_of x) t) _ h).0 h) c

one_good : (k n : List ℕ) (t : ValueType) → is_type_of t (permitted_types n) ≡ true → (v : Json) (x : Value) → is_textual v ≡ true → read_one k n t v ≡ Some x → is_good k n t x ≡ true
unfolding pick ◌or◌
one_good k n t p v x c h = go (same n (ascii "GEO")) refl (same n (ascii "REQUEST-STATUS")) refl
  where
    go : (g : Bool) → same n (ascii "GEO") ≡ g → (s : Bool) → same n (ascii "REQUEST-STATUS") ≡ s → is_good k n t x ≡ true
    go true eg s es =
        let y : t ≡ FLOAT = geo_type t (subst (λ (m : List ℕ). is_type_of t (permitted_types m) ≡ true) (same_true _ _ eg) p) in
        let a = and_then-some (as_array v) read_geo x (rw eg at h) in
        let b = geo_value a.0 x a.2 in
        rw (eg, y) (own_good FLOAT x b.0 b.1)
    go false eg true es =
        let y : t ≡ TEXT = status_type t (subst (λ (m : List ℕ). is_type_of t (permitted_types m) ≡ true) (same_true _ _ es) p) in
        let a = and_then-some (as_array v) (λ vs. and_then (read_each as_string vs) read_status) x (rw (eg, es) at h) in
        let d = and_then-some (read_each as_string a.0) read_status x a.2 in
        let b = status_value d.0 x (each_accepted_of as_string is_clean is_textual string_clean a.0 d.0 (array_textual v a.0 c a.1) d.1) d.2 in
        rw (eg, es, y) (own_good TEXT x b.0 b.1)
    go false eg false es =
        let b = chosen_good (property_words k n) t v x (only_text k n t p) c (rw (eg, es) at h) in
        rw (eg, es) (and_yes _ _ (and_yes _ _ b.0 b.1) b.2)

-- ---- all of them

pub record ReadValues (k n : List ℕ) (t : ValueType) (vs : List Json) (xs : List Value) : Type 0 where
  pub type : type_of_all xs ≡ t
  pub values : are_values_of k n t xs ≡ true
  pub clean : every is_clean_value xs ≡ true

first_type : (k n : List ℕ) (t : ValueType) (l : Bool) (xs : List Value) → is_amount l xs ≡ true → every (is_good k n t) xs ≡ true → type_of_all xs ≡ t
first_type k n t l [] a h = absurd (false≢true a)
first_type k n t l (x ∷ xs) a h = same_type_true (type_of x) t (and_both (same_type (type_of x) t) _ (and_both _ (is_clean_value x) (every_both (is_good k n t) x xs h).0).0).0

pub values_accepted : (k n : List ℕ) (t : ValueType) (vs : List Json) (xs : List Value) → every is_textual vs ≡ true → is_amount (is_listed_property n) vs ≡ true → read_values k n t vs ≡ Some xs → ReadValues k n t vs xs
unfolding read_values are_values_of pick
values_accepted k n t vs xs c a h = go (is_type_of t (permitted_types n)) refl h
  where
    go : (b : Bool) → is_type_of t (permitted_types n) ≡ b → pick b (read_each (read_one k n t) vs) None ≡ Some xs → ReadValues k n t vs xs
    go true e r =
        let g = each_accepted_of (read_one k n t) (is_good k n t) is_textual (one_good k n t e) vs xs c r in
        let m = each_amount (read_one k n t) (is_listed_property n) vs xs r ∙ a in
        record {
          type = first_type k n t (is_listed_property n) xs m g;
          values = and_yes _ _ e (and_yes _ _ m (every_weaker (is_good k n t) (is_property_value k n t) (λ x i. (and_both (same_type (type_of x) t) _ (and_both _ (is_clean_value x) i).0).1) xs g));
          clean = every_weaker (is_good k n t) is_clean_value (λ x i. (and_both _ (is_clean_value x) i).1) xs g;
        }
    go false e r = none-some r
