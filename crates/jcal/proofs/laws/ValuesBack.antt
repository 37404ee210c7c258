-- A value of a property is read back from its JSON value (RFC 7265, section 3.6).
--     typed_back     a value that is spelled as its type says
--     values_back    the values of a property
use Rattle.std.specs.Prelude.{◌≡◌, refl, Bool, true, false, not, List, [], ◌∷◌, map, ℕ, Option, None, Some}
use Rattle.std.proofs.Common.{sym, ap, subst, ◌∙◌}
use Rattle.std.proofs.lemmas.Bool.{false≢true, not-true}
use Rattle.octets.specs.Ascii.{ascii}
use Rattle.octets.specs.Pick.{pick, ◌and◌, ◌or◌}
use Rattle.octets.specs.laws.Pick.{and_both, or-false, eqb_apart}
use Rattle.octets.specs.laws.Scan.{all_split}
use Rattle.octets.specs.Class.{is_digit, upper, lower}
use Rattle.octets.specs.laws.Letters.{lower_any_case}
use Rattle.octets.specs.Words.{same}
use Rattle.octets.specs.laws.Words.{same_self, same_true}
use Rattle.octets.specs.Lists.{every}
use Rattle.octets.specs.laws.Lists.{every_both}
use Rattle.octets.specs.Reading.{and_then}
use Rattle.octets.specs.laws.Reading.{each_read_back}
use Rattle.octets.specs.laws.Tables.{row_named, row_passes}
use Rattle.octets.specs.Computing.{octets_compute}
use Rattle.calendar.specs.Calendar.{xcal, ValueType, BINARY, INTEGER, PERIOD, RECUR, TEXT, Whole, Decimal, RuleItem, moment, number, word, weekday, RulePart}
use Rattle.calendar.specs.Calendar.{Value, binary, boolean, cal_address, date, date_time, duration, float, integer, period_explicit, period_start, recur, text, time, uri, utc_offset, unknown, geo, request_status, type_of, text_in}
use Rattle.schema.specs.Types.{same_type, is_type_of}
use Rattle.schema.specs.Properties.{permitted_types, is_listed_property, property_words}
use Rattle.schema.specs.Computing.{schema_compute}
use Rattle.schema.specs.laws.Types.{same_type_true}
use Rattle.schema.specs.laws.Closed.{property_words_text}
use Rattle.times.specs.Spelling.{keep, begins, put_mark, with_marks}
use Rattle.times.specs.Date.{is_date}
use Rattle.times.specs.DateTime.{is_date_time, write_date_time}
use Rattle.times.specs.laws.DateTime.{date_time_read_back}
use Rattle.times.specs.Duration.{is_duration, duration_of, read_duration, unsigned_duration}
use Rattle.times.specs.laws.Duration.{duration_read_back}
use Rattle.numbers.specs.Float.{is_normal}
use Rattle.numbers.specs.laws.FloatLaws.{float_read_back}
use Rattle.recur.specs.Parts.{ItemForm, word_of, enddate, counting, unsigned, signed, weekdaynum, Part, part_table, part_names, part_of, is_list_part}
use Rattle.recur.specs.Item.{write_item, is_of_form, is_for, is_item}
use Rattle.recur.specs.Rule.{rule_part, is_amount, is_part, is_ordered, is_complete}
use Rattle.recur.specs.laws.ItemLaws.{item_read_back}
use Rattle.recur.specs.laws.OrderLaws.{once_ordered, order_back}
use Rattle.recur.specs.laws.RuleLaws.{names_once}
use Rattle.values.specs.WriteValue.{write_value, value_characters}
use Rattle.values.specs.ReadBack.{is_value, is_typed}
use Rattle.values.specs.Valid.{is_amount as is_number_of, is_own_value, is_word_in, is_chosen, is_property_value, are_values_of}
use Rattle.values.specs.laws.ReadBack.{value_read_back, characters_read_back}
use Rattle.values.specs.laws.Valid.{text_in_lem, own_value}
use Rattle.xcal.proofs.laws.ElementNames.{upper-lower}
use Rattle.xcal.proofs.laws.Chosen.{chosen_typed}
use Rattle.json_text.specs.Tree.{Json, element_list}
use Rattle.json_text.specs.Kinds.{as_array, or_alone}
use Rattle.jcal.specs.Values.{item_text, read_item, read_items, read_part, read_typed, read_chosen, read_one, read_values}
use Rattle.jcal.proofs.laws.Trees.{to_elements, element_list_lem, member_list_lem, one_or_arr, item_tree, part_member, value_tree}
use Rattle.jcal.proofs.laws.IntegerBack.{number_back}

-- ---- one value or several: what is no array is read alone

pub alone_back : {A : Type 0} (f : A → Json) → ((a : A) → as_array (f a) ≡ None) → (l : List A) → or_alone (one_or_arr (map f l)) ≡ map f l
unfolding to_elements element_list octets_compute
alone_back f h [] = refl
alone_back f h (a ∷ []) = rw (h a)
alone_back f h (a ∷ b ∷ l) = ap (λ (x : List Json). f a ∷ f b ∷ x) (element_list_lem (map f l))

-- ---- PERIOD

moment_first : (b : ℕ) (s : List ℕ) → is_date_time (b ∷ s) ≡ true → is_digit b ≡ true
unfolding is_date_time is_date
moment_first b s h = (all_split is_digit b _ (and_both _ _ (and_both _ _ (and_both _ _ h).0).1).0).0

-- a duration begins with no digit
digit_no_duration : (b : ℕ) (s : List ℕ) → is_digit b ≡ true → read_duration xcal (b ∷ s) ≡ None
unfolding read_duration duration_of is_duration unsigned_duration begins keep pick ◌and◌ ◌or◌
digit_no_duration b s h = rw (eqb_apart is_digit b 43 h refl, eqb_apart is_digit b 80 h refl, eqb_apart is_digit b 45 h refl)

moment_no_duration : (v : List ℕ) → is_date_time v ≡ true → read_duration xcal (write_date_time xcal v) ≡ None
unfolding octets_compute is_date_time is_date write_date_time with_marks put_mark
moment_no_duration [] h = absurd (false≢true h)
moment_no_duration (b ∷ s) h = digit_no_duration b _ (moment_first b s h)

explicit_back : (s e : List ℕ) → is_value (period_explicit s e) ≡ true → read_typed PERIOD (value_tree (period_explicit s e)) ≡ Some (period_explicit s e)
unfolding read_typed value_tree to_elements element_list and_then
explicit_back s e h =
    let b = and_both (is_date_time s) (is_date_time e) h in
    rw (date_time_read_back xcal s b.0, moment_no_duration e b.1, date_time_read_back xcal e b.1)

start_back : (s d : List ℕ) → is_value (period_start s d) ≡ true → read_typed PERIOD (value_tree (period_start s d)) ≡ Some (period_start s d)
unfolding read_typed value_tree to_elements element_list and_then
start_back s d h =
    let b = and_both (is_date_time s) (is_duration d) h in
    rw (date_time_read_back xcal s b.0, duration_read_back xcal d b.1)

-- ---- RECUR

no_array : (i : RuleItem) → as_array (item_tree i) ≡ None
no_array (moment m) = refl
no_array (number w) = refl
no_array (word w) = refl
no_array (weekday o d) = refl

-- an item of a form is a number where the form has numbers
text_of : (f : ItemForm) (i : RuleItem) → is_of_form f i ≡ true → item_text f (item_tree i) ≡ Some (write_item xcal i)
text_of (word_of ws) (moment m) h = absurd (false≢true h)
text_of (word_of ws) (number w) h = absurd (false≢true h)
text_of (word_of ws) (word w) h = refl
text_of (word_of ws) (weekday o d) h = absurd (false≢true h)
text_of enddate (moment m) h = refl
text_of enddate (number w) h = absurd (false≢true h)
text_of enddate (word w) h = absurd (false≢true h)
text_of enddate (weekday o d) h = absurd (false≢true h)
text_of counting (moment m) h = absurd (false≢true h)
text_of counting (number w) h = refl
text_of counting (word w) h = absurd (false≢true h)
text_of counting (weekday o d) h = absurd (false≢true h)
text_of (unsigned d lo hi) (moment m) h = absurd (false≢true h)
text_of (unsigned d lo hi) (number w) h = refl
text_of (unsigned d lo hi) (word w) h = absurd (false≢true h)
text_of (unsigned d lo hi) (weekday o x) h = absurd (false≢true h)
text_of (signed d hi) (moment m) h = absurd (false≢true h)
text_of (signed d hi) (number w) h = refl
text_of (signed d hi) (word w) h = absurd (false≢true h)
text_of (signed d hi) (weekday o x) h = absurd (false≢true h)
text_of weekdaynum (moment m) h = absurd (false≢true h)
text_of weekdaynum (number w) h = absurd (false≢true h)
text_of weekdaynum (word w) h = absurd (false≢true h)
text_of weekdaynum (weekday o d) h = refl

names_capital : every (λ (r : Part). same (upper r.name) r.name) part_table ≡ true
unfolding octets_compute
names_capital = refl

-- what has an item is a part
some_row : (n : List ℕ) (is : List RuleItem) → is_amount (is_list_part n) is ≡ true → every (is_item n) is ≡ true → (r : Part) × (part_of n ≡ Some r)
some_row n [] a h = absurd (false≢true a)
some_row n (i ∷ is) a h = go (part_of n) refl (every_both (is_item n) i is h).0
  where
    go : (o : Option Part) → part_of n ≡ o → is_for o i ≡ true → (r : Part) × (part_of n ≡ Some r)
    go None e k = absurd (false≢true k)
    go (Some r) e k = (r, e)

module _ (n : List ℕ) (r : Part) (e : part_of n ≡ Some r) where
  row_name : r.name ≡ n
  row_name = row_named (λ (r : Part). r.name) n part_table r e

  row_upper : upper n ≡ n
  row_upper = rw (← row_name) (same_true _ _ (row_passes (λ (r : Part). r.name) n (λ (r : Part). same (upper r.name) r.name) part_table r names_capital e))

  item_back : (i : RuleItem) → is_item n i ≡ true → read_item r (item_tree i) ≡ Some i
  unfolding and_then
  item_back i h = rw (text_of r.form i (rw e at h)) (rw e at (item_read_back xcal n i h))

  items_back : (is : List RuleItem) → is_amount r.listed is ≡ true → every (is_item n) is ≡ true → read_items r (map item_tree is) ≡ Some (rule_part n is)
  unfolding and_then pick
  items_back is a h = rw (each_read_back (read_item r) (is_item n) item_tree item_back is h, a, row_name)

-- small letters twice
pub small_twice : (n : List ℕ) → upper n ≡ n → lower (lower n) ≡ lower n
small_twice n u = sym (lower_any_case (lower n)) ∙ ap lower (upper-lower n u)

part_back : (p : RulePart) → is_part p ≡ true → read_part (part_member p) ≡ Some p
unfolding and_then pick
part_back p h =
    let n = p.part in
    let a = and_both (is_amount (is_list_part p.part) p.items) _ h in
    let r = some_row p.part p.items a.0 a.1 in
    let u = row_upper p.part r.0 r.1 in
    rw (small_twice p.part u, same_self (lower p.part), upper-lower p.part u, r.1, alone_back item_tree no_array p.items)
    (items_back p.part r.0 r.1 p.items (rw r.1 at a.0) a.1)

recur_back : (ps : List RulePart) → is_value (recur ps) ≡ true → read_typed RECUR (value_tree (recur ps)) ≡ Some (recur ps)
unfolding read_typed value_tree and_then pick ◌and◌
recur_back ps h =
    let a = and_both (is_ordered part_names ps) _ h in
    let b = and_both (is_complete ps) (every is_part ps) a.1 in
    rw (
      member_list_lem (map part_member ps),
      each_read_back read_part is_part part_member part_back ps b.1,
      once_ordered part_names ps names_once a.0,
      b.0,
      order_back part_names ps names_once a.0,
    )

-- ---- a value that is spelled as its type says

binary_back : (s : List ℕ) → is_value (binary s) ≡ true → read_typed BINARY (value_tree (binary s)) ≡ Some (binary s)
unfolding read_typed value_tree and_then value_characters write_value
binary_back s h = value_read_back (binary s) refl h

integer_back : (w : Whole) → is_value (integer w) ≡ true → read_typed INTEGER (value_tree (integer w)) ≡ Some (integer w)
unfolding read_typed value_tree and_then value_characters
integer_back w h = rw (number_back w h)

pub typed_back : (v : Value) → is_typed v ≡ true → is_value v ≡ true → read_typed (type_of v) (value_tree v) ≡ Some v
unfolding read_typed value_tree and_then
typed_back (binary s) t h = binary_back s h
typed_back (boolean b) t h = characters_read_back (boolean b) refl h
typed_back (cal_address s) t h = characters_read_back (cal_address s) refl h
typed_back (date s) t h = characters_read_back (date s) refl h
typed_back (date_time s) t h = characters_read_back (date_time s) refl h
typed_back (duration s) t h = characters_read_back (duration s) refl h
typed_back (float d) t h = characters_read_back (float d) refl h
typed_back (integer w) t h = integer_back w h
typed_back (period_explicit s e) t h = explicit_back s e h
typed_back (period_start s d) t h = start_back s d h
typed_back (recur ps) t h = recur_back ps h
typed_back (text s) t h = characters_read_back (text s) refl h
typed_back (time s) t h = characters_read_back (time s) refl h
typed_back (uri s) t h = characters_read_back (uri s) refl h
typed_back (utc_offset s) t h = characters_read_back (utc_offset s) refl h
typed_back (unknown s) t h = characters_read_back (unknown s) refl h
typed_back (geo la lo) t h = absurd (false≢true t)
typed_back (request_status c d x) t h = absurd (false≢true t)

-- ---- GEO and REQUEST-STATUS

geo_back : (k : List ℕ) (t : ValueType) (la lo : Decimal) → is_normal la ≡ true → is_normal lo ≡ true → read_one k (ascii "GEO") t (value_tree (geo la lo)) ≡ Some (geo la lo)
unfolding octets_compute value_tree to_elements element_list
geo_back k t la lo a b = rw (float_read_back la a, float_read_back lo b)

status_back : (k : List ℕ) (t : ValueType) (c d : List ℕ) (x : Option (List ℕ)) → read_one k (ascii "REQUEST-STATUS") t (value_tree (request_status c d x)) ≡ Some (request_status c d x)
unfolding octets_compute value_tree to_elements element_list
status_back k t c d None = refl
status_back k t c d (Some x) = refl

-- a value that GEO can have is a latitude and a longitude: its type is FLOAT
geo_own : (k : List ℕ) (t : ValueType) (v : Value) → is_type_of t (permitted_types (ascii "GEO")) ≡ true → is_own_value t v ≡ true → read_one k (ascii "GEO") t (value_tree v) ≡ Some v
unfolding schema_compute
geo_own k t v p h =
    let a = and_both (same_type (type_of v) t) _ h in
    let w = and_both (not (is_typed v)) (is_value v) a.1 in
    own_value (λ v. is_type_of (type_of v) (permitted_types (ascii "GEO")) ≡ true → read_one k (ascii "GEO") t (value_tree v) ≡ Some v)
    (λ la lo a b p. geo_back k t la lo a b) (λ c d x p. absurd (false≢true p)) v (not-true _ w.0) w.1 (rw (same_type_true (type_of v) t a.0) p)

status_own : (k : List ℕ) (t : ValueType) (v : Value) → is_type_of t (permitted_types (ascii "REQUEST-STATUS")) ≡ true → is_own_value t v ≡ true → read_one k (ascii "REQUEST-STATUS") t (value_tree v) ≡ Some v
unfolding schema_compute
status_own k t v p h =
    let a = and_both (same_type (type_of v) t) _ h in
    let w = and_both (not (is_typed v)) (is_value v) a.1 in
    own_value (λ v. is_type_of (type_of v) (permitted_types (ascii "REQUEST-STATUS")) ≡ true → read_one k (ascii "REQUEST-STATUS") t (value_tree v) ≡ Some v)
    (λ la lo a b p. absurd (false≢true p)) (λ c d x p. status_back k t c d x) v (not-true _ w.0) w.1 (rw (same_type_true (type_of v) t a.0) p)

-- ---- any property

-- a property with a closed set takes TEXT alone
pub only_text : (k n : List ℕ) (t : ValueType) → is_type_of t (permitted_types n) ≡ true → (words : List (List ℕ)) → property_words k n ≡ Some words → t ≡ TEXT
unfolding is_type_of
only_text k n t p words e = same_type_true t TEXT (sym (or-false (same_type t TEXT)) ∙ subst (λ (l : List ValueType). is_type_of t l ≡ true) (property_words_text k n words e).0 p)

chosen_back : (o : Option (List (List ℕ))) (t : ValueType) (v : Value) → ((words : List (List ℕ)) → o ≡ Some words → t ≡ TEXT) → is_chosen o t v ≡ true → read_chosen o t (value_tree v) ≡ Some v
unfolding value_tree and_then value_characters pick
chosen_back None t v f h = let k = chosen_typed None t v f h in rw (← k.0) (typed_back v k.1 k.2)
chosen_back (Some words) t v f h = go (text_in v) refl h
  where
    go : (o : Option (List ℕ)) → text_in v ≡ o → is_word_in words o ≡ true → read_chosen (Some words) t (value_tree v) ≡ Some v
    go None e k = absurd (false≢true k)
    go (Some s) e k = rw (text_in_lem v s e, k)

one_back : (k n : List ℕ) (t : ValueType) (v : Value) → is_type_of t (permitted_types n) ≡ true → is_property_value k n t v ≡ true → read_one k n t (value_tree v) ≡ Some v
unfolding pick ◌or◌
one_back k n t v p h = go (same n (ascii "GEO")) refl (same n (ascii "REQUEST-STATUS")) refl
  where
    go : (g : Bool) → same n (ascii "GEO") ≡ g → (s : Bool) → same n (ascii "REQUEST-STATUS") ≡ s → read_one k n t (value_tree v) ≡ Some v
    go true eg s es =
        let z : n ≡ ascii "GEO" = same_true _ _ eg in
        subst (λ (m : List ℕ). read_one k m t (value_tree v) ≡ Some v) (sym z)
        (geo_own k t v (subst (λ (m : List ℕ). is_type_of t (permitted_types m) ≡ true) z p) (rw eg at h))
    go false eg true es =
        let z : n ≡ ascii "REQUEST-STATUS" = same_true _ _ es in
        subst (λ (m : List ℕ). read_one k m t (value_tree v) ≡ Some v) (sym z)
        (status_own k t v (subst (λ (m : List ℕ). is_type_of t (permitted_types m) ≡ true) z p) (rw (eg, es) at h))
    go false eg false es = rw (eg, es) (chosen_back (property_words k n) t v (only_text k n t p) (rw (eg, es) at h))

pub values_back : (k n : List ℕ) (t : ValueType) (vs : List Value) → are_values_of k n t vs ≡ true → read_values k n t (map value_tree vs) ≡ Some vs
unfolding are_values_of read_values pick
values_back k n t vs h =
    let a = and_both (is_type_of t (permitted_types n)) _ h in
    let b = and_both (is_number_of (is_listed_property n) vs) _ a.1 in
    rw a.0 (each_read_back (read_one k n t) (is_property_value k n t) value_tree (λ v e. one_back k n t v a.0 e) vs b.1)
