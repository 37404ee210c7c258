-- The JSON value of a valid calendar can be written: its strings are text, its numbers are such, and not too much stands inside one another.
--     calendar_writable
use Rattle.std.specs.Prelude.{◌≡◌, refl, Bool, true, false, List, [], ◌∷◌, map, ℕ, zero, suc, ◌+◌, ◌-◌, ◌*◌, ◌^◌, ◌≤◌, ◌<◌, leb, Option, None, Some}
use Rattle.std.proofs.Common.{sym, ap, ◌∙◌, arith, ltb-true, leb-true}
use Rattle.std.proofs.lemmas.Bool.{false≢true}
use Rattle.octets.specs.Ascii.{ascii}
use Rattle.octets.specs.Pick.{pick, ◌and◌, within}
use Rattle.octets.specs.laws.Pick.{and_both, and_yes, pick_second, within_range}
use Rattle.octets.specs.Class.{is_visible, is_name_char, lower}
use Rattle.octets.specs.laws.Class.{name_char_visible}
use Rattle.octets.specs.Scan.{all_of}
use Rattle.octets.specs.laws.Scan.{all_weaker}
use Rattle.octets.specs.Words.{is_one_of}
use Rattle.octets.specs.Lists.{every}
use Rattle.octets.specs.laws.Lists.{every_both, every_weaker, every-and}
use Rattle.octets.specs.laws.Tables.{row_named, row_passes}
use Rattle.octets.specs.Computing.{octets_compute}
use Rattle.calendar.specs.Calendar.{ValueType, Whole, Decimal, RuleItem, moment, number, word, weekday, RulePart, Value, binary, boolean, cal_address, date, date_time, duration, float, integer, period_explicit, period_start, recur, text, time, uri, utc_offset, unknown, geo, request_status, Parameter, Property, Components, no_more, component}
use Rattle.calendar.specs.Levels.{levels}
use Rattle.utf8.specs.Computing.{utf8_compute}
use Rattle.schema.specs.Types.{type_name}
use Rattle.schema.specs.laws.Types.{type_passes}
use Rattle.schema.specs.Components.{may_contain}
use Rattle.schema.specs.Counts.{method_for}
use Rattle.numbers.specs.Integer.{is_integer}
use Rattle.numbers.specs.Float.{is_normal}
use Rattle.times.specs.DateTime.{is_date_time}
use Rattle.times.specs.Duration.{is_duration}
use Rattle.recur.specs.Parts.{ItemForm, word_of, enddate, counting, unsigned, signed, weekdaynum, Part, part_table, part_names, part_of, is_list_part}
use Rattle.recur.specs.Item.{is_of_form, is_for, is_item}
use Rattle.recur.specs.Rule.{is_amount, is_part, is_ordered, is_complete}
use Rattle.values.specs.WriteValue.{value_characters, type_of_all}
use Rattle.values.specs.ReadBack.{is_value}
use Rattle.values.specs.Valid.{is_parameter_value, are_values_of, are_property_values}
use Rattle.values.specs.Characters.{is_value_text}
use Rattle.values.specs.laws.ReadBack.{is_character_data}
use Rattle.values.specs.laws.Valid.{parameter_value_valid, property_value_valid}
use Rattle.edition.specs.declared.Edition.{Edition}
use Rattle.validity.specs.ValidCalendar.{is_kept_name, is_parameter_text, is_valid_parameter, is_valid_property, are_valid, at_top}
use Rattle.validity.proofs.laws.ValidCalendar.{parameter_text as parameter_plain, valid_parameter, valid_property, valid_component}
use Rattle.schema.specs.Parameters.{parameter_type, parameter_words}
use Rattle.xml.specs.Reads.{is_name as is_xml_name}
use Rattle.xcal.proofs.laws.ElementNames.{kept_element}
use Rattle.xcal.proofs.laws.SoundContent.{is_clean}
use Rattle.xcal.proofs.laws.CleanValues.{is_clean_value, values_clean, clean_status, visible_clean, data_clean, moment_clean, span_clean, item_clean}
use Rattle.json_text.specs.Bytes.{most_open}
use Rattle.json_text.specs.Tree.{Json, Elements, no_elements, element, Member}
use Rattle.json_text.specs.Written.{is_text, is_number, is_writable, are_writable, members_writable}
use Rattle.jcal.specs.WriteJcal.{parameter_value}
use Rattle.jcal.proofs.laws.Trees.{to_elements, to_members, str, one_or_arr, item_tree, part_member, value_tree, parameter_member, property_tree, components_tree, alone, calendar_tree}
use Rattle.jcal.proofs.laws.ParametersBack.{data_of}
use Rattle.jcal.proofs.laws.NumbersWritten.{whole_number, float_number}

-- ---- strings

clean_text : (s : List ℕ) → is_clean s ≡ true → is_text s ≡ true
unfolding is_clean is_text
clean_text s h = h

name_text : (n : List ℕ) → is_kept_name n ≡ true → is_text (lower n) ≡ true
unfolding is_xml_name
name_text n h = go (lower n) (kept_element n h)
  where
    go : (m : List ℕ) → is_xml_name m ≡ true → is_text m ≡ true
    go [] h = absurd (false≢true h)
    go (b ∷ m) h = clean_text (b ∷ m) (visible_clean (b ∷ m) (all_weaker is_name_char is_visible name_char_visible (b ∷ m) (and_both _ _ h).1))

type_text : (t : ValueType) → is_text (lower (type_name t)) ≡ true
unfolding octets_compute
type_text t = clean_text _ (visible_clean _ (type_passes (λ u. all_of is_visible (lower (type_name u))) refl t))

-- ---- lists

each_writable : {A : Type 0} (f : A → Json) (q : A → Bool) (d : ℕ) → ((a : A) → q a ≡ true → is_writable (f a) d ≡ true) → (l : List A) → every q l ≡ true → are_writable (to_elements (map f l)) d ≡ true
unfolding to_elements are_writable
each_writable f q d h [] e = refl
each_writable f q d h (a ∷ l) e = let b = every_both q a l e in and_yes _ _ (h a b.0) (each_writable f q d h l b.1)

-- one alone or in an array, of what can be written at any depth
one_writable : {A : Type 0} (f : A → Json) (q : A → Bool) → ((d : ℕ) (a : A) → q a ≡ true → is_writable (f a) d ≡ true) → (l : List A) → every q l ≡ true → (d : ℕ) → is_writable (one_or_arr (map f l)) (suc d) ≡ true
unfolding is_writable to_elements are_writable
one_writable f q h [] e d = refl
one_writable f q h (a ∷ []) e d = h (suc d) a (every_both q a [] e).0
one_writable f q h (a ∷ b ∷ l) e d =
    let x = every_both q a (b ∷ l) e in
    let y = every_both q b l x.1 in
    and_yes _ _ (h d a x.0) (and_yes _ _ (h d b y.0) (each_writable f q d (h d) l y.1))

members_writable_lem : {A : Type 0} (f : A → Member) (q : A → Bool) (d : ℕ) → ((a : A) → q a ≡ true → (is_text (f a).name ≡ true) × (is_writable (f a).value d ≡ true)) → (l : List A) → every q l ≡ true →
    members_writable (to_members (map f l)) d ≡ true
unfolding to_members members_writable
members_writable_lem f q d h [] e = refl
members_writable_lem f q d h (a ∷ l) e =
    let b = every_both q a l e in
    let w = h a b.0 in
    and_yes _ _ w.0 (and_yes _ _ w.1 (members_writable_lem f q d h l b.1))

-- ---- values

-- the largest number of a form
abbrev form_most : ItemForm → ℕ
form_most (word_of ws) = 0
form_most enddate = 0
form_most counting = 2147483647
form_most (unsigned d lo hi) = hi
form_most (signed d hi) = hi
form_most weekdaynum = 0

number_most : (f : ItemForm) (w : Whole) → is_of_form f (number w) ≡ true → w.magnitude ≤ form_most f
number_most (word_of ws) w h = absurd (false≢true h)
number_most enddate w h = absurd (false≢true h)
number_most counting w h = (within_range 1 2147483647 w.magnitude (pick_second w.negative _ h).1).1
number_most (unsigned d lo hi) w h = (within_range lo hi w.magnitude (pick_second w.negative _ h).1).1
number_most (signed d hi) w h = (within_range 1 hi w.magnitude h).1
number_most weekdaynum w h = absurd (false≢true h)

rows_most : every (λ (r : Part). leb (form_most r.form) 2147483647) part_table ≡ true
unfolding octets_compute
rows_most = refl

item_small : (n : List ℕ) (w : Whole) → is_item n (number w) ≡ true → w.magnitude < 10 ^ 10
item_small n w h = go (part_of n) refl h
  where
    go : (o : Option Part) → part_of n ≡ o → is_for o (number w) ≡ true → w.magnitude < 10 ^ 10
    go None e k = absurd (false≢true k)
    go (Some r) e k =
        let a = number_most r.form w k in
        let b = leb-true (form_most r.form) 2147483647 (row_passes (λ (r : Part). r.name) n (λ (r : Part). leb (form_most r.form) 2147483647) part_table r rows_most e) in
        omega arith

item_writable : (n : List ℕ) (d : ℕ) (i : RuleItem) → is_item n i ≡ true → is_writable (item_tree i) d ≡ true
unfolding is_writable
item_writable n d (moment m) h = clean_text _ (item_clean n (moment m) h)
item_writable n d (number w) h = whole_number w (item_small n w h)
item_writable n d (word w) h = clean_text _ (item_clean n (word w) h)
item_writable n d (weekday o x) h = clean_text _ (item_clean n (weekday o x) h)

rows_text : every (λ (r : Part). all_of is_visible (lower r.name)) part_table ≡ true
unfolding octets_compute
rows_text = refl

part_name_lem : (n : List ℕ) (i : RuleItem) → is_item n i ≡ true → is_text (lower n) ≡ true
part_name_lem n i h = go (part_of n) refl h
  where
    go : (o : Option Part) → part_of n ≡ o → is_for o i ≡ true → is_text (lower n) ≡ true
    go None e k = absurd (false≢true k)
    go (Some r) e k =
        ap (λ (x : List ℕ). is_text (lower x)) (sym (row_named (λ (r : Part). r.name) n part_table r e))
        ∙ clean_text _ (visible_clean _ (row_passes (λ (r : Part). r.name) n (λ (r : Part). all_of is_visible (lower r.name)) part_table r rows_text e))

part_text : (n : List ℕ) (is : List RuleItem) → is_amount (is_list_part n) is ≡ true → every (is_item n) is ≡ true → is_text (lower n) ≡ true
part_text n [] a h = absurd (false≢true a)
part_text n (i ∷ is) a h = part_name_lem n i (every_both (is_item n) i is h).0

part_writable : (d : ℕ) (p : RulePart) → is_part p ≡ true → (is_text (part_member p).name ≡ true) × (is_writable (part_member p).value (suc d) ≡ true)
part_writable d p h =
    let a = and_both (is_amount (is_list_part p.part) p.items) _ h in
    (part_text p.part p.items a.0 a.1, one_writable item_tree (is_item p.part) (item_writable p.part) p.items a.1 d)

truth : (b : Bool) → is_one_of (value_characters (boolean b)) (ascii "true" ∷ ascii "false" ∷ ascii "null" ∷ []) ≡ true
unfolding value_characters octets_compute
truth true = refl
truth false = refl

integer_small : (w : Whole) → is_integer w ≡ true → w.magnitude < 10 ^ 10
unfolding pick
integer_small w h = go w.negative h
  where
    go : (m : Bool) → pick m (within 1 2147483648 w.magnitude) (leb w.magnitude 2147483647) ≡ true → w.magnitude < 10 ^ 10
    go true k = let r = within_range 1 2147483648 w.magnitude k in omega arith
    go false k = let r = leb-true w.magnitude 2147483647 k in omega arith

float_text : (d : Decimal) → is_normal d ≡ true → is_number (value_characters (float d)) ≡ true
unfolding value_characters
float_text d h = float_number d h

integer_text : (w : Whole) → is_integer w ≡ true → is_number (value_characters (integer w)) ≡ true
unfolding value_characters
integer_text w h = whole_number w (integer_small w h)

-- a value has at most an object with arrays in it
value_writable : (d : ℕ) (v : Value) → is_value v ≡ true → is_clean_value v ≡ true → is_writable (value_tree v) (suc (suc d)) ≡ true
unfolding value_tree is_writable are_writable to_elements octets_compute
value_writable d (binary s) h k = clean_text _ (data_clean (binary s) refl h k)
value_writable d (boolean b) h k = truth b
value_writable d (cal_address s) h k = clean_text _ (data_clean (cal_address s) refl h k)
value_writable d (date s) h k = clean_text _ (data_clean (date s) refl h k)
value_writable d (date_time s) h k = clean_text _ (data_clean (date_time s) refl h k)
value_writable d (duration s) h k = clean_text _ (data_clean (duration s) refl h k)
value_writable d (float x) h k = float_text x h
value_writable d (integer w) h k = integer_text w h
value_writable d (period_explicit s e) h k = let a = and_both (is_date_time s) (is_date_time e) h in rw (clean_text _ (moment_clean s a.0), clean_text _ (moment_clean e a.1))
value_writable d (period_start s e) h k = let a = and_both (is_date_time s) (is_duration e) h in rw (clean_text _ (moment_clean s a.0), clean_text _ (span_clean e a.1))
value_writable d (recur ps) h k = members_writable_lem part_member is_part (suc d) (part_writable d) ps (and_both (is_complete ps) _ (and_both (is_ordered part_names ps) _ h).1).1
value_writable d (text s) h k = clean_text _ (data_clean (text s) refl h k)
value_writable d (time s) h k = clean_text _ (data_clean (time s) refl h k)
value_writable d (uri s) h k = clean_text _ (data_clean (uri s) refl h k)
value_writable d (utc_offset s) h k = clean_text _ (data_clean (utc_offset s) refl h k)
value_writable d (unknown s) h k = clean_text _ (data_clean (unknown s) refl h k)
value_writable d (geo la lo) h k = let a = and_both (is_normal la) (is_normal lo) h in rw (float_number la a.0, float_number lo a.1)
value_writable d (request_status c x None) h k = let a = clean_status c x None k in rw (clean_text c a.0, clean_text x a.1)
value_writable d (request_status c x (Some s)) h k = let a = clean_status c x (Some s) k in rw (clean_text c a.0, clean_text x a.1, clean_text s a.2)

-- ---- parameters and properties

-- a truth value, or characters
parameter_text : (v : Value) → is_character_data v ≡ true → is_value v ≡ true → is_clean_value v ≡ true → is_text (parameter_value v) ≡ true
unfolding parameter_value octets_compute is_text utf8_compute
parameter_text (binary s) c h k = clean_text _ (data_clean (binary s) refl h k)
parameter_text (boolean true) c h k = refl
parameter_text (boolean false) c h k = refl
parameter_text (cal_address s) c h k = clean_text _ (data_clean (cal_address s) refl h k)
parameter_text (date s) c h k = clean_text _ (data_clean (date s) refl h k)
parameter_text (date_time s) c h k = clean_text _ (data_clean (date_time s) refl h k)
parameter_text (duration s) c h k = clean_text _ (data_clean (duration s) refl h k)
parameter_text (float x) c h k = clean_text _ (data_clean (float x) refl h k)
parameter_text (integer w) c h k = clean_text _ (data_clean (integer w) refl h k)
parameter_text (period_explicit s e) c h k = absurd (false≢true c)
parameter_text (period_start s e) c h k = absurd (false≢true c)
parameter_text (recur ps) c h k = absurd (false≢true c)
parameter_text (text s) c h k = clean_text _ (data_clean (text s) refl h k)
parameter_text (time s) c h k = clean_text _ (data_clean (time s) refl h k)
parameter_text (uri s) c h k = clean_text _ (data_clean (uri s) refl h k)
parameter_text (utc_offset s) c h k = clean_text _ (data_clean (utc_offset s) refl h k)
parameter_text (unknown s) c h k = clean_text _ (data_clean (unknown s) refl h k)
parameter_text (geo la lo) c h k = absurd (false≢true c)
parameter_text (request_status x y z) c h k = absurd (false≢true c)

parameter_value_text : (n : List ℕ) (v : Value) → is_parameter_value (parameter_words n) (parameter_type n) v ≡ true → is_clean_value v ≡ true → is_text (parameter_value v) ≡ true
unfolding parameter_value value_characters
parameter_value_text n v h k =
    parameter_value_valid (λ v. is_character_data v ≡ true → is_clean_value v ≡ true → is_text (parameter_value v) ≡ true) (λ s c k. clean_text s (every_both is_clean s [] k).0) (λ v h c k. parameter_text v c h k)
    (parameter_words n) (parameter_type n) v h (data_of n v h) k

parameter_writable : (ed : Edition) (d : ℕ) (p : Parameter) → is_valid_parameter ed p ≡ true → (is_text (parameter_member p).name ≡ true) × (is_writable (parameter_member p).value (suc d) ≡ true)
unfolding is_writable
parameter_writable ed d p h =
    let c = valid_parameter ed p h in (
      name_text p.name c.kept,
      one_writable (λ v. str (parameter_value v)) (λ v. is_parameter_value (parameter_words p.name) (parameter_type p.name) v and is_clean_value v)
          (λ d v e. let a = and_both (is_parameter_value (parameter_words p.name) (parameter_type p.name) v) _ e in parameter_value_text p.name v a.0 a.1)
          p.values
          (every-and (is_parameter_value (parameter_words p.name) (parameter_type p.name)) is_clean_value p.values c.chosen
          (values_clean p.values (every_weaker (is_parameter_text ed) is_value_text (parameter_plain ed) p.values c.plain) c.permitted))
          d,
    )

property_values : (k n : List ℕ) (vs : List Value) → are_property_values k n vs ≡ true → every is_value vs ≡ true
unfolding are_values_of
property_values k n vs h = every_weaker _ is_value (property_value_valid k n (type_of_all vs)) vs (and_both _ _ (and_both _ _ h).1).1

property_writable : (ed : Edition) (k : List ℕ) (d : ℕ) (p : Property) → is_valid_property ed k p ≡ true → is_writable (property_tree p) (suc (suc (suc d))) ≡ true
unfolding is_writable are_writable to_elements
property_writable ed k d p h =
    let c = valid_property ed k p h in
    and_yes _ _ (name_text p.name c.kept)
    (and_yes _ _ (members_writable_lem parameter_member (is_valid_parameter ed) (suc d) (parameter_writable ed d) p.parameters c.parameters)
    (and_yes _ _ (type_text (type_of_all p.values))
    (each_writable value_tree (λ v. is_value v and is_clean_value v) (suc (suc d)) (λ v e. let a = and_both (is_value v) _ e in value_writable d v a.0 a.1) p.values
    (every-and is_value is_clean_value p.values (property_values k p.name p.values c.values) (values_clean p.values c.plain c.permitted)))))

-- ---- components

none_left : {X : Type 0} (ed : Edition) (l : ℕ) (may : List ℕ → Bool) (m : Bool) (n : List ℕ) (ps : List Property) (inner next : Components) → are_valid ed l may m (component n ps inner next) ≡ true → l ≤ 0 → X
none_left ed l may m n ps inner next h e = let w : 0 < l = ltb-true 0 l (valid_component ed l may m n ps inner next h).level in absurd (omega arith)

-- at most l levels of components: each takes its own array and that of its subcomponents, its properties three more
components_writable : (ed : Edition) (c : Components) (l : ℕ) (may : List ℕ → Bool) (m : Bool) (d : ℕ) → are_valid ed l may m c ≡ true → 3 + 2 * l ≤ d → are_writable (components_tree c) d ≡ true
unfolding components_tree is_writable are_writable to_elements
components_writable ed no_more l may m d h e = refl
components_writable ed (component n ps inner next) l may m zero h e = absurd (omega arith)
components_writable ed (component n ps inner next) l may m (suc zero) h e = absurd (omega arith)
components_writable ed (component n ps inner next) l may m (suc (suc zero)) h e = absurd (omega arith)
components_writable ed (component n ps inner next) l may m (suc (suc (suc zero))) h e = none_left ed l may m n ps inner next h (omega arith)
components_writable ed (component n ps inner next) l may m (suc (suc (suc (suc zero)))) h e = none_left ed l may m n ps inner next h (omega arith)
components_writable ed (component n ps inner next) l may m (suc (suc (suc (suc (suc d))))) h e =
    let v = valid_component ed l may m n ps inner next h in
    let w : 0 < l = ltb-true 0 l v.level in
    and_yes _ _
    (and_yes _ _ (name_text n v.kept)
    (and_yes _ _ (each_writable property_tree (is_valid_property ed n) (suc (suc (suc d))) (property_writable ed n d) ps v.properties)
    (and_yes _ _ (components_writable ed inner (l - 1) (may_contain n) (method_for n ps m) (suc (suc (suc d))) v.inside (omega arith)) refl)))
    (components_writable ed next l may m (suc (suc (suc (suc (suc d))))) v.after e)

alone_writable : (vs : Elements) (d : ℕ) → are_writable vs d ≡ true → are_writable vs (suc d) ≡ true → is_writable (alone vs) (suc d) ≡ true
unfolding is_writable are_writable
alone_writable no_elements d h k = refl
alone_writable (element v no_elements) d h k = (and_both (is_writable v (suc d)) _ k).0
alone_writable (element v (element w vs)) d h k = h

pub calendar_writable : (ed : Edition) (c : Components) → are_valid ed levels at_top false c ≡ true → is_writable (calendar_tree c) most_open ≡ true
calendar_writable ed c h =
    alone_writable (components_tree c) 31 (components_writable ed c levels at_top false 31 h (omega arith)) (components_writable ed c levels at_top false 32 h (omega arith))
