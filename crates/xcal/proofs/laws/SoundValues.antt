-- The elements of values are sound: their names are names, and their characters are clean.
--     value_sound, parameter_value_sound    the element of a value of a property or of a parameter, in front of what follows
--     values_sound    the elements of values
use Rattle.std.specs.Prelude.{◌≡◌, refl, Bool, true, false, List, [], ◌∷◌, ℕ, suc, Option, None, Some}
use Rattle.std.proofs.Common.{sym, ap, ◌∙◌}
use Rattle.std.proofs.lemmas.Bool.{false≢true}
use Rattle.octets.specs.Ascii.{ascii}
use Rattle.octets.specs.laws.Pick.{and_both, and_yes}
use Rattle.octets.specs.Class.{lower}
use Rattle.octets.specs.Lists.{every}
use Rattle.octets.specs.laws.Lists.{every_both}
use Rattle.octets.specs.laws.Tables.{row_named, row_passes}
use Rattle.octets.specs.Computing.{octets_compute}
use Rattle.calendar.specs.Calendar.{xcal, ValueType, UNKNOWN, RuleItem, RulePart}
use Rattle.calendar.specs.Calendar.{Value, unknown, type_of}
use Rattle.schema.specs.Types.{type_name}
use Rattle.schema.specs.laws.Types.{type_passes}
use Rattle.times.specs.DateTime.{is_date_time}
use Rattle.times.specs.Duration.{is_duration}
use Rattle.recur.specs.Parts.{Part, part_table, part_names, part_of, is_list_part}
use Rattle.recur.specs.Item.{write_item, is_for, is_item}
use Rattle.recur.specs.Rule.{is_amount, is_part, is_ordered, is_complete}
use Rattle.values.specs.WriteValue.{value_characters}
use Rattle.values.specs.ReadBack.{is_value, is_typed}
use Rattle.values.specs.Valid.{is_parameter_value}
use Rattle.values.specs.laws.Valid.{own_value, parameter_value_valid}
use Rattle.xml.specs.Reads.{is_name}
use Rattle.xml.specs.Content.{Content, nothing, child}
use Rattle.xcal.proofs.laws.Contents.{leaf_before, items_before, parts_before, data_before, inside, value_before, values_before}
use Rattle.xcal.proofs.laws.ValuesBack.{typed_before, by_spelling}
use Rattle.xcal.proofs.laws.SoundContent.{is_clean, is_sound}
use Rattle.xcal.proofs.laws.CleanValues.{is_clean_value, is_clean_data, clean_status, data_clean, moment_clean, span_clean, float_clean, item_clean}

pub leaf_sound : (n s : List ℕ) (next : Content) (d : ℕ) → is_name n ≡ true → is_clean s ≡ true → is_sound next (suc d) ≡ true → is_sound (leaf_before n s next) (suc d) ≡ true
unfolding is_sound
leaf_sound n s next d a b c = and_yes _ _ a (and_yes _ _ (and_yes _ _ b refl) c)

-- ---- RECUR

table_names : every (λ (r : Part). is_name (lower r.name)) part_table ≡ true
unfolding octets_compute is_name
table_names = refl

item_name : (n : List ℕ) (i : RuleItem) → is_item n i ≡ true → is_name (lower n) ≡ true
item_name n i h = go (part_of n) refl h
  where
    go : (o : Option Part) → part_of n ≡ o → is_for o i ≡ true → is_name (lower n) ≡ true
    go None e k = absurd (false≢true k)
    go (Some r) e k =
        ap (λ (x : List ℕ). is_name (lower x)) (sym (row_named (λ (r : Part). r.name) n part_table r e))
        ∙ row_passes (λ (r : Part). r.name) n (λ (r : Part). is_name (lower r.name)) part_table r table_names e

items_sound : (n : List ℕ) (is : List RuleItem) (next : Content) (d : ℕ) → every (is_item n) is ≡ true → is_sound next (suc d) ≡ true → is_sound (items_before (lower n) is next) (suc d) ≡ true
unfolding items_before
items_sound n [] next d h k = k
items_sound n (i ∷ is) next d h k =
    let a = every_both (is_item n) i is h in
    leaf_sound (lower n) (write_item xcal i) (items_before (lower n) is next) d (item_name n i a.0) (item_clean n i a.0) (items_sound n is next d a.1 k)

parts_sound : (ps : List RulePart) (d : ℕ) → every is_part ps ≡ true → is_sound (parts_before ps nothing) (suc d) ≡ true
unfolding parts_before is_sound
parts_sound [] d h = refl
parts_sound (p ∷ ps) d h =
    let a = every_both is_part p ps h in
    items_sound p.part p.items (parts_before ps nothing) d (and_both (is_amount (is_list_part p.part) p.items) _ a.0).1 (parts_sound ps d a.1)

-- ---- the names of elements

type_element : (t : ValueType) → is_name (lower (type_name t)) ≡ true
unfolding octets_compute is_name
type_element t = type_passes (λ u. is_name (lower (type_name u))) refl t

-- ---- values

inside_sound : (v : Value) → is_typed v ≡ true → is_value v ≡ true → is_clean_value v ≡ true → (d : ℕ) → is_sound (inside v) (suc d) ≡ true
unfolding octets_compute is_name is_sound inside
inside_sound v t h k d =
    by_spelling (λ v. is_value v ≡ true → is_clean_value v ≡ true → is_sound (inside v) (suc d) ≡ true)
    (λ v c e a b h k. rw (e, data_clean v c h k))
    (λ s e h k. let a = and_both (is_date_time s) (is_date_time e) h in rw (moment_clean s a.0, moment_clean e a.1))
    (λ s e h k. let a = and_both (is_date_time s) (is_duration e) h in rw (moment_clean s a.0, span_clean e a.1))
    (λ ps h k. parts_sound ps d (and_both (is_complete ps) _ (and_both (is_ordered part_names ps) _ h).1).1)
    v t h k

own_sound : (v : Value) → is_typed v ≡ false → is_value v ≡ true → is_clean_value v ≡ true → (next : Content) (d : ℕ) → is_sound next (suc d) ≡ true → is_sound (value_before v next) (suc d) ≡ true
unfolding octets_compute is_name value_before is_sound
own_sound v t h k next d s =
    own_value (λ v. is_clean_value v ≡ true → is_sound (value_before v next) (suc d) ≡ true)
    (λ la lo a b k. rw (float_clean la a, float_clean lo b) s)
    (λ c e x k. let a = clean_status c e x k in rw (a.0, a.1) (data_sound x a.2))
    v t h k
  where
    data_sound : (x : Option (List ℕ)) → is_clean_data x ≡ true → is_sound (data_before x next) (suc d) ≡ true
    data_sound None k = s
    data_sound (Some x) k = leaf_sound (ascii "data") x next d refl k s

pub child_sound : (n : List ℕ) (inner next : Content) (d : ℕ) → is_name n ≡ true → is_sound inner d ≡ true → is_sound next (suc d) ≡ true → is_sound (child n inner next) (suc d) ≡ true
unfolding is_sound
child_sound n inner next d a b c = and_yes _ _ a (and_yes _ _ b c)

-- the element of a value with clean characters is sound
abbrev pub SoundValue : Value → Type 0
SoundValue v = is_clean_value v ≡ true → (next : Content) (d : ℕ) → is_sound next (suc (suc d)) ≡ true → is_sound (value_before v next) (suc (suc d)) ≡ true

pub value_sound : (v : Value) → is_value v ≡ true → SoundValue v
value_sound v h k next d s = go (is_typed v) refl
  where
    go : (t : Bool) → is_typed v ≡ t → is_sound (value_before v next) (suc (suc d)) ≡ true
    go true e = rw (typed_before v next e) (child_sound (lower (type_name (type_of v))) (inside v) next (suc d) (type_element (type_of v)) (inside_sound v e h k d) s)
    go false e = own_sound v e h k next (suc d) s

unknown_sound : (s : List ℕ) → SoundValue (unknown s)
unfolding value_before inside value_characters
unknown_sound s k next d h = leaf_sound (lower (type_name UNKNOWN)) s next (suc d) (type_element UNKNOWN) (every_both is_clean s [] k).0 h

pub parameter_value_sound : (o : Option (List (List ℕ))) (t : ValueType) (v : Value) → is_parameter_value o t v ≡ true → SoundValue v
parameter_value_sound o t v h = parameter_value_valid SoundValue unknown_sound value_sound o t v h

-- values that pass a test
pub values_sound : (p : Value → Bool) → ((v : Value) → p v ≡ true → SoundValue v) → (vs : List Value) → every p vs ≡ true → every is_clean_value vs ≡ true →
    (next : Content) (d : ℕ) → is_sound next (suc (suc d)) ≡ true → is_sound (values_before vs next) (suc (suc d)) ≡ true
unfolding values_before
values_sound p f [] h k next d s = s
values_sound p f (v ∷ vs) h k next d s =
    let a = every_both p v vs h in
    let b = every_both is_clean_value v vs k in
    f v a.0 b.0 (values_before vs next) d (values_sound p f vs a.1 b.1 next d s)
