-- Laws of what specs/Shown.antt defines.
--     values_shown           that it is what is written of the values that are read
--     put_shown, put_no_values    for the code
use Rattle.std.specs.Prelude.{◌≡◌, refl, Bool, true, ℕ, ◌*◌, ◌^◌, ◌≤◌, ◌<◌, eqb, length, Option, None, Some, option_map}
use Rattle.std.proofs.Common.{sym, ap, ◌∙◌, arith}
use Rattle.std.proofs.Math.Bool.{false}
use Rattle.std.proofs.lemmas.Bool.{false≢true}
use mathlib.Core.List.{List, [], ◌∷◌, map}
use Rattle.octets.specs.Ascii.{ascii}
use Rattle.octets.specs.Pick.{pick}
use Rattle.octets.specs.Append.{◌⊕◌}
use Rattle.octets.specs.laws.Append.{append_none}
use Rattle.octets.specs.Class.{upper, lower}
use Rattle.octets.specs.Words.{is_one_of, cut_at}
use Rattle.octets.specs.Reading.{provided, and_then, is_read, read_or, cons_read, read_each, or_nothing}
use Rattle.octets.specs.Computing.{octets_compute}
use Rattle.names.specs.Table.{place_of}
use Rattle.calendar.specs.Calendar.{ical, ValueType, TEXT, Value, text}
use Rattle.sink.specs.Sink.{Put}
use Rattle.sink.specs.laws.Sink.{put_none}
use Rattle.source.specs.Source.{rest}
use Rattle.schema.specs.Types.{type_name, type_place}
use Rattle.schema.specs.Components.{component_names}
use Rattle.schema.specs.Properties.{property_names}
use Rattle.schema.specs.Numbers.{type_at, component_name}
use Rattle.schema.specs.Coded.{row_at}
use Rattle.schema.specs.Columns.{permits_type}
use Rattle.schema.specs.declared.table.Row.{Row}
use Rattle.schema.specs.Sets.{words_at}
use Rattle.schema.specs.Property as property
use Rattle.numbers.specs.Geo.{read_geo}
use Rattle.texts.specs.TextList.{read_texts}
use Rattle.texts.specs.Elements.{texts_xml}
use Rattle.texts.specs.RequestStatus.{read_request_status}
use Rattle.texts.specs.laws.RequestStatus.{IsStatus, request_status_accepted}
use Rattle.texts.specs.StatusXml.{status_xml, data_element}
use Rattle.xml.specs.Escape.{escaped, element_of}
use Rattle.values.specs.ReadValue.{read_value}
use Rattle.values.specs.WriteValue.{value_characters}
use Rattle.text.specs.Values.{one_value, read_listed, read_chosen, read_values}
use Rattle.xcal.specs.WriteXml.{text_element, data_xml, value_xml, values_xml}
use Rattle.write_xml_property.specs.Pieces.{pieces_xml, listed_xml}
use Rattle.write_xml_property.specs.laws.Placed.{own_at, values_at, values_at_lem, type_text}
use Rattle.write_xml_property.specs.Shown.{single_xml, shown_xml}
use Rattle.read_text_property.specs.ValuesAt.{values_read, good_at}
use Rattle.read_text_property.specs.laws.ValuesAt.{values_named}

-- ---- what each kind of value is written as

one_shown : (o : Option Value) → or_nothing value_xml o ≡ values_xml (read_or [] (one_value o))
unfolding read_or values_xml
one_shown None = refl
one_shown (Some v) = sym (append_none (value_xml v))

data_shown : (x : Option (List ℕ)) → data_element x ≡ data_xml x
data_shown None = refl
data_shown (Some x) = refl

status_is : (v : Value) → IsStatus v → status_xml v ≡ value_xml v
unfolding status_xml value_xml
status_is v s = rw s.is (ap (λ (l : List ℕ). text_element (ascii "code") s.code ⊕ text_element (ascii "description") s.description ⊕ l) (data_shown s.extra))

status_shown : (l : List ℕ) → or_nothing status_xml (read_request_status l) ≡ values_xml (read_or [] (one_value (read_request_status l)))
status_shown l = go (read_request_status l) refl ∙ one_shown (read_request_status l)
  where
    go : (o : Option Value) → read_request_status l ≡ o → or_nothing status_xml o ≡ or_nothing value_xml o
    go None e = refl
    go (Some v) e = status_is v (request_status_accepted l v e)

small_text : lower (type_name TEXT) ≡ ascii "text"
unfolding octets_compute
small_text = refl

text_shown : (s : List ℕ) → element_of (ascii "text") (escaped s) ≡ value_xml (text s)
unfolding value_xml value_characters
text_shown s = ap (λ (n : List ℕ). element_of n (escaped s)) (sym small_text)

each_text : (ts : List (List ℕ)) → texts_xml ts ≡ values_xml (map text ts)
unfolding texts_xml values_xml
each_text [] = refl
each_text (t ∷ ts) = rw (text_shown t, each_text ts)

texts_shown : (o : Option (List (List ℕ))) → or_nothing texts_xml o ≡ values_xml (read_or [] (option_map (map text) o))
unfolding read_or values_xml
texts_shown None = refl
texts_shown (Some ts) = each_text ts

pieces_shown : (t : ValueType) (ps : List (List ℕ)) → is_read (read_each (read_value ical t) ps) ≡ true → pieces_xml t ps ≡ values_xml (read_or [] (read_each (read_value ical t) ps))
unfolding read_each pieces_xml values_xml read_or and_then cons_read is_read
pieces_shown t [] h = refl
pieces_shown t (p ∷ ps) h = go (read_value ical t p) (read_each (read_value ical t) ps) h (pieces_shown t ps)
  where
    go : (o : Option Value) (q : Option (List Value)) → is_read (and_then o (λ v. cons_read v q)) ≡ true → (is_read q ≡ true → pieces_xml t ps ≡ values_xml (read_or [] q)) →
        or_nothing value_xml o ⊕ pieces_xml t ps ≡ values_xml (read_or [] (and_then o (λ v. cons_read v q)))
    go None q k ih = absurd (false≢true k)
    go (Some v) None k ih = absurd (false≢true k)
    go (Some v) (Some vs) k ih = rw (ih refl)

listed_shown : (t : ℕ) (l : List ℕ) → is_read (read_listed (type_at t) l) ≡ true → listed_xml t l ≡ values_xml (read_or [] (read_listed (type_at t) l))
unfolding pick
listed_shown t l = rw (type_text t) (go (eqb t 10))
  where
    go : (b : Bool) → is_read (pick b (option_map (map text) (read_texts l)) (read_each (read_value ical (type_at t)) (cut_at 44 l))) ≡ true →
        pick b (or_nothing texts_xml (read_texts l)) (pieces_xml (type_at t) (cut_at 44 l))
        ≡ values_xml (read_or [] (pick b (option_map (map text) (read_texts l)) (read_each (read_value ical (type_at t)) (cut_at 44 l))))
    go true k = texts_shown (read_texts l)
    go false k = pieces_shown (type_at t) (cut_at 44 l) k

single_shown : (o : Option (List (List ℕ))) (t : ValueType) (l : List ℕ) → is_read (one_value (read_chosen o t l)) ≡ true →
    pick (is_read o) (value_xml (text (upper l))) (or_nothing value_xml (read_value ical t l)) ≡ values_xml (read_or [] (one_value (read_chosen o t l)))
unfolding pick is_read
single_shown None t l h = one_shown (read_value ical t l)
single_shown (Some ws) t l h = go (is_one_of (upper l) ws) h
  where
    go : (b : Bool) → is_read (one_value (provided b (text (upper l)))) ≡ true → value_xml (text (upper l)) ≡ values_xml (read_or [] (one_value (provided b (text (upper l)))))
    go true k = one_shown (Some (text (upper l)))
    go false k = absurd (false≢true k)

-- ---- what is written is what is read

own_shown : (k : ℕ) (row : Row) (t : ℕ) (l : List ℕ) → is_read (own_at k row (type_at t) l) ≡ true → shown_xml k row t l ≡ values_xml (read_or [] (own_at k row (type_at t) l))
unfolding pick
own_shown k row t l = go (eqb row.number property.GEO) (eqb row.number property.REQUEST-STATUS) row.listed
  where
    go : (a b c : Bool) →
        is_read (pick a (one_value (read_geo l)) (pick b (one_value (read_request_status l)) (pick c (read_listed (type_at t) l) (one_value (read_chosen (words_at k row.number) (type_at t) l))))) ≡ true →
        pick a (or_nothing value_xml (read_geo l)) (pick b (or_nothing status_xml (read_request_status l)) (pick c (listed_xml t l) (single_xml k row t l)))
        ≡ values_xml (read_or [] (pick a (one_value (read_geo l)) (pick b (one_value (read_request_status l)) (pick c (read_listed (type_at t) l) (one_value (read_chosen (words_at k row.number) (type_at t) l))))))
    go true b c h = one_shown (read_geo l)
    go false true c h = status_shown l
    go false false true h = listed_shown t l h
    go false false false h = single_shown (words_at k row.number) (type_at t) l h

at_shown : (k : ℕ) (row : Row) (t : ℕ) (l : List ℕ) → is_read (values_at k row (type_at t) l) ≡ true → shown_xml k row t l ≡ values_xml (read_or [] (values_at k row (type_at t) l))
unfolding pick is_read
at_shown k row t l = go (permits_type row (type_place (type_at t)))
  where
    go : (b : Bool) → is_read (pick b (own_at k row (type_at t) l) None) ≡ true → shown_xml k row t l ≡ values_xml (read_or [] (pick b (own_at k row (type_at t) l) None))
    go true h = own_shown k row t l h
    go false h = absurd (false≢true h)

pub values_shown : (c w : List ℕ) (t : ℕ) (l : List ℕ) → is_read (read_values c w (type_at t) l) ≡ true →
    shown_xml (place_of c component_names) (row_at (place_of w property_names)) t l ≡ values_xml (read_or [] (read_values c w (type_at t) l))
values_shown c w t l h =
    at_shown (place_of c component_names) (row_at (place_of w property_names)) t l (ap is_read (sym (values_at_lem c w (type_at t) l)) ∙ h)
    ∙ ap (λ (o : Option (List Value)). values_xml (read_or [] o)) (sym (values_at_lem c w (type_at t) l))

-- ---- for the code

-- the answer r of reading: whether the values of the component of this number and the property of this row can be read
abbrev pub ValuesAsked : ℕ → Row → ℕ → ℕ → List ℕ → ℕ → Option ℕ → Type 0
ValuesAsked k row t m s at r = r ≡ values_read t (good_at k row t (rest m s at))

-- the numbers of the component and the type are a, u, and r is what reading answered

good_yes : (t : ℕ) {n : ℕ} (b : Bool) → Some n ≡ values_read t b → b ≡ true
good_yes t true h = refl
good_yes t false h = let z : ◌≡◌ {A = ℕ} 0 1 = cc in absurd (omega arith)

bad_no : (t : ℕ) (b : Bool) → None ≡ values_read t b → b ≡ false
bad_no t true h = let z : ◌≡◌ {A = ℕ} 0 1 = cc in absurd (omega arith)
bad_no t false h = refl

module _ {a u : ℕ} (k : ℕ) (row : Row) (t m : ℕ) (s : List ℕ) (c : ℕ) {r : Option ℕ} (f : a ≡ place_of (component_name k) component_names) (h : (type_at u ≡ type_at t) × (u ≤ 14))
    (q : ValuesAsked a row u m s c r) (w : List ℕ) (g : row ≡ row_at (place_of w property_names)) where
  asked : r ≡ values_read u (is_read (read_values (component_name k) w (type_at t) (rest m s c)))
  asked = values_named a row u (rest m s c) q (component_name k) w f g h.1 ∙ ap (λ (x : ValueType). values_read u (is_read (read_values (component_name k) w x (rest m s c)))) h.0

  pub put_shown : {d e : List ℕ} {at o : ℕ} (n : ℕ) → r ≡ Some n → Put d e at o (shown_xml a row u (rest m s c)) → Put d e at o (values_xml (read_or [] (read_values (component_name k) w (type_at t) (rest m s c))))
  put_shown n z x =
      let y : is_read (read_values (component_name k) w (type_at t) (rest m s c)) ≡ true = good_yes u (is_read (read_values (component_name k) w (type_at t) (rest m s c))) (sym z ∙ asked) in
      let v = values_shown (component_name k) w u (rest m s c) (ap (λ (v : ValueType). is_read (read_values (component_name k) w v (rest m s c))) h.0 ∙ y) in
      rw (← h.0, ← v, ← f, ← g) x

  pub put_no_values : {d : List ℕ} {at : ℕ} → r ≡ None → length d * 1 < 2 ^ 63 → Put d d at at (values_xml (read_or [] (read_values (component_name k) w (type_at t) (rest m s c))))
  unfolding is_read read_or values_xml
  put_no_values {d} {at} z y = go (read_values (component_name k) w (type_at t) (rest m s c)) (bad_no u (is_read (read_values (component_name k) w (type_at t) (rest m s c))) (sym z ∙ asked))
    where
      go : (o : Option (List Value)) → is_read o ≡ false → Put d d at at (values_xml (read_or [] o))
      go None e = put_none d at y
      go (Some v) e = absurd (false≢true (sym e))
