-- Laws of what specs/Shown.antt defines.
--     values_shown           that it is what is written of the values that are read
--     put_values, put_no_values    for the code
use Rattle.std.specs.Prelude.{◌≡◌, refl, Bool, true, ℕ, ◌≤◌, eqb, Option, None, Some, option_map}
use Rattle.std.proofs.Common.{sym, ap, ◌∙◌, arith}
use Rattle.std.proofs.Math.Path.{subst}
use Rattle.std.proofs.Math.Bool.{false}
use Rattle.std.proofs.lemmas.Bool.{false≢true}
use mathlib.Core.List.{List, [], ◌∷◌, map}
use Rattle.octets.specs.Ascii.{ascii}
use Rattle.octets.specs.Pick.{pick}
use Rattle.octets.specs.laws.Pick.{and_both}
use Rattle.octets.specs.Append.{◌⊕◌}
use Rattle.octets.specs.laws.Append.{append_none}
use Rattle.octets.specs.Class.{upper}
use Rattle.octets.specs.Words.{is_one_of, is_empty, cut_at, each_after, joined_by}
use Rattle.octets.specs.Reading.{provided, is_read, read_or, read_each, or_nothing}
use Rattle.octets.specs.laws.Reading.{none-some, and_then-some, read_some}
use Rattle.names.specs.Table.{place_of}
use Rattle.calendar.specs.Calendar.{ical, ValueType, Value, text, request_status}
use Rattle.sink.specs.Sink.{Put}
use Rattle.source.specs.Source.{rest}
use Rattle.schema.specs.Types.{type_place}
use Rattle.schema.specs.Components.{component_names}
use Rattle.schema.specs.Properties.{property_names, is_listed_property}
use Rattle.schema.specs.Numbers.{type_at, component_name}
use Rattle.schema.specs.Coded.{row_at}
use Rattle.schema.specs.Columns.{permits_type}
use Rattle.schema.specs.declared.table.Row.{Row}
use Rattle.schema.specs.Sets.{words_at}
use Rattle.schema.specs.Property as property
use Rattle.numbers.specs.Geo.{read_geo}
use Rattle.texts.specs.Text.{split_text}
use Rattle.texts.specs.TextList.{read_texts}
use Rattle.texts.specs.RequestStatus.{status_of, read_request_status}
use Rattle.values.specs.ReadValue.{read_value}
use Rattle.values.specs.WriteValue.{value_characters}
use Rattle.values.specs.Valid.{is_amount, are_values_of}
use Rattle.text.specs.Values.{one_value, read_listed, read_chosen, read_values}
use Rattle.text.proofs.laws.AcceptedValues.{values_accepted}
use Rattle.json_text.specs.Bytes.{value_separator}
use Rattle.json_text.specs.Write.{quoted}
use Rattle.jcal.specs.WriteJcal.{value_json}
use Rattle.write_jcal_value.specs.Texts.{strings_of}
use Rattle.write_jcal_value.specs.Labels.{type_label}
use Rattle.write_jcal_value.specs.laws.Each.{each_written}
use Rattle.write_jcal_property.specs.Pieces.{piece_json, pieces_json, listed_json, status_json}
use Rattle.write_jcal_property.specs.Shown.{single_json, shown_json, typed_shown, typed_json}
use Rattle.write_jcal_property.specs.laws.Placed.{own_at, values_at, values_at_lem, type_text}
use Rattle.read_text_property.specs.ValuesAt.{values_read, good_at}
use Rattle.read_text_property.specs.laws.ValuesAt.{values_named}

-- ---- what each kind of value is written as

abbrev joined_json : List Value → List ℕ
joined_json vs = joined_by value_separator (map value_json vs)

one_shown : (o : Option Value) → is_read (one_value o) ≡ true → or_nothing value_json o ≡ joined_json (read_or [] (one_value o))
unfolding read_or joined_by each_after is_read
one_shown None h = absurd (false≢true h)
one_shown (Some v) h = sym (append_none (value_json v))

text_json : (s : List ℕ) → quoted s ≡ value_json (text s)
unfolding value_json value_characters
text_json s = refl

status_is : (ps : List (List ℕ)) (v : Value) → status_of ps ≡ Some v → ascii "[" ⊕ strings_of ps ⊕ ascii "]" ≡ value_json v
unfolding value_json
status_is [] v h = none-some h
status_is (c ∷ []) v h = none-some h
status_is (c ∷ d ∷ []) v h = let z : request_status c d None ≡ v = cc in rw (← z)
status_is (c ∷ d ∷ x ∷ []) v h = let z : request_status c d (Some x) ≡ v = cc in rw (← z)
status_is (c ∷ d ∷ x ∷ y ∷ ps) v h = none-some h

status_shown : (l : List ℕ) → is_read (one_value (read_request_status l)) ≡ true → status_json l ≡ joined_json (read_or [] (one_value (read_request_status l)))
unfolding is_read
status_shown l h = go (read_request_status l) refl h ∙ one_shown (read_request_status l) h
  where
    go : (o : Option Value) → read_request_status l ≡ o → is_read (one_value o) ≡ true → status_json l ≡ or_nothing value_json o
    go None e k = absurd (false≢true k)
    go (Some v) e k = let q = and_then-some (split_text 59 l) status_of v e in rw q.1 (status_is q.0 v q.2)

each_text : (ts : List (List ℕ)) → map quoted ts ≡ map value_json (map text ts)
each_text [] = refl
each_text (t ∷ ts) = rw (text_json t, each_text ts)

texts_shown : (o : Option (List (List ℕ))) → is_read (option_map (map text) o) ≡ true → or_nothing strings_of o ≡ joined_json (read_or [] (option_map (map text) o))
unfolding read_or is_read
texts_shown None h = absurd (false≢true h)
texts_shown (Some ts) h = ap (joined_by value_separator) (each_text ts)

each_piece : (t : ValueType) (ps : List (List ℕ)) (vs : List Value) → read_each (read_value ical t) ps ≡ Some vs → map (piece_json t) ps ≡ map value_json vs
each_piece t ps vs h = each_written (read_value ical t) (piece_json t) value_json (λ p v e. ap (or_nothing value_json) e) ps vs h

pieces_shown : (t : ValueType) (ps : List (List ℕ)) → is_read (read_each (read_value ical t) ps) ≡ true → pieces_json t ps ≡ joined_json (read_or [] (read_each (read_value ical t) ps))
unfolding pieces_json read_or
pieces_shown t ps h = let r = read_some (read_each (read_value ical t) ps) h in rw r.1 (ap (joined_by value_separator) (each_piece t ps r.0 r.1))

listed_shown : (t : ℕ) (l : List ℕ) → is_read (read_listed (type_at t) l) ≡ true → listed_json t l ≡ joined_json (read_or [] (read_listed (type_at t) l))
unfolding pick
listed_shown t l = rw (type_text t) (go (eqb t 10))
  where
    go : (b : Bool) → is_read (pick b (option_map (map text) (read_texts l)) (read_each (read_value ical (type_at t)) (cut_at 44 l))) ≡ true →
        pick b (or_nothing strings_of (read_texts l)) (pieces_json (type_at t) (cut_at 44 l))
        ≡ joined_json (read_or [] (pick b (option_map (map text) (read_texts l)) (read_each (read_value ical (type_at t)) (cut_at 44 l))))
    go true k = texts_shown (read_texts l) k
    go false k = pieces_shown (type_at t) (cut_at 44 l) k

single_shown : (o : Option (List (List ℕ))) (t : ValueType) (l : List ℕ) → is_read (one_value (read_chosen o t l)) ≡ true →
    pick (is_read o) (quoted (upper l)) (or_nothing value_json (read_value ical t l)) ≡ joined_json (read_or [] (one_value (read_chosen o t l)))
unfolding pick is_read
single_shown None t l h = one_shown (read_value ical t l) h
single_shown (Some ws) t l h = go (is_one_of (upper l) ws) h
  where
    go : (b : Bool) → is_read (one_value (provided b (text (upper l)))) ≡ true → quoted (upper l) ≡ joined_json (read_or [] (one_value (provided b (text (upper l)))))
    go true k = text_json (upper l) ∙ one_shown (Some (text (upper l))) refl
    go false k = absurd (false≢true k)

-- ---- what is written is what is read

own_shown : (k : ℕ) (row : Row) (t : ℕ) (l : List ℕ) → is_read (own_at k row (type_at t) l) ≡ true → shown_json k row t l ≡ joined_json (read_or [] (own_at k row (type_at t) l))
unfolding pick
own_shown k row t l = go (eqb row.number property.GEO) (eqb row.number property.REQUEST-STATUS) row.listed
  where
    go : (a b c : Bool) →
        is_read (pick a (one_value (read_geo l)) (pick b (one_value (read_request_status l)) (pick c (read_listed (type_at t) l) (one_value (read_chosen (words_at k row.number) (type_at t) l))))) ≡ true →
        pick a (or_nothing value_json (read_geo l)) (pick b (status_json l) (pick c (listed_json t l) (single_json k row t l)))
        ≡ joined_json (read_or [] (pick a (one_value (read_geo l)) (pick b (one_value (read_request_status l)) (pick c (read_listed (type_at t) l) (one_value (read_chosen (words_at k row.number) (type_at t) l))))))
    go true b c h = one_shown (read_geo l) h
    go false true c h = status_shown l h
    go false false true h = listed_shown t l h
    go false false false h = single_shown (words_at k row.number) (type_at t) l h

at_shown : (k : ℕ) (row : Row) (t : ℕ) (l : List ℕ) → is_read (values_at k row (type_at t) l) ≡ true → shown_json k row t l ≡ joined_json (read_or [] (values_at k row (type_at t) l))
unfolding pick is_read
at_shown k row t l = go (permits_type row (type_place (type_at t)))
  where
    go : (b : Bool) → is_read (pick b (own_at k row (type_at t) l) None) ≡ true → shown_json k row t l ≡ joined_json (read_or [] (pick b (own_at k row (type_at t) l) None))
    go true h = own_shown k row t l h
    go false h = absurd (false≢true h)

values_shown : (c w : List ℕ) (t : ℕ) (l : List ℕ) → is_read (read_values c w (type_at t) l) ≡ true →
    shown_json (place_of c component_names) (row_at (place_of w property_names)) t l ≡ joined_json (read_or [] (read_values c w (type_at t) l))
values_shown c w t l h =
    at_shown (place_of c component_names) (row_at (place_of w property_names)) t l (ap is_read (sym (values_at_lem c w (type_at t) l)) ∙ h)
    ∙ ap (λ (o : Option (List Value)). joined_json (read_or [] o)) (sym (values_at_lem c w (type_at t) l))

-- ---- the type and the values

after_comma : (vs : List Value) → is_empty vs ≡ false → ascii "," ⊕ joined_json vs ≡ each_after value_separator (map value_json vs)
unfolding joined_by each_after ◌⊕◌
after_comma [] h = absurd (false≢true (sym h))
after_comma (v ∷ vs) h = refl

some_amount : (l : Bool) (vs : List Value) → is_amount l vs ≡ true → is_empty vs ≡ false
some_amount l [] h = absurd (false≢true h)
some_amount l (v ∷ vs) h = refl

typed_shown_lem : (c w : List ℕ) (t : ℕ) (l : List ℕ) → is_read (read_values c w (type_at t) l) ≡ true →
    typed_shown (place_of c component_names) (row_at (place_of w property_names)) t l ≡ typed_json (read_or [] (read_values c w (type_at t) l))
unfolding read_or typed_json joined_by are_values_of
typed_shown_lem c w t l h =
    let r = read_some (read_values c w (type_at t) l) h in
    let vs = r.0 in
    let a = values_accepted c w (type_at t) l vs r.1 in
    let e = some_amount (is_listed_property w) vs (and_both (is_amount (is_listed_property w) vs) _ (and_both _ _ a.0).1).0 in
    rw (values_shown c w t l h, r.1, a.1, after_comma vs e)

-- ---- for the code

-- the answer r of reading: whether the values of the component of this number and the property of this row can be read
abbrev pub ValuesAsked : ℕ → Row → ℕ → ℕ → List ℕ → ℕ → Option ℕ → Type 0
ValuesAsked k row t m s at r = r ≡ values_read t (good_at k row t (rest m s at))

good_yes : (t : ℕ) {n : ℕ} (b : Bool) → Some n ≡ values_read t b → b ≡ true
good_yes t true h = refl
good_yes t false h = let z : ◌≡◌ {A = ℕ} 0 1 = cc in absurd (omega arith)

bad_no : (t : ℕ) (b : Bool) → None ≡ values_read t b → b ≡ false
bad_no t true h = let z : ◌≡◌ {A = ℕ} 0 1 = cc in absurd (omega arith)
bad_no t false h = refl

-- the numbers of the component and the type are a, u, and r is what reading answered
module _ {a u : ℕ} (k : ℕ) (row : Row) (t m : ℕ) (s : List ℕ) (c : ℕ) {r : Option ℕ} (f : a ≡ place_of (component_name k) component_names) (h : (type_at u ≡ type_at t) × (u ≤ 14))
    (q : ValuesAsked a row u m s c r) (w : List ℕ) (g : row ≡ row_at (place_of w property_names)) where
  asked : r ≡ values_read u (is_read (read_values (component_name k) w (type_at t) (rest m s c)))
  asked = values_named a row u (rest m s c) q (component_name k) w f g h.1 ∙ ap (λ (x : ValueType). values_read u (is_read (read_values (component_name k) w x (rest m s c)))) h.0

  pub put_values : {d e : List ℕ} {at o : ℕ} (n : ℕ) → r ≡ Some n → Put d e at o (typed_shown a row u (rest m s c)) → Put d e at o (typed_json (read_or [] (read_values (component_name k) w (type_at t) (rest m s c))))
  put_values n z x =
      let y : is_read (read_values (component_name k) w (type_at t) (rest m s c)) ≡ true = good_yes u (is_read (read_values (component_name k) w (type_at t) (rest m s c))) (sym z ∙ asked) in
      let v = typed_shown_lem (component_name k) w u (rest m s c) (ap (λ (v : ValueType). is_read (read_values (component_name k) w v (rest m s c))) h.0 ∙ y) in
      rw (← h.0, ← v, ← f, ← g) x

  pub put_no_values : {d e : List ℕ} {at o : ℕ} → r ≡ None → Put d e at o (type_label 14) → Put d e at o (typed_json (read_or [] (read_values (component_name k) w (type_at t) (rest m s c))))
  unfolding is_read read_or typed_json joined_by each_after
  put_no_values {d} {e} {at} {o} z x = go (read_values (component_name k) w (type_at t) (rest m s c)) (bad_no u (is_read (read_values (component_name k) w (type_at t) (rest m s c))) (sym z ∙ asked))
    where
      go : (v : Option (List Value)) → is_read v ≡ false → Put d e at o (typed_json (read_or [] v))
      go None y = subst (Put d e at o) (sym (append_none (type_label 14))) x
      go (Some v) y = absurd (false≢true (sym y))
