-- GEO and REQUEST-STATUS from their arrays, written as text (RFC 7265, section 3.4.1).
--     coordinate_put, geo_put, status_put      from what was put;   geo_typed, status_typed: their types
--     number_some, put_some                    what is read of a number, and what is written of what is read
use Rattle.std.specs.Prelude.{◌≡◌, refl, List, [], ◌∷◌, map, ℕ, suc, Option, None, Some}
use Rattle.std.proofs.Common.{sym, ap, subst, ◌∙◌}
use Rattle.octets.specs.Ascii.{ascii}
use Rattle.octets.specs.Append.{◌⊕◌}
use Rattle.octets.specs.Words.{joined_by}
use Rattle.octets.specs.Reading.{and_then, read_each, or_nothing}
use Rattle.octets.specs.laws.Reading.{none-some, and_then-some}
use Rattle.calendar.specs.Calendar.{FLOAT, TEXT, Decimal, Value, geo, type_of}
use Rattle.sink.specs.Sink.{Put}
use Rattle.sink.specs.laws.Sink.{◌▷◌}
use Rattle.numbers.specs.Float.{read_float, write_float}
use Rattle.texts.specs.Text.{write_text}
use Rattle.values.specs.WriteValue.{write_value}
use Rattle.json_text.specs.Tree.{Json, Elements, no_elements, element, first_of, element_list}
use Rattle.json_text.specs.Kinds.{as_string, as_number}
use Rattle.jcal.specs.Values.{read_geo, read_status}
use Rattle.read_json.specs.TreeAt.{elements_at, string_at, word_at}
use Rattle.read_json.specs.Heads.{value_by, value_of_head, HeadAt}
use Rattle.read_json.specs.declared.Head.{Head}
use Rattle.read_json.specs.declared.HeadKind.{HeadKind}
use Rattle.read_json.specs.declared.HeadKind.TheVariants.{Absent, String, Number, Literal, Array, Object}
use Rattle.write_text_jcal_values.specs.Elements.{list_at, without}
use Rattle.write_text_jcal_values.specs.laws.Elements.{head_first}
use Rattle.write_text_jcal_values.specs.laws.Joining.{same_some}

-- ---- GEO

-- what is read of a number, is read of its bytes
pub number_some : {A : Type 0} (f : List ℕ → Option A) (k : HeadKind) (s : List ℕ) (p n : ℕ) (a : A) → and_then (as_number (value_by k s p n)) f ≡ Some a → f (word_at s p n) ≡ Some a
unfolding and_then
number_some f Absent s p n a h = none-some h
number_some f String s p n a h = none-some h
number_some f Number s p n a h = h
number_some f Literal s p n a h = none-some h
number_some f Array s p n a h = none-some h
number_some f Object s p n a h = none-some h

-- the characters of a string
pub string_chars : (k : HeadKind) (s : List ℕ) (p n : ℕ) (l : List ℕ) → as_string (value_by k s p n) ≡ Some l → l ≡ string_at s p
string_chars Absent s p n l h = none-some h
string_chars String s p n l h = sym (same_some h)
string_chars Number s p n l h = none-some h
string_chars Literal s p n l h = none-some h
string_chars Array s p n l h = none-some h
string_chars Object s p n l h = none-some h

-- what was written of something that may be read, where it is read
pub put_some : {A : Type 0} {d e : List ℕ} {o r : ℕ} (w : A → List ℕ) {x : Option A} {a : A} → x ≡ Some a → Put d e o r (or_nothing w x) → Put d e o r (w a)
put_some {d = d} {e} {o} {r} w h p = subst (λ y. Put d e o r (or_nothing w y)) h p

pub coordinate_put : {s : List ℕ} {at : ℕ} {h : Head} → HeadAt s at h → {d e : List ℕ} {o r : ℕ} → Put d e o r (or_nothing write_float (read_float (word_at s h.place h.next))) →
    (a : Decimal) → and_then (as_number (first_of (elements_at s at))) read_float ≡ Some a → Put d e o r (write_float a)
coordinate_put {s} {at} {h} t p a i =
    put_some write_float (number_some read_float h.kind s h.place h.next a (ap (λ (v : Json). and_then (as_number v) read_float) (head_first t) ∙ i)) p

geo_parts : (es : Elements) (v : Value) → read_geo (element_list es) ≡ Some v →
    (a : Decimal) × (b : Decimal) × (and_then (as_number (first_of es)) read_float ≡ Some a) × (and_then (as_number (first_of (without 1 es))) read_float ≡ Some b) × (v ≡ geo a b)
unfolding element_list without
geo_parts no_elements v h = none-some h
geo_parts (element la no_elements) v h = none-some h
geo_parts (element la (element lo no_elements)) v h =
    let e = and_then-some (and_then (as_number la) read_float) (λ a. and_then (and_then (as_number lo) read_float) (λ o. Some (geo a o))) v h in
    let g = and_then-some (and_then (as_number lo) read_float) (λ o. Some (geo e.0 o)) v e.2 in
    (e.0, g.0, e.1, g.1, sym (same_some g.2))
geo_parts (element la (element lo (element x xs))) v h = none-some h

pub geo_put : (s : List ℕ) (inside second : ℕ) → elements_at s second ≡ without 1 (elements_at s inside) → {d e f g : List ℕ} {o a b r : ℕ} →
    ((x : Decimal) → and_then (as_number (first_of (elements_at s inside))) read_float ≡ Some x → Put d e o a (write_float x)) → Put e f a b (ascii ";") →
    ((x : Decimal) → and_then (as_number (first_of (elements_at s second))) read_float ≡ Some x → Put f g b r (write_float x)) →
    (v : Value) → read_geo (list_at s inside) ≡ Some v → Put d g o r (write_value v)
unfolding write_value ◌⊕◌
geo_put s inside second i {d} {g = g} {o} {r = r} p q t v h =
    let z = geo_parts (elements_at s inside) v h in
    subst (λ (x : Value). Put d g o r (write_value x)) (sym z.4)
    (p z.0 z.2 ▷ q ▷ t z.1 (ap (λ (es : Elements). and_then (as_number (first_of es)) read_float) i ∙ z.3))

pub geo_typed : (vs : List Json) (v : Value) → read_geo vs ≡ Some v → type_of v ≡ FLOAT
geo_typed [] v h = none-some h
geo_typed (la ∷ []) v h = none-some h
geo_typed (la ∷ lo ∷ []) v h =
    let e = and_then-some (and_then (as_number la) read_float) (λ a. and_then (and_then (as_number lo) read_float) (λ o. Some (geo a o))) v h in
    let g = and_then-some (and_then (as_number lo) read_float) (λ o. Some (geo e.0 o)) v e.2 in
    ap type_of (sym (same_some g.2))
geo_typed (la ∷ lo ∷ x ∷ xs) v h = none-some h

-- ---- REQUEST-STATUS

pub status_typed : (ls : List (List ℕ)) (v : Value) → read_status ls ≡ Some v → type_of v ≡ TEXT
status_typed [] v h = none-some h
status_typed (c ∷ []) v h = none-some h
status_typed (c ∷ x ∷ []) v h = ap type_of (sym (same_some h))
status_typed (c ∷ x ∷ y ∷ []) v h = ap type_of (sym (same_some h))
status_typed (c ∷ x ∷ y ∷ l ∷ ls) v h = none-some h

pub text_put : (s : List ℕ) (h : Head) {d e : List ℕ} {o r : ℕ} → Put d e o r (write_text (string_at s h.place)) → (l : List ℕ) → as_string (value_of_head s h) ≡ Some l → Put d e o r (write_text l)
text_put s h {d} {e} {o} {r} p l k = subst (λ (x : List ℕ). Put d e o r (write_text x)) (sym (string_chars h.kind s h.place h.next l k)) p

status_written : (ls : List (List ℕ)) (v : Value) → read_status ls ≡ Some v → write_value v ≡ joined_by 59 (map write_text ls)
unfolding write_value
status_written [] v h = none-some h
status_written (c ∷ []) v h = none-some h
status_written (c ∷ x ∷ []) v h = rw (← (same_some h))
status_written (c ∷ x ∷ y ∷ []) v h = rw (← (same_some h))
status_written (c ∷ x ∷ y ∷ l ∷ ls) v h = none-some h

pub status_put : (s : List ℕ) (inside : ℕ) {d e : List ℕ} {o r : ℕ} →
    ((ls : List (List ℕ)) → read_each as_string (list_at s inside) ≡ Some ls → Put d e o r (joined_by 59 (map write_text ls))) →
    (v : Value) → and_then (read_each as_string (list_at s inside)) read_status ≡ Some v → Put d e o r (write_value v)
status_put s inside {d} {e} {o} {r} p v h =
    let z = and_then-some (read_each as_string (list_at s inside)) read_status v h in
    subst (Put d e o r) (sym (status_written z.0 v z.2)) (p z.0 z.1)
