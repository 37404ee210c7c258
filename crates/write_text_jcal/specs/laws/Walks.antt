-- Laws of what specs/Walks.antt defines.
--     Walking          the invariant of a walk that writes: what is left to write from the element at hand on
--     own_..           of properties;   inner_..: of components
--     head_put, tail_put, name_folded    from what was put
use Rattle.std.specs.Prelude.{◌≡◌, Bool, true, false, ℕ, zero, suc, ◌+◌, ◌-◌, ◌*◌, ◌^◌, ◌≤◌, ◌<◌, take, Option, None}
use Rattle.std.proofs.Math.Path.{refl, ap}
use Rattle.std.proofs.Common.{sym, subst, ◌∙◌, lt-ltb}
use mathlib.Core.List.{List, [], ◌∷◌, map}
use native.Mathlib.Omega.{arith}
use Rattle.std.proofs.Math.ListN.{length}
use Rattle.octets.specs.Pick.{pick}
use Rattle.octets.specs.Ascii.{ascii}
use Rattle.octets.specs.Append.{◌⊕◌}
use Rattle.octets.specs.laws.Append.{append_is, append_regroup, length_both}
use Rattle.octets.specs.Class.{upper}
use Rattle.octets.specs.laws.Letters.{upper-length}
use Rattle.octets.specs.Lists.{every}
use Rattle.octets.specs.laws.Lists.{every_both}
use Rattle.octets.specs.Words.{same}
use Rattle.octets.specs.Reading.{and_then, read_or, read_each}
use Rattle.source.specs.Source.{rest}
use Rattle.sink.specs.Sink.{overwrite, Put, Todo}
use Rattle.sink.specs.laws.Sink.{put_none, put_length, ◌▷◌, todo_all, todo_step, todo_done}
use Rattle.calendar.specs.Calendar.{ValueType, Value, Property, Components, no_more, component}
use Rattle.calendar.specs.Levels.{shallow}
use Rattle.names.specs.Table.{place_of}
use Rattle.names.specs.laws.Table.{place_within}
use Rattle.schema.specs.Types.{is_type_of}
use Rattle.schema.specs.Components.{component_names}
use Rattle.schema.specs.Properties.{property_names, permitted_types, property_words}
use Rattle.schema.specs.Numbers.{component_name}
use Rattle.schema.specs.Sets.{words_at}
use Rattle.schema.specs.laws.Sets.{words_place}
use Rattle.folding.specs.Fold.{folded_line}
use Rattle.read_text_line.specs.Decoded.{write_line}
use Rattle.text.specs.WriteText.{content_line_of, property_lines, begin_line, end_line, write_calendar}
use Rattle.json_text.specs.Tree.{Json, string, number, literal, array, object, Elements, no_elements, element, element_list, first_of}
use Rattle.json_text.specs.Kinds.{as_string, as_array}
use Rattle.jcal.specs.Parameters.{read_parameters}
use Rattle.jcal.specs.Property.{member_list, property_name, value_type_of, values_in, property_of}
use Rattle.jcal.specs.Values.{read_chosen, read_geo, read_status, read_values}
use Rattle.jcal.specs.Components.{component_name as jcal_name}
use Rattle.jcal.specs.Components.{property_arrays, read_properties, read_components, read_inside, read_inner, read_array, stream_in}
use Rattle.read_json.specs.TreeAt.{elements_at}
use Rattle.read_json.specs.Heads.{value_of_head, HeadAt, NextAt}
use Rattle.read_json.specs.Kinds.{is_there}
use Rattle.read_json.specs.declared.Head.{Head}
use Rattle.edition.specs.declared.Edition.{Edition}
use Rattle.write_text_pieces.specs.Filled.{properties_room, calendar_room, PutBy}
use Rattle.write_text_pieces.specs.laws.Room.{room_within, room_cut, folded_put}
use Rattle.write_text_jcal_values.specs.Elements.{list_at, without, characters_in}
use Rattle.write_text_jcal_values.specs.laws.Elements.{there_is, there_behind, none_is, head_first, nth_first}
use Rattle.write_text_jcal.specs.laws.Context.{name_is}
use Rattle.write_text_jcal.specs.Content.{line_text}
use Rattle.write_text_jcal.specs.laws.Content.{component_place}
use Rattle.lengths_jcal_text.specs.Fitting.{line_fits, head_fits, fits}
use Rattle.write_text_jcal.specs.laws.Fitting.{line_within, head_parts, fits_parts}
use Rattle.write_text_jcal.specs.Walks.{properties_of, name_of, head_text, head_room}

-- ---- arrays

pub array_list : (v : Json) → read_or [] (as_array v) ≡ element_list (stream_in v)
unfolding read_or element_list
array_list (string p s) = refl
array_list (number p s) = refl
array_list (literal p s) = refl
array_list (array p e vs) = refl
array_list (object p e ms) = refl

pub inside_is : (v : Json) → read_inside v ≡ read_inner (stream_in v) 2
unfolding read_inside read_inner
inside_is (string p s) = refl
inside_is (number p s) = refl
inside_is (literal p s) = refl
inside_is (array p e vs) = refl
inside_is (object p e ms) = refl

array_read : (v : Json) → read_array v ≡ read_components (stream_in v)
unfolding read_array read_components
array_read (string p s) = refl
array_read (number p s) = refl
array_read (literal p s) = refl
array_read (array p e vs) = refl
array_read (object p e ms) = refl

inner_first : (k : ℕ) (es : Elements) → read_inner es k ≡ read_array (first_of (without k es))
unfolding read_inner read_array without
inner_first zero no_elements = refl
inner_first zero (element v vs) = refl
inner_first (suc k) no_elements = refl
inner_first (suc k) (element v vs) = inner_first k vs

pub inner_is : (es : Elements) → read_inner es 2 ≡ read_components (stream_in (first_of (without 2 es)))
inner_is es = inner_first 2 es ∙ array_read (first_of (without 2 es))

name_of_lem : (es : Elements) → name_of es ≡ upper (characters_in es)
name_of_lem es = ap upper (name_is es)

-- the content of an array that stands behind others
pub array_behind : (s : List ℕ) (inside at r k : ℕ) → elements_at s at ≡ without k (elements_at s inside) → elements_at s r ≡ stream_in (first_of (elements_at s at)) → elements_at s r ≡ stream_in (first_of (without k (elements_at s inside)))
array_behind s inside at r k i j = j ∙ ap (λ (es : Elements). stream_in (first_of es)) i

-- ---- properties by the number of their component

values_by : (c e n : List ℕ) (t : ValueType) (vs : List Json) → place_of c component_names ≡ place_of e component_names → read_values c n t vs ≡ read_values e n t vs
unfolding read_values
values_by c e n t vs h =
    ap (λ (ws : Option (List (List ℕ))). pick (is_type_of t (permitted_types n)) (read_each (λ v.
    pick (same n (ascii "GEO")) (and_then (as_array v) read_geo) (pick (same n (ascii "REQUEST-STATUS")) (and_then (as_array v) (λ xs. and_then (read_each as_string xs) read_status)) (read_chosen ws t v))) vs) None)
    (words_place c n ∙ ap (λ (k : ℕ). words_at k (place_of n property_names)) h ∙ sym (words_place e n))

property_by : (c e : List ℕ) (vs : List Json) → place_of c component_names ≡ place_of e component_names → property_of c vs ≡ property_of e vs
unfolding property_of
property_by c e vs h =
    ap (λ (o : Option (List Value)). record { name = property_name vs; parameters = read_or [] (read_parameters (member_list vs)); values = read_or [] o })
    (values_by c e (property_name vs) (value_type_of vs) (values_in vs) h)

properties_by : (c e : List ℕ) (es : Elements) → place_of c component_names ≡ place_of e component_names → properties_of c es ≡ properties_of e es
unfolding element_list
properties_by c e no_elements h = refl
properties_by c e (element v vs) h =
    ap (λ (p : Property). p ∷ properties_of c vs) (property_by c e (read_or [] (as_array v)) h) ∙ ap (λ (ps : List Property). property_of e (read_or [] (as_array v)) ∷ ps) (properties_by c e vs h)

properties_in : (es : Elements) → read_properties (element_list es) ≡ properties_of (name_of es) (stream_in (first_of (without 1 es)))
properties_in es =
    ap (λ (o : Option (List Json)). map (λ v. property_of (name_of es) (read_or [] (as_array v))) (read_or [] o)) (nth_first as_array refl 1 es)
    ∙ ap (map (λ v. property_of (name_of es) (read_or [] (as_array v)))) (array_list (first_of (without 1 es)))

-- the properties of a component, by what was found
module _ (s : List ℕ) (inside from c : ℕ) {k : ℕ} (j : rest 3 s c ≡ characters_in (elements_at s inside)) (q : k ≡ place_of (upper (rest 3 s c)) component_names) where
  pub number_small : k ≤ 9
  number_small = omega (arith, q, place_within (upper (rest 3 s c)) component_names)

  named : name_of (elements_at s inside) ≡ upper (rest 3 s c)
  named = name_of_lem (elements_at s inside) ∙ ap upper (sym j)

  pub properties_are : elements_at s from ≡ stream_in (first_of (without 1 (elements_at s inside))) → read_properties (list_at s inside) ≡ properties_of (component_name k) (elements_at s from)
  properties_are i =
      properties_in (elements_at s inside)
      ∙ ap (properties_of (name_of (elements_at s inside))) (sym i)
      ∙ properties_by (name_of (elements_at s inside)) (component_name k) (elements_at s from) (ap (λ (l : List ℕ). place_of l component_names) named ∙ sym q ∙ sym (component_place k number_small))

-- ---- a word and a name in the room for a line

module _ {d e f w : List ℕ} {a n : ℕ} (l : List ℕ) (u : Put d e 0 a w) (v : Put e f a n (upper l)) (h : length w + length l ≤ length d) where
  name_fits : length (w ⊕ upper l) ≤ length d
  name_fits = omega (arith, length_both w (upper l), upper-length l)

  pub name_within : n ≤ length f
  name_within = room_within (u ▷ v) name_fits

  pub name_cut : n ≡ length (take n f)
  name_cut = room_cut (u ▷ v) name_fits

  pub name_folded : {y z : List ℕ} {o r : ℕ} → Put y z o r (folded_line (take n f)) → PutBy y z o r (folded_line (w ⊕ upper l)) f (overwrite d 0 (w ⊕ upper l))
  name_folded q = folded_put (u ▷ v) name_fits q

-- ---- before and behind the components inside

module _ (ed : Edition) (s : List ℕ) (inside c : ℕ) (j : rest 3 s c ≡ characters_in (elements_at s inside)) where
  module _ (n : ℕ) (h : head_fits ed n (name_of (elements_at s inside)) (read_properties (list_at s inside)) ≡ true) where
    pub head_name : 6 + length (rest 3 s c) ≤ n
    head_name =
        let e = head_parts ed n (name_of (elements_at s inside)) (read_properties (list_at s inside)) h in
        omega (arith, e.0, ap length (name_of_lem (elements_at s inside) ∙ ap upper (sym j)), upper-length (rest 3 s c))

    pub head_lines : (from : ℕ) {k : ℕ} → k ≡ place_of (upper (rest 3 s c)) component_names → elements_at s from ≡ stream_in (first_of (without 1 (elements_at s inside))) → {m : ℕ} → m ≡ n →
        every (line_fits ed m) (properties_of (component_name k) (elements_at s from)) ≡ true
    head_lines from {k} q i {m} z =
        let e = head_parts ed n (name_of (elements_at s inside)) (read_properties (list_at s inside)) h in
        rw z (subst (λ (ps : List Property). every (line_fits ed n) ps ≡ true) (properties_are s inside from c j q i) e.1)

  pub head_put : (from : ℕ) {k : ℕ} → k ≡ place_of (upper (rest 3 s c)) component_names → elements_at s from ≡ stream_in (first_of (without 1 (elements_at s inside))) →
      {d e f x y : List ℕ} {o a r : ℕ} (z : List ℕ) → PutBy d e o a (folded_line (ascii "BEGIN:" ⊕ upper (rest 3 s c))) x (overwrite z 0 (ascii "BEGIN:" ⊕ upper (rest 3 s c))) →
      PutBy e f a r (property_lines ed (properties_of (component_name k) (elements_at s from))) y (properties_room ed (properties_of (component_name k) (elements_at s from)) x) →
      PutBy d f o r (head_text ed (elements_at s inside)) y (head_room ed (elements_at s inside) z)
  unfolding head_text head_room
  head_put from {k} q i z u v =
      rw (properties_are s inside from c j q i, name_of_lem (elements_at s inside), ← j) (record { put = u.put ▷ v.put; room = v.room ∙ ap (properties_room ed (properties_of (component_name k) (elements_at s from))) u.room })

module _ (s : List ℕ) (inside c : ℕ) (j : rest 3 s c ≡ characters_in (elements_at s inside)) where
  pub tail_name : {n : ℕ} → 6 + length (name_of (elements_at s inside)) ≤ n → 4 + length (rest 3 s c) ≤ n
  tail_name h = omega (arith, h, ap length (name_of_lem (elements_at s inside) ∙ ap upper (sym j)), upper-length (rest 3 s c))

  pub tail_put : {d e x : List ℕ} {o r : ℕ} (z : List ℕ) → PutBy d e o r (folded_line (ascii "END:" ⊕ upper (rest 3 s c))) x (overwrite z 0 (ascii "END:" ⊕ upper (rest 3 s c))) →
      PutBy d e o r (end_line (name_of (elements_at s inside))) x (overwrite z 0 (ascii "END:" ⊕ name_of (elements_at s inside)))
  tail_put z u = rw (name_of_lem (elements_at s inside), ← j) u

-- ---- a walk that writes

-- T is written of elements, R is what the room for a line then holds, F says that the lines fit. It began at the element at `from` with d, o and the room k,
-- and has come with e, p and the room l to the one at `at`
pub record Walking (T : Elements → List ℕ) (R : Elements → List ℕ → List ℕ) (F : Elements → Bool) (s : List ℕ) (from : ℕ) (d : List ℕ) (o : ℕ) (k : List ℕ) (e : List ℕ) (p : ℕ) (l : List ℕ) (at : ℕ) : Type 0 where
  pub todo : Todo d o (T (elements_at s from)) e p (T (elements_at s at))
  pub kept : length e ≡ length d
  pub room : length l ≡ length k
  pub left : R (elements_at s from) k ≡ R (elements_at s at) l
  pub fitting : F (elements_at s at) ≡ true

module _ (T : Elements → List ℕ) (R : Elements → List ℕ → List ℕ) (F : Elements → Bool) where
  walk_start : (s : List ℕ) (from : ℕ) (d : List ℕ) (o : ℕ) (k : List ℕ) → F (elements_at s from) ≡ true → length d * 1 < 2 ^ 63 → Walking T R F s from d o k d o k from
  walk_start s from d o k f h = record { todo = todo_all d o (T (elements_at s from)) h; kept = refl; room = refl; left = refl; fitting = f }

  module _ {s : List ℕ} {from : ℕ} {d : List ℕ} {o : ℕ} {k e : List ℕ} {p : ℕ} {l : List ℕ} {at : ℕ} (m : Walking T R F s from d o k e p l at) where
    walk_put : (v : Json) (r : ℕ) (bs : List ℕ) {f : List ℕ} {a : ℕ} {j : List ℕ} → elements_at s at ≡ element v (elements_at s r) → T (element v (elements_at s r)) ≡ bs ⊕ T (elements_at s r) →
        Put e f p a bs → length j ≡ length l → R (element v (elements_at s r)) l ≡ R (elements_at s r) j → F (elements_at s r) ≡ true → Walking T R F s from d o k f a j r
    walk_put v r bs i g b c z y = record {
      todo = todo_step m.todo b (ap T i ∙ g ∙ append_is bs _);
      kept = put_length b ∙ m.kept;
      room = c ∙ m.room;
      left = m.left ∙ ap (λ (x : Elements). R x l) i ∙ z;
      fitting = y;
    }

    walk_end : elements_at s at ≡ no_elements → T no_elements ≡ [] → R no_elements l ≡ l → PutBy d e o p (T (elements_at s from)) l (R (elements_at s from) k)
    walk_end i t y = record { put = todo_done m.todo (ap T i ∙ t); room = sym (m.left ∙ ap (λ (x : Elements). R x l) i ∙ y) }

-- ---- the properties

module _ (ed : Edition) (k : ℕ) where
  abbrev pub own_text : Elements → List ℕ
  own_text es = property_lines ed (properties_of (component_name k) es)

  abbrev pub own_room : Elements → List ℕ → List ℕ
  own_room es l = properties_room ed (properties_of (component_name k) es) l

  abbrev pub own_fits : ℕ → Elements → Bool
  own_fits n es = every (line_fits ed n) (properties_of (component_name k) es)

  line_of : (v : Json) → write_line ed (content_line_of (property_of (component_name k) (read_or [] (as_array v)))) ≡ line_text ed (component_name k) (stream_in v)
  unfolding line_text
  line_of v = ap (λ (vs : List Json). write_line ed (content_line_of (property_of (component_name k) vs))) (array_list v)

  own_parts : (v : Json) (es : Elements) → own_text (element v es) ≡ folded_line (line_text ed (component_name k) (stream_in v)) ⊕ own_text es
  unfolding element_list property_lines
  own_parts v es = ap (λ (l : List ℕ). folded_line l ⊕ own_text es) (line_of v)

  own_room_lem : (v : Json) (es : Elements) (l : List ℕ) → own_room (element v es) l ≡ own_room es (overwrite l 0 (line_text ed (component_name k) (stream_in v)))
  unfolding element_list properties_room
  own_room_lem v es l = ap (λ (x : List ℕ). own_room es (overwrite l 0 x)) (line_of v)

  own_fit : (n : ℕ) (v : Json) (es : Elements) → own_fits n (element v es) ≡ true → (length (line_text ed (component_name k) (stream_in v)) ≤ n) × (own_fits n es ≡ true)
  unfolding element_list
  own_fit n v es h =
      let e = every_both (line_fits ed n) (property_of (component_name k) (read_or [] (as_array v))) (properties_of (component_name k) es) h in
      (subst (λ (l : List ℕ). length l ≤ n) (line_of v) (line_within ed n (property_of (component_name k) (read_or [] (as_array v))) e.0), e.1)

  pub own_start : (s : List ℕ) (from : ℕ) (d : List ℕ) (o : ℕ) (l : List ℕ) → every (line_fits ed (length l)) (properties_of (component_name k) (elements_at s from)) ≡ true → length d * 1 < 2 ^ 63 →
      Walking own_text own_room (own_fits (length l)) s from d o l d o l from
  own_start s from d o l h z = walk_start own_text own_room (own_fits (length l)) s from d o l h z

  module _ {s : List ℕ} {from : ℕ} {d : List ℕ} {o : ℕ} {x e : List ℕ} {p : ℕ} {l : List ℕ} {at : ℕ} (m : Walking own_text own_room (own_fits (length x)) s from d o x e p l at)
      {h : Head} (t : HeadAt s at h) {b : Bool} (q : b ≡ is_there h.kind) where
    pub own_end : b ≡ false → PutBy d e o p (property_lines ed (properties_of (component_name k) (elements_at s from))) l (properties_room ed (properties_of (component_name k) (elements_at s from)) x)
    unfolding element_list property_lines properties_room
    own_end y = walk_end own_text own_room (own_fits (length x)) m (none_is t q y) refl refl

    module _ (i : ℕ) (g : elements_at s i ≡ stream_in (first_of (elements_at s at))) (y : b ≡ true) where
      first : elements_at s i ≡ stream_in (value_of_head s h)
      first = g ∙ ap (λ (v : Json). stream_in v) (sym (head_first t))

      pub own_within : length (line_text ed (component_name k) (elements_at s i)) ≤ length l
      own_within =
          let f = there_behind t q y in
          let z = own_fit (length x) (value_of_head s h) f.0 (subst (λ (es : Elements). own_fits (length x) es ≡ true) f.1 m.fitting) in
          let w = subst (λ (es : Elements). length (line_text ed (component_name k) es) ≤ length x) (sym first) z.0 in
          omega (arith, w, m.room)

      pub own_put : {r : ℕ} → NextAt s h r → {f : List ℕ} {a : ℕ} {j : List ℕ} → PutBy e f p a (folded_line (line_text ed (component_name k) (elements_at s i))) j (overwrite l 0 (line_text ed (component_name k) (elements_at s i))) →
          length j ≡ length l → Walking own_text own_room (own_fits (length x)) s from d o x f a j r
      own_put {r} n {f} {a} {j} u c =
          let v = value_of_head s h in
          let w : PutBy e f p a (folded_line (line_text ed (component_name k) (stream_in v))) j (overwrite l 0 (line_text ed (component_name k) (stream_in v))) =
          subst (λ (es : Elements). PutBy e f p a (folded_line (line_text ed (component_name k) es)) j (overwrite l 0 (line_text ed (component_name k) es))) first u in
          let z = there_is t q n y in
          walk_put own_text own_room (own_fits (length x)) m v r (folded_line (line_text ed (component_name k) (stream_in v))) z (own_parts v (elements_at s r)) w.put c
          (own_room_lem v (elements_at s r) l ∙ ap (own_room (elements_at s r)) (sym w.room))
          (own_fit (length x) v (elements_at s r) (subst (λ (es : Elements). own_fits (length x) es ≡ true) z m.fitting)).1

-- ---- the components

-- nothing of components where no level is left
shallow_none : (c : Components) → shallow 0 c ≡ no_more
unfolding shallow pick
shallow_none no_more = refl
shallow_none (component n ps i x) = refl

pub shallow_more : (l : ℕ) (n : List ℕ) (ps : List Property) (i x : Components) → 1 ≤ l → shallow l (component n ps i x) ≡ component n ps (shallow (l - 1) i) (shallow l x)
unfolding shallow pick
shallow_more l n ps i x h = rw (lt-ltb 0 l h)

module _ (ed : Edition) (v : ℕ) where
  abbrev pub inner_text : Elements → List ℕ
  inner_text es = write_calendar ed (shallow v (read_components es))

  abbrev pub inner_room : Elements → List ℕ → List ℕ
  inner_room es l = calendar_room ed (shallow v (read_components es)) l

  abbrev pub inner_fits : ℕ → Elements → Bool
  inner_fits n es = fits ed n (shallow v (read_components es))

  pub none_left : (s : List ℕ) (from : ℕ) (d : List ℕ) (o : ℕ) (k : List ℕ) → v < 1 → length d * 1 < 2 ^ 63 →
      PutBy d d o o (write_calendar ed (shallow v (read_components (elements_at s from)))) k (calendar_room ed (shallow v (read_components (elements_at s from))) k)
  unfolding write_calendar calendar_room
  none_left s from d o k h z =
      let q : v ≡ 0 = omega arith in
      rw (q, shallow_none (read_components (elements_at s from))) (record { put = put_none d o z; room = refl })

  pub inner_start : (s : List ℕ) (from : ℕ) (d : List ℕ) (o : ℕ) (l : List ℕ) → fits ed (length l) (shallow v (read_components (elements_at s from))) ≡ true → length d * 1 < 2 ^ 63 →
      Walking inner_text inner_room (inner_fits (length l)) s from d o l d o l from
  inner_start s from d o l h z = walk_start inner_text inner_room (inner_fits (length l)) s from d o l h z

  -- the component whose array has the elements ks, in front of es
  abbrev stated : Elements → Components → Components
  stated ks x = component (name_of ks) (read_properties (element_list ks)) (shallow (v - 1) (read_components (stream_in (first_of (without 2 ks))))) x

  component_is : (u : Json) (es : Elements) → 1 ≤ v → shallow v (read_components (element u es)) ≡ stated (stream_in u) (shallow v (read_components es))
  unfolding read_components
  component_is u es h =
      shallow_more v _ _ _ _ h
      ∙ ap (λ (vs : List Json). component (jcal_name vs) (read_properties vs) (shallow (v - 1) (read_inside u)) (shallow v (read_components es))) (array_list u)
      ∙ ap (λ (x : Components). component (name_of (stream_in u)) (read_properties (element_list (stream_in u))) (shallow (v - 1) x) (shallow v (read_components es))) (inside_is u ∙ inner_is (stream_in u))

-- the lines of a component, in three parts, and those of the next ones
pub component_parts : (ed : Edition) (ks : Elements) (i x : Components) → write_calendar ed (component (name_of ks) (read_properties (element_list ks)) i x)
    ≡ (head_text ed ks ⊕ write_calendar ed i ⊕ end_line (name_of ks)) ⊕ write_calendar ed x
unfolding head_text write_calendar
component_parts ed ks i x = sym (regroup (begin_line (name_of ks)) _ _ (end_line (name_of ks)) (write_calendar ed x))
  where
    regroup : (a b c d f : List ℕ) → ((a ⊕ b) ⊕ c ⊕ d) ⊕ f ≡ a ⊕ b ⊕ c ⊕ d ⊕ f
    regroup a b c d f = rw (append_regroup (a ⊕ b) (c ⊕ d) f, append_regroup a b ((c ⊕ d) ⊕ f), append_regroup c d f)

pub component_room : (ed : Edition) (ks : Elements) (i x : Components) (l : List ℕ) → calendar_room ed (component (name_of ks) (read_properties (element_list ks)) i x) l
    ≡ calendar_room ed x (overwrite (calendar_room ed i (head_room ed ks l)) 0 (ascii "END:" ⊕ name_of ks))
unfolding head_room calendar_room
component_room ed ks i x l = refl

module _ (ed : Edition) (v : ℕ) {s : List ℕ} {from : ℕ} {d : List ℕ} {o : ℕ} {x e : List ℕ} {p : ℕ} {l : List ℕ} {at : ℕ}
    (m : Walking (inner_text ed v) (inner_room ed v) (inner_fits ed v (length x)) s from d o x e p l at) {h : Head} (t : HeadAt s at h) {b : Bool} (q : b ≡ is_there h.kind) where
  pub inner_end : b ≡ false → PutBy d e o p (write_calendar ed (shallow v (read_components (elements_at s from)))) l (calendar_room ed (shallow v (read_components (elements_at s from))) x)
  unfolding read_components shallow write_calendar calendar_room
  inner_end y = walk_end (inner_text ed v) (inner_room ed v) (inner_fits ed v (length x)) m (none_is t q y) refl refl

  module _ (i : ℕ) (g : elements_at s i ≡ stream_in (first_of (elements_at s at))) (y : b ≡ true) (w : 1 ≤ v) where
    array_first : elements_at s i ≡ stream_in (value_of_head s h)
    array_first = g ∙ ap (λ (u : Json). stream_in u) (sym (head_first t))

    here : (n : ℕ) (es : Elements) → inner_fits ed v n (element (value_of_head s h) es) ≡ true →
        (head_fits ed n (name_of (elements_at s i)) (read_properties (list_at s i)) ≡ true) × (fits ed n (shallow (v - 1) (read_components (stream_in (first_of (without 2 (elements_at s i)))))) ≡ true) × (inner_fits ed v n es ≡ true)
    here n es f =
        fits_parts ed n (name_of (elements_at s i)) (read_properties (list_at s i)) (shallow (v - 1) (read_components (stream_in (first_of (without 2 (elements_at s i)))))) (shallow v (read_components es))
        (subst (λ (ks : Elements). fits ed n (stated ed v ks (shallow v (read_components es))) ≡ true) (sym array_first) (subst (λ (c : Components). fits ed n c ≡ true) (component_is ed v (value_of_head s h) es w) f))

    parts : (head_fits ed (length x) (name_of (elements_at s i)) (read_properties (list_at s i)) ≡ true) × (fits ed (length x) (shallow (v - 1) (read_components (stream_in (first_of (without 2 (elements_at s i)))))) ≡ true)
    parts =
        let f = there_behind t q y in
        let z = here (length x) f.0 (subst (λ (es : Elements). inner_fits ed v (length x) es ≡ true) f.1 m.fitting) in
        (z.0, z.1)

    pub inner_head : head_fits ed (length l) (name_of (elements_at s i)) (read_properties (list_at s i)) ≡ true
    inner_head = subst (λ (n : ℕ). head_fits ed n (name_of (elements_at s i)) (read_properties (list_at s i)) ≡ true) (sym m.room) parts.0

    pub inner_inside : (c : ℕ) → elements_at s c ≡ stream_in (first_of (without 2 (elements_at s i))) → {n : ℕ} → n ≡ length l → fits ed n (shallow (v - 1) (read_components (elements_at s c))) ≡ true
    inner_inside c j {n} z =
        subst (λ (k : ℕ). fits ed k (shallow (v - 1) (read_components (elements_at s c))) ≡ true) (sym (z ∙ m.room))
        (subst (λ (es : Elements). fits ed (length x) (shallow (v - 1) (read_components es)) ≡ true) (sym j) parts.1)

    pub inner_tail : {n : ℕ} → n ≡ length l → 6 + length (name_of (elements_at s i)) ≤ n
    inner_tail z = let a = head_parts ed (length x) (name_of (elements_at s i)) (read_properties (list_at s i)) parts.0 in omega (arith, a.0, z, m.room)

    -- a component whose three parts were put
    pub inner_put : (c : ℕ) → elements_at s c ≡ stream_in (first_of (without 2 (elements_at s i))) → {r : ℕ} → NextAt s h r → {f f₂ f₃ : List ℕ} {a₁ a₂ a₃ : ℕ} {j₁ j₂ j : List ℕ} →
        PutBy e f p a₁ (head_text ed (elements_at s i)) j₁ (head_room ed (elements_at s i) l) →
        PutBy f f₂ a₁ a₂ (write_calendar ed (shallow (v - 1) (read_components (elements_at s c)))) j₂ (calendar_room ed (shallow (v - 1) (read_components (elements_at s c))) j₁) →
        PutBy f₂ f₃ a₂ a₃ (end_line (name_of (elements_at s i))) j (overwrite j₂ 0 (ascii "END:" ⊕ name_of (elements_at s i))) →
        length j ≡ length l → Walking (inner_text ed v) (inner_room ed v) (inner_fits ed v (length x)) s from d o x f₃ a₃ j r
    inner_put c g₂ {r} n {f} {f₂} {f₃} {a₁} {a₂} {a₃} {j₁} {j₂} {j} u₁ u₂ u₃ z =
        let u = value_of_head s h in
        let es = elements_at s r in
        let k = there_is t q n y in
        let I = shallow (v - 1) (read_components (stream_in (first_of (without 2 (elements_at s i))))) in
        let is : shallow v (read_components (element u es)) ≡ stated ed v (elements_at s i) (shallow v (read_components es)) = component_is ed v u es w ∙ ap (λ (ks : Elements). stated ed v ks (shallow v (read_components es))) (sym array_first) in
        let w₂ : PutBy f f₂ a₁ a₂ (write_calendar ed I) j₂ (calendar_room ed I j₁) = subst (λ (xs : Elements). PutBy f f₂ a₁ a₂ (write_calendar ed (shallow (v - 1) (read_components xs))) j₂ (calendar_room ed (shallow (v - 1) (read_components xs)) j₁)) g₂ u₂ in
        walk_put (inner_text ed v) (inner_room ed v) (inner_fits ed v (length x)) m u r (head_text ed (elements_at s i) ⊕ write_calendar ed I ⊕ end_line (name_of (elements_at s i))) k
        (ap (write_calendar ed) is ∙ component_parts ed (elements_at s i) I (shallow v (read_components es)))
        (u₁.put ▷ w₂.put ▷ u₃.put) z
        (ap (λ (b : Components). calendar_room ed b l) is ∙ component_room ed (elements_at s i) I (shallow v (read_components es)) l
        ∙ ap (λ (b : List ℕ). calendar_room ed (shallow v (read_components es)) (overwrite (calendar_room ed I b) 0 (ascii "END:" ⊕ name_of (elements_at s i)))) (sym u₁.room)
        ∙ ap (λ (b : List ℕ). calendar_room ed (shallow v (read_components es)) (overwrite b 0 (ascii "END:" ⊕ name_of (elements_at s i)))) (sym w₂.room)
        ∙ ap (calendar_room ed (shallow v (read_components es))) (sym u₃.room))
        (here (length x) es (subst (λ (b : Elements). inner_fits ed v (length x) b ≡ true) k m.fitting)).2
