-- The length of the text of a jCal text that is accepted grows no faster than the jCal's; and a room for one content line is large enough, accepted or not.
--     text_bound    `rate` bytes for each byte of the jCal;   text_fits: an output that has them is long enough;   text_short: of a jCal text within the limit
--     lines_fit     each content line
--     jcal_text_bound, jcal_text_short    the text of a jCal text whose whole verdict is fine
use Rattle.std.specs.Prelude.{◌≡◌, Bool, ltb, leb, Option, None, Some}
use Rattle.std.proofs.Math.Path.{refl}
use Rattle.std.proofs.Common.{ap, le-leb, leb-true}
use Rattle.std.proofs.Math.Bool.{true, false}
use Rattle.std.proofs.lemmas.Bool.{false≢true}
use mathlib.Core.List.{List, [], ◌∷◌, map}
use Prim.Native.Nat.{ℕ, zero, suc, ◌+◌, ◌-◌, ◌*◌, ◌^◌, ◌≤◌, ◌<◌}
use native.Mathlib.Omega.{arith}
use Rattle.std.proofs.Math.ListN.{length}
use Rattle.octets.specs.Ascii.{ascii}
use Rattle.octets.specs.Pick.{pick, ◌and◌}
use Rattle.octets.specs.laws.Pick.{pick_either, and_both, and_yes}
use Rattle.octets.specs.Append.{◌⊕◌}
use Rattle.octets.specs.laws.Append.{length_both}
use Rattle.octets.specs.Lists.{every}
use Rattle.octets.specs.Reading.{and_then, is_read, read_or}
use Rattle.octets.specs.laws.Reading.{and_then-some}
use Rattle.calendar.specs.Calendar.{Property, Components, no_more, component}
use Rattle.calendar.specs.Levels.{levels, shallow}
use Rattle.calendar.specs.Refusal.{Refusal, LENGTH, NAME, FRAME, JSON, fine, characters, ◌otherwise◌}
use Rattle.calendar.specs.laws.Refusal.{refused_not}
use Rattle.schema.specs.Components.{may_contain}
use Rattle.utf8.specs.Utf8.{first_bad}
use Rattle.edition.specs.declared.Edition.{Edition}
use Rattle.validity.specs.ValidCalendar.{at_top}
use Rattle.text.specs.WriteText.{content_line_of, property_lines, begin_line, end_line, write_calendar}
use Rattle.read_text_line.specs.Decoded.{write_line}
use Rattle.xcal.proofs.laws.Accepted.{both_fine, test_fine}
use Rattle.json_text.specs.Bytes.{most_open}
use Rattle.json_text.specs.Check.{verdict}
use Rattle.json_text.specs.Tree.{Json, string, number, literal, array, object, Elements, no_elements, element, element_list, value_of}
use Rattle.json_text.specs.Kinds.{as_array, nth}
use Rattle.jcal.specs.Property.{name_in, is_bad_name, passes, property_of}
use Rattle.jcal.specs.Components.{at, properties_verdict, component_name, property_arrays, component_arrays, read_properties, is_component, component_fault, method_inside, is_complete, components_verdict, component_verdict, inner_verdict, array_verdict, read_components, read_inside, read_inner, read_array, read_calendars, stream_in, is_stream, calendars_in}
use Rattle.jcal.specs.ReadJcal.{json, jcal_verdict}
use Rattle.jcal.proofs.laws.PropertyAccepted.{past_fault, last_fault}
use Rattle.lengths_jcal_text.specs.Fitting.{line_fits, head_fits, fits}
use Rattle.lengths_jcal_text.specs.laws.Sizes.{size, size_some, sizes, total, elements_total, as_array_lem, array_size, size_in, split_size}
use Rattle.lengths_jcal_text.specs.laws.Names.{checked_size}
use Rattle.lengths_jcal_text.specs.laws.Lines.{name_size, read_name, at-fine, line_length, fold_length, lines_length}

-- as for a document: an array of a component has its name, two arrays and three brackets
abbrev pub rate : ℕ
rate = 6

-- ---- the elements of a component

arrays_size : (l : List Json) → is_read (property_arrays l) ≡ true → total (read_or [] (property_arrays l)) + 1 ≤ size_in (nth 1 l)
unfolding read_or is_read
arrays_size l h = go (property_arrays l) refl h
  where
    go : (o : Option (List Json)) → property_arrays l ≡ o → is_read o ≡ true → total (read_or [] o) + 1 ≤ size_in (nth 1 l)
    go None e h = absurd (false≢true h)
    go (Some xs) e h = let q = and_then-some (nth 1 l) as_array xs e in rw q.1 (unfold size_in in omega (arith, as_array_lem q.0 xs q.2))

-- a component's array with no fault of its own
record Sound (l : List Json) : Type 0 where
  name : length (component_name l) + 1 ≤ size_in (nth 0 l)
  properties : total (read_or [] (property_arrays l)) + 1 ≤ size_in (nth 1 l)

fault_sound : (may : List ℕ → Bool) (left : ℕ) (l : List Json) → component_fault may left l ≡ None → Sound l
unfolding component_fault
fault_sound may left l h =
    let a = past_fault (passes is_bad_name (name_in l)) NAME _ h in
    let b = and_both (is_component l) _ (last_fault (is_component l and may (component_name l) and ltb 0 left) FRAME a.1) in
    let c = and_both (is_read (name_in l)) _ b.0 in
    let d = and_both (is_read (property_arrays l)) _ c.1 in
    record { name = read_name l c.0; properties = arrays_size l d.0 }

-- ---- the text

module _ (ed : Edition) where
  -- the lines of a component, beside its properties and its subcomponents
  around_length : (n : List ℕ) (ps : List Property) (inner next : Components) →
      length (write_calendar ed (component n ps inner next)) ≤ 4 * length n + 14 + length (property_lines ed ps) + length (write_calendar ed inner) + length (write_calendar ed next)
  unfolding write_calendar
  around_length n ps inner next =
      let a : List ℕ = property_lines ed ps in
      let b : List ℕ = write_calendar ed inner in
      let c : List ℕ = write_calendar ed next in
      let begins : length (begin_line n) ≤ 2 * length n + 8 = omega (arith, fold_length 0 (ascii "BEGIN:" ⊕ n), length_both (ascii "BEGIN:") n) in
      let ends : length (end_line n) ≤ 2 * length n + 6 = omega (arith, fold_length 0 (ascii "END:" ⊕ n), length_both (ascii "END:") n) in
      omega (arith, length_both (begin_line n) (a ⊕ b ⊕ end_line n ⊕ c), length_both a (b ⊕ end_line n ⊕ c), length_both b (end_line n ⊕ c), length_both (end_line n) c, begins, ends)

  none_length : (n : ℕ) → length (write_calendar ed no_more) ≤ n
  none_length n = unfold write_calendar in omega arith

  mutual
    unfolding components_verdict component_verdict inner_verdict array_verdict read_components read_inside read_inner read_array size sizes read_or element_list size_in

    components_length : (vs : Elements) (may : List ℕ → Bool) (left : ℕ) (m : Bool) → components_verdict ed vs may left m ≡ fine → length (write_calendar ed (read_components vs)) ≤ rate * sizes vs
    components_length no_elements may left m h = none_length 0
    components_length (element v vs) may left m h =
        let b = both_fine (component_verdict ed v may left m) _ h in
        omega (arith, component-length v may left m (read_components vs) b.0, components_length vs may left m b.1)

    component-length : (v : Json) (may : List ℕ → Bool) (left : ℕ) (m : Bool) (next : Components) → component_verdict ed v may left m ≡ fine →
        length (write_calendar ed (component (component_name (read_or [] (as_array v))) (read_properties (read_or [] (as_array v))) (read_inside v) next)) ≤ rate * size v + length (write_calendar ed next)
    component-length (string p s) may left m next h = refused_not FRAME p h
    component-length (number p s) may left m next h = refused_not FRAME p h
    component-length (literal p s) may left m next h = refused_not FRAME p h
    component-length (object p e ms) may left m next h = refused_not FRAME p h
    component-length (array p e vs) may left m next h =
        let l = element_list vs in
        let a = both_fine (at p (component_fault may left l)) _ h in
        let b = both_fine (properties_verdict ed (component_name l) (read_or [] (property_arrays l))) _ a.1 in
        let d = both_fine (inner_verdict ed vs 2 (may_contain (component_name l)) (left - 1) (method_inside l m)) _ b.1 in
        let s = fault_sound may left l (at-fine p (component_fault may left l) a.0) in
        let around = around_length (component_name l) (read_properties l) (read_inner vs 2) next in
        let properties = lines_length ed (component_name l) (read_or [] (property_arrays l)) b.0 in
        let inside = inner_length vs 2 (may_contain (component_name l)) (left - 1) (method_inside l m) d.0 in
        omega (arith, around, s.name, s.properties, properties, inside, split_size l, elements_total vs)

    -- those in element k
    inner_length : (vs : Elements) (k : ℕ) (may : List ℕ → Bool) (left : ℕ) (m : Bool) → inner_verdict ed vs k may left m ≡ fine → length (write_calendar ed (read_inner vs k)) ≤ rate * size_in (nth k (element_list vs))
    inner_length no_elements k may left m h = none_length _
    inner_length (element v vs) zero may left m h = array_length v may left m h
    inner_length (element v vs) (suc k) may left m h = inner_length vs k may left m h

    array_length : (v : Json) (may : List ℕ → Bool) (left : ℕ) (m : Bool) → array_verdict ed v may left m ≡ fine → length (write_calendar ed (read_array v)) ≤ rate * size v
    array_length (string p s) may left m h = none_length _
    array_length (number p s) may left m h = none_length _
    array_length (literal p s) may left m h = none_length _
    array_length (object p e ms) may left m h = none_length _
    array_length (array p e vs) may left m h = omega (arith, components_length vs may left m h)

  -- ---- without what stands too deep

  -- the lines of a component, exactly
  all_length : (n : List ℕ) (ps : List Property) (i x : Components) → length (write_calendar ed (component n ps i x)) ≡
      length (begin_line n) + length (property_lines ed ps) + length (write_calendar ed i) + length (end_line n) + length (write_calendar ed x)
  unfolding write_calendar
  all_length n ps i x =
      let a : List ℕ = property_lines ed ps in
      let b : List ℕ = write_calendar ed i in
      let c : List ℕ = write_calendar ed x in
      omega (arith, length_both (begin_line n) (a ⊕ b ⊕ end_line n ⊕ c), length_both a (b ⊕ end_line n ⊕ c), length_both b (end_line n ⊕ c), length_both (end_line n) c)

  shallow-length : (c : Components) (l : ℕ) → length (write_calendar ed (shallow l c)) ≤ length (write_calendar ed c)
  unfolding shallow
  shallow-length no_more l = omega arith
  shallow-length (component n ps inner next) l = go (ltb 0 l) (shallow-length inner (l - 1)) (shallow-length next l)
    where
      go : (b : Bool) → length (write_calendar ed (shallow (l - 1) inner)) ≤ length (write_calendar ed inner) → length (write_calendar ed (shallow l next)) ≤ length (write_calendar ed next) →
          length (write_calendar ed (pick b (component n ps (shallow (l - 1) inner) (shallow l next)) no_more)) ≤ length (write_calendar ed (component n ps inner next))
      go true h k = unfold pick in omega (arith, all_length n ps inner next, all_length n ps (shallow (l - 1) inner) (shallow l next))
      go false h k = unfold pick in none_length _

-- ---- the calendars of a text

stream_size : (v : Json) → sizes (stream_in v) ≤ size v
unfolding size sizes
stream_size (string p s) = omega arith
stream_size (number p s) = omega arith
stream_size (literal p s) = omega arith
stream_size (object p e ms) = omega arith
stream_size (array p e vs) = omega arith

calendars_size : (v : Json) → sizes (calendars_in v) ≤ size v
unfolding calendars_in sizes
calendars_size v = pick_either (λ (vs : Elements). sizes vs ≤ size v) (is_stream v) (stream_in v) (element v no_elements) (stream_size v) (omega arith)

text_size : (s : List ℕ) → verdict most_open s ≡ None → sizes (calendars_in (value_of s)) ≤ length s
text_size s c = omega (arith, calendars_size (value_of s), checked_size most_open s c)

module _ (ed : Edition) (s : List ℕ) (c : verdict most_open s ≡ None) where
  module _ (f : components_verdict ed (calendars_in (value_of s)) at_top levels false ≡ fine) where
    pub text_bound : length (write_calendar ed (read_calendars (calendars_in (value_of s)))) ≤ rate * length s
    text_bound = omega (arith, shallow-length ed (read_components (calendars_in (value_of s))) levels, components_length ed (calendars_in (value_of s)) at_top levels false f, text_size s c)

    pub text_fits : (n : ℕ) → rate * length s ≤ n → length (write_calendar ed (read_calendars (calendars_in (value_of s)))) ≤ n
    text_fits n h = omega (arith, text_bound, h)

    pub text_short : length s ≤ 65535 → length (write_calendar ed (read_calendars (calendars_in (value_of s)))) < 2 ^ 32
    text_short h = omega (arith, text_bound, h)

-- ---- one content line

-- where there are arrays of properties, there is a name before them
arrays_within : (l : List Json) → total (read_or [] (property_arrays l)) ≤ total l - 2
unfolding read_or and_then total
arrays_within [] = omega arith
arrays_within (a ∷ []) = omega arith
arrays_within (a ∷ b ∷ l) = omega (arith, size_some a, array_size b)

module _ (ed : Edition) where
  abbrev room : ℕ
  room = 262144

  properties_fit : (k : List ℕ) (l : List Json) → total l ≤ 65532 → every (line_fits ed room) (map (λ v. property_of k (read_or [] (as_array v))) l) ≡ true
  unfolding every line_fits total
  properties_fit k [] h = refl
  properties_fit k (v ∷ l) h =
      and_yes _ _ (le-leb (length (write_line ed (content_line_of (property_of k (read_or [] (as_array v)))))) room (omega (arith, line_length ed k v))) (properties_fit k l (omega arith))

  head_fits_lem : (v : Json) → size v ≤ 65535 → head_fits ed room (component_name (read_or [] (as_array v))) (read_properties (read_or [] (as_array v))) ≡ true
  unfolding head_fits
  head_fits_lem v h =
      let l : List Json = read_or [] (as_array v) in
      and_yes _ _ (le-leb (6 + length (component_name l)) room (omega (arith, name_size l, split_size l, array_size v)))
      (properties_fit (component_name l) (read_or [] (property_arrays l)) (omega (arith, arrays_within l, array_size v)))

  mutual
    unfolding fits read_components read_inside read_inner read_array size sizes

    components_fit : (vs : Elements) → sizes vs ≤ 65535 → fits ed room (read_components vs) ≡ true
    components_fit no_elements h = refl
    components_fit (element v vs) h = and_yes _ _ (head_fits_lem v (omega arith)) (and_yes _ _ (inside_fits v (omega arith)) (components_fit vs (omega arith)))

    inside_fits : (v : Json) → size v ≤ 65535 → fits ed room (read_inside v) ≡ true
    inside_fits (string p s) h = refl
    inside_fits (number p s) h = refl
    inside_fits (literal p s) h = refl
    inside_fits (object p e ms) h = refl
    inside_fits (array p e vs) h = inner_fits vs 2 (omega arith)

    inner_fits : (vs : Elements) (k : ℕ) → sizes vs ≤ 65535 → fits ed room (read_inner vs k) ≡ true
    inner_fits no_elements k h = refl
    inner_fits (element v vs) zero h = array_fits v (omega arith)
    inner_fits (element v vs) (suc k) h = inner_fits vs k (omega arith)

    array_fits : (v : Json) → size v ≤ 65535 → fits ed room (read_array v) ≡ true
    array_fits (string p s) h = refl
    array_fits (number p s) h = refl
    array_fits (literal p s) h = refl
    array_fits (object p e ms) h = refl
    array_fits (array p e vs) h = components_fit vs (omega arith)

  shallow_fits : (c : Components) (l : ℕ) → fits ed room c ≡ true → fits ed room (shallow l c) ≡ true
  unfolding shallow fits
  shallow_fits no_more l h = h
  shallow_fits (component n ps inner next) l h =
      let a = and_both (head_fits ed room n ps) _ h in
      let b = and_both (fits ed room inner) _ a.1 in
      pick_either (λ c. fits ed room c ≡ true) (ltb 0 l) (component n ps (shallow (l - 1) inner) (shallow l next)) no_more
      (and_yes _ _ a.0 (and_yes _ _ (shallow_fits inner (l - 1) b.0) (shallow_fits next l b.1))) refl

  pub lines_fit : (s : List ℕ) → verdict most_open s ≡ None → length s ≤ 65535 → fits ed 262144 (read_calendars (calendars_in (value_of s))) ≡ true
  lines_fit s c h = shallow_fits (read_components (calendars_in (value_of s))) levels (components_fit (calendars_in (value_of s)) (omega (arith, text_size s c)))

-- ---- the whole verdict

json_fine : (c : Option ℕ) → json c ≡ fine → c ≡ None
json_fine None h = refl
json_fine (Some p) h = refused_not JSON p h

pub jcal_text_short : (ed : Edition) (s : List ℕ) → jcal_verdict ed s ≡ fine → length (write_calendar ed (read_calendars (calendars_in (value_of s)))) < 2 ^ 32
unfolding jcal_verdict
jcal_text_short ed s h =
    let a = test_fine (leb (length s) 65535) _ LENGTH 0 h in
    let b = both_fine (characters (first_bad s)) _ a.1 in
    let c = both_fine (json (verdict most_open s)) _ b.1 in
    text_short ed s (json_fine (verdict most_open s) c.0) c.1 (leb-true (length s) 65535 a.0)

pub jcal_text_bound : (ed : Edition) (s : List ℕ) → jcal_verdict ed s ≡ fine → length (write_calendar ed (read_calendars (calendars_in (value_of s)))) ≤ 6 * length s
unfolding jcal_verdict
jcal_text_bound ed s h =
    let a = test_fine (leb (length s) 65535) _ LENGTH 0 h in
    let b = both_fine (characters (first_bad s)) _ a.1 in
    let c = both_fine (json (verdict most_open s)) _ b.1 in
    text_bound ed s (json_fine (verdict most_open s) c.0) c.1
