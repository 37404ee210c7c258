-- Laws of the calendars of a text.
--     stream_is       whether it is a stream
--     alone_..        one calendar;   calendars_stream, calendars_alone: the ways of `put_calendars`
use Rattle.std.specs.Prelude.{◌≡◌, Bool, true, false, ℕ, zero, suc, ◌+◌, ◌-◌, ◌≤◌, length, drop, Option, None, Some}
use Rattle.std.proofs.Math.Path.{refl, sym, ap, subst}
use Rattle.std.proofs.Common.{◌∙◌, arith}
use mathlib.Core.List.{List, []}
use Rattle.octets.specs.Pick.{pick}
use Rattle.octets.specs.Ascii.{ascii}
use Rattle.octets.specs.Append.{◌⊕◌}
use Rattle.octets.specs.laws.Append.{append_none}
use Rattle.octets.specs.Reading.{and_then, is_read}
use Rattle.calendar.specs.Calendar.{Property, Components, no_more, component}
use Rattle.calendar.specs.Levels.{levels, shallow}
use Rattle.sink.specs.Sink.{overwrite, Put}
use Rattle.sink.specs.laws.Sink.{◌▷◌}
use Rattle.text.specs.WriteText.{end_line, write_calendar}
use Rattle.json_text.specs.Tree.{Json, string, number, literal, array, object, Elements, no_elements, element, element_list, first_of, tokens, value_of}
use Rattle.json_text.specs.Kinds.{as_array, nth}
use Rattle.jcal.specs.Components.{component_name, read_properties, read_components, read_inside, read_inner, read_calendars, stream_in, is_stream, calendars_in}
use Rattle.read_json.specs.TreeAt.{tokens_at, elements_at}
use Rattle.read_json.specs.Heads.{value_by, HeadAt}
use Rattle.read_json.specs.Kinds.{is_array}
use Rattle.read_json.specs.declared.Head.{Head}
use Rattle.read_json.specs.declared.HeadKind.{HeadKind}
use Rattle.read_json.specs.declared.HeadKind.TheVariants.{Absent, String, Number, Literal, Array, Object}
use Rattle.edition.specs.declared.Edition.{Edition}
use Rattle.write_text_pieces.specs.Filled.{calendar_room, PutBy}
use Rattle.write_text_jcal_values.specs.Elements.{list_at, without}
use Rattle.write_text_jcal_values.specs.laws.Elements.{head_first, nth_first}
use Rattle.write_text_jcal.specs.Calendars.{is_array_first, calendar_of}
use Rattle.lengths_jcal_text.specs.Fitting.{head_fits, fits}
use Rattle.write_text_jcal.specs.laws.Fitting.{head_parts, fits_parts}
use Rattle.write_text_jcal.specs.Walks.{name_of, head_text, head_room}
use Rattle.write_text_jcal.specs.laws.Walks.{array_list, inside_is, inner_is, shallow_more, component_parts, component_room}

-- ---- a stream

array_kind : (k : HeadKind) (s : List ℕ) (p n : ℕ) → is_array k ≡ is_read (as_array (value_by k s p n))
unfolding is_read
array_kind Absent s p n = refl
array_kind String s p n = refl
array_kind Number s p n = refl
array_kind Literal s p n = refl
array_kind Array s p n = refl
array_kind Object s p n = refl

pub stream_is : {s : List ℕ} {at : ℕ} {h : Head} → HeadAt s at h → {b : Bool} → b ≡ is_array h.kind → b ≡ is_array_first (elements_at s at)
stream_is {s} {at} {h} t e = e ∙ array_kind h.kind s h.place h.next ∙ ap (λ (v : Json). is_read (as_array v)) (head_first t)

-- ---- one calendar alone

inner_of : (es : Elements) → calendar_of es ≡ component (name_of es) (read_properties (element_list es)) (shallow 8 (read_components (stream_in (first_of (without 2 es))))) no_more
unfolding shallow
inner_of es = shallow_more 9 (name_of es) (read_properties (element_list es)) (read_inner es 2) no_more (omega arith) ∙ ap (λ (x : Components). component (name_of es) (read_properties (element_list es)) (shallow 8 x) no_more) (inner_is es)

module _ (ed : Edition) (s : List ℕ) (i : ℕ) where
  abbrev inner_components : Components
  inner_components = shallow 8 (read_components (stream_in (first_of (without 2 (elements_at s i)))))

  parts : (n : ℕ) → fits ed n (calendar_of (elements_at s i)) ≡ true → (head_fits ed n (name_of (elements_at s i)) (read_properties (list_at s i)) ≡ true) × (fits ed n inner_components ≡ true)
  parts n h =
      let z = fits_parts ed n (name_of (elements_at s i)) (read_properties (list_at s i)) inner_components no_more (subst (λ (c : Components). fits ed n c ≡ true) (inner_of (elements_at s i)) h) in
      (z.0, z.1)

  pub alone_head : (n : ℕ) → fits ed n (calendar_of (elements_at s i)) ≡ true → head_fits ed n (name_of (elements_at s i)) (read_properties (list_at s i)) ≡ true
  alone_head n h = (parts n h).0

  pub alone_inside : (n : ℕ) → fits ed n (calendar_of (elements_at s i)) ≡ true → (c : ℕ) → elements_at s c ≡ stream_in (first_of (without 2 (elements_at s i))) → {m : ℕ} → m ≡ n → fits ed m (shallow 8 (read_components (elements_at s c))) ≡ true
  alone_inside n h c j {m} z = rw z (subst (λ (es : Elements). fits ed n (shallow 8 (read_components es)) ≡ true) (sym j) (parts n h).1)

  pub alone_tail : (n : ℕ) → fits ed n (calendar_of (elements_at s i)) ≡ true → {m : ℕ} → m ≡ n → 6 + length (name_of (elements_at s i)) ≤ m
  alone_tail n h z = let a = head_parts ed n (name_of (elements_at s i)) (read_properties (list_at s i)) (parts n h).0 in omega (arith, a.0, z)

  pub alone_put : (c : ℕ) → elements_at s c ≡ stream_in (first_of (without 2 (elements_at s i))) → {e f f₂ f₃ : List ℕ} {p a₁ a₂ a₃ : ℕ} (l : List ℕ) {j₁ j₂ j : List ℕ} →
      PutBy e f p a₁ (head_text ed (elements_at s i)) j₁ (head_room ed (elements_at s i) l) →
      PutBy f f₂ a₁ a₂ (write_calendar ed (shallow 8 (read_components (elements_at s c)))) j₂ (calendar_room ed (shallow 8 (read_components (elements_at s c))) j₁) →
      PutBy f₂ f₃ a₂ a₃ (end_line (name_of (elements_at s i))) j (overwrite j₂ 0 (ascii "END:" ⊕ name_of (elements_at s i))) →
      PutBy e f₃ p a₃ (write_calendar ed (calendar_of (elements_at s i))) j (calendar_room ed (calendar_of (elements_at s i)) l)
  unfolding write_calendar calendar_room
  alone_put c g {e} {f} {f₂} {f₃} {p} {a₁} {a₂} {a₃} l {j₁} {j₂} {j} u₁ u₂ u₃ =
      let w : PutBy f f₂ a₁ a₂ (write_calendar ed inner_components) j₂ (calendar_room ed inner_components j₁) = subst (λ (xs : Elements). PutBy f f₂ a₁ a₂ (write_calendar ed (shallow 8 (read_components xs))) j₂ (calendar_room ed (shallow 8 (read_components xs)) j₁)) g u₂ in
      record {
        put = subst (Put e f₃ p a₃) (sym (ap (write_calendar ed) (inner_of (elements_at s i)) ∙ component_parts ed (elements_at s i) inner_components no_more ∙ append_none _)) (u₁.put ▷ w.put ▷ u₃.put);
        room = sym (ap (λ (b : Components). calendar_room ed b l) (inner_of (elements_at s i)) ∙ component_room ed (elements_at s i) inner_components no_more l
            ∙ ap (λ (b : List ℕ). overwrite (calendar_room ed inner_components b) 0 (ascii "END:" ⊕ name_of (elements_at s i))) (sym u₁.room)
            ∙ ap (λ (b : List ℕ). overwrite b 0 (ascii "END:" ⊕ name_of (elements_at s i))) (sym w.room)
            ∙ sym u₃.room);
      }

-- ---- the calendars of a text

value_is : (s : List ℕ) → value_of s ≡ first_of (elements_at s 0)
unfolding value_of elements_at tokens_at
value_is s = refl

module _ (s : List ℕ) (i : ℕ) (g : elements_at s i ≡ stream_in (first_of (elements_at s 0))) {b : Bool} (q : b ≡ is_array_first (elements_at s i)) where
  is_stream_lem : is_stream (value_of s) ≡ b
  unfolding without
  is_stream_lem = ap (λ (o : Option (List Json)). is_read o) (nth_first as_array refl 0 (stream_in (value_of s))) ∙ ap (λ (es : Elements). is_read (as_array (first_of es))) (ap (λ (v : Json). stream_in v) (value_is s) ∙ sym g) ∙ sym q

  stream_calendars : b ≡ true → calendars_in (value_of s) ≡ elements_at s i
  unfolding calendars_in pick
  stream_calendars y = ap (λ (t : Bool). pick t (stream_in (value_of s)) (element (value_of s) no_elements)) (is_stream_lem ∙ y) ∙ ap (λ (v : Json). stream_in v) (value_is s) ∙ sym g

  alone_calendars : b ≡ false → read_calendars (calendars_in (value_of s)) ≡ calendar_of (elements_at s i)
  unfolding calendars_in pick read_components
  alone_calendars y =
      ap (λ (t : Bool). read_calendars (pick t (stream_in (value_of s)) (element (value_of s) no_elements))) (is_stream_lem ∙ y)
      ∙ ap (λ (vs : List Json). shallow levels (component (component_name vs) (read_properties vs) (read_inside (value_of s)) no_more)) (array_list (value_of s))
      ∙ ap (λ (x : Components). shallow levels (component (name_of (stream_in (value_of s))) (read_properties (element_list (stream_in (value_of s)))) x no_more)) (inside_is (value_of s))
      ∙ ap (λ (es : Elements). calendar_of es) (ap (λ (v : Json). stream_in v) (value_is s) ∙ sym g)

  module _ (ed : Edition) where
    pub fits_stream : (n : ℕ) → b ≡ true → fits ed n (read_calendars (calendars_in (value_of s))) ≡ true → fits ed n (shallow 9 (read_components (elements_at s i))) ≡ true
    fits_stream n y h = subst (λ (es : Elements). fits ed n (read_calendars es) ≡ true) (stream_calendars y) h

    pub fits_alone : (n : ℕ) → b ≡ false → fits ed n (read_calendars (calendars_in (value_of s))) ≡ true → fits ed n (calendar_of (elements_at s i)) ≡ true
    fits_alone n y h = subst (λ (c : Components). fits ed n c ≡ true) (alone_calendars y) h

    module _ {d e : List ℕ} {o r : ℕ} {l : List ℕ} (k : List ℕ) where
      pub calendars_stream : b ≡ true → PutBy d e o r (write_calendar ed (shallow 9 (read_components (elements_at s i)))) l (calendar_room ed (shallow 9 (read_components (elements_at s i))) k) →
          PutBy d e o r (write_calendar ed (read_calendars (calendars_in (value_of s)))) l (calendar_room ed (read_calendars (calendars_in (value_of s))) k)
      calendars_stream y u = subst (λ (es : Elements). PutBy d e o r (write_calendar ed (read_calendars es)) l (calendar_room ed (read_calendars es) k)) (sym (stream_calendars y)) u

      pub calendars_alone : b ≡ false → PutBy d e o r (write_calendar ed (calendar_of (elements_at s i))) l (calendar_room ed (calendar_of (elements_at s i)) k) →
          PutBy d e o r (write_calendar ed (read_calendars (calendars_in (value_of s)))) l (calendar_room ed (read_calendars (calendars_in (value_of s))) k)
      calendars_alone y u = subst (λ (c : Components). PutBy d e o r (write_calendar ed c) l (calendar_room ed c k)) (sym (alone_calendars y)) u
