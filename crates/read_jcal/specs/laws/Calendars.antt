-- The calendars of a text: a stream of them, or one alone.
--     streams      the rules of whether they are a stream
--     calendars    the rules of the verdict on them
use Rattle.std.specs.Prelude.{◌≡◌, Bool, List, ℕ, Option, None, ⊤, Result}
use Rattle.std.proofs.Math.Path.{refl, sym, ap}
use Rattle.std.proofs.Common.{◌∙◌, rules}
use Rattle.std.proofs.Math.Bool.{true, false}
use Rattle.std.proofs.lemmas.Bool.{false≢true}
use Rattle.octets.specs.Pick.{pick}
use Rattle.octets.specs.Reading.{and_then, is_read}
use Rattle.octets.specs.laws.Reading.{none-some}
use Rattle.calendar.specs.Levels.{levels}
use Rattle.schema.specs.laws.Sets.{calendar_place}
use Rattle.edition.specs.declared.Edition.{Edition}
use Rattle.validity.specs.ValidCalendar.{at_top}
use Rattle.json_text.specs.Tree.{Json, string, number, literal, array, object, Elements, no_elements, element, first_of, value_of, element_list}
use Rattle.json_text.specs.Kinds.{as_array}
use Rattle.jcal.specs.Components.{components_verdict, stream_in, is_stream, calendars_in}
use Rattle.read_json.specs.TreeAt.{tokens_at, elements_at}
use Rattle.read_json.specs.Heads.{value_by, value_of_head, head_by, HeadAt}
use Rattle.read_json.specs.Kinds.{is_array}
use Rattle.read_json.specs.declared.Head.{Head}
use Rattle.read_json.specs.declared.HeadKind.{HeadKind}
use Rattle.read_json.specs.declared.HeadKind.TheVariants.{Absent, String, Number, Literal, Array, Object}
use Rattle.refusals.specs.Fault.{judged_as}
use Rattle.refusals.specs.declared.Fault.{Fault}
use Rattle.read_jcal.specs.laws.Judging.{fine_after}
use Rattle.read_jcal.specs.laws.Arrays.{first_found, value_array, value_other, array_read, head_inside}
use Rattle.read_jcal.specs.Components.{Names}
use Rattle.read_jcal.specs.Subcomponents.{ComponentAt, CompsAt}
use Rattle.read_jcal.specs.declared.Outer.TheVariants.{Stream}

-- ---- the value of a text

first_by : (s : List ℕ) (p n : ℕ) (k : HeadKind) → first_of (head_by k s p n) ≡ value_by k s p n
first_by s p n Absent = refl
first_by s p n String = refl
first_by s p n Number = refl
first_by s p n Literal = refl
first_by s p n Array = refl
first_by s p n Object = refl

value_is : {s : List ℕ} {h : Head} → HeadAt s 0 h → value_of s ≡ value_of_head s h
unfolding value_of elements_at tokens_at
value_is {s} {h} t = ap first_of t.is ∙ first_by s h.place h.next h.kind

-- ---- whether it is a stream

no_stream : (v : Json) → as_array v ≡ None → is_stream v ≡ false
unfolding element_list and_then is_read
no_stream (string p s) h = refl
no_stream (number p s) h = refl
no_stream (literal p s) h = refl
no_stream (array p e vs) h = none-some (sym h)
no_stream (object p e ms) h = refl

module _ (s : List ℕ) (h : Head) {b : Bool} (e : b ≡ is_array h.kind) where
  pub stream_other : b ≡ false → false ≡ is_stream (value_of_head s h)
  stream_other y = sym (no_stream (value_of_head s h) (value_other s h (sym e ∙ y)))

  pub stream_array : {f : Head} {r : Bool} → b ≡ true → HeadAt s h.next f → r ≡ is_array f.kind → r ≡ is_stream (value_of_head s h)
  stream_array {f} y t g =
      g ∙ sym (array_read s f) ∙ sym (ap is_stream (value_array s h (sym e ∙ y)) ∙ ap (λ (o : Option Json). is_read (and_then o as_array)) (first_found t))

pub ruleset streams = (stream_other, stream_array, rules)

-- ---- the verdict

at_top_lem : Names Stream at_top
at_top_lem = record { is = λ n. calendar_place n }

module _ (ed : Edition) {s : List ℕ} {h : Head} (t : HeadAt s 0 h) {b : Bool} (e : b ≡ is_stream (value_of_head s h)) where
  calendars_are : calendars_in (value_of s) ≡ pick b (stream_in (value_of_head s h)) (element (value_of_head s h) no_elements)
  unfolding calendars_in
  calendars_are = rw (value_is t, e)

  pub one_alone : {r : Result ⊤ Fault} → b ≡ false → ComponentAt ed Stream levels false s h r → components_verdict ed (calendars_in (value_of s)) at_top levels false ≡ judged_as r
  unfolding pick components_verdict
  one_alone y d = rw (calendars_are, y) (fine_after _ ∙ d.is at_top at_top_lem)

  pub several : {r : Result ⊤ Fault} → b ≡ true → CompsAt ed Stream levels false s h.next r → components_verdict ed (calendars_in (value_of s)) at_top levels false ≡ judged_as r
  unfolding pick
  several y d = rw (calendars_are, y) (ap (λ (es : Elements). components_verdict ed es at_top levels false) stream_is ∙ d.is at_top at_top_lem)
    where
      stream_is : stream_in (value_of_head s h) ≡ elements_at s h.next
      stream_is = go (is_array h.kind) refl
        where
          go : (a : Bool) → is_array h.kind ≡ a → stream_in (value_of_head s h) ≡ elements_at s h.next
          go true z = ap stream_in (value_array s h z)
          go false z = absurd (false≢true (sym (no_stream (value_of_head s h) (value_other s h z)) ∙ sym e ∙ y))

pub ruleset calendars = (one_alone, several, head_inside, rules)
