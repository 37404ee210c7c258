-- Laws of what specs/Components.antt defines.
--     beginning    the rules of whether a component may stand there, and of its elements
--     shapes       the rules of its shape
--     opening      the rules of its properties
--     begins       the rules of a component up to its subcomponents
--     closing      the rules of a component behind them
use Prim.{tt}
use Rattle.std.specs.Prelude.{◌≡◌, Bool, true, false, not, ℕ, suc, ◌-◌, ◌<◌, eqb, ltb, length, drop, Option, None, Some, Result, Ok, Err}
use Rattle.std.proofs.Math.Path.{refl, sym, ap}
use Rattle.std.proofs.Common.{subst, ◌∙◌, arith, rules}
use mathlib.Core.List.{List, [], ◌∷◌}
use borrow.Author.Tests.{ne_eqb, lt-ltb, le-ltb}
use Rattle.octets.specs.Pick.{pick, ◌and◌}
use Rattle.octets.specs.laws.Pick.{and_both}
use Rattle.octets.specs.Class.{upper}
use Rattle.octets.specs.Words.{is_empty}
use Rattle.octets.specs.Reading.{and_then, is_read, read_or}
use Rattle.octets.specs.laws.Reading.{none-some}
use Rattle.names.specs.Table.{place_of}
use Rattle.calendar.specs.Calendar.{Property}
use Rattle.calendar.specs.Refusal.{FRAME, refuse, ◌otherwise◌}
use Rattle.schema.specs.Components.{component_names, may_contain}
use Rattle.schema.specs.Columns.{may_begin}
use Rattle.schema.specs.Counts.{method_for, complete}
use Rattle.schema.specs.Completing.{complete_at}
use Rattle.edition.specs.declared.Edition.{Edition}
use Rattle.json_text.specs.Tree.{Json, string, number, literal, array, object, Elements, place_of as json_place, end_place, element_list}
use Rattle.json_text.specs.Kinds.{as_string, as_array, nth}
use Rattle.jcal.specs.Property.{name_in, is_bad_name}
use Rattle.jcal.specs.Components.{component_name, property_arrays, component_arrays, component_fault, properties_verdict, components_verdict, component_verdict, inner_verdict, array_verdict}
use Rattle.read_json.specs.TreeAt.{tokens_at, elements_at, string_at}
use Rattle.read_json.specs.Closing.{EndedAt}
use Rattle.read_json.specs.Heads.{value_of_head}
use Rattle.read_json.specs.Kinds.{is_string, is_array}
use Rattle.read_json.specs.laws.Kinds.{string_there, array_there}
use Rattle.read_json.specs.declared.Ended.{Ended}
use Rattle.read_json.specs.declared.Head.{Head}
use Rattle.tallies.specs.declared.Kept.{Kept}
use Rattle.read_jcal.specs.Arrays.{place_in, ThreeAt, name_found, array_found}
use Rattle.read_jcal.specs.laws.Arrays.{as_string_lem, no_string, as_array_lem, value_array, value_other, value_place, array_read, three_first, three_second, three_third, three_others, three_elements, three_in}
use Rattle.read_jcal.specs.Properties.{stated_in, ListedAt}
use Rattle.read_jcal.specs.laws.Properties.{first_in}
use Rattle.read_jcal.specs.Components.{may_at, Names, is_whole, WholeAt, ShapeFits, ShapeAt, NamedFits, NamedShape, opened_as, OpenedFits, OpenedAt, end_of, around, BehindAt, part_of, PartFits, BegunAt}
use Rattle.read_jcal.specs.declared.Three.{Three}
use Rattle.refusals.specs.Fault.{fault_at}
use Rattle.refusals.specs.declared.Refusal as coded
use Rattle.refusals.specs.declared.Refusal.TheVariants.{Name, Frame, Count}
use Rattle.refusals.specs.declared.Fault.{Fault}
use Rattle.read_jcal.specs.declared.Outer.{Outer}
use Rattle.read_jcal.specs.declared.Outer.TheVariants.{Stream, Component}
use Rattle.read_jcal.specs.declared.Shape.{Shape}
use Rattle.read_jcal.specs.declared.Begun.{Begun}

-- ---- what may stand there

module _ {o : Outer} (n : ℕ) where
  pub may_stream : o ≡ Stream → eqb n 0 ≡ may_at o n
  may_stream e = rw e

  pub may_component : {k : ℕ} {b : Bool} → o ≡ Component k → b ≡ may_begin k n → b ≡ may_at o n
  may_component e f = f ∙ rw e

-- ---- its elements

module _ (s : List ℕ) (p : Three) {a : Bool} (e : a ≡ is_array p.second.kind) where
  pub whole_one : a ≡ false → a ≡ is_whole s p
  unfolding ◌and◌
  whole_one x = x ∙ rw (← e, x)

  module _ (x : a ≡ true) {b : Bool} (f : b ≡ is_array p.third.kind) where
    pub whole_two : b ≡ false → b ≡ is_whole s p
    unfolding ◌and◌
    whole_two y = y ∙ rw (← e, x, ← f, y)

    pub whole_three : b ≡ true → {d : Bool} → d ≡ not (is_empty (element_list (elements_at s p.next))) → not d ≡ is_whole s p
    unfolding ◌and◌
    whole_three y {d} g = rw (← e, x, ← f, y, g) (twice (is_empty (element_list (elements_at s p.next))))
      where
        twice : (b : Bool) → not (not b) ≡ b
        twice true = refl
        twice false = refl

pub ruleset beginning = (may_stream, may_component, whole_one, whole_two, whole_three, rules)

-- ---- its shape, where it has a name

module _ (o : Outer) (left : ℕ) (s : List ℕ) (p : Three) {b : Bool} (e : b ≡ is_whole s p) where
  pub named_part : b ≡ false → NamedShape o left s p (Err Frame)
  unfolding ◌and◌ pick
  named_part y = record { is = λ may m. rw (← e, y); fits = tt }

  module _ (y : b ≡ true) {n : ℕ} (f : n ≡ place_of (upper (string_at s p.first.place)) component_names) {d : Bool} (g : d ≡ may_at o n) where
    may_is : (may : List ℕ → Bool) → Names o may → may (upper (string_at s p.first.place)) ≡ d
    may_is may m = m.is (upper (string_at s p.first.place)) ∙ ap (may_at o) (sym f) ∙ sym g

    pub named_off : d ≡ false → NamedShape o left s p (Err Frame)
    unfolding ◌and◌ pick
    named_off z = record { is = λ may m. rw (← e, y, may_is may m, z); fits = tt }

    pub named_deep : d ≡ true → left ≡ 0 → NamedShape o left s p (Err Frame)
    unfolding ◌and◌ pick
    named_deep z l = record { is = λ may m. rw (← e, y, may_is may m, z, le-ltb 0 left (omega arith)); fits = tt }

    pub named_whole : d ≡ true → (left ≡ 0 → ⊥) → NamedShape o left s p (Ok (record { component = n; properties = p.second.next; components = p.third.next }))
    unfolding ◌and◌ pick
    named_whole z k =
        let l : 0 < left = omega arith in
        let w = and_both (is_array p.second.kind) (is_array p.third.kind and is_empty (element_list (elements_at s p.next))) (sym e ∙ y) in record {
          is = λ may m. rw (← e, y, may_is may m, z, lt-ltb 0 left l);
          fits = (f, refl, refl, l, w.0, (and_both (is_array p.third.kind) (is_empty (element_list (elements_at s p.next))) w.1).0);
        }

-- ---- its shape

-- three elements, of which the last is there: as many as that, or more
three_there : (vs : List Json) → (is_read (and_then (nth 2 vs) as_array) and eqb (length vs) 3) ≡ (is_read (and_then (nth 2 vs) as_array) and is_empty (drop 3 vs))
unfolding ◌and◌ is_read and_then
three_there [] = refl
three_there (a ∷ []) = refl
three_there (a ∷ b ∷ []) = refl
three_there (a ∷ b ∷ c ∷ []) = refl
three_there (a ∷ b ∷ c ∷ d ∷ vs) = ap (λ (t : Bool). is_read (as_array c) and t) (ne_eqb (suc (suc (suc (suc (length vs))))) 3 (λ e. omega arith))

module _ {s : List ℕ} {inside : ℕ} {p : Three} (t : ThreeAt s inside p) where
  abbrev here : List Json
  here = element_list (elements_at s inside)

  name_is : name_in here ≡ name_found s p.first
  name_is = ap (λ (o : Option Json). and_then o as_string) (three_first t)

  properties_are : property_arrays here ≡ array_found s p.second
  properties_are = ap (λ (o : Option Json). and_then o as_array) (three_second t)

  components_are : component_arrays here ≡ array_found s p.third
  components_are = ap (λ (o : Option Json). and_then o as_array) (three_third t)

  whole_is : (is_read (property_arrays here) and is_read (component_arrays here) and eqb (length here) 3) ≡ is_whole s p
  whole_is =
      ap (λ (b : Bool). is_read (property_arrays here) and b) (three_there here)
      ∙ rw (properties_are, components_are, three_others t, array_read s p.second, array_read s p.third)

  module _ (o : Outer) (left : ℕ) {b : Bool} (e : b ≡ is_string p.first.kind) where
    pub shape_no_name : b ≡ false → ShapeAt o left s inside (Err Frame)
    unfolding component_fault pick is_read ◌and◌
    shape_no_name y = record { is = λ may m. rw (name_is, no_string s p.first (sym e ∙ y)); fits = tt }

    module _ (y : b ≡ true) {d : Bool} (f : d ≡ is_bad_name (string_at s p.first.place)) where
      named : name_in here ≡ Some (string_at s p.first.place)
      named = name_is ∙ as_string_lem s p.first (sym e ∙ y)

      pub shape_bad_name : d ≡ true → ShapeAt o left s inside (Err Name)
      unfolding component_fault pick
      shape_bad_name z = record { is = λ may m. rw (named, ← f, z); fits = tt }

      fault_named : (may : List ℕ → Bool) → d ≡ false → component_fault may left here ≡ pick (is_whole s p and may (upper (string_at s p.first.place)) and ltb 0 left) None (Some FRAME)
      unfolding component_fault is_read read_or ◌and◌ pick
      fault_named may z = rw (named, whole_is, ← f, z)

      -- the third element
      inner_is : is_array p.second.kind ≡ true → is_array p.third.kind ≡ true → (ed : Edition) (may : List ℕ → Bool) (l : ℕ) (m : Bool) →
          inner_verdict ed (elements_at s inside) 2 may l m ≡ components_verdict ed (elements_at s p.third.next) may l m
      unfolding inner_verdict array_verdict
      inner_is u v ed may l m =
          ap (λ (es : Elements). inner_verdict ed es 2 may l m) (three_elements t (string_there p.first.kind (sym e ∙ y)) (array_there p.second.kind u) (array_there p.third.kind v))
          ∙ ap (λ (j : Json). array_verdict ed j may l m) (value_array s p.third v)

      whole_at : {r : Shape} → NamedFits s left p (Ok r) → WholeAt s inside left r.component r.properties r.components
      unfolding read_or
      whole_at w = record {
        number = w.0 ∙ sym (ap (λ (o : Option (List ℕ)). place_of (upper (read_or [] o)) component_names) named);
        properties = properties_are ∙ as_array_lem s p.second w.4 ∙ ap (λ (j : ℕ). Some (element_list (elements_at s j))) (sym w.1);
        components = components_are ∙ as_array_lem s p.third w.5 ∙ ap (λ (j : ℕ). Some (element_list (elements_at s j))) (sym w.2);
        inner = λ ed may l m. inner_is w.4 w.5 ed may l m ∙ ap (λ (j : ℕ). components_verdict ed (elements_at s j) may l m) (sym w.2);
        deep = w.3;
      }

      pub shape_named : {r : Result Shape coded.Refusal} → d ≡ false → NamedShape o left s p r → ShapeAt o left s inside r
      shape_named {r} z n = record { is = λ may m. fault_named may z ∙ n.is may m; fits = go r n.fits }
        where
          go : (r : Result Shape coded.Refusal) → NamedFits s left p r → ShapeFits s inside left r
          go (Ok r) w = whole_at w
          go (Err n) w = tt

pub ruleset shapes = (named_part, named_off, named_deep, named_whole, shape_no_name, shape_bad_name, shape_named, first_in, three_in, rules)

-- ---- its properties

module _ (ed : Edition) {s : List ℕ} {h : Shape} where
  pub opened_fine : {t : Kept} → ListedAt ed h.component s h.properties (Ok t) → OpenedAt ed s h (Ok (record { component = h.component; components = h.components; kept = t }))
  unfolding ◌otherwise◌
  opened_fine d = record { is = λ c a v. rw (d.is c a); fits = λ c a. (refl, refl, d.counted c a) }

  pub opened_refused : {f : Fault} → ListedAt ed h.component s h.properties (Err f) → OpenedAt ed s h (Err f)
  unfolding ◌otherwise◌
  opened_refused d = record { is = λ c a v. rw (d.is c a); fits = λ c a. tt }

pub ruleset opening = (opened_fine, opened_refused, rules)

-- ---- up to its subcomponents

module _ (ed : Edition) {o : Outer} {left : ℕ} {s : List ℕ} {inside : ℕ} (place : ℕ) where
  pub begun_faulty : {n : coded.Refusal} → ShapeAt o left s inside (Err n) → BegunAt ed o left s inside (array place (end_place (tokens_at s inside) 0) (elements_at s inside)) (Err (fault_at n place))
  unfolding component_verdict ◌otherwise◌
  begun_faulty d = record { name = []; stated = []; is = λ may m t. rw (d.is may m); fits = tt }

  module _ {h : Shape} (d : ShapeAt o left s inside (Ok h)) where
    abbrev i : List ℕ
    i = component_name (element_list (elements_at s inside))

    abbrev ps : List Property
    ps = stated_in i (element_list (elements_at s h.properties))

    verdict_whole : (may : List ℕ → Bool) → Names o may → (m : Bool) → component_verdict ed (array place (end_place (tokens_at s inside) 0) (elements_at s inside)) may left m ≡
        (properties_verdict ed i (element_list (elements_at s h.properties)) otherwise components_verdict ed (elements_at s h.components) (may_contain i) (left - 1) (method_for i ps m) otherwise end_of (complete i ps (around s h.components m)) (end_place (tokens_at s inside) 0))
    unfolding component_verdict ◌otherwise◌ read_or
    verdict_whole may m t = rw (d.is may m, d.fits.properties, d.fits.components, d.fits.inner ed)

    pub begun_opened : {b : Result Begun Fault} → OpenedAt ed s h b → BegunAt ed o left s inside (array place (end_place (tokens_at s inside) 0) (elements_at s inside)) b
    begun_opened {b} a = record {
      name = i;
      stated = ps;
      is = λ may m t. verdict_whole may m t ∙ a.is i d.fits.number _ ∙ go t b (a.fits i d.fits.number);
      fits = kept b (a.fits i d.fits.number);
    }
      where
        go : (m : Bool) (part : Result Begun Fault) → OpenedFits h.component h.components ps part →
            opened_as (components_verdict ed (elements_at s h.components) (may_contain i) (left - 1) (method_for i ps m) otherwise end_of (complete i ps (around s h.components m)) (end_place (tokens_at s inside) 0)) part ≡ part_of ed left m s inside i ps part
        go m (Ok y) f = rw f.1
        go m (Err j) f = refl

        kept : (part : Result Begun Fault) → OpenedFits h.component h.components ps part → PartFits ed left i ps part
        kept (Ok y) f = (f.0 ∙ d.fits.number, f.2, d.fits.deep)
        kept (Err j) f = tt

no_component_lem : (ed : Edition) (v : Json) → as_array v ≡ None → (may : List ℕ → Bool) (left : ℕ) (m : Bool) → component_verdict ed v may left m ≡ refuse FRAME (json_place v)
unfolding component_verdict
no_component_lem ed (string p s) h may left m = refl
no_component_lem ed (number p s) h may left m = refl
no_component_lem ed (literal p s) h may left m = refl
no_component_lem ed (array p e vs) h may left m = none-some (sym h)
no_component_lem ed (object p e ms) h may left m = refl

module _ (ed : Edition) (o : Outer) (left : ℕ) (s : List ℕ) (h : Head) {b : Bool} (e : b ≡ is_array h.kind) where
  pub begun_array : {g : Result Begun Fault} → b ≡ true → BegunAt ed o left s h.next (array h.place (end_place (tokens_at s h.next) 0) (elements_at s h.next)) g → BegunAt ed o left s h.next (value_of_head s h) g
  begun_array y d = rw (value_array s h (sym e ∙ y)) d

  pub begun_other : {q : ℕ} → b ≡ false → q ≡ place_in h → BegunAt ed o left s h.next (value_of_head s h) (Err (fault_at Frame q))
  begun_other y f = record { name = []; stated = []; is = λ may m t. no_component_lem ed (value_of_head s h) (value_other s h (sym e ∙ y)) may left t ∙ rw (value_place s h, ← f); fits = tt }

pub ruleset begins = (begun_faulty, begun_opened, begun_array, begun_other, rules)

-- ---- behind them

module _ (c : Begun) (m : Bool) (s : List ℕ) (inside : ℕ) {inner : Bool} (e : inner ≡ not (is_empty (element_list (elements_at s c.components)))) {b : Bool}
    (f : b ≡ complete_at c.component c.kept.counts c.kept.action (record { inner = inner; method = m })) where
  complete_is : complete_at c.component c.kept.counts c.kept.action (around s c.components m) ≡ b
  complete_is = ap (λ (i : Bool). complete_at c.component c.kept.counts c.kept.action (record { inner = i; method = m })) (sym e) ∙ sym f

  pub behind_fine : b ≡ true → BehindAt c m s inside (Ok tt)
  unfolding pick
  behind_fine y = record { is = rw (complete_is, y) }

  pub behind_count : {p : ℕ} → b ≡ false → end_place (tokens_at s inside) 0 ≡ p → BehindAt c m s inside (Err (fault_at Count p))
  unfolding pick
  behind_count y d = record { is = rw (complete_is, y, d) }

pub closing_found : {s : List ℕ} {inside : ℕ} {r : Ended} → EndedAt s inside (Some r) → end_place (tokens_at s inside) 0 ≡ r.place
closing_found d = d.place

pub closing_none : {s : List ℕ} {inside : ℕ} → EndedAt s inside None → end_place (tokens_at s inside) 0 ≡ 0
closing_none d = d.place

pub ruleset closing = (behind_fine, behind_count, closing_found, closing_none, rules)
