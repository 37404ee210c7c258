-- The array of a component: its shape, up to its subcomponents, and behind them.
--     may_at, Names    the components that may stand in a stream, or in a component
--     is_whole         two arrays behind the first element, and nothing more
--     NamedShape, ShapeAt    the contracts of `named_shape` and `shape_of`: a component that may stand there, or its fault
--     OpenedAt         the contract of `opened`: its properties
--     BegunAt          the contract of `array_begun` and `begun`: the verdict, or the subcomponents that are to be judged, and what is kept of its properties
--     end_of           its tallies are compared at its closing bracket
use Prim.{Unit}
use Rattle.std.specs.Prelude.{◌≡◌, Bool, true, not, List, ℕ, ◌-◌, ◌≤◌, eqb, ltb, None, Some, ⊤, Result, Ok, Err}
use Rattle.octets.specs.Pick.{pick, ◌and◌}
use Rattle.octets.specs.Class.{upper}
use Rattle.octets.specs.Words.{is_empty}
use Rattle.names.specs.Table.{place_of}
use Rattle.calendar.specs.Calendar.{Property}
use Rattle.calendar.specs.Refusal.{FRAME, COUNT, Verdict, fine, refuse, ◌otherwise◌}
use Rattle.schema.specs.Components.{component_names, may_contain}
use Rattle.schema.specs.Columns.{may_begin}
use Rattle.schema.specs.Counts.{Around, method_for, complete}
use Rattle.schema.specs.Completing.{complete_at}
use Rattle.edition.specs.declared.Edition.{Edition}
use Rattle.json_text.specs.Tree.{Json, end_place, element_list}
use Rattle.jcal.specs.Components.{component_name, property_arrays, component_arrays, component_fault, properties_verdict, components_verdict, component_verdict, inner_verdict}
use Rattle.read_json.specs.TreeAt.{tokens_at, elements_at, string_at}
use Rattle.tallies.specs.Counting.{Counted}
use Rattle.read_json.specs.Kinds.{is_array}
use Rattle.refusals.specs.Fault.{refusal_of, judged_as}
use Rattle.refusals.specs.declared.Refusal as coded
use Rattle.refusals.specs.declared.Fault.{Fault}
use Rattle.read_jcal.specs.Judging.{fault_as}
use Rattle.read_jcal.specs.Properties.{stated_in}
use Rattle.read_jcal.specs.declared.Three.{Three}
use Rattle.read_jcal.specs.declared.Outer.{Outer}
use Rattle.read_jcal.specs.declared.Outer.TheVariants.{Stream, Component}
use Rattle.read_jcal.specs.declared.Shape.{Shape}
use Rattle.read_jcal.specs.declared.Begun.{Begun}

-- ---- what may stand there

-- 0 is VCALENDAR
abbrev pub may_at : Outer → ℕ → Bool
may_at Stream n = eqb n 0
may_at (Component k) n = may_begin k n

pub record Names (o : Outer) (may : List ℕ → Bool) : Type 0 where
  pub is : (n : List ℕ) → may n ≡ may_at o (place_of n component_names)

-- ---- its shape

abbrev pub is_whole : List ℕ → Three → Bool
is_whole s p = is_array p.second.kind and is_array p.third.kind and is_empty (element_list (elements_at s p.next))

-- a component of the number n: its properties stand from q on, its subcomponents from x on; `left` levels are left
pub record WholeAt (s : List ℕ) (inside left n q x : ℕ) : Type 0 where
  pub number : n ≡ place_of (component_name (element_list (elements_at s inside))) component_names
  pub properties : property_arrays (element_list (elements_at s inside)) ≡ Some (element_list (elements_at s q))
  pub components : component_arrays (element_list (elements_at s inside)) ≡ Some (element_list (elements_at s x))
  pub inner : (ed : Edition) (may : List ℕ → Bool) (l : ℕ) (m : Bool) → inner_verdict ed (elements_at s inside) 2 may l m ≡ components_verdict ed (elements_at s x) may l m
  pub deep : 1 ≤ left

abbrev pub ShapeFits : List ℕ → ℕ → ℕ → Result Shape coded.Refusal → Type 0
ShapeFits s inside left (Ok h) = WholeAt s inside left h.component h.properties h.components
ShapeFits s inside left (Err r) = Unit {0}

pub record ShapeAt (o : Outer) (left : ℕ) (s : List ℕ) (inside : ℕ) (r : Result Shape coded.Refusal) : Type 0 where
  pub is : (may : List ℕ → Bool) → Names o may → component_fault may left (element_list (elements_at s inside)) ≡ fault_as r
  pub fits : ShapeFits s inside left r

-- of three elements, of which the first is a name
abbrev pub NamedFits : List ℕ → ℕ → Three → Result Shape coded.Refusal → Type 0
NamedFits s left p (Ok h) =
    (h.component ≡ place_of (upper (string_at s p.first.place)) component_names) × (h.properties ≡ p.second.next) × (h.components ≡ p.third.next) × (1 ≤ left) × (is_array p.second.kind ≡ true) × (is_array p.third.kind ≡ true)
NamedFits s left p (Err r) = Unit {0}

pub record NamedShape (o : Outer) (left : ℕ) (s : List ℕ) (p : Three) (r : Result Shape coded.Refusal) : Type 0 where
  pub is : (may : List ℕ → Bool) → Names o may → pick (is_whole s p and may (upper (string_at s p.first.place)) and ltb 0 left) None (Some FRAME) ≡ fault_as r
  pub fits : NamedFits s left p r

-- ---- its properties

abbrev pub opened_as : Verdict → Result Begun Fault → Verdict
opened_as v (Ok b) = v
opened_as v (Err f) = refuse (refusal_of f.refusal) f.place

-- what is kept is that of the properties ps
abbrev pub OpenedFits : ℕ → ℕ → List Property → Result Begun Fault → Type 0
OpenedFits k x ps (Ok b) = (b.component ≡ k) × (b.components ≡ x) × Counted ps b.kept
OpenedFits k x ps (Err f) = Unit {0}

module _ (ed : Edition) where
  pub record OpenedAt (s : List ℕ) (h : Shape) (r : Result Begun Fault) : Type 0 where
    pub is : (c : List ℕ) → h.component ≡ place_of c component_names → (v : Verdict) → (properties_verdict ed c (element_list (elements_at s h.properties)) otherwise v) ≡ opened_as v r
    pub fits : (c : List ℕ) → h.component ≡ place_of c component_names → OpenedFits h.component h.components (stated_in c (element_list (elements_at s h.properties))) r

-- ---- behind its subcomponents

-- b says whether the tallies are as they must be; e is the closing bracket
abbrev pub end_of : Bool → ℕ → Verdict
end_of b e = pick b fine (refuse COUNT e)

-- what stands around its properties: its subcomponents stand from x on
abbrev pub around : List ℕ → ℕ → Bool → Around
around s x m = record { inner = not (is_empty (element_list (elements_at s x))); method = m }

pub record BehindAt (b : Begun) (m : Bool) (s : List ℕ) (inside : ℕ) (r : Result ⊤ Fault) : Type 0 where
  pub is : end_of (complete_at b.component b.kept.counts b.kept.action (around s b.components m)) (end_place (tokens_at s inside) 0) ≡ judged_as r

-- ---- up to its subcomponents

module _ (ed : Edition) where
  -- of a component of the name i with the properties ps; m says whether the calendar round it has METHOD
  abbrev pub part_of : ℕ → Bool → List ℕ → ℕ → List ℕ → List Property → Result Begun Fault → Verdict
  part_of left m s inside i ps (Ok b) =
      components_verdict ed (elements_at s b.components) (may_contain i) (left - 1) (method_for i ps m) otherwise end_of (complete i ps (around s b.components m)) (end_place (tokens_at s inside) 0)
  part_of left m s inside i ps (Err f) = refuse (refusal_of f.refusal) f.place

  abbrev pub PartFits : ℕ → List ℕ → List Property → Result Begun Fault → Type 0
  PartFits left i ps (Ok b) = (b.component ≡ place_of i component_names) × Counted ps b.kept × (1 ≤ left)
  PartFits left i ps (Err f) = Unit {0}

  pub record BegunAt (o : Outer) (left : ℕ) (s : List ℕ) (inside : ℕ) (v : Json) (r : Result Begun Fault) : Type 0 where
    pub name : List ℕ
    pub stated : List Property
    pub is : (may : List ℕ → Bool) → Names o may → (m : Bool) → component_verdict ed v may left m ≡ part_of left m s inside name stated r
    pub fits : PartFits left name stated r
