-- The children of a component: up to its `components`, and behind it.
--     EndAt        the contract of `end_of`: its tallies are compared at its end tag
--     WhichAt      the contract of `which_child`
--     MetAt        the contract of `child_at`: what stands next in a component before its `components`
--     HeadAt       the contract of `head`: the `components` that is to be judged, and what is kept of its properties; none at the component's end; or the refusal
--     BehindAt     the contract of `behind`
use Prim.{Unit}
use Rattle.std.specs.Prelude.{◌≡◌, ⊤, Bool, true, false, not, List, ℕ, ◌-◌, ◌<◌, eqb, leb, length, Option, None, Some, Result, Ok, Err}
use Rattle.octets.specs.Ascii.{ascii}
use Rattle.octets.specs.Pick.{pick, ◌and◌, ◌or◌}
use Rattle.octets.specs.Words.{same}
use Rattle.names.specs.Table.{place_of}
use Rattle.calendar.specs.Refusal.{Verdict, fine, ◌otherwise◌}
use Rattle.schema.specs.Components.{component_names}
use Rattle.schema.specs.Counts.{method_for}
use Rattle.schema.specs.Completing.{complete_at}
use Rattle.xml.specs.Nodes.{Nodes, no_nodes}
use Rattle.xcal.specs.PropertyNodes.{properties_verdict, read_properties}
use Rattle.xcal.specs.ComponentNodes.{inside_of, is_complete, Come, end_of_component, end_of_components, component_verdict, components_verdict}
use Rattle.xml.specs.NodesAt.{nodes_at}
use Rattle.refusals.specs.Fault.{judged_as}
use Rattle.refusals.specs.declared.Fault.{Fault}
use Rattle.edition.specs.declared.Edition.{Edition}
use Rattle.tallies.specs.Counting.{Counted}
use Rattle.tallies.specs.declared.Kept.{Kept}
use Rattle.read_xml.specs.declared.Which.{Which}
use Rattle.read_xml.specs.declared.Which.TheVariants.{Properties, Components, Other}
use Rattle.read_xml.specs.declared.Met.{Met}
use Rattle.read_xml.specs.declared.Met.TheVariants.{End, Past, Properties as HasProperties, Components as HasComponents}
use Rattle.read_xml.specs.declared.Opened.{Opened}

-- ---- its two children

abbrev pub part_name : Bool → List ℕ
part_name true = ascii "properties"
part_name false = ascii "components"

-- what has come of them, and METHOD of the calendar that the subcomponents stand in
abbrev pub come : Bool → Bool → Bool → Come
come p c m = record { properties = p; components = c; method = m }

-- that METHOD, where m is that of the calendar round the component: whether `properties` has come, and the component's children
abbrev pub method_inside : List ℕ → Bool → Bool → Nodes → Bool
method_inside c m had kids = pick had (method_for c (read_properties (inside_of (ascii "properties") kids)) m) m

-- ---- end tags

-- what is kept is complete; inner says whether the component holds another, method whether the calendar round it has METHOD
abbrev pub complete_by : ℕ → Kept → Bool → Bool → Bool
complete_by k t inner method = complete_at k t.counts t.action (record { inner = inner; method = method })

pub record EndAt (k : ℕ) (t : Kept) (had came inner method : Bool) (e : ℕ) (r : Result ⊤ Fault) : Type 0 where
  pub is : (c : List ℕ) → k ≡ place_of c component_names → (counts : Bool) → (had ≡ true → counts ≡ complete_by k t inner method) → (m : Bool) → end_of_component c counts (come had came m) e ≡ judged_as r

pub record EndsAt (k : ℕ) (any : Bool) (e : ℕ) (r : Result ⊤ Fault) : Type 0 where
  pub is : (c : List ℕ) → k ≡ place_of c component_names → end_of_components c any e ≡ judged_as r

-- ---- which components have subcomponents: VCALENDAR, VEVENT, VTODO, VTIMEZONE, unrecognised ones

abbrev pub has_subs : ℕ → Bool
has_subs k = eqb k 0 or eqb k 1 or eqb k 2 or eqb k 5 or leb 9 k

-- ---- which child an element is

abbrev pub WhichIs : Bool → Bool → Which → Type 0
WhichIs p c Properties = p ≡ true
WhichIs p c Components = (p ≡ false) × (c ≡ true)
WhichIs p c Other = (p ≡ false) × (c ≡ false)

pub record WhichAt (k : ℕ) (had : Bool) (m : List ℕ) (r : Which) : Type 0 where
  pub is : WhichIs (same m (ascii "properties") and not had) (same m (ascii "components") and has_subs k) r

-- ---- what stands next before `components`

-- what is left is shorter; and the first child of a name, where it is known or left
abbrev pub MetFits : Bool → List ℕ → ℕ → Result Met Fault → Type 0
MetFits had s at (Ok End) = inside_of (ascii "components") (nodes_at s at) ≡ no_nodes
MetFits had s at (Ok (Past d)) = (length s - d < length s - at) × ((n : List ℕ) → inside_of n (nodes_at s at) ≡ inside_of n (nodes_at s d))
MetFits had s at (Ok (HasProperties q d)) =
    (length s - d < length s - at) × (had ≡ false) × (inside_of (ascii "properties") (nodes_at s at) ≡ nodes_at s q) × (inside_of (ascii "components") (nodes_at s at) ≡ inside_of (ascii "components") (nodes_at s d))
MetFits had s at (Ok (HasComponents q x d)) = (length s - q < length s - at) × (inside_of (ascii "components") (nodes_at s at) ≡ nodes_at s q)
MetFits had s at (Err f) = Unit {0}

-- the verdict on what stands from there on, with l levels left in the component
abbrev pub met_of : Edition → List ℕ → ℕ → Bool → Bool → Bool → List ℕ → ℕ → Result Met Fault → Verdict
met_of ed c l counts had m s e (Ok End) = end_of_component c counts (come had false m) e
met_of ed c l counts had m s e (Ok (Past d)) = component_verdict ed (nodes_at s d) c l counts (come had false m) e
met_of ed c l counts had m s e (Ok (HasProperties q d)) = properties_verdict ed c (nodes_at s q) otherwise component_verdict ed (nodes_at s d) c l counts (come true false (method_for c (read_properties (nodes_at s q)) m)) e
met_of ed c l counts had m s e (Ok (HasComponents q x d)) = components_verdict ed (nodes_at s q) c l m false x otherwise component_verdict ed (nodes_at s d) c l counts (come had true m) e
met_of ed c l counts had m s e (Err f) = judged_as (Err f)

pub record MetAt (k : ℕ) (had : Bool) (s : List ℕ) (at : ℕ) (r : Result Met Fault) : Type 0 where
  pub is : (ed : Edition) (c : List ℕ) → k ≡ place_of c component_names → (l : ℕ) (counts m : Bool) (e : ℕ) → component_verdict ed (nodes_at s at) c l counts (come had false m) e ≡ met_of ed c l counts had m s e r
  pub fits : MetFits had s at r

-- ---- up to `components`

-- `components` stands deeper, and is the first; the properties are those of the first `properties`
abbrev pub OpenedFits : List ℕ → ℕ → Result (Option Opened) Fault → Type 0
OpenedFits s from (Ok None) = Unit {0}
OpenedFits s from (Ok (Some o)) =
    (length s - o.inside < length s - from)
    × (inside_of (ascii "components") (nodes_at s from) ≡ nodes_at s o.inside)
    × (o.had ≡ true → Counted (read_properties (inside_of (ascii "properties") (nodes_at s from))) o.kept)
OpenedFits s from (Err f) = Unit {0}

module _ (ed : Edition) where
  abbrev pub opened_of : List ℕ → ℕ → Bool → Bool → List ℕ → ℕ → ℕ → Result (Option Opened) Fault → Verdict
  opened_of c l counts m s from e (Ok None) = fine
  opened_of c l counts m s from e (Ok (Some o)) =
      components_verdict ed (nodes_at s o.inside) c l (method_inside c m o.had (nodes_at s from)) false o.end otherwise component_verdict ed (nodes_at s o.next) c l counts (come o.had true (method_inside c m o.had (nodes_at s from))) e
  opened_of c l counts m s from e (Err f) = judged_as (Err f)

  pub record HeadAt (k : ℕ) (method : Bool) (s : List ℕ) (from e : ℕ) (r : Result (Option Opened) Fault) : Type 0 where
    pub is : (c : List ℕ) → k ≡ place_of c component_names → (l : ℕ) →
        component_verdict ed (nodes_at s from) c l (is_complete c method (nodes_at s from)) (come false false method) e ≡ opened_of c l (is_complete c method (nodes_at s from)) method s from e r
    pub fits : OpenedFits s from r

-- ---- behind `components`

pub record BehindAt (k : ℕ) (t : Kept) (had inner method : Bool) (s : List ℕ) (from e : ℕ) (r : Result ⊤ Fault) : Type 0 where
  pub is : (ed : Edition) (c : List ℕ) → k ≡ place_of c component_names → (l : ℕ) (counts : Bool) → (had ≡ true → counts ≡ complete_by k t inner method) → (m : Bool) →
      component_verdict ed (nodes_at s from) c l counts (come had true m) e ≡ judged_as r
