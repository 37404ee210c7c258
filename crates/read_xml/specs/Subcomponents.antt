-- A whole component, and the children of `components`, of which each is a component that may have `components` itself.
--     NumberedAt    the contract of `sub_number`: the number of a component that may stand there
--     ComponentAt   the contract of `component_verdict`, with l levels left in the component
--     method_kept   the METHOD that it hands down
--     SubAt         the contract of `sub_at`: the end, or where the children of `components` go on, or a component that begins there; or the refusal
--     CompsAt       the contract of `components_verdict`: whether a component stands there, or the refusal
use Prim.{Unit}
use Rattle.std.specs.Prelude.{◌≡◌, ⊤, Bool, true, false, not, List, ℕ, ◌-◌, ◌<◌, ltb, length, Option, Result, Ok, Err, is_some, IfSome, IfOk}
use Rattle.octets.specs.Pick.{pick, ◌and◌}
use Rattle.octets.specs.Class.{upper}
use Rattle.names.specs.Table.{place_of}
use Rattle.calendar.specs.Refusal.{Verdict, fine, ◌otherwise◌}
use Rattle.schema.specs.Components.{component_names, may_contain}
use Rattle.schema.specs.Completing.{method_at}
use Rattle.xml.specs.Nodes.{has_element}
use Rattle.xcal.specs.ComponentNodes.{is_complete, bad_component, component_verdict, components_verdict}
use Rattle.xml.specs.NodesAt.{nodes_at}
use Rattle.refusals.specs.Fault.{judged_as}
use Rattle.refusals.specs.declared.Fault.{Fault}
use Rattle.edition.specs.declared.Edition.{Edition}
use Rattle.read_xml.specs.Components.{come}
use Rattle.read_xml.specs.Properties.{verdict_of}
use Rattle.tallies.specs.declared.Kept.{Kept}
use Rattle.read_xml.specs.declared.Sub.{Sub}
use Rattle.read_xml.specs.declared.Sub.TheVariants.{Done, Past, Begins}

-- ---- the number of a component

-- in a component of the number k, with l levels left in it
pub record NumberedAt (k l : ℕ) (m : List ℕ) (r : Option ℕ) : Type 0 where
  pub is : (c : List ℕ) → k ≡ place_of c component_names → (not (bad_component m) and may_contain c (upper m) and ltb 0 l) ≡ is_some r
  pub number : IfSome r (λ n. (n ≡ place_of (upper m) component_names) × (0 < l))

-- METHOD of the calendar that its subcomponents stand in, by what is kept
abbrev pub method_kept : ℕ → Kept → Bool → Bool → Bool
method_kept k t had method = pick had (method_at k t.counts method) method

-- what is left is shorter; and whether a component is left
abbrev pub SubFits : List ℕ → ℕ → List ℕ → ℕ → Result Sub Fault → Type 0
SubFits i l s at (Ok Done) = has_element (nodes_at s at) ≡ false
SubFits i l s at (Ok (Past d)) = (length s - d < length s - at) × (has_element (nodes_at s at) ≡ has_element (nodes_at s d))
SubFits i l s at (Ok (Begins n q z d)) = (n ≡ place_of i component_names) × (length s - q < length s - at) × (length s - d < length s - at) × (has_element (nodes_at s at) ≡ true) × (0 < l)
SubFits i l s at (Err f) = Unit {0}

-- ---- a node of `components`

-- the verdict on the children of `components` in a component c, where this node is what is found; i is the name of the component that begins there
abbrev pub sub_of : Edition → List ℕ → List ℕ → ℕ → Bool → List ℕ → ℕ → Bool → Result Sub Fault → Verdict
sub_of ed i c l method s e any (Ok Done) = fine
sub_of ed i c l method s e any (Ok (Past d)) = components_verdict ed (nodes_at s d) c l method any e
sub_of ed i c l method s e any (Ok (Begins n q z d)) =
    component_verdict ed (nodes_at s q) i (l - 1) (is_complete i method (nodes_at s q)) (come false false method) z otherwise components_verdict ed (nodes_at s d) c l method true e
sub_of ed i c l method s e any (Err f) = judged_as (Err f)

pub record SubAt (k l : ℕ) (s : List ℕ) (e at : ℕ) (any : Bool) (r : Result Sub Fault) : Type 0 where
  pub inner : List ℕ
  pub is : (ed : Edition) (c : List ℕ) → k ≡ place_of c component_names → (method : Bool) → components_verdict ed (nodes_at s at) c l method any e ≡ sub_of ed inner c l method s e any r
  pub fits : SubFits inner l s at r

-- ---- the walk

module _ (ed : Edition) where
  -- ---- a component

  -- method says whether the calendar round it has METHOD
  pub record ComponentAt (k l : ℕ) (method : Bool) (s : List ℕ) (from e : ℕ) (r : Result ⊤ Fault) : Type 0 where
    pub is : (c : List ℕ) → k ≡ place_of c component_names → component_verdict ed (nodes_at s from) c l (is_complete c method (nodes_at s from)) (come false false method) e ≡ judged_as r

  pub record CompsAt (k l : ℕ) (method : Bool) (s : List ℕ) (from e : ℕ) (r : Result Bool Fault) : Type 0 where
    pub is : (c : List ℕ) → k ≡ place_of c component_names → components_verdict ed (nodes_at s from) c l method false e ≡ verdict_of r
    pub held : IfOk r (λ b. b ≡ has_element (nodes_at s from))
