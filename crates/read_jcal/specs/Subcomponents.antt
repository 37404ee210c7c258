-- A whole component, and several, of which each may have subcomponents itself.
--     ComponentAt   the contract of `component_verdict`, with so many levels left
--     CompsAt       the contract of `components_verdict`
use Rattle.std.specs.Prelude.{◌≡◌, Bool, List, ℕ, ⊤, Result}
use Rattle.edition.specs.declared.Edition.{Edition}
use Rattle.jcal.specs.Components.{components_verdict, component_verdict}
use Rattle.read_json.specs.TreeAt.{elements_at}
use Rattle.read_json.specs.Heads.{value_of_head}
use Rattle.read_json.specs.declared.Head.{Head}
use Rattle.refusals.specs.Fault.{judged_as}
use Rattle.refusals.specs.declared.Fault.{Fault}
use Rattle.read_jcal.specs.Components.{Names}
use Rattle.read_jcal.specs.declared.Outer.{Outer}

module _ (ed : Edition) where
  -- method says whether the calendar round it has METHOD
  pub record ComponentAt (o : Outer) (left : ℕ) (method : Bool) (s : List ℕ) (h : Head) (r : Result ⊤ Fault) : Type 0 where
    pub is : (may : List ℕ → Bool) → Names o may → component_verdict ed (value_of_head s h) may left method ≡ judged_as r

  pub record CompsAt (o : Outer) (left : ℕ) (method : Bool) (s : List ℕ) (from : ℕ) (r : Result ⊤ Fault) : Type 0 where
    pub is : (may : List ℕ → Bool) → Names o may → components_verdict ed (elements_at s from) may left method ≡ judged_as r
