-- Laws of what specs/Leaves.antt defines.
--     tested_yes, tested_no    the verdict on characters
--     leaf_fine, leaf_inner    the element;   leaf_as: its characters are those from the cursor on
use Rattle.std.specs.Prelude.{◌≡◌, ⊤, Bool, true, false, List, ℕ, ◌*◌, Result, Ok, Err}
use Rattle.std.proofs.Common.{◌∙◌, rules}
use Rattle.octets.specs.Pick.{pick}
use Rattle.calendar.specs.Refusal.{VALUE, Verdict, fine, refuse, ◌otherwise◌}
use Rattle.source.specs.Source.{rest}
use Rattle.xml.specs.Nodes.{Nodes}
use Rattle.xcal.specs.Layout.{inner_element, leaf}
use Rattle.xml.specs.NodesAt.{nodes_at}
use Rattle.read_xml_nodes.specs.laws.Characters.{characters_at}
use Rattle.refusals.specs.Fault.{fault_at, judged_as}
use Rattle.refusals.specs.declared.Refusal.TheVariants.{Value}
use Rattle.refusals.specs.declared.Fault.{Fault}
use Rattle.read_xml_value.specs.Leaves.{leaf_by}

module _ {ok : Bool} (p : ℕ) where
  pub tested_yes : ok ≡ true → judged_as (Ok tt) ≡ pick ok fine (refuse VALUE p)
  unfolding pick
  tested_yes h = rw h

  pub tested_no : {f : Fault} → ok ≡ false → f ≡ fault_at Value p → judged_as (Err f) ≡ pick ok fine (refuse VALUE p)
  unfolding pick
  tested_no h q = rw (h, q)

module _ (v : Verdict) (kids : Nodes) {j : Result ⊤ Fault} (e : inner_element kids ≡ judged_as j) where
  pub leaf_fine : {u : ⊤} → j ≡ Ok u → v ≡ leaf_by v kids
  unfolding ◌otherwise◌
  leaf_fine h = rw (e, h)

  pub leaf_inner : {f : Fault} → j ≡ Err f → judged_as (Err f) ≡ leaf_by v kids
  unfolding ◌otherwise◌
  leaf_inner h = rw (e, h)

-- the characters are those from the cursor on
pub leaf_as : (good : List ℕ → Bool) (s : List ℕ) (p q : ℕ) {c v : Verdict} →
    c ≡ pick (good (rest 1 s (2 * q))) fine (refuse VALUE p) → v ≡ leaf_by c (nodes_at s q) → v ≡ leaf good p (nodes_at s q)
leaf_as good s p q e h = h ∙ rw (e, characters_at s q)

pub ruleset leaves = (leaf_fine, leaf_inner, rules)
