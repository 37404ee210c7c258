-- Verdicts and nodes whose places are bounded by a number n.
--     Within n v     where the verdict v refuses, its place is at most n
--     within_fine, within_refuse, within_pick, within_otherwise    verdicts made of such verdicts; the rules `bounding`
--     Inside n ns    every place in the nodes ns is at most n: of start tags, end tags, characters and references
use Rattle.std.specs.Prelude.{◌≡◌, Bool, ℕ, ◌≤◌}
use Rattle.std.proofs.Common.{arith}
use Rattle.octets.specs.Pick.{pick}
use Rattle.octets.specs.laws.Pick.{pick_either}
use Rattle.calendar.specs.Refusal.{Refusal, Verdict, fine, refuse, ◌otherwise◌}
use Rattle.xml.specs.Nodes.{Nodes, no_nodes, element, literal, referred}

pub record Within (n : ℕ) (v : Verdict) : Type 0 where
  pub place : (r : Refusal) (p : ℕ) → v ≡ refuse r p → p ≤ n

module _ (n : ℕ) where
  pub within_fine : Within n fine
  within_fine = record { place = λ r p e. absurd (let z : ◌≡◌ {A = ℕ} 0 1 = cc in omega arith) }

  pub within_refuse : (r : Refusal) (p : ℕ) → p ≤ n → Within n (refuse r p)
  within_refuse r p h = record { place = λ q x e. let z : p ≡ x = cc in omega arith }

  pub within_pick : (t : Bool) (v w : Verdict) → Within n v → Within n w → Within n (pick t v w)
  within_pick t v w a b = pick_either (Within n) t v w a b

  pub within_otherwise : (v w : Verdict) → Within n v → Within n w → Within n (v otherwise w)
  unfolding ◌otherwise◌
  within_otherwise fine w a b = b
  within_otherwise (refuse r p) w a b = a

pub ruleset bounding = (within_fine, within_refuse, within_pick, within_otherwise)

abbrev pub Inside : ℕ → Nodes → Type 0
Inside n no_nodes = Unit {0}
Inside n (element p m x kids more) = (p ≤ n) × (x ≤ n) × Inside n kids × Inside n more
Inside n (literal p b more) = (p ≤ n) × Inside n more
Inside n (referred p bs more) = (p ≤ n) × Inside n more
