-- A walk over nodes to the first that is sought.
--     Seeking f    the invariant of the walk: what f says of the content is the same from here on
--     seek_..      the ways of the walk, by the content from here on
use Rattle.std.specs.Prelude.{◌≡◌, refl, List, ℕ, ◌≤◌, ◌<◌}
use Rattle.std.proofs.Common.{ap, ◌∙◌, arith}
use Rattle.xml.specs.Nodes.{Nodes, literal, referred}
use Rattle.xml.specs.NodesAt.{nodes_at}
use Rattle.read_xml_nodes.specs.laws.Walks.{Skips}

pub record Seeking {A : Type 0} (f : Nodes → A) (s : List ℕ) (from at : ℕ) : Type 0 where
  pub is : f (nodes_at s from) ≡ f (nodes_at s at)
  pub onward : from ≤ at

pub seek_start : {A : Type 0} (f : Nodes → A) (s : List ℕ) (from : ℕ) → Seeking f s from from
seek_start f s from = record { is = refl; onward = omega arith }

module _ {A : Type 0} {f : Nodes → A} {s : List ℕ} {from at : ℕ} (w : Seeking f s from at) where
  pub seek_at : {ns : Nodes} → nodes_at s at ≡ ns → f (nodes_at s from) ≡ f ns
  seek_at e = w.is ∙ ap f e

  module _ {next : ℕ} where
    -- a node that is passed over
    pub seek_past : {ns : Nodes} → nodes_at s at ≡ ns → f ns ≡ f (nodes_at s next) → at < next → Seeking f s from next
    seek_past e g h = record { is = seek_at e ∙ g; onward = omega (arith, w.onward, h) }

    pub seek_literal : Skips f → {p b : ℕ} → nodes_at s at ≡ literal p b (nodes_at s next) → at < next → Seeking f s from next
    seek_literal k e h = seek_past e (k.over_literal _ _ _) h

    pub seek_referred : Skips f → {p : ℕ} {bs : List ℕ} → nodes_at s at ≡ referred p bs (nodes_at s next) → at < next → Seeking f s from next
    seek_referred k e h = seek_past e (k.over_referred _ _ _) h
