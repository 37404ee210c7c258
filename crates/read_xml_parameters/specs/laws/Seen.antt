-- Laws of what specs/Seen.antt defines.
--     before_..            the walk that looks for one;   `search befores`
use Rattle.std.specs.Prelude.{◌≡◌, refl, Bool, true, false, List, ℕ, ◌≤◌, ◌<◌}
use Rattle.std.proofs.Math.Path.{sym}
use Rattle.std.proofs.Common.{ap, ◌∙◌, rules, lt-ltb, le-ltb}
use Rattle.octets.specs.Pick.{◌and◌, ◌or◌}
use Rattle.octets.specs.Words.{same}
use Rattle.source.specs.Source.{rest}
use Rattle.source.specs.laws.Facts.{rest_plain}
use Rattle.xml.specs.NodesAt.{nodes_at}
use Rattle.read_xml_nodes.specs.laws.Walks.{Passing, passing_start, Skips}
use Rattle.read_xml_parameters.specs.Children.{ChildAt, name_of}
use Rattle.read_xml_parameters.specs.laws.Children.{children_none, children_some, child_less}
use Rattle.read_xml_parameters.specs.Seen.{is_before}
use Rattle.read_xml_parameters.specs.declared.Child.{Child}

skips_before : (m : List ℕ) (k : ℕ) → Skips (is_before m k)
unfolding is_before
skips_before m k = record { over_literal = λ p b more. refl; over_referred = λ p bs more. refl }

module _ (m : List ℕ) (k : ℕ) {s : List ℕ} {from at : ℕ} {r : Child} (p : Passing (is_before m k) s from at) (n : ChildAt s at r) where
  pub before_none : r.there ≡ false → false ≡ is_before m k (nodes_at s from)
  unfolding is_before
  before_none h = sym (children_none (skips_before m k) p n h)

  module _ (h : r.there ≡ true) where
    pub before_past : k ≤ r.place → false ≡ is_before m k (nodes_at s from)
    unfolding is_before ◌and◌
    before_past l = sym (children_some (skips_before m k) p n h ∙ rw (le-ltb r.place k l))

    module _ {b : Bool} (l : r.place < k) (e : b ≡ same (rest 0 (name_of s r.name r.name_end) 0) m) where
      named : b ≡ same (name_of s r.name r.name_end) m
      named = e ∙ ap (λ (w : List ℕ). same w m) (rest_plain (name_of s r.name r.name_end))

      pub before_same : b ≡ true → true ≡ is_before m k (nodes_at s from)
      unfolding is_before ◌and◌ ◌or◌
      before_same q = sym (children_some (skips_before m k) p n h ∙ rw (lt-ltb r.place k l, ← named, q))

      pub before_more : b ≡ false → Passing (is_before m k) s from r.next
      unfolding is_before ◌and◌ ◌or◌
      before_more q = record { is = children_some (skips_before m k) p n h ∙ rw (lt-ltb r.place k l, ← named, q) }

pub ruleset befores = (passing_start, before_none, before_past, before_same, before_more, child_less, rules)
