-- Laws of what specs/RootFound.antt defines.
--     root_start, root_empty, root_none    by the kind of the root's tag;   `search roots`
use Rattle.std.specs.Prelude.{◌≡◌, Bool, List, ℕ, ◌≤◌, length}
use Rattle.std.proofs.Math.Path.{refl}
use Rattle.std.proofs.Common.{sym, ◌∙◌, arith, rules, ltb-true, ltb-false}
use Rattle.std.proofs.Math.Bool.{true, false}
use Rattle.std.proofs.Math.Dec.{ltb}
use Rattle.std.proofs.Math.Logic.{◌⊎◌, inl, inr}
use Rattle.calendar.specs.Refusal.{XML, Verdict, fine, refuse}
use Rattle.xml.specs.Prolog.{prolog}
use Rattle.xml.specs.Marks.{document_marks}
use Rattle.xml.specs.Nodes.{Nodes, no_nodes, element, end_place_by, end_place, nodes_by, nodes, root_by, root_node, document_nodes}
use Rattle.xml.specs.NodesAt.{nodes_at}
use Rattle.xml.specs.laws.NodesAt.{nodes_none}
use Rattle.read_xml_tokens.specs.laws.MarksAt as marked
use Rattle.read_xml_tokens.specs.MarksAt.{RootAt}
use Rattle.read_xml_tokens.specs.laws.MarksAt.{root_onward, root_place, root_other}
use Rattle.read_xml_tokens.specs.laws.Formed.{formed_fault}
use Rattle.read_xml_nodes.specs.Closing.{EndedAt}
use Rattle.read_xml_nodes.specs.RootFound.{RootNode, no_root, root_of}
use Rattle.read_xml_nodes.specs.declared.Ended.{Ended}
use Rattle.read_xml_nodes.specs.declared.Element.{Element}
use Rattle.read_xml_tokens.specs.declared.TokenAt.{TokenAt}
use Rattle.read_xml_tokens.specs.declared.TokenKind.TheVariants.{Start, Empty, End, Char, Reference, Fault}

-- a refusal is not fine
not_fine : {X : Type 0} {p : ℕ} {v : Verdict} → v ≡ refuse XML p → v ≡ fine → X
not_fine e f = let z : ◌≡◌ {A = ℕ} 0 1 = cc in absurd (omega arith)

-- an element is not nothing
not_none : {X : Type 0} {p : ℕ} {nm : List ℕ} {e : ℕ} {inner more : Nodes} → element p nm e inner more ≡ no_nodes → X
not_none e = let z : ◌≡◌ {A = ℕ} 0 1 = cc in absurd (omega arith)

root_there : {s : List ℕ} {r : Element} → document_nodes s ≡ root_of s r → r.name_end ≤ length s → RootNode s r
root_there q h = record { is = λ f. q; found = λ f. q; missing = λ f. not_none (sym q ∙ f); name_within = h }

module _ {s : List ℕ} {t : TokenAt} (x : RootAt s t) where
  pub start_within : t.kind ≡ Start → t.next ≤ length s
  start_within k = (root_onward x Start refl k).1

  pub root_start : {e : Ended} → t.kind ≡ Start → EndedAt s t.next e →
      RootNode s (record { place = t.unit; name = t.name; name_end = t.name_end; inside = t.next; end = e.place })
  unfolding document_nodes root_node root_by nodes_at
  root_start k d = root_there (rw (marked.root_start x k, root_place x, d.place)) (omega (arith, x.reads.ended, start_within k))

  pub root_empty : t.kind ≡ Empty → RootNode s (record { place = t.unit; name = t.name; name_end = t.name_end; inside = length s; end = t.unit })
  unfolding document_nodes root_node root_by end_place end_place_by nodes nodes_by
  root_empty k = root_there (rw (marked.root_empty x k, root_place x, nodes_none s (length s) (omega arith))) (omega (arith, x.reads.ended, (root_onward x Empty refl k).1))

  none_there : t.kind ≡ Fault → document_nodes s ≡ no_nodes
  unfolding document_nodes root_node root_by
  none_there k = go (ltb (prolog s) (length s)) refl
    where
      go : (b : Bool) → ltb (prolog s) (length s) ≡ b → root_node (document_marks s) ≡ no_nodes
      go true q = rw (marked.root_fault x k (ltb-true (prolog s) (length s) q))
      go false q = rw (marked.root_none x (ltb-false (prolog s) (length s) q))

  pub root_missing : {r : Element} → (t.kind ≡ End) ⊎ ((t.kind ≡ Char) ⊎ ((t.kind ≡ Reference) ⊎ (t.kind ≡ Fault))) → r ≡ no_root → RootNode s r
  root_missing (inl k) e = root_other x End k refl
  root_missing (inr (inl k)) e = root_other x Char k refl
  root_missing (inr (inr (inl k))) e = root_other x Reference k refl
  root_missing (inr (inr (inr k))) e =
      rw e (record { is = λ h. not_fine (formed_fault x k).is h; found = λ h. absurd (h (none_there k)); missing = λ h. refl; name_within = omega arith })

pub ruleset roots = (start_within, root_start, root_empty, root_missing, rules)
