-- The document of a text.
--     document_put    what stands before the components, the components, what stands behind them
use Rattle.std.specs.Prelude.{◌≡◌, List, [], ◌∷◌, ℕ}
use Rattle.std.proofs.Common.{ap, subst, ◌∙◌}
use Rattle.octets.specs.Append.{◌⊕◌}
use Rattle.octets.specs.laws.Append.{append_regroup}
use Rattle.sink.specs.Sink.{Put}
use Rattle.sink.specs.laws.Sink.{◌▷◌}
use Rattle.source.specs.Source.{rest, Settled}
use Rattle.folding.specs.Lines.{lines}
use Rattle.calendar.specs.Calendar.{Components}
use Rattle.calendar.specs.Levels.{levels, shallow}
use Rattle.text.specs.Tree.{inner_of, calendar_of}
use Rattle.xml.specs.Escape.{root_start}
use Rattle.xcal.specs.WriteXml.{components_xml, declaration, root_end, write_document}
use Rattle.edition.specs.declared.Edition.{Edition}
use Rattle.text_entries.specs.Entries.{entries_at}
use Rattle.text_entries.specs.laws.Entries.{entries_start}
use Rattle.write_xml.specs.Walks.{inner_xml}

regroup : (a b c x : List ℕ) → (a ⊕ b ⊕ c) ⊕ x ≡ a ⊕ b ⊕ c ⊕ x
regroup a b c x = append_regroup a (b ⊕ c) x ∙ ap (λ (y : List ℕ). a ⊕ y) (append_regroup b c x)

written_is : (c : Components) → (declaration ⊕ (10 ∷ []) ⊕ root_start) ⊕ components_xml c ⊕ root_end ⊕ (10 ∷ []) ≡ write_document c
unfolding write_document
written_is c = regroup declaration (10 ∷ []) root_start (components_xml c ⊕ root_end ⊕ (10 ∷ []))

pub document_put : (ed : Edition) {mode : ℕ} {s : List ℕ} {from : ℕ} → Settled mode s 0 from → {d e f g : List ℕ} {o a b r : ℕ} → Put d e o a (declaration ⊕ (10 ∷ []) ⊕ root_start) →
    Put e f a b (inner_xml levels (entries_at ed mode s from)) → Put f g b r (root_end ⊕ (10 ∷ [])) → Put d g o r (write_document (calendar_of ed (lines (rest mode s 0))))
document_put ed {mode} {s} {from} p {d} {g = g} {o} {r = r} u v w =
    subst (Put d g o r) (written_is (shallow levels (inner_of (entries_at ed mode s from) 0)) ∙ ap write_document (entries_start ed p)) (u ▷ v ▷ w)
