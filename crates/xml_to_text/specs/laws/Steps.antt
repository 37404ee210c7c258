-- Laws of what specs/Steps.antt defines.
use Rattle.std.specs.Prelude.{◌≡◌, refl, List, ℕ, ◌*◌, ◌≤◌, ◌<◌, length, ⊤, Option, None, Some, Result, Ok, Err}
use Rattle.std.proofs.Common.{ap, ◌∙◌}
use Rattle.std.proofs.Math.Bool.{true, false}
use Rattle.std.proofs.Math.Dec.{leb}
use borrow.Author.Tests.{le-leb, lt-leb}
use Rattle.octets.specs.Pick.{pick}
use Rattle.calendar.specs.Refusal.{XML, characters, fine, refuse, answer, ◌otherwise◌}
use Rattle.utf8.specs.Utf8.{first_bad}
use Rattle.xml.specs.Nodes.{no_nodes, document_nodes}
use Rattle.xml.specs.NodesAt.{nodes_at}
use Rattle.xml.specs.WellFormed.{xml_verdict}
use Rattle.text.specs.WriteText.{write_calendar}
use Rattle.xcal.specs.ComponentNodes.{root_verdict, read_calendars, read_root}
use Rattle.xcal.specs.ReadDocument.{document_verdict, read_document}
use Rattle.lengths_text.specs.laws.Documents.{rate, text_bound}
use Rattle.read_xml_nodes.specs.RootFound.{RootNode}
use Rattle.refusals.specs.Fault.{judged_as}
use Rattle.refusals.specs.declared.Fault.{Fault}
use Rattle.read_xml_nodes.specs.declared.Element.{Element}
use Rattle.refusals.specs.declared.Refusal.TheVariants.{Length, Character, Xml}
use Rattle.refusals.specs.declared.Refusal.TheVariants.{Edition as EditionRefused}
use Rattle.read_xml.specs.Roots.{RootAt}
use Rattle.calls.specs.Conversion.{converted, outcome, contents}
use Rattle.calls.specs.ToText.{to_text, to_text_outcome, to_text_output}
use Rattle.calls.specs.Answered.{outcome_of, answer_of, Done}
use Rattle.calls.specs.laws.Answered.{done_fault}
use Rattle.calls.specs.declared.Answer.{Answer}
use Rattle.calls.specs.declared.Answer.TheVariants.{Refused}
use Rattle.edition.specs.Edition.{edition_of}
use Rattle.edition.specs.declared.Edition.{Edition}
use Rattle.xml_to_text.specs.Steps.{nodes_give}

-- the contract of the call: all that it answers, and leaves in the output
abbrev pub Converts : List ℕ → List ℕ → List ℕ → ℕ → Answer → Type 0
Converts s d d' edition r = (outcome_of r ≡ to_text_outcome s d edition) × (d' ≡ to_text_output s d edition)

module _ (s d : List ℕ) (edition : ℕ) where
  -- whatever the edition
  pub too_long : 65535 < length s → Converts s d d edition (Refused Length 0)
  unfolding to_text read_document document_verdict outcome contents pick
  too_long h = go (edition_of edition)
    where
      go : (o : Option Edition) → (outcome_of (Refused Length 0) ≡ outcome (to_text o s) (length d)) × (d ≡ contents (to_text o s) d)
      go (Some ed) = let e : leb (length s) 65535 ≡ false = lt-leb (length s) 65535 h in (rw e, rw e)
      go None = let e : leb (length s) 65535 ≡ false = lt-leb (length s) 65535 h in (rw e, rw e)

  pub no_edition : length s ≤ 65535 → None ≡ edition_of edition → Converts s d d edition (Refused EditionRefused 0)
  unfolding to_text outcome contents pick
  no_edition h k = let e : leb (length s) 65535 ≡ true = le-leb (length s) 65535 h in (rw (← k, e), rw (← k, e))

  pub in_edition : {ed : Edition} {e : List ℕ} {r : Answer} → length s ≤ 65535 → Some ed ≡ edition_of edition →
      Done (nodes_give ed s (characters (first_bad s) otherwise xml_verdict s otherwise root_verdict ed (document_nodes s))) d e r → Converts s d e edition r
  unfolding to_text read_document document_verdict pick
  in_edition h k g = let e : leb (length s) 65535 ≡ true = le-leb (length s) 65535 h in (g.answer ∙ rw (← k, e), g.left ∙ rw (← k, e))

root_reads : {s : List ℕ} {t : Element} → RootNode s t → xml_verdict s ≡ fine → read_root (document_nodes s) ≡ read_calendars (nodes_at s t.inside)
unfolding read_root
root_reads x f = rw (x.is f)

module _ (ed : Edition) where
  module _ (s d : List ℕ) where
    -- the characters
    pub bad_character : {p : ℕ} → first_bad s ≡ Some p → Done (nodes_give ed s (characters (first_bad s) otherwise xml_verdict s otherwise root_verdict ed (document_nodes s))) d d (Refused Character p)
    unfolding ◌otherwise◌
    bad_character k = rw k (done_fault d refl)

    pub good_characters : {e : List ℕ} {r : Answer} → first_bad s ≡ None → Done (nodes_give ed s (xml_verdict s otherwise root_verdict ed (document_nodes s))) d e r →
        Done (nodes_give ed s (characters (first_bad s) otherwise xml_verdict s otherwise root_verdict ed (document_nodes s))) d e r
    unfolding ◌otherwise◌
    good_characters k g = rw k g

    -- the XML profile
    pub xml_refused : (q : Fault) {r : Answer} → xml_verdict s ≡ judged_as (Err q) → r ≡ answer_of q → Done (nodes_give ed s (xml_verdict s otherwise root_verdict ed (document_nodes s))) d d r
    unfolding ◌otherwise◌
    xml_refused q h g = rw (h, g) (done_fault d refl)

    pub xml_fine : {e : List ℕ} {r : Answer} → xml_verdict s ≡ fine → Done (nodes_give ed s (root_verdict ed (document_nodes s))) d e r →
        Done (nodes_give ed s (xml_verdict s otherwise root_verdict ed (document_nodes s))) d e r
    unfolding ◌otherwise◌
    xml_fine h g = rw h g

  -- the root of a document within the XML profile
  module _ {s : List ℕ} {t : Element} (x : RootNode s t) (f : xml_verdict s ≡ fine) where
    pub root_bound : length (write_calendar ed (read_calendars (nodes_at s t.inside))) ≤ rate * length s
    root_bound = rw (← (root_reads x f)) (text_bound ed s)

    module _ {j : Result ⊤ Fault} (v : RootAt ed s t j) (d : List ℕ) where
      root_judged : root_verdict ed (document_nodes s) ≡ judged_as j
      root_judged = ap (root_verdict ed) (x.is f) ∙ v.is no_nodes

      pub root_refused : (f : Fault) {r : Answer} → j ≡ Err f → r ≡ answer_of f → Done (nodes_give ed s (root_verdict ed (document_nodes s))) d d r
      root_refused q e g = rw (root_judged, e, g) (done_fault d refl)

      pub root_fine : {e : List ℕ} {r : Answer} → j ≡ Ok tt → Done (converted (write_calendar ed) (answer fine (read_calendars (nodes_at s t.inside)))) d e r →
          Done (nodes_give ed s (root_verdict ed (document_nodes s))) d e r
      root_fine e g = rw (root_judged, e, root_reads x f) g
