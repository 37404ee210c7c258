-- A small edit stays small.
--     small_edit           of two accepted calls whose content lines are the same but for one, which is a property in both: the XML of both is the same up to
--                          the start tag of this property and again after its end tag; between them stands the property that the line states, in canonical XML
--     small_edit_folded    the same of two calls without a work room;   small_edit_mixed: of one with and one without
--     property_element     the canonical XML of a property begins with its start tag and ends with its end tag
-- Whichever property stands for which, in whichever component, and wherever the two texts are folded. Lent buffers may hold any bytes before a call.
use Rattle.std.specs.Prelude.{◌≡◌, refl, true, List, ℕ, length}
use Rattle.octets.specs.Append.{◌⊕◌}
use Rattle.octets.specs.Class.{lower}
use Rattle.calendar.specs.Calendar.{Property}
use Rattle.edition.specs.declared.Edition.{Edition}
use Rattle.text.proofs.laws.AcceptedText.{accepts}
use Rattle.xml.specs.Escape.{start_tag, end_tag}
use Rattle.xcal.specs.WriteXml.{parameters_element, values_xml, property_xml, write_document}
use Rattle.theorems.specs.Calls.{Call, is_accepted, xml_of}
use Rattle.theorems.specs.FoldedCalls.{FoldedCall, is_folded_accepted, folded_xml_of}
use Rattle.theorems.specs.OneLine.{OneLine, stated_first, stated_second, Apart}
use Rattle.theorems.proofs.laws.Calls.{given}
use Rattle.theorems.proofs.laws.FoldedCalls.{roomy}
use Rattle.theorems.proofs.laws.Split.{gap_xml}
use Rattle.theorems.proofs.laws.Edited.{Gives, edited_apart}

pub property_element : (p : Property) → (content : List ℕ) × (property_xml p ≡ start_tag (lower p.name) ⊕ content ⊕ end_tag (lower p.name))
unfolding property_xml
property_element p = (parameters_element p.parameters ⊕ values_xml p.values, refl)

module _ (ed : Edition) where
  call_gives : (k : Call) → is_accepted ed k ≡ true → Gives ed write_document k.input (xml_of ed k)
  call_gives k h = let g = given ed k h in record { calendar = g.calendar; accepts = accepts ed k.input (length k.work) g.calendar g.states; bytes = g.xml }

  pub small_edit : (k l : Call) → is_accepted ed k ≡ true → is_accepted ed l ≡ true → (o : OneLine ed k.input l.input) →
      Apart property_xml (stated_first ed o) (stated_second ed o) (xml_of ed k) (xml_of ed l)
  small_edit k l h j o = edited_apart ed gap_xml (call_gives k h) (call_gives l j) o

  -- of the engine that reads a text with its folds in place
  pub small_edit_folded : (k l : FoldedCall) → is_folded_accepted ed k ≡ true → is_folded_accepted ed l ≡ true → (o : OneLine ed k.input l.input) →
      Apart property_xml (stated_first ed o) (stated_second ed o) (folded_xml_of ed k) (folded_xml_of ed l)
  small_edit_folded k l h j o = small_edit (roomy k) (roomy l) h j o

  -- one of each
  pub small_edit_mixed : (k : Call) (l : FoldedCall) → is_accepted ed k ≡ true → is_folded_accepted ed l ≡ true → (o : OneLine ed k.input l.input) →
      Apart property_xml (stated_first ed o) (stated_second ed o) (xml_of ed k) (folded_xml_of ed l)
  small_edit_mixed k l h j o = small_edit k (roomy l) h j o
