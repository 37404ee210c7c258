-- The jCal and the XML of a text.
--     same_stated      they state the same calendar, where they are within the input limit
--     same_in_both     two texts give the same jCal exactly where they give the same XML
use Rattle.std.specs.Prelude.{◌≡◌, ◌↔◌, true, List, ℕ, ◌≤◌, length}
use Rattle.std.proofs.Common.{sym, ap, ◌∙◌}
use Rattle.calendar.specs.Calendar.{Calendar}
use Rattle.calendar.specs.Refusal.{accepted, limit}
use Rattle.xcal.specs.ReadDocument.{read_document}
use Rattle.xcal.proofs.laws.DocumentBack.{document_back}
use Rattle.jcal.specs.ReadJcal.{read_jcal}
use Rattle.jcal.proofs.laws.JcalBack.{jcal_back}
use Rattle.edition.specs.declared.Edition.{Edition}
use Rattle.theorems.specs.Calls.{Call, is_accepted as is_xml_accepted, xml_of, States}
use Rattle.theorems.proofs.Carrying.{same_xml}
use Rattle.theorems.proofs.ThereAndBack.{within_too}
use Rattle.theorems.proofs.laws.Calls.{given as xml_given}
use Rattle.theorems_jcal.specs.Calls.{is_accepted, jcal_of}
use Rattle.theorems_jcal.proofs.Carrying.{same_jcal}
use Rattle.theorems_jcal.proofs.laws.Calls.{jcal_is}

module _ (ed : Edition) where
  -- one text, with whatever buffers of the lengths that the calls need
  pub same_stated : (k : Call) → is_xml_accepted ed k ≡ true → is_accepted ed k ≡ true → length (xml_of ed k) ≤ limit → length (jcal_of ed k) ≤ limit →
      (c : Calendar) × States ed k c × (read_document ed (xml_of ed k) ≡ accepted c) × (read_jcal ed (jcal_of ed k) ≡ accepted c)
  same_stated k h j l m =
      let g = xml_given ed k h in
      let c = g.calendar in
      let y = jcal_is ed k c j g.states in (
        c,
        g.states,
        ap (read_document ed) g.xml ∙ document_back ed c g.valid (within_too (xml_of ed k) _ limit g.xml l),
        ap (read_jcal ed) y ∙ jcal_back ed c g.valid (within_too (jcal_of ed k) _ limit y m),
      )

  pub same_in_both : (k l : Call) → is_xml_accepted ed k ≡ true → is_xml_accepted ed l ≡ true → is_accepted ed k ≡ true → is_accepted ed l ≡ true → (jcal_of ed k ≡ jcal_of ed l) ↔ (xml_of ed k ≡ xml_of ed l)
  same_in_both k l a b h j =
      let x = same_xml ed k l a b in
      let y = same_jcal ed k l h j in
      (λ e. x.1 (y.0 e), λ e. y.1 (x.0 e))
