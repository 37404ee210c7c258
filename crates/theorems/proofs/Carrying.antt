-- What the XML of calls says of their texts.
--     same_xml               two accepted calls give the same XML exactly where they state the same calendar
--     no_proper_beginning    no accepted call's XML is a proper beginning of another's
--     same_stream            the XML of two lists of calls, joined, is the same exactly where the accepted ones state the same calendars in the same order
-- Lent buffers may hold any bytes before a call.
use Rattle.std.specs.Prelude.{◌≡◌, ◌↔◌, Bool, ℕ}
use Rattle.std.proofs.Math.Path.{refl, ap}
use Rattle.std.proofs.Common.{sym, ◌∙◌}
use Rattle.std.proofs.Math.Bool.{true, false}
use mathlib.Core.List.{List, [], ◌∷◌, map}
use Rattle.octets.specs.Pick.{pick}
use Rattle.octets.specs.Append.{◌⊕◌, joined}
use Rattle.calendar.specs.Refusal.{accepted}
use Rattle.xcal.specs.WriteXml.{write_document}
use Rattle.edition.specs.declared.Edition.{Edition}
use Rattle.theorems.proofs.laws.Injective.{document_unique, document_same, document_whole, document_some}
use Rattle.theorems.specs.Calls.{Call, is_accepted, xml_of, SameCalendar, accepted_ones, SameCalendars, stream_of}
use Rattle.theorems.proofs.laws.Calls.{Given, given, states_one}

module _ (ed : Edition) where
  -- ---- two calls

  same_calendar : (k l : Call) (g : Given ed k) (f : Given ed l) → g.calendar ≡ f.calendar → SameCalendar ed k l
  same_calendar k l g f e = (g.calendar, g.states, f.states ∙ ap accepted (sym e))

  calendar_same : (k l : Call) (g : Given ed k) (f : Given ed l) → SameCalendar ed k l → g.calendar ≡ f.calendar
  calendar_same k l g f s = states_one ed k g.calendar s.0 g.states s.1 ∙ states_one ed l s.0 f.calendar s.2 f.states

  pub same_xml : (k l : Call) → is_accepted ed k ≡ true → is_accepted ed l ≡ true → (xml_of ed k ≡ xml_of ed l) ↔ SameCalendar ed k l
  same_xml k l h j =
      let g = given ed k h in
      let f = given ed l j in (
        λ e. same_calendar k l g f (document_same ed g.calendar f.calendar g.valid f.valid (sym g.xml ∙ e ∙ f.xml)),
        λ s. g.xml ∙ ap write_document (calendar_same k l g f s) ∙ sym f.xml,
      )

  pub no_proper_beginning : (k l : Call) → is_accepted ed k ≡ true → is_accepted ed l ≡ true → (more : List ℕ) → xml_of ed k ⊕ more ≡ xml_of ed l → more ≡ []
  no_proper_beginning k l h j more e =
      let g = given ed k h in
      let f = given ed l j in
      document_whole ed g.calendar f.calendar more g.valid f.valid (ap (λ (s : List ℕ). s ⊕ more) (sym g.xml) ∙ e ∙ f.xml)

  -- ---- two lists of calls

  abbrev AllAccepted : List Call → Type 0
  AllAccepted [] = Unit {0}
  AllAccepted (k ∷ ks) = (is_accepted ed k ≡ true) × AllAccepted ks

  ones_accepted : (ks : List Call) → AllAccepted (accepted_ones ed ks)
  unfolding accepted_ones pick
  ones_accepted [] = tt
  ones_accepted (k ∷ ks) = go (is_accepted ed k) refl (ones_accepted ks)
    where
      go : (t : Bool) → is_accepted ed k ≡ t → AllAccepted (accepted_ones ed ks) → AllAccepted (pick t (k ∷ (accepted_ones ed) ks) (accepted_ones ed ks))
      go true e a = (e, a)
      go false e a = a

  xml_some : (k : Call) (x : List ℕ) → is_accepted ed k ≡ true → xml_of ed k ⊕ x ≡ [] → ⊥
  xml_some k x h e = let g = given ed k h in document_some g.calendar x (ap (λ (s : List ℕ). s ⊕ x) (sym g.xml) ∙ e)

  xml_unique : (k l : Call) (x y : List ℕ) → is_accepted ed k ≡ true → is_accepted ed l ≡ true → xml_of ed k ⊕ x ≡ xml_of ed l ⊕ y → SameCalendar ed k l × (x ≡ y)
  xml_unique k l x y h j e =
      let g = given ed k h in
      let f = given ed l j in
      let u = document_unique ed g.calendar f.calendar x y g.valid f.valid (ap (λ (s : List ℕ). s ⊕ x) (sym g.xml) ∙ e ∙ ap (λ (s : List ℕ). s ⊕ y) f.xml) in
      (same_calendar k l g f u.0, u.1)

  joined_same : (ks ls : List Call) → AllAccepted ks → AllAccepted ls → joined (map (xml_of ed) ks) ≡ joined (map (xml_of ed) ls) → SameCalendars ed ks ls
  unfolding joined
  joined_same [] [] a b e = tt
  joined_same [] (l ∷ ls) a b e = xml_some l _ b.0 (sym e)
  joined_same (k ∷ ks) [] a b e = xml_some k _ a.0 e
  joined_same (k ∷ ks) (l ∷ ls) a b e =
      let u = xml_unique k l (joined (map (xml_of ed) ks)) (joined (map (xml_of ed) ls)) a.0 b.0 e in
      (u.0, joined_same ks ls a.1 b.1 u.1)

  same_joined : (ks ls : List Call) → AllAccepted ks → AllAccepted ls → SameCalendars ed ks ls → joined (map (xml_of ed) ks) ≡ joined (map (xml_of ed) ls)
  unfolding joined
  same_joined [] [] a b s = refl
  same_joined [] (l ∷ ls) a b s = absurd s
  same_joined (k ∷ ks) [] a b s = absurd s
  same_joined (k ∷ ks) (l ∷ ls) a b s =
      ap (λ (x : List ℕ). x ⊕ joined (map (xml_of ed) ks)) ((same_xml k l a.0 b.0).1 s.0) ∙ ap (λ (x : List ℕ). (xml_of ed) l ⊕ x) (same_joined ks ls a.1 b.1 s.1)

  pub same_stream : (ks ls : List Call) → (stream_of ed ks ≡ stream_of ed ls) ↔ SameCalendars ed (accepted_ones ed ks) (accepted_ones ed ls)
  same_stream ks ls = (joined_same (accepted_ones ed ks) (accepted_ones ed ls) (ones_accepted ks) (ones_accepted ls), same_joined (accepted_ones ed ks) (accepted_ones ed ls) (ones_accepted ks) (ones_accepted ls))
