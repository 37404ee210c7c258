-- Texts that are joined: the files of several clubs, one behind the other, are converted as one.
--     rota          every accepted call has calendars that its text states, and its XML an inside
--     joined_two    of two accepted calls: a call with both texts joined, if that is within the input limit, a work room no shorter and room enough is
--                   accepted, it states the first's calendars followed by the second's, and the inside of its XML is the two insides joined
--     joined_all    the same of any number of them
--     folded_rota, folded_two, folded_all    the same of the engine that is lent no work room
-- Lent buffers may hold any bytes before a call. Each text may begin with folds, and end with them.
use Rattle.std.specs.Prelude.{◌≡◌, true, ℕ, length}
use Rattle.std.proofs.Common.{sym, ap, subst, ◌∙◌, arith}
use mathlib.Core.List.{List, [], ◌∷◌, map}
use Rattle.octets.specs.Append.{◌⊕◌, joined}
use Rattle.octets.specs.laws.Append.{append_none}
use Rattle.calendar.specs.Calendar.{Calendar}
use Rattle.xml.specs.Escape.{document_of}
use Rattle.xcal.specs.WriteXml.{components_xml, write_document}
use Rattle.text.specs.ReadText.{read_calendar}
use Rattle.text.proofs.laws.AcceptedText.{Accepts, accepts, accepts_back}
use Rattle.edition.specs.declared.Edition.{Edition}
use Rattle.theorems.specs.Calls.{Call, is_accepted, xml_of, States}
use Rattle.theorems.specs.FoldedCalls.{FoldedCall, is_folded_accepted, folded_xml_of, FoldedStates}
use Rattle.theorems.specs.Joined.{◌followed_by◌, in_order, Inside, Lent, FoldedLent, Rota, FoldedRota, text_in, folded_text_in}
use Rattle.theorems.proofs.laws.Calls.{given, states_accepted, states_one}
use Rattle.theorems.proofs.laws.FoldedCalls.{roomy}
use Rattle.theorems.proofs.laws.Joined.{joined_accepts, in_order_one, components_joined, inside_document, inside_one}
use Rattle.theorems.proofs.ThereAndBack.{within_too}

module _ (ed : Edition) where
  pub rota : (k : Call) → is_accepted ed k ≡ true → Rota ed
  rota k h =
      let g = given ed k h in
      record { call = k; calendars = g.calendar; inside = components_xml g.calendar; is_given = h; states = g.states; xml = g.xml ∙ inside_document g.calendar }

  -- ---- what the texts state, and the inside of its XML

  record Stated (t : List ℕ) (c : Calendar) (s : List ℕ) : Type 0 where
    accepted : Accepts ed t c
    inside : components_xml c ≡ s

  rota_stated : (r : Rota ed) → Stated (text_in ed r) r.calendars r.inside
  rota_stated r =
      let g = given ed r.call r.is_given in
      let x = g.xml ∙ ap write_document (states_one ed r.call g.calendar r.calendars g.states r.states) ∙ inside_document r.calendars in
      record { accepted = accepts ed (text_in ed r) (length r.call.work) r.calendars r.states; inside = inside_one (components_xml r.calendars) r.inside (xml_of ed r.call) x r.xml }

  joined_stated : (t u : List ℕ) (c d : Calendar) (a b : List ℕ) → Stated t c a → Stated u d b → Stated (t ⊕ u) (c followed_by d) (a ⊕ b)
  joined_stated t u c d a b p q = record { accepted = joined_accepts ed t u c d p.accepted q.accepted; inside = components_joined c d ∙ rw (p.inside, q.inside) }

  -- of any things that have a text, calendars and an inside
  all_stated : {A : Type 0} (text : A → List ℕ) (calendars : A → Calendar) (inside : A → List ℕ) → ((r : A) → Stated (text r) (calendars r) (inside r)) →
      (r : A) (rs : List A) → Stated (joined (map text (r ∷ rs))) (in_order (map calendars (r ∷ rs))) (joined (map inside (r ∷ rs)))
  unfolding joined in_order
  all_stated text calendars inside h r [] = rw (append_none (text r), append_none (inside r)) (subst (λ (c : Calendar). Stated (text r) c (inside r)) (sym (in_order_one (calendars r))) (h r))
  all_stated text calendars inside h r (q ∷ rs) = joined_stated (text r) _ (calendars r) _ (inside r) _ (h r) (all_stated text calendars inside h q rs)

  -- ---- calls

  stated_given : (j : Call) (t : List ℕ) (c : Calendar) (s : List ℕ) → Stated t c s → Lent j t (document_of s) → (is_accepted ed j ≡ true) × States ed j c × Inside s (xml_of ed j)
  stated_given j t c s p l =
      let q : States ed j c = ap (λ (x : List ℕ). read_calendar ed x (length j.work)) l.text ∙ accepts_back ed t (length j.work) c p.accepted l.short l.work in
      let x : Inside s (write_document c) = rw (← p.inside) (inside_document c) in
      let a = states_accepted ed j c q (within_too _ (write_document c) (length j.output) (sym x) l.room) in
      (a.0, q, a.1 ∙ x)

  pub joined_two : (p q : Rota ed) (j : Call) → Lent j (text_in ed p ⊕ text_in ed q) (document_of (p.inside ⊕ q.inside)) →
      (is_accepted ed j ≡ true)
      × States ed j (p.calendars followed_by q.calendars)
      × Inside (p.inside ⊕ q.inside) (xml_of ed j)
  joined_two p q j l = stated_given j _ _ _ (joined_stated (text_in ed p) (text_in ed q) p.calendars q.calendars p.inside q.inside (rota_stated p) (rota_stated q)) l

  pub joined_all : (r : Rota ed) (rs : List (Rota ed)) (j : Call) →
      Lent j (joined (map (text_in ed) (r ∷ rs))) (document_of (joined (map (λ (q : Rota ed). q.inside) (r ∷ rs)))) →
      (is_accepted ed j ≡ true)
      × States ed j (in_order (map (λ (q : Rota ed). q.calendars) (r ∷ rs)))
      × Inside (joined (map (λ (q : Rota ed). q.inside) (r ∷ rs))) (xml_of ed j)
  joined_all r rs j l = stated_given j _ _ _ (all_stated (text_in ed) (λ (q : Rota ed). q.calendars) (λ (q : Rota ed). q.inside) rota_stated r rs) l

  -- ---- calls that are lent no work room

  pub folded_rota : (k : FoldedCall) → is_folded_accepted ed k ≡ true → FoldedRota ed
  unfolding rota
  folded_rota k h = let r = rota (roomy k) h in record { call = k; calendars = r.calendars; inside = r.inside; is_given = h; states = r.states; xml = r.xml }

  -- with a work room as long as the text
  abbrev with_room : FoldedRota ed → Rota ed
  with_room r = record { call = roomy r.call; calendars = r.calendars; inside = r.inside; is_given = r.is_given; states = r.states; xml = r.xml }

  lent_room : (j : FoldedCall) (t x : List ℕ) → FoldedLent j t x → Lent (roomy j) t x
  lent_room j t x l = record { text = l.text; short = l.short; work = let e : length j.input ≡ length t = ap length l.text in omega arith; room = l.room }

  pub folded_two : (p q : FoldedRota ed) (j : FoldedCall) → FoldedLent j (folded_text_in ed p ⊕ folded_text_in ed q) (document_of (p.inside ⊕ q.inside)) →
      (is_folded_accepted ed j ≡ true)
      × FoldedStates ed j (p.calendars followed_by q.calendars)
      × Inside (p.inside ⊕ q.inside) (folded_xml_of ed j)
  folded_two p q j l = joined_two (with_room p) (with_room q) (roomy j) (lent_room j _ _ l)

  pub folded_all : (r : FoldedRota ed) (rs : List (FoldedRota ed)) (j : FoldedCall) →
      FoldedLent j (joined (map (folded_text_in ed) (r ∷ rs))) (document_of (joined (map (λ (q : FoldedRota ed). q.inside) (r ∷ rs)))) →
      (is_folded_accepted ed j ≡ true)
      × FoldedStates ed j (in_order (map (λ (q : FoldedRota ed). q.calendars) (r ∷ rs)))
      × Inside (joined (map (λ (q : FoldedRota ed). q.inside) (r ∷ rs))) (folded_xml_of ed j)
  folded_all r rs j l =
      stated_given (roomy j) _ _ _
      (all_stated (folded_text_in ed) (λ (q : FoldedRota ed). q.calendars) (λ (q : FoldedRota ed). q.inside) (λ (q : FoldedRota ed). rota_stated (with_room q)) r rs)
      (lent_room j _ _ l)
