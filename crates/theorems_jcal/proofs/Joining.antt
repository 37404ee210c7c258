-- Texts that are joined: the files of several clubs, one behind the other, are converted to jCal as one.
--     rota          every accepted call to jCal has calendars that its text states, and its jCal objects
--     joined_two    of two accepted calls: a call with both texts joined, if that is within the input limit, a work room no shorter and room enough is
--                   accepted, it states the first's calendars followed by the second's, and the objects of its jCal are those of the first, then of the second
--     joined_all    the same of any number of them
-- Lent buffers may hold any bytes before a call. Each text may begin with folds, and end with them.
use Rattle.std.specs.Prelude.{◌≡◌, refl, true, ℕ, length}
use Rattle.std.proofs.Common.{sym, subst, ◌∙◌}
use Rattle.std.proofs.Math.Path.{ap}
use mathlib.Core.List.{List, [], ◌∷◌, map}
use Rattle.octets.specs.Append.{◌⊕◌, joined}
use Rattle.octets.specs.laws.Append.{append_none}
use Rattle.calendar.specs.Calendar.{Calendar}
use Rattle.edition.specs.declared.Edition.{Edition}
use Rattle.text.specs.ReadText.{read_calendar}
use Rattle.text.proofs.laws.AcceptedText.{Accepts, accepts, accepts_back, accepted_valid}
use Rattle.jcal.specs.WriteJcal.{one_or_array, components_json, write_jcal}
use Rattle.theorems.specs.Calls.{Call, States}
use Rattle.theorems.specs.Joined.{◌followed_by◌, in_order, Lent}
use Rattle.theorems.proofs.ThereAndBack.{within_too}
use Rattle.theorems.proofs.laws.Joined.{joined_accepts, in_order_one}
use Rattle.theorems_jcal.specs.Calls.{is_accepted, jcal_of}
use Rattle.theorems_jcal.specs.Joined.{objects_in, Objects, JcalRota, text_in}
use Rattle.theorems_jcal.proofs.laws.Calls.{given, states_accepted, jcal_is}
use Rattle.theorems_jcal.proofs.laws.Objects.{components_joined, objects_are}

module _ (ed : Edition) where
  objects_of : (k : Call) (c : Calendar) (vs : List (List ℕ)) → States ed k c → jcal_of ed k ≡ write_jcal c → components_json c ≡ vs → Objects vs (jcal_of ed k)
  unfolding write_jcal
  objects_of k c vs s x e = record {
    elements = ap objects_in x ∙ objects_are ed c (accepted_valid ed k.input (length k.work) c s) ∙ e;
    bytes = x ∙ ap one_or_array e;
  }

  pub rota : (k : Call) → is_accepted ed k ≡ true → JcalRota ed
  rota k h =
      let g = given ed k h in
      let c = g.calendar in
      record { call = k; calendars = c; objects = components_json c; is_given = h; states = g.states; jcal = objects_of k c _ g.states g.jcal refl }

  -- ---- what the texts state, and the objects of its jCal

  record Stated (t : List ℕ) (c : Calendar) (vs : List (List ℕ)) : Type 0 where
    accepted : Accepts ed t c
    objects : components_json c ≡ vs

  rota_stated : (r : JcalRota ed) → Stated (text_in ed r) r.calendars r.objects
  rota_stated r =
      let c = r.calendars in
      let w = length r.call.work in
      let x = jcal_is ed r.call c r.is_given r.states in
      record { accepted = accepts ed (text_in ed r) w c r.states; objects = sym (objects_are ed c (accepted_valid ed (text_in ed r) w c r.states)) ∙ ap objects_in (sym x) ∙ r.jcal.elements }

  joined_stated : (t u : List ℕ) (c d : Calendar) (vs ws : List (List ℕ)) → Stated t c vs → Stated u d ws → Stated (t ⊕ u) (c followed_by d) (vs ⊕ ws)
  joined_stated t u c d vs ws p q = record { accepted = joined_accepts ed t u c d p.accepted q.accepted; objects = components_joined c d ∙ rw (p.objects, q.objects) }

  all_stated : (r : JcalRota ed) (rs : List (JcalRota ed)) →
      Stated (joined (map (text_in ed) (r ∷ rs))) (in_order (map (λ (q : JcalRota ed). q.calendars) (r ∷ rs))) (joined (map (λ (q : JcalRota ed). q.objects) (r ∷ rs)))
  unfolding joined in_order
  all_stated r [] =
      rw (append_none (text_in ed r), append_none r.objects) (subst (λ (c : Calendar). Stated (text_in ed r) c r.objects) (sym (in_order_one r.calendars)) (rota_stated r))
  all_stated r (q ∷ rs) = joined_stated (text_in ed r) _ r.calendars _ r.objects _ (rota_stated r) (all_stated q rs)

  -- ---- calls

  stated_given : (j : Call) (t : List ℕ) (c : Calendar) (vs : List (List ℕ)) → Stated t c vs → Lent j t (one_or_array vs) → (is_accepted ed j ≡ true) × States ed j c × Objects vs (jcal_of ed j)
  unfolding write_jcal
  stated_given j t c vs p l =
      let q : States ed j c = ap (λ (y : List ℕ). read_calendar ed y (length j.work)) l.text ∙ accepts_back ed t (length j.work) c p.accepted l.short l.work in
      let a = states_accepted ed j c q (within_too (one_or_array vs) (write_jcal c) (length j.output) (ap one_or_array (sym p.objects)) l.room) in
      (a.0, q, objects_of j c vs q a.1 p.objects)

  pub joined_two : (p q : JcalRota ed) (j : Call) → Lent j (text_in ed p ⊕ text_in ed q) (one_or_array (p.objects ⊕ q.objects)) →
      (is_accepted ed j ≡ true)
      × States ed j (p.calendars followed_by q.calendars)
      × Objects (p.objects ⊕ q.objects) (jcal_of ed j)
  joined_two p q j l = stated_given j _ _ _ (joined_stated (text_in ed p) (text_in ed q) p.calendars q.calendars p.objects q.objects (rota_stated p) (rota_stated q)) l

  pub joined_all : (r : JcalRota ed) (rs : List (JcalRota ed)) (j : Call) →
      Lent j (joined (map (text_in ed) (r ∷ rs))) (one_or_array (joined (map (λ (q : JcalRota ed). q.objects) (r ∷ rs)))) →
      (is_accepted ed j ≡ true)
      × States ed j (in_order (map (λ (q : JcalRota ed). q.calendars) (r ∷ rs)))
      × Objects (joined (map (λ (q : JcalRota ed). q.objects) (r ∷ rs))) (jcal_of ed j)
  joined_all r rs j l = stated_given j _ _ _ (all_stated r rs) l
