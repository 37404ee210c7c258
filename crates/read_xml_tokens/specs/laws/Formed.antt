-- Laws of what specs/Formed.antt defines.
--     start_turn .. fault_stop    a turn for each kind of token, or its refusal;   over_fine, over_open: the end of the input
--     turn_stop, turn_open, turn_stay    by its ways
--     formed_start, formed_empty, formed_fault, root_faulty    from the root's tag
use Rattle.std.specs.Prelude.{◌≡◌, ⊤, Bool, ℕ, ◌+◌, ◌-◌, ◌≤◌, ◌<◌, eqb, set, None, Some, Result, Ok, Err}
use Rattle.std.proofs.Math.Path.{refl}
use Rattle.std.proofs.Common.{ap, sym, subst, ◌∙◌, arith}
use Rattle.std.proofs.Math.Bool.{true, false}
use mathlib.Core.List.{List, [], ◌∷◌}
use Rattle.std.proofs.Math.Dec.{ltb}
use Rattle.std.proofs.Math.ListN.{length, length-set}
use borrow.Author.Tests.{eq-eqb, ne_eqb, ltb-true, ltb-false}
use Rattle.std.proofs.Math.Logic.{◌⊎◌, inl, inr}
use Rattle.octets.specs.Pick.{pick, ◌and◌}
use Rattle.octets.specs.Class.{is_space}
use Rattle.octets.specs.laws.Reading.{none-some}
use Rattle.octets.specs.laws.Words.{same_self}
use Rattle.calendar.specs.Refusal.{XML, Verdict, refuse}
use Rattle.xml.specs.Prolog.{prolog}
use Rattle.xml.specs.Marks.{document_marks}
use Rattle.xml.specs.WellFormed.{onward, stop, has_room, closes_top, move, followed, check, xml_verdict}
use Rattle.xml.specs.NodesAt.{marks_at}
use Rattle.xml.specs.laws.NodesAt.{mark_none}
use Rattle.read_xml_tokens.specs.TokenAt.{Reads, token_in, name_in}
use Rattle.read_xml_tokens.specs.laws.TokenAt.{token_inside, token_less}
use Rattle.read_xml_tokens.specs.MarksAt.{RootAt}
use Rattle.read_xml_tokens.specs.laws.MarksAt.{a_token, marks_start, marks_empty, marks_end, marks_char, marks_reference, marks_fault, root_start, root_empty, root_fault, root_none, root_other, root_place}
use Rattle.read_xml_tokens.specs.Open.{opened, may_stand, closes_at, room_at}
use Rattle.read_xml_tokens.specs.laws.Open.{opened_push, opened_empty, closes_is, room_is, room_low}
use Rattle.read_xml_tokens.specs.Formed.{Formed, verdict_at, Ongoing, Turn}
use Rattle.refusals.specs.Fault.{fault_at}
use Rattle.refusals.specs.declared.Refusal.TheVariants.{Xml}
use Rattle.refusals.specs.declared.Fault.{Fault as Found}
use Rattle.read_xml_tokens.specs.declared.TokenAt.{TokenAt}
use Rattle.read_xml_tokens.specs.declared.TokenKind.TheVariants.{Start, Empty, End, Char, Reference, Fault}

pub ongoing_start : (s a e : List ℕ) (d at : ℕ) → d ≤ 32 → length a ≡ 32 → length e ≡ 32 → at ≤ length s → Ongoing (verdict_at s a e d at) s a e d at
ongoing_start s a e d at h i j k = record { deep = h; begun = i; ended = j; inside = k; left = refl }

module _ {v : Verdict} {s a e : List ℕ} {d at : ℕ} {t : TokenAt} (o : Ongoing v s a e d at) (x : Reads token_in s at at t) where
  -- the elements that are open stay so
  stay : (t.kind ≡ Fault → ⊥) → verdict_at s a e d at ≡ verdict_at s a e d t.next → Ongoing v s a e d t.next
  stay n q = record { deep = o.deep; begun = o.begun; ended = o.ended; inside = token_inside x n; left = o.left ∙ q }

  stopped : verdict_at s a e d at ≡ refuse XML at → Formed v (length s) (Err (fault_at Xml at))
  stopped q = record { is = o.left ∙ q; inside = o.inside }

  pub start_turn : t.kind ≡ Start → room_at d ≡ true → Ongoing v s (set a d t.name) (set e d t.name_end) (d + 1) t.next
  unfolding check move followed pick
  start_turn k h =
      let l = room_low d h in record {
        deep = omega arith;
        begun = length-set a d t.name ∙ o.begun;
        ended = length-set e d t.name_end ∙ o.ended;
        inside = token_inside x (a_token Start refl k);
        left = o.left ∙ rw (marks_start x k, room_is s a e d, h, opened_push s a e d t.name t.name_end (omega (arith, o.begun)) (omega (arith, o.ended)));
      }

  pub start_stop : t.kind ≡ Start → room_at d ≡ false → Formed v (length s) (Err (fault_at Xml at))
  unfolding check move followed pick
  start_stop k h = stopped (rw (marks_start x k, room_is s a e d, h))

  pub empty_turn : t.kind ≡ Empty → room_at d ≡ true → Ongoing v s a e d t.next
  unfolding check move followed pick closes_top
  empty_turn k h = stay (a_token Empty refl k) (rw (marks_empty x k, room_is s a e d, h, same_self (name_in s t)))

  pub empty_stop : t.kind ≡ Empty → room_at d ≡ false → Formed v (length s) (Err (fault_at Xml at))
  unfolding check move followed pick
  empty_stop k h = stopped (rw (marks_empty x k, room_is s a e d, h))

  pub end_turn : t.kind ≡ End → closes_at s a e d t.name t.name_end ≡ true → Ongoing v s a e (d - 1) t.next
  unfolding check move followed pick
  end_turn k q = record {
    deep = omega (arith, o.deep);
    begun = o.begun;
    ended = o.ended;
    inside = token_inside x (a_token End refl k);
    left = o.left ∙ rw (marks_end x k, closes_is s a e d t.name t.name_end at, q);
  }

  pub end_stop : t.kind ≡ End → closes_at s a e d t.name t.name_end ≡ false → Formed v (length s) (Err (fault_at Xml at))
  unfolding check move followed pick
  end_stop k q = stopped (rw (marks_end x k, closes_is s a e d t.name t.name_end at, q))

  -- what is checked behind a character
  char_left : t.kind ≡ Char → verdict_at s a e d at ≡ pick (may_stand d t.unit) (verdict_at s a e d t.next) (refuse XML at)
  unfolding check move followed pick
  char_left k = rw (marks_char x k, opened_empty s a e d) (go (eqb d 0) (is_space t.unit))
    where
      go : (y z : Bool) → followed (pick y (pick z (onward true (opened s a e d)) (stop at)) (onward true (opened s a e d))) (check (marks_at s t.next) (length s))
          ≡ pick (pick y z true) (verdict_at s a e d t.next) (refuse XML at)
      go true true = refl
      go true false = refl
      go false z = refl

  pub char_turn : t.kind ≡ Char → may_stand d t.unit ≡ true → Ongoing v s a e d t.next
  unfolding pick
  char_turn k h = stay (a_token Char refl k) (char_left k ∙ rw h)

  pub char_stop : t.kind ≡ Char → may_stand d t.unit ≡ false → Formed v (length s) (Err (fault_at Xml at))
  unfolding pick
  char_stop k h = stopped (char_left k ∙ rw h)

  pub reference_turn : t.kind ≡ Reference → (d ≡ 0 → ⊥) → Ongoing v s a e d t.next
  unfolding check move followed pick
  reference_turn k h = stay (a_token Reference refl k) (rw (marks_reference x k, opened_empty s a e d, ne_eqb d 0 h))

  pub reference_stop : t.kind ≡ Reference → d ≡ 0 → Formed v (length s) (Err (fault_at Xml at))
  unfolding check move followed pick
  reference_stop k h = stopped (rw (marks_reference x k, opened_empty s a e d, eq-eqb d 0 h))

  pub fault_stop : t.kind ≡ Fault → at < length s → Formed v (length s) (Err (fault_at Xml at))
  unfolding check move followed
  fault_stop k h = stopped (rw (marks_fault x k h))

-- ---- how many elements are open behind a token, where it may stand there

some_value : {m n : ℕ} → Some m ≡ Some n → m ≡ n
some_value h = cc

module _ {v : Verdict} {s a e : List ℕ} {d at : ℕ} {t : TokenAt} (o : Ongoing v s a e d at) (x : Reads token_in s at at t) where
  pub turn_stop : Formed v (length s) (Err (fault_at Xml at)) → Turn v s a e d at t None
  turn_stop f = record { stops = λ h. f; opens = λ h k. none-some h; stays = λ h k. none-some h; less = λ h. none-some h }

  pub turn_open : (t.kind ≡ Fault → ⊥) → Ongoing v s (set a d t.name) (set e d t.name_end) (d + 1) t.next → Turn v s a e d at t (Some (d + 1))
  turn_open n f = record {
    stops = λ h. none-some (sym h);
    opens = λ h k. subst (λ m. Ongoing v s (set a d t.name) (set e d t.name_end) m t.next) (some_value h) f;
    stays = λ h k. let q = some_value h in absurd (omega arith);
    less = λ h. token_less x n;
  }

  pub turn_stay : (m : ℕ) → m ≤ d → (t.kind ≡ Fault → ⊥) → Ongoing v s a e m t.next → Turn v s a e d at t (Some m)
  turn_stay m l n f = record {
    stops = λ h. none-some (sym h);
    opens = λ h k. let q = some_value h in absurd (omega arith);
    stays = λ h k. subst (λ i. Ongoing v s a e i t.next) (some_value h) f;
    less = λ h. token_less x n;
  }

-- the end of the input
module _ {v : Verdict} {s a e : List ℕ} {d at : ℕ} (o : Ongoing v s a e d at) (h : length s ≤ at) where
  pub over_fine : d ≡ 0 → Formed v (length s) (Ok tt)
  unfolding check pick ◌and◌
  over_fine k = record { is = o.left ∙ rw (mark_none s at h, opened_empty s a e d, eq-eqb d 0 k); inside = tt }

  pub over_open : (d ≡ 0 → ⊥) → Formed v (length s) (Err (fault_at Xml at))
  unfolding check pick ◌and◌
  over_open k =
      let q : at ≡ length s = omega (arith, o.inside) in
      record { is = o.left ∙ rw (mark_none s at h, opened_empty s a e d, ne_eqb d 0 k, q); inside = o.inside }

-- ---- from the root's tag

module _ {s : List ℕ} {t : TokenAt} (x : RootAt s t) where
  module _ (a e : List ℕ) (d : ℕ) {r : Result ⊤ Found} (y : Formed (verdict_at s a e d t.next) (length s) r) where
    pub formed_start : t.kind ≡ Start → opened s a e d ≡ name_in s t ∷ [] → Formed (xml_verdict s) (length s) r
    unfolding xml_verdict check move has_room followed pick
    formed_start k h = record { is = rw (root_start x k, ← h) y.is; inside = y.inside }

    pub formed_empty : t.kind ≡ Empty → opened s a e d ≡ [] → Formed (xml_verdict s) (length s) r
    unfolding xml_verdict check move has_room followed closes_top pick
    formed_empty k h = record { is = rw (root_empty x k, same_self (name_in s t), ← h) y.is; inside = y.inside }

  pub formed_fault : t.kind ≡ Fault → Formed (xml_verdict s) (length s) (Err (fault_at Xml t.unit))
  unfolding xml_verdict check move followed pick ◌and◌
  formed_fault k = record { is = rw (root_place x) (go (ltb (prolog s) (length s)) refl); inside = rw (root_place x) x.inside }
    where
      go : (b : Bool) → ltb (prolog s) (length s) ≡ b → check (document_marks s) (length s) false [] ≡ refuse XML (prolog s)
      go true q = rw (root_fault x k (ltb-true (prolog s) (length s) q))
      go false q =
          let h = ltb-false (prolog s) (length s) q in
          let i : length s ≡ prolog s = omega (arith, x.inside) in
          rw (root_none x h) (ap (refuse XML) i)

  pub root_faulty : (t.kind ≡ End) ⊎ ((t.kind ≡ Char) ⊎ ((t.kind ≡ Reference) ⊎ (t.kind ≡ Fault))) → Formed (xml_verdict s) (length s) (Err (fault_at Xml t.unit))
  root_faulty (inl k) = root_other x End k refl
  root_faulty (inr (inl k)) = root_other x Char k refl
  root_faulty (inr (inr (inl k))) = root_other x Reference k refl
  root_faulty (inr (inr (inr k))) = formed_fault k
