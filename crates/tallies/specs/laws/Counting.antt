-- Laws of what specs/Counting.antt defines.
--     none_counted      no property has come
--     first_word, later_word   what the first ACTION names, with one property more at the end
--     counting          the rules of one property more
use Rattle.std.specs.Prelude.{◌≡◌, Bool, ℕ, suc, min, get_or, replicate, Option, None}
use Rattle.std.proofs.Math.Path.{refl, sym, ap}
use Rattle.std.proofs.Common.{◌∙◌, arith, rules}
use Rattle.std.proofs.Math.Bool.{true, false}
use mathlib.Core.List.{List, [], ◌∷◌}
use Rattle.std.proofs.Math.Dec.{eqb}
use borrow.Author.Tests.{eqb-true, eqb-false, eq-eqb}
use Rattle.octets.specs.Ascii.{ascii}
use Rattle.octets.specs.Pick.{pick, ◌and◌}
use Rattle.octets.specs.laws.Pick.{eqb_swap, and_both}
use Rattle.octets.specs.Append.{◌⊕◌}
use Rattle.octets.specs.Words.{same}
use Rattle.calendar.specs.Calendar.{Property}
use Rattle.schema.specs.Counts.{tally, first_text, action_of}
use Rattle.schema.specs.Arrays.{bumped, tallies}
use Rattle.schema.specs.laws.Arrays.{tally_count, tallies_end}
use Rattle.schema.specs.Completing.{alarm_action}
use Rattle.schema.specs.declared.Action.{Action}
use Rattle.schema.specs.laws.Sets.{action_first}
use Rattle.schema.specs.Property as property
use Rattle.tallies.specs.Counting.{Counted, is_first, Numbered, CountsOn}
use Rattle.tallies.specs.declared.Kept.{Kept}

pub none_counted : Counted [] (record { counts = replicate property.KNOWN 0; action = None })
unfolding tallies action_of
none_counted = record { tallied = refl; acting = refl }

-- ---- the word of the first ACTION

module _ (x : Property) where
  -- none has come
  action_none : (ps : List Property) → tally (ascii "ACTION") ps ≡ 0 → action_of (ps ⊕ (x ∷ [])) ≡ action_of (x ∷ [])
  unfolding action_of tally ◌⊕◌ pick
  action_none [] h = refl
  action_none (p ∷ ps) h = go (same (ascii "ACTION") p.name) h (λ g. action_none ps g)
    where
      go : (b : Bool) → pick b (suc (tally (ascii "ACTION") ps)) (tally (ascii "ACTION") ps) ≡ 0 →
          (tally (ascii "ACTION") ps ≡ 0 → action_of (ps ⊕ (x ∷ [])) ≡ action_of (x ∷ [])) → pick b (first_text p.values) (action_of (ps ⊕ (x ∷ []))) ≡ action_of (x ∷ [])
      go true h ih = absurd (omega arith)
      go false h ih = ih h

  -- one has come
  action_some : (ps : List Property) → (tally (ascii "ACTION") ps ≡ 0 → ⊥) → action_of (ps ⊕ (x ∷ [])) ≡ action_of ps
  unfolding action_of tally ◌⊕◌ pick
  action_some [] h = absurd (h refl)
  action_some (p ∷ ps) h = go (same (ascii "ACTION") p.name) h (λ g. action_some ps g)
    where
      go : (b : Bool) → (pick b (suc (tally (ascii "ACTION") ps)) (tally (ascii "ACTION") ps) ≡ 0 → ⊥) →
          ((tally (ascii "ACTION") ps ≡ 0 → ⊥) → action_of (ps ⊕ (x ∷ [])) ≡ action_of ps) → pick b (first_text p.values) (action_of (ps ⊕ (x ∷ []))) ≡ pick b (first_text p.values) (action_of ps)
      go true h ih = refl
      go false h ih = ih h

  -- it is another property
  action_other : (ps : List Property) → same (ascii "ACTION") x.name ≡ false → action_of (ps ⊕ (x ∷ [])) ≡ action_of ps
  unfolding action_of ◌⊕◌ pick
  action_other [] h = rw h
  action_other (p ∷ ps) h = ap (pick (same (ascii "ACTION") p.name) (first_text p.values)) (action_other ps h)

module _ (x : Property) {p : ℕ} {named : Option Action} (n : Numbered x p named) (ps : List Property) {t : Kept} (i : Counted ps t) where
  is_action : same (ascii "ACTION") x.name ≡ eqb property.ACTION p
  is_action = action_first x.name ∙ ap (eqb property.ACTION) (sym n.number)

  action_here : p ≡ property.ACTION → action_of (x ∷ []) ≡ first_text x.values
  unfolding action_of pick
  action_here z = rw (is_action, eq-eqb property.ACTION p (sym z))

  count_of : get_or t.counts property.ACTION 0 ≡ min 255 (tally (ascii "ACTION") ps)
  count_of = ap (λ (l : List ℕ). get_or l property.ACTION 0) i.tallied ∙ tally_count property.ACTION ps (omega arith)

  first_word : is_first p t ≡ true → named ≡ alarm_action (action_of (ps ⊕ (x ∷ [])))
  first_word h =
      let z = and_both (eqb p property.ACTION) (eqb (get_or t.counts property.ACTION 0) 0) h in
      let a : p ≡ property.ACTION = eqb-true p property.ACTION z.0 in
      n.acts a ∙ sym (ap alarm_action (action_none x ps (omega (arith, count_of, eqb-true (get_or t.counts property.ACTION 0) 0 z.1)) ∙ action_here a))

  later_word : is_first p t ≡ false → t.action ≡ alarm_action (action_of (ps ⊕ (x ∷ [])))
  unfolding ◌and◌
  later_word h = i.acting ∙ sym (ap alarm_action (go (eqb p property.ACTION) refl h))
    where
      go : (a : Bool) → eqb p property.ACTION ≡ a → (a and eqb (get_or t.counts property.ACTION 0) 0) ≡ false → action_of (ps ⊕ (x ∷ [])) ≡ action_of ps
      go true e f = action_some x ps (λ z. eqb-false (get_or t.counts property.ACTION 0) 0 f (omega (arith, count_of, z)))
      go false e f = action_other x ps (is_action ∙ eqb_swap p property.ACTION e)

-- ---- one property more

module _ (t : Kept) (p : ℕ) (named : Option Action) {b : Bool} (e : b ≡ is_first p t) {more : List ℕ} (f : more ≡ bumped p t.counts) where
  tallied_on : (ps : List Property) (x : Property) → Numbered x p named → Counted ps t → more ≡ tallies (ps ⊕ (x ∷ []))
  tallied_on ps x n i = f ∙ ap (bumped p) i.tallied ∙ ap (λ (k : ℕ). bumped k (tallies ps)) n.number ∙ sym (tallies_end ps x)

  pub count_first : b ≡ true → CountsOn p named t (record { counts = more; action = named })
  count_first h = record { is = λ ps x n i. record { tallied = tallied_on ps x n i; acting = first_word x n ps i (sym e ∙ h) } }

  pub count_later : b ≡ false → CountsOn p named t (record { counts = more; action = t.action })
  count_later h = record { is = λ ps x n i. record { tallied = tallied_on ps x n i; acting = later_word x n ps i (sym e ∙ h) } }

pub ruleset counting = (none_counted, count_first, count_later, rules)
