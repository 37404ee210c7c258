-- Laws of what specs/Levels.antt defines.
--     none_deep, none_any, same_any      whether there is a component, l levels deep
--     cut_bare, cut_more, cut_deep       what is ahead, l levels deep
--     level_left                         what is not bare has a level
use Rattle.std.specs.Prelude.{◌≡◌, refl, Bool, true, false, List, ℕ, zero, suc, ◌-◌, ◌≤◌, ◌<◌}
use Rattle.std.proofs.Common.{sym, ap, ◌∙◌, arith, lt-ltb}
use Rattle.std.proofs.lemmas.Bool.{false≢true}
use Rattle.octets.specs.Pick.{pick}
use Rattle.calendar.specs.Calendar.{Components, no_more, component}
use Rattle.calendar.specs.Levels.{shallow}
use Rattle.text.specs.Tree.{inner_of}
use Rattle.edition.specs.declared.Edition.{Edition}
use Rattle.text_entries.specs.declared.levels.Ahead.{Ahead}
use Rattle.text_entries.specs.Entries.{entries_at}
use Rattle.text_entries.specs.Passing.{Passed}
use Rattle.text_entries.specs.Levels.{is_none, whole, AheadAt}

pub none_deep : (c : Components) → true ≡ is_none (shallow 0 c)
unfolding shallow pick
none_deep no_more = refl
none_deep (component n ps inner next) = refl

pub none_any : (c : Components) (l : ℕ) → is_none c ≡ true → true ≡ is_none (shallow l c)
unfolding shallow
none_any no_more l h = refl
none_any (component n ps inner next) l h = absurd (false≢true h)

pub same_any : (c : Components) (l : ℕ) → 0 < l → is_none c ≡ is_none (shallow l c)
unfolding shallow pick
same_any no_more l h = refl
same_any (component n ps inner next) l h = rw (lt-ltb 0 l h)

module _ {ed : Edition} where
  module _ (l : ℕ) {mode : ℕ} {s : List ℕ} {from : ℕ} {a : Ahead} (p : AheadAt ed whole mode s from a) where
    cut_as : (b : Bool) (n : ℕ) → from ≤ n → b ≡ is_none (shallow (l - 1) (inner_of (entries_at ed mode s from) 0)) → (b ≡ true → Passed ed mode s from n) →
        AheadAt ed (shallow (l - 1)) mode s from (record { inner = a.inner; bare = b; next = n })
    cut_as b n h q x = record { onward = p.onward; forth = h; ready = p.ready; components = p.components; rest = p.rest; empty = q; passed = x }

    pub cut_bare : a.bare ≡ true → AheadAt ed (shallow (l - 1)) mode s from a
    cut_bare h = cut_as a.bare a.next p.forth (h ∙ none_any _ (l - 1) (sym p.empty ∙ h)) p.passed

    pub cut_more : 2 ≤ l → AheadAt ed (shallow (l - 1)) mode s from a
    cut_more h = cut_as a.bare a.next p.forth (p.empty ∙ same_any _ (l - 1) (omega arith)) p.passed

    pub cut_deep : {n : ℕ} → l < 2 → Passed ed mode s a.inner n → AheadAt ed (shallow (l - 1)) mode s from (record { inner = a.inner; bare = true; next = n })
    cut_deep {n} h x =
        let q : l - 1 ≡ 0 = omega arith in
        cut_as true n (omega (arith, p.onward, x.onward)) (none_deep _ ∙ ap (λ (v : ℕ). is_none (shallow v (inner_of (entries_at ed mode s from) 0))) (sym q))
        (λ y. record { onward = omega (arith, p.onward, x.onward); ready = x.ready; rest = x.rest ∙ p.rest })

  pub level_left : {l mode : ℕ} {s : List ℕ} {from : ℕ} {a : Ahead} → AheadAt ed (shallow l) mode s from a → a.bare ≡ false → 1 ≤ l
  level_left {l} {mode} {s} {from} p h = go l (sym p.empty ∙ h)
    where
      go : (l : ℕ) → is_none (shallow l (inner_of (entries_at ed mode s from) 0)) ≡ false → 1 ≤ l
      go zero q = absurd (false≢true (sym q ∙ sym (none_deep (inner_of (entries_at ed mode s from) 0))))
      go (suc l) q = omega arith
