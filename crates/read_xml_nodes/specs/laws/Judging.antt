-- Laws of what readers of elements find, as a verdict.
--     passed_on              the fault that `?` hands on
--     after_ok, after_err    one check after another
--     unexpected_..          an element that has no place;   `search judging`
use Rattle.std.specs.Prelude.{◌≡◌, ⊤, Bool, true, false, List, ℕ, Result, Ok, Err, IsErrAnd}
use Rattle.std.proofs.Common.{sym, ◌∙◌, ap, rules}
use Rattle.std.proofs.lemmas.Result.{err_from_is_err_and}
use Rattle.octets.specs.laws.Pick.{pick_yes, pick_no}
use Rattle.calendar.specs.Refusal.{Verdict, ◌otherwise◌}
use Rattle.refusals.specs.Fault.{fault_at, judged_as}
use Rattle.refusals.specs.declared.Refusal.TheVariants.{Name, Frame}
use Rattle.refusals.specs.declared.Fault.{Fault}
use Rattle.xcal.specs.Layout.{has_capital, unexpected}

-- a fault, as a verdict
abbrev pub refused_as : Fault → Verdict
refused_as f = judged_as (Err f)

-- the fault that `?` hands on
pub passed_on : {A : Type 0} (r : Result A Fault) (f : Fault) → IsErrAnd r (λ y. y ≡ f) → r ≡ Err f
passed_on r f h = let p = err_from_is_err_and r h in p.1 ∙ ap Err p.2

-- ---- one check after another

module _ {v : Verdict} {j : Result ⊤ Fault} (w : Verdict) (h : v ≡ judged_as j) where
  pub after_ok : {u : ⊤} → j ≡ Ok u → (v otherwise w) ≡ w
  unfolding ◌otherwise◌
  after_ok e = rw (h, e)

  pub after_err : {f : Fault} → j ≡ Err f → (v otherwise w) ≡ judged_as (Err f)
  unfolding ◌otherwise◌
  after_err e = rw (h, e)

-- ---- an element that has no place

module _ (nm : List ℕ) (p : ℕ) {b : Bool} (h : b ≡ has_capital nm) {f : Fault} where
  pub unexpected_name : b ≡ true → f ≡ fault_at Name p → unexpected p nm ≡ judged_as (Err f)
  unexpected_name e q = pick_yes (has_capital nm) _ _ (sym h ∙ e) ∙ ap refused_as (sym q)

  pub unexpected_frame : b ≡ false → f ≡ fault_at Frame p → unexpected p nm ≡ judged_as (Err f)
  unexpected_frame e q = pick_no (has_capital nm) _ _ (sym h ∙ e) ∙ ap refused_as (sym q)

pub ruleset judging = (unexpected_name, unexpected_frame, rules)
