-- Laws of what specs/Pick.antt defines.
--     pick_yes, and_yes, or_left, within_yes    what they are, from their tests; and for code, in rule sets, `branching` and others
--     and_both, or_neither, or_cases, pick_first, pick_second, within_range    what a joined test says of its parts
--     pick_either, pick_case                    what holds of a choice
use Rattle.std.specs.Prelude.{◌≡◌, refl, Bool, true, false, ℕ, ◌≤◌, eqb, leb}
use Rattle.std.proofs.Common.{sym, ◌∙◌, arith, rules, eq-eqb, ne_eqb, lt-ltb, le-ltb, le-leb, leb-true, eqb-true}
use Rattle.std.proofs.lemmas.Bool.{false≢true, lt-leb, eqb-false}
use Rattle.octets.specs.Pick.{pick, ◌and◌, ◌or◌, within}

pub pick_yes : {A : Type 0} (t : Bool) (a b : A) → t ≡ true → pick t a b ≡ a
unfolding pick
pick_yes t a b h = rw h

pub pick_no : {A : Type 0} (t : Bool) (a b : A) → t ≡ false → pick t a b ≡ b
unfolding pick
pick_no t a b h = rw h

-- what holds of both choices holds of the choice
pub pick_either : {A : Type 0} (P : A → Type 0) (t : Bool) (a b : A) → P a → P b → P (pick t a b)
unfolding pick
pick_either P true a b p q = p
pick_either P false a b p q = q

-- what holds of each choice under its test holds of the choice
pub pick_case : {A : Type 0} (P : A → Type 0) (t : Bool) (a b : A) → (t ≡ true → P a) → (t ≡ false → P b) → P (pick t a b)
unfolding pick
pick_case P true a b p q = p refl
pick_case P false a b p q = q refl

-- a number that is known is no other number
pub eqb_other : (k m n : ℕ) → k ≡ m → eqb m n ≡ false → eqb k n ≡ false
eqb_other k m n e h = rw e h

pub and_yes : (a b : Bool) → a ≡ true → b ≡ true → (a and b) ≡ true
unfolding ◌and◌
and_yes a b p q = rw p q

pub and_no_left : (a b : Bool) → a ≡ false → (a and b) ≡ false
unfolding ◌and◌
and_no_left a b p = rw p

pub and_no_right : (a b : Bool) → b ≡ false → (a and b) ≡ false
unfolding ◌and◌
and_no_right true b p = p
and_no_right false b p = refl

pub or_left : (a b : Bool) → a ≡ true → (a or b) ≡ true
unfolding ◌or◌
or_left a b p = rw p

pub or_right : (a b : Bool) → b ≡ true → (a or b) ≡ true
unfolding ◌or◌
or_right true b p = refl
or_right false b p = p

pub or_no : (a b : Bool) → a ≡ false → b ≡ false → (a or b) ≡ false
unfolding ◌or◌
or_no a b p q = rw p q

pub and-true : (a : Bool) → (a and true) ≡ a
unfolding ◌and◌
and-true true = refl
and-true false = refl

pub or-false : (a : Bool) → (a or false) ≡ a
unfolding ◌or◌
or-false true = refl
or-false false = refl

pub within_yes : (lo hi x : ℕ) → leb lo x ≡ true → leb x hi ≡ true → within lo hi x ≡ true
within_yes lo hi x p q = and_yes _ _ p q

-- ---- what a joined test says of its parts

pub and_both : (a b : Bool) → (a and b) ≡ true → (a ≡ true) × (b ≡ true)
unfolding ◌and◌
and_both true b h = (refl, h)
and_both false b h = absurd (false≢true h)

pub or_neither : (a b : Bool) → (a or b) ≡ false → (a ≡ false) × (b ≡ false)
unfolding ◌or◌
or_neither true b h = absurd (false≢true (sym h))
or_neither false b h = (refl, h)

pub or_cases : {P : Type 0} (a b : Bool) → (a or b) ≡ true → (a ≡ true → P) → (b ≡ true → P) → P
unfolding ◌or◌
or_cases true b h p q = p refl
or_cases false b h p q = q h

-- a choice that is true, with a side that never is
pub pick_first : (t a : Bool) → pick t a false ≡ true → (t ≡ true) × (a ≡ true)
unfolding pick
pick_first true a h = (refl, h)
pick_first false a h = absurd (false≢true h)

pub pick_second : (t a : Bool) → pick t false a ≡ true → (t ≡ false) × (a ≡ true)
unfolding pick
pick_second true a h = absurd (false≢true h)
pick_second false a h = (refl, h)

pub within_range : (lo hi x : ℕ) → within lo hi x ≡ true → (lo ≤ x) × (x ≤ hi)
within_range lo hi x h = let p = and_both (leb lo x) (leb x hi) h in (leb-true lo x p.0, leb-true x hi p.1)

-- from narrower bounds to wider ones
pub within_wider : (lo hi a z x : ℕ) → a ≤ lo → hi ≤ z → within lo hi x ≡ true → within a z x ≡ true
within_wider lo hi a z x l h w = let p = within_range lo hi x w in within_yes a z x (le-leb a x (omega arith)) (le-leb x z (omega arith))

-- a number that passes a test is not one that fails it
pub eqb_apart : (p : ℕ → Bool) (x k : ℕ) → p x ≡ true → p k ≡ false → eqb x k ≡ false
eqb_apart p x k h q = ne_eqb x k (λ e. let z : ◌≡◌ {A = ℕ} 0 1 = cc in omega arith)

-- what passes a test, named otherwise
pub eqb_passes : (p : ℕ → Bool) (k x : ℕ) → p k ≡ true → eqb x k ≡ true → p x ≡ true
eqb_passes p k x h e = rw (eqb-true x k e) h

-- two numbers that differ, the other way round
pub eqb_swap : (a b : ℕ) → eqb a b ≡ false → eqb b a ≡ false
eqb_swap a b e = ne_eqb b a (λ q. eqb-false a b e (sym q))

-- ---- rules for the branches of code

-- a call's answer r, which is the test t by the callee's contract, was tested
pub flag_yes : (r t : Bool) → r ≡ t → r ≡ true → t ≡ true
flag_yes r t e h = sym e ∙ h

pub flag_no : (r t : Bool) → r ≡ t → r ≡ false → t ≡ false
flag_no r t e h = sym e ∙ h

-- a chain of tests, `if a { return true; } if b { return true; } c`, against `a or b or c`; and `if a { } else { return false; }` against `and`
pub or_take : (a b : Bool) → a ≡ true → true ≡ (a or b)
unfolding ◌or◌
or_take a b h = rw h

pub or_skip : (a b r : Bool) → a ≡ false → r ≡ b → r ≡ (a or b)
unfolding ◌or◌
or_skip a b r h e = rw h e

pub and_stop : (a b : Bool) → a ≡ false → false ≡ (a and b)
unfolding ◌and◌
and_stop a b h = rw h

pub and_go : (a b r : Bool) → a ≡ true → r ≡ b → r ≡ (a and b)
unfolding ◌and◌
and_go a b r h e = rw h e

pub pick_take : {A : Type 0} {r : A} (t : Bool) (a b : A) → t ≡ true → r ≡ a → r ≡ pick t a b
unfolding pick
pick_take t a b h e = rw h e

pub pick_skip : {A : Type 0} {r : A} (t : Bool) (a b : A) → t ≡ false → r ≡ b → r ≡ pick t a b
unfolding pick
pick_skip t a b h e = rw h e

-- a test of a call's answer is the test of what the callee's contract says it is
pub eqb_same : (a b t : ℕ) → a ≡ b → eqb a t ≡ eqb b t
eqb_same a b t e = rw e

pub ruleset chain = (pick_take, pick_skip, eqb_same, or_take, or_skip, and_stop, and_go, flag_yes, flag_no)

-- small sets make `search` quick: `tests` for a branch on one comparison, `joined_tests` for tests that are joined
pub ruleset tests = (eqb_other, eq-eqb, ne_eqb, lt-ltb, le-ltb, le-leb, lt-leb)

pub ruleset joined_tests = (tests, and_yes, and_no_left, and_no_right, or_left, or_right, or_no)

-- the smallest set, for a choice by equal numbers: where `branching` runs out of steps
pub ruleset choice = (pick_take, pick_skip, eqb_other, eq-eqb, ne_eqb)

-- what answers a function that goes by tests alone: `search branching`
pub ruleset branching = (chain, tests, rules)

-- the same where tests are joined by `and` and `or`
pub ruleset branching_joined = (chain, joined_tests, rules)
