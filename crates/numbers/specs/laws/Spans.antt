-- What the code walks over: laws at each way that a loop goes on or ends.
--     after_..       the digits at the front passed over
--     leading_..     leading zeros passed over
--     zeros_..       zeros to the end
--     all_..         digits to the end
--     sign_..        a sign passed over;   minus_at, lead_at    whether a minus, a digit stands at the cursor
--     lead_.., point_..    what is written before and after the point
--     trim_..        digits without trailing zeros
use Rattle.std.specs.Prelude.{◌≡◌, Bool, not, ℕ, zero, suc, ◌+◌, ◌-◌, ◌<◌, length}
use Rattle.std.proofs.Math.Path.{refl}
use Rattle.std.proofs.Common.{sym, ap, ◌∙◌, add-one, arith}
use Rattle.std.proofs.Math.Bool.{true, false}
use Rattle.std.proofs.lemmas.Bool.{false≢true}
use mathlib.Core.List.{List, [], ◌∷◌, ◌++◌}
use Rattle.std.proofs.Math.Dec.{eqb}
use borrow.Author.Tests.{ne_eqb, eqb-true, lt-ltb}
use Rattle.octets.specs.Pick.{pick, ◌and◌, ◌or◌}
use Rattle.octets.specs.laws.Pick.{within_range}
use Rattle.octets.specs.Scan.{all_of}
use Rattle.octets.specs.Append.{◌⊕◌}
use Rattle.octets.specs.laws.Append.{append_none}
use Rattle.octets.specs.Class.{is_digit}
use Rattle.octets.specs.Words.{is_empty}
use Rattle.source.specs.Source.{spell}
use Rattle.numbers.specs.Sign.{has_minus, after_sign, is_digits, leads_in_digit}
use Rattle.numbers.specs.Float.{no_leading, kept, no_trailing, or_zero, after_point}
use Rattle.numbers.specs.Worth.{zeros}
use Rattle.numbers.specs.laws.Worth.{only_zeros}
use Rattle.numbers.specs.FloatParts.{front, after_digits}

all_is : (s : List ℕ) → all_of is_digit s ≡ is_empty (after_digits s)
unfolding all_of after_digits pick
all_is [] = refl
all_is (b ∷ s) = go (is_digit b) (all_is s)
  where
    go : (t : Bool) → all_of is_digit s ≡ is_empty (after_digits s) → pick t (all_of is_digit s) false ≡ is_empty (pick t (after_digits s) (b ∷ s))
    go true ih = ih
    go false ih = refl

-- ---- digits at the front: passed over, or taken

-- 256, which stands for the end, is no digit
pub digit_byte : (u : ℕ) → is_digit u ≡ true → u ≡ 256 → ⊥
digit_byte u h e = let r = within_range 48 57 u h in omega arith

-- what stands at the cursor is no digit, or is the end
module _ {s : List ℕ} (u : ℕ) (t : List ℕ) (e : s ≡ spell u t) where
  pub after_stop : is_digit u ≡ false → after_digits s ≡ s
  unfolding after_digits spell pick
  after_stop h = rw e (go (eqb u 256))
    where
      go : (v : Bool) → after_digits (pick v [] (u ∷ t)) ≡ pick v [] (u ∷ t)
      go true = refl
      go false = rw h

  pub front_stop : is_digit u ≡ false → front s ≡ []
  unfolding front spell pick
  front_stop h = rw e (go (eqb u 256))
    where
      go : (v : Bool) → front (pick v [] (u ∷ t)) ≡ []
      go true = refl
      go false = rw h

  -- it is no zero
  pub leading_stop : (u ≡ 48 → ⊥) → no_leading s ≡ s
  unfolding no_leading spell pick
  leading_stop h = rw e (go (eqb u 256))
    where
      go : (v : Bool) → no_leading (pick v [] (u ∷ t)) ≡ pick v [] (u ∷ t)
      go true = refl
      go false = rw (ne_eqb u 48 h)

module _ {s t : List ℕ} {b : ℕ} (e : s ≡ b ∷ t) where
  pub after_more : is_digit b ≡ true → after_digits s ≡ after_digits t
  unfolding after_digits pick
  after_more h = rw (e, h)

  pub front_more : is_digit b ≡ true → front s ≡ b ∷ front t
  unfolding front pick
  front_more h = rw (e, h)

  -- ---- leading zeros
  pub leading_more : b ≡ 48 → no_leading s ≡ no_leading t
  unfolding no_leading pick
  leading_more h = rw (e, h)

  -- ---- zeros to the end
  pub zeros_more : b ≡ 48 → is_empty (no_trailing s) ≡ is_empty (no_trailing t)
  unfolding no_trailing kept pick
  zeros_more h = rw (e, h) (go (no_trailing t))
    where
      go : (l : List ℕ) → is_empty (kept 48 l) ≡ is_empty l
      go [] = refl
      go (x ∷ l) = refl

  pub zeros_stop : (b ≡ 48 → ⊥) → is_empty (no_trailing s) ≡ false
  unfolding no_trailing kept pick
  zeros_stop h = rw e (go (no_trailing t))
    where
      go : (l : List ℕ) → is_empty (kept b l) ≡ false
      go [] = rw (ne_eqb b 48 h)
      go (x ∷ l) = refl

  -- ---- digits to the end: what follows them is x, or the end
  pub all_after : (x : ℕ) (r : List ℕ) → after_digits s ≡ spell x r → eqb x 256 ≡ is_digits s
  unfolding ◌and◌ spell pick
  all_after x r k = rw (lt-ltb 0 (length s) (rw e (omega arith)), all_is s, k) (go (eqb x 256))
    where
      go : (v : Bool) → v ≡ is_empty (pick v [] (x ∷ r))
      go true = refl
      go false = refl

pub zeros_end : {s : List ℕ} → s ≡ [] → is_empty (no_trailing s) ≡ true
unfolding no_trailing
zeros_end e = rw e

pub all_none : {s : List ℕ} → s ≡ [] → false ≡ is_digits s
unfolding ◌and◌
all_none e = rw e

-- ---- what stands at the cursor: u, or the end

module _ {s : List ℕ} (u : ℕ) (r : List ℕ) (e : s ≡ spell u r) where
  pub minus_at : eqb u 45 ≡ has_minus s
  unfolding has_minus spell pick
  minus_at = rw e (go (eqb u 256) refl)
    where
      go : (v : Bool) → eqb u 256 ≡ v → eqb u 45 ≡ has_minus (pick v [] (u ∷ r))
      go true f = rw (eqb-true u 256 f)
      go false f = refl

  pub lead_at : is_digit u ≡ leads_in_digit s
  unfolding leads_in_digit spell pick ◌and◌
  lead_at = rw e (go (eqb u 256) refl)
    where
      go : (v : Bool) → eqb u 256 ≡ v → is_digit u ≡ leads_in_digit (pick v [] (u ∷ r))
      go true f = rw (eqb-true u 256 f)
      go false f = refl

  -- d is what a test of u answered
  pub lead_is : {d v : Bool} → d ≡ is_digit u → d ≡ v → leads_in_digit s ≡ v
  lead_is h k = sym lead_at ∙ sym h ∙ k

  pub sign_none : (u ≡ 45 → ⊥) → (u ≡ 43 → ⊥) → after_sign s ≡ s
  unfolding after_sign spell pick ◌or◌
  sign_none h k = rw e (go (eqb u 256))
    where
      go : (v : Bool) → after_sign (pick v [] (u ∷ r)) ≡ pick v [] (u ∷ r)
      go true = refl
      go false = rw (ne_eqb u 45 h, ne_eqb u 43 k)

module _ {s t : List ℕ} {b : ℕ} (e : s ≡ b ∷ t) where
  pub sign_minus : b ≡ 45 → after_sign s ≡ t
  unfolding after_sign pick ◌or◌
  sign_minus h = rw (e, h)

  pub sign_plus : b ≡ 43 → after_sign s ≡ t
  unfolding after_sign pick ◌or◌
  sign_plus h = rw (e, h)

-- ---- what is written: the digits before the point, or 0; a point before the others

pub front_empty : (s : List ℕ) → is_empty (front s) ≡ not (leads_in_digit s)
unfolding front leads_in_digit pick
front_empty [] = refl
front_empty (b ∷ s) = go (is_digit b)
  where
    go : (t : Bool) → is_empty (pick t (b ∷ front s) []) ≡ not t
    go true = refl
    go false = refl

pub lead_some : (s : List ℕ) → leads_in_digit s ≡ true → or_zero (front s) ≡ front s
unfolding front leads_in_digit or_zero pick
lead_some [] h = absurd (false≢true h)
lead_some (b ∷ s) h = rw h

pub lead_none : (s : List ℕ) → leads_in_digit s ≡ false → or_zero (front s) ≡ 48 ∷ []
unfolding front leads_in_digit or_zero pick
lead_none [] h = refl
lead_none (b ∷ s) h = rw h

pub point_none : (s : List ℕ) → is_empty s ≡ true → after_point s ≡ []
unfolding after_point
point_none [] h = refl
point_none (b ∷ s) h = absurd (false≢true h)

pub point_some : (s : List ℕ) → is_empty s ≡ false → after_point s ≡ 46 ∷ s
unfolding after_point
point_some [] h = absurd (false≢true (sym h))
point_some (b ∷ s) h = refl

-- ---- digits without trailing zeros: zeros wait until a digit follows them that is not 0

pub zeros_next : (n : ℕ) → 0 < n → zeros n ≡ (48 ∷ []) ++ zeros (n - 1)
unfolding zeros
zeros_next zero h = absurd (omega arith)
zeros_next (suc n) h = let e : suc n - 1 ≡ n = omega arith in rw e

pub zeros_done : (n : ℕ) → n ≡ 0 → zeros n ≡ []
unfolding zeros
zeros_done n h = rw h

shift : (k : ℕ) (t : List ℕ) → zeros k ⊕ (48 ∷ t) ≡ zeros (suc k) ⊕ t
unfolding zeros ◌⊕◌
shift zero t = refl
shift (suc k) t = ap (λ (l : List ℕ). 48 ∷ l) (shift k t)

kept_some : (k b : ℕ) (t : List ℕ) → kept 48 ((zeros k ⊕ (b ∷ [])) ++ t) ≡ 48 ∷ ((zeros k ⊕ (b ∷ [])) ++ t)
unfolding zeros kept ◌⊕◌
kept_some zero b t = refl
kept_some (suc k) b t = refl

kept_digit : (b : ℕ) (t : List ℕ) → (b ≡ 48 → ⊥) → kept b t ≡ b ∷ t
unfolding kept pick
kept_digit b [] h = rw (ne_eqb b 48 h)
kept_digit b (x ∷ t) h = refl

trim_on : (k b : ℕ) (t : List ℕ) → (b ≡ 48 → ⊥) → no_trailing (zeros k ⊕ (b ∷ t)) ≡ (zeros k ⊕ (b ∷ [])) ++ no_trailing t
unfolding zeros no_trailing ◌⊕◌
trim_on zero b t h = kept_digit b (no_trailing t) h
trim_on (suc k) b t h = rw (trim_on k b t h) (kept_some k b (no_trailing t))

pub trim_start : (s : List ℕ) → no_trailing s ≡ no_trailing (zeros 0 ⊕ s)
unfolding zeros ◌⊕◌
trim_start s = refl

pub trim_end : (k : ℕ) {s : List ℕ} → s ≡ [] → no_trailing (zeros k ⊕ s) ≡ []
trim_end k e = rw (e, append_none (zeros k)) (only_zeros k)

module _ (k : ℕ) {s t : List ℕ} {b : ℕ} (e : s ≡ b ∷ t) where
  pub trim_zero : b ≡ 48 → no_trailing (zeros k ⊕ s) ≡ no_trailing (zeros (k + 1) ⊕ t)
  trim_zero h = rw (e, h, add-one, shift k t)

  pub trim_more : (b ≡ 48 → ⊥) → no_trailing (zeros k ⊕ s) ≡ (zeros k ⊕ (b ∷ [])) ++ no_trailing (zeros 0 ⊕ t)
  trim_more h = rw e (trim_on k b t h ∙ ap (λ (l : List ℕ). (zeros k ⊕ (b ∷ [])) ++ l) (trim_start t))
