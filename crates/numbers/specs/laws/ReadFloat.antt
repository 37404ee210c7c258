-- Laws of what specs/ReadFloat.antt defines.
--     shape_..          the ways of `read_shape`;   minus_..: whether the minus counts;   float_..: the ways of `float_to`
use Rattle.std.specs.Prelude.{◌≡◌, Bool, true, false, not, List, [], ◌∷◌, ℕ, Option, None, Some, option_map, refl}
use Rattle.std.proofs.Common.{◌∙◌}
use Rattle.std.specs.Bool.{then_some}
use Rattle.octets.specs.Pick.{pick, ◌and◌}
use Rattle.octets.specs.Words.{is_empty}
use Rattle.octets.specs.Reading.{and_then}
use Rattle.calendar.specs.Calendar.{Decimal}
use Rattle.source.specs.Source.{rest}
use Rattle.numbers.specs.Sign.{has_minus, after_sign, is_digits, leads_in_digit}
use Rattle.numbers.specs.Float.{decimal, no_leading, no_trailing, read_float}
use Rattle.numbers.specs.Until.{until}
use Rattle.numbers.specs.laws.Until.{until_all}
use Rattle.numbers.specs.FloatParts.{front, after_digits}
use Rattle.numbers.specs.laws.FloatParts.{spelling_none, spelling_whole, spelling_pointed, spelling_other, front_leading}
use Rattle.numbers.specs.laws.Spans.{front_empty}
use Rattle.numbers.specs.ReadFloat.{Shaped}

-- ---- the shape

module _ (e m : ℕ) (s : List ℕ) (c : ℕ) where
  pub shape_none : leads_in_digit (until e m s c) ≡ false → Shaped e m s c None
  shape_none h = record { is = λ n. spelling_none n (until e m s c) h }

  pub shape_whole : {a : ℕ} → leads_in_digit (until e m s c) ≡ true → after_digits (until e m s c) ≡ until e m s a → until e m s a ≡ [] →
      Shaped e m s c (Some a)
  shape_whole h k l = record { is = λ n. spelling_whole n (until e m s c) h (k ∙ l) ∙ rw l }

  pub shape_pointed : {d : Bool} (a : ℕ) → leads_in_digit (until e m s c) ≡ true → after_digits (until e m s c) ≡ 46 ∷ until e m s a → d ≡ is_digits (until e m s a) →
      Shaped e m s c (then_some d a)
  unfolding pick
  shape_pointed {d} a h k l = record { is = λ n. spelling_pointed n (until e m s c) h k ∙ rw (← l) (go n d) }
    where
      go : (n t : Bool) → pick t (Some (decimal n (front (until e m s c)) (until e m s a))) None
          ≡ option_map (λ f. decimal n (front (until e m s c)) (until e m s f)) (then_some t a)
      go n true = refl
      go n false = refl

  pub shape_other : {b : ℕ} {t : List ℕ} → after_digits (until e m s c) ≡ b ∷ t → (b ≡ 46 → ⊥) → Shaped e m s c None
  shape_other k h = record { is = λ n. spelling_other n (until e m s c) k h }

-- ---- whether no digit counts

module _ (x y : List ℕ) where
  pub zero_digit : leads_in_digit x ≡ true → false ≡ (is_empty (front x) and is_empty (no_trailing y))
  unfolding ◌and◌
  zero_digit h = rw (front_empty x, h)

  pub zero_after : {z : Bool} → leads_in_digit x ≡ false → is_empty (no_trailing y) ≡ z → z ≡ (is_empty (front x) and is_empty (no_trailing y))
  unfolding ◌and◌
  zero_after h k = rw (front_empty x, h, k)

-- ---- the number

module _ (e m : ℕ) (s : List ℕ) (c : ℕ) {a : ℕ} {h : Option ℕ} (k : after_sign (until e m s c) ≡ until e m s a) (p : Shaped e m s a h) where
  pub float_bad : h ≡ None → read_float (until e m s c) ≡ None
  unfolding and_then
  float_bad f = rw (k, p.is (has_minus (until e m s c)), f)

  -- x is whether no digit counts
  pub float_good : {x neg v : Bool} {f : ℕ} (z : ℕ) → h ≡ Some f → no_leading (until e m s a) ≡ until e m s z →
      x ≡ (is_empty (front (until e m s z)) and is_empty (no_trailing (until e m s f))) → neg ≡ has_minus (until e m s c) →
      v ≡ (not x and neg) → read_float (until e m s c) ≡ Some (decimal v (front (until e m s z)) (no_trailing (until e m s f)))
  unfolding and_then
  float_good z f l q g w = rw (w, k, p.is (has_minus (until e m s c)), f, front_leading (until e m s a), l, ← g, ← q)

-- where no byte ends it, it is read to the end
pub float_all : (m : ℕ) (s : List ℕ) (c : ℕ) (x : Option Decimal) → read_float (until 256 m s c) ≡ x → read_float (rest m s c) ≡ x
float_all m s c x h = rw (until_all m s c) at h
