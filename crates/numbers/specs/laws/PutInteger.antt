-- A number written digit by digit: laws at each way that the code goes.
--     put_front            a byte, and then others
--     digits_last, digits_only, digits_more    the three returns of `put_digits`; b is the byte that it puts
use Rattle.std.specs.Prelude.{◌≡◌, refl, List, [], ◌∷◌, ℕ, zero, suc, ◌+◌, ◌-◌, ◌/◌, ◌%◌, ◌≤◌, ◌<◌, ltb}
use Rattle.std.proofs.Common.{arith}
use borrow.Author.Tests.{lt-ltb, le-ltb}
use Rattle.octets.specs.Pick.{pick}
use Rattle.octets.specs.Append.{◌⊕◌}
use Rattle.octets.specs.laws.Append.{append_cons, append_empty}
use Rattle.octets.specs.Decimal.{digits}
use Rattle.sink.specs.Sink.{Put}
use Rattle.sink.specs.laws.Sink.{◌▷◌, writing}

pub put_front : {d e f : List ℕ} {at m r b : ℕ} {cs : List ℕ} → Put d e at m (b ∷ []) → Put e f m r cs → Put d f at r (b ∷ cs)
put_front {d} {e} {f} {at} {m} {r} {b} {cs} p q = rw (append_cons b [] cs, append_empty cs) at (p ▷ q)

suc_sub_one : (n : ℕ) → suc n - 1 ≡ n
suc_sub_one n = omega arith

digits_next : (f n : ℕ) → (f ≡ 0 → ⊥) → digits f n ≡ pick (ltb n 10) ((48 + n) ∷ []) (digits (f - 1) (n / 10) ⊕ (48 + n % 10) ∷ [])
unfolding digits
digits_next zero n h = absurd (h refl)
digits_next (suc f) n h = rw suc_sub_one

module _ {d e : List ℕ} {at r b : ℕ} (f n : ℕ) where
  pub digits_last : f ≡ 0 → b ≡ 48 + n % 10 → Put d e at r (b ∷ []) → Put d e at r (digits f n)
  unfolding digits
  digits_last h q p = rw (h, ← q) p

  pub digits_only : (f ≡ 0 → ⊥) → n < 10 → b ≡ 48 + n → Put d e at r (b ∷ []) → Put d e at r (digits f n)
  unfolding pick
  digits_only h l q p = rw (digits_next f n h, lt-ltb n 10 l, ← q) p

  pub digits_more : (f ≡ 0 → ⊥) → 10 ≤ n → b ≡ 48 + n % 10 → Put d e at r (digits (f - 1) (n / 10) ⊕ b ∷ []) → Put d e at r (digits f n)
  unfolding pick
  digits_more h l q p = rw (digits_next f n h, le-ltb n 10 l, ← q) p

pub ruleset putting = (put_front, digits_last, digits_only, digits_more, writing)
