-- Laws of what specs/Find.antt defines.
--     return_some, return_none      what `memchr` says of the first CR from i on
use Rattle.std.specs.Prelude.{◌≡◌, Bool, true, false, ℕ, zero, suc, ◌+◌, ◌-◌, ◌≤◌, ◌<◌, length, get_or, take, drop, Option, Some, None, unwrap_or}
use Rattle.std.proofs.Math.Path.{refl}
use Rattle.std.proofs.Common.{ap, ◌∙◌, arith, length-drop}
use mathlib.Core.List.{List, [], ◌∷◌}
use Rattle.memchr.specs.Find.{IsFirstByte, is_byte}
use Rattle.octets.specs.Pick.{pick}
use Rattle.octets.specs.Scan.{span_len, span_end}
use Rattle.octets.specs.laws.Scan.{part_rest}
use Rattle.octets.specs.Find.{without, is_return}

without_yes : (b : ℕ) → is_return b ≡ true → without is_return b ≡ false
unfolding without pick
without_yes b h = rw h

without_no : (b : ℕ) → (is_return b ≡ true → ⊥) → without is_return b ≡ true
unfolding without pick
without_no b h = go (is_return b) h
  where
    go : (t : Bool) → (t ≡ true → ⊥) → pick t false true ≡ true
    go true n = absurd (n refl)
    go false n = refl

module _ (p : ℕ → Bool) where
  -- a front of k elements that pass, and no more
  span_is : (s : List ℕ) (k : ℕ) → k ≤ length s → ((j : ℕ) → j < k → p (get_or s j 0) ≡ true) → (k < length s → p (get_or s k 0) ≡ false) → span_len p s ≡ k
  unfolding span_len pick
  span_is [] k h before last = omega arith
  span_is (x ∷ s) zero h before last = rw (last (omega arith))
  span_is (x ∷ s) (suc k) h before last =
      rw (before 0 (omega arith)) (ap suc (span_is s k (omega arith) (λ j l. before (suc j) (omega arith)) (λ l. last (omega arith))))

first_return : (s : List ℕ) (r : Option ℕ) → IsFirstByte (is_byte 13) s r → span_len (without is_return) s ≡ unwrap_or r (length s)
first_return s None h = span_is (without is_return) s (length s) (omega arith) (λ j l. without_no _ (h j (omega arith) l)) (λ l. absurd (omega arith))
first_return s (Some k) h =
    let f = h.0 in
    span_is (without is_return) s k (omega (arith, f.high)) (λ j l. without_no _ (f.before j (omega arith) l)) (λ l. without_yes _ h.1)

module _ (s : List ℕ) (i : ℕ) where
  found : (r : Option ℕ) → IsFirstByte (is_byte 13) (take (length s - i) (drop i s)) r → span_len (without is_return) (drop i s) ≡ unwrap_or r (length s - i)
  found r h = let e = first_return (take (length s - i) (drop i s)) r h in rw (part_rest, length-drop) at e

  pub return_some : (r : Option ℕ) (k : ℕ) → IsFirstByte (is_byte 13) (take (length s - i) (drop i s)) r → r ≡ Some k → i + k ≡ span_end (without is_return) s i
  return_some r k h e = let f : span_len (without is_return) (drop i s) ≡ k = found r h ∙ rw e in omega (arith, f)

  pub return_none : (r : Option ℕ) → IsFirstByte (is_byte 13) (take (length s - i) (drop i s)) r → r ≡ None → i ≤ length s → length s ≡ span_end (without is_return) s i
  return_none r h e l = let f : span_len (without is_return) (drop i s) ≡ length s - i = found r h ∙ rw e in omega (arith, f)
