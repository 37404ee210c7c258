-- Laws of what specs/Comparing.antt defines.
--     same_apart, same_end, same_more  two words, by the units at their cursors;   same_less: the measure of a walk over them
use Rattle.std.specs.Prelude.{◌≡◌, Bool, List, ℕ, ◌-◌, ◌*◌, ◌<◌, length}
use Rattle.std.proofs.Math.Path.{refl, sym}
use Rattle.std.proofs.Common.{◌∙◌}
use Rattle.std.proofs.Math.Bool.{true, false}
use native.Mathlib.Omega.{arith}
use Rattle.std.proofs.Math.Dec.{eqb}
use borrow.Author.Tests.{eq-eqb, ne_eqb, eqb-true, eqb-false}
use Rattle.octets.specs.Pick.{pick, ◌and◌}
use Rattle.octets.specs.Class.{upper_byte, upper}
use Rattle.octets.specs.Words.{same}
use Rattle.source.specs.Source.{rest, spell, Reads}
use Rattle.source.specs.laws.Facts.{rest_byte, rest_end, byte_small}
use Rattle.source.specs.declared.points.Unit.{Unit}
use Rattle.names.specs.laws.Case.{same_step, same_empty, empty_unit, cased_small}
use Rattle.names.specs.declared.Case.TheVariants.{Capital}

-- 256, the sign of the end, is no letter
end_upper : (u : ℕ) → u ≡ 256 → upper_byte u ≡ 256
unfolding pick ◌and◌
end_upper u h = rw h

module _ {m : ℕ} {s t : List ℕ} {c d : ℕ} {x y : Unit} (p : Reads m s c x) (q : Reads m t d y) where
  -- where a byte of the second is found
  byte_there : (y.u ≡ 256 → ⊥) → same (upper (rest m s c)) (upper (rest m t d)) ≡ (eqb (upper_byte x.u) (upper_byte y.u) and same (upper (rest m s x.next)) (upper (rest m t y.next)))
  unfolding upper
  byte_there h = rw (p.is, rest_byte q h) (same_step Capital x.u (rest m s x.next) (upper_byte y.u) (upper (rest m t y.next)) (cased_small Capital y.u (byte_small q h)))

  end_there : y.u ≡ 256 → same (upper (rest m s c)) (upper (rest m t d)) ≡ eqb x.u 256
  unfolding upper
  end_there h = rw (rest_end q h, p.is) (same_empty Capital (spell x.u (rest m s x.next)) ∙ empty_unit x.u (rest m s x.next))

  module _ {a b : ℕ} (e : a ≡ upper_byte x.u) (f : b ≡ upper_byte y.u) where
    -- both end, or none of them
    pub ends_both : a ≡ b → x.u ≡ 256 → y.u ≡ 256
    ends_both h k = go (eqb y.u 256) refl
      where
        go : (z : Bool) → eqb y.u 256 ≡ z → y.u ≡ 256
        go true g = eqb-true y.u 256 g
        go false g = let l : upper_byte y.u < 256 = cased_small Capital y.u (byte_small q (eqb-false y.u 256 g)) in let m : upper_byte x.u ≡ 256 = end_upper x.u k in absurd (omega arith)

    pub same_apart : (a ≡ b → ⊥) → false ≡ same (upper (rest m s c)) (upper (rest m t d))
    unfolding ◌and◌
    same_apart h = go (eqb y.u 256) refl
      where
        go : (z : Bool) → eqb y.u 256 ≡ z → false ≡ same (upper (rest m s c)) (upper (rest m t d))
        go true g = sym (end_there (eqb-true y.u 256 g) ∙ ne_eqb x.u 256 (λ k. h (e ∙ end_upper x.u k ∙ sym (end_upper y.u (eqb-true y.u 256 g)) ∙ sym f)))
        go false g = sym (byte_there (eqb-false y.u 256 g) ∙ rw (ne_eqb (upper_byte x.u) (upper_byte y.u) (λ k. h (e ∙ k ∙ sym f))))

    pub same_end : a ≡ b → x.u ≡ 256 → true ≡ same (upper (rest m s c)) (upper (rest m t d))
    same_end h k = sym (end_there (ends_both h k) ∙ eq-eqb x.u 256 k)

    pub same_more : a ≡ b → (x.u ≡ 256 → ⊥) → same (upper (rest m s c)) (upper (rest m t d)) ≡ same (upper (rest m s x.next)) (upper (rest m t y.next))
    unfolding ◌and◌
    same_more h k = byte_there other ∙ rw (eq-eqb (upper_byte x.u) (upper_byte y.u) (sym e ∙ h ∙ f))
      where
        other : y.u ≡ 256 → ⊥
        other g = let l : upper_byte x.u < 256 = cased_small Capital x.u (byte_small p k) in let m : upper_byte y.u ≡ 256 = end_upper y.u g in omega arith

pub same_less : {m : ℕ} {s : List ℕ} {c : ℕ} {x : Unit} → Reads m s c x → (x.u ≡ 256 → ⊥) → 4 * length s - x.next < 4 * length s - c
same_less p h = let u = byte_small p h in omega arith
