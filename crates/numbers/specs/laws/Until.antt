-- Laws of what specs/Until.antt defines.
--     turn_byte, turn_end    what stands at the cursor, where a byte was found, and where none was
use Rattle.std.specs.Prelude.{◌≡◌, Bool, ℕ, ◌^◌, ◌<◌, eqb}
use Rattle.std.proofs.Math.Path.{refl}
use Rattle.std.proofs.Common.{◌∙◌, eq-eqb, ne_eqb}
use Rattle.std.proofs.Math.Bool.{true, false}
use mathlib.Core.List.{List, [], ◌∷◌}
use native.Mathlib.Omega.{arith}
use Rattle.octets.specs.Pick.{pick}
use Rattle.octets.specs.Front.{up_to}
use Rattle.source.specs.Source.{rest, spell, Reads}
use Rattle.source.specs.laws.Facts.{spell_byte, spell_end}
use Rattle.source.specs.declared.points.Unit.{Unit}
use Rattle.numbers.specs.Until.{before, until, Turns}

pub until_all : (m : ℕ) (s : List ℕ) (c : ℕ) → until 256 m s c ≡ rest m s c
unfolding until pick
until_all m s c = refl

module _ {e m : ℕ} {s : List ℕ} {c : ℕ} {r : Unit} (p : Turns e m s c r) where
  pub turn_byte : (r.u ≡ 256 → ⊥) → until e m s c ≡ r.u ∷ until e m s r.next
  turn_byte h = p.is ∙ spell_byte r.u (until e m s r.next) h

  -- a byte that is known was found
  pub turn_this : (b : ℕ) → r.u ≡ b → eqb b 256 ≡ false → until e m s c ≡ b ∷ until e m s r.next
  unfolding spell pick
  turn_this b h f = p.is ∙ rw (h, f)

  pub turn_end : r.u ≡ 256 → until e m s c ≡ []
  turn_end h = p.is ∙ spell_end r.u (until e m s r.next) h

module _ (e : ℕ) {m : ℕ} {s : List ℕ} {c : ℕ} {r : Unit} (p : Reads m s c r) where
  on : (r.u ≡ e → ⊥) → until e m s c ≡ spell r.u (until e m s r.next)
  unfolding until up_to spell pick
  on h = rw p.is (go (eqb e 256) (eqb r.u 256))
    where
      go : (t v : Bool) → pick t (pick v [] (r.u ∷ rest m s r.next)) (before e (pick v [] (r.u ∷ rest m s r.next)))
          ≡ pick v [] (r.u ∷ pick t (rest m s r.next) (before e (rest m s r.next)))
      go true v = refl
      go false true = refl
      go false false = rw (ne_eqb r.u e h)

  stops : r.u ≡ e → until e m s c ≡ []
  unfolding until up_to spell pick
  stops h = rw (p.is, h) (go (eqb e 256))
    where
      go : (t : Bool) → pick t (pick t [] (e ∷ rest m s r.next)) (before e (pick t [] (e ∷ rest m s r.next))) ≡ []
      go true = refl
      go false = rw (eq-eqb e e refl)

  pub turn_on : (r.u ≡ e → ⊥) → Turns e m s c (record { u = r.u; next = r.next })
  turn_on h = record { is = on h; small = p.small; moved = p.moved; inside = p.inside }

  pub turn_stop : r.u ≡ e → c < 2 ^ 64 → r.next < 2 ^ 64 → Turns e m s c (record { u = 256; next = r.next })
  unfolding spell pick
  turn_stop h f g = record { is = stops h; small = omega arith; moved = omega arith; inside = omega arith }
