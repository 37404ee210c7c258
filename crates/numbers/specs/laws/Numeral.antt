-- Laws of what specs/Numeral.antt defines.
use Rattle.std.specs.Prelude.{◌≡◌, Bool, List, [], ◌∷◌, ℕ, ◌+◌, ◌-◌, ◌*◌, ◌^◌, ◌≤◌, ◌<◌, eqb, None, Some}
use Rattle.std.proofs.Math.Path.{refl}
use Rattle.std.proofs.Common.{◌∙◌}
use Rattle.std.proofs.Math.Bool.{true, false}
use native.Mathlib.Omega.{arith}
use Rattle.std.proofs.Math.Dec.{leb}
use borrow.Author.Tests.{le-leb, lt-leb}
use Rattle.octets.specs.Pick.{pick, ◌and◌}
use Rattle.octets.specs.Scan.{all_of}
use Rattle.octets.specs.Class.{is_digit, is_alpha}
use Rattle.octets.specs.Front.{up_to}
use Rattle.octets.specs.Decimal.{value}
use Rattle.octets.specs.laws.Decimal.{value_grows}
use Rattle.octets.specs.Reading.{provided}
use Rattle.source.specs.Source.{rest, spell, Reads}
use Rattle.source.specs.laws.Facts.{spell_byte, spell_end}
use Rattle.source.specs.declared.points.Unit.{Unit}
use Rattle.numbers.specs.Numeral.{front, Fronts, worth_to}

-- ---- a step

up_spell : (u : ℕ) (r : List ℕ) → is_alpha u ≡ false → up_to is_alpha (spell u r) ≡ spell u (up_to is_alpha r)
unfolding up_to spell pick
up_spell u r h = go (eqb u 256)
  where
    go : (t : Bool) → up_to is_alpha (pick t [] (u ∷ r)) ≡ pick t [] (u ∷ up_to is_alpha r)
    go true = refl
    go false = rw h

up_letter : (u : ℕ) (r : List ℕ) → is_alpha u ≡ true → up_to is_alpha (spell u r) ≡ []
unfolding up_to spell pick
up_letter u r h = go (eqb u 256)
  where
    go : (t : Bool) → up_to is_alpha (pick t [] (u ∷ r)) ≡ []
    go true = refl
    go false = rw h

module _ {l : Bool} {m : ℕ} {s : List ℕ} {c : ℕ} {r : Unit} (p : Reads m s c r) where
  pub front_all : l ≡ false → Fronts l m s c r
  front_all e = rw e (record { is = p.is; small = p.small; moved = p.moved; inside = p.inside })

  pub front_byte : l ≡ true → is_alpha r.u ≡ false → Fronts l m s c r
  front_byte e h = rw e (record { is = rw p.is (up_spell r.u (rest m s r.next) h); small = p.small; moved = p.moved; inside = p.inside })

  pub front_letter : l ≡ true → is_alpha r.u ≡ true → c < 2 ^ 64 → Fronts l m s c (record { u = 256; next = c })
  unfolding spell pick
  front_letter e h b = rw e (record { is = rw p.is (up_letter r.u (rest m s r.next) h); small = omega arith; moved = omega arith; inside = omega arith })

module _ {l : Bool} {m : ℕ} {s : List ℕ} {c : ℕ} {r : Unit} (p : Fronts l m s c r) where
  pub fronts_byte : (r.u ≡ 256 → ⊥) → front l (rest m s c) ≡ r.u ∷ front l (rest m s r.next)
  fronts_byte h = p.is ∙ spell_byte r.u (front l (rest m s r.next)) h

  pub fronts_end : r.u ≡ 256 → front l (rest m s c) ≡ []
  fronts_end h = p.is ∙ spell_end r.u (front l (rest m s r.next)) h

-- ---- digits to the end, one a turn

module _ (m n : ℕ) where
  pub worth_end : {s : List ℕ} → s ≡ [] → n ≤ m → worth_to m n s ≡ Some n
  unfolding worth_to all_of value pick ◌and◌
  worth_end e h = rw (e, le-leb n m h)

  pub worth_none : {s t : List ℕ} {b : ℕ} → s ≡ b ∷ t → is_digit b ≡ false → worth_to m n s ≡ None
  unfolding worth_to all_of pick ◌and◌
  worth_none e h = rw (e, h)

  pub worth_more : {s t : List ℕ} {b : ℕ} → s ≡ b ∷ t → is_digit b ≡ true → worth_to m n s ≡ worth_to m (n * 10 + (b - 48)) t
  unfolding worth_to all_of value pick
  worth_more e h = rw (e, h)

  pub worth_much : {s t : List ℕ} {b : ℕ} → s ≡ b ∷ t → is_digit b ≡ true → m < n * 10 + (b - 48) → worth_to m n s ≡ None
  unfolding worth_to pick ◌and◌
  worth_much {s} {t} {b} e h l = worth_more e h ∙ go (all_of is_digit t)
    where
      go : (c : Bool) → provided (c and leb (value (n * 10 + (b - 48)) t) m) (value (n * 10 + (b - 48)) t) ≡ None
      go true = rw (lt-leb (value (n * 10 + (b - 48)) t) m (omega (arith, value_grows t (n * 10 + (b - 48)))))
      go false = refl
