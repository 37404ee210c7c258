-- Laws of what specs/Numeral.antt defines.
use Rattle.std.specs.Prelude.{◌≡◌, Bool, ℕ, suc, ◌+◌, ◌-◌, ◌*◌, ◌/◌, ◌^◌, ◌≤◌, ◌<◌, eqb, length, Option, None, Some, is_some}
use Rattle.std.proofs.Math.Path.{refl}
use Rattle.std.proofs.Common.{sym, ◌∙◌, arith, rules}
use Rattle.std.proofs.Math.Bool.{true, false}
use mathlib.Core.List.{List, [], ◌∷◌}
use Rattle.std.proofs.Math.Dec.{leb}
use borrow.Author.Tests.{ne_eqb, lt-ltb, le-leb, lt-leb, leb-true, leb-false}
use Rattle.octets.specs.Pick.{pick, ◌and◌, ◌or◌}
use Rattle.octets.specs.Scan.{all_of}
use Rattle.octets.specs.Class.{is_digit}
use Rattle.octets.specs.Decimal.{value}
use Rattle.octets.specs.Reading.{provided}
use Rattle.octets.specs.laws.Reading.{none-some}
use Rattle.source.specs.Source.{rest, spell}
use Rattle.source.specs.declared.points.Unit.{Unit}
use Rattle.numbers.specs.Numeral.{front, Fronts, worth_to}
use Rattle.numbers.specs.laws.Numeral.{fronts_byte, fronts_end}
use Rattle.numbers.specs.Sign.{after_sign}
use Rattle.recur.specs.Item.{is_numeral, is_short}
use Rattle.recur.specs.Numeral.{numeral_in}

-- ---- a sign

module _ {l : Bool} {m : ℕ} {s : List ℕ} {c : ℕ} {r : Unit} (p : Fronts l m s c r) where
  pub sign_plus : r.u ≡ 43 → after_sign (front l (rest m s c)) ≡ front l (rest m s r.next)
  unfolding after_sign spell pick ◌or◌
  sign_plus h = rw (p.is, h)

  pub sign_minus : r.u ≡ 45 → after_sign (front l (rest m s c)) ≡ front l (rest m s r.next)
  unfolding after_sign spell pick ◌or◌
  sign_minus h = rw (p.is, h)

  pub sign_none : (r.u ≡ 43 → ⊥) → (r.u ≡ 45 → ⊥) → after_sign (front l (rest m s c)) ≡ front l (rest m s c)
  unfolding after_sign spell pick ◌or◌
  sign_none h k = rw p.is (go (eqb r.u 256))
    where
      go : (t : Bool) → after_sign (pick t [] (r.u ∷ front l (rest m s r.next))) ≡ pick t [] (r.u ∷ front l (rest m s r.next))
      go true = refl
      go false = rw (ne_eqb r.u 43 h, ne_eqb r.u 45 k)

-- ---- a number of at least one digit, worth lo at least

pub numeral_none : (lo hi : ℕ) {s : List ℕ} → s ≡ [] → numeral_in lo hi s ≡ None
unfolding numeral_in pick ◌and◌
numeral_none lo hi e = rw e

module _ (lo hi : ℕ) {s t : List ℕ} {b : ℕ} {r : Option ℕ} (e : s ≡ b ∷ t) (w : worth_to hi 0 s ≡ r) where
  pub numeral_bad : r ≡ None → numeral_in lo hi s ≡ None
  unfolding numeral_in worth_to ◌and◌ pick
  numeral_bad f = rw (lt-ltb 0 (length s) (rw e (omega arith))) (go (all_of is_digit s and leb (value 0 s) hi) (w ∙ f))
    where
      go : (c : Bool) → provided c (value 0 s) ≡ None → provided (c and leb lo (value 0 s)) (value 0 s) ≡ None
      go true k = none-some (sym k)
      go false k = refl

  pub numeral_low : {n : ℕ} → r ≡ Some n → n < lo → numeral_in lo hi s ≡ None
  unfolding numeral_in worth_to ◌and◌ pick
  numeral_low {n} f h = rw (lt-ltb 0 (length s) (rw e (omega arith))) (go (all_of is_digit s and leb (value 0 s) hi) (w ∙ f))
    where
      go : (c : Bool) → provided c (value 0 s) ≡ Some n → provided (c and leb lo (value 0 s)) (value 0 s) ≡ None
      go true k = let z : value 0 s ≡ n = cc in rw (z, lt-leb lo n h)
      go false k = refl

  pub numeral_some : {n : ℕ} → r ≡ Some n → lo ≤ n → numeral_in lo hi s ≡ Some n
  unfolding numeral_in worth_to ◌and◌ pick
  numeral_some {n} f h = rw (lt-ltb 0 (length s) (rw e (omega arith))) (go (all_of is_digit s and leb (value 0 s) hi) (w ∙ f))
    where
      go : (c : Bool) → provided c (value 0 s) ≡ Some n → provided (c and leb lo (value 0 s)) (value 0 s) ≡ Some n
      go true k = let z : value 0 s ≡ n = cc in rw (z, le-leb lo n h)
      go false k = k

-- whether there is a number
pub numeral_told : (lo hi : ℕ) (s : List ℕ) → is_some (numeral_in lo hi s) ≡ is_numeral lo hi s
unfolding numeral_in pick
numeral_told lo hi s = go (is_numeral lo hi s)
  where
    go : (c : Bool) → is_some (provided c (value 0 s)) ≡ c
    go true = refl
    go false = refl

-- ---- how many bytes there are at most: i of them are passed

pub record Passed (d : ℕ) (l : Bool) (m : ℕ) (s : List ℕ) (c₀ c i : ℕ) : Type 0 where
  pub inside : i ≤ d
  pub left : is_short d (front l (rest m s c₀)) ≡ is_short (d - i) (front l (rest m s c))

pub passed_start : (d : ℕ) (l : Bool) (m : ℕ) (s : List ℕ) (c : ℕ) → Passed d l m s c c 0
passed_start d l m s c = let e : d - 0 ≡ d = omega arith in record { inside = omega arith; left = rw e }

leb_less : (x y : ℕ) → 0 < y → leb (suc x) y ≡ leb x (y - 1)
leb_less x y h = go (leb x (y - 1)) refl
  where
    go : (t : Bool) → leb x (y - 1) ≡ t → leb (suc x) y ≡ t
    go true e = le-leb (suc x) y (omega (arith, leb-true x (y - 1) e))
    go false e = lt-leb (suc x) y (omega (arith, leb-false x (y - 1) e))

module _ {d : ℕ} {l : Bool} {m : ℕ} {s : List ℕ} {c₀ c i : ℕ} {r : Unit} (t : Passed d l m s c₀ c i) (p : Fronts l m s c r) where
  pub passed_end : r.u ≡ 256 → true ≡ is_short d (front l (rest m s c₀))
  passed_end h = sym (t.left ∙ rw (fronts_end p h) (le-leb 0 (d - i) (omega arith)))

  pub passed_long : (r.u ≡ 256 → ⊥) → i ≡ d → false ≡ is_short d (front l (rest m s c₀))
  passed_long h e = sym (t.left ∙ rw (fronts_byte p h) (lt-leb (suc (length (front l (rest m s r.next)))) (d - i) (omega arith)))

  pub passed_more : (r.u ≡ 256 → ⊥) → (i ≡ d → ⊥) → Passed d l m s c₀ r.next (i + 1)
  passed_more h e =
      let a = t.inside in
      let k : i < d = omega (arith, e) in
      let g : d - (i + 1) ≡ d - i - 1 = omega arith in
      record {
        inside = omega arith;
        left = t.left ∙ rw (fronts_byte p h, g) (leb_less (length (front l (rest m s r.next))) (d - i) (omega arith));
      }

  pub passed_less : (r.u ≡ 256 → ⊥) → 4 * length s - r.next < 4 * length s - c
  passed_less h = go r.u p.small h p.moved p.inside
    where
      go : (u : ℕ) → u ≤ 256 → (u ≡ 256 → ⊥) → c < r.next + u / 256 * 2 ^ 64 → r.next ≤ 4 * length s + u / 256 * 2 ^ 64 → 4 * length s - r.next < 4 * length s - c
      go u a h b d = let k : u < 256 = omega (arith, h) in omega arith

pub ruleset passing = (passed_start, passed_end, passed_long, passed_more, passed_less, rules)
