-- Laws of what specs/FloatParts.antt defines.
--     spelling_none, spelling_whole, spelling_pointed, spelling_other    what is spelled where no digit leads, where the digits reach the end,
--                      where a point follows them, and where another byte does
--     front_leading    leading zeros dropped before or after the digits are taken
use Rattle.std.specs.Prelude.{◌≡◌, Bool, List, [], ◌∷◌, ℕ, ◌<◌, eqb, ltb, length, None, Some}
use Rattle.std.proofs.Math.Path.{refl}
use Rattle.std.proofs.Common.{sym, ap, ◌∙◌, arith, eqb-true, ne_eqb, lt-ltb}
use Rattle.std.proofs.Math.Bool.{true, false}
use Rattle.std.proofs.lemmas.Bool.{false≢true}
use Rattle.octets.specs.Pick.{pick, ◌and◌}
use Rattle.octets.specs.laws.Pick.{and_no_right, and-true}
use Rattle.octets.specs.Scan.{all_of}
use Rattle.octets.specs.Class.{is_digit}
use Rattle.octets.specs.Words.{is_empty, cut_at, onto}
use Rattle.octets.specs.Reading.{provided, and_then}
use Rattle.octets.specs.Front.{up_to}
use Rattle.numbers.specs.Sign.{is_digits, leads_in_digit}
use Rattle.numbers.specs.Float.{decimal, fraction, pointed, no_leading}
use Rattle.numbers.specs.Until.{before}
use Rattle.numbers.specs.FloatParts.{front, after_digits, more_after}

-- ---- the pieces between points: the first, and those after it

pub cut_parts : (s : List ℕ) (c : ℕ) → cut_at c s ≡ before c s ∷ more_after c s
unfolding cut_at onto up_to more_after pick
cut_parts [] c = refl
cut_parts (b ∷ s) c = go (eqb b c) (cut_parts s c)
  where
    go : (t : Bool) → cut_at c s ≡ before c s ∷ more_after c s →
        pick t ([] ∷ cut_at c s) (onto b (cut_at c s)) ≡ pick t [] (b ∷ before c s) ∷ pick t (cut_at c s) (more_after c s)
    go true ih = refl
    go false ih = rw ih

-- where there is one piece, it is the whole
pub one_piece : (s : List ℕ) (c : ℕ) → is_empty (more_after c s) ≡ true → before c s ≡ s
unfolding up_to more_after pick
one_piece [] c h = refl
one_piece (b ∷ s) c h = go (eqb b c) h (one_piece s c)
  where
    go : (t : Bool) → is_empty (pick t (cut_at c s) (more_after c s)) ≡ true → (is_empty (more_after c s) ≡ true → before c s ≡ s) → pick t [] (b ∷ before c s) ≡ b ∷ s
    go true k ih = let z : false ≡ true = rw (cut_parts s c) at k in absurd (false≢true z)
    go false k ih = ap (λ (l : List ℕ). b ∷ l) (ih k)

digit_other : (b c : ℕ) → is_digit b ≡ true → is_digit c ≡ false → eqb b c ≡ false
digit_other b c h k = ne_eqb b c (λ e. false≢true (sym k ∙ rw (← e) h))

digit_point : (b : ℕ) → is_digit b ≡ true → eqb b 46 ≡ false
unfolding ◌and◌
digit_point b h = digit_other b 46 h refl

digits_piece : (s : List ℕ) → all_of is_digit s ≡ true → is_empty (more_after 46 s) ≡ true
unfolding all_of more_after pick
digits_piece [] h = refl
digits_piece (b ∷ s) h = go (is_digit b) refl h (digits_piece s)
  where
    go : (t : Bool) → is_digit b ≡ t → pick t (all_of is_digit s) false ≡ true → (all_of is_digit s ≡ true → is_empty (more_after 46 s) ≡ true) →
        is_empty (pick (eqb b 46) (cut_at 46 s) (more_after 46 s)) ≡ true
    go true e k ih = rw (digit_point b e) (ih k)
    go false e k ih = absurd (false≢true k)

-- the fraction is what follows the point, if it is digits
fraction_is : (s : List ℕ) → fraction (cut_at 46 s) ≡ provided (is_digits s) s
unfolding fraction pick
fraction_is s = rw (cut_parts s 46) (go (is_empty (more_after 46 s)) refl)
  where
    odd : (t : Bool) → all_of is_digit s ≡ t → is_empty (more_after 46 s) ≡ false → None ≡ provided (ltb 0 (length s) and t) s
    odd true e k = absurd (false≢true (sym k ∙ digits_piece s e))
    odd false e k = rw (and_no_right (ltb 0 (length s)) false refl)

    go : (t : Bool) → is_empty (more_after 46 s) ≡ t → provided (is_digits (before 46 s) and t) (before 46 s) ≡ provided (is_digits s) s
    go true e = rw (one_piece s 46 e, and-true (is_digits s))
    go false e = rw (and_no_right (is_digits (before 46 s)) false refl) (odd (all_of is_digit s) refl e)

-- ---- the digits before the point

clash : {A : Type 0} {b : ℕ} {s : List ℕ} → ◌≡◌ {A = List ℕ} [] (b ∷ s) → A
clash {A} {b} {s} h = let z : ◌≡◌ {A = ℕ} 0 1 = cc in absurd (omega arith)

-- they reach the end
reach : (s : List ℕ) → after_digits s ≡ [] → (before 46 s ≡ front s) × (more_after 46 s ≡ [])
unfolding front after_digits up_to more_after pick
reach [] h = (refl, refl)
reach (b ∷ s) h = go (is_digit b) refl h (reach s)
  where
    go : (t : Bool) → is_digit b ≡ t → pick t (after_digits s) (b ∷ s) ≡ [] → (after_digits s ≡ [] → (before 46 s ≡ front s) × (more_after 46 s ≡ [])) →
        (pick (eqb b 46) [] (b ∷ before 46 s) ≡ pick t (b ∷ front s) []) × (pick (eqb b 46) (cut_at 46 s) (more_after 46 s) ≡ [])
    go true e k ih = rw (digit_point b e) (ap (λ (l : List ℕ). b ∷ l) (ih k).0, (ih k).1)
    go false e k ih = clash (sym k)

-- they reach a point
meet : (s : List ℕ) {a : List ℕ} → after_digits s ≡ 46 ∷ a → (before 46 s ≡ front s) × (more_after 46 s ≡ cut_at 46 a)
unfolding front after_digits up_to more_after pick
meet [] h = clash h
meet (b ∷ s) {a} h = go (is_digit b) refl h (λ k. meet s k)
  where
    go : (t : Bool) → is_digit b ≡ t → pick t (after_digits s) (b ∷ s) ≡ 46 ∷ a → (after_digits s ≡ 46 ∷ a → (before 46 s ≡ front s) × (more_after 46 s ≡ cut_at 46 a)) →
        (pick (eqb b 46) [] (b ∷ before 46 s) ≡ pick t (b ∷ front s) []) × (pick (eqb b 46) (cut_at 46 s) (more_after 46 s) ≡ cut_at 46 a)
    go true e k ih = rw (digit_point b e) (ap (λ (l : List ℕ). b ∷ l) (ih k).0, (ih k).1)
    go false e k ih =
        let f : b ≡ 46 = cc in
        let g : s ≡ a = cc in
        rw (f, g) (refl, refl)

-- they reach another byte, which is no digit
odd_byte : (s : List ℕ) {a : List ℕ} {x : ℕ} → after_digits s ≡ x ∷ a → (x ≡ 46 → ⊥) → all_of is_digit (before 46 s) ≡ false
unfolding after_digits up_to all_of pick
odd_byte [] h n = clash h
odd_byte (b ∷ s) {a} {x} h n = go (is_digit b) refl h (λ k. odd_byte s k n)
  where
    go : (t : Bool) → is_digit b ≡ t → pick t (after_digits s) (b ∷ s) ≡ x ∷ a → (after_digits s ≡ x ∷ a → all_of is_digit (before 46 s) ≡ false) →
        all_of is_digit (pick (eqb b 46) [] (b ∷ before 46 s)) ≡ false
    go true e k ih = rw (digit_point b e, e) (ih k)
    go false e k ih = let f : b ≡ x = cc in rw (ne_eqb b 46 (λ q. n (sym f ∙ q)), e)

front_all : (s : List ℕ) → all_of is_digit (front s) ≡ true
unfolding front all_of pick
front_all [] = refl
front_all (b ∷ s) = go (is_digit b) refl (front_all s)
  where
    go : (t : Bool) → is_digit b ≡ t → all_of is_digit (front s) ≡ true → all_of is_digit (pick t (b ∷ front s) []) ≡ true
    go true e ih = rw e ih
    go false e ih = refl

front_some : (s : List ℕ) → leads_in_digit s ≡ true → 0 < length (front s)
unfolding leads_in_digit front pick
front_some [] h = absurd (false≢true h)
front_some (b ∷ s) h = rw h (omega arith)

front_digits : (s : List ℕ) → leads_in_digit s ≡ true → is_digits (front s) ≡ true
unfolding ◌and◌
front_digits s h = rw (lt-ltb 0 (length (front s)) (front_some s h), front_all s)

no_digits : (s : List ℕ) → leads_in_digit s ≡ false → is_digits (before 46 s) ≡ false
unfolding leads_in_digit up_to all_of pick ◌and◌
no_digits [] h = refl
no_digits (b ∷ s) h = go (eqb b 46)
  where
    go : (t : Bool) → is_digits (pick t [] (b ∷ before 46 s)) ≡ false
    go true = refl
    go false = rw h (and_no_right (ltb 0 (length (b ∷ before 46 s))) false refl)

-- ---- what is spelled

module _ (m : Bool) (s : List ℕ) where
  pub spelling_none : leads_in_digit s ≡ false → pointed m (cut_at 46 s) ≡ None
  unfolding pointed pick
  spelling_none h = rw (cut_parts s 46, no_digits s h)

  pub spelling_whole : leads_in_digit s ≡ true → after_digits s ≡ [] → pointed m (cut_at 46 s) ≡ Some (decimal m (front s) [])
  unfolding pointed pick fraction and_then
  spelling_whole h k = rw (cut_parts s 46, (reach s k).0, (reach s k).1, front_digits s h)

  pub spelling_pointed : {a : List ℕ} → leads_in_digit s ≡ true → after_digits s ≡ 46 ∷ a → pointed m (cut_at 46 s) ≡ pick (is_digits a) (Some (decimal m (front s) a)) None
  unfolding pointed pick and_then
  spelling_pointed {a} h k = rw (cut_parts s 46, (meet s k).0, (meet s k).1, front_digits s h, fraction_is a) (go (is_digits a))
    where
      go : (t : Bool) → and_then (provided t a) (λ x. Some (decimal m (front s) x)) ≡ pick t (Some (decimal m (front s) a)) None
      go true = refl
      go false = refl

  pub spelling_other : {a : List ℕ} {x : ℕ} → after_digits s ≡ x ∷ a → (x ≡ 46 → ⊥) → pointed m (cut_at 46 s) ≡ None
  unfolding pointed pick
  spelling_other k n = rw (cut_parts s 46, odd_byte s k n, and_no_right (ltb 0 (length (before 46 s))) false refl)

pub front_leading : (s : List ℕ) → no_leading (front s) ≡ front (no_leading s)
unfolding front no_leading pick ◌and◌
front_leading [] = refl
front_leading (b ∷ s) = go (eqb b 48) refl (is_digit b) refl (front_leading s)
  where
    go : (t : Bool) → eqb b 48 ≡ t → (v : Bool) → is_digit b ≡ v → no_leading (front s) ≡ front (no_leading s) →
        no_leading (pick v (b ∷ front s) []) ≡ front (pick t (no_leading s) (b ∷ s))
    go true e true f ih = rw e ih
    go true e false f ih = let z = eqb-true b 48 e in absurd (false≢true (sym f ∙ rw z))
    go false e true f ih = rw (e, f)
    go false e false f ih = rw f
