-- Laws of what specs/Stepping.antt defines.
--     spelled_some, spelled_most, spelled_beyond    how many bytes a code point has
--     left_more, left_last, left_none    by the bytes that a named character has
--     byte_step, none_step, point_step   the step at a place
--     astray_step, within_step           the step at a cursor within a named character
use Rattle.std.specs.Prelude.{◌≡◌, refl, Bool, true, false, List, [], ◌∷◌, ℕ, ◌+◌, ◌-◌, ◌*◌, ◌^◌, ◌≤◌, ◌<◌, ltb, length, get_or, drop}
use Rattle.std.proofs.Common.{sym, ap, ◌∙◌, arith, drop_of_length-le, lt-ltb, le-ltb, ltb-true, ltb-false}
use Rattle.std.proofs.lemmas.Bool.{false≢true}
use Rattle.octets.specs.Pick.{pick}
use Rattle.octets.specs.laws.Pick.{pick_yes, pick_no}
use Rattle.octets.specs.laws.Scan.{drop_next}
use Rattle.octets.specs.Append.{◌⊕◌}
use Rattle.octets.specs.laws.Append.{append_cons, append_empty}
use Rattle.utf8.specs.Spell.{spell as spelled}
use Rattle.utf8.specs.laws.Spell.{spell_ascii}
use Rattle.utf8.specs.laws.SpellAt.{spelled_two, spelled_three, spelled_four}
use Rattle.source.specs.Source.{rest, Reads}
use Rattle.source.specs.laws.Facts.{spell_byte, spell_end, reach_other}
use Rattle.source.specs.Stepping.{Apart, Inner, Named, Found, Left}
use Rattle.source.specs.declared.points.Unit.{Unit}

-- the bytes of a code point are one to four, and one alone only in ASCII
pub spelled_some : (v : ℕ) → 1 ≤ length (spelled v)
spelled_some v = go (ltb v 0x80) refl (ltb v 0x800) refl (ltb v 0x10000) refl
  where
    go : (x : Bool) → ltb v 0x80 ≡ x → (y : Bool) → ltb v 0x800 ≡ y → (z : Bool) → ltb v 0x10000 ≡ z → 1 ≤ length (spelled v)
    go true e y f z g = rw (spell_ascii v (ltb-true v 0x80 e)) (omega arith)
    go false e true f z g = rw (spelled_two v (ltb-false v 0x80 e) (ltb-true v 0x800 f)) (omega arith)
    go false e false f true g = rw (spelled_three v (ltb-false v 0x800 f) (ltb-true v 0x10000 g)) (omega arith)
    go false e false f false g = rw (spelled_four v (ltb-false v 0x10000 g)) (omega arith)

pub spelled_most : (v : ℕ) → length (spelled v) ≤ 4
spelled_most v = go (ltb v 0x80) refl (ltb v 0x800) refl (ltb v 0x10000) refl
  where
    go : (x : Bool) → ltb v 0x80 ≡ x → (y : Bool) → ltb v 0x800 ≡ y → (z : Bool) → ltb v 0x10000 ≡ z → length (spelled v) ≤ 4
    go true e y f z g = rw (spell_ascii v (ltb-true v 0x80 e)) (omega arith)
    go false e true f z g = rw (spelled_two v (ltb-false v 0x80 e) (ltb-true v 0x800 f)) (omega arith)
    go false e false f true g = rw (spelled_three v (ltb-false v 0x800 f) (ltb-true v 0x10000 g)) (omega arith)
    go false e false f false g = rw (spelled_four v (ltb-false v 0x10000 g)) (omega arith)

pub spelled_beyond : (v : ℕ) → 1 < length (spelled v) → 0x80 ≤ v
spelled_beyond v h = go (ltb v 0x80) refl
  where
    go : (x : Bool) → ltb v 0x80 ≡ x → 0x80 ≤ v
    go true e = let l : length (spelled v) ≡ 1 = ap length (spell_ascii v (ltb-true v 0x80 e)) in omega arith
    go false e = ltb-false v 0x80 e

-- ---- within a named character

module _ {m : ℕ} {s : List ℕ} {p v n : ℕ} (f : Inner m s p v n) (w : p + 4 ≤ n) (i : n ≤ length s) where
  byte_first : (j : ℕ) → j < length (spelled v) → pick (ltb j (length (spelled v))) (drop j (spelled v) ⊕ rest m s (2 * n)) [] ≡ get_or (spelled v) j 0 ∷ (drop (j + 1) (spelled v) ⊕ rest m s (2 * n))
  byte_first j h =
      pick_yes (ltb j (length (spelled v))) _ _ (lt-ltb j (length (spelled v)) h)
      ∙ ap (λ (l : List ℕ). l ⊕ rest m s (2 * n)) (drop_next (spelled v) j h) ∙ append_cons (get_or (spelled v) j 0) (drop (j + 1) (spelled v)) (rest m s (2 * n))

  pub left_more : (j u : ℕ) → j + 1 < length (spelled v) → u ≡ get_or (spelled v) j 0 → u < 256 → Left m s p v n j (record { u = u; next = 2 * (p + j) + 1 })
  left_more j u h e b = record {
    is = byte_first j (omega arith) ∙ rw (← e, ← (f.is j h)) (sym (spell_byte u (rest m s (2 * (p + j) + 1)) (λ q. omega arith)));
    small = omega arith;
    moved = omega arith;
    inside = omega (arith, w, i, spelled_most v);
  }

  pub left_last : (j u : ℕ) → j < length (spelled v) → length (spelled v) ≤ j + 1 → u ≡ get_or (spelled v) j 0 → u < 256 → Left m s p v n j (record { u = u; next = 2 * n })
  left_last j u h k e b =
      let d : drop (j + 1) (spelled v) ≡ [] = drop_of_length-le (spelled v) k in
      record {
        is = byte_first j h ∙ rw (← e, d, append_empty) (sym (spell_byte u (rest m s (2 * n)) (λ q. omega arith)));
        small = omega arith;
        moved = omega (arith, w, spelled_most v);
        inside = omega (arith, i);
      }

  pub left_none : (j x : ℕ) → length (spelled v) ≤ j → x ≤ 2 * length s → 2 * (p + j) < 2 ^ 64 → Left m s p v n j (record { u = 256; next = x })
  left_none j x h k l = record {
    is = pick_no (ltb j (length (spelled v))) _ _ (le-ltb j (length (spelled v)) h) ∙ sym (spell_end 256 (rest m s x) refl);
    small = omega arith;
    moved = omega arith;
    inside = omega arith;
  }

-- ---- the step at a place

module _ {m : ℕ} {s : List ℕ} {p u n : ℕ} (o : Apart m) (f : Named m s p u n) where
  pub byte_step : (c : ℕ) → c ≡ 2 * p → u < 256 → p < n → n ≤ length s → Reads m s c (record { u = u; next = 2 * n })
  byte_step c e h l i = record {
    is = rw e (f.byte h ∙ sym (spell_byte u (rest m s (2 * n)) (λ q. omega arith)));
    small = omega arith;
    moved = omega arith;
    inside = omega arith;
    plain = λ z b. absurd (false≢true (sym o.uncut ∙ z));
    reach = reach_other m s _ _ o.unfolded;
  }

  pub none_step : (c : ℕ) → c ≡ 2 * p → u ≡ 256 → c < 2 ^ 64 → Reads m s c (record { u = 256; next = c })
  none_step c e h l = record {
    is = rw e (f.none h ∙ sym (spell_end 256 (rest m s (2 * p)) refl));
    small = omega arith;
    moved = omega arith;
    inside = omega arith;
    plain = λ z b. absurd (b refl);
    reach = reach_other m s _ _ o.unfolded;
  }

  pub point_step : {t : Unit} (c : ℕ) → c ≡ 2 * p → 256 < u → Left m s p (u - 257) n 0 t → Reads m s c t
  point_step {t} c e h g = record {
    is = rw e (f.point h ∙ sym (pick_yes (ltb 0 (length (spelled (u - 257)))) (spelled (u - 257) ⊕ rest m s (2 * n)) [] (lt-ltb 0 (length (spelled (u - 257))) (spelled_some (u - 257)))) ∙ g.is);
    small = g.small;
    moved = omega (arith, g.moved);
    inside = omega (arith, g.inside);
    plain = λ z b. absurd (false≢true (sym o.uncut ∙ z));
    reach = reach_other m s _ _ o.unfolded;
  }

-- ---- the step within

module _ {m : ℕ} {s : List ℕ} {p u n q : ℕ} (o : Apart m) (f : Found m s p u n q) where
  pub astray_step : (c : ℕ) → c ≡ 2 * q + 1 → u ≤ 256 → c < 2 ^ 64 → Reads m s c (record { u = 256; next = c })
  astray_step c e h l = record {
    is = rw e (f.none h ∙ sym (spell_end 256 (rest m s (2 * q + 1)) refl));
    small = omega arith;
    moved = omega arith;
    inside = omega arith;
    plain = λ z b. absurd (b refl);
    reach = reach_other m s _ _ o.unfolded;
  }

  pub within_step : {t : Unit} (c : ℕ) → c ≡ 2 * q + 1 → p ≤ q → 256 < u → Left m s p (u - 257) n (q - p + 1) t → Reads m s c t
  within_step {t} c e l h g = record {
    is = rw e (f.left h ∙ g.is);
    small = g.small;
    moved = omega (arith, g.moved);
    inside = omega (arith, g.inside);
    plain = λ z b. absurd (false≢true (sym o.uncut ∙ z));
    reach = reach_other m s _ _ o.unfolded;
  }
