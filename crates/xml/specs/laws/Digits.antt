-- Laws of what specs/Digits.antt defines.
--     Counting           the invariant of the loop;   counting: its start, its turn, its ends
use Rattle.std.specs.Prelude.{◌≡◌, refl, Bool, ℕ, suc, ◌+◌, ◌-◌, ◌*◌, ◌≤◌, ◌<◌, ltb, length, get_or, take, drop}
use Rattle.std.proofs.Math.Path.{sym, ap}
use Rattle.std.proofs.Common.{◌∙◌, arith, drop_of_length-le, rules}
use Rattle.std.proofs.Math.Bool.{true, false}
use Rattle.std.proofs.lemmas.Bool.{false≢true}
use mathlib.Core.List.{List, [], ◌∷◌}
use borrow.Author.Tests.{lt-ltb, le-ltb, le-leb, lt-leb, ne_eqb, ltb-true, ltb-false}
use Rattle.octets.specs.Pick.{pick, ◌and◌}
use Rattle.octets.specs.laws.Pick.{pick_yes, pick_no, pick_case, or_no, and_no_right, flag_yes, flag_no}
use Rattle.octets.specs.Scan.{span_len}
use Rattle.octets.specs.laws.Scan.{SpanFrom, from_start, from_more, from_stop, from_end, drop_next}
use Rattle.octets.specs.Class.{is_digit}
use Rattle.octets.specs.Decimal.{digit_of, value}
use Rattle.utf8.specs.Spell.{is_character}
use Rattle.xml.specs.Token.{is_hex_digit, hex_digit_of, hex_value}
use Rattle.xml.specs.Digits.{is_digit_in, base, worth_on, capped, Counted}

-- ---- it is the value of the digits

pub hex_worth : (s : List ℕ) (n : ℕ) → hex_value n (take (span_len is_hex_digit s) s) ≡ worth_on true n s
unfolding hex_value worth_on span_len pick
hex_worth [] n = refl
hex_worth (b ∷ s) n = go (is_hex_digit b) (hex_worth s)
  where
    go : (t : Bool) → ((m : ℕ) → hex_value m (take (span_len is_hex_digit s) s) ≡ worth_on true m s) →
        hex_value n (take (pick t (suc (span_len is_hex_digit s)) 0) (b ∷ s)) ≡ pick t (worth_on true (n * 16 + hex_digit_of b) s) n
    go true ih = ih (n * 16 + hex_digit_of b)
    go false ih = refl

-- a decimal digit is worth the same in both
decimal_digit : (b : ℕ) → is_digit b ≡ true → digit_of b ≡ hex_digit_of b
unfolding pick
decimal_digit b e = rw e

pub decimal_worth : (s : List ℕ) (n : ℕ) → value n (take (span_len is_digit s) s) ≡ worth_on false n s
unfolding value worth_on span_len pick
decimal_worth [] n = refl
decimal_worth (b ∷ s) n = go (is_digit b) refl (decimal_worth s)
  where
    go : (t : Bool) → is_digit b ≡ t → ((m : ℕ) → value m (take (span_len is_digit s) s) ≡ worth_on false m s) →
        value n (take (pick t (suc (span_len is_digit s)) 0) (b ∷ s)) ≡ pick t (worth_on false (n * 10 + hex_digit_of b) s) n
    go true e ih = ih (n * 10 + digit_of b) ∙ ap (λ (d : ℕ). worth_on false (n * 10 + d) s) (decimal_digit b e)
    go false e ih = refl

-- ---- capped

pub cap_low : (n : ℕ) → n < 0x110000 → capped n ≡ n
unfolding capped pick
cap_low n h = rw (lt-ltb n 0x110000 h)

pub cap_high : (n : ℕ) → 0x110000 ≤ n → capped n ≡ 0x110000
unfolding capped pick
cap_high n h = rw (le-ltb n 0x110000 h)

module _ {r : ℕ} (n : ℕ) where
  pub cap_below : r ≡ n → n < 0x110000 → r ≡ capped n
  cap_below e h = e ∙ sym (cap_low n h)

  pub cap_above : r ≡ 0x110000 → 0x110000 ≤ n → r ≡ capped n
  cap_above e h = e ∙ sym (cap_high n h)

-- one digit more, by the base
module _ {r : ℕ} (v d : ℕ) (h : Bool) where
  pub grow_hex : h ≡ true → r ≡ capped (v * 16 + d) → r ≡ capped (v * base h + d)
  unfolding pick
  grow_hex e g = rw e g

  pub grow_decimal : h ≡ false → r ≡ capped (v * 10 + d) → r ≡ capped (v * base h + d)
  unfolding pick
  grow_decimal e g = rw e g

pub ruleset capping = (cap_below, cap_above, grow_hex, grow_decimal, rules)

-- digits after digits that were worth too much are worth too much
cap_step : (h : Bool) (n d : ℕ) → capped (capped n * base h + d) ≡ capped (n * base h + d)
unfolding pick
cap_step h n d = go h (ltb n 0x110000) refl
  where
    go : (h t : Bool) → ltb n 0x110000 ≡ t → capped (capped n * base h + d) ≡ capped (n * base h + d)
    go h true e = rw (cap_low n (ltb-true n 0x110000 e))
    go true false e =
        let l = ltb-false n 0x110000 e in
        rw (cap_high n l, cap_high (0x110000 * 16 + d) (omega arith), cap_high (n * 16 + d) (omega arith))
    go false false e =
        let l = ltb-false n 0x110000 e in
        rw (cap_high n l, cap_high (0x110000 * 10 + d) (omega arith), cap_high (n * 10 + d) (omega arith))

pub cap_on : (h : Bool) (s : List ℕ) (n m : ℕ) → capped m ≡ capped n → capped (worth_on h m s) ≡ capped (worth_on h n s)
unfolding worth_on pick
cap_on h [] n m e = e
cap_on h (b ∷ s) n m e = go (is_digit_in h b) (cap_on h s (n * base h + hex_digit_of b) (m * base h + hex_digit_of b) (sym (cap_step h m (hex_digit_of b)) ∙ ap (λ (k : ℕ). capped (k * base h + hex_digit_of b)) e ∙ cap_step h n (hex_digit_of b)))
  where
    go : (t : Bool) → capped (worth_on h (m * base h + hex_digit_of b) s) ≡ capped (worth_on h (n * base h + hex_digit_of b) s) →
        capped (pick t (worth_on h (m * base h + hex_digit_of b) s) m) ≡ capped (pick t (worth_on h (n * base h + hex_digit_of b) s) n)
    go true ih = ih
    go false ih = e

no_character : (n : ℕ) → 0x110000 ≤ n → is_character n ≡ false
unfolding is_character
no_character n h =
    or_no _ _ (and_no_right _ _ (lt-leb n 0x7E (omega arith)))
    (or_no _ _ (ne_eqb n 9 (λ e. omega arith))
    (or_no _ _ (ne_eqb n 10 (λ e. omega arith))
    (or_no _ _ (and_no_right _ _ (lt-leb n 0xD7FF (omega arith)))
    (or_no _ _ (and_no_right _ _ (lt-leb n 0xFFFD (omega arith)))
    (and_no_right _ _ (lt-leb n 0x10FFFF (omega arith)))))))

pub capped_character : (n : ℕ) → is_character (capped n) ≡ is_character n
capped_character n = go (ltb n 0x110000) refl
  where
    go : (t : Bool) → ltb n 0x110000 ≡ t → is_character (capped n) ≡ is_character n
    go true e = rw (cap_low n (ltb-true n 0x110000 e))
    go false e = let l = ltb-false n 0x110000 e in rw (cap_high n l, no_character n l, no_character 0x110000 (omega arith))

-- a character's number is what it was worth
pub character_worth : (n : ℕ) → is_character (capped n) ≡ true → (capped n ≡ n) × (n < 0x110000)
character_worth n h = go (ltb n 0x110000) refl
  where
    go : (t : Bool) → ltb n 0x110000 ≡ t → (capped n ≡ n) × (n < 0x110000)
    go true e = let l = ltb-true n 0x110000 e in (cap_low n l, l)
    go false e = let l = ltb-false n 0x110000 e in absurd (false≢true (sym (no_character n l) ∙ sym (capped_character n) ∙ h))

-- ---- a digit's worth, by tests

module _ (b : ℕ) where
  pub worth_none : b < 48 → 0 ≡ hex_digit_of b
  unfolding pick ◌and◌
  worth_none h = rw (lt-leb 48 b h, lt-leb 97 b (omega arith)) (omega arith)

  pub worth_decimal : 48 ≤ b → b < 58 → b - 48 ≡ hex_digit_of b
  unfolding pick ◌and◌
  worth_decimal l h = rw (le-leb 48 b l, le-leb b 57 (omega arith))

  pub worth_capital : 58 ≤ b → b < 97 → b - 55 ≡ hex_digit_of b
  unfolding pick ◌and◌
  worth_capital l h = rw (le-leb 48 b (omega arith), lt-leb b 57 (omega arith), lt-leb 97 b h)

  pub worth_small : 97 ≤ b → b < 103 → b - 87 ≡ hex_digit_of b
  unfolding pick ◌and◌
  worth_small l h = rw (le-leb 48 b (omega arith), lt-leb b 57 (omega arith), le-leb 97 b l, le-leb b 102 (omega arith))

  pub worth_more : 103 ≤ b → b - 55 ≡ hex_digit_of b
  unfolding pick ◌and◌
  worth_more l = rw (le-leb 48 b (omega arith), lt-leb b 57 (omega arith), le-leb 97 b (omega arith), lt-leb b 102 (omega arith))

pub ruleset worths = (worth_none, worth_decimal, worth_capital, worth_small, worth_more, rules)

-- ---- the loop

pub record Counting (h : Bool) (s : List ℕ) (at i v : ℕ) : Type 0 where
  pub span : SpanFrom (is_digit_in h) s at i
  pub onward : at ≤ i
  pub small : v ≤ 0x110000
  pub left : capped (worth_on h 0 (drop at s)) ≡ capped (worth_on h v (drop i s))

cap_twice : (n : ℕ) → capped (capped n) ≡ capped n
cap_twice n = go (ltb n 0x110000) refl
  where
    go : (t : Bool) → ltb n 0x110000 ≡ t → capped (capped n) ≡ capped n
    go true e = rw (cap_low n (ltb-true n 0x110000 e), cap_low n (ltb-true n 0x110000 e))
    go false e = rw (cap_high n (ltb-false n 0x110000 e)) (cap_high 0x110000 (omega arith))

cap_small : (v : ℕ) → v ≤ 0x110000 → capped v ≡ v
cap_small v l = go (ltb v 0x110000) refl
  where
    go : (t : Bool) → ltb v 0x110000 ≡ t → capped v ≡ v
    go true e = cap_low v (ltb-true v 0x110000 e)
    go false e = let h = ltb-false v 0x110000 e in cap_high v h ∙ omega arith

pub cap_most : (n : ℕ) → capped n ≤ 0x110000
unfolding capped
cap_most n = pick_case (λ (m : ℕ). m ≤ 0x110000) (ltb n 0x110000) n 0x110000 (λ e. let h = ltb-true n 0x110000 e in omega arith) (λ e. omega arith)

module _ (h : Bool) (s : List ℕ) (at : ℕ) where
  pub count_start : at ≤ length s → Counting h s at at 0
  count_start l = record { span = from_start (is_digit_in h) s at l; onward = omega arith; small = omega arith; left = refl }

  module _ (i v : ℕ) (t : Counting h s at i v) where
    pub count_more : (u d w : ℕ) → i < length s → u ≡ get_or s i 0 → is_digit_in h u ≡ true → d ≡ hex_digit_of u → w ≡ capped (v * base h + d) → Counting h s at (i + 1) w
    unfolding worth_on
    count_more u d w l e p q g =
        let p' : is_digit_in h (get_or s i 0) ≡ true = ap (is_digit_in h) (sym e) ∙ p in
        let w' : w ≡ capped (v * base h + hex_digit_of (get_or s i 0)) = g ∙ rw (q, e) in
        record {
          span = from_more (is_digit_in h) s at i t.span l p';
          onward = omega (arith, t.onward);
          small = rw g (cap_most (v * base h + d));
          left =
              t.left
              ∙ ap (λ (k : List ℕ). capped (worth_on h v k)) (drop_next s i l)
              ∙ ap capped (pick_yes (is_digit_in h (get_or s i 0)) (worth_on h (v * base h + hex_digit_of (get_or s i 0)) (drop (i + 1) s)) v p')
              ∙ cap_on h (drop (i + 1) s) w (v * base h + hex_digit_of (get_or s i 0)) (sym (ap capped w' ∙ cap_twice (v * base h + hex_digit_of (get_or s i 0))));
        }

    pub count_stop : (u : ℕ) → i < length s → u ≡ get_or s i 0 → is_digit_in h u ≡ false → Counted h s at (record { end = i; v = v })
    unfolding worth_on
    count_stop u l e p =
        let p' : is_digit_in h (get_or s i 0) ≡ false = ap (is_digit_in h) (sym e) ∙ p in
        record {
          end = from_stop (is_digit_in h) s at i t.span l p';
          worth =
              sym (t.left
              ∙ ap (λ (k : List ℕ). capped (worth_on h v k)) (drop_next s i l)
              ∙ ap capped (pick_no (is_digit_in h (get_or s i 0)) (worth_on h (v * base h + hex_digit_of (get_or s i 0)) (drop (i + 1) s)) v p')
              ∙ cap_small v t.small);
          onward = t.onward;
          inside = t.span.inside;
          small = t.small;
        }

    pub count_end : length s ≤ i → Counted h s at (record { end = i; v = v })
    unfolding worth_on
    count_end l = record {
      end = from_end (is_digit_in h) s at i t.span l;
      worth = sym (t.left ∙ ap (λ (k : List ℕ). capped (worth_on h v k)) (drop_of_length-le s l) ∙ cap_small v t.small);
      onward = t.onward;
      inside = t.span.inside;
      small = t.small;
    }

pub ruleset counting = (count_start, count_more, count_stop, count_end, flag_yes, flag_no, rules)
