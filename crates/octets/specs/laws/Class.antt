-- Laws of what specs/Class.antt defines.
--     digit_range, digit_visible, name_char_visible, visible_no_space    one class and another
use Rattle.std.specs.Prelude.{◌≡◌, true, false, ℕ, ◌≤◌, eqb}
use Rattle.std.proofs.Math.Path.{refl}
use Rattle.std.proofs.Common.{arith, ne_eqb}
use Rattle.octets.specs.Pick.{◌or◌, ◌and◌}
use Rattle.octets.specs.laws.Pick.{within_range, within_wider, or_cases, eqb_passes}
use Rattle.octets.specs.Class.{is_digit, is_capital, is_small, is_alpha, is_name_char, is_visible, is_space}

pub digit_range : (b : ℕ) → is_digit b ≡ true → (48 ≤ b) × (b ≤ 57)
digit_range b h = within_range 48 57 b h

pub digit_visible : (b : ℕ) → is_digit b ≡ true → is_visible b ≡ true
digit_visible b h = within_wider 48 57 33 126 b (omega arith) (omega arith) h

pub name_char_visible : (b : ℕ) → is_name_char b ≡ true → is_visible b ≡ true
name_char_visible b h =
    or_cases (is_alpha b) _ h
    (λ k. or_cases (is_capital b) (is_small b) k (λ c. within_wider 65 90 33 126 b (omega arith) (omega arith) c) (λ c. within_wider 97 122 33 126 b (omega arith) (omega arith) c))
    (λ k. or_cases (is_digit b) (eqb b 45) k (digit_visible b) (λ c. eqb_passes is_visible 45 b hyphen c))
  where
    hyphen : is_visible 45 ≡ true
    hyphen = unfold ◌and◌ in refl

pub visible_no_space : (b : ℕ) → is_visible b ≡ true → is_space b ≡ false
unfolding ◌or◌
visible_no_space b h =
    let p = within_range 33 126 b h in
    rw (ne_eqb b 32 (λ e. omega arith), ne_eqb b 9 (λ e. omega arith), ne_eqb b 13 (λ e. omega arith), ne_eqb b 10 (λ e. omega arith))
