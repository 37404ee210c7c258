-- Laws of what specs/Names.antt defines.
--     name_upper, carried_name_upper    names in capitals, as the calendar keeps them, are names that are carried just as well
use Rattle.std.specs.Prelude.{◌≡◌, refl, true, false, List, [], ◌∷◌, ℕ, ◌-◌, ◌≤◌, eqb, leb}
use Rattle.std.proofs.Common.{sym, ◌∙◌, arith, ne_eqb}
use Rattle.std.proofs.lemmas.Bool.{lt-leb}
use Rattle.octets.specs.Pick.{pick, ◌or◌}
use Rattle.octets.specs.laws.Pick.{and_no_right, or_no}
use Rattle.octets.specs.Class.{is_digit, is_name_char, upper_byte, upper}
use Rattle.octets.specs.laws.Letters.{upper_all, upper_by_cases, upper_name_char, upper_twice}
use Rattle.read_text_line.specs.ContentLine.{is_name}
use Rattle.read_text_line.specs.Names.{starts_off_name, is_carried_name}

-- ---- names in capitals

pub name_upper : (n : List ℕ) → is_name n ≡ true → is_name (upper n) ≡ true
unfolding is_name upper pick
name_upper [] h = h
name_upper (b ∷ n) h = upper_all is_name_char upper_name_char (b ∷ n) h

-- nothing above the digits begins a name wrongly
above_digits : (x : ℕ) → 58 ≤ x → (is_digit x or eqb x 45) ≡ false
above_digits x h = or_no (is_digit x) (eqb x 45) (and_no_right (leb 48 x) (leb x 57) (lt-leb x 57 h)) (ne_eqb x 45 (λ e. omega arith))

off_name_upper : (b : ℕ) → (is_digit (upper_byte b) or eqb (upper_byte b) 45) ≡ (is_digit b or eqb b 45)
off_name_upper b = upper_by_cases (λ x. (is_digit x or eqb x 45) ≡ (is_digit b or eqb b 45)) b (λ l k. above_digits (b - 32) (omega arith) ∙ sym (above_digits b (omega arith))) (λ e. refl)

starts_off_upper : (n : List ℕ) → starts_off_name (upper n) ≡ starts_off_name n
unfolding starts_off_name upper
starts_off_upper [] = refl
starts_off_upper (b ∷ n) = off_name_upper b

pub carried_name_upper : (n : List ℕ) → is_carried_name (upper n) ≡ is_carried_name n
unfolding is_carried_name
carried_name_upper n = rw (upper_twice n, starts_off_upper n)
