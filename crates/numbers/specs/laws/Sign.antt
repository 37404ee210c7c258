-- Laws of what specs/Sign.antt defines.
--     signed_minus, signed_rest    then the sign is read back
use Rattle.std.specs.Prelude.{◌≡◌, refl, Bool, true, false, List, [], ◌∷◌, ℕ, ◌<◌, length}
use Rattle.std.proofs.lemmas.Bool.{false≢true}
use Rattle.std.proofs.Common.{arith, ne_eqb}
use Rattle.octets.specs.Pick.{pick, ◌or◌}
use Rattle.octets.specs.Scan.{all_of}
use Rattle.octets.specs.laws.Scan.{all_split}
use Rattle.octets.specs.Append.{◌⊕◌}
use Rattle.octets.specs.Class.{is_digit}
use Rattle.octets.specs.laws.Class.{digit_range}
use Rattle.numbers.specs.Sign.{has_minus, after_sign, minus_if, leads_in_digit}

pub digits_lead : (s : List ℕ) → 0 < length s → all_of is_digit s ≡ true → leads_in_digit s ≡ true
unfolding leads_in_digit
digits_lead [] h k = absurd (omega arith)
digits_lead (b ∷ s) h k = (all_split is_digit b s k).0

pub lead_append : (s t : List ℕ) → leads_in_digit s ≡ true → leads_in_digit (s ⊕ t) ≡ true
unfolding leads_in_digit ◌⊕◌
lead_append [] t h = absurd (false≢true h)
lead_append (b ∷ s) t h = h

pub signed_minus : (m : Bool) (s : List ℕ) → leads_in_digit s ≡ true → has_minus (minus_if m s) ≡ m
unfolding leads_in_digit has_minus pick
signed_minus true s h = refl
signed_minus false [] h = absurd (false≢true h)
signed_minus false (b ∷ s) h = let p = digit_range b h in ne_eqb b 45 (λ e. omega arith)

pub signed_rest : (m : Bool) (s : List ℕ) → leads_in_digit s ≡ true → after_sign (minus_if m s) ≡ s
unfolding leads_in_digit after_sign pick ◌or◌
signed_rest true s h = refl
signed_rest false [] h = absurd (false≢true h)
signed_rest false (b ∷ s) h = let p = digit_range b h in rw (ne_eqb b 45 (λ e. omega arith), ne_eqb b 43 (λ e. omega arith))

pub signed_all : (p : ℕ → Bool) (m : Bool) (s : List ℕ) → p 45 ≡ true → all_of p s ≡ true → all_of p (minus_if m s) ≡ true
unfolding all_of pick
signed_all p true s e h = rw e h
signed_all p false s e h = h
