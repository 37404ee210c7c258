-- Numbers as they are written.
--     is_number_byte  a byte of such a number;   number_bytes: each of its bytes is one;   number_some: it has one
use Rattle.std.specs.Prelude.{◌≡◌, refl, Bool, true, false, not, List, [], ◌∷◌, ℕ, eqb}
use Rattle.std.proofs.Common.{subst}
use Rattle.std.proofs.lemmas.Bool.{false≢true}
use Rattle.octets.specs.Pick.{pick, ◌or◌}
use Rattle.octets.specs.laws.Pick.{and_both, or_left, or_right}
use Rattle.octets.specs.Scan.{all_of}
use Rattle.octets.specs.laws.Scan.{all_cons, all_append, all_weaker}
use Rattle.octets.specs.Class.{is_digit}
use Rattle.octets.specs.Words.{is_empty}
use Rattle.octets.specs.Runs.{run_of, after_run}
use Rattle.octets.specs.laws.Runs.{run_joined, run_passes}
use Rattle.json_text.specs.Written.{is_frac, is_int, is_unsigned, is_number}

abbrev pub is_number_byte : ℕ → Bool
is_number_byte b = is_digit b or eqb b 45 or eqb b 46

digits_bytes : (s : List ℕ) → all_of is_digit s ≡ true → all_of is_number_byte s ≡ true
digits_bytes s h = all_weaker is_digit is_number_byte (λ b e. or_left _ _ e) s h

frac_bytes : (s : List ℕ) → is_frac s ≡ true → all_of is_number_byte s ≡ true
unfolding is_frac all_of
frac_bytes [] h = refl
frac_bytes (b ∷ s) h =
    let a = and_both (eqb b 46) _ h in
    all_cons is_number_byte b s (or_right _ _ (or_right _ _ a.0)) (digits_bytes s (and_both (not (is_empty s)) _ a.1).1)

unsigned_bytes : (s : List ℕ) → is_unsigned s ≡ true → all_of is_number_byte s ≡ true
unfolding is_unsigned
unsigned_bytes s h =
    let a = and_both (is_int (run_of is_digit s)) _ h in
    subst (λ (x : List ℕ). all_of is_number_byte x ≡ true) (run_joined is_digit s)
    (all_append is_number_byte (run_of is_digit s) (after_run is_digit s) (digits_bytes (run_of is_digit s) (run_passes is_digit s)) (frac_bytes (after_run is_digit s) a.1))

pub number_bytes : (s : List ℕ) → is_number s ≡ true → all_of is_number_byte s ≡ true
unfolding is_number pick
number_bytes [] h = absurd (false≢true h)
number_bytes (b ∷ s) h = go (eqb b 45) refl h
  where
    go : (t : Bool) → eqb b 45 ≡ t → pick t (is_unsigned s) (is_unsigned (b ∷ s)) ≡ true → all_of is_number_byte (b ∷ s) ≡ true
    go true e h = all_cons is_number_byte b s (or_right _ _ (or_left _ _ e)) (unsigned_bytes s h)
    go false e h = unsigned_bytes (b ∷ s) h

pub number_some : (P : List ℕ → Type 0) → ((b : ℕ) (s : List ℕ) → P (b ∷ s)) → (s : List ℕ) → is_number s ≡ true → P s
unfolding is_number
number_some P f [] h = absurd (false≢true h)
number_some P f (b ∷ s) h = f b s
