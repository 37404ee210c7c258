-- Laws of letter case.
--     upper_by_cases    what a byte becomes in capitals
--     upper_twice       capitals stay in capitals
--     upper_same        bytes that are no small letters stay;   upper_capitals: as capitals
--     lower_any_case    small letters are the same, whatever the letter case was
--     upper-length, lower-length    letter case changes no length
--     upper_all         a class that has the capitals of its bytes;   upper_name_char: as the characters of names
use Rattle.std.specs.Prelude.{◌≡◌, refl, Bool, true, false, List, [], ◌∷◌, ℕ, ◌-◌, ◌≤◌, suc, leb, length}
use Rattle.std.proofs.Common.{ap, arith, le-leb}
use Rattle.std.proofs.lemmas.Bool.{lt-leb}
use Rattle.octets.specs.Pick.{pick}
use Rattle.octets.specs.laws.Pick.{and_no_left, or_left, within_yes, within_range, and_no_right}
use Rattle.octets.specs.Scan.{all_of}
use Rattle.octets.specs.laws.Scan.{all_split}
use Rattle.octets.specs.Class.{is_capital, is_small, is_name_char, upper_byte, upper, lower_byte, lower}

-- a small letter is made capital, another byte stays
pub upper_by_cases : (P : ℕ → Type 0) (b : ℕ) → (97 ≤ b → b ≤ 122 → P (b - 32)) → (is_small b ≡ false → P b) → P (upper_byte b)
unfolding pick
upper_by_cases P b small other = go (is_small b) refl
  where
    go : (t : Bool) → is_small b ≡ t → P (pick t (b - 32) b)
    go true e = let q = within_range 97 122 b e in small q.0 q.1
    go false e = other e

upper_byte_twice : (b : ℕ) → upper_byte (upper_byte b) ≡ upper_byte b
unfolding pick
upper_byte_twice b = upper_by_cases (λ x. upper_byte x ≡ x) b (λ l h. rw (and_no_left (leb 97 (b - 32)) (leb (b - 32) 122) (lt-leb 97 (b - 32) (omega arith)))) (λ e. rw e)

pub upper_twice : (s : List ℕ) → upper (upper s) ≡ upper s
unfolding upper
upper_twice [] = refl
upper_twice (b ∷ s) = rw (upper_byte_twice b, upper_twice s)

pub upper_same : (p : ℕ → Bool) → ((b : ℕ) → p b ≡ true → is_small b ≡ false) → (s : List ℕ) → all_of p s ≡ true → upper s ≡ s
unfolding upper pick
upper_same p f [] h = refl
upper_same p f (b ∷ s) h = let q = all_split p b s h in rw (f b q.0, upper_same p f s q.1)

pub upper_capitals : (s : List ℕ) → all_of is_capital s ≡ true → upper s ≡ s
upper_capitals = upper_same is_capital (λ b h. let p = within_range 65 90 b h in and_no_left (leb 97 b) (leb b 122) (lt-leb 97 b (omega arith)))

pub upper_all : (p : ℕ → Bool) → ((b : ℕ) → p b ≡ true → p (upper_byte b) ≡ true) → (s : List ℕ) → all_of p s ≡ true → all_of p (upper s) ≡ true
unfolding upper all_of pick
upper_all p f [] h = refl
upper_all p f (b ∷ s) h = let q = all_split p b s h in rw (f b q.0) (upper_all p f s q.1)

pub upper_name_char : (b : ℕ) → is_name_char b ≡ true → is_name_char (upper_byte b) ≡ true
upper_name_char b h = upper_by_cases (λ x. is_name_char x ≡ true) b (λ l k. or_left _ _ (or_left _ _ (within_yes 65 90 (b - 32) (le-leb 65 (b - 32) (omega arith)) (le-leb (b - 32) 90 (omega arith))))) (λ e. h)

lower_any_byte : (b : ℕ) → lower_byte (upper_byte b) ≡ lower_byte b
unfolding pick
lower_any_byte b =
    upper_by_cases (λ x. lower_byte x ≡ lower_byte b) b
    (λ l h. rw (within_yes 65 90 (b - 32) (le-leb 65 (b - 32) (omega arith)) (le-leb (b - 32) 90 (omega arith)), and_no_right (leb 65 b) (leb b 90) (lt-leb b 90 (omega arith))) (omega arith))
    (λ e. refl)

pub lower_any_case : (s : List ℕ) → lower (upper s) ≡ lower s
unfolding upper lower
lower_any_case [] = refl
lower_any_case (b ∷ s) = rw (lower_any_byte b, lower_any_case s)

pub upper-length : (s : List ℕ) → length (upper s) ≡ length s
unfolding upper
upper-length [] = refl
upper-length (b ∷ s) = ap suc (upper-length s)

pub lower-length : (s : List ℕ) → length (lower s) ≡ length s
unfolding lower
lower-length [] = refl
lower-length (b ∷ s) = ap suc (lower-length s)
