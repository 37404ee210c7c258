-- A round of names: the places of some of them, in an order in which the names rise (crate distinct, specs/Rising.antt).
--     Stands P n p        the place p is one of the first n of P
--     Found s P n f e     the members from f up to e stand there
--     Behind, Before      the name at p goes behind the last of the first i of them, before that of the number i
--     Apart s P n p       the name at p is none of the first n
--     Absent s P n p      none of the names from p on is one of them;   AbsentIn: where that is found
--     PassedTo s f e      so the names up to e are different from each other and from all others;   Passes: where that is found
--     Twice s f           a name from f on comes again
-- Stands, Behind, Before, Apart and Twice where a test holds.
use Rattle.std.specs.Prelude.{◌≡◌, Bool, true, false, List, ℕ, ◌-◌, ◌≤◌, ◌<◌, length, get_or, ⊤, Result, Ok, Err}
use Prim.{Unit}
use Rattle.octets.specs.Words.{same, is_one_of}
use Rattle.octets.specs.Lists.{distinct}
use Rattle.distinct.specs.Listed.{listed}
use Rattle.distinct.specs.Order.{order}
use Rattle.read_json.specs.TreeAt.{string_at}
use Rattle.read_jcal_parameters.specs.Apart.{names_at}

pub record Standing (P : List ℕ) (n p : ℕ) : Type 0 where
  pub number : ℕ
  pub below : number < n
  pub is : get_or P number 0 ≡ p

pub record Stands (P : List ℕ) (n p : ℕ) (t : Bool) : Type 0 where
  pub is : t ≡ true → Standing P n p

-- the name of the place of a number
abbrev pub name_of : List ℕ → List ℕ → ℕ → List ℕ
name_of s P i = string_at s (get_or P i 0)

-- `number` are the numbers of the members' places, one after another
pub record Found (s P : List ℕ) (n from at : ℕ) : Type 0 where
  pub count : ℕ
  pub number : ℕ → ℕ
  pub is : names_at s from ≡ listed count (λ k. name_of s P (number k)) (names_at s at)
  pub below : (k : ℕ) → k < count → number k < n
  pub early : (k : ℕ) → k < count → get_or P (number k) 0 < at
  pub rises : (j k : ℕ) → j < k → k < count → get_or P (number j) 0 < get_or P (number k) 0
  pub onward : from ≤ at
  pub inside : from < at → at ≤ length s

pub record Behind (s P : List ℕ) (i p : ℕ) (t : Bool) : Type 0 where
  pub is : t ≡ true → 0 < i → order (name_of s P (i - 1)) (string_at s p) ≡ 1

pub record Before (s P : List ℕ) (n i p : ℕ) (t : Bool) : Type 0 where
  pub is : t ≡ true → i < n → order (string_at s p) (name_of s P i) ≡ 1

pub record Apart (s P : List ℕ) (n p : ℕ) (t : Bool) : Type 0 where
  pub is : t ≡ true → (i : ℕ) → i < n → same (name_of s P i) (string_at s p) ≡ false

pub record Absent (s P : List ℕ) (n at : ℕ) : Type 0 where
  pub is : (i : ℕ) → i < n → is_one_of (name_of s P i) (names_at s at) ≡ false

abbrev pub AbsentIn : List ℕ → List ℕ → ℕ → ℕ → Result ⊤ ℕ → Type 0
AbsentIn s P n at (Ok u) = Absent s P n at
AbsentIn s P n at (Err p) = Unit {0}

pub record PassedTo (s : List ℕ) (from at : ℕ) : Type 0 where
  pub is : distinct (names_at s from) ≡ distinct (names_at s at)
  pub inside : from < at → at ≤ length s

abbrev pub Passes : List ℕ → ℕ → Result ℕ ℕ → Type 0
Passes s from (Ok at) = PassedTo s from at
Passes s from (Err p) = Unit {0}

pub record Twice (s : List ℕ) (from : ℕ) (t : Bool) : Type 0 where
  pub is : t ≡ true → distinct (names_at s from) ≡ false
