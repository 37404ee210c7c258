-- Names in rounds: the places of some of them, in an order in which the names rise (crate distinct, specs/Rising.antt).
--     Passed m s e k c left    the first k names from e on, up to c, are different from each other and from the first `left` behind them
--     Stands P n p             the place p is one of the first n of P;   Held: so is that of the name at a cursor, HeldIf: if there is one
--     Walked                   the same as Passed, but of the names that stand in P only that: Holding
--     Found m s P n c left r   the names from c on that stand there
--     Behind, Before           the name at p goes behind the last of the first i of them, before that of the number i
--     Apart m s P n p          the name at p is none of the first n
--     Absent m s P n c left r    the first r names from c on are none of them
--     Passes m s c left r      so r.count names more have passed
--     EndsAt m s e k c         no name is there behind those, or one that is one of them
-- Stands, Behind, Before, Apart and EndsAt where a test holds.
use Rattle.std.specs.Prelude.{◌≡◌, Bool, true, false, List, [], ℕ, ◌+◌, ◌-◌, ◌≤◌, ◌<◌, get_or, take, Option, None, Some}
use Rattle.octets.specs.Words.{same, is_one_of}
use Rattle.distinct.specs.Order.{order}
use Rattle.distinct.specs.Again.{first_again}
use Rattle.read_text_line.specs.Cursor.{params_at}
use Rattle.read_text_parameters.specs.Comparing.{names_of, Comparing}
use Rattle.read_text_parameters.specs.Naming.{name_at, NameAt}
use Rattle.read_text_parameters.specs.declared.named.NameCursors.{NameCursors}
use Rattle.read_text_parameters.specs.declared.rounds.Round.{Round}

-- a name of the first k from a cursor on
abbrev pub is_next : ℕ → List ℕ → ℕ → ℕ → List ℕ → Bool
is_next m s c k v = is_one_of v (take k (names_of (params_at m s c)))

pub record Passed (m : ℕ) (s : List ℕ) (e k c left : ℕ) : Type 0 where
  pub compared : Comparing m s e k c
  pub new : (v : List ℕ) → is_next m s c left v ≡ true → is_one_of v compared.before ≡ false

-- ---- names that stand in the order

-- the name of the place of a number
abbrev pub name_of : ℕ → List ℕ → List ℕ → ℕ → List ℕ
name_of m s P i = name_at m s (get_or P i 0)

pub record Standing (P : List ℕ) (n p : ℕ) : Type 0 where
  pub number : ℕ
  pub below : number < n
  pub is : get_or P number 0 ≡ p

pub record Stands (P : List ℕ) (n p : ℕ) (t : Bool) : Type 0 where
  pub is : t ≡ true → Standing P n p

pub record Held (m : ℕ) (s P : List ℕ) (n c : ℕ) (a : NameCursors) : Type 0 where
  pub named : NameAt m s c a
  pub stands : Standing P n a.name

abbrev pub HeldIf : ℕ → List ℕ → List ℕ → ℕ → ℕ → Option NameCursors → Type 0
HeldIf m s P n c (Some a) = Held m s P n c a
HeldIf m s P n c None = Unit {0}

pub record Holding (m : ℕ) (s P : List ℕ) (n c : ℕ) (v : List ℕ) : Type 0 where
  pub number : ℕ
  pub below : number < n
  pub early : get_or P number 0 < c
  pub is : v ≡ name_of m s P number

pub record Walked (m : ℕ) (s P : List ℕ) (n e k c left : ℕ) : Type 0 where
  pub compared : Comparing m s e k c
  pub old : List (List ℕ)
  pub new : (v : List ℕ) → is_next m s c left v ≡ true → is_one_of v old ≡ false
  pub held : (v : List ℕ) → is_one_of v compared.before ≡ true → is_one_of v old ≡ false → Holding m s P n c v

pub record Found (m : ℕ) (s P : List ℕ) (n c left : ℕ) (r : Round) : Type 0 where
  pub is : (e k : ℕ) → Passed m s e k c left → Walked m s P n e (k + r.count) r.next r.left
  pub fits : r.count + r.left ≤ left

-- ---- names that do not

pub record Behind (m : ℕ) (s P : List ℕ) (i p : ℕ) (t : Bool) : Type 0 where
  pub is : t ≡ true → 0 < i → order (name_of m s P (i - 1)) (name_at m s p) ≡ 1

pub record Before (m : ℕ) (s P : List ℕ) (n i p : ℕ) (t : Bool) : Type 0 where
  pub is : t ≡ true → i < n → order (name_at m s p) (name_of m s P i) ≡ 1

pub record Apart (m : ℕ) (s P : List ℕ) (n p : ℕ) (t : Bool) : Type 0 where
  pub is : t ≡ true → (i : ℕ) → i < n → same (name_of m s P i) (name_at m s p) ≡ false

pub record Absent (m : ℕ) (s P : List ℕ) (n c left r : ℕ) : Type 0 where
  pub is : (i : ℕ) → i < n → is_next m s c r (name_of m s P i) ≡ false
  pub most : r ≤ left

-- ---- a round, and the end of all

pub record Passes (m : ℕ) (s : List ℕ) (c left : ℕ) (r : Round) : Type 0 where
  pub is : (e k : ℕ) → Passed m s e k c left → Passed m s e (k + r.count) r.next r.left
  pub fits : r.count + r.left ≤ left

pub record EndsAt (m : ℕ) (s : List ℕ) (e k c : ℕ) (t : Bool) : Type 0 where
  pub is : t ≡ true → Comparing m s e k c → k ≡ first_again [] (names_of (params_at m s e))
