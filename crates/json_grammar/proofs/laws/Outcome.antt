-- Where a fault is told, from a state on.
--     Outcome     the place of a fault: the bytes before it can go on; or it is the escape that the state stands in; or it stands in the digits of an escape
--     faulty      each fault is such a one
use Rattle.std.specs.Prelude.{◌≡◌, ◌⊎◌, Bool, eqb, length, take, drop, Option, None, Some}
use Rattle.std.proofs.Math.Path.{refl, sym, ap}
use Rattle.std.proofs.Common.{subst, ◌∙◌}
use Rattle.std.proofs.Math.Logic.{inl, inr}
use Rattle.std.proofs.Math.Bool.{true, false}
use Rattle.std.proofs.lemmas.Bool.{false≢true}
use mathlib.Core.List.{List, [], ◌∷◌}
use Prim.Native.Nat.{ℕ, suc, ◌+◌, ◌-◌, ◌/◌, ◌%◌, ◌≤◌}
use native.Mathlib.Omega.{arith}
use Rattle.std.proofs.Math.Dec.{ltb}
use borrow.Author.Tests.{eqb-true, eqb-false, ltb-true}
use Rattle.octets.specs.Pick.{pick}
use Rattle.octets.specs.laws.Pick.{pick_case, pick_either}
use Rattle.octets.specs.Append.{◌⊕◌}
use Rattle.octets.specs.laws.Append.{append_empty, append_cons}
use Rattle.octets.specs.Class.{is_space, is_digit}
use Rattle.json_text.specs.Bytes.{is_e, is_sign, names_good, names_bad, hex_value, grown, is_high, is_low, named_bad}
use Rattle.json_text.specs.Check as check
use Rattle.json_text.specs.Check.{Container, around, outer, move, followed, check, end}
use Rattle.json_text.specs.declared.Around.{Around}
use Rattle.json_text.specs.declared.Around.TheVariants.{Nothing, Array, Object}
use Rattle.json_text.specs.declared.Expect.{Expect}
use Rattle.json_text.specs.declared.Expect.TheVariants.{Value, ValueOrEnd, Name, NameOrEnd, Colon, After}
use Rattle.json_text.specs.declared.Number.{Number as NumberState}
use Rattle.json_text.specs.declared.Number.TheVariants.{Minus, Zero, Int, Point, Frac, E, Sign, Exp}
use Rattle.json_text.specs.declared.Inside.{Inside}
use Rattle.json_text.specs.declared.Inside.TheVariants.{Chars, Escape, Hex, High, HighEscape, Low}
use Rattle.json_text.specs.declared.State.{State}
use Rattle.json_text.specs.declared.State.TheVariants.{Expects, InLiteral, InNumber, InString}
use Rattle.json_text.specs.declared.Move.{Move}
use Rattle.json_text.specs.declared.Move.TheVariants.{To, OpenArray, OpenObject, Close, Bad}
use Rattle.json_grammar.specs.Grammar.{Byte, spelled_bytes, is_hexdig, Char}
use Rattle.json_grammar.proofs.laws.Rest.{Completes, Back}
use Rattle.json_grammar.proofs.laws.Back.{Naming, hexdig_is, step_back}
use Rattle.json_grammar.proofs.laws.Ready.{Plain}

-- the state stands in the escape that began at k
abbrev pub BeganInside : Inside → ℕ → Type 0
BeganInside Chars k = ⊥
BeganInside (Escape from) k = from ≡ k
BeganInside (Hex from n v) k = from ≡ k
BeganInside (High from) k = from ≡ k
BeganInside (HighEscape from) k = from ≡ k
BeganInside (Low from n v) k = from ≡ k

abbrev pub Began : State → ℕ → Type 0
Began (Expects e) k = ⊥
Began (InLiteral w) k = ⊥
Began (InNumber n) k = ⊥
Began (InString n t) k = BeganInside t k

-- the digits of an escape are being read
abbrev pub IsHexInside : Inside → Type 0
IsHexInside Chars = ⊥
IsHexInside (Escape from) = ⊥
IsHexInside (Hex from n v) = Unit {0}
IsHexInside (High from) = ⊥
IsHexInside (HighEscape from) = ⊥
IsHexInside (Low from n v) = ⊥

abbrev pub IsHex : State → Type 0
IsHex (Expects e) = ⊥
IsHex (InLiteral w) = ⊥
IsHex (InNumber n) = ⊥
IsHex (InString n t) = IsHexInside t

-- from the state on, l is part of an escape, up to its digits ds, of which there are too few
abbrev pub CutInside : Inside → List (Byte is_hexdig) → List ℕ → Type 0
CutInside Chars ds l = ⊥
CutInside (Escape from) ds l = (length ds ≤ 3) × (l ≡ 117 ∷ spelled_bytes ds)
CutInside (Hex from n v) ds l = (length ds ≤ n) × (l ≡ spelled_bytes ds)
CutInside (High from) ds l = ⊥
CutInside (HighEscape from) ds l = ⊥
CutInside (Low from n v) ds l = ⊥

abbrev pub Cut : State → List (Byte is_hexdig) → List ℕ → Type 0
Cut (Expects e) ds l = ⊥
Cut (InLiteral w) ds l = ⊥
Cut (InNumber n) ds l = ⊥
Cut (InString n t) ds l = CutInside t ds l

-- ---- what a move leads to, and where its fault is

-- a state that a fault at the byte itself is told in
abbrev pub Faults : State → Type 0
Faults st = Plain st ⊎ IsHex st

abbrev pub Placed : State → ℕ → ℕ → Move → Type 0
Placed st i b (To st') =
    ((k : ℕ) → Began st' k → (Plain st × Plain st' × (b ≡ 92) × (k ≡ i)) ⊎ Began st k)
    × ((ds : List (Byte is_hexdig)) (l : List ℕ) → Cut st' ds l → (Plain st × (b ≡ 92) × (length ds ≤ 3) × (l ≡ 117 ∷ spelled_bytes ds)) ⊎ ((es : List (Byte is_hexdig)) × Cut st es (b ∷ l)))
Placed st i b OpenArray = Plain st
Placed st i b OpenObject = Plain st
Placed st i b Close = Unit {0}
Placed st i b (Bad p) = ((p ≡ i) × Faults st) ⊎ Began st p

-- outside of strings
module _ (st : State) (plain : Plain st) (i b : ℕ) where
  abbrev P : Move → Type 0
  P m = Placed st i b m

  bad : P (Bad i)
  bad = inl (refl, inl plain)

  value_placed : P (check.value i b)
  value_placed =
      pick_either P (eqb b 34) _ _ (λ k z. absurd z, λ ds l z. absurd z)
      (pick_either P (eqb b 91) _ _ plain
      (pick_either P (eqb b 123) _ _ plain
      (pick_either P (eqb b 45) _ _ (λ k z. absurd z, λ ds l z. absurd z)
      (pick_either P (eqb b 48) _ _ (λ k z. absurd z, λ ds l z. absurd z)
      (pick_either P (is_digit b) _ _ (λ k z. absurd z, λ ds l z. absurd z)
      (pick_either P (eqb b 0x74) _ _ (λ k z. absurd z, λ ds l z. absurd z)
      (pick_either P (eqb b 0x66) _ _ (λ k z. absurd z, λ ds l z. absurd z)
      (pick_either P (eqb b 0x6E) _ _ (λ k z. absurd z, λ ds l z. absurd z) bad))))))))

  name_placed : P (check.name i b)
  name_placed = pick_either P (eqb b 34) _ _ (λ k z. absurd z, λ ds l z. absurd z) bad

  after_by_placed : (a : Around) → P (check.after_by a i b)
  after_by_placed Nothing = bad
  after_by_placed Array = pick_either P (eqb b 44) _ _ (λ k z. absurd z, λ ds l z. absurd z) (pick_either P (eqb b 93) _ _ tt bad)
  after_by_placed Object = pick_either P (eqb b 44) _ _ (λ k z. absurd z, λ ds l z. absurd z) (pick_either P (eqb b 125) _ _ tt bad)

  after_placed : (a : Around) → P (check.after a i b)
  after_placed a = pick_either P (is_space b) _ _ (λ k z. absurd z, λ ds l z. absurd z) (after_by_placed a)

  expected_placed : (e : Expect) (a : Around) → P (check.expected e a i b)
  expected_placed Value a = value_placed
  expected_placed ValueOrEnd a = pick_either P (eqb b 93) _ _ tt value_placed
  expected_placed Name a = name_placed
  expected_placed NameOrEnd a = pick_either P (eqb b 125) _ _ tt name_placed
  expected_placed Colon a = pick_either P (eqb b 58) _ _ (λ k z. absurd z, λ ds l z. absurd z) bad
  expected_placed After a = after_by_placed a

  between_placed : (e : Expect) (a : Around) → P (check.between e a i b)
  between_placed e a = pick_either P (is_space b) _ _ (λ k z. absurd z, λ ds l z. absurd z) (expected_placed e a)

  literal_placed : (w : ℕ) → P (check.literal w i b)
  literal_placed w =
      pick_either P (eqb b (w % 256)) _ _ (pick_either P (eqb (w / 256) 0) _ _ (λ k z. absurd z, λ ds l z. absurd z) (λ k z. absurd z, λ ds l z. absurd z)) bad

  exponent_placed : (a : Around) → P (check.exponent a i b)
  exponent_placed a = pick_either P (is_e b) _ _ (λ k z. absurd z, λ ds l z. absurd z) (after_placed a)

  fraction_placed : (a : Around) → P (check.fraction a i b)
  fraction_placed a = pick_either P (eqb b 46) _ _ (λ k z. absurd z, λ ds l z. absurd z) (exponent_placed a)

  digit_placed : (n : NumberState) → P (check.digit n i b)
  digit_placed n = pick_either P (is_digit b) _ _ (λ k z. absurd z, λ ds l z. absurd z) bad

  number_placed : (n : NumberState) (a : Around) → P (check.number n a i b)
  number_placed Minus a = pick_either P (eqb b 48) _ _ (λ k z. absurd z, λ ds l z. absurd z) (digit_placed Int)
  number_placed Zero a = fraction_placed a
  number_placed Int a = pick_either P (is_digit b) _ _ (λ k z. absurd z, λ ds l z. absurd z) (fraction_placed a)
  number_placed Point a = digit_placed Frac
  number_placed Frac a = pick_either P (is_digit b) _ _ (λ k z. absurd z, λ ds l z. absurd z) (exponent_placed a)
  number_placed E a = pick_either P (is_sign b) _ _ (λ k z. absurd z, λ ds l z. absurd z) (digit_placed Exp)
  number_placed Sign a = digit_placed Exp
  number_placed Exp a = pick_either P (is_digit b) _ _ (λ k z. absurd z, λ ds l z. absurd z) (after_placed a)

-- in strings
module _ (n : Bool) (i b : ℕ) where
  string_placed : (t : Inside) → Placed (InString n t) i b (check.string t n i b)
  unfolding spelled_bytes
  string_placed Chars =
      pick_case (Placed (InString n Chars) i b) (eqb b 34) _ _ (λ e. pick_either (Placed (InString n Chars) i b) n _ _ (λ k z. absurd z, λ ds l z. absurd z) (λ k z. absurd z, λ ds l z. absurd z))
      (λ _. pick_case (Placed (InString n Chars) i b) (eqb b 92) _ _ (λ e. (λ k z. inl (tt, tt, eqb-true b 92 e, sym z), λ ds l z. inl (tt, eqb-true b 92 e, z.0, z.1)))
      (λ _. pick_case (Placed (InString n Chars) i b) (ltb b 32) _ _ (λ e. inl (refl, inl tt)) (λ e. (λ k z. absurd z, λ ds l z. absurd z))))
  string_placed (Escape from) =
      pick_case (Placed (InString n (Escape from)) i b) (eqb b 117) _ _ (λ e. (λ k z. inr z, λ ds l z. inr (ds, (z.0, rw (eqb-true b 117 e, z.1)))))
      (λ _. pick_case (Placed (InString n (Escape from)) i b) (names_good b) _ _ (λ e. (λ k z. absurd z, λ ds l z. absurd z))
      (λ _. pick_case (Placed (InString n (Escape from)) i b) (names_bad b) _ _ (λ e. inr refl) (λ e. inl (refl, inl tt))))
  string_placed (Hex from k v) =
      pick_case (Placed (InString n (Hex from k v)) i b) (eqb (hex_value b) 16) _ _ (λ e. inl (refl, inr tt))
      (λ e. pick_case (Placed (InString n (Hex from k v)) i b) (eqb k 0) _ _
      (λ z. pick_either (Placed (InString n (Hex from k v)) i b) (is_high (grown v (hex_value b))) _ _ (λ k z. inr z, λ ds l z. absurd z)
      (pick_either (Placed (InString n (Hex from k v)) i b) (named_bad (grown v (hex_value b))) _ _ (inr refl) (λ k z. absurd z, λ ds l z. absurd z)))
      (λ z. (λ k z. inr z, λ ds l x. inr (record { byte = b; passes = hexdig_is b e } ∷ ds, (more (eqb-false k 0 z) (length ds) x.0, ap (λ (y : List ℕ). b ∷ y) x.1)))))
    where
      more : (k ≡ 0 → ⊥) → (m : ℕ) → m ≤ k - 1 → suc m ≤ k
      more z m h = omega arith
  string_placed (High from) = pick_case (Placed (InString n (High from)) i b) (eqb b 92) _ _ (λ e. (λ k z. inr z, λ ds l z. absurd z)) (λ e. inr refl)
  string_placed (HighEscape from) = pick_case (Placed (InString n (HighEscape from)) i b) (eqb b 117) _ _ (λ e. (λ k z. inr z, λ ds l z. absurd z)) (λ e. inr refl)
  string_placed (Low from k v) =
      pick_case (Placed (InString n (Low from k v)) i b) (eqb (hex_value b) 16) _ _ (λ e. inr refl)
      (λ e. pick_case (Placed (InString n (Low from k v)) i b) (eqb k 0) _ _
      (λ z. pick_either (Placed (InString n (Low from k v)) i b) (is_low (grown v (hex_value b))) _ _ (λ k z. absurd z, λ ds l z. absurd z) (inr refl))
      (λ z. (λ k z. inr z, λ ds l z. absurd z)))

pub placed : (st : State) (a : Around) (i b : ℕ) → Placed st i b (move st a i b)
placed (Expects e) a i b = between_placed (Expects e) tt i b e a
placed (InLiteral w) a i b = literal_placed (InLiteral w) tt i b w
placed (InNumber n) a i b = number_placed (InNumber n) tt i b n a
placed (InString n t) a i b = string_placed n i b t

-- ---- the end of the text

abbrev place_of : Option ℕ → ℕ
place_of None = 0
place_of (Some k) = k

pub at_same : (p k : ℕ) → Some p ≡ Some k → p ≡ k
at_same p k h = ap place_of h

fine_not_at : (k : ℕ) → None ≡ Some k → ⊥
fine_not_at k h = false≢true (ap is_fault h)
  where
    is_fault : Option ℕ → Bool
    is_fault None = false
    is_fault (Some k) = true

module _ (l k : ℕ) where
  closed_ended : (a : Around) → check.closed a l ≡ Some k → k ≡ l
  closed_ended Nothing h = absurd (fine_not_at k h)
  closed_ended Array h = sym (at_same l k h)
  closed_ended Object h = sym (at_same l k h)

  expects_ended : (e : Expect) (a : Around) → check.expect_end e a l ≡ Some k → k ≡ l
  expects_ended Value a h = sym (at_same l k h)
  expects_ended ValueOrEnd a h = sym (at_same l k h)
  expects_ended Name a h = sym (at_same l k h)
  expects_ended NameOrEnd a h = sym (at_same l k h)
  expects_ended Colon a h = sym (at_same l k h)
  expects_ended After a h = closed_ended a h

  number_ended : (n : NumberState) (a : Around) → check.number_end n a l ≡ Some k → k ≡ l
  number_ended Minus a h = sym (at_same l k h)
  number_ended Zero a h = closed_ended a h
  number_ended Int a h = closed_ended a h
  number_ended Point a h = sym (at_same l k h)
  number_ended Frac a h = closed_ended a h
  number_ended E a h = sym (at_same l k h)
  number_ended Sign a h = sym (at_same l k h)
  number_ended Exp a h = closed_ended a h

  pub ended : (st : State) (a : Around) → end st a l ≡ Some k → ((k ≡ l) × Faults st) ⊎ Began st k
  ended (Expects e) a h = inl (expects_ended e a h, inl tt)
  ended (InLiteral w) a h = inl (sym (at_same l k h), inl tt)
  ended (InNumber n) a h = inl (number_ended n a h, inl tt)
  ended (InString n Chars) a h = inl (sym (at_same l k h), inl tt)
  ended (InString n (Escape from)) a h = inl (sym (at_same l k h), inl tt)
  ended (InString n (Hex from m v)) a h = inl (sym (at_same l k h), inr tt)
  ended (InString n (High from)) a h = inr (at_same from k h)
  ended (InString n (HighEscape from)) a h = inr (at_same from k h)
  ended (InString n (Low from m v)) a h = inr (at_same from k h)

-- ---- all faults

-- no text is accepted that goes on from the bytes l, which stand at i
abbrev pub Never : ℕ → State → List Container → ℕ → List ℕ → Type 0
Never limit st cs i l = (t : List ℕ) → check (l ⊕ t) limit i st cs ≡ None → ⊥

-- H holds where the digits of an escape may hinder: what N says of them can't be met, whatever follows
pub data Outcome (H : Type 0) (limit : ℕ) (N : List Char → Bool → Bool) (st : State) (cs : List Container) (i k : ℕ) (s : List ℕ) : Type 0 where
  -- the bytes before the place can go on
  here : i ≤ k → (t : List ℕ) → Completes limit N st cs (take (k - i) s ⊕ t) → Outcome H limit N st cs i k s
  -- it is the escape that the state stands in
  begun : Began st k → Outcome H limit N st cs i k s
  -- it stands in the digits of the escape that the state stands in
  cut : H → i ≤ k → (ds : List (Byte is_hexdig)) → Cut st ds (take (k - i) s) → Never limit st cs i (take (k - i) s) → Outcome H limit N st cs i k s
  -- it stands in the digits of the escape at p, and the bytes before p can go on
  digits : H → (p : ℕ) → i ≤ p → p ≤ k → (ds : List (Byte is_hexdig)) → length ds ≤ 3 → take (k - p) (drop (p - i) s) ≡ 92 ∷ 117 ∷ spelled_bytes ds →
      (t : List ℕ) → Completes limit N st cs (take (p - i) s ⊕ t) → Never limit st cs i (take (k - i) s) → Outcome H limit N st cs i k s

abbrev pub GoesBy : ℕ → (List Char → Bool → Bool) → State → List Container → Type 0
GoesBy limit N st cs = (t : List ℕ) × Completes limit N st cs t

module _ (H : Type 0) (limit : ℕ) (N : List Char → Bool → Bool) (law : Naming N)
    (plains : (st : State) → Plain st → (cs : List Container) → GoesBy limit N st cs)
    (hexes : (st : State) → IsHex st → (cs : List Container) → (H × ((i : ℕ) → Never limit st cs i [])) ⊎ GoesBy limit N st cs) where
  -- at the byte itself
  at_once : (st : State) (cs : List Container) (i k : ℕ) (s : List ℕ) → k ≡ i → GoesBy limit N st cs → Outcome H limit N st cs i k s
  at_once st cs i k s e g =
      let z : k - i ≡ 0 = omega arith in
      here (omega arith) g.0 (rw (z, append_empty g.0) g.1)

  cut_once : (st : State) (cs : List Container) (i k : ℕ) (s : List ℕ) → k ≡ i → IsHex st → H × ((j : ℕ) → Never limit st cs j []) → Outcome H limit N st cs i k s
  unfolding spelled_bytes
  cut_once (Expects e) cs i k s q x h = absurd x
  cut_once (InLiteral w) cs i k s q x h = absurd x
  cut_once (InNumber n) cs i k s q x h = absurd x
  cut_once (InString n Chars) cs i k s q x h = absurd x
  cut_once (InString n (Escape from)) cs i k s q x h = absurd x
  cut_once (InString n (Hex from m v)) cs i k s q x h = let z : k - i ≡ 0 = omega arith in cut h.0 (omega arith) [] (omega arith, rw z) (rw z (h.1 i))
  cut_once (InString n (High from)) cs i k s q x h = absurd x
  cut_once (InString n (HighEscape from)) cs i k s q x h = absurd x
  cut_once (InString n (Low from m v)) cs i k s q x h = absurd x

  faults_here : (st : State) (cs : List Container) (i k : ℕ) (s : List ℕ) → ((k ≡ i) × Faults st) ⊎ Began st k → Outcome H limit N st cs i k s
  faults_here st cs i k s (inl (e, inl p)) = at_once st cs i k s e (plains st p cs)
  faults_here st cs i k s (inl (e, inr x)) = go (hexes st x cs)
    where
      go : (H × ((j : ℕ) → Never limit st cs j [])) ⊎ GoesBy limit N st cs → Outcome H limit N st cs i k s
      go (inl h) = cut_once st cs i k s e x h
      go (inr g) = at_once st cs i k s e g
  faults_here st cs i k s (inr z) = begun z

  take_on : (b : ℕ) (s : List ℕ) (i k : ℕ) → i + 1 ≤ k → take (k - i) (b ∷ s) ≡ b ∷ take (k - (i + 1)) s
  take_on b s i k h = let j : k - i ≡ suc (k - (i + 1)) = omega arith in rw j

  drop_on : (b : ℕ) (s : List ℕ) (i p : ℕ) → i + 1 ≤ p → drop (p - i) (b ∷ s) ≡ drop (p - (i + 1)) s
  drop_on b s i p h = let j : p - i ≡ suc (p - (i + 1)) = omega arith in rw j

  -- over a byte that leads to another state
  module _ (st : State) (cs : List Container) (i b k : ℕ) (s : List ℕ) where
    more_before : (t : List ℕ) (p : ℕ) → i + 1 ≤ p → Completes limit N st cs (b ∷ (take (p - (i + 1)) s ⊕ t)) → Completes limit N st cs (take (p - i) (b ∷ s) ⊕ t)
    more_before t p h c = subst (λ (l : List ℕ). Completes limit N st cs l) (sym (append_cons b (take (p - (i + 1)) s) t) ∙ ap (λ (l : List ℕ). l ⊕ t) (sym (take_on b s i p h))) c

    escape_here : H → Plain st → i ≤ k → b ≡ 92 → (ds : List (Byte is_hexdig)) → length ds ≤ 3 → i + 1 ≤ k → take (k - (i + 1)) s ≡ 117 ∷ spelled_bytes ds → Never limit st cs i (take (k - i) (b ∷ s)) →
        Outcome H limit N st cs i k (b ∷ s)
    escape_here h p lo e ds d l q n =
        let g = plains st p cs in
        let z : i - i ≡ 0 = omega arith in
        digits h i (omega arith) lo ds d (rw z (take_on b s i k l ∙ rw (e, q))) g.0 (rw (z, append_empty g.0) g.1) n

    never_on : (st' : State) (cs' : List Container) → ((u : List ℕ) → check (b ∷ u) limit i st cs ≡ check u limit (i + 1) st' cs') → i + 1 ≤ k → Never limit st' cs' (i + 1) (take (k - (i + 1)) s) →
        Never limit st cs i (take (k - i) (b ∷ s))
    never_on st' cs' f l n t q =
        let e : take (k - i) (b ∷ s) ⊕ t ≡ b ∷ (take (k - (i + 1)) s ⊕ t) = ap (λ (x : List ℕ). x ⊕ t) (take_on b s i k l) ∙ append_cons b _ t in
        n t (sym (f _) ∙ subst (λ (x : List ℕ). check x limit i st cs ≡ None) e q)

    onward : (st' : State) (cs' : List Container) → ((u : List ℕ) → check (b ∷ u) limit i st cs ≡ check u limit (i + 1) st' cs') → ((u : List ℕ) → Completes limit N st' cs' u → Completes limit N st cs (b ∷ u)) → Placed st i b (To st') →
        Outcome H limit N st' cs' (i + 1) k s → Outcome H limit N st cs i k (b ∷ s)
    onward st' cs' f back at (here l t c) = here (omega arith) t (more_before t k l (back _ c))
    onward st' cs' f back at (begun z) = go (at.0 k z)
      where
        go : (Plain st × Plain st' × (b ≡ 92) × (k ≡ i)) ⊎ Began st k → Outcome H limit N st cs i k (b ∷ s)
        go (inl (p, _, _, e)) = at_once st cs i k (b ∷ s) e (plains st p cs)
        go (inr z) = begun z
    onward st' cs' f back at (cut h l ds c n) = go (at.1 ds (take (k - (i + 1)) s) c)
      where
        go : (Plain st × (b ≡ 92) × (length ds ≤ 3) × (take (k - (i + 1)) s ≡ 117 ∷ spelled_bytes ds)) ⊎ ((es : List (Byte is_hexdig)) × Cut st es (b ∷ take (k - (i + 1)) s)) → Outcome H limit N st cs i k (b ∷ s)
        go (inl (p, e, d, q)) = escape_here h p (omega arith) e ds d l q (never_on st' cs' f l n)
        go (inr (es, z)) = cut h (omega arith) es (subst (λ (x : List ℕ). Cut st es x) (sym (take_on b s i k l)) z) (never_on st' cs' f l n)
    onward st' cs' f back at (digits h p lo hi ds d e t c n) = digits h p (omega arith) hi ds d (ap (λ (x : List ℕ). take (k - p) x) (drop_on b s i p lo) ∙ e) t (more_before t p lo (back _ c)) (never_on st' cs' f (omega arith) n)

    quiet : (st : State) (e : Expect) → Placed st i b (To (Expects e))
    quiet st e = (λ k z. absurd z, λ ds l z. absurd z)

    turned : (m : Move) → m ≡ move st (around cs) i b → Placed st i b m → ((u : List ℕ) → Back limit N m cs u → Completes limit N st cs (b ∷ u)) →
        ((st' : State) (cs' : List Container) → check s limit (i + 1) st' cs' ≡ Some k → Outcome H limit N st' cs' (i + 1) k s) →
        followed m limit i cs (check s limit (i + 1)) ≡ Some k → Outcome H limit N st cs i k (b ∷ s)
    unfolding check followed pick
    turned (To st') e at back ih h = onward st' cs (λ u. rw (← e)) back at (ih st' cs h)
    turned OpenArray e at back ih h = go (ltb (length cs) limit) refl h
      where
        go : (t : Bool) → ltb (length cs) limit ≡ t → pick t (check s limit (i + 1) (Expects ValueOrEnd) (check.array ∷ cs)) (Some i) ≡ Some k → Outcome H limit N st cs i k (b ∷ s)
        go true q h = onward (Expects ValueOrEnd) (check.array ∷ cs) (λ u. rw (← e, q)) (λ u c. back u (ltb-true (length cs) limit q, c)) (quiet st ValueOrEnd) (ih (Expects ValueOrEnd) (check.array ∷ cs) h)
        go false q h = at_once st cs i k (b ∷ s) (sym (at_same i k h)) (plains st at cs)
    turned OpenObject e at back ih h = go (ltb (length cs) limit) refl h
      where
        go : (t : Bool) → ltb (length cs) limit ≡ t → pick t (check s limit (i + 1) (Expects NameOrEnd) (check.object ∷ cs)) (Some i) ≡ Some k → Outcome H limit N st cs i k (b ∷ s)
        go true q h = onward (Expects NameOrEnd) (check.object ∷ cs) (λ u. rw (← e, q)) (λ u c. back u (ltb-true (length cs) limit q, c)) (quiet st NameOrEnd) (ih (Expects NameOrEnd) (check.object ∷ cs) h)
        go false q h = at_once st cs i k (b ∷ s) (sym (at_same i k h)) (plains st at cs)
    turned Close e at back ih h = onward (Expects After) (outer cs) (λ u. rw (← e)) back (quiet st After) (ih (Expects After) (outer cs) h)
    turned (Bad p) e at back ih h = faults_here st cs i k (b ∷ s) (subst (λ (x : ℕ). ((x ≡ i) × Faults st) ⊎ Began st x) (at_same p k h) at)

  pub faulty : (k : ℕ) (s : List ℕ) (i : ℕ) (st : State) (cs : List Container) → check s limit i st cs ≡ Some k → Outcome H limit N st cs i k s
  unfolding check
  faulty k [] i st cs h = faults_here st cs i k [] (ended i k st (around cs) h)
  faulty k (b ∷ s) i st cs h =
      turned st cs i b k s (move st (around cs) i b) refl (placed st (around cs) i b) (λ u c. step_back limit N law st cs i b u c) (λ st' cs' q. faulty k s (i + 1) st' cs' q) h
