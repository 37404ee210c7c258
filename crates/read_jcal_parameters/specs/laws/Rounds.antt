-- Laws of what specs/Rounds.antt defines.
--     stands_..                a place that was found
--     found_..                 the walk over members that are found;   `search founds`
--     behind_.., before_.., between_..    a name between two that rise is none of them
--     Missing, missing_..      the walk over names that are none of them;   `search missings`
--     passes_..                a round
use Rattle.std.specs.Prelude.{◌≡◌, refl, Bool, true, false, List, ◌∷◌, ℕ, zero, suc, ◌+◌, ◌-◌, ◌≤◌, ◌<◌, eqb, ltb, get_or, None, Some}
use Rattle.std.proofs.Common.{sym, ap, ◌∙◌, arith, rules, eq-eqb, ne_eqb, eqb-true, ltb-true, ltb-false}
use Rattle.std.proofs.lemmas.Bool.{false≢true, eqb-false}
use Rattle.octets.specs.Pick.{pick, ◌or◌}
use Rattle.octets.specs.laws.Pick.{or_no}
use Rattle.octets.specs.Words.{same, is_one_of}
use Rattle.octets.specs.laws.Words.{same_swap}
use Rattle.octets.specs.Lists.{distinct}
use Rattle.distinct.specs.Listed.{listed}
use Rattle.distinct.specs.laws.Listed.{listed_next, listed_same}
use Rattle.distinct.specs.Order.{order}
use Rattle.distinct.specs.laws.Order.{order_through, order_apart}
use Rattle.distinct.specs.Rising.{Rising}
use Rattle.distinct.specs.laws.Rising.{rising_fewer}
use Rattle.read_json.specs.TreeAt.{string_at}
use Rattle.read_json.specs.MemberHeads.{MemberAt}
use Rattle.read_json.specs.declared.MemberHead.{MemberHead}
use Rattle.read_jcal_parameters.specs.laws.Shapes.{member_taken, member_fits, member_less}
use Rattle.read_jcal_parameters.specs.Apart.{names_at}
use Rattle.read_jcal_parameters.specs.laws.Apart.{names_none, names_some}
use Rattle.read_jcal_parameters.specs.Rounds.{Standing, Stands, name_of, Found, Behind, Before, Apart, Absent, PassedTo}

-- ---- names that rise

module _ {w : ℕ → List ℕ} {o : List ℕ} {n : ℕ} (r : Rising w o n) where
  further : (d i : ℕ) → i + 1 + d < n → order (w (get_or o i 0)) (w (get_or o (i + 1 + d) 0)) ≡ 1
  further zero i h = let z : i + 1 + 0 ≡ i + 1 = omega arith in rw z (r.next i (omega arith))
  further (suc d) i h =
      let z : i + 1 + suc d ≡ i + 1 + d + 1 = omega arith in
      rw z (order_through (w (get_or o i 0)) (w (get_or o (i + 1 + d) 0)) (w (get_or o (i + 1 + d + 1) 0)) (further d i (omega arith)) (r.next (i + 1 + d) (omega arith)))

  rises_on : (i j : ℕ) → i < j → j < n → order (w (get_or o i 0)) (w (get_or o j 0)) ≡ 1
  rises_on i j l h = let z : j ≡ i + 1 + (j - i - 1) = omega arith in rw z (further (j - i - 1) i (omega arith))

  rising_apart : (i j : ℕ) → (i ≡ j → ⊥) → i < n → j < n → same (w (get_or o i 0)) (w (get_or o j 0)) ≡ false
  rising_apart i j e h k = go (ltb i j) refl
    where
      go : (t : Bool) → ltb i j ≡ t → same (w (get_or o i 0)) (w (get_or o j 0)) ≡ false
      go true x = order_apart _ _ 1 (rises_on i j (ltb-true i j x) k) (λ z. omega arith)
      go false x = same_swap _ _ (order_apart _ _ 1 (rises_on j i (omega (arith, ltb-false i j x, e)) h) (λ z. omega arith))

  -- a name between two of them is none of them
  pub between : (v : List ℕ) (i : ℕ) → i ≤ n → (0 < i → order (w (get_or o (i - 1) 0)) v ≡ 1) → (i < n → order v (w (get_or o i 0)) ≡ 1) → (j : ℕ) → j < n → same (w (get_or o j 0)) v ≡ false
  between v i m a b j l = go (ltb j i) refl
    where
      early : j < i → (t : Bool) → eqb j (i - 1) ≡ t → order (w (get_or o j 0)) v ≡ 1
      early k true x = let z : j ≡ i - 1 = eqb-true j (i - 1) x in rw z (a (omega arith))
      early k false x = order_through (w (get_or o j 0)) (w (get_or o (i - 1) 0)) v (rises_on j (i - 1) (omega (arith, eqb-false j (i - 1) x)) (omega arith)) (a (omega arith))

      late : i ≤ j → (t : Bool) → eqb j i ≡ t → order v (w (get_or o j 0)) ≡ 1
      late k true x = let z : j ≡ i = eqb-true j i x in rw z (b (omega arith))
      late k false x = order_through v (w (get_or o i 0)) (w (get_or o j 0)) (b (omega (arith, eqb-false j i x))) (rises_on i j (omega (arith, eqb-false j i x)) l)

      go : (t : Bool) → ltb j i ≡ t → same (w (get_or o j 0)) v ≡ false
      go true x = order_apart _ _ 1 (early (ltb-true j i x) (eqb j (i - 1)) refl) (λ z. omega arith)
      go false x = same_swap _ _ (order_apart _ _ 1 (late (ltb-false j i x) (eqb j i) refl) (λ z. omega arith))

-- ---- members that are found

pub stands_here : {P : List ℕ} {n p i q : ℕ} → i < n → q ≡ get_or P i 0 → Stands P n p (eqb q p)
stands_here {P} {n} {p} {i} {q} h e = record { is = λ f. record { number = i; below = h; is = sym e ∙ eqb-true q p f } }

pub stands_not : {P : List ℕ} {n p : ℕ} → Stands P n p false
stands_not = record { is = λ f. absurd (false≢true f) }

pub found_start : (s P : List ℕ) (n from : ℕ) → Found s P n from from
unfolding listed
found_start s P n from = record {
  count = 0;
  number = λ k. 0;
  is = refl;
  below = λ k l. absurd (omega arith);
  early = λ k l. absurd (omega arith);
  rises = λ j k l m. absurd (omega arith);
  onward = omega arith;
  inside = λ l. absurd (omega arith);
}

module _ {s P : List ℕ} {n from at : ℕ} {m : MemberHead} (f : Found s P n from at) (t : MemberAt s at (Some m)) (g : Standing P n m.name) where
  unfoldable number' : ℕ → ℕ
  number' k = pick (eqb k f.count) g.number (f.number k)

  at_last : number' f.count ≡ g.number
  unfolding pick number'
  at_last = rw (eq-eqb f.count f.count refl)

  at_other : (k : ℕ) → k < f.count → number' k ≡ f.number k
  unfolding pick number'
  at_other k l = rw (ne_eqb k f.count (λ e. omega arith))

  -- by the last one or one before
  by_number : (A : ℕ → ℕ → Type 0) (k : ℕ) → k < f.count + 1 → A f.count g.number → ((i : ℕ) → i < f.count → A i (f.number i)) → A k (number' k)
  by_number A k l x y = go (eqb k f.count) refl
    where
      go : (b : Bool) → eqb k f.count ≡ b → A k (number' k)
      go true e = let z : k ≡ f.count = eqb-true k f.count e in rw (z, at_last) x
      go false e = let i : k < f.count = omega (arith, eqb-false k f.count e) in rw (at_other k i) (y k i)

  named : name_of s P (number' f.count) ≡ string_at s m.name
  named = rw (at_last, g.is)

  found_next : Found s P n from m.next
  found_next =
      let h = member_taken t in
      record {
        count = f.count + 1;
        number = number';
        is =
            f.is
            ∙ ap (listed f.count (λ k. name_of s P (f.number k))) (names_some t ∙ ap (λ (w : List ℕ). w ∷ names_at s m.next) (sym named))
            ∙ listed_same f.count (λ k. name_of s P (f.number k)) (λ k. name_of s P (number' k)) _ (λ i l. ap (name_of s P) (sym (at_other i l)))
            ∙ sym (listed_next f.count (λ k. name_of s P (number' k)) (names_at s m.next));
        below = λ k l. by_number (λ i j. j < n) k l g.below f.below;
        early = λ k l. by_number (λ i j. get_or P j 0 < m.next) k l (rw g.is h.some) (λ i z. let e = f.early i z in omega (arith, h.onward, h.some));
        rises = λ j k l z. by_number (λ i x. j < i → get_or P (number' j) 0 < get_or P x 0) k z
            (λ y. rw (at_other j y, g.is) (let e = f.early j y in omega (arith, h.onward)))
            (λ i x y. rw (at_other j (omega arith)) (f.rises j i y x)) l;
        onward = let o = f.onward in omega (arith, h.onward, h.some);
        inside = λ l. h.inside;
      }

pub found_more : {s P : List ℕ} {n from at : ℕ} {m : MemberHead} {b : Bool} → Found s P n from at → MemberAt s at (Some m) → Stands P n m.name b → b ≡ true → Found s P n from m.next
found_more f t g h = found_next f t (g.is h)

pub ruleset founds = (found_start, found_more, member_fits, member_less, rules)

-- ---- a name between two that rise

module _ (s P : List ℕ) {p q k : ℕ} where
  pub behind_here : (i : ℕ) → q ≡ get_or P (i - 1) 0 → k ≡ order (string_at s q) (string_at s p) → Behind s P i p (eqb k 1)
  behind_here i e f = record { is = λ h l. rw (← e) (sym f ∙ eqb-true k 1 h) }

  pub before_here : (n i : ℕ) → q ≡ get_or P i 0 → k ≡ order (string_at s p) (string_at s q) → Before s P n i p (eqb k 1)
  before_here n i e f = record { is = λ h l. rw (← e) (sym f ∙ eqb-true k 1 h) }

module _ {s P : List ℕ} {p : ℕ} where
  pub behind_none : {i : ℕ} → i ≤ 0 → Behind s P i p true
  behind_none l = record { is = λ h k. absurd (omega arith) }

  pub before_none : {n i : ℕ} → n ≤ i → Before s P n i p true
  before_none l = record { is = λ h k. absurd (omega arith) }

  pub between_yes : {n i : ℕ} {a b : Bool} → Rising (string_at s) P n → i ≤ n → Behind s P i p a → a ≡ true → Before s P n i p b → Apart s P n p b
  between_yes {n} {i} r l x h y = record { is = λ k. between r (string_at s p) i l (x.is h) (y.is k) }

  pub between_not : {n : ℕ} → Apart s P n p false
  between_not = record { is = λ h. absurd (false≢true h) }

-- ---- names that are none of them

pub record Missing (s P : List ℕ) (n from at : ℕ) : Type 0 where
  pub is : (i : ℕ) → i < n → is_one_of (name_of s P i) (names_at s from) ≡ is_one_of (name_of s P i) (names_at s at)

pub missing_start : (s P : List ℕ) (n from : ℕ) → Missing s P n from from
missing_start s P n from = record { is = λ i l. refl }

module _ {s P : List ℕ} {n from at : ℕ} (w : Missing s P n from at) where
  pub missing_all : MemberAt s at None → Absent s P n from
  unfolding is_one_of
  missing_all t = record { is = λ i l. w.is i l ∙ rw (names_none t) }

  pub missing_more : {m : MemberHead} {b : Bool} → MemberAt s at (Some m) → Apart s P n m.name b → b ≡ true → Missing s P n from m.next
  unfolding is_one_of ◌or◌
  missing_more t a h = record { is = λ i l. w.is i l ∙ rw (names_some t, a.is h i l) }

pub ruleset missings = (missing_start, missing_all, missing_more, member_fits, member_less, rules)

-- ---- a round

-- words that are different from each other and from those behind them
apart_before : (w : ℕ → List ℕ) (n : ℕ) (more : List (List ℕ)) → ((p q : ℕ) → p < q → q < n → same (w p) (w q) ≡ false) → ((p : ℕ) → p < n → is_one_of (w p) more ≡ false) → distinct (listed n w more) ≡ distinct more
unfolding listed distinct is_one_of pick
apart_before w zero more a b = refl
apart_before w (suc n) more a b =
    apart_before w n (w n ∷ more) (λ p q k l. a p q k (omega arith)) (λ p l. or_no (same (w p) (w n)) (is_one_of (w p) more) (a p n l (omega arith)) (b p (omega arith)))
    ∙ rw (b n (omega arith))

pub passes_all : {s P : List ℕ} {m n from at : ℕ} → Rising (string_at s) P m → n ≤ m → Found s P n from at → Absent s P n at → PassedTo s from at
passes_all {s} {P} {m} {n} {from} {at} rising few f a = record {
  is = ap distinct f.is
      ∙ apart_before (λ k. name_of s P (f.number k)) f.count (names_at s at)
      (λ p q k l. rising_apart (rising_fewer rising few) (f.number p) (f.number q) (λ e. let z = f.rises p q k l in let y : get_or P (f.number p) 0 ≡ get_or P (f.number q) 0 = ap (λ (i : ℕ). get_or P i 0) e in omega arith) (f.below p (omega arith)) (f.below q l))
      (λ p l. a.is (f.number p) (f.below p l));
  inside = f.inside;
}
