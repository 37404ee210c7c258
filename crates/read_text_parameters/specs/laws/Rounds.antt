-- Laws of what specs/Rounds.antt defines.
--     stands_.., held_..       a place that was found;   the name at a cursor, whose place was found
--     found_..                 the walk over names that are found
--     behind_.., before_.., between_..    a name between two that rise is none of them
--     Missing, missing_..      the walk over names that are none of them
--     passes_.., passed_..     a round, and all rounds
--     ends_..                  their end
use Rattle.std.specs.Prelude.{◌≡◌, refl, Bool, true, false, ℕ, zero, suc, ◌+◌, ◌-◌, ◌^◌, ◌≤◌, ◌<◌, eqb, ltb, get_or, take, Option, None, Some, Result, Ok, Err}
use Rattle.std.proofs.Math.Path.{sym, ap}
use Rattle.std.proofs.Common.{◌∙◌, eqb-true, ltb-true, ltb-false}
use Rattle.std.proofs.lemmas.Bool.{false≢true, eqb-false}
use mathlib.Core.List.{List, [], ◌∷◌}
use native.Mathlib.Omega.{arith}
use Rattle.octets.specs.Pick.{pick, ◌or◌}
use Rattle.octets.specs.laws.Pick.{or_left, or_right, or_cases}
use Rattle.octets.specs.Words.{same, is_one_of}
use Rattle.octets.specs.laws.Words.{same_self, same_true, same_swap}
use Rattle.source.specs.Source.{cuts}
use Rattle.distinct.specs.Order.{order}
use Rattle.distinct.specs.laws.Order.{order_through, order_apart}
use Rattle.distinct.specs.Again.{first_again}
use Rattle.distinct.specs.Rising.{Rising}
use Rattle.read_text_line.specs.ContentLine.{next_param}
use Rattle.read_text_line.specs.Cursor.{params_at}
use Rattle.read_text_line.specs.Params.{ParamOf}
use Rattle.read_text_line.specs.declared.Malformed.{Malformed}
use Rattle.read_text_line.specs.declared.ParameterCursors.{ParameterCursors}
use Rattle.read_text_parameters.specs.Cutting.{name_cut}
use Rattle.read_text_parameters.specs.Comparing.{names_of, onto, Comparing}
use Rattle.read_text_parameters.specs.Naming.{name_at, NameAt}
use Rattle.read_text_parameters.specs.Rounds.{is_next, Passed, name_of, Standing, Stands, Held, Holding, Walked, Found, Behind, Before, Apart, Absent, Passes, EndsAt}
use Rattle.read_text_parameters.specs.laws.Collecting.{compared_over, compared_fault, compared_again}
use Rattle.read_text_parameters.specs.declared.named.NameCursors.{NameCursors}
use Rattle.read_text_parameters.specs.declared.rounds.Round.{Round}

-- ---- names that rise

module _ {w : ℕ → List ℕ} {o : List ℕ} {n : ℕ} (r : Rising w o n) where
  further : (d i : ℕ) → i + 1 + d < n → order (w (get_or o i 0)) (w (get_or o (i + 1 + d) 0)) ≡ 1
  further zero i h = let z : i + 1 + 0 ≡ i + 1 = omega arith in rw z (r.next i (omega arith))
  further (suc d) i h =
      let z : i + 1 + suc d ≡ i + 1 + d + 1 = omega arith in
      rw z (order_through (w (get_or o i 0)) (w (get_or o (i + 1 + d) 0)) (w (get_or o (i + 1 + d + 1) 0)) (further d i (omega arith)) (r.next (i + 1 + d) (omega arith)))

  rises_on : (i j : ℕ) → i < j → j < n → order (w (get_or o i 0)) (w (get_or o j 0)) ≡ 1
  rises_on i j l h = let z : j ≡ i + 1 + (j - i - 1) = omega arith in rw z (further (j - i - 1) i (omega arith))

  rising_apart : (i j : ℕ) → (i ≡ j → ⊥) → i < n → j < n → same (w (get_or o i 0)) (w (get_or o j 0)) ≡ false
  rising_apart i j e h k = go (ltb i j) refl
    where
      go : (t : Bool) → ltb i j ≡ t → same (w (get_or o i 0)) (w (get_or o j 0)) ≡ false
      go true x = order_apart _ _ 1 (rises_on i j (ltb-true i j x) k) (λ z. omega arith)
      go false x = same_swap _ _ (order_apart _ _ 1 (rises_on j i (omega (arith, ltb-false i j x, e)) h) (λ z. omega arith))

  -- a name between two of them is none of them
  between : (v : List ℕ) (i : ℕ) → i ≤ n → (0 < i → order (w (get_or o (i - 1) 0)) v ≡ 1) → (i < n → order v (w (get_or o i 0)) ≡ 1) → (j : ℕ) → j < n → same (w (get_or o j 0)) v ≡ false
  between v i m a b j l = go (ltb j i) refl
    where
      early : j < i → (t : Bool) → eqb j (i - 1) ≡ t → order (w (get_or o j 0)) v ≡ 1
      early k true x = let z : j ≡ i - 1 = eqb-true j (i - 1) x in rw z (a (omega arith))
      early k false x = order_through (w (get_or o j 0)) (w (get_or o (i - 1) 0)) v (rises_on j (i - 1) (omega (arith, eqb-false j (i - 1) x)) (omega arith)) (a (omega arith))

      late : i ≤ j → (t : Bool) → eqb j i ≡ t → order v (w (get_or o j 0)) ≡ 1
      late k true x = let z : j ≡ i = eqb-true j i x in rw z (b (omega arith))
      late k false x = order_through v (w (get_or o i 0)) (w (get_or o j 0)) (b (omega (arith, eqb-false j i x))) (rises_on i j (omega (arith, eqb-false j i x)) l)

      go : (t : Bool) → ltb j i ≡ t → same (w (get_or o j 0)) v ≡ false
      go true x = order_apart _ _ 1 (early (ltb-true j i x) (eqb j (i - 1)) refl) (λ z. omega arith)
      go false x = same_swap _ _ (order_apart _ _ 1 (late (ltb-false j i x) (eqb j i) refl) (λ z. omega arith))

-- ---- the first names of a list

next_one : (v x : List ℕ) (ns : List (List ℕ)) (k : ℕ) → 0 < k → is_one_of v (take k (x ∷ ns)) ≡ (same v x or is_one_of v (take (k - 1) ns))
unfolding is_one_of
next_one v x ns k l = let z : k ≡ suc (k - 1) = omega arith in ap (λ (i : ℕ). is_one_of v (take i (x ∷ ns))) z

next_none : (v : List ℕ) (ns : List (List ℕ)) → is_one_of v (take 0 ns) ≡ false
unfolding is_one_of
next_none v ns = refl

next_more : (v : List ℕ) (a b : ℕ) (ns : List (List ℕ)) → a ≤ b → is_one_of v (take a ns) ≡ true → is_one_of v (take b ns) ≡ true
unfolding is_one_of
next_more v zero b ns l h = absurd (false≢true h)
next_more v (suc a) zero ns l h = absurd (omega arith)
next_more v (suc a) (suc b) [] l h = h
next_more v (suc a) (suc b) (x ∷ ns) l h =
    or_cases (same v x) (is_one_of v (take a ns)) h (λ k. or_left (same v x) (is_one_of v (take b ns)) k) (λ k. or_right (same v x) (is_one_of v (take b ns)) (next_more v a b ns (omega arith) k))

-- ---- names that are found

pub stands_here : {P : List ℕ} {n p i q : ℕ} → i < n → q ≡ get_or P i 0 → Stands P n p (eqb q p)
stands_here {P} {n} {p} {i} {q} h e = record { is = λ f. record { number = i; below = h; is = sym e ∙ eqb-true q p f } }

pub stands_not : {P : List ℕ} {n p : ℕ} → Stands P n p false
stands_not = record { is = λ f. absurd (false≢true f) }

pub held_here : {m : ℕ} {s P : List ℕ} {n c : ℕ} {a : NameCursors} {b : Bool} → NameAt m s c a → Stands P n a.name b → b ≡ true → Held m s P n c a
held_here t g h = record { named = t; stands = g.is h }

module _ {m : ℕ} {s P : List ℕ} {n e k c left : ℕ} {a : NameCursors} (r : Rising (name_at m s) P n) (w : Walked m s P n e k c left) (t : NameAt m s c a) (g : Standing P n a.name) (l : 0 < left) where
  abbrev x : List ℕ
  x = name_at m s a.name

  is_x : name_of m s P g.number ≡ x
  is_x = ap (name_at m s) g.is

  here : (v : List ℕ) → is_next m s c left v ≡ (same v x or is_next m s a.next (left - 1) v)
  here v = ap (λ (ns : List (List ℕ)). is_one_of v (take left ns)) (t.is) ∙ next_one v x (names_of (params_at m s a.next)) left l

  other : Holding m s P n c x → same x x ≡ false
  other d =
      ap (λ (v : List ℕ). same v x) d.is
      ∙ ap (same (name_of m s P d.number)) (sym is_x)
      ∙ rising_apart r d.number g.number (λ z. let y : get_or P d.number 0 ≡ get_or P g.number 0 = ap (λ (i : ℕ). get_or P i 0) z in let i = g.is in let o = t.onward in let u = d.early in omega (arith, y, i, o, u)) d.below g.below

  is_new : is_one_of x w.compared.before ≡ false
  is_new = go (is_one_of x w.compared.before) refl
    where
      go : (b : Bool) → is_one_of x w.compared.before ≡ b → b ≡ false
      go true z = absurd (false≢true (sym (other (w.held x z (w.new x (here x ∙ or_left (same x x) (is_next m s a.next (left - 1) x) (same_self x))))) ∙ same_self x))
      go false z = refl

  walk_more : Walked m s P n e (k + 1) a.next (left - 1)
  unfolding first_again onto pick is_one_of
  walk_more =
      let o = t.onward in
      let q = t.past in
      let u = w.compared.past in
      record {
        compared = record {
          before = x ∷ w.compared.before;
          names = w.compared.names ∙ ap (onto w.compared.before) (t.is);
          count = let i = w.compared.count in omega (arith, i);
          comes = w.compared.comes ∙ rw (t.is, is_new) (omega arith);
          past = omega (arith, o, q, u);
        };
        old = w.old;
        new = λ v z. w.new v (here v ∙ or_right (same v x) (is_next m s a.next (left - 1) v) z);
        held = λ v z y. or_cases (same v x) (is_one_of v w.compared.before) z
            (λ f. record { number = g.number; below = g.below; early = rw g.is q; is = same_true v x f ∙ sym is_x })
            (λ f. let d = w.held v f y in record { number = d.number; below = d.below; early = let i = d.early in omega (arith, o, q, i); is = d.is });
      }

module _ {m : ℕ} {s P : List ℕ} {n : ℕ} where
  pub found_start : (from left : ℕ) → Found m s P n from left (record { count = 0; next = from; left = left })
  found_start from left = record {
    is = λ e k p. let z : k + 0 ≡ k = omega arith in rw z (record { compared = p.compared; old = p.compared.before; new = p.new; held = λ v a b. absurd (false≢true (sym b ∙ a)) });
    fits = omega arith;
  }

  pub found_more : {from left k c more : ℕ} {a : NameCursors} → Rising (name_at m s) P n → Found m s P n from left (record { count = k; next = c; left = more }) →
      Held m s P n c a → 0 < more → Found m s P n from left (record { count = k + 1; next = a.next; left = more - 1 })
  found_more {from} {left} {k} {c} {more} r f t l = record {
    is = λ e j p. let z : j + (k + 1) ≡ j + k + 1 = omega arith in rw z (walk_more r (f.is e j p) t.named t.stands l);
    fits = let i = f.fits in omega (arith, i);
  }

  pub found_fits : {from left k c more : ℕ} → Found m s P n from left (record { count = k; next = c; left = more }) → 0 < more → left < 2 ^ 64 → k + 1 < 2 ^ 64
  found_fits f l h = let i = f.fits in omega (arith, i)

-- ---- a name between two that rise

module _ (m : ℕ) (s P : List ℕ) {p q k : ℕ} where
  pub behind_here : (i : ℕ) → q ≡ get_or P (i - 1) 0 → k ≡ order (name_at m s q) (name_at m s p) → Behind m s P i p (eqb k 1)
  behind_here i e f = record { is = λ h l. rw (← e) (sym f ∙ eqb-true k 1 h) }

  pub before_here : (n i : ℕ) → q ≡ get_or P i 0 → k ≡ order (name_at m s p) (name_at m s q) → Before m s P n i p (eqb k 1)
  before_here n i e f = record { is = λ h l. rw (← e) (sym f ∙ eqb-true k 1 h) }

module _ {m : ℕ} {s P : List ℕ} {p : ℕ} where
  pub behind_none : {i : ℕ} → i ≤ 0 → Behind m s P i p true
  behind_none l = record { is = λ h k. absurd (omega arith) }

  pub before_none : {n i : ℕ} → n ≤ i → Before m s P n i p true
  before_none l = record { is = λ h k. absurd (omega arith) }

  pub between_yes : {n i : ℕ} {a b : Bool} → Rising (name_at m s) P n → i ≤ n → Behind m s P i p a → a ≡ true → Before m s P n i p b → Apart m s P n p b
  between_yes {n} {i} r l x h y = record { is = λ k. between r (name_at m s p) i l (x.is h) (y.is k) }

  pub between_not : {n : ℕ} → Apart m s P n p false
  between_not = record { is = λ h. absurd (false≢true h) }

-- ---- names that are none of them

pub record Missing (m : ℕ) (s P : List ℕ) (n from k c : ℕ) : Type 0 where
  pub is : (i : ℕ) → i < n → (d : ℕ) → is_next m s from (k + d) (name_of m s P i) ≡ is_next m s c d (name_of m s P i)

module _ {m : ℕ} {s P : List ℕ} {n : ℕ} where
  pub missing_start : (from : ℕ) → Missing m s P n from 0 from
  missing_start from = record { is = λ i l d. let z : 0 + d ≡ d = omega arith in rw z }

  module _ {from k c : ℕ} (w : Missing m s P n from k c) where
    pub missing_end : {left : ℕ} → k ≤ left → Absent m s P n from left k
    missing_end u = record { is = λ i l. let z : k ≡ k + 0 = omega arith in ap (λ (j : ℕ). is_next m s from j (name_of m s P i)) z ∙ w.is i l 0 ∙ next_none (name_of m s P i) (names_of (params_at m s c)); most = u }

    pub missing_more : {a : NameCursors} {b : Bool} → NameAt m s c a → Apart m s P n a.name b → b ≡ true → Missing m s P n from (k + 1) a.next
    unfolding ◌or◌
    missing_more {a} t g q = record {
      is = λ i l d.
          let z : k + 1 + d ≡ k + (1 + d) = omega arith in
          let y : 1 + d - 1 ≡ d = omega arith in
          ap (λ (j : ℕ). is_next m s from j (name_of m s P i)) z
          ∙ w.is i l (1 + d)
          ∙ ap (λ (ns : List (List ℕ)). is_one_of (name_of m s P i) (take (1 + d) ns)) (t.is)
          ∙ next_one (name_of m s P i) (name_at m s a.name) (names_of (params_at m s a.next)) (1 + d) (omega arith)
          ∙ rw (g.is q i l, y);
    }

-- ---- a round

module _ {m : ℕ} {s : List ℕ} {from left : ℕ} where
  pub passes_all : {P : List ℕ} {n k : ℕ} {f : Round} → Found m s P n from left f → Absent m s P n f.next f.left k → Passes m s from left (record { count = f.count; next = f.next; left = k })
  passes_all {P} {n} {k} {f} x a = record {
    is = λ e j p. let w = x.is e j p in record { compared = w.compared; new = λ v h. go w v h (is_one_of v w.compared.before) refl };
    fits = let i = x.fits in let o = a.most in omega (arith, i, o);
  }
    where
      go : {e j : ℕ} (w : Walked m s P n e j f.next f.left) (v : List ℕ) → is_next m s f.next k v ≡ true → (b : Bool) → is_one_of v w.compared.before ≡ b → b ≡ false
      go w v h true z =
          let d = w.held v z (w.new v (next_more v k f.left (names_of (params_at m s f.next)) a.most h)) in
          absurd (false≢true (sym (a.is d.number d.below) ∙ ap (is_next m s f.next k) (sym d.is) ∙ h))
      go w v h false z = refl

  pub passes_none : Passes m s from left (record { count = 0; next = from; left = 0 })
  passes_none = record {
    is = λ e k p. let z : k + 0 ≡ k = omega arith in rw z (record { compared = p.compared; new = λ v h. absurd (false≢true (sym (next_none v (names_of (params_at m s from))) ∙ h)) });
    fits = omega arith;
  }

pub passed_start : (m : ℕ) (s : List ℕ) (e left : ℕ) → Passed m s e 0 e left
unfolding onto is_one_of
passed_start m s e left = record { compared = record { before = []; names = refl; count = refl; comes = omega arith; past = omega arith }; new = λ v h. refl }

pub passed_more : {m : ℕ} {s : List ℕ} {e k c left : ℕ} {r : Round} → Passed m s e k c left → Passes m s c left r → Passed m s e (k + r.count) r.next r.left
passed_more {m} {s} {e} {k} p q = q.is e k p

pub passed_fits : {m : ℕ} {s : List ℕ} {c left : ℕ} {r : Round} (k : ℕ) → Passes m s c left r → k + left ≤ 65536 → k + r.count + r.left ≤ 65536
passed_fits k q l = let i = q.fits in omega (arith, i)

pub passed_all : {m : ℕ} {s : List ℕ} {e k c left : ℕ} → Passed m s e k c left → Comparing m s e k c
passed_all p = p.compared

-- ---- the end

module _ {m : ℕ} {s : List ℕ} {e k c : ℕ} {r : Result (Option ParameterCursors) (Malformed ParameterCursors)} (y : cuts m ≡ true) (a : ParamOf next_param m s c r) where
  pub ends_over : r ≡ Ok None → EndsAt m s e k c true
  ends_over h = record { is = λ t i. compared_over y i a h }

  pub ends_fault : {x : Malformed ParameterCursors} → r ≡ Err x → EndsAt m s e k c true
  ends_fault h = record { is = λ t i. compared_fault y i a h }

  pub ends_again : {b : Bool} {pc : ParameterCursors} → r ≡ Ok (Some pc) → b ≡ is_one_of (name_cut m s pc.name pc.end) (take k (names_of (params_at m s e))) → EndsAt m s e k c b
  ends_again h g = record { is = λ t i. compared_again y i a h g t }

pub ends_here : {m : ℕ} {s : List ℕ} {e k c : ℕ} {t : Bool} → EndsAt m s e k c t → t ≡ true → Comparing m s e k c → k ≡ first_again [] (names_of (params_at m s e))
ends_here x h i = x.is h i
