-- Laws of what specs/Repeating.antt defines.
--     Takes p             an item takes at least a byte
--     Walk                the loop's invariant;   walk_start, walk_more, walk_less, walk_end, walk_bad: its laws
--     items_more, items-over      a walk over `items` again: one item more, or the end
use Rattle.std.specs.Prelude.{◌≡◌, List, [], ◌∷◌, ℕ, ◌-◌, ◌*◌, ◌<◌, length, Option, None, Some, Result, Ok, Err}
use Rattle.std.proofs.Common.{◌∙◌, arith}
use Rattle.octets.specs.laws.Append.{length_both}
use Rattle.octets.specs.Many.{One, got, bad, ok, no, cons, many}
use Rattle.octets.specs.laws.Many.{many-got, many-none, many-bad}
use Rattle.source.specs.Source.{rest}
use Rattle.read_text_line.specs.ContentLine.{next_value, next_param}
use Rattle.read_text_line.specs.Write.{write_param_value, write_parameter}
use Rattle.read_text_line.specs.laws.Accepted.{next_value_read, next_param_read}
use Rattle.read_text_line.specs.Items.{items}
use Rattle.read_text_line.specs.laws.Items.{items-got, items-none, items_bad}
use Rattle.read_text_line.specs.Cursor.{Onward, ItemAt}
use Rattle.read_text_line.specs.laws.Cursor.{onward_here, onward_both}
use Rattle.read_text_line.specs.Repeating.{AllAt}
use Rattle.read_text_line.specs.declared.Malformed.{Malformed}

abbrev pub Takes : {A : Type 0} → (List ℕ → One A) → Type 0
Takes {A} p = (xs : List ℕ) (a : A) (r : List ℕ) → p xs ≡ got a r → length r < length xs

pub value_takes : Takes next_value
value_takes xs v r e = rw (← (next_value_read xs v r e).1) (omega (arith, length_both (write_param_value v) r))

pub param_takes : Takes next_param
unfolding write_parameter
param_takes xs v r e = rw (← (next_param_read xs v r e).1) (omega (arith, length_both (write_parameter v) r))

-- what is read from c on is what is read from c₀ on, but for items that are read already
pub record Walk {A : Type 0} (p : List ℕ → One A) (m : ℕ) (s : List ℕ) (c₀ c : ℕ) : Type 0 where
  pub good : (r : List ℕ) → many p (rest m s c) ≡ ok (items p (rest m s c)) r → many p (rest m s c₀) ≡ ok (items p (rest m s c₀)) r
  pub wrong : (r : List ℕ) → many p (rest m s c) ≡ no r → many p (rest m s c₀) ≡ no r
  pub to : Onward m s c₀ c

pub walk_start : {A : Type 0} (p : List ℕ → One A) (m : ℕ) (s : List ℕ) (c : ℕ) → Walk p m s c c
walk_start p m s c = record { good = λ r e. e; wrong = λ r e. e; to = onward_here c }

module _ {C A : Type 0} {p : List ℕ → One A} {m : ℕ} {s : List ℕ} {c : ℕ} {item : C → A} {behind : C → ℕ} {r : Result (Option C) (Malformed C)} (i : ItemAt p m s c item behind r) where
  pub item_got : {v : C} → r ≡ Ok (Some v) → p (rest m s c) ≡ got (item v) (rest m s (behind v))
  item_got e = i.is ∙ rw e

  pub item_to : {v : C} → r ≡ Ok (Some v) → Onward m s c (behind v)
  item_to e = rw e at i.to

  pub item_none : r ≡ Ok None → p (rest m s c) ≡ One.none
  item_none e = i.is ∙ rw e

  pub item_bad : {x : Malformed C} → r ≡ Err x → p (rest m s c) ≡ bad i.fault
  item_bad e = i.is ∙ rw e

  module _ (t : Takes p) where
    -- ---- the walk over `items`
    pub items_more : {v : C} → r ≡ Ok (Some v) → items p (rest m s c) ≡ item v ∷ items p (rest m s (behind v))
    items_more {v} e = items-got p (rest m s c) (item v) (rest m s (behind v)) (item_got e) (t _ _ _ (item_got e))

    pub walk_less : {v : C} → r ≡ Ok (Some v) → 4 * length s - behind v < 4 * length s - c
    walk_less {v} e =
        let k : length (rest m s (behind v)) < length (rest m s c) = t _ _ _ (item_got e) in
        let d : c ≡ behind v → ⊥ = λ (q : c ≡ behind v). let z : length (rest m s (behind v)) ≡ length (rest m s c) = rw q in omega arith in
        let o : Onward m s c (behind v) = item_to e in
        omega (arith, o.onward, o.inside, d)

    many_more : {v : C} → r ≡ Ok (Some v) → many p (rest m s c) ≡ cons (item v) (many p (rest m s (behind v)))
    many_more {v} e = many-got p (rest m s c) (item v) (rest m s (behind v)) (item_got e) (t _ _ _ (item_got e))

    pub walk_more : {c₀ : ℕ} {v : C} → Walk p m s c₀ c → r ≡ Ok (Some v) → Walk p m s c₀ (behind v)
    walk_more w e = record {
      good = λ z h. w.good z (many_more e ∙ rw (h, items_more e));
      wrong = λ z h. w.wrong z (many_more e ∙ rw h);
      to = onward_both w.to (item_to e);
    }

  pub items_none_here : r ≡ Ok None → items p (rest m s c) ≡ []
  items_none_here e = items-none p (rest m s c) (item_none e)

  pub items_bad_here : {x : Malformed C} → r ≡ Err x → items p (rest m s c) ≡ []
  items_bad_here e = items_bad p (rest m s c) i.fault (item_bad e)

  pub walk_end : {c₀ : ℕ} → Walk p m s c₀ c → r ≡ Ok None → AllAt p m s c₀ (Ok c)
  walk_end w e = record { fault = []; is = w.good (rest m s c) (many-none p (rest m s c) (item_none e) ∙ rw (items_none_here e)); to = w.to }

  pub walk_bad : {c₀ : ℕ} {x : Malformed C} → Walk p m s c₀ c → r ≡ Err x → AllAt p m s c₀ (Err (record { read = c }))
  walk_bad w e = record { fault = i.fault; is = w.wrong i.fault (many-bad p (rest m s c) i.fault (item_bad e)); to = w.to }
