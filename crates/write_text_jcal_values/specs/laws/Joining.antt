-- Elements that are read one by one and written with a separator between them, in a loop.
--     Joining       its invariant: if all are read, what is left to write of them;   joining_start, joining_more, joining_end
use Rattle.std.specs.Prelude.{◌≡◌, refl, Bool, true, false, ℕ, ◌*◌, ◌^◌, ◌<◌, length, Option, Some}
use Rattle.std.proofs.Common.{sym, ap, ◌∙◌}
use mathlib.Core.List.{List, [], ◌∷◌, map}
use Rattle.octets.specs.Pick.{pick}
use Rattle.octets.specs.Append.{◌⊕◌}
use Rattle.octets.specs.Words.{joined_by}
use Rattle.octets.specs.Reading.{and_then, cons_read, read_each}
use Rattle.octets.specs.laws.Reading.{and_then-some, cons_read-some}
use Rattle.sink.specs.Sink.{Put, Todo}
use Rattle.sink.specs.laws.Sink.{todo_all, todo_step, todo_done}
use Rattle.json_text.specs.Tree.{Json}
use Rattle.read_json.specs.Heads.{value_of_head, HeadAt, NextAt}
use Rattle.read_json.specs.Kinds.{is_there}
use Rattle.read_json.specs.declared.Head.{Head}
use Rattle.write_text_pieces.specs.laws.Joining.{following, following_first, following_none, following_more}
use Rattle.write_text_jcal_values.specs.Elements.{list_at}
use Rattle.write_text_jcal_values.specs.laws.Elements.{there_list, none_list}

pub same_some : {A : Type 0} {a b : A} → Some a ≡ Some b → a ≡ b
same_some e = cc

-- the first of a list that is read
pub each_first : {A B : Type 0} (f : A → Option B) (v : A) (vs : List A) (xs : List B) → read_each f (v ∷ vs) ≡ Some xs → (x : B) × (ys : List B) × (f v ≡ Some x) × (read_each f vs ≡ Some ys) × (xs ≡ x ∷ ys)
unfolding read_each
each_first f v vs xs h =
    let e = and_then-some (f v) (λ b. cons_read b (read_each f vs)) xs h in
    let g = cons_read-some e.0 (read_each f vs) xs e.2 in
    (e.0, g.0, e.1, g.1, sym g.2)

pub each_none : {A B : Type 0} (f : A → Option B) (xs : List B) → read_each f [] ≡ Some xs → xs ≡ []
unfolding read_each
each_none f xs h = sym (same_some h)

pub each_more : {A B : Type 0} (f : A → Option B) (v : A) (vs : List A) (x : B) (xs : List B) → f v ≡ Some x → read_each f vs ≡ Some xs → read_each f (v ∷ vs) ≡ Some (x ∷ xs)
unfolding read_each and_then cons_read
each_more f v vs x xs e g = rw (e, g)

module _ {A : Type 0} (f : Json → Option A) (w : A → List ℕ) (c : ℕ) where
  -- it began with d₀ and o₀ at the element at `from`, and has come with d and o to the one at `at`
  pub record Joining (s : List ℕ) (from : ℕ) (d₀ : List ℕ) (o₀ : ℕ) (d : List ℕ) (o at : ℕ) (started : Bool) : Type 0 where
    pub kept : length d ≡ length d₀
    pub left : (xs : List A) → read_each f (list_at s from) ≡ Some xs → (ys : List A) × (read_each f (list_at s at) ≡ Some ys) × Todo d₀ o₀ (joined_by c (map w xs)) d o (following started c (map w ys))

  pub joining_start : (s : List ℕ) (from : ℕ) (d : List ℕ) (o : ℕ) → length d * 1 < 2 ^ 63 → Joining s from d o d o from false
  joining_start s from d o z = record {
    kept = refl;
    left = λ xs e. (xs, e, rw (following_first c (map w xs)) (todo_all d o (joined_by c (map w xs)) z));
  }

  module _ {s : List ℕ} {from : ℕ} {d₀ : List ℕ} {o₀ : ℕ} {d : List ℕ} {o at : ℕ} {b : Bool} (j : Joining s from d₀ o₀ d o at b) {h : Head} (t : HeadAt s at h) {y : Bool} (e : y ≡ is_there h.kind) where
    pub joining_more : y ≡ true → {r : ℕ} → NextAt s h r → {d' : List ℕ} {q : ℕ} → length d' ≡ length d →
        ((a : A) → f (value_of_head s h) ≡ Some a → Put d d' o q (pick b (c ∷ []) [] ⊕ w a)) → Joining s from d₀ o₀ d' q r true
    unfolding ◌⊕◌
    joining_more k {r} n {d'} {q} z p = record {
      kept = z ∙ j.kept;
      left = λ xs i.
          let l = j.left xs i in
          let g = each_first f (value_of_head s h) (list_at s r) l.0 (sym (ap (read_each f) (there_list t e n k)) ∙ l.1) in
          (g.1, g.3, todo_step l.2 (p g.0 g.2) (ap (λ (x : List A). following b c (map w x)) g.4 ∙ following_more b c (w g.0) (map w g.1)));
    }

    pub joining_end : y ≡ false → (xs : List A) → read_each f (list_at s from) ≡ Some xs → Put d₀ d o₀ o (joined_by c (map w xs))
    joining_end k xs i =
        let l = j.left xs i in
        let z : l.0 ≡ [] = each_none f l.0 (sym (ap (read_each f) (none_list t e k)) ∙ l.1) in
        todo_done l.2 (ap (λ (x : List A). following b c (map w x)) z ∙ following_none b c)
