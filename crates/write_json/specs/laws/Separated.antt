-- Laws of what specs/Separated.antt defines, and the loops that write one value after another.
--     Listing    the invariant: all of these are to be written, and these are left;   listing_start, listing_more, listing_rest, listing_end: its laws
--     put_first, put_after, comma_before    what is written, by whether another came before
--     array_pair    an array of two
use Rattle.std.specs.Prelude.{◌≡◌, refl, Bool, true, false, List, [], ◌∷◌, ◌++◌, ℕ, ◌*◌, ◌^◌, ◌<◌, length}
use Rattle.std.proofs.Common.{sym, ap, ◌∙◌, append-nil}
use Rattle.octets.specs.Ascii.{ascii}
use Rattle.octets.specs.Pick.{pick}
use Rattle.octets.specs.Append.{◌⊕◌}
use Rattle.octets.specs.laws.Append.{append_none, append_regroup}
use Rattle.octets.specs.Words.{each_after, joined_by}
use Rattle.sink.specs.Sink.{Put, Todo}
use Rattle.sink.specs.laws.Sink.{◌▷◌, put_length, todo_all, todo_step, todo_done}
use Rattle.json_text.specs.Bytes.{value_separator}
use Rattle.json_text.specs.Write.{array_of}
use Rattle.write_json.specs.Separated.{separator, following}

pub record Listing (before : Bool) (all : List (List ℕ)) (d₀ : List ℕ) (at₀ : ℕ) (d : List ℕ) (at : ℕ) (started : Bool) (left : List (List ℕ)) : Type 0 where
  pub todo : Todo d₀ at₀ (following before all) d at (following started left)
  pub kept : length d ≡ length d₀

pub listing_start : (before : Bool) (d : List ℕ) (at : ℕ) (l : List (List ℕ)) → length d * 1 < 2 ^ 63 → Listing before l d at d at before l
listing_start before d at l z = record { todo = todo_all d at (following before l) z; kept = refl }

next_is : (started : Bool) (x : List ℕ) (l : List (List ℕ)) → following started (x ∷ l) ≡ (separator started ⊕ x) ++ following true l
unfolding following pick joined_by each_after ◌⊕◌
next_is true x l = refl
next_is false x l = refl

over : (b : Bool) → following b [] ≡ []
unfolding following pick joined_by each_after
over true = refl
over false = refl

module _ {before : Bool} {all : List (List ℕ)} {d₀ : List ℕ} {at₀ : ℕ} {d : List ℕ} {at : ℕ} {started : Bool} {left : List (List ℕ)} (t : Listing before all d₀ at₀ d at started left) where
  pub listing_more : {e : List ℕ} {m : ℕ} (x : List ℕ) (l : List (List ℕ)) → left ≡ x ∷ l → Put d e at m (separator started ⊕ x) → Listing before all d₀ at₀ e m true l
  listing_more x l q p = record { todo = todo_step t.todo p (ap (following started) q ∙ next_is started x l); kept = put_length p ∙ t.kept }

  pub listing_same : (l : List (List ℕ)) → left ≡ l → Listing before all d₀ at₀ d at started l
  listing_same l q = rw (← q) t

  -- what is left is written at once
  pub listing_rest : {e : List ℕ} {m : ℕ} → Put d e at m (following started left) → Put d₀ e at₀ m (following before all)
  listing_rest p = todo_done (todo_step t.todo p (sym (append-nil _))) refl

  pub listing_end : left ≡ [] → Put d₀ d at₀ at (following before all)
  listing_end q = todo_done t.todo (ap (following started) q ∙ over started)

-- the first has no comma before it, those that follow another have one
pub put_first : {d e : List ℕ} {at r : ℕ} (l : List (List ℕ)) → Put d e at r (following false l) → Put d e at r (joined_by value_separator l)
unfolding following pick
put_first l p = p

pub put_after : {d e : List ℕ} {at r : ℕ} (l : List (List ℕ)) → Put d e at r (following true l) → Put d e at r (each_after value_separator l)
unfolding following pick
put_after l p = p

pub comma_before : {d e f : List ℕ} {at m r : ℕ} (x : List ℕ) → Put d e at m (ascii ",") → Put e f m r x → Put d f at r (separator true ⊕ x)
unfolding pick
comma_before x p q = p ▷ q

-- ---- an array of two

seam : (b c : List ℕ) → ascii "," ⊕ b ⊕ c ≡ (44 ∷ b) ⊕ c
unfolding ◌⊕◌
seam b c = refl

pub array_pair : (a b : List ℕ) → ascii "[" ⊕ a ⊕ ascii "," ⊕ b ⊕ ascii "]" ≡ array_of (a ∷ b ∷ [])
unfolding joined_by each_after
array_pair a b = rw (append_none b, append_regroup a (44 ∷ b) (ascii "]"), seam b (ascii "]"))
