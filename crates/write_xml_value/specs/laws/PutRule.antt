-- A rule written from its text as elements: the rules for each way that the code goes.
--     put_listed, put_single     a piece
--     Itemizing                  the invariant of the loop over the items of a piece
--     put_found, put_missing     the piece of a part
--     Naming                     the invariant of the loop over the parts
--     nothing_read               nothing of what was not read
use Prim.{tt}
use Rattle.std.specs.Prelude.{◌≡◌, Bool, List, [], ℕ, zero, suc, ◌+◌, ◌-◌, ◌*◌, ◌^◌, ◌≤◌, ◌<◌, eqb, length, take, drop, get_or, Option, None, Some, IfSome}
use Rattle.std.proofs.Math.Path.{refl, sym}
use Rattle.std.proofs.Common.{◌∙◌, subst, arith, add-one, drop_of_length-le, drop-cons}
use Rattle.std.proofs.Math.Bool.{true, false}
use Rattle.std.proofs.lemmas.Bool.{false≢true}
use Rattle.octets.specs.Pick.{pick}
use Rattle.octets.specs.Append.{◌⊕◌}
use Rattle.octets.specs.laws.Append.{append_none}
use Rattle.octets.specs.Words.{cut_at, row_of}
use Rattle.octets.specs.Reading.{is_read, or_nothing}
use Rattle.octets.specs.Front.{up_to, past}
use Rattle.sink.specs.Sink.{Put, Todo}
use Rattle.sink.specs.laws.Sink.{put_length, todo_all, todo_step, todo_done}
use Rattle.source.specs.Source.{rest, Within, Reads}
use Rattle.source.specs.declared.points.Unit.{Unit}
use Rattle.recur.specs.Parts.{part_of, part_names, is_listed, is_list_part}
use Rattle.recur.specs.Rule.{is_equals}
use Rattle.recur.specs.Pieces.{Ends, piece_name}
use Rattle.recur.specs.laws.PieceLaws.{piece_is, pieces_last, pieces_more, step_less}
use Rattle.recur.specs.Noted.{piece_from, Standing}
use Rattle.write_xml_value.specs.Rules.{item_xml, each_xml, piece_xml, named_xml}

-- ---- a piece

module _ {d e : List ℕ} {o r : ℕ} (n w v : List ℕ) {t : Bool} (q : t ≡ is_listed (part_of n)) (p : past is_equals w ≡ v) where
  pub put_listed : t ≡ true → Put d e o r (each_xml n (cut_at 44 v)) → Put d e o r (piece_xml n w)
  unfolding piece_xml pick
  put_listed h x = let k : is_list_part n ≡ true = sym q ∙ h in rw (k, p) x

  pub put_single : t ≡ false → Put d e o r (item_xml n v) → Put d e o r (piece_xml n w)
  unfolding piece_xml each_xml pick
  put_single h x = let k : is_list_part n ≡ false = sym q ∙ h in rw (k, p) (subst (Put d e o r) (sym (append_none (item_xml n v))) x)

-- ---- the items of a piece

pub record Itemizing (n : List ℕ) (d₀ : List ℕ) (at₀ m : ℕ) (s : List ℕ) (c₀ : ℕ) (d : List ℕ) (at c : ℕ) : Type 0 where
  pub todo : Todo d₀ at₀ (each_xml n (cut_at 44 (rest m s c₀))) d at (each_xml n (cut_at 44 (rest m s c)))
  pub kept : length d ≡ length d₀
  pub inside : Within m s c

pub items_start : (n d : List ℕ) (at m : ℕ) (s : List ℕ) (c : ℕ) → length d * 1 < 2 ^ 63 → Within m s c → Itemizing n d at m s c d at c
items_start n d at m s c z h = record { todo = todo_all d at (each_xml n (cut_at 44 (rest m s c))) z; kept = refl; inside = h }

module _ {n d₀ : List ℕ} {at₀ m : ℕ} {s : List ℕ} {c₀ : ℕ} {d : List ℕ} {at c e : ℕ} {u : Unit} {d' : List ℕ} {o : ℕ} (t : Itemizing n d₀ at₀ m s c₀ d at c) (i : Ends 44 m s c e)
    (w : Put d d' at o (item_xml n (rest m (take e s) c))) (p : Reads m s e u) where
  pub items_more : (u.u ≡ 256 → ⊥) → Itemizing n d₀ at₀ m s c₀ d' o u.next
  unfolding each_xml ◌⊕◌
  items_more h = record {
    todo = todo_step t.todo w (rw (pieces_more i p h));
    kept = put_length w ∙ t.kept;
    inside = (step_less i.inside p h).1;
  }

  pub items_end : u.u ≡ 256 → Put d₀ d' at₀ o (each_xml n (cut_at 44 (rest m s c₀)))
  unfolding each_xml ◌⊕◌
  items_end h = todo_done (todo_step {rest' = []} t.todo w (rw (pieces_last i p h))) refl

-- ---- the piece of a part

module _ {d e : List ℕ} {o q : ℕ} (n : List ℕ) (m : ℕ) (s : List ℕ) (b : Option ℕ) where
  pub put_missing : b ≡ None → Put d e o q [] → Put d e o q (or_nothing (piece_xml n) (piece_from m s b))
  put_missing h w = rw h w

  pub put_found : {c a : ℕ} → b ≡ Some c → Ends 59 m s c a → Put d e o q (piece_xml n (rest m (take a s) c)) → Put d e o q (or_nothing (piece_xml n) (piece_from m s b))
  put_found h i w = rw h (rw (piece_is i) at w)

-- a piece that is there begins within bounds
pub begins_inside : {m : ℕ} {s : List ℕ} {c : ℕ} {t : List (Option ℕ)} → Standing m s c t → (p : ℕ) → IfSome (get_or t p None) (λ b. b ≤ length s)
begins_inside {s = s} {t = t} i p = go (get_or t p None) (i.inside p)
  where
    go : (o : Option ℕ) → ((b : ℕ) → o ≡ Some b → b ≤ length s) → IfSome o (λ b. b ≤ length s)
    go None f = tt
    go (Some b) f = f b refl

pub begin_inside : (s : List ℕ) {b : Option ℕ} {c : ℕ} → IfSome b (λ c. c ≤ length s) → b ≡ Some c → c ≤ length s
begin_inside s k h = subst (λ (o : Option ℕ). IfSome o (λ c. c ≤ length s)) h k

-- ---- the parts in order

pub record Naming (ws : List (List ℕ)) (d₀ : List ℕ) (at₀ : ℕ) (d : List ℕ) (at p : ℕ) : Type 0 where
  pub todo : Todo d₀ at₀ (named_xml part_names ws) d at (named_xml (drop p part_names) ws)
  pub kept : length d ≡ length d₀

pub naming_start : (ws : List (List ℕ)) (d : List ℕ) (at : ℕ) → length d * 1 < 2 ^ 63 → Naming ws d at d at 0
naming_start ws d at z = record { todo = todo_all d at (named_xml part_names ws) z; kept = refl }

next_name : (ns ws : List (List ℕ)) (p : ℕ) → p < length ns → named_xml (drop p ns) ws ≡ or_nothing (piece_xml (get_or ns p [])) (row_of piece_name (get_or ns p []) ws) ⊕ named_xml (drop (p + 1) ns) ws
unfolding named_xml
next_name ns ws p h = rw (add-one, drop-cons ns p [] h)

module _ {ws : List (List ℕ)} {d₀ : List ℕ} {at₀ : ℕ} {d : List ℕ} {at p : ℕ} (t : Naming ws d₀ at₀ d at p) where
  pub naming_more : {e : List ℕ} {o : ℕ} → p < 14 → Put d e at o (or_nothing (piece_xml (get_or part_names p [])) (row_of piece_name (get_or part_names p []) ws)) → Naming ws d₀ at₀ e o (p + 1)
  unfolding ◌⊕◌
  naming_more h w = record { todo = todo_step t.todo w (next_name part_names ws p h); kept = put_length w ∙ t.kept }

  pub naming_end : 14 ≤ p → Put d₀ d at₀ at (named_xml part_names ws)
  unfolding named_xml
  naming_end h = todo_done t.todo (rw (drop_of_length-le part_names h))

-- the piece of a part where it stands
pub put_standing : {d e : List ℕ} {o q : ℕ} {m : ℕ} {s : List ℕ} {c : ℕ} {t : List (Option ℕ)} (p : ℕ) → Standing m s c t → p < 14 → Put d e o q (or_nothing (piece_xml (get_or part_names p [])) (piece_from m s (get_or t p None))) →
    Put d e o q (or_nothing (piece_xml (get_or part_names p [])) (row_of piece_name (get_or part_names p []) (cut_at 59 (rest m s c))))
put_standing p i h w = rw (i.is p h) w

-- ---- nothing

-- nothing is written where nothing was read
pub nothing_read : {A : Type 0} (w : A → List ℕ) {d e : List ℕ} {o q : ℕ} (u : Option A) → is_read u ≡ false → Put d e o q [] → Put d e o q (or_nothing w u)
unfolding is_read
nothing_read w None h p = p
nothing_read w (Some v) h p = absurd (false≢true (sym h))
