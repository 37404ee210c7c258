-- Pieces between commas, each written by a function, with commas between them.
--     Piecing        the invariant of the loop;   piecing_start, piecing_more, piecing_end: its laws
--     one_piece, more_pieces    one piece alone, or several
use Rattle.std.specs.Prelude.{◌≡◌, Bool, true, false, List, [], ◌∷◌, ◌++◌, map, ℕ, ◌*◌, ◌^◌, ◌<◌, eqb, length, take}
use Rattle.std.proofs.Math.Path.{refl}
use Rattle.std.proofs.Common.{sym, ap, ◌∙◌, append_assoc}
use Rattle.octets.specs.Ascii.{ascii}
use Rattle.octets.specs.Append.{◌⊕◌}
use Rattle.octets.specs.Pick.{pick}
use Rattle.octets.specs.Words.{onto, cut_at, each_after, joined_by}
use Rattle.sink.specs.Sink.{Put, Todo}
use Rattle.sink.specs.laws.Sink.{◌▷◌, put_length, todo_all, todo_step, todo_done}
use Rattle.source.specs.Source.{rest, Within, Reads}
use Rattle.source.specs.declared.points.Unit.{Unit}
use Rattle.recur.specs.Pieces.{Ends}
use Rattle.recur.specs.laws.PieceLaws.{pieces_last, pieces_more, step_less}
use Rattle.json_text.specs.Bytes.{value_separator}
use Rattle.json_text.specs.Write.{array_of}
use Rattle.jcal.specs.WriteJcal.{one_or_array}

-- there is at least one
record Filled (l : List (List ℕ)) : Type 0 where
  first : List ℕ
  others : List (List ℕ)
  is : l ≡ first ∷ others

onto_filled : (b : ℕ) (l : List (List ℕ)) → Filled (onto b l)
unfolding onto
onto_filled b [] = record { first = b ∷ []; others = []; is = refl }
onto_filled b (p ∷ ps) = record { first = b ∷ p; others = ps; is = refl }

cut_filled : (l : List ℕ) → Filled (cut_at 44 l)
unfolding cut_at pick
cut_filled [] = record { first = []; others = []; is = refl }
cut_filled (b ∷ s) = go (eqb b 44)
  where
    go : (t : Bool) → Filled (pick t ([] ∷ cut_at 44 s) (onto b (cut_at 44 s)))
    go true = record { first = []; others = cut_at 44 s; is = refl }
    go false = onto_filled b (cut_at 44 s)

seam : (x l : List ℕ) → x ⊕ (44 ∷ l) ≡ (x ⊕ ascii ",") ++ l
unfolding ◌⊕◌
seam x l = sym (append_assoc x (44 ∷ []) l)

joined_more : (x y : List ℕ) (l : List (List ℕ)) → joined_by value_separator (x ∷ y ∷ l) ≡ (x ⊕ ascii ",") ++ joined_by value_separator (y ∷ l)
unfolding joined_by each_after
joined_more x y l = seam x (y ⊕ each_after value_separator l)

module _ (f : List ℕ → List ℕ) where
  abbrev pub from_piece : ℕ → List ℕ → ℕ → List ℕ
  from_piece m s c = joined_by value_separator (map f (cut_at 44 (rest m s c)))

  more_is : (x l : List ℕ) → joined_by value_separator (map f (x ∷ cut_at 44 l)) ≡ (f x ⊕ ascii ",") ++ joined_by value_separator (map f (cut_at 44 l))
  more_is x l = let c = cut_filled l in rw c.is (joined_more (f x) (f c.first) (map f c.others))

  last_is : (x : List ℕ) → joined_by value_separator (map f (x ∷ [])) ≡ f x ++ []
  unfolding joined_by each_after ◌⊕◌
  last_is x = refl

  pub record Piecing (d₀ : List ℕ) (at₀ m : ℕ) (s : List ℕ) (c₀ : ℕ) (d : List ℕ) (at c : ℕ) : Type 0 where
    pub todo : Todo d₀ at₀ (from_piece m s c₀) d at (from_piece m s c)
    pub inside : Within m s c
    pub kept : length d ≡ length d₀

  pub piecing_start : (d : List ℕ) (at m : ℕ) (s : List ℕ) (c : ℕ) → length d * 1 < 2 ^ 63 → Within m s c → Piecing d at m s c d at c
  piecing_start d at m s c z h = record { todo = todo_all d at (from_piece m s c) z; inside = h; kept = refl }

  module _ {d₀ : List ℕ} {at₀ m : ℕ} {s : List ℕ} {c₀ : ℕ} {d : List ℕ} {at c e : ℕ} {n : Unit} {d' : List ℕ} {a : ℕ} (i : Piecing d₀ at₀ m s c₀ d at c) (p : Ends 44 m s c e)
      (w : Put d d' at a (f (rest m (take e s) c))) (q : Reads m s e n) where
    pub piecing_more : {d'' : List ℕ} {o : ℕ} → (n.u ≡ 256 → ⊥) → Put d' d'' a o (ascii ",") → Piecing d₀ at₀ m s c₀ d'' o n.next
    piecing_more h x = record {
      todo = todo_step i.todo (w ▷ x) (ap (λ (l : List (List ℕ)). joined_by value_separator (map f l)) (pieces_more p q h) ∙ more_is (rest m (take e s) c) (rest m s n.next));
      inside = (step_less p.inside q h).1;
      kept = put_length (w ▷ x) ∙ i.kept;
    }

    pub piecing_end : n.u ≡ 256 → Put d₀ d' at₀ a (from_piece m s c₀)
    piecing_end h = todo_done (todo_step i.todo w (ap (λ (l : List (List ℕ)). joined_by value_separator (map f l)) (pieces_last p q h) ∙ last_is (rest m (take e s) c))) refl

  -- ---- one piece alone, or several

  module _ {d e : List ℕ} {o r : ℕ} {m : ℕ} {s : List ℕ} {c a : ℕ} {n : Unit} (p : Ends 44 m s c a) (q : Reads m s a n) where
    pub one_piece : n.u ≡ 256 → Put d e o r (f (rest m (take a s) c)) → Put d e o r (one_or_array (map f (cut_at 44 (rest m s c))))
    one_piece h w = rw (pieces_last p q h) w

    pub more_pieces : (n.u ≡ 256 → ⊥) → Put d e o r (array_of (map f (cut_at 44 (rest m s c)))) → Put d e o r (one_or_array (map f (cut_at 44 (rest m s c))))
    more_pieces h w = let k = cut_filled (rest m s n.next) in rw (pieces_more p q h, k.is) (rw (pieces_more p q h, k.is) at w)
