-- What is said of a word, by its place k in a list ws of the words that are known: a table that code goes by the number.
--     word_at        a word that is there is the word at its place
--     by_place       what a function says of a word is what stands in the table of what it says of each known word, and d of all others
--     unknown_word, unknown_list, unknown_row      of a word that is not known: it is none of the known words, in no list of them, in no table of rows that they name
use Rattle.std.specs.Prelude.{◌≡◌, Bool, None}
use Rattle.std.proofs.Math.Path.{refl, ap}
use Rattle.std.proofs.Common.{sym, ◌∙◌, arith}
use Rattle.std.proofs.Math.Bool.{true, false}
use Rattle.std.proofs.lemmas.Bool.{false≢true}
use mathlib.Core.List.{List, [], ◌∷◌, map}
use Prim.Native.Nat.{ℕ, suc, ◌≤◌, ◌<◌}
use Rattle.std.proofs.Math.ListN.{length, get_or}
use Rattle.octets.specs.Pick.{pick, ◌or◌}
use Rattle.octets.specs.laws.Pick.{and_both}
use Rattle.octets.specs.Lists.{every}
use Rattle.octets.specs.Words.{same, is_one_of, row_of}
use Rattle.octets.specs.laws.Words.{same_self, same_true}
use Rattle.names.specs.Table.{place_of}

-- ---- a word that is there

module _ (w : List ℕ) where
  pub word_at : (ws : List (List ℕ)) → place_of w ws < length ws → w ≡ get_or ws (place_of w ws) []
  unfolding place_of pick
  word_at [] h = absurd (omega arith)
  word_at (x ∷ ws) h = go (same w x) refl h (word_at ws)
    where
      go : (t : Bool) → same w x ≡ t → pick t 0 (suc (place_of w ws)) < suc (length ws) → (place_of w ws < length ws → w ≡ get_or ws (place_of w ws) []) →
          w ≡ get_or (x ∷ ws) (pick t 0 (suc (place_of w ws))) []
      go true e l ih = same_true w x e
      go false e l ih = ih (omega arith)

  -- what f says of w, where it says d of a word that is not known
  pub by_place : {A : Type 0} (f : List ℕ → A) (d : A) (ws : List (List ℕ)) → (length ws ≤ place_of w ws → f w ≡ d) → f w ≡ get_or (map f ws) (place_of w ws) d
  unfolding place_of pick
  by_place f d [] h = h (omega arith)
  by_place f d (x ∷ ws) h = go (same w x) refl h (by_place f d ws)
    where
      go : (t : Bool) → same w x ≡ t → (suc (length ws) ≤ pick t 0 (suc (place_of w ws)) → f w ≡ d) →
          ((length ws ≤ place_of w ws → f w ≡ d) → f w ≡ get_or (map f ws) (place_of w ws) d) →
          f w ≡ get_or (f x ∷ map f ws) (pick t 0 (suc (place_of w ws))) d
      go true e k ih = ap f (same_true w x e)
      go false e k ih = ih (λ l. k (omega arith))

-- ---- a word that is not there

pub unknown_word : (w : List ℕ) (ws : List (List ℕ)) (x : List ℕ) → length ws ≤ place_of w ws → is_one_of x ws ≡ true → same w x ≡ false
unfolding place_of is_one_of pick ◌or◌
unknown_word w [] x h e = absurd (false≢true e)
unknown_word w (y ∷ ws) x h e = go (same w y) (same x y) refl refl h e (unknown_word w ws x)
  where
    neither : (t : Bool) → same w x ≡ t → same w y ≡ false → same x y ≡ true → t ≡ false
    neither true p q r =
        let z : true ≡ false = sym (same_self y) ∙ rw (same_true w x p, same_true x y r) at q in
        absurd (false≢true (sym z))
    neither false p q r = refl

    go : (t u : Bool) → same w y ≡ t → same x y ≡ u → suc (length ws) ≤ pick t 0 (suc (place_of w ws)) → (u or is_one_of x ws) ≡ true →
        (length ws ≤ place_of w ws → is_one_of x ws ≡ true → same w x ≡ false) → same w x ≡ false
    go true u p q h e ih = absurd (omega arith)
    go false true p q h e ih = neither (same w x) refl p q
    go false false p q h e ih = ih (omega arith) e

module _ (w : List ℕ) (ws : List (List ℕ)) (h : length ws ≤ place_of w ws) where
  pub unknown_list : (l : List (List ℕ)) → every (λ x. is_one_of x ws) l ≡ true → is_one_of w l ≡ false
  unfolding is_one_of every ◌or◌
  unknown_list [] e = refl
  unknown_list (x ∷ l) e =
      let q = and_both (is_one_of x ws) (every (λ x. is_one_of x ws) l) e in
      rw (unknown_word w ws x h q.0) (unknown_list l q.1)

  pub unknown_row : {A : Type 0} (name : A → List ℕ) (rows : List A) → every (λ r. is_one_of (name r) ws) rows ≡ true → row_of name w rows ≡ None
  unfolding row_of every pick
  unknown_row name [] e = refl
  unknown_row name (r ∷ rows) e =
      let q = and_both (is_one_of (name r) ws) (every (λ r. is_one_of (name r) ws) rows) e in
      rw (unknown_word w ws (name r) h q.0) (unknown_row name rows q.1)
