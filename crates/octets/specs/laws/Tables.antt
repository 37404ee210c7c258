-- Laws of tables, lists of rows with names: what is found has its name, and passes what every row passes.
--     row_named, row_passes, row_none       of `row_of`: the row that is found
--     row_known_passes, row_any_passes      of the row of a name that is there, or of any name, with a default
use Rattle.std.specs.Prelude.{◌≡◌, Bool, ℕ, None, Some}
use Rattle.std.proofs.Math.Path.{refl, sym, ap}
use Rattle.std.proofs.Common.{◌∙◌}
use Rattle.std.proofs.Math.Bool.{true, false}
use Rattle.std.proofs.lemmas.Bool.{false≢true}
use mathlib.Core.List.{List, [], ◌∷◌, map}
use Rattle.octets.specs.Pick.{pick, ◌or◌}
use Rattle.octets.specs.laws.Pick.{and_both}
use Rattle.octets.specs.Words.{same, is_one_of, row_of}
use Rattle.octets.specs.laws.Words.{same_true}
use Rattle.octets.specs.Lists.{every}
use Rattle.octets.specs.Reading.{read_or}
use Rattle.octets.specs.laws.Reading.{none-some}

module _ {A : Type 0} (name : A → List ℕ) (w : List ℕ) where
  pub row_named : (rs : List A) (r : A) → row_of name w rs ≡ Some r → name r ≡ w
  unfolding row_of pick
  row_named [] r h = none-some h
  row_named (x ∷ rs) r h = go (same w (name x)) refl h (row_named rs r)
    where
      go : (t : Bool) → same w (name x) ≡ t → pick t (Some x) (row_of name w rs) ≡ Some r → (row_of name w rs ≡ Some r → name r ≡ w) → name r ≡ w
      go true e k ih = let q : x ≡ r = cc in ap name (sym q) ∙ sym (same_true w (name x) e)
      go false e k ih = ih k

  pub row_passes : (p : A → Bool) (rs : List A) (r : A) → every p rs ≡ true → row_of name w rs ≡ Some r → p r ≡ true
  unfolding row_of pick every
  row_passes p [] r a h = none-some h
  row_passes p (x ∷ rs) r a h = go (same w (name x)) h (row_passes p rs r (and_both _ _ a).1)
    where
      go : (t : Bool) → pick t (Some x) (row_of name w rs) ≡ Some r → (row_of name w rs ≡ Some r → p r ≡ true) → p r ≡ true
      go true k ih = let q : x ≡ r = cc in ap p (sym q) ∙ (and_both _ _ a).0
      go false k ih = ih k

  -- a name of no row
  pub row_none : (rs : List A) → is_one_of w (map name rs) ≡ false → row_of name w rs ≡ None
  unfolding row_of pick is_one_of ◌or◌
  row_none [] h = refl
  row_none (x ∷ rs) h = go (same w (name x)) h (row_none rs)
    where
      go : (t : Bool) → (t or is_one_of w (map name rs)) ≡ false → (is_one_of w (map name rs) ≡ false → row_of name w rs ≡ None) → pick t (Some x) (row_of name w rs) ≡ None
      go true k ih = absurd (false≢true (sym k))
      go false k ih = ih k

  -- the row of a name that is there; the row of any name, or the default
  pub row_known_passes : (p : A → Bool) (d : A) (rs : List A) → every p rs ≡ true → is_one_of w (map name rs) ≡ true → p (read_or d (row_of name w rs)) ≡ true
  unfolding row_of pick every is_one_of ◌or◌ read_or
  row_known_passes p d [] a h = absurd (false≢true h)
  row_known_passes p d (x ∷ rs) a h = go (same w (name x)) h (row_known_passes p d rs (and_both _ _ a).1)
    where
      go : (t : Bool) → (t or is_one_of w (map name rs)) ≡ true → (is_one_of w (map name rs) ≡ true → p (read_or d (row_of name w rs)) ≡ true) →
          p (read_or d (pick t (Some x) (row_of name w rs))) ≡ true
      go true k ih = (and_both _ _ a).0
      go false k ih = ih k

  pub row_any_passes : (p : A → Bool) (d : A) (rs : List A) → every p rs ≡ true → p d ≡ true → p (read_or d (row_of name w rs)) ≡ true
  unfolding row_of pick every read_or
  row_any_passes p d [] a h = h
  row_any_passes p d (x ∷ rs) a h = go (same w (name x)) (row_any_passes p d rs (and_both _ _ a).1 h)
    where
      go : (t : Bool) → p (read_or d (row_of name w rs)) ≡ true → p (read_or d (pick t (Some x) (row_of name w rs))) ≡ true
      go true ih = (and_both _ _ a).0
      go false ih = ih
