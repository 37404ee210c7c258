-- Laws of what specs/Table.antt defines.
--     by_table         a lookup in a table whose names are known
--     place_within, one_of_place      the place of a word that is there
--     row_place, row_or, row_then     the row of that name is the row at the name's place
use Rattle.std.specs.Prelude.{◌≡◌, Bool, ℕ, suc, ◌≤◌, ltb, length, Option, None, Some}
use Rattle.std.proofs.Math.Path.{refl}
use Rattle.std.proofs.Common.{sym, ap, ◌∙◌, arith, lt-ltb, le-ltb, ltb-true, ltb-false}
use Rattle.std.proofs.Math.Bool.{true, false}
use mathlib.Core.List.{List, [], ◌∷◌, map}
use Rattle.std.proofs.Math.ListN.{get_or}
use Rattle.octets.specs.Pick.{pick, ◌or◌}
use Rattle.octets.specs.Words.{same, is_one_of, row_of}
use Rattle.octets.specs.Reading.{and_then, read_or}
use Rattle.names.specs.Table.{place_of, nth}

pub by_table : (w : List ℕ) {r : ℕ} {l ns : List (List ℕ)} → l ≡ ns → r ≡ place_of w l → r ≡ place_of w ns
by_table w {r} {l} {ns} e h = h ∙ ap (λ (x : List (List ℕ)). place_of w x) e

-- ---- the place of a word that is there

pub place_within : (w : List ℕ) (ws : List (List ℕ)) → place_of w ws ≤ length ws
unfolding place_of pick
place_within w [] = omega arith
place_within w (x ∷ ws) = go (same w x) (place_within w ws)
  where
    go : (t : Bool) → place_of w ws ≤ length ws → pick t 0 (suc (place_of w ws)) ≤ suc (length ws)
    go true h = omega arith
    go false h = omega arith

ltb_both : (a b : ℕ) (t : Bool) → ltb a b ≡ t → ltb a b ≡ ltb (suc a) (suc b)
ltb_both a b true e = e ∙ sym (lt-ltb (suc a) (suc b) (omega (arith, ltb-true a b e)))
ltb_both a b false e = e ∙ sym (le-ltb (suc a) (suc b) (omega (arith, ltb-false a b e)))

pub one_of_place : (w : List ℕ) (ws : List (List ℕ)) → is_one_of w ws ≡ ltb (place_of w ws) (length ws)
unfolding place_of is_one_of pick ◌or◌
one_of_place w [] = refl
one_of_place w (x ∷ ws) = go (same w x) (one_of_place w ws)
  where
    go : (t : Bool) → is_one_of w ws ≡ ltb (place_of w ws) (length ws) → (t or is_one_of w ws) ≡ ltb (pick t 0 (suc (place_of w ws))) (suc (length ws))
    go true h = sym (lt-ltb 0 (suc (length ws)) (omega arith))
    go false h = h ∙ ltb_both (place_of w ws) (length ws) (ltb (place_of w ws) (length ws)) refl

-- ---- the row of a table by its name's place

module _ {A : Type 0} (name : A → List ℕ) (w : List ℕ) where
  pub row_place : (rows : List A) → row_of name w rows ≡ nth rows (place_of w (map name rows))
  unfolding row_of nth place_of pick
  row_place [] = refl
  row_place (r ∷ rows) = go (same w (name r)) (row_place rows)
    where
      go : (t : Bool) → row_of name w rows ≡ nth rows (place_of w (map name rows)) →
          pick t (Some r) (row_of name w rows) ≡ nth (r ∷ rows) (pick t 0 (suc (place_of w (map name rows))))
      go true ih = refl
      go false ih = ih

  -- a field of the row, or of the row d where there is none, by a table of the fields
  pub row_or : {B : Type 0} (field : A → B) (d : A) (rows : List A) →
      field (read_or d (row_of name w rows)) ≡ get_or (map field rows) (place_of w (map name rows)) (field d)
  unfolding row_of place_of pick read_or
  row_or field d [] = refl
  row_or field d (r ∷ rows) = go (same w (name r)) (row_or field d rows)
    where
      go : (t : Bool) → field (read_or d (row_of name w rows)) ≡ get_or (map field rows) (place_of w (map name rows)) (field d) →
          field (read_or d (pick t (Some r) (row_of name w rows))) ≡ get_or (field r ∷ map field rows) (pick t 0 (suc (place_of w (map name rows)))) (field d)
      go true ih = refl
      go false ih = ih

  -- what is read from the row, by a list of what is read from each
  pub row_then : {B : Type 0} (read : A → Option B) (rows : List A) →
      and_then (row_of name w rows) read ≡ get_or (map read rows) (place_of w (map name rows)) None
  unfolding row_of place_of pick and_then
  row_then read [] = refl
  row_then read (r ∷ rows) = go (same w (name r)) (row_then read rows)
    where
      go : (t : Bool) → and_then (row_of name w rows) read ≡ get_or (map read rows) (place_of w (map name rows)) None →
          and_then (pick t (Some r) (row_of name w rows)) read ≡ get_or (read r ∷ map read rows) (pick t 0 (suc (place_of w (map name rows)))) None
      go true ih = refl
      go false ih = ih
