-- Pieces with a separator between them, written in a loop.
--     following      the pieces that are left, where some were written, or none
--     following_none, following_first, following_more
use Rattle.std.specs.Prelude.{◌≡◌, refl, Bool, true, false, List, [], ◌∷◌, ℕ}
use Rattle.octets.specs.Pick.{pick}
use Rattle.octets.specs.Append.{◌⊕◌}
use Rattle.octets.specs.Words.{each_after, joined_by}

unfoldable pub following : Bool → ℕ → List (List ℕ) → List ℕ
following started c ps = pick started (each_after c ps) (joined_by c ps)

pub following_first : (c : ℕ) (ps : List (List ℕ)) → following false c ps ≡ joined_by c ps
unfolding following pick
following_first c ps = refl

pub following_none : (b : Bool) (c : ℕ) → following b c [] ≡ []
unfolding following pick each_after joined_by
following_none true c = refl
following_none false c = refl

pub following_more : (b : Bool) (c : ℕ) (p : List ℕ) (ps : List (List ℕ)) → following b c (p ∷ ps) ≡ (pick b (c ∷ []) [] ⊕ p) ⊕ following true c ps
unfolding following pick each_after joined_by ◌⊕◌
following_more true c p ps = refl
following_more false c p ps = refl
