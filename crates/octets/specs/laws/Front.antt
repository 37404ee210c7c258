-- Laws of what specs/Front.antt defines.
use Rattle.std.specs.Prelude.{◌≡◌, Bool, true, false, ℕ}
use Rattle.std.proofs.Math.Path.{refl}
use mathlib.Core.List.{List, [], ◌∷◌}
use Rattle.octets.specs.Pick.{pick}
use Rattle.octets.specs.Scan.{all_of}
use Rattle.octets.specs.laws.Scan.{all_split}
use Rattle.octets.specs.Append.{◌⊕◌}
use Rattle.octets.specs.Front.{up_to, from_on, past, begins_by}

-- ---- bytes of a class, q, of which none passes, and then a list whose first byte does

module _ (p q : ℕ → Bool) (apart : (x : ℕ) → q x ≡ true → p x ≡ false) where
  pub up_to_front : (a d : List ℕ) → all_of q a ≡ true → begins_by p d ≡ true → up_to p (a ⊕ d) ≡ a
  unfolding up_to begins_by all_of ◌⊕◌ pick
  up_to_front [] [] h k = refl
  up_to_front [] (x ∷ d) h k = rw k
  up_to_front (b ∷ a) d h k = let e = all_split q b a h in rw (apart b e.0, up_to_front a d e.1 k)

  pub from_on_front : (a d : List ℕ) → all_of q a ≡ true → begins_by p d ≡ true → from_on p (a ⊕ d) ≡ d
  unfolding from_on begins_by all_of ◌⊕◌ pick
  from_on_front [] [] h k = refl
  from_on_front [] (x ∷ d) h k = rw k
  from_on_front (b ∷ a) d h k = let e = all_split q b a h in rw (apart b e.0) (from_on_front a d e.1 k)

  pub past_front : (a d : List ℕ) (c : ℕ) → all_of q a ≡ true → p c ≡ true → past p (a ⊕ (c ∷ d)) ≡ d
  unfolding past all_of ◌⊕◌ pick
  past_front [] d c h k = rw k
  past_front (b ∷ a) d c h k = let e = all_split q b a h in rw (apart b e.0) (past_front a d c e.1 k)
