-- Laws of what specs/Append.antt defines.
use Rattle.std.specs.Prelude.{◌≡◌, ◌+◌, length}
use Rattle.std.proofs.Math.Path.{refl}
use mathlib.Core.List.{List, [], ◌∷◌, ◌++◌, append_assoc, append-nil}
use Rattle.std.proofs.Math.ListN.{length-append}
use Rattle.octets.specs.Append.{◌⊕◌}

module _ {A : Type 0} where
  pub append_is : (a b : List A) → a ⊕ b ≡ a ++ b
  unfolding ◌⊕◌
  append_is a b = refl

  pub append_empty : (b : List A) → [] ⊕ b ≡ b
  unfolding ◌⊕◌
  append_empty b = refl

  pub append_cons : (x : A) (a b : List A) → (x ∷ a) ⊕ b ≡ x ∷ (a ⊕ b)
  unfolding ◌⊕◌
  append_cons x a b = refl

  pub append_none : (a : List A) → a ⊕ [] ≡ a
  unfolding ◌⊕◌
  append_none a = append-nil a

  pub append_regroup : (a b c : List A) → (a ⊕ b) ⊕ c ≡ a ⊕ (b ⊕ c)
  unfolding ◌⊕◌
  append_regroup a b c = append_assoc a b c

  pub length_both : (a b : List A) → length (a ⊕ b) ≡ length a + length b
  unfolding ◌⊕◌
  length_both a b = length-append a b
