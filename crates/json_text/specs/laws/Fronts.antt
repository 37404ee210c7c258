-- Arrays and objects that are written, in front of what follows them.
--     follows                        what follows a value that is written: nothing, a comma, a closing bracket
--     first_elements, more_elements  the elements behind an opening bracket, and behind an element, with the closing bracket and what follows it
--     first_members, more_members    the members of an object likewise
use Rattle.std.specs.Prelude.{◌≡◌, Bool, true, ℕ, eqb}
use Rattle.std.proofs.Math.Path.{refl, ap}
use mathlib.Core.List.{List, [], ◌∷◌, append_assoc}
use Rattle.std.proofs.Common.{eqb-true}
use Rattle.octets.specs.Pick.{◌or◌}
use Rattle.octets.specs.laws.Pick.{or_cases}
use Rattle.octets.specs.Append.{◌⊕◌}
use Rattle.octets.specs.laws.Append.{append_cons, append_regroup}
use Rattle.octets.specs.Words.{each_after, joined_by}
use Rattle.json_text.specs.Tree.{Json, array, object, Elements, no_elements, element, Members, no_members, member}
use Rattle.json_text.specs.Write.{quoted, member_of}
use Rattle.json_text.specs.Written.{written, written_elements, written_members}

unfoldable pub follows : List ℕ → Bool
follows [] = true
follows (b ∷ s) = eqb b 44 or eqb b 93 or eqb b 125

pub follows_case : (P : List ℕ → Type 0) → P [] → ((s : List ℕ) → P (44 ∷ s)) → ((s : List ℕ) → P (93 ∷ s)) → ((s : List ℕ) → P (125 ∷ s)) → (r : List ℕ) → follows r ≡ true → P r
unfolding follows
follows_case P n a b c [] h = n
follows_case P n a b c (x ∷ s) h =
    or_cases (eqb x 44) _ h (λ e. rw (eqb-true x 44 e) (a s))
    (λ h. or_cases (eqb x 93) _ h (λ e. rw (eqb-true x 93 e) (b s)) (λ e. rw (eqb-true x 125 e) (c s)))

-- ---- arrays

unfoldable pub first_elements : Elements → List ℕ → List ℕ
first_elements vs r = joined_by 44 (written_elements vs) ⊕ (93 ∷ r)

unfoldable pub more_elements : Elements → List ℕ → List ℕ
more_elements vs r = each_after 44 (written_elements vs) ⊕ (93 ∷ r)

module _ (r : List ℕ) where
  pub array_front : (p e : ℕ) (vs : Elements) → written (array p e vs) ⊕ r ≡ 91 ∷ first_elements vs r
  unfolding written first_elements ◌⊕◌
  array_front p e vs = ap (λ (l : List ℕ). 91 ∷ l) (append_assoc (joined_by 44 (written_elements vs)) (93 ∷ []) r)

  pub first_none : first_elements no_elements r ≡ 93 ∷ r
  unfolding first_elements written written_elements joined_by ◌⊕◌
  first_none = refl

  pub first_some : (v : Json) (vs : Elements) → first_elements (element v vs) r ≡ written v ⊕ more_elements vs r
  unfolding first_elements more_elements written_elements joined_by
  first_some v vs = append_regroup (written v) (each_after 44 (written_elements vs)) (93 ∷ r)

  pub more_none : more_elements no_elements r ≡ 93 ∷ r
  unfolding more_elements written_elements each_after ◌⊕◌
  more_none = refl

  pub more_some : (v : Json) (vs : Elements) → more_elements (element v vs) r ≡ 44 ∷ (written v ⊕ more_elements vs r)
  unfolding more_elements written_elements each_after
  more_some v vs = rw (append_cons 44 (written v ⊕ each_after 44 (written_elements vs)) (93 ∷ r), append_regroup (written v) (each_after 44 (written_elements vs)) (93 ∷ r))

  pub more_follows : (vs : Elements) → follows (more_elements vs r) ≡ true
  unfolding follows ◌or◌
  more_follows no_elements = rw more_none
  more_follows (element v vs) = rw (more_some v vs)

-- ---- objects

unfoldable pub first_members : Members → List ℕ → List ℕ
first_members ms r = joined_by 44 (written_members ms) ⊕ (125 ∷ r)

unfoldable pub more_members : Members → List ℕ → List ℕ
more_members ms r = each_after 44 (written_members ms) ⊕ (125 ∷ r)

member_front : (n w r : List ℕ) → member_of n w ⊕ r ≡ quoted n ⊕ (58 ∷ (w ⊕ r))
unfolding ◌⊕◌
member_front n w r = append_assoc (quoted n) (58 ∷ w) r

module _ (r : List ℕ) where
  pub object_front : (p e : ℕ) (ms : Members) → written (object p e ms) ⊕ r ≡ 123 ∷ first_members ms r
  unfolding written first_members ◌⊕◌
  object_front p e ms = ap (λ (l : List ℕ). 123 ∷ l) (append_assoc (joined_by 44 (written_members ms)) (125 ∷ []) r)

  pub first_member_none : first_members no_members r ≡ 125 ∷ r
  unfolding first_members written_members joined_by ◌⊕◌
  first_member_none = refl

  pub first_member : (n : List ℕ) (v : Json) (ms : Members) → first_members (member n v ms) r ≡ quoted n ⊕ (58 ∷ (written v ⊕ more_members ms r))
  unfolding first_members more_members written_members joined_by
  first_member n v ms = rw (append_regroup (member_of n (written v)) (each_after 44 (written_members ms)) (125 ∷ r)) (member_front n (written v) _)

  pub more_member_none : more_members no_members r ≡ 125 ∷ r
  unfolding more_members written_members each_after ◌⊕◌
  more_member_none = refl

  pub more_member : (n : List ℕ) (v : Json) (ms : Members) → more_members (member n v ms) r ≡ 44 ∷ (quoted n ⊕ (58 ∷ (written v ⊕ more_members ms r)))
  unfolding more_members written_members each_after
  more_member n v ms =
      rw (append_cons 44 (member_of n (written v) ⊕ each_after 44 (written_members ms)) (125 ∷ r), append_regroup (member_of n (written v)) (each_after 44 (written_members ms)) (125 ∷ r))
      (ap (λ (l : List ℕ). 44 ∷ l) (member_front n (written v) _))

  pub more_member_follows : (ms : Members) → follows (more_members ms r) ≡ true
  unfolding follows ◌or◌
  more_member_follows no_members = rw more_member_none
  more_member_follows (member n v ms) = rw (more_member n v ms)
