-- A value that is written passes the check.
--     value_passes    a value that can be written, in front of what follows it
--     written_fine    a text that is such a value
use Rattle.std.specs.Prelude.{◌≡◌, ℕ, zero, suc, ◌+◌, ◌≤◌, ◌<◌, length, None}
use Rattle.std.proofs.Math.Path.{refl}
use Rattle.std.proofs.Common.{◌∙◌, arith, lt-ltb}
use Rattle.std.proofs.Math.Bool.{true}
use Rattle.std.proofs.lemmas.Bool.{false≢true}
use mathlib.Core.List.{List, [], ◌∷◌}
use Rattle.octets.specs.Ascii.{ascii}
use Rattle.octets.specs.Pick.{pick, ◌and◌, ◌or◌}
use Rattle.octets.specs.laws.Pick.{and_both, or_cases, eqb_apart}
use Rattle.octets.specs.Append.{◌⊕◌}
use Rattle.octets.specs.laws.Append.{append_cons, append_none}
use Rattle.octets.specs.Scan.{all_of}
use Rattle.octets.specs.laws.Scan.{all_split}
use Rattle.octets.specs.Words.{same, is_one_of}
use Rattle.octets.specs.laws.Words.{same_true}
use Rattle.json_text.specs.Check.{Container, array, object, check, followed, verdict}
use Rattle.json_text.specs.Tree.{Json, string, number, literal, Elements, no_elements, element, Members, no_members, member}
use Rattle.json_text.specs.Tree as tree
use Rattle.json_text.specs.Write.{quoted}
use Rattle.json_text.specs.Written.{written, is_text, is_number, literals, is_writable, are_writable, members_writable}
use Rattle.json_text.specs.laws.Fronts.{follows, first_elements, more_elements, first_members, more_members, array_front, first_none, first_some, more_none, more_some, more_follows, object_front, first_member_none, first_member, more_member_none, more_member, more_member_follows}
use Rattle.json_text.specs.laws.Text.{quoted_front}
use Rattle.json_text.specs.laws.Numbers.{is_number_byte, number_bytes, number_some}
use Rattle.json_text.specs.laws.ScalarsPass.{Passes, string_passes, name_passes, number_passes, literal_passes}
use Rattle.json_text.specs.declared.Expect.TheVariants.{Value, ValueOrEnd, Name, NameOrEnd, After}
use Rattle.json_text.specs.declared.State.{State}
use Rattle.json_text.specs.declared.State.TheVariants.{Expects}

-- ---- the first element: no value begins with a closing bracket

-- with s behind an opening bracket, and where a value must come
abbrev OrEnd : ℕ → ℕ → List Container → List ℕ → Type 0
OrEnd limit i cs s = check s limit i (Expects ValueOrEnd) cs ≡ check s limit i (Expects Value) cs

module _ (limit i : ℕ) (cs : List Container) where
  number_or_end : (s : List ℕ) → is_number s ≡ true → (r : List ℕ) → OrEnd limit i cs (s ⊕ r)
  unfolding check pick ◌and◌ ◌or◌
  number_or_end s h r = number_some (λ s. all_of is_number_byte s ≡ true → OrEnd limit i cs (s ⊕ r)) first s h (number_bytes s h)
    where
      first : (b : ℕ) (s : List ℕ) → all_of is_number_byte (b ∷ s) ≡ true → OrEnd limit i cs ((b ∷ s) ⊕ r)
      first b s h =
          let a = (all_split is_number_byte b s h).0 in
          rw (
            append_cons b s r,
            eqb_apart is_number_byte b 32 a refl,
            eqb_apart is_number_byte b 9 a refl,
            eqb_apart is_number_byte b 13 a refl,
            eqb_apart is_number_byte b 10 a refl,
            eqb_apart is_number_byte b 93 a refl,
          )

  literal_or_end : (s : List ℕ) → is_one_of s literals ≡ true → (r : List ℕ) → OrEnd limit i cs (s ⊕ r)
  unfolding is_one_of check pick ◌and◌ ◌or◌ ◌⊕◌
  literal_or_end s h r =
      or_cases (same s (ascii "true")) _ h (λ e. rw (same_true s _ e))
      (λ h. or_cases (same s (ascii "false")) _ h (λ e. rw (same_true s _ e))
      (λ h. or_cases (same s (ascii "null")) _ h (λ e. rw (same_true s _ e)) (λ h. absurd (false≢true h))))

  or_end : (v : Json) (d : ℕ) → is_writable v d ≡ true → (r : List ℕ) → OrEnd limit i cs (written v ⊕ r)
  unfolding written is_writable check pick ◌and◌ ◌or◌
  or_end (string p s) d h r = rw (quoted_front s r)
  or_end (number p s) d h r = number_or_end s h r
  or_end (literal p s) d h r = literal_or_end s h r
  or_end (tree.array p e vs) d h r = rw (array_front r p e vs)
  or_end (tree.object p e ms) d h r = rw (object_front r p e ms)

-- ---- arrays and objects

opens_array_lem : (limit i : ℕ) (cs : List Container) (s : List ℕ) → length cs < limit → check (91 ∷ s) limit i (Expects Value) cs ≡ check s limit (i + 1) (Expects ValueOrEnd) (array ∷ cs)
unfolding check followed pick ◌and◌ ◌or◌
opens_array_lem limit i cs s h = rw (lt-ltb (length cs) limit h)

opens_object_lem : (limit i : ℕ) (cs : List Container) (s : List ℕ) → length cs < limit → check (123 ∷ s) limit i (Expects Value) cs ≡ check s limit (i + 1) (Expects NameOrEnd) (object ∷ cs)
unfolding check followed pick ◌and◌ ◌or◌
opens_object_lem limit i cs s h = rw (lt-ltb (length cs) limit h)

-- a comma and a closing bracket, behind an element and behind a member; a closing bracket at once
marks : (limit i : ℕ) (cs : List Container) (s : List ℕ) →
    (check (44 ∷ s) limit i (Expects After) (array ∷ cs) ≡ check s limit (i + 1) (Expects Value) (array ∷ cs))
    × (check (93 ∷ s) limit i (Expects After) (array ∷ cs) ≡ check s limit (i + 1) (Expects After) cs)
    × (check (93 ∷ s) limit i (Expects ValueOrEnd) (array ∷ cs) ≡ check s limit (i + 1) (Expects After) cs)
    × (check (44 ∷ s) limit i (Expects After) (object ∷ cs) ≡ check s limit (i + 1) (Expects Name) (object ∷ cs))
    × (check (125 ∷ s) limit i (Expects After) (object ∷ cs) ≡ check s limit (i + 1) (Expects After) cs)
    × (check (125 ∷ s) limit i (Expects NameOrEnd) (object ∷ cs) ≡ check s limit (i + 1) (Expects After) cs)
unfolding check followed pick ◌and◌ ◌or◌
marks limit i cs s = (refl, refl, refl, refl, refl, refl)

-- a name may come at once too
name_or_end : (limit i : ℕ) (cs : List Container) (n r : List ℕ) → check (quoted n ⊕ r) limit i (Expects NameOrEnd) cs ≡ check (quoted n ⊕ r) limit i (Expects Name) cs
unfolding check pick ◌and◌ ◌or◌
name_or_end limit i cs n r = rw (quoted_front n r)

module _ (limit : ℕ) where
  mutual
    unfolding written is_writable are_writable members_writable

    pub value_passes : (v : Json) (d : ℕ) → is_writable v d ≡ true → (i : ℕ) (cs : List Container) → d + length cs ≤ limit → (r : List ℕ) → follows r ≡ true →
        Passes limit (written v ⊕ r) i (Expects Value) cs r (Expects After) cs
    value_passes (string p s) d h i cs l r f = string_passes limit s h i r cs
    value_passes (number p s) d h i cs l r f = number_passes limit s h i r f cs
    value_passes (literal p s) d h i cs l r f = literal_passes limit s h i r cs
    value_passes (tree.array p e vs) zero h i cs l r f = absurd (false≢true h)
    value_passes (tree.array p e vs) (suc d) h i cs l r f =
        let q = elements_pass vs d h (i + 1) cs (omega arith) r in
        (q.0, rw (array_front r p e vs) (opens_array_lem limit i cs (first_elements vs r) (omega arith) ∙ q.1))
    value_passes (tree.object p e ms) zero h i cs l r f = absurd (false≢true h)
    value_passes (tree.object p e ms) (suc d) h i cs l r f =
        let q = members_pass ms d h (i + 1) cs (omega arith) r in
        (q.0, rw (object_front r p e ms) (opens_object_lem limit i cs (first_members ms r) (omega arith) ∙ q.1))

    elements_pass : (vs : Elements) (d : ℕ) → are_writable vs d ≡ true → (i : ℕ) (cs : List Container) → d + suc (length cs) ≤ limit → (r : List ℕ) →
        Passes limit (first_elements vs r) i (Expects ValueOrEnd) (array ∷ cs) r (Expects After) cs
    elements_pass no_elements d h i cs l r = (i + 1, rw (first_none r) (marks limit i cs r).2)
    elements_pass (element v vs) d h i cs l r =
        let a = and_both (is_writable v d) _ h in
        let p = value_passes v d a.0 i (array ∷ cs) l (more_elements vs r) (more_follows r vs) in
        let q = more_pass vs d a.1 p.0 cs l r in
        (q.0, rw (first_some r v vs) (or_end limit i (array ∷ cs) v d a.0 (more_elements vs r) ∙ p.1 ∙ q.1))

    more_pass : (vs : Elements) (d : ℕ) → are_writable vs d ≡ true → (i : ℕ) (cs : List Container) → d + suc (length cs) ≤ limit → (r : List ℕ) →
        Passes limit (more_elements vs r) i (Expects After) (array ∷ cs) r (Expects After) cs
    more_pass no_elements d h i cs l r = (i + 1, rw (more_none r) (marks limit i cs r).1)
    more_pass (element v vs) d h i cs l r =
        let a = and_both (is_writable v d) _ h in
        let p = value_passes v d a.0 (i + 1) (array ∷ cs) l (more_elements vs r) (more_follows r vs) in
        let q = more_pass vs d a.1 p.0 cs l r in
        (q.0, rw (more_some r v vs) ((marks limit i cs (written v ⊕ more_elements vs r)).0 ∙ p.1 ∙ q.1))

    members_pass : (ms : Members) (d : ℕ) → members_writable ms d ≡ true → (i : ℕ) (cs : List Container) → d + suc (length cs) ≤ limit → (r : List ℕ) →
        Passes limit (first_members ms r) i (Expects NameOrEnd) (object ∷ cs) r (Expects After) cs
    members_pass no_members d h i cs l r = (i + 1, rw (first_member_none r) (marks limit i cs r).5)
    members_pass (member n v ms) d h i cs l r =
        let a = and_both (is_text n) _ h in
        let b = and_both (is_writable v d) _ a.1 in
        let k = name_passes limit n a.0 i (written v ⊕ more_members ms r) (object ∷ cs) in
        let p = value_passes v d b.0 k.0 (object ∷ cs) l (more_members ms r) (more_member_follows r ms) in
        let q = more_members_pass ms d b.1 p.0 cs l r in
        (q.0, rw (first_member r n v ms) (name_or_end limit i (object ∷ cs) n _ ∙ k.1 ∙ p.1 ∙ q.1))

    more_members_pass : (ms : Members) (d : ℕ) → members_writable ms d ≡ true → (i : ℕ) (cs : List Container) → d + suc (length cs) ≤ limit → (r : List ℕ) →
        Passes limit (more_members ms r) i (Expects After) (object ∷ cs) r (Expects After) cs
    more_members_pass no_members d h i cs l r = (i + 1, rw (more_member_none r) (marks limit i cs r).4)
    more_members_pass (member n v ms) d h i cs l r =
        let a = and_both (is_text n) _ h in
        let b = and_both (is_writable v d) _ a.1 in
        let k = name_passes limit n a.0 (i + 1) (written v ⊕ more_members ms r) (object ∷ cs) in
        let p = value_passes v d b.0 k.0 (object ∷ cs) l (more_members ms r) (more_member_follows r ms) in
        let q = more_members_pass ms d b.1 p.0 cs l r in
        (q.0, rw (more_member r n v ms) ((marks limit i cs (quoted n ⊕ (58 ∷ (written v ⊕ more_members ms r)))).3 ∙ k.1 ∙ p.1 ∙ q.1))

pub written_fine : (limit : ℕ) (v : Json) → is_writable v limit ≡ true → verdict limit (written v) ≡ None
unfolding follows check
written_fine limit v h =
    let p = value_passes limit v limit h 0 [] (omega arith) [] refl in
    (rw (append_none (written v)) at p).1
