-- A value that is written is read back, whatever its places were.
--     value_scanned    its bytes, in front of what follows, give its tokens
--     written_back     the value of a text that is such a value
use Rattle.std.specs.Prelude.{◌≡◌, refl, true, List, [], ◌∷◌, ℕ, zero, suc, ◌+◌}
use Rattle.std.proofs.Common.{ap, ◌∙◌}
use Rattle.std.proofs.lemmas.Bool.{false≢true}
use Rattle.octets.specs.Pick.{pick, ◌or◌}
use Rattle.octets.specs.laws.Pick.{and_both}
use Rattle.octets.specs.Append.{◌⊕◌}
use Rattle.octets.specs.laws.Append.{append_none}
use Rattle.json_text.specs.Tree.{Json, string, number, literal, array, object, Elements, no_elements, element, Members, no_members, member, Token, opens_array, opens_object, closes, name, scalar, scan, end_by, end_place, first_of, elements_by, members_by, elements, members, value_of}
use Rattle.json_text.specs.Write.{quoted}
use Rattle.json_text.specs.Written.{written, bare, bare_elements, bare_members, is_text, is_writable, are_writable, members_writable}
use Rattle.json_text.specs.laws.Fronts.{follows, first_elements, more_elements, first_members, more_members, array_front, first_none, first_some, more_none, more_some, more_follows, object_front, first_member_none, first_member, more_member_none, more_member, more_member_follows}
use Rattle.json_text.specs.laws.TokensBack.{string_token_lem, name_token, number_token, literal_token}

-- the tokens of s, at the place i, are those of the value v and then those of r
pub record Scanned (v : Json) (s r : List ℕ) (i : ℕ) : Type 0 where
  pub to : ℕ
  pub is : Json
  pub same : bare is ≡ bare v
  pub els : elements (scan s i 0) 0 ≡ element is (elements (scan r to 0) 0)
  pub deep : (d : ℕ) → elements (scan s i 0) (suc d) ≡ elements (scan r to 0) (suc d)
  pub mems : (d : ℕ) → members (scan s i 0) d ≡ members (scan r to 0) d
  pub ends : (d : ℕ) → end_place (scan s i 0) d ≡ end_place (scan r to 0) d

-- they are those of the elements vs with the bracket that closes their array
record ScannedElements (vs : Elements) (s r : List ℕ) (i : ℕ) : Type 0 where
  to : ℕ
  is : Elements
  same : bare_elements is ≡ bare_elements vs
  els : elements (scan s i 0) 0 ≡ is
  deep : (d : ℕ) → elements (scan s i 0) (suc d) ≡ elements (scan r to 0) d
  mems : (d : ℕ) → members (scan s i 0) (suc d) ≡ members (scan r to 0) d
  ends : (d : ℕ) → end_place (scan s i 0) (suc d) ≡ end_place (scan r to 0) d

record ScannedMembers (ms : Members) (s r : List ℕ) (i : ℕ) : Type 0 where
  to : ℕ
  is : Members
  same : bare_members is ≡ bare_members ms
  mine : members (scan s i 0) 0 ≡ is
  deep : (d : ℕ) → elements (scan s i 0) (suc d) ≡ elements (scan r to 0) d
  mems : (d : ℕ) → members (scan s i 0) (suc d) ≡ members (scan r to 0) d
  ends : (d : ℕ) → end_place (scan s i 0) (suc d) ≡ end_place (scan r to 0) d

-- ---- one token

scalar_scanned : (v w : Json) (s r : List ℕ) (i j : ℕ) → bare w ≡ bare v → scan s i 0 ≡ scalar w ∷ scan r j 0 → Scanned v s r i
unfolding elements members end_place elements_by members_by end_by
scalar_scanned v w s r i j h e = record { to = j; is = w; same = h; els = rw e; deep = λ d. rw e; mems = λ d. rw e; ends = λ d. rw e }

opening : (s : List ℕ) (i : ℕ) → (scan (91 ∷ s) i 0 ≡ opens_array i ∷ scan s (i + 1) 0) × (scan (123 ∷ s) i 0 ≡ opens_object i ∷ scan s (i + 1) 0)
unfolding scan pick ◌or◌
opening s i = (refl, refl)

closing : (s : List ℕ) (i : ℕ) → (scan (93 ∷ s) i 0 ≡ closes i ∷ scan s (i + 1) 0) × (scan (125 ∷ s) i 0 ≡ closes i ∷ scan s (i + 1) 0)
unfolding scan pick ◌or◌
closing s i = (refl, refl)

comma : (s : List ℕ) (i : ℕ) → scan (44 ∷ s) i 0 ≡ scan s (i + 1) 0
unfolding scan pick ◌or◌
comma s i = refl

-- ---- arrays

array_scanned : (p e : ℕ) (vs : Elements) (s r : List ℕ) (i : ℕ) → ScannedElements vs s r (i + 1) → Scanned (array p e vs) (91 ∷ s) r i
unfolding elements members end_place elements_by members_by end_by bare
array_scanned p e vs s r i q = record {
  to = q.to;
  is = array i (end_place (scan s (i + 1) 0) 0) q.is;
  same = ap (λ (x : Elements). array 0 0 x) q.same;
  els = rw ((opening s i).0, q.els, q.deep 0);
  deep = λ d. rw (opening s i).0 (q.deep (suc d));
  mems = λ d. rw (opening s i).0 (q.mems d);
  ends = λ d. rw (opening s i).0 (q.ends d);
}

no_elements_lem : (r : List ℕ) (i : ℕ) → ScannedElements no_elements (93 ∷ r) r i
unfolding elements members end_place elements_by members_by end_by
no_elements_lem r i = record { to = i + 1; is = no_elements; same = refl; els = rw (closing r i).0; deep = λ d. rw (closing r i).0; mems = λ d. rw (closing r i).0; ends = λ d. rw (closing r i).0 }

one_more : (v : Json) (vs : Elements) (s t r : List ℕ) (i : ℕ) (p : Scanned v s t i) → ScannedElements vs t r p.to → ScannedElements (element v vs) s r i
unfolding bare_elements
one_more v vs s t r i p q = record {
  to = q.to;
  is = element p.is q.is;
  same = rw (p.same, q.same);
  els = p.els ∙ ap (λ (x : Elements). element p.is x) q.els;
  deep = λ d. p.deep d ∙ q.deep d;
  mems = λ d. p.mems (suc d) ∙ q.mems d;
  ends = λ d. p.ends (suc d) ∙ q.ends d;
}

past_comma : (vs : Elements) (s r : List ℕ) (i : ℕ) → ScannedElements vs s r (i + 1) → ScannedElements vs (44 ∷ s) r i
past_comma vs s r i q = record { to = q.to; is = q.is; same = q.same; els = rw (comma s i) q.els; deep = λ d. rw (comma s i) (q.deep d); mems = λ d. rw (comma s i) (q.mems d); ends = λ d. rw (comma s i) (q.ends d) }

-- ---- objects

object_scanned : (p e : ℕ) (ms : Members) (s r : List ℕ) (i : ℕ) → ScannedMembers ms s r (i + 1) → Scanned (object p e ms) (123 ∷ s) r i
unfolding elements members end_place elements_by members_by end_by bare
object_scanned p e ms s r i q = record {
  to = q.to;
  is = object i (end_place (scan s (i + 1) 0) 0) q.is;
  same = ap (λ (x : Members). object 0 0 x) q.same;
  els = rw ((opening s i).1, q.mine, q.deep 0);
  deep = λ d. rw (opening s i).1 (q.deep (suc d));
  mems = λ d. rw (opening s i).1 (q.mems d);
  ends = λ d. rw (opening s i).1 (q.ends d);
}

no_members_lem : (r : List ℕ) (i : ℕ) → ScannedMembers no_members (125 ∷ r) r i
unfolding elements members end_place elements_by members_by end_by
no_members_lem r i = record { to = i + 1; is = no_members; same = refl; mine = rw (closing r i).1; deep = λ d. rw (closing r i).1; mems = λ d. rw (closing r i).1; ends = λ d. rw (closing r i).1 }

one_member : (n : List ℕ) (v : Json) (ms : Members) (s t u r : List ℕ) (i j : ℕ) → scan s i 0 ≡ name i n ∷ scan t j 0 → (p : Scanned v t u j) → ScannedMembers ms u r p.to → ScannedMembers (member n v ms) s r i
unfolding elements members end_place elements_by members_by end_by bare_members
one_member n v ms s t u r i j e p q = record {
  to = q.to;
  is = member n p.is q.is;
  same = rw (p.same, q.same);
  mine = rw (e, p.els, p.mems 0, q.mine);
  deep = λ d. rw e (p.deep d ∙ q.deep d);
  mems = λ d. rw e (p.mems (suc d) ∙ q.mems d);
  ends = λ d. rw e (p.ends (suc d) ∙ q.ends d);
}

member_past_comma : (ms : Members) (s r : List ℕ) (i : ℕ) → ScannedMembers ms s r (i + 1) → ScannedMembers ms (44 ∷ s) r i
member_past_comma ms s r i q = record { to = q.to; is = q.is; same = q.same; mine = rw (comma s i) q.mine; deep = λ d. rw (comma s i) (q.deep d); mems = λ d. rw (comma s i) (q.mems d); ends = λ d. rw (comma s i) (q.ends d) }

-- ---- all values

mutual
  unfolding written is_writable are_writable members_writable bare

  pub value_scanned : (v : Json) (d : ℕ) → is_writable v d ≡ true → (r : List ℕ) → follows r ≡ true → (i : ℕ) → Scanned v (written v ⊕ r) r i
  value_scanned (string p s) d h r f i = let q = string_token_lem s r f i in scalar_scanned (string p s) (string i s) (quoted s ⊕ r) r i q.0 refl q.1
  value_scanned (number p s) d h r f i = let q = number_token s r h f i in scalar_scanned (number p s) (number i s) (s ⊕ r) r i q.0 refl q.1
  value_scanned (literal p s) d h r f i = let q = literal_token s r h f i in scalar_scanned (literal p s) (literal i s) (s ⊕ r) r i q.0 refl q.1
  value_scanned (array p e vs) zero h r f i = absurd (false≢true h)
  value_scanned (array p e vs) (suc d) h r f i = rw (array_front r p e vs) (array_scanned p e vs (first_elements vs r) r i (elements_scanned vs d h r (i + 1)))
  value_scanned (object p e ms) zero h r f i = absurd (false≢true h)
  value_scanned (object p e ms) (suc d) h r f i = rw (object_front r p e ms) (object_scanned p e ms (first_members ms r) r i (members_scanned ms d h r (i + 1)))

  elements_scanned : (vs : Elements) (d : ℕ) → are_writable vs d ≡ true → (r : List ℕ) (i : ℕ) → ScannedElements vs (first_elements vs r) r i
  elements_scanned no_elements d h r i = rw (first_none r) (no_elements_lem r i)
  elements_scanned (element v vs) d h r i =
      let a = and_both (is_writable v d) _ h in
      let p = value_scanned v d a.0 (more_elements vs r) (more_follows r vs) i in
      rw (first_some r v vs) (one_more v vs (written v ⊕ more_elements vs r) (more_elements vs r) r i p (more_scanned vs d a.1 r p.to))

  more_scanned : (vs : Elements) (d : ℕ) → are_writable vs d ≡ true → (r : List ℕ) (i : ℕ) → ScannedElements vs (more_elements vs r) r i
  more_scanned no_elements d h r i = rw (more_none r) (no_elements_lem r i)
  more_scanned (element v vs) d h r i =
      let a = and_both (is_writable v d) _ h in
      let p = value_scanned v d a.0 (more_elements vs r) (more_follows r vs) (i + 1) in
      rw (more_some r v vs)
      (past_comma (element v vs) (written v ⊕ more_elements vs r) r i
      (one_more v vs (written v ⊕ more_elements vs r) (more_elements vs r) r (i + 1) p (more_scanned vs d a.1 r p.to)))

  members_scanned : (ms : Members) (d : ℕ) → members_writable ms d ≡ true → (r : List ℕ) (i : ℕ) → ScannedMembers ms (first_members ms r) r i
  members_scanned no_members d h r i = rw (first_member_none r) (no_members_lem r i)
  members_scanned (member n v ms) d h r i =
      let b = and_both (is_writable v d) _ (and_both (is_text n) _ h).1 in
      let k = name_token n (written v ⊕ more_members ms r) i in
      let p = value_scanned v d b.0 (more_members ms r) (more_member_follows r ms) k.0 in
      rw (first_member r n v ms)
      (one_member n v ms (quoted n ⊕ (58 ∷ (written v ⊕ more_members ms r))) (written v ⊕ more_members ms r) (more_members ms r) r i k.0 k.1 p (more_members_scanned ms d b.1 r p.to))

  more_members_scanned : (ms : Members) (d : ℕ) → members_writable ms d ≡ true → (r : List ℕ) (i : ℕ) → ScannedMembers ms (more_members ms r) r i
  more_members_scanned no_members d h r i = rw (more_member_none r) (no_members_lem r i)
  more_members_scanned (member n v ms) d h r i =
      let b = and_both (is_writable v d) _ (and_both (is_text n) _ h).1 in
      let k = name_token n (written v ⊕ more_members ms r) (i + 1) in
      let p = value_scanned v d b.0 (more_members ms r) (more_member_follows r ms) k.0 in
      rw (more_member r n v ms)
      (member_past_comma (member n v ms) (quoted n ⊕ (58 ∷ (written v ⊕ more_members ms r))) r i
      (one_member n v ms (quoted n ⊕ (58 ∷ (written v ⊕ more_members ms r))) (written v ⊕ more_members ms r) (more_members ms r) r (i + 1) k.0 k.1 p (more_members_scanned ms d b.1 r p.to)))

pub written_back : (v : Json) (d : ℕ) → is_writable v d ≡ true → bare (value_of (written v)) ≡ bare v
unfolding value_of follows
written_back v d h =
    let p = value_scanned v d h [] refl 0 in
    ap (λ (x : Elements). bare (first_of x)) (rw (append_none (written v)) at p).els ∙ p.same
