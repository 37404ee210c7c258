-- The size of a JSON value: of a string its characters and a quotation mark, of a number or a literal its bytes, of an array or an object what is in it and a bracket.
--     literal_size                    of a literal's name
--     size, sizes, member_sizes       of a value, of elements, of members;   size_some: one at least
--     total, member_total             of lists of them
--     as_string_lem .. as_object_lem  the size of a value of a kind;   array_size: of any value, by its elements;   alone_size
--     split_size                      the first three elements, and the others
--     each_weight                     each of a list read, and written with a separator
use Rattle.std.specs.Prelude.{◌≡◌, refl, ℕ, suc, ◌+◌, ◌*◌, ◌≤◌, length, drop, Option, None, Some}
use mathlib.Core.List.{List, [], ◌∷◌, map}
use native.Mathlib.Omega.{arith}
use Rattle.octets.specs.Pick.{pick}
use Rattle.octets.specs.laws.Pick.{pick_either}
use Rattle.octets.specs.Class.{is_small}
use Rattle.octets.specs.Reading.{read_or, cons_read, read_each}
use Rattle.octets.specs.laws.Reading.{none-some, and_then-some, cons_read-some}
use Rattle.json_text.specs.Tree.{Json, string, number, literal, array, object, Elements, no_elements, element, Members, no_members, member, Member, element_list, member_list}
use Rattle.json_text.specs.Kinds.{as_string, as_number, as_literal, as_array, as_object, or_alone, nth}
use Rattle.lengths_xml.specs.laws.Pieces.{weight}
use Rattle.lengths_text.specs.laws.Bytes.{name_bytes, name_some}

-- of a literal, which begins with a small letter; six where it does not, as none does
unfoldable pub literal_size : List ℕ → ℕ
literal_size [] = 1
literal_size (b ∷ s) = pick (is_small b) (suc (length s)) 6

pub literal_some : (s : List ℕ) → 1 ≤ literal_size s
unfolding literal_size
literal_some [] = omega arith
literal_some (b ∷ s) = pick_either (λ (n : ℕ). 1 ≤ n) (is_small b) (suc (length s)) 6 (omega arith) (omega arith)

unfoldable mutual
  pub size : Json → ℕ
  size (string p s) = suc (length s)
  size (number p s) = name_bytes s
  size (literal p s) = literal_size s
  size (array p e vs) = suc (sizes vs)
  size (object p e ms) = suc (member_sizes ms)

  pub sizes : Elements → ℕ
  sizes no_elements = 0
  sizes (element v vs) = size v + sizes vs

  pub member_sizes : Members → ℕ
  member_sizes no_members = 0
  member_sizes (member n v ms) = suc (length n) + size v + member_sizes ms

pub size_some : (v : Json) → 1 ≤ size v
unfolding size
size_some (string p s) = omega arith
size_some (number p s) = name_some s
size_some (literal p s) = literal_some s
size_some (array p e vs) = omega arith
size_some (object p e ms) = omega arith

-- ---- lists

unfoldable pub total : List Json → ℕ
total [] = 0
total (v ∷ vs) = size v + total vs

unfoldable pub member_total : List Member → ℕ
member_total [] = 0
member_total (m ∷ ms) = suc (length m.name) + size m.value + member_total ms

pub elements_total : (vs : Elements) → total (element_list vs) ≡ sizes vs
unfolding total element_list sizes
elements_total no_elements = refl
elements_total (element v vs) = omega (arith, elements_total vs)

pub members_total : (ms : Members) → member_total (member_list ms) ≡ member_sizes ms
unfolding member_total member_list member_sizes
members_total no_members = refl
members_total (member n v ms) = omega (arith, members_total ms)

-- ---- by kind

pub as_string_lem : (v : Json) (s : List ℕ) → as_string v ≡ Some s → size v ≡ suc (length s)
unfolding size
as_string_lem (string p t) s h = let q : t ≡ s = cc in rw q
as_string_lem (number p t) s h = none-some h
as_string_lem (literal p t) s h = none-some h
as_string_lem (array p e vs) s h = none-some h
as_string_lem (object p e ms) s h = none-some h

pub as_number_lem : (v : Json) (s : List ℕ) → as_number v ≡ Some s → size v ≡ name_bytes s
unfolding size
as_number_lem (string p t) s h = none-some h
as_number_lem (number p t) s h = let q : t ≡ s = cc in rw q
as_number_lem (literal p t) s h = none-some h
as_number_lem (array p e vs) s h = none-some h
as_number_lem (object p e ms) s h = none-some h

pub as_literal_lem : (v : Json) (s : List ℕ) → as_literal v ≡ Some s → size v ≡ literal_size s
unfolding size
as_literal_lem (string p t) s h = none-some h
as_literal_lem (number p t) s h = none-some h
as_literal_lem (literal p t) s h = let q : t ≡ s = cc in rw q
as_literal_lem (array p e vs) s h = none-some h
as_literal_lem (object p e ms) s h = none-some h

pub as_array_lem : (v : Json) (l : List Json) → as_array v ≡ Some l → size v ≡ suc (total l)
unfolding size
as_array_lem (string p t) l h = none-some h
as_array_lem (number p t) l h = none-some h
as_array_lem (literal p t) l h = none-some h
as_array_lem (array p e vs) l h = let q : element_list vs ≡ l = cc in rw (← q) (omega (arith, elements_total vs))
as_array_lem (object p e ms) l h = none-some h

pub as_object_lem : (v : Json) (l : List Member) → as_object v ≡ Some l → size v ≡ suc (member_total l)
unfolding size
as_object_lem (string p t) l h = none-some h
as_object_lem (number p t) l h = none-some h
as_object_lem (literal p t) l h = none-some h
as_object_lem (array p e vs) l h = none-some h
as_object_lem (object p e ms) l h = let q : member_list ms ≡ l = cc in rw (← q) (omega (arith, members_total ms))

-- no elements where it is no array
pub array_size : (v : Json) → suc (total (read_or [] (as_array v))) ≤ size v
unfolding read_or
array_size v = go (as_array v) refl
  where
    go : (o : Option (List Json)) → as_array v ≡ o → suc (total (read_or [] o)) ≤ size v
    go None e = unfold total in size_some v
    go (Some l) e = omega (arith, as_array_lem v l e)

pub alone_size : (v : Json) → total (or_alone v) ≤ size v
unfolding read_or
alone_size v = go (as_array v) refl
  where
    go : (o : Option (List Json)) → as_array v ≡ o → total (read_or (v ∷ []) o) ≤ size v
    go None e = unfold total in omega arith
    go (Some l) e = omega (arith, as_array_lem v l e)

-- ---- by places

unfoldable pub size_in : Option Json → ℕ
size_in None = 0
size_in (Some v) = size v

pub split_size : (l : List Json) → size_in (nth 0 l) + size_in (nth 1 l) + size_in (nth 2 l) + total (drop 3 l) ≡ total l
unfolding total size_in
split_size [] = refl
split_size (a ∷ []) = omega arith
split_size (a ∷ b ∷ []) = omega arith
split_size (a ∷ b ∷ c ∷ l) = omega arith

-- ---- each of a list

unfoldable pub costs : {A : Type 0} → (A → ℕ) → List A → ℕ
costs f [] = 0
costs f (a ∷ l) = f a + costs f l

pub total-costs : (l : List Json) → costs size l ≡ total l
unfolding costs total
total-costs [] = refl
total-costs (v ∷ l) = omega (arith, total-costs l)

abbrev pub member_size : Member → ℕ
member_size m = suc (length m.name) + size m.value

pub member_costs : (l : List Member) → costs member_size l ≡ member_total l
unfolding costs member_total
member_costs [] = refl
member_costs (m ∷ l) = omega (arith, member_costs l)

module _ {A B : Type 0} (cost : A → ℕ) (reading : A → Option B) (writing : B → List ℕ) (brief : (a : A) (b : B) → reading a ≡ Some b → length (writing b) + 1 ≤ 4 * cost a) where
  pub each_weight : (l : List A) (r : List B) → read_each reading l ≡ Some r → weight (map writing r) ≤ 4 * costs cost l
  unfolding read_each weight costs
  each_weight [] r h = let q : [] ≡ r = cc in rw (← q) (omega arith)
  each_weight (a ∷ l) r h =
      let e = and_then-some (reading a) (λ b. cons_read b (read_each reading l)) r h in
      let f = cons_read-some e.0 (read_each reading l) r e.2 in
      rw (← f.2) (omega (arith, brief a e.0 e.1, each_weight l f.0 f.1))
