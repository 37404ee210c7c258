-- Laws of what specs/Walks.antt defines.
--     own_begin ..      by the entry at hand
--     own_place         of a component's name only its number matters
--     component_parts   the array of a component: what stands before its subcomponents, these, and two brackets
use Rattle.std.specs.Prelude.{◌≡◌, true, List, [], ◌∷◌, map, ℕ, ◌-◌, ◌≤◌}
use Rattle.std.proofs.Math.Path.{refl, ap}
use Rattle.std.proofs.Common.{◌∙◌, lt-ltb}
use Rattle.std.proofs.lemmas.Bool.{false≢true}
use Rattle.octets.specs.Ascii.{ascii}
use Rattle.octets.specs.Pick.{pick}
use Rattle.octets.specs.Append.{◌⊕◌}
use Rattle.octets.specs.laws.Append.{append_none, append_regroup}
use Rattle.octets.specs.Class.{lower}
use Rattle.octets.specs.Words.{each_after, joined_by}
use Rattle.names.specs.Table.{place_of}
use Rattle.schema.specs.Components.{component_names}
use Rattle.schema.specs.Numbers.{component_name}
use Rattle.calendar.specs.Calendar.{Components, no_more, component}
use Rattle.calendar.specs.Levels.{shallow}
use Rattle.read_text_line.specs.ContentLine.{ContentLine}
use Rattle.text.specs.Statement.{property_of}
use Rattle.text.specs.Tree.{Entry, begin, end, property, nothing, own_of, inner_of}
use Rattle.json_text.specs.Bytes.{value_separator}
use Rattle.json_text.specs.Write.{quoted, array_of}
use Rattle.jcal.specs.WriteJcal.{property_json, components_json}
use Rattle.text_entries.specs.Passing.{behind, is_aside}
use Rattle.text_entries.specs.laws.Passing.{own_deeper, inner_deeper, inner_beside, own_same}
use Rattle.text_entries.specs.Levels.{is_none}
use Rattle.write_jcal_property.specs.laws.Placed.{property_of_place}
use Rattle.write_jcal.specs.Walks.{own_json, inner_json, head_json}

-- ---- the properties

module _ (k : List ℕ) where
  pub own_none : own_json k [] ≡ []
  unfolding own_of
  own_none = refl

  module _ (es : List Entry) where
    pub own_begin : (n : List ℕ) → own_json k (begin n ∷ es) ≡ own_json k (behind es 0)
    unfolding own_of
    own_begin n = ap (map property_json) (own_deeper k es 0)

    pub own_close : own_json k (end ∷ es) ≡ []
    unfolding own_of
    own_close = refl

    pub own_property : (l : ContentLine) → own_json k (property l ∷ es) ≡ property_json (property_of k l) ∷ own_json k es
    unfolding own_of
    own_property l = refl

    pub own_pass : own_json k (nothing ∷ es) ≡ own_json k es
    unfolding own_of
    own_pass = refl

-- ---- the subcomponents

pub inner_none : (l : ℕ) → inner_json l [] ≡ []
unfolding inner_of shallow components_json
inner_none l = refl

pub inner_empty : (l : ℕ) (es : List Entry) → is_none (shallow l (inner_of es 0)) ≡ true → inner_json l es ≡ []
unfolding components_json
inner_empty l es h = go (shallow l (inner_of es 0)) h
  where
    go : (c : Components) → is_none c ≡ true → components_json c ≡ []
    go no_more h = refl
    go (component n ps inner next) h = absurd (false≢true h)

module _ (l : ℕ) (es : List Entry) where
  pub inner_close : inner_json l (end ∷ es) ≡ []
  unfolding inner_of shallow components_json
  inner_close = refl

  pub inner_aside : (x : Entry) → is_aside x ≡ true → inner_json l (x ∷ es) ≡ inner_json l es
  inner_aside x h = ap (λ (c : Components). components_json (shallow l c)) (inner_beside es x h)

-- ---- the array of a component

seam : (l : List ℕ) → 44 ∷ l ≡ ascii "," ⊕ l
unfolding ◌⊕◌
seam l = refl

pairs : (ascii ",[" ≡ ascii "," ⊕ ascii "[") × (ascii "],[" ≡ ascii "]" ⊕ ascii "," ⊕ ascii "[") × (ascii "]]" ≡ ascii "]" ⊕ ascii "]")
unfolding ◌⊕◌
pairs = (refl, refl, refl)

regroup : (o c k n p i : List ℕ) → o ⊕ (n ⊕ c ⊕ (o ⊕ p ⊕ k) ⊕ c ⊕ (o ⊕ i ⊕ k)) ⊕ k ≡ ((o ⊕ n ⊕ c ⊕ o) ⊕ p ⊕ k ⊕ c ⊕ o) ⊕ i ⊕ k ⊕ k
regroup o c k n p i = simp append_regroup

-- an array of three, with commas for what joins them
array_three : (a b c : List ℕ) → array_of (a ∷ b ∷ c ∷ []) ≡ ascii "[" ⊕ (a ⊕ ascii "," ⊕ b ⊕ ascii "," ⊕ c) ⊕ ascii "]"
unfolding joined_by each_after
array_three a b c = rw (append_none c, seam c, seam (b ⊕ ascii "," ⊕ c))

array_parts : (n : List ℕ) (ps is : List (List ℕ)) → array_of (quoted n ∷ array_of ps ∷ array_of is ∷ [])
    ≡ ((ascii "[" ⊕ quoted n ⊕ ascii ",[") ⊕ joined_by value_separator ps ⊕ ascii "],[") ⊕ joined_by value_separator is ⊕ ascii "]]"
unfolding ◌⊕◌
array_parts n ps is =
    array_three (quoted n) (array_of ps) (array_of is)
    ∙ rw (pairs.0, pairs.1, pairs.2) (regroup (ascii "[") (ascii ",") (ascii "]") (quoted n) (joined_by value_separator ps) (joined_by value_separator is))

-- l levels deep
pub component_parts : (l : ℕ) (n : List ℕ) (es : List Entry) → 1 ≤ l → inner_json l (begin n ∷ es) ≡ (head_json n es ⊕ joined_by value_separator (inner_json (l - 1) es) ⊕ ascii "]]") ∷ inner_json l (behind es 0)
unfolding inner_of shallow pick components_json
component_parts l n es h = rw (lt-ltb 0 l h, array_parts (lower n) (own_json n es) (inner_json (l - 1) es), inner_deeper es 0)

-- ---- the component's number

pub own_place : (c : List ℕ) (es : List Entry) → own_json (component_name (place_of c component_names)) es ≡ own_json c es
own_place c es = ap (map property_json) (own_same (component_name (place_of c component_names)) c (property_of_place c) es 0)
