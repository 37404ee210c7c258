-- The elements of an array, by the heads that code finds.
--     Stands               the bounds of an element
--     string_of, number_of, literal_of, array_of, object_of  what an element is, by its kind (crate json_text, specs/Kinds.antt)
--     is_leaf              a kind is that of a number, where the flag says so, or else of a string
--     leaf_of, FirstAt     a first element of that kind: the contract of `leaf_at`
use Rattle.std.specs.Prelude.{◌≡◌, Bool, true, false, List, [], ◌∷◌, ℕ, ◌≤◌, ◌<◌, length, Option, None, Some}
use Rattle.json_text.specs.Tree.{Json, string, number, Member, element_list}
use Rattle.json_text.specs.Kinds.{as_string, as_number, as_literal, as_array, as_object}
use Rattle.read_json.specs.TreeAt.{elements_at, string_at, word_at}
use Rattle.read_json.specs.Heads.{value_of_head}
use Rattle.read_json.specs.Kinds.{is_there, is_string, is_number}
use Rattle.read_json.specs.declared.Head.{Head}
use Rattle.read_json.specs.declared.HeadKind.{HeadKind}
use Rattle.read_jcal_value.specs.declared.elements.Leaf.{Leaf}

pub record Stands (s : List ℕ) (h : Head) : Type 0 where
  pub place : is_there h.kind ≡ true → h.place < h.next
  pub inside : h.next ≤ length s

-- ---- what it is

unfoldable pub string_of : List ℕ → Head → Option (List ℕ)
string_of s h = as_string (value_of_head s h)

unfoldable pub number_of : List ℕ → Head → Option (List ℕ)
number_of s h = as_number (value_of_head s h)

unfoldable pub literal_of : List ℕ → Head → Option (List ℕ)
literal_of s h = as_literal (value_of_head s h)

unfoldable pub array_of : List ℕ → Head → Option (List Json)
array_of s h = as_array (value_of_head s h)

unfoldable pub object_of : List ℕ → Head → Option (List Member)
object_of s h = as_object (value_of_head s h)

-- ---- a first element that is a number, where the flag says so, or else a string

abbrev pub is_leaf : Bool → HeadKind → Bool
is_leaf true k = is_number k
is_leaf false k = is_string k

abbrev pub leaf_of : Bool → List ℕ → ℕ → ℕ → Json
leaf_of true s p n = number p (word_at s p n)
leaf_of false s p n = string p (string_at s p)

abbrev pub leaf_text : Bool → Json → Option (List ℕ)
leaf_text true v = as_number v
leaf_text false v = as_string v

abbrev pub first_text : Bool → List Json → Option (List ℕ)
first_text k [] = None
first_text k (v ∷ vs) = leaf_text k v

abbrev pub FirstSays : Bool → List ℕ → ℕ → Option Leaf → Type 0
FirstSays k s at (Some l) = (element_list (elements_at s at) ≡ leaf_of k s l.place l.next ∷ element_list (elements_at s l.next)) × (l.place < l.next) × (l.next ≤ length s)
FirstSays k s at None = first_text k (element_list (elements_at s at)) ≡ None

pub record FirstAt (k : Bool) (s : List ℕ) (at : ℕ) (r : Option Leaf) : Type 0 where
  pub says : FirstSays k s at r
