-- The elements of an array, one by one.
--     value_by, value_of_head  the value of an element that was found
--     behind_by                the elements behind it
--     head_by, HeadAt          what an element that was found says of those from its place on, and its bounds: the contract of `element_at`
--     NextAt                   the contract of `element_next`
use Rattle.std.specs.Prelude.{◌≡◌, List, [], ℕ, ◌≤◌, length}
use Prim.{Unit}
use Rattle.json_text.specs.Tree.{Json, string, number, literal, array, object, Elements, no_elements, element, end_place, elements}
use Rattle.read_json.specs.TreeAt.{tokens_at, elements_at, members_at, string_at, word_at}
use Rattle.read_json.specs.Pieces.{Taken}
use Rattle.read_json.specs.declared.Head.{Head}
use Rattle.read_json.specs.declared.HeadKind.{HeadKind}
use Rattle.read_json.specs.declared.HeadKind.TheVariants.{Absent, String, Number, Literal, Array, Object}

-- the element at p, which ends at n, or whose content begins there; without one what stands for it, null
abbrev pub value_by : HeadKind → List ℕ → ℕ → ℕ → Json
value_by Absent s p n = literal 0 []
value_by String s p n = string p (string_at s p)
value_by Number s p n = number p (word_at s p n)
value_by Literal s p n = literal p (word_at s p n)
value_by Array s p n = array p (end_place (tokens_at s n) 0) (elements_at s n)
value_by Object s p n = object p (end_place (tokens_at s n) 0) (members_at s n)

abbrev pub value_of_head : List ℕ → Head → Json
value_of_head s h = value_by h.kind s h.place h.next

abbrev pub behind_by : HeadKind → List ℕ → ℕ → Elements
behind_by Absent s n = no_elements
behind_by String s n = elements_at s n
behind_by Number s n = elements_at s n
behind_by Literal s n = elements_at s n
behind_by Array s n = elements (tokens_at s n) 1
behind_by Object s n = elements (tokens_at s n) 1

abbrev pub head_by : HeadKind → List ℕ → ℕ → ℕ → Elements
head_by Absent s p n = no_elements
head_by String s p n = element (value_by String s p n) (behind_by String s n)
head_by Number s p n = element (value_by Number s p n) (behind_by Number s n)
head_by Literal s p n = element (value_by Literal s p n) (behind_by Literal s n)
head_by Array s p n = element (value_by Array s p n) (behind_by Array s n)
head_by Object s p n = element (value_by Object s p n) (behind_by Object s n)

abbrev pub HeadTakes : HeadKind → List ℕ → ℕ → ℕ → ℕ → Type 0
HeadTakes Absent s at p n = Unit {0}
HeadTakes String s at p n = Taken s at p n
HeadTakes Number s at p n = Taken s at p n
HeadTakes Literal s at p n = Taken s at p n
HeadTakes Array s at p n = Taken s at p n
HeadTakes Object s at p n = Taken s at p n

pub record HeadAt (s : List ℕ) (at : ℕ) (h : Head) : Type 0 where
  pub is : elements_at s at ≡ head_by h.kind s h.place h.next
  pub inside : h.next ≤ length s
  pub takes : HeadTakes h.kind s at h.place h.next

pub record NextAt (s : List ℕ) (h : Head) (r : ℕ) : Type 0 where
  pub is : behind_by h.kind s h.next ≡ elements_at s r
  pub onward : h.next ≤ r
  pub inside : r ≤ length s

-- ---- what `element_at` answers

abbrev pub head_of : HeadKind → ℕ → ℕ → Head
head_of k p n = record { kind = k; place = p; next = n }
