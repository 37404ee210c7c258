-- The value that a JSON text states (RFC 8259, sections 3 to 7), as a tree with its places; of a text that is accepted.
--     Json, Elements, Members    a value, the elements of an array, the members of an object
--     Token, tokens p s          the tokens of bytes that stand at the place p; white space and separators give none
--     value_of s                 the value of a text
--     element_list, member_list  the elements and members as lists
use Rattle.std.specs.Prelude.{Bool, List, [], ◌∷◌, ℕ, zero, suc, ◌+◌, eqb, drop}
use Rattle.octets.specs.Pick.{pick, ◌or◌}
use Rattle.octets.specs.Scan.{span_len}
use Rattle.octets.specs.Class.{is_digit, is_small, is_space}
use Rattle.octets.specs.Runs.{run_of, after_run}
use Rattle.octets.specs.Front.{begins_by}
use Rattle.json_text.specs.Bytes.{begin_array, end_array, begin_object, end_object, name_separator, value_separator, quotation_mark, is_sign, decimal_point, is_e}
use Rattle.json_text.specs.Strings.{characters, quoted_length}

mutual
  -- a value. A number is kept as its bytes stand, a literal by its name: true, false, null
  pub data Json : Type 0 where
    string : ℕ → List ℕ → Json  -- its place, its characters
    number : ℕ → List ℕ → Json
    literal : ℕ → List ℕ → Json
    array : ℕ → ℕ → Elements → Json  -- the places of its two brackets
    object : ℕ → ℕ → Members → Json

  pub data Elements : Type 0 where
    no_elements : Elements
    element : Json → Elements → Elements

  pub data Members : Type 0 where
    no_members : Members
    member : List ℕ → Json → Members → Members  -- a name, its value, and the members that follow

abbrev pub place_of : Json → ℕ
place_of (string p s) = p
place_of (number p s) = p
place_of (literal p s) = p
place_of (array p e xs) = p
place_of (object p e ms) = p

-- ---- tokens

pub data Token : Type 0 where
  opens_array : ℕ → Token
  opens_object : ℕ → Token
  closes : ℕ → Token
  name : ℕ → List ℕ → Token  -- a string that a name separator follows
  scalar : Json → Token

abbrev pub is_closing : ℕ → Bool
is_closing b = eqb b end_array or eqb b end_object

abbrev pub is_separator : ℕ → Bool
is_separator b = is_space b or eqb b name_separator or eqb b value_separator

-- a byte of a number or a literal
abbrev pub is_scalar : ℕ → Bool
is_scalar b = is_digit b or is_small b or is_e b or is_sign b or eqb b decimal_point

-- the string whose opening quotation mark stands at p, before the bytes s
abbrev pub string_token : ℕ → List ℕ → Token
string_token p s =
    pick (begins_by (λ b. eqb b name_separator) (after_run is_space (drop (quoted_length s) s))) (name p (characters s)) (scalar (string p (characters s)))

abbrev pub word_token : ℕ → ℕ → List ℕ → Token
word_token p b s = pick (is_small b) (scalar (literal p (b ∷ run_of is_scalar s))) (scalar (number p (b ∷ run_of is_scalar s)))

-- b at the place p, before the bytes s; `rest k` are the tokens after k bytes more
abbrev pub tokens_by : ℕ → List ℕ → ℕ → (ℕ → List Token) → List Token
tokens_by b s p rest =
    pick (is_separator b) (rest 0)
    (pick (eqb b begin_array) (opens_array p ∷ rest 0)
    (pick (eqb b begin_object) (opens_object p ∷ rest 0)
    (pick (is_closing b) (closes p ∷ rest 0)
    (pick (eqb b quotation_mark) (string_token p s ∷ rest (quoted_length s))
    (word_token p b s ∷ rest (span_len is_scalar s))))))

-- with k bytes to be passed over, which belong to a token before
unfoldable pub scan : List ℕ → ℕ → ℕ → List Token
scan [] p k = []
scan (b ∷ s) p (suc k) = scan s (p + 1) k
scan (b ∷ s) p zero = tokens_by b s p (scan s (p + 1))

abbrev pub tokens : ℕ → List ℕ → List Token
tokens p s = scan s p 0

-- ---- the tree

-- the place of the bracket that closes an array or object, from tokens that begin d deeper in it
unfoldable pub end_by : Token → ℕ → (ℕ → ℕ) → ℕ
end_by (opens_array p) d rest = rest (suc d)
end_by (opens_object p) d rest = rest (suc d)
end_by (closes p) zero rest = p
end_by (closes p) (suc d) rest = rest d
end_by (name p n) d rest = rest d
end_by (scalar v) d rest = rest d

unfoldable pub end_place : List Token → ℕ → ℕ
end_place [] d = 0
end_place (t ∷ ts) d = end_by t d (end_place ts)

-- the first element; null where there is none
abbrev pub first_of : Elements → Json
first_of no_elements = literal 0 []
first_of (element v vs) = v

-- by a token that stands d deeper: `end`, `els` and `mems` are the three functions over the tokens that follow
unfoldable pub elements_by : Token → ℕ → (ℕ → ℕ) → (ℕ → Elements) → (ℕ → Members) → Elements
elements_by (opens_array p) zero end els mems = element (array p (end 0) (els 0)) (els 1)
elements_by (opens_array p) (suc d) end els mems = els (suc (suc d))
elements_by (opens_object p) zero end els mems = element (object p (end 0) (mems 0)) (els 1)
elements_by (opens_object p) (suc d) end els mems = els (suc (suc d))
elements_by (closes p) zero end els mems = no_elements
elements_by (closes p) (suc d) end els mems = els d
elements_by (name p n) d end els mems = els d
elements_by (scalar v) zero end els mems = element v (els 0)
elements_by (scalar v) (suc d) end els mems = els (suc d)

unfoldable pub members_by : Token → ℕ → (ℕ → Elements) → (ℕ → Members) → Members
members_by (opens_array p) d els mems = mems (suc d)
members_by (opens_object p) d els mems = mems (suc d)
members_by (closes p) zero els mems = no_members
members_by (closes p) (suc d) els mems = mems d
members_by (name p n) zero els mems = member n (first_of (els 0)) (mems 0)
members_by (name p n) (suc d) els mems = mems (suc d)
members_by (scalar v) d els mems = mems d

unfoldable mutual
  -- the elements of an open array, from tokens that begin d deeper in it, up to its end
  pub elements : List Token → ℕ → Elements
  elements [] d = no_elements
  elements (t ∷ ts) d = elements_by t d (end_place ts) (λ k. elements ts k) (λ k. members ts k)

  -- the members of an open object
  pub members : List Token → ℕ → Members
  members [] d = no_members
  members (t ∷ ts) d = members_by t d (λ k. elements ts k) (λ k. members ts k)

unfoldable pub value_of : List ℕ → Json
value_of s = first_of (elements (tokens 0 s) 0)

-- ---- lists

pub record Member : Type 0 where
  pub name : List ℕ
  pub value : Json

unfoldable pub element_list : Elements → List Json
element_list no_elements = []
element_list (element v vs) = v ∷ element_list vs

unfoldable pub member_list : Members → List Member
member_list no_members = []
member_list (member n v ms) = record { name = n; value = v } ∷ member_list ms
