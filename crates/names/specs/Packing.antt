-- A word as one number: its bytes are the digits of base 128 behind a 1, the first highest, so that no two words have the same number. Code has it in two halves, the low one of eight digits.
-- A word with a byte of 128 or more, or of more than 16 bytes, has the number of no name.
--     high_of, low_of  the halves of a word's number;   Packs w h l: h and l are those of w
--     row h l n        the word whose halves are h and l has the place n;   group m rs: rows whose low halves are below m
--     lookup, find     the place that rows give, that groups give, the last of them with no bound; d where there is none
--     agree            groups and names agree, by `refl` with `unfolding packing_compute`
use Rattle.std.specs.Prelude.{◌≡◌, Bool, false, ◌&&◌, List, [], ◌∷◌, ℕ, ◌+◌, ◌*◌, ◌/◌, ◌%◌, ◌^◌, eqb, ltb, length}
use Rattle.octets.specs.Pick.{pick, ◌and◌, ◌or◌}
use Rattle.octets.specs.Words.{same}
use Rattle.octets.specs.Lists.{every}
use Rattle.names.specs.Table.{place_of}

-- the halves h and l with the digit b more
unfoldable pub grow_high : ℕ → ℕ → ℕ → ℕ
grow_high h l b = pick (ltb b 128) (pick (ltb h (2 ^ 56)) (h * 128 + l / 2 ^ 49) (2 ^ 63)) (2 ^ 63)

unfoldable pub grow_low : ℕ → ℕ → ℕ → ℕ
grow_low h l b = pick (ltb b 128) (pick (ltb h (2 ^ 56)) (l % 2 ^ 49 * 128 + b) 0) 0

-- the halves of a word whose bytes follow others, which made h and l
unfoldable pub high_from : List ℕ → ℕ → ℕ → ℕ
high_from [] h l = h
high_from (b ∷ w) h l = high_from w (grow_high h l b) (grow_low h l b)

unfoldable pub low_from : List ℕ → ℕ → ℕ → ℕ
low_from [] h l = l
low_from (b ∷ w) h l = low_from w (grow_high h l b) (grow_low h l b)

abbrev pub high_of : List ℕ → ℕ
high_of w = high_from w 0 1

abbrev pub low_of : List ℕ → ℕ
low_of w = low_from w 0 1

pub record Packs (w : List ℕ) (h l : ℕ) : Type 0 where
  pub high : h ≡ high_of w
  pub low : l ≡ low_of w

-- ---- tables

pub data Row : Type 0 where
  row : ℕ → ℕ → ℕ → Row

pub data Group : Type 0 where
  group : ℕ → List Row → Group

unfoldable pub lookup : ℕ → ℕ → List Row → ℕ → ℕ
lookup h l [] d = d
lookup h l (row a b n ∷ rs) d = pick (eqb l b && eqb h a) n (lookup h l rs d)

unfoldable pub find : ℕ → ℕ → List Group → List Row → ℕ → ℕ
find h l [] last d = lookup h l last d
find h l (group m rs ∷ gs) last d = pick (ltb l m) (lookup h l rs d) (find h l gs last d)

-- a name of the list has the halves h and l
unfoldable pub is_packed : ℕ → ℕ → List (List ℕ) → Bool
is_packed h l [] = false
is_packed h l (n ∷ ns) = (eqb l (low_of n) && eqb h (high_of n)) or is_packed h l ns

unfoldable pub is_named : List (List ℕ) → Row → Bool
is_named ns (row a b n) = is_packed a b ns

unfoldable pub are_named : List (List ℕ) → Group → Bool
are_named ns (group m rs) = every (is_named ns) rs

-- the name x has a number, and its place is found by it
unfoldable pub is_found : List Group → List Row → List (List ℕ) → List ℕ → Bool
is_found gs last ns x = ltb (high_of x) (2 ^ 57) and eqb (find (high_of x) (low_of x) gs last (length ns)) (place_of x ns)

unfoldable pub agree : List Group → List Row → List (List ℕ) → Bool
agree gs last ns = every (is_found gs last ns) ns and every (are_named ns) gs and every (is_named ns) last

-- opens what a number is made of, and tables: `unfolding packing_compute`
unfoldable pub packing_compute : ℕ
unfolding grow_high grow_low high_from low_from lookup find is_packed is_named are_named is_found agree every same place_of pick ◌and◌ ◌or◌
packing_compute = 0
