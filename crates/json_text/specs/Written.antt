-- A JSON value written (RFC 8259), whatever its places.
--     written          its canonical bytes
--     bare             the same value with all places 0
--     is_writable v d  its strings are text, its numbers and literals are such, and at most d arrays and objects stand inside one another
use Rattle.std.specs.Prelude.{Bool, true, false, not, List, [], ◌∷◌, ℕ, zero, suc, eqb}
use Rattle.octets.specs.Ascii.{ascii}
use Rattle.octets.specs.Pick.{pick, ◌and◌}
use Rattle.octets.specs.Scan.{all_of}
use Rattle.octets.specs.Class.{is_digit}
use Rattle.octets.specs.Words.{is_empty, is_one_of, holds}
use Rattle.octets.specs.Runs.{run_of, after_run}
use Rattle.utf8.specs.Utf8.{well_formed}
use Rattle.json_text.specs.Bytes.{digit_zero, minus, decimal_point}
use Rattle.json_text.specs.Tree.{Json, string, number, literal, array, object, Elements, no_elements, element, Members, no_members, member}
use Rattle.json_text.specs.Write.{quoted, array_of, member_of, object_of}

unfoldable mutual
  pub written : Json → List ℕ
  written (string p s) = quoted s
  written (number p s) = s
  written (literal p s) = s
  written (array p e vs) = array_of (written_elements vs)
  written (object p e ms) = object_of (written_members ms)

  pub written_elements : Elements → List (List ℕ)
  written_elements no_elements = []
  written_elements (element v vs) = written v ∷ written_elements vs

  pub written_members : Members → List (List ℕ)
  written_members no_members = []
  written_members (member n v ms) = member_of n (written v) ∷ written_members ms

unfoldable mutual
  pub bare : Json → Json
  bare (string p s) = string 0 s
  bare (number p s) = number 0 s
  bare (literal p s) = literal 0 s
  bare (array p e vs) = array 0 0 (bare_elements vs)
  bare (object p e ms) = object 0 0 (bare_members ms)

  pub bare_elements : Elements → Elements
  bare_elements no_elements = no_elements
  bare_elements (element v vs) = element (bare v) (bare_elements vs)

  pub bare_members : Members → Members
  bare_members no_members = no_members
  bare_members (member n v ms) = member n (bare v) (bare_members ms)

-- ---- what can be written

-- well-formed UTF-8 of permitted characters, without CR (13)
unfoldable pub is_text : List ℕ → Bool
is_text s = not (holds 13 s) and well_formed s

-- section 6: int = zero / ( digit1-9 *DIGIT )
unfoldable pub is_int : List ℕ → Bool
is_int [] = false
is_int (b ∷ s) = pick (eqb b digit_zero) (is_empty s) (is_digit b and all_of is_digit s)

-- frac = decimal-point 1*DIGIT, if there is one
unfoldable pub is_frac : List ℕ → Bool
is_frac [] = true
is_frac (b ∷ s) = eqb b decimal_point and not (is_empty s) and all_of is_digit s

unfoldable pub is_unsigned : List ℕ → Bool
is_unsigned s = is_int (run_of is_digit s) and is_frac (after_run is_digit s)

-- number = [ minus ] int [ frac ]; no exponent is written
unfoldable pub is_number : List ℕ → Bool
is_number [] = false
is_number (b ∷ s) = pick (eqb b minus) (is_unsigned s) (is_unsigned (b ∷ s))

abbrev pub literals : List (List ℕ)
literals = ascii "true" ∷ ascii "false" ∷ ascii "null" ∷ []

unfoldable mutual
  pub is_writable : Json → ℕ → Bool
  is_writable (string p s) d = is_text s
  is_writable (number p s) d = is_number s
  is_writable (literal p s) d = is_one_of s literals
  is_writable (array p e vs) zero = false
  is_writable (array p e vs) (suc d) = are_writable vs d
  is_writable (object p e ms) zero = false
  is_writable (object p e ms) (suc d) = members_writable ms d

  pub are_writable : Elements → ℕ → Bool
  are_writable no_elements d = true
  are_writable (element v vs) d = is_writable v d and are_writable vs d

  pub members_writable : Members → ℕ → Bool
  members_writable no_members d = true
  members_writable (member n v ms) d = is_text n and is_writable v d and members_writable ms d
