-- How long strings, arrays and objects are.
--     escaped-length, quoted_length     an escape is of two bytes at most
--     array_length, one_length, object_length, member_length   by the weight of what stands in them: its bytes, and one more for each
use Rattle.std.specs.Prelude.{List, [], ◌∷◌, ℕ, ◌+◌, ◌*◌, ◌≤◌, eqb, length}
use Rattle.std.proofs.Common.{arith}
use Rattle.octets.specs.Ascii.{ascii}
use Rattle.octets.specs.Append.{◌⊕◌}
use Rattle.octets.specs.laws.Append.{length_both}
use Rattle.octets.specs.laws.Pick.{pick_either}
use Rattle.octets.specs.Words.{joined_by}
use Rattle.json_text.specs.Bytes.{value_separator}
use Rattle.json_text.specs.Write.{escaped_byte, escaped, quoted, array_of, member_of, object_of}
use Rattle.jcal.specs.WriteJcal.{one_or_array}
use Rattle.lengths_xml.specs.laws.Pieces.{weight, joined_within}

escaped_byte_lem : (b : ℕ) → length (escaped_byte b) ≤ 2
escaped_byte_lem b =
    pick_either Short (eqb b 34) (ascii "\\\"") _ (omega arith)
    (pick_either Short (eqb b 92) (ascii "\\\\") _ (omega arith)
    (pick_either Short (eqb b 10) (ascii "\\n") _ (omega arith) (pick_either Short (eqb b 9) (ascii "\\t") (b ∷ []) (omega arith) (omega arith))))
  where
    Short : List ℕ → Type 0
    Short s = length s ≤ 2

pub escaped-length : (s : List ℕ) → length (escaped s) ≤ 2 * length s
unfolding escaped
escaped-length [] = omega arith
escaped-length (b ∷ s) = omega (arith, length_both (escaped_byte b) (escaped s), escaped_byte_lem b, escaped-length s)

pub quoted_length : (s : List ℕ) → length (quoted s) ≤ 2 * length s + 2
quoted_length s = omega (arith, length_both (ascii "\"") (escaped s ⊕ ascii "\""), length_both (escaped s) (ascii "\""), escaped-length s)

-- ---- arrays and objects

pub array_length : (vs : List (List ℕ)) → length (array_of vs) ≤ 2 + weight vs
array_length vs =
    let x : List ℕ = joined_by value_separator vs in
    omega (arith, length_both (ascii "[") (x ⊕ ascii "]"), length_both x (ascii "]"), joined_within value_separator vs)

pub object_length : (ms : List (List ℕ)) → length (object_of ms) ≤ 2 + weight ms
object_length ms =
    let x : List ℕ = joined_by value_separator ms in
    omega (arith, length_both (ascii "{") (x ⊕ ascii "}"), length_both x (ascii "}"), joined_within value_separator ms)

pub one_length : (vs : List (List ℕ)) → length (one_or_array vs) ≤ 2 + weight vs
unfolding weight
one_length [] = array_length []
one_length (v ∷ []) = omega arith
one_length (v ∷ w ∷ vs) = array_length (v ∷ w ∷ vs)

pub member_length : (n v : List ℕ) → length (member_of n v) ≤ 2 * length n + 3 + length v
member_length n v = omega (arith, length_both (quoted n) (ascii ":" ⊕ v), length_both (ascii ":") v, quoted_length n)
