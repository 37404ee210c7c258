-- The bytes that a document's marks take: of a start tag its name and two brackets, of a character its bytes.
--     name_bytes      the bytes of a name, one at least;   name_some, name_length
--     bytes_of        the bytes of marks
--     scan_within     marks have no more bytes than what they are read from
--     root_within     nor has the root's tag with what follows it
use Rattle.std.specs.Prelude.{◌≡◌, refl, true, List, [], ◌∷◌, ℕ, zero, suc, ◌+◌, ◌-◌, ◌≤◌, eqb, ltb, length, take, Option, None, Some}
use Rattle.std.proofs.lemmas.Bool.{false≢true}
use Prim.{Unit, tt}
use native.Mathlib.Omega.{arith}
use Rattle.std.proofs.Common.{length-take, ltb-true}
use Rattle.octets.specs.Ascii.{ascii}
use Rattle.octets.specs.Pick.{pick, ◌and◌, ◌or◌}
use Rattle.octets.specs.laws.Pick.{pick_either, pick_case, and_both, or_left}
use Rattle.octets.specs.Scan.{span_len}
use Rattle.octets.specs.Class.{is_alpha, is_name_char, is_digit}
use Rattle.octets.specs.Words.{starts}
use Rattle.octets.specs.laws.Words.{starts-length}
use Rattle.octets.specs.laws.Reading.{and_then-some, provided-some, none-some}
use Rattle.utf8.specs.Spell.{spell, is_character}
use Rattle.xml.specs.Pieces.{from, first, Piece, any_space, xml_name, name_of, both, ◌then◌, exactly}
use Rattle.xml.specs.laws.Pieces.{length_from}
use Rattle.xml.specs.Token.{Token, s_tag, empty_elem_tag, e_tag, char_byte, reference_to, no_token, namespace_attribute, start_by, end_by, tag, root_tag, is_hex_digit, char_ref, reference, literal_byte, token}
use Rattle.xml.specs.Marks.{Mark, opens, closes, char, refers, fault, marks_by, scan, root_marks}

unfoldable pub name_bytes : List ℕ → ℕ
name_bytes [] = 1
name_bytes (b ∷ m) = suc (length m)

pub name_some : (m : List ℕ) → 1 ≤ name_bytes m
unfolding name_bytes
name_some [] = omega arith
name_some (b ∷ m) = omega arith

pub name_length : (m : List ℕ) → length m ≤ name_bytes m
unfolding name_bytes
name_length [] = omega arith
name_length (b ∷ m) = omega arith

name_most : (m : List ℕ) (n : ℕ) → 1 ≤ n → length m ≤ n → name_bytes m ≤ n
unfolding name_bytes
name_most [] n l h = l
name_most (b ∷ m) n l h = h

unfoldable pub bytes_of : List Mark → ℕ
bytes_of [] = 0
bytes_of (opens p nm ∷ ms) = name_bytes nm + 2 + bytes_of ms
bytes_of (closes p nm ∷ ms) = bytes_of ms
bytes_of (char p b ∷ ms) = suc (bytes_of ms)
bytes_of (refers p bs ∷ ms) = length bs + bytes_of ms
bytes_of (fault p ∷ ms) = bytes_of ms

-- ---- tokens

-- what a token states, and the bytes behind it, are no more than the bytes from it on: one, and s
abbrev Fits : Token → List ℕ → Type 0
Fits (s_tag nm k) s = name_bytes nm + 2 + (length s - k) ≤ suc (length s)
Fits (empty_elem_tag nm k) s = name_bytes nm + 2 + (length s - k) ≤ suc (length s)
Fits (e_tag nm k) s = Unit {0}
Fits (char_byte b k) s = Unit {0}
Fits (reference_to v k) s = length (spell v) + (length s - k) ≤ suc (length s)
Fits no_token s = Unit {0}

both_most : (a : ℕ) (o : Option ℕ) (n : ℕ) → both a o ≡ Some n → a ≤ n
unfolding both
both_most a None n h = none-some h
both_most a (Some m) n h = let q : a + m ≡ n = cc in omega arith

-- a name begins with a letter
letter_counts : (s : List ℕ) → is_alpha (first s) ≡ true → 1 ≤ span_len is_name_char s
unfolding first span_len
letter_counts [] h = absurd (false≢true (unfold ◌and◌ ◌or◌ in h))
letter_counts (b ∷ s) h = rw (or_left (is_alpha b) (is_digit b or eqb b 45) h) (unfold pick in omega arith)

-- a tag that begins with a name has the bytes of the name
name_within : (rest : Piece) (s : List ℕ) (n : ℕ) → (xml_name then rest) s ≡ Some n → name_bytes (name_of s) ≤ n
unfolding ◌then◌ xml_name name_of
name_within rest s n h =
    let q = and_then-some (xml_name s) (λ n. both n (rest (from n s))) n h in
    let e = provided-some (is_alpha (first s)) (span_len is_name_char s) q.0 q.1 in
    let l : span_len is_name_char s ≤ n = omega (arith, e.1, both_most q.0 (rest (from q.0 s)) n q.2) in
    name_most (take (span_len is_name_char s) s) n (omega (arith, letter_counts s e.0)) (omega (arith, length-take (span_len is_name_char s) s))

start_fits : (o : Option ℕ) (s : List ℕ) → ((n : ℕ) → o ≡ Some n → name_bytes (name_of s) ≤ n) → Fits (start_by o s) s
unfolding start_by
start_fits None s h = tt
start_fits (Some n) s h =
    pick_case (λ t. Fits t s) (starts (ascii ">") (from n s)) (s_tag (name_of s) (n + 1)) _
    (λ e. omega (arith, h n refl, starts-length (ascii ">") (from n s) e, length_from n s))
    (λ d. pick_case (λ t. Fits t s) (starts (ascii "/>") (from n s)) (empty_elem_tag (name_of s) (n + 2)) no_token
    (λ e. omega (arith, h n refl, starts-length (ascii "/>") (from n s) e, length_from n s)) (λ e. tt))

end_fits : (o : Option ℕ) (r s : List ℕ) → Fits (end_by o r) s
unfolding end_by
end_fits None r s = tt
end_fits (Some n) r s = tt

tag_fits : (s : List ℕ) → Fits (tag s) s
unfolding tag
tag_fits s =
    pick_either (λ t. Fits t s) (starts (ascii "/") s) _ (start_by ((xml_name then any_space) s) s)
    (end_fits ((xml_name then any_space then exactly (ascii ">")) (from 1 s)) (from 1 s) s) (start_fits ((xml_name then any_space) s) s (name_within any_space s))

root_fits : (b : ℕ) (s : List ℕ) → Fits (root_tag b s) s
unfolding root_tag
root_fits b s =
    pick_either (λ t. Fits t s) (eqb b 60) (start_by ((xml_name then namespace_attribute then any_space) s) s) no_token
    (start_fits ((xml_name then namespace_attribute then any_space) s) s (name_within (namespace_attribute then any_space) s)) tt

-- a character has four bytes at most, and a reference that many at least
spell_most : (c : ℕ) → length (spell c) ≤ 4
unfolding spell
spell_most c =
    pick_either Short (ltb c 0x80) _ _ (omega arith) (pick_either Short (ltb c 0x800) _ _ (omega arith) (pick_either Short (ltb c 0x10000) _ _ (omega arith) (omega arith)))
  where
    Short : List ℕ → Type 0
    Short s = length s ≤ 4

number_fits : (k d v : ℕ) (s : List ℕ) → 1 ≤ k → Fits (char_ref k d v (from k s)) s
unfolding char_ref
number_fits k d v s l =
    pick_case (λ t. Fits t s) (ltb 0 d and starts (ascii ";") (from d (from k s)) and is_character v) (reference_to v (k + d + 1)) no_token
    (λ e. let p = and_both (ltb 0 d) _ e in let q = and_both (starts (ascii ";") (from d (from k s))) (is_character v) p.1 in
    omega (arith, spell_most v, ltb-true 0 d p.0, starts-length (ascii ";") (from d (from k s)) q.0, length_from d (from k s), length_from k s)) (λ e. tt)

entity_fits : (w : List ℕ) (v k : ℕ) (s : List ℕ) (other : Token) → length w ≡ k → 3 ≤ k → Fits other s → Fits (pick (starts w s) (reference_to v k) other) s
entity_fits w v k s other e l f =
    pick_case (λ t. Fits t s) (starts w s) (reference_to v k) other (λ h. omega (arith, spell_most v, starts-length w s h)) (λ h. f)

reference_fits : (s : List ℕ) → Fits (reference s) s
unfolding reference
reference_fits s =
    pick_either (λ t. Fits t s) (starts (ascii "#x") s) _ _ (number_fits 2 (span_len is_hex_digit (from 2 s)) _ s (omega arith))
    (pick_either (λ t. Fits t s) (starts (ascii "#") s) _ _ (number_fits 1 (span_len is_digit (from 1 s)) _ s (omega arith))
    (entity_fits (ascii "amp;") 38 4 s _ refl (omega arith)
    (entity_fits (ascii "lt;") 60 3 s _ refl (omega arith)
    (entity_fits (ascii "gt;") 62 3 s _ refl (omega arith)
    (entity_fits (ascii "apos;") 39 5 s _ refl (omega arith)
    (entity_fits (ascii "quot;") 34 5 s no_token refl (omega arith) tt))))))

literal_fits : (b : ℕ) (s : List ℕ) → Fits (literal_byte b s) s
unfolding literal_byte
literal_fits b s =
    pick_either (λ t. Fits t s) (eqb b 13) _ _ (pick_either (λ t. Fits t s) (starts (10 ∷ []) s) (char_byte 10 1) (char_byte 10 0) tt tt)
    (pick_either (λ t. Fits t s) (eqb b 93 and starts (ascii "]>") s) no_token (char_byte b 0) tt tt)

token_fits : (b : ℕ) (s : List ℕ) → Fits (token b s) s
unfolding token
token_fits b s = pick_either (λ t. Fits t s) (eqb b 60) (tag s) _ (tag_fits s) (pick_either (λ t. Fits t s) (eqb b 38) (reference s) (literal_byte b s) (reference_fits s) (literal_fits b s))

-- ---- marks

marked : (t : Token) (s : List ℕ) (p : ℕ) (rest : ℕ → List Mark) → Fits t s → ((k : ℕ) → bytes_of (rest k) ≤ length s - k) → bytes_of (marks_by t p rest) ≤ suc (length s)
unfolding marks_by bytes_of
marked (s_tag nm k) s p rest f h = omega (arith, f, h k)
marked (empty_elem_tag nm k) s p rest f h = omega (arith, f, h k)
marked (e_tag nm k) s p rest f h = omega (arith, h k)
marked (char_byte b k) s p rest f h = omega (arith, h k)
marked (reference_to v k) s p rest f h = omega (arith, f, h k)
marked no_token s p rest f h = omega arith

pub scan_within : (s : List ℕ) (p k : ℕ) → bytes_of (scan s p k) ≤ length s - k
unfolding scan
scan_within [] p k = unfold bytes_of in omega arith
scan_within (b ∷ s) p zero = omega (arith, marked (token b s) s p (scan s (p + 1)) (token_fits b s) (scan_within s (p + 1)))
scan_within (b ∷ s) p (suc k) = omega (arith, scan_within s (p + 1) k)

pub root_within : (p : ℕ) (s : List ℕ) → bytes_of (root_marks p s) ≤ length s
unfolding root_marks
root_within p [] = unfold bytes_of in omega arith
root_within p (b ∷ s) = marked (root_tag b s) s p (scan s (p + 1)) (root_fits b s) (scan_within s (p + 1))
