-- The bytes that tokens of a JSON text take, and the sizes of what they state: each token counts in one array or object.
--     bytes_of          the bytes of tokens;   scan_within: no more than what they are read from
--     valued            each name stands before a value
--     value_size        the value of a text whose names do is no larger than the text
use Rattle.std.specs.Prelude.{◌≡◌, Bool, true, false, not, ℕ, zero, suc, ◌+◌, ◌-◌, ◌≤◌, ◌<◌, eqb, ltb, length, drop}
use Rattle.std.proofs.Math.Path.{refl}
use Rattle.std.proofs.lemmas.Bool.{false≢true}
use mathlib.Core.List.{List, [], ◌∷◌}
use Rattle.std.proofs.Common.{arith, length-drop, ltb-true}
use Rattle.std.proofs.Math.ListN.{length-take}
use Rattle.octets.specs.Pick.{pick, ◌and◌}
use Rattle.octets.specs.laws.Pick.{pick_either, pick_case, and_both, and_yes, within_range}
use Rattle.octets.specs.laws.Append.{length_both}
use Rattle.octets.specs.Scan.{span_len}
use Rattle.octets.specs.laws.Scan.{span_most}
use Rattle.octets.specs.Class.{is_small, is_space}
use Rattle.octets.specs.Runs.{run_of, after_run}
use Rattle.octets.specs.Front.{begins_by}
use Rattle.utf8.specs.Spell.{spell}
use Rattle.json_text.specs.Bytes.{begin_array, begin_object, quotation_mark, name_separator, escape, letter_u, hex_value, grown, is_high, is_low}
use Rattle.json_text.specs.Strings.{Char, closing, char, named, hex_worth, paired, escaped, char_at, characters, characters_by, characters_from, quoted_length, length_by, length_from}
use Rattle.json_text.specs.Tree.{Json, string, number, literal, array, object, Elements, no_elements, element, Members, no_members, member, Token, opens_array, opens_object, closes, name, scalar, is_closing, is_separator, is_scalar, string_token, word_token, tokens_by, scan, end_place, first_of, elements_by, members_by, elements, members, value_of}
use Rattle.lengths_text.specs.laws.Bytes.{name_bytes}
use Rattle.lengths_jcal_text.specs.laws.Sizes.{literal_size, size, size_some, sizes, member_sizes}

-- ---- strings: a character has no more bytes than what it is spelled by

abbrev Fits : Char → List ℕ → Type 0
Fits closing s = 0 ≤ length s
Fits (char bs k) s = (length bs ≤ suc k) × (k ≤ length s)

spell_most : (c : ℕ) → length (spell c) ≤ 4
unfolding spell
spell_most c =
    pick_either Short (ltb c 0x80) _ _ (omega arith) (pick_either Short (ltb c 0x800) _ _ (omega arith) (pick_either Short (ltb c 0x10000) _ _ (omega arith) (omega arith)))
  where
    Short : List ℕ → Type 0
    Short s = length s ≤ 4

hex_long : (n v : ℕ) (s : List ℕ) → hex_worth n v s < 0x10000 → n ≤ length s
unfolding hex_worth pick
hex_long zero v s h = omega arith
hex_long (suc n) v [] h = absurd (omega arith)
hex_long (suc n) v (b ∷ s) h = go (eqb (hex_value b) 16) h (hex_long n (grown v (hex_value b)) s)
  where
    go : (t : Bool) → pick t 0x10000 (hex_worth n (grown v (hex_value b)) s) < 0x10000 → (hex_worth n (grown v (hex_value b)) s < 0x10000 → n ≤ length s) → suc n ≤ suc (length s)
    go true h ih = absurd (omega arith)
    go false h ih = omega (arith, ih h)

unit_fits : (d : ℕ) (s : List ℕ) → Fits (pick (eqb d letter_u) (pick (is_high (hex_worth 4 0 s)) (pick (is_low (hex_worth 4 0 (drop 6 s))) (char (spell (paired (hex_worth 4 0 s) (hex_worth 4 0 (drop 6 s)))) 11) closing) (pick (ltb (hex_worth 4 0 s) 0x10000) (char (spell (hex_worth 4 0 s)) 5) closing)) (char (named d ∷ []) 1)) (d ∷ s)
unit_fits d s =
    pick_either P (eqb d letter_u) _ _
    (pick_either P (is_high (hex_worth 4 0 s)) _ _
    (pick_case P (is_low (hex_worth 4 0 (drop 6 s))) _ _
    (λ e. let r = within_range 0xDC00 0xDFFF (hex_worth 4 0 (drop 6 s)) e in
    (omega (arith, spell_most (paired (hex_worth 4 0 s) (hex_worth 4 0 (drop 6 s)))), omega (arith, hex_long 4 0 (drop 6 s) (omega (arith, r.1)), length-drop 6 s)))
    (λ e. omega arith))
    (pick_case P (ltb (hex_worth 4 0 s) 0x10000) _ _
    (λ e. (omega (arith, spell_most (hex_worth 4 0 s)), omega (arith, hex_long 4 0 s (ltb-true _ _ e)))) (λ e. omega arith)))
    (omega arith, omega arith)
  where
    P : Char → Type 0
    P c = Fits c (d ∷ s)

escape_fits : (s : List ℕ) → Fits (escaped s) s
unfolding escaped
escape_fits [] = omega arith
escape_fits (d ∷ s) = unit_fits d s

char_fits : (b : ℕ) (s : List ℕ) → Fits (char_at b s) s
char_fits b s =
    pick_either (λ c. Fits c s) (eqb b quotation_mark) closing _ (omega arith)
    (pick_either (λ c. Fits c s) (eqb b escape) (escaped s) (char (b ∷ []) 0) (escape_fits s) (omega arith, omega arith))

characters_within : (s : List ℕ) (k : ℕ) → k ≤ length s → length (characters_from s k) + k ≤ length_from s k
unfolding characters_from length_from characters_by length_by
characters_within [] k l = omega arith
characters_within (b ∷ s) (suc k) l = omega (arith, characters_within s k (omega arith))
characters_within (b ∷ s) zero l = go (char_at b s) (char_fits b s) (characters_within s)
  where
    go : (c : Char) → Fits c s → ((k : ℕ) → k ≤ length s → length (characters_from s k) + k ≤ length_from s k) → length (characters_by c (characters_from s)) + 0 ≤ suc (length_by c (length_from s))
    go closing f ih = omega arith
    go (char bs k) f ih = omega (arith, f.0, ih k f.1, length_both bs (characters_from s k))

quoted_within : (s : List ℕ) (k : ℕ) → length_from s k ≤ length s
unfolding length_from length_by
quoted_within [] k = omega arith
quoted_within (b ∷ s) (suc k) = omega (arith, quoted_within s k)
quoted_within (b ∷ s) zero = go (char_at b s) (quoted_within s)
  where
    go : (c : Char) → ((k : ℕ) → length_from s k ≤ length s) → suc (length_by c (length_from s)) ≤ suc (length s)
    go closing ih = omega arith
    go (char bs k) ih = omega (arith, ih k)

-- ---- tokens

abbrev token_bytes : Token → ℕ
token_bytes (opens_array p) = 1
token_bytes (opens_object p) = 1
token_bytes (closes p) = 0
token_bytes (name p n) = suc (length n)
token_bytes (scalar v) = size v

unfoldable pub bytes_of : List Token → ℕ
bytes_of [] = 0
bytes_of (t ∷ ts) = token_bytes t + bytes_of ts

string_bytes : (p : ℕ) (s : List ℕ) → token_bytes (string_token p s) ≡ suc (length (characters s))
unfolding size
string_bytes p s = pick_either (λ t. token_bytes t ≡ suc (length (characters s))) (begins_by (λ b. eqb b name_separator) (after_run is_space (drop (quoted_length s) s))) (name p (characters s)) (scalar (string p (characters s))) refl refl

word_bytes : (p b : ℕ) (s : List ℕ) → token_bytes (word_token p b s) ≤ suc (span_len is_scalar s)
unfolding size name_bytes literal_size run_of
word_bytes p b s =
    pick_case (λ t. token_bytes t ≤ suc (span_len is_scalar s)) (is_small b) (scalar (literal p (b ∷ run_of is_scalar s))) (scalar (number p (b ∷ run_of is_scalar s)))
    (λ e. rw e (unfold pick in omega (arith, length-take (span_len is_scalar s) s))) (λ e. omega (arith, length-take (span_len is_scalar s) s))

pub scan_within : (s : List ℕ) (p k : ℕ) → bytes_of (scan s p k) ≤ length s - k
unfolding scan bytes_of
scan_within [] p k = omega arith
scan_within (b ∷ s) p (suc k) = omega (arith, scan_within s (p + 1) k)
scan_within (b ∷ s) p zero = omega (arith, by (scan s (p + 1)) (scan_within s (p + 1)))
  where
    by : (rest : ℕ → List Token) → ((k : ℕ) → bytes_of (rest k) ≤ length s - k) → bytes_of (tokens_by b s p rest) ≤ suc (length s)
    by rest h =
        pick_either P (is_separator b) (rest 0) _ (omega (arith, h 0))
        (pick_either P (eqb b begin_array) (opens_array p ∷ rest 0) _ (omega (arith, h 0))
        (pick_either P (eqb b begin_object) (opens_object p ∷ rest 0) _ (omega (arith, h 0))
        (pick_either P (is_closing b) (closes p ∷ rest 0) _ (omega (arith, h 0))
        (pick_either P (eqb b quotation_mark) (string_token p s ∷ rest (quoted_length s)) _
        (omega (arith, h (quoted_length s), string_bytes p s, characters_within s 0 (omega arith), quoted_within s 0))
        (omega (arith, h (span_len is_scalar s), word_bytes p b s, span_most is_scalar s))))))
      where
        P : List Token → Type 0
        P ts = bytes_of ts ≤ suc (length s)

-- ---- names before values

-- where a is true, a name stands before them
unfoldable pub valued : List Token → Bool → Bool
valued [] a = not a
valued (opens_array p ∷ ts) a = valued ts false
valued (opens_object p ∷ ts) a = valued ts false
valued (closes p ∷ ts) a = not a and valued ts false
valued (name p n ∷ ts) a = not a and valued ts true
valued (scalar v ∷ ts) a = valued ts false

pub valued_weaker : (ts : List Token) → valued ts true ≡ true → valued ts false ≡ true
unfolding valued ◌and◌ pick
valued_weaker [] h = absurd (false≢true h)
valued_weaker (opens_array p ∷ ts) h = h
valued_weaker (opens_object p ∷ ts) h = h
valued_weaker (closes p ∷ ts) h = absurd (false≢true h)
valued_weaker (name p n ∷ ts) h = absurd (false≢true h)
valued_weaker (scalar v ∷ ts) h = h

-- ---- what is open: arrays (true) and objects, the innermost first

-- the sizes of what tokens still add to them, from those d deeper on
unfoldable added : List Bool → List Token → ℕ → ℕ
added [] ts d = 0
added (true ∷ ks) ts d = sizes (elements ts d) + added ks ts (suc d)
added (false ∷ ks) ts d = member_sizes (members ts d) + added ks ts (suc d)

module _ (ts : List Token) where
  array_deeper : (p : ℕ) (ks : List Bool) (d : ℕ) → added ks (opens_array p ∷ ts) (suc d) ≡ added ks ts (suc (suc d))
  unfolding added elements members elements_by members_by
  array_deeper p [] d = refl
  array_deeper p (true ∷ ks) d = rw (array_deeper p ks (suc d))
  array_deeper p (false ∷ ks) d = rw (array_deeper p ks (suc d))

  object_deeper : (p : ℕ) (ks : List Bool) (d : ℕ) → added ks (opens_object p ∷ ts) (suc d) ≡ added ks ts (suc (suc d))
  unfolding added elements members elements_by members_by
  object_deeper p [] d = refl
  object_deeper p (true ∷ ks) d = rw (object_deeper p ks (suc d))
  object_deeper p (false ∷ ks) d = rw (object_deeper p ks (suc d))

  closes_deeper : (p : ℕ) (ks : List Bool) (d : ℕ) → added ks (closes p ∷ ts) (suc d) ≡ added ks ts d
  unfolding added elements members elements_by members_by
  closes_deeper p [] d = refl
  closes_deeper p (true ∷ ks) d = rw (closes_deeper p ks (suc d))
  closes_deeper p (false ∷ ks) d = rw (closes_deeper p ks (suc d))

  name_deeper : (p : ℕ) (n : List ℕ) (ks : List Bool) (d : ℕ) → added ks (name p n ∷ ts) (suc d) ≡ added ks ts (suc d)
  unfolding added elements members elements_by members_by
  name_deeper p n [] d = refl
  name_deeper p n (true ∷ ks) d = rw (name_deeper p n ks (suc d))
  name_deeper p n (false ∷ ks) d = rw (name_deeper p n ks (suc d))

  scalar_deeper : (v : Json) (ks : List Bool) (d : ℕ) → added ks (scalar v ∷ ts) (suc d) ≡ added ks ts (suc d)
  unfolding added elements members elements_by members_by
  scalar_deeper v [] d = refl
  scalar_deeper v (true ∷ ks) d = rw (scalar_deeper v ks (suc d))
  scalar_deeper v (false ∷ ks) d = rw (scalar_deeper v ks (suc d))

none_anywhere : (ks : List Bool) (d : ℕ) → added ks [] d ≡ 0
unfolding added elements members sizes member_sizes
none_anywhere [] d = refl
none_anywhere (true ∷ ks) d = omega (arith, none_anywhere ks (suc d))
none_anywhere (false ∷ ks) d = omega (arith, none_anywhere ks (suc d))

mutual
  unfolding added bytes_of valued elements members elements_by members_by size sizes member_sizes ◌and◌ pick

  added_within : (ts : List Token) → valued ts false ≡ true → (ks : List Bool) → added ks ts 0 ≤ bytes_of ts
  added_within [] h ks = omega (arith, none_anywhere ks 0)
  added_within (opens_array p ∷ ts) h [] = omega arith
  added_within (opens_array p ∷ ts) h (true ∷ ks) = omega (arith, array_deeper ts p ks 0, added_within ts h (true ∷ true ∷ ks))
  added_within (opens_array p ∷ ts) h (false ∷ ks) = omega (arith, array_deeper ts p ks 0, added_within ts h (true ∷ false ∷ ks))
  added_within (opens_object p ∷ ts) h [] = omega arith
  added_within (opens_object p ∷ ts) h (true ∷ ks) = omega (arith, object_deeper ts p ks 0, added_within ts h (false ∷ true ∷ ks))
  added_within (opens_object p ∷ ts) h (false ∷ ks) = omega (arith, object_deeper ts p ks 0, added_within ts h (false ∷ false ∷ ks))
  added_within (closes p ∷ ts) h [] = omega arith
  added_within (closes p ∷ ts) h (true ∷ ks) = omega (arith, closes_deeper ts p ks 0, added_within ts h ks)
  added_within (closes p ∷ ts) h (false ∷ ks) = omega (arith, closes_deeper ts p ks 0, added_within ts h ks)
  added_within (name p n ∷ ts) h [] = omega arith
  added_within (name p n ∷ ts) h (true ∷ ks) = omega (arith, name_deeper ts p n ks 0, added_within ts (valued_weaker ts h) (true ∷ ks))
  added_within (name p n ∷ ts) h (false ∷ ks) = omega (arith, name_deeper ts p n ks 0, named_within ts h ks)
  added_within (scalar v ∷ ts) h [] = omega arith
  added_within (scalar v ∷ ts) h (true ∷ ks) = omega (arith, scalar_deeper ts v ks 0, added_within ts h (true ∷ ks))
  added_within (scalar v ∷ ts) h (false ∷ ks) = omega (arith, scalar_deeper ts v ks 0, added_within ts h (false ∷ ks))

  -- behind a name in an object, which stands in the others
  named_within : (ts : List Token) → valued ts true ≡ true → (ks : List Bool) → size (first_of (elements ts 0)) + member_sizes (members ts 0) + added ks ts 1 ≤ bytes_of ts
  named_within [] h ks = absurd (false≢true h)
  named_within (opens_array p ∷ ts) h ks = omega (arith, array_deeper ts p ks 0, added_within ts h (true ∷ false ∷ ks))
  named_within (opens_object p ∷ ts) h ks = omega (arith, object_deeper ts p ks 0, added_within ts h (false ∷ false ∷ ks))
  named_within (closes p ∷ ts) h ks = absurd (false≢true h)
  named_within (name p n ∷ ts) h ks = absurd (false≢true h)
  named_within (scalar v ∷ ts) h ks = omega (arith, scalar_deeper ts v ks 0, added_within ts h (false ∷ ks))

first_size : (vs : Elements) (n : ℕ) → 1 ≤ n → sizes vs ≤ n → size (first_of vs) ≤ n
unfolding size sizes literal_size
first_size no_elements n l h = l
first_size (element v vs) n l h = omega arith

pub value_size : (s : List ℕ) → 1 ≤ length s → valued (scan s 0 0) false ≡ true → size (value_of s) ≤ length s
unfolding value_of added
value_size s l h = first_size (elements (scan s 0 0) 0) (length s) l (omega (arith, added_within (scan s 0 0) h (true ∷ []), scan_within s 0 0))
