-- The grammar of RFC 8259, rule by rule. A type for each rule has the ways to derive it; its spelling is the bytes that are derived.
--     Text, spelled_text         JSON-text
--     Value, spelled_value       value;  Literal, Member, Number, Char and others: the rules below it
-- Beside the grammar:
--     depth                      how many arrays and objects stand inside one another
--     may_name                   whether escapes name only what they may
--     GrammarText most s         s is a text of the grammar with at most `most` arrays and objects open at once
--     JsonText most s            and its strings name only what they may
-- `Check` of crate json_text goes a byte at a time; it accepts exactly the texts of JsonText (laws/JsonGrammar).
-- A char above ASCII is a run of bytes from 0x80 on, each of which counts as a char: that a text is UTF-8 is checked before.
use Rattle.std.specs.Prelude.{◌≡◌, Bool, true, false, not, List, [], ◌∷◌, ℕ, ◌+◌, ◌*◌, max, ◌≤◌, eqb, leb, Option, None, Some}
use Rattle.octets.specs.Ascii.{ascii}
use Rattle.octets.specs.Pick.{pick, within, ◌and◌, ◌or◌}
use Rattle.octets.specs.Append.{◌⊕◌}
use Rattle.octets.specs.Class.{is_space, is_digit}
use Rattle.json_text.specs.Bytes.{begin_array, end_array, begin_object, end_object, name_separator, value_separator, minus, is_sign, digit_zero, decimal_point, is_e, quotation_mark, escape, letter_u, names_bad, hex_value, is_high, is_low, named_bad}

-- ---- terminals

-- a byte that passes a test
pub record Byte (p : ℕ → Bool) : Type 0 where
  pub byte : ℕ
  pub passes : p byte ≡ true

-- *p
unfoldable pub spelled_bytes : {p : ℕ → Bool} → List (Byte p) → List ℕ
spelled_bytes [] = []
spelled_bytes (b ∷ bs) = b.byte ∷ spelled_bytes bs

-- [ rule ]
unfoldable pub optional : {A : Type 0} → (A → List ℕ) → Option A → List ℕ
optional spelled None = []
optional spelled (Some a) = spelled a

-- ---- section 2

--   ws = *( %x20 / %x09 / %x0A / %x0D )          space, TAB, LF, CR
abbrev pub Ws : Type 0
Ws = List (Byte is_space)

--   begin-array     = ws %x5B ws  ; [ left square bracket
--   begin-object    = ws %x7B ws  ; { left curly bracket
--   end-array       = ws %x5D ws  ; ] right square bracket
--   end-object      = ws %x7D ws  ; } right curly bracket
--   name-separator  = ws %x3A ws  ; : colon
--   value-separator = ws %x2C ws  ; , comma
pub record Structural : Type 0 where
  pub before : Ws
  pub behind : Ws

abbrev pub structural : ℕ → Structural → List ℕ
structural c m = spelled_bytes m.before ⊕ (c ∷ spelled_bytes m.behind)

-- ---- section 3

--   false = %x66.61.6c.73.65   ; false
--   null  = %x6e.75.6c.6c      ; null
--   true  = %x74.72.75.65      ; true
pub data Literal : Type 0 where
  false_name null_name true_name : Literal

abbrev pub spelled_literal : Literal → List ℕ
spelled_literal false_name = ascii "false"
spelled_literal null_name = ascii "null"
spelled_literal true_name = ascii "true"

-- ---- section 6

--   1*DIGIT
pub record Digits : Type 0 where
  pub first : Byte is_digit
  pub more : List (Byte is_digit)

abbrev pub spelled_digits : Digits → List ℕ
spelled_digits d = d.first.byte ∷ spelled_bytes d.more

--   exp = e [ minus / plus ] 1*DIGIT
pub record Exp : Type 0 where
  pub e : Byte is_e
  pub sign : Option (Byte is_sign)
  pub digits : Digits

abbrev pub spelled_sign : Byte is_sign → List ℕ
spelled_sign b = b.byte ∷ []

abbrev pub spelled_exp : Exp → List ℕ
spelled_exp x = x.e.byte ∷ (optional spelled_sign x.sign ⊕ spelled_digits x.digits)

--   frac = decimal-point 1*DIGIT
abbrev pub spelled_frac : Digits → List ℕ
spelled_frac d = decimal_point ∷ spelled_digits d

--   digit1-9 = %x31-39
abbrev pub is_digit1_9 : ℕ → Bool
is_digit1_9 b = within 0x31 0x39 b

--   int = zero / ( digit1-9 *DIGIT )
pub data Int : Type 0 where
  zero_int : Int
  digits_int : Byte is_digit1_9 → List (Byte is_digit) → Int

abbrev pub spelled_int : Int → List ℕ
spelled_int zero_int = digit_zero ∷ []
spelled_int (digits_int b bs) = b.byte ∷ spelled_bytes bs

--   number = [ minus ] int [ frac ] [ exp ]
pub record Number : Type 0 where
  pub has_minus : Bool
  pub int : Int
  pub frac : Option Digits
  pub exp : Option Exp

abbrev pub spelled_number : Number → List ℕ
spelled_number n = pick n.has_minus (minus ∷ []) [] ⊕ (spelled_int n.int ⊕ (optional spelled_frac n.frac ⊕ optional spelled_exp n.exp))

-- ---- section 7

--   unescaped = %x20-21 / %x23-5B / %x5D-10FFFF
abbrev pub is_unescaped : ℕ → Bool
is_unescaped b = within 0x20 0x21 b or within 0x23 0x5B b or leb 0x5D b

--   " \ / b f n r t
abbrev pub is_escaped : ℕ → Bool
is_escaped b = eqb b 0x22 or eqb b 0x5C or eqb b 0x2F or eqb b 0x62 or eqb b 0x66 or eqb b 0x6E or eqb b 0x72 or eqb b 0x74

--   HEXDIG, of RFC 5234: "The hexadecimal letters A through F can be uppercase or lowercase."
abbrev pub is_hexdig : ℕ → Bool
is_hexdig b = is_digit b or within 0x41 0x46 b or within 0x61 0x66 b

--   char = unescaped / escape ( %x22 / %x5C / %x2F / %x62 / %x66 / %x6E / %x72 / %x74 / %x75 4HEXDIG )
pub data Char : Type 0 where
  unescaped : Byte is_unescaped → Char
  escaped : Byte is_escaped → Char
  escaped_unit : Byte is_hexdig → Byte is_hexdig → Byte is_hexdig → Byte is_hexdig → Char

abbrev pub spelled_char : Char → List ℕ
spelled_char (unescaped b) = b.byte ∷ []
spelled_char (escaped b) = escape ∷ b.byte ∷ []
spelled_char (escaped_unit a b c d) = escape ∷ letter_u ∷ a.byte ∷ b.byte ∷ c.byte ∷ d.byte ∷ []

unfoldable pub spelled_chars : List Char → List ℕ
spelled_chars [] = []
spelled_chars (u ∷ us) = spelled_char u ⊕ spelled_chars us

--   string = quotation-mark *char quotation-mark
abbrev pub spelled_string : List Char → List ℕ
spelled_string us = quotation_mark ∷ (spelled_chars us ⊕ (quotation_mark ∷ []))

-- ---- sections 3, 4, 5

mutual
  --   value = false / null / true / object / array / number / string
  --   object = begin-object [ member *( value-separator member ) ] end-object
  --   array = begin-array [ value *( value-separator value ) ] end-array
  pub data Value : Type 0 where
    literal : Literal → Value
    empty_object : Structural → Structural → Value
    object : Structural → Member → Members → Structural → Value
    empty_array : Structural → Structural → Value
    array : Structural → Value → Values → Structural → Value
    number : Number → Value
    string : List Char → Value

  --   member = string name-separator value
  pub data Member : Type 0 where
    member : List Char → Structural → Value → Member

  --   *( value-separator member )
  pub data Members : Type 0 where
    no_members : Members
    and_member : Structural → Member → Members → Members

  --   *( value-separator value )
  pub data Values : Type 0 where
    no_values : Values
    and_value : Structural → Value → Values → Values

unfoldable mutual
  pub spelled_value : Value → List ℕ
  spelled_value (literal l) = spelled_literal l
  spelled_value (empty_object o e) = structural begin_object o ⊕ structural end_object e
  spelled_value (object o m ms e) = structural begin_object o ⊕ (spelled_member m ⊕ (spelled_members ms ⊕ structural end_object e))
  spelled_value (empty_array o e) = structural begin_array o ⊕ structural end_array e
  spelled_value (array o v vs e) = structural begin_array o ⊕ (spelled_value v ⊕ (spelled_values vs ⊕ structural end_array e))
  spelled_value (number n) = spelled_number n
  spelled_value (string us) = spelled_string us

  pub spelled_member : Member → List ℕ
  spelled_member (member us c v) = spelled_string us ⊕ (structural name_separator c ⊕ spelled_value v)

  pub spelled_members : Members → List ℕ
  spelled_members no_members = []
  spelled_members (and_member c m ms) = structural value_separator c ⊕ (spelled_member m ⊕ spelled_members ms)

  pub spelled_values : Values → List ℕ
  spelled_values no_values = []
  spelled_values (and_value c v vs) = structural value_separator c ⊕ (spelled_value v ⊕ spelled_values vs)

-- ---- section 2

--   JSON-text = ws value ws
pub record Text : Type 0 where
  pub before : Ws
  pub value : Value
  pub behind : Ws

abbrev pub spelled_text : Text → List ℕ
spelled_text t = spelled_bytes t.before ⊕ (spelled_value t.value ⊕ spelled_bytes t.behind)

-- ---- beside the grammar: depth (section 9: "An implementation may set limits on the maximum depth of nesting")

unfoldable mutual
  pub depth : Value → ℕ
  depth (literal l) = 0
  depth (empty_object o e) = 1
  depth (object o m ms e) = 1 + max (depth_member m) (depth_members ms)
  depth (empty_array o e) = 1
  depth (array o v vs e) = 1 + max (depth v) (depth_values vs)
  depth (number n) = 0
  depth (string us) = 0

  pub depth_member : Member → ℕ
  depth_member (member us c v) = depth v

  pub depth_members : Members → ℕ
  depth_members no_members = 0
  depth_members (and_member c m ms) = max (depth_member m) (depth_members ms)

  pub depth_values : Values → ℕ
  depth_values no_values = 0
  depth_values (and_value c v vs) = max (depth v) (depth_values vs)

-- ---- beside the grammar: what escapes may name (section 8.2 leaves the meaning of lone surrogates open; refusal CHARACTER has the rest)

-- the code unit that four digits state
abbrev pub code_unit : ℕ → ℕ → ℕ → ℕ → ℕ
code_unit a b c d = 0x1000 * hex_value a + 0x100 * hex_value b + 0x10 * hex_value c + hex_value d

-- with the code unit v: behind a high surrogate it must be a low one; else it may be a high one, or a character that a text may hold
abbrev pub may_name_unit : Bool → ℕ → (Bool → Bool) → Bool
may_name_unit true v rest = is_low v and rest false
may_name_unit false v rest = pick (is_high v) (rest true) (not (named_bad v) and rest false)

-- the characters of a string; `high` tells whether an escape has just named a high surrogate
unfoldable pub may_name : List Char → Bool → Bool
may_name [] high = not high
may_name (unescaped b ∷ us) high = not high and may_name us false
may_name (escaped b ∷ us) high = not high and not (names_bad b.byte) and may_name us false
may_name (escaped_unit a b c d ∷ us) high = may_name_unit high (code_unit a.byte b.byte c.byte d.byte) (may_name us)

-- each string and each name passes a test
unfoldable mutual
  pub every_string : (List Char → Bool) → Value → Bool
  every_string p (literal l) = true
  every_string p (empty_object o e) = true
  every_string p (object o m ms e) = every_string_member p m and every_string_members p ms
  every_string p (empty_array o e) = true
  every_string p (array o v vs e) = every_string p v and every_string_values p vs
  every_string p (number n) = true
  every_string p (string us) = p us

  pub every_string_member : (List Char → Bool) → Member → Bool
  every_string_member p (member us c v) = p us and every_string p v

  pub every_string_members : (List Char → Bool) → Members → Bool
  every_string_members p no_members = true
  every_string_members p (and_member c m ms) = every_string_member p m and every_string_members p ms

  pub every_string_values : (List Char → Bool) → Values → Bool
  every_string_values p no_values = true
  every_string_values p (and_value c v vs) = every_string p v and every_string_values p vs

-- ---- the texts

pub record GrammarText (most : ℕ) (s : List ℕ) : Type 0 where
  pub text : Text
  pub is : s ≡ spelled_text text
  pub deep : depth text.value ≤ most

pub record JsonText (most : ℕ) (s : List ℕ) : Type 0 where
  pub text : Text
  pub is : s ≡ spelled_text text
  pub deep : depth text.value ≤ most
  pub names : every_string (λ us. may_name us false) text.value ≡ true
