-- The bytes of the grammar of RFC 8259, by its names, and what a string may name.
--     most_open    how many arrays and objects may be open at once
use Rattle.std.specs.Prelude.{Bool, List, [], ◌∷◌, ℕ, ◌+◌, ◌-◌, ◌*◌, ◌%◌, eqb}
use Rattle.octets.specs.Ascii.{ascii}
use Rattle.octets.specs.Pick.{pick, within, ◌or◌}
use Rattle.octets.specs.Class.{is_digit}

-- section 9: "An implementation may set limits on the maximum depth of nesting"
abbrev pub most_open : ℕ
most_open = 32

-- section 2: the structural characters
abbrev pub begin_array : ℕ
begin_array = 0x5B

abbrev pub end_array : ℕ
end_array = 0x5D

abbrev pub begin_object : ℕ
begin_object = 0x7B

abbrev pub end_object : ℕ
end_object = 0x7D

abbrev pub name_separator : ℕ
name_separator = 0x3A

abbrev pub value_separator : ℕ
value_separator = 0x2C

-- section 2: white space is space, TAB, LF, CR, as in XML: is_space of octets

-- section 3: the letters that follow the first of a literal, the next one lowest
abbrev pub word : List ℕ → ℕ
word [] = 0
word (b ∷ s) = b + 256 * word s

abbrev pub after_t : ℕ
after_t = word (ascii "rue")

abbrev pub after_f : ℕ
after_f = word (ascii "alse")

abbrev pub after_n : ℕ
after_n = word (ascii "ull")

-- section 6: the bytes of a number, beside DIGIT
abbrev pub minus : ℕ
minus = 0x2D

abbrev pub plus : ℕ
plus = 0x2B

abbrev pub is_sign : ℕ → Bool
is_sign b = eqb b minus or eqb b plus

abbrev pub digit_zero : ℕ
digit_zero = 0x30

abbrev pub decimal_point : ℕ
decimal_point = 0x2E

abbrev pub is_e : ℕ → Bool
is_e b = eqb b 0x65 or eqb b 0x45

-- section 7: strings
abbrev pub quotation_mark : ℕ
quotation_mark = 0x22

abbrev pub escape : ℕ
escape = 0x5C

abbrev pub letter_u : ℕ
letter_u = 0x75

-- an escape of two bytes that names quotation mark, reverse solidus, solidus, LF or TAB
abbrev pub names_good : ℕ → Bool
names_good b = eqb b 0x22 or eqb b 0x5C or eqb b 0x2F or eqb b 0x6E or eqb b 0x74

-- one that names backspace, form feed or CR
abbrev pub names_bad : ℕ → Bool
names_bad b = eqb b 0x62 or eqb b 0x66 or eqb b 0x72

-- the value of a HEXDIG, 16 for any other byte
abbrev pub hex_value : ℕ → ℕ
hex_value b =
    pick (is_digit b) (b - 0x30) (
    pick (within 0x41 0x46 b) (b - 0x37) (
    pick (within 0x61 0x66 b) (b - 0x57) 16))

-- the value of four digits, from that of the digits before the last and the last
abbrev pub grown : ℕ → ℕ → ℕ
grown v d = v % 0x1000 * 16 + d

-- section 7, after UTF-16: a pair is a high surrogate and a low one
abbrev pub is_high : ℕ → Bool
is_high v = within 0xD800 0xDBFF v

abbrev pub is_low : ℕ → Bool
is_low v = within 0xDC00 0xDFFF v

-- what a string may not name, of the code points that have an escape of their own: a low surrogate that is alone, a control other than TAB and LF,
-- DEL, U+FFFE, U+FFFF
abbrev pub named_bad : ℕ → Bool
named_bad v =
    is_low v or within 0x0 0x8 v or within 0xB 0x1F v or eqb v 0x7F or within 0xFFFE 0xFFFF v
