-- The check of a JSON text (RFC 8259), a byte at a time.
--     move     what a byte does, in the state that the bytes before it lead to
--     verdict  None, or the place of the fault
-- A state is what the bytes so far are the beginning of, by the grammar's rules:
--     Expects   between tokens. Value: a value must come. ValueOrEnd: after `[`. NameOrEnd: after `{`. Name: after `,` in an object.
--               Colon: after a name. After: after a value
--     InLiteral     in `true`, `false` or `null`, with the letters still to come
--     InNumber      in a number, after: Minus its `-`; Zero a leading 0; Int digits of `int`; Point the decimal point; Frac digits of
--                   `frac`; E the `e`; Sign the sign of `exp`; Exp digits of `exp`
--     InString name in a string, which is a member's name or a value. Chars: between its characters. Escape from: after the reverse
--                   solidus at `from`. Hex from n v: in `\uXXXX`, with n digits to come behind the next one, and v the value of those before.
--                   High from: behind the high surrogate whose escape is at `from`. HighEscape, Low: in the escape that must follow it
-- The list `cs` has the arrays and objects that are open, the innermost first.
-- A fault of the grammar is at the byte for which `move` says Bad i: the first at which no text of the grammar can go on. For in each state
-- the bytes before are the beginning of a text: close the string (hex digits first), complete the number by a digit or the literal by its letters, give the
-- name, colon and value that are wanted (`"":0`), and close what is open, the innermost first. And in each state `move` is Bad i just for bytes that the rule
-- being read does not have there. The other faults are those of a text that the grammar may well have: a string that names what it may not, at its
-- escape (Bad from), and an opening past the limit. Each is told as soon as it is sure, so that no fault before it in the text is passed over: after a high
-- surrogate's escape whatever is not the whole escape of a low one, the end of the text too, is its fault and so at `from`.
-- Bytes from 0x20 on stand for themselves in a string: which characters a text may hold, and that it is UTF-8, is checked before.
use Rattle.std.specs.Prelude.{Bool, true, false, List, [], ◌∷◌, ℕ, ◌+◌, ◌-◌, ◌/◌, ◌%◌, eqb, ltb, length, Option, None, Some}
use Rattle.octets.specs.Pick.{pick}
use Rattle.octets.specs.Class.{is_space, is_digit}
use Rattle.json_text.specs.Bytes.{begin_array, end_array, begin_object, end_object, name_separator, value_separator, after_t, after_f, after_n, minus, is_sign, digit_zero, decimal_point, is_e, quotation_mark, escape, letter_u, names_good, names_bad, hex_value, grown, is_high, is_low, named_bad}
use Rattle.json_text.specs.declared.Around.{Around}
use Rattle.json_text.specs.declared.Around.TheVariants.{Nothing, Array, Object}
use Rattle.json_text.specs.declared.Expect.{Expect}
use Rattle.json_text.specs.declared.Expect.TheVariants.{Value, ValueOrEnd, Name, NameOrEnd, Colon, After}
use Rattle.json_text.specs.declared.Number.{Number}
use Rattle.json_text.specs.declared.Number.TheVariants.{Minus, Zero, Int, Point, Frac, E, Sign, Exp}
use Rattle.json_text.specs.declared.Inside.{Inside}
use Rattle.json_text.specs.declared.Inside.TheVariants.{Chars, Escape, Hex, High, HighEscape, Low}
use Rattle.json_text.specs.declared.State.{State}
use Rattle.json_text.specs.declared.State.TheVariants.{Expects, InLiteral, InNumber, InString}
use Rattle.json_text.specs.declared.Move.{Move}
use Rattle.json_text.specs.declared.Move.TheVariants.{To, OpenArray, OpenObject, Close, Bad}

-- ---- between tokens (sections 2 to 5)

-- the first byte of a number or a literal
abbrev pub scalar : ℕ → ℕ → Move
scalar i b =
    pick (eqb b minus) (To (InNumber Minus)) (
    pick (eqb b digit_zero) (To (InNumber Zero)) (
    pick (is_digit b) (To (InNumber Int)) (
    pick (eqb b 0x74) (To (InLiteral after_t)) (
    pick (eqb b 0x66) (To (InLiteral after_f)) (
    pick (eqb b 0x6E) (To (InLiteral after_n)) (
    Bad i))))))

-- the first byte of a value
abbrev pub value : ℕ → ℕ → Move
value i b =
    pick (eqb b quotation_mark) (To (InString false Chars)) (
    pick (eqb b begin_array) OpenArray (
    pick (eqb b begin_object) OpenObject (
    scalar i b)))

-- the first byte of a name
abbrev pub name : ℕ → ℕ → Move
name i b = pick (eqb b quotation_mark) (To (InString true Chars)) (Bad i)

-- behind a value, in an array, in an object or in neither
abbrev pub after_by : Around → ℕ → ℕ → Move
after_by Nothing i b = Bad i
after_by Array i b = pick (eqb b value_separator) (To (Expects Value)) (pick (eqb b end_array) Close (Bad i))
after_by Object i b = pick (eqb b value_separator) (To (Expects Name)) (pick (eqb b end_object) Close (Bad i))

abbrev pub after : Around → ℕ → ℕ → Move
after a i b = pick (is_space b) (To (Expects After)) (after_by a i b)

abbrev pub expected : Expect → Around → ℕ → ℕ → Move
expected Value a i b = value i b
expected ValueOrEnd a i b = pick (eqb b end_array) Close (value i b)
expected Name a i b = name i b
expected NameOrEnd a i b = pick (eqb b end_object) Close (name i b)
expected Colon a i b = pick (eqb b name_separator) (To (Expects Value)) (Bad i)
expected After a i b = after_by a i b

abbrev pub between : Expect → Around → ℕ → ℕ → Move
between e a i b = pick (is_space b) (To (Expects e)) (expected e a i b)

-- ---- literals (section 3)

abbrev pub literal : ℕ → ℕ → ℕ → Move
literal w i b = pick (eqb b (w % 256)) (pick (eqb (w / 256) 0) (To (Expects After)) (To (InLiteral (w / 256)))) (Bad i)

-- ---- numbers (section 6)

-- a digit must come
abbrev pub digit : Number → ℕ → ℕ → Move
digit n i b = pick (is_digit b) (To (InNumber n)) (Bad i)

-- an exponent or the number's end
abbrev pub exponent : Around → ℕ → ℕ → Move
exponent a i b = pick (is_e b) (To (InNumber E)) (after a i b)

-- a fraction, an exponent or the number's end
abbrev pub fraction : Around → ℕ → ℕ → Move
fraction a i b = pick (eqb b decimal_point) (To (InNumber Point)) (exponent a i b)

abbrev pub number : Number → Around → ℕ → ℕ → Move
number Minus a i b = pick (eqb b digit_zero) (To (InNumber Zero)) (digit Int i b)
number Zero a i b = fraction a i b
number Int a i b = pick (is_digit b) (To (InNumber Int)) (fraction a i b)
number Point a i b = digit Frac i b
number Frac a i b = pick (is_digit b) (To (InNumber Frac)) (exponent a i b)
number E a i b = pick (is_sign b) (To (InNumber Sign)) (digit Exp i b)
number Sign a i b = digit Exp i b
number Exp a i b = pick (is_digit b) (To (InNumber Exp)) (after a i b)

-- ---- strings (section 7)

-- the state behind a string
abbrev pub behind : Bool → Move
behind n = pick n (To (Expects Colon)) (To (Expects After))

abbrev pub chars : Bool → ℕ → ℕ → Move
chars n i b =
    pick (eqb b quotation_mark) (behind n) (
    pick (eqb b escape) (To (InString n (Escape i))) (
    pick (ltb b 0x20) (Bad i) (
    To (InString n Chars))))

abbrev pub escaped : Bool → ℕ → ℕ → ℕ → Move
escaped n from i b =
    pick (eqb b letter_u) (To (InString n (Hex from 3 0))) (
    pick (names_good b) (To (InString n Chars)) (
    pick (names_bad b) (Bad from) (
    Bad i)))

-- what a code unit that an escape names leads to
abbrev pub named : Bool → ℕ → ℕ → Move
named n from v =
    pick (is_high v) (To (InString n (High from))) (
    pick (named_bad v) (Bad from) (
    To (InString n Chars)))

abbrev pub hex : Bool → ℕ → ℕ → ℕ → ℕ → ℕ → Move
hex n from k v i d =
    pick (eqb d 16) (Bad i) (
    pick (eqb k 0) (named n from (grown v d)) (
    To (InString n (Hex from (k - 1) (grown v d)))))

-- what a code unit leads to that the escape behind a high surrogate names
abbrev pub low_pair : Bool → ℕ → ℕ → Move
low_pair n from v = pick (is_low v) (To (InString n Chars)) (Bad from)

abbrev pub low : Bool → ℕ → ℕ → ℕ → ℕ → Move
low n from k v d =
    pick (eqb d 16) (Bad from) (
    pick (eqb k 0) (low_pair n from (grown v d)) (
    To (InString n (Low from (k - 1) (grown v d)))))

abbrev pub string : Inside → Bool → ℕ → ℕ → Move
string Chars n i b = chars n i b
string (Escape from) n i b = escaped n from i b
string (Hex from k v) n i b = hex n from k v i (hex_value b)
string (High from) n i b = pick (eqb b escape) (To (InString n (HighEscape from))) (Bad from)
string (HighEscape from) n i b = pick (eqb b letter_u) (To (InString n (Low from 3 0))) (Bad from)
string (Low from k v) n i b = low n from k v (hex_value b)

-- ---- the whole text

-- the byte b at the place i, inside a
abbrev pub move : State → Around → ℕ → ℕ → Move
move (Expects e) a i b = between e a i b
move (InLiteral w) a i b = literal w i b
move (InNumber n) a i b = number n a i b
move (InString n t) a i b = string t n i b

-- the end of the text, which has l bytes: a value has ended, and nothing is open
abbrev pub closed : Around → ℕ → Option ℕ
closed Nothing l = None
closed Array l = Some l
closed Object l = Some l

abbrev pub number_end : Number → Around → ℕ → Option ℕ
number_end Minus a l = Some l
number_end Zero a l = closed a l
number_end Int a l = closed a l
number_end Point a l = Some l
number_end Frac a l = closed a l
number_end E a l = Some l
number_end Sign a l = Some l
number_end Exp a l = closed a l

abbrev pub string_end : Inside → ℕ → Option ℕ
string_end Chars l = Some l
string_end (Escape from) l = Some l
string_end (Hex from k v) l = Some l
string_end (High from) l = Some from
string_end (HighEscape from) l = Some from
string_end (Low from k v) l = Some from

abbrev pub expect_end : Expect → Around → ℕ → Option ℕ
expect_end Value a l = Some l
expect_end ValueOrEnd a l = Some l
expect_end Name a l = Some l
expect_end NameOrEnd a l = Some l
expect_end Colon a l = Some l
expect_end After a l = closed a l

abbrev pub end : State → Around → ℕ → Option ℕ
end (Expects e) a l = expect_end e a l
end (InLiteral w) a l = Some l
end (InNumber n) a l = number_end n a l
end (InString n t) a l = string_end t l

-- an open array or object
pub data Container : Type 0 where
  array : Container
  object : Container

abbrev pub around : List Container → Around
around [] = Nothing
around (array ∷ cs) = Array
around (object ∷ cs) = Object

abbrev pub outer : List Container → List Container
outer [] = []
outer (c ∷ cs) = cs

-- what a move leads to, with the rest of the text checked by `rest`
unfoldable pub followed : Move → ℕ → ℕ → List Container → (State → List Container → Option ℕ) → Option ℕ
followed (To st) limit i cs rest = rest st cs
followed OpenArray limit i cs rest = pick (ltb (length cs) limit) (rest (Expects ValueOrEnd) (array ∷ cs)) (Some i)
followed OpenObject limit i cs rest = pick (ltb (length cs) limit) (rest (Expects NameOrEnd) (object ∷ cs)) (Some i)
followed Close limit i cs rest = rest (Expects After) (outer cs)
followed (Bad p) limit i cs rest = Some p

-- the rest s of a text, from the place i on
unfoldable pub check : List ℕ → ℕ → ℕ → State → List Container → Option ℕ
check [] limit i st cs = end st (around cs) i
check (b ∷ s) limit i st cs = followed (move st (around cs) i b) limit i cs (check s limit (i + 1))

-- a text, with at most `limit` arrays and objects open at once
abbrev pub verdict : ℕ → List ℕ → Option ℕ
verdict limit s = check s limit 0 (Expects Value) []
