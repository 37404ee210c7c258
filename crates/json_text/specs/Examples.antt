-- By computation: texts and their verdicts, with at most 32 arrays and objects open but for the last ones; the value that a text states; strings written.
use Rattle.std.specs.Prelude.{◌≡◌, refl, List, [], ◌∷◌, map, ℕ, Option, None, Some}
use Prim.Native.String.{String}
use Rattle.octets.specs.Ascii.{ascii}
use Rattle.json_text.specs.Check.{verdict}
use Rattle.json_text.specs.Tree.{string, number, literal, array, object, no_elements, element, no_members, member, value_of}
use Rattle.json_text.specs.Write.{quoted, array_of, member_of, object_of}
use Rattle.json_text.specs.Computing.{json_compute}

abbrev verdicts : ℕ → List String → List (Option ℕ)
verdicts limit ts = map (λ (t : String). verdict limit (ascii t)) ts

-- texts of the grammar (the last is of RFC 8259, section 13, with less in it)
good : verdicts 32 (
    "null" ∷ " true " ∷ "[false]" ∷ "0" ∷ "-0" ∷ "-10.50e+07" ∷ "1E9" ∷ "1e-0" ∷ "[]" ∷ "{}" ∷ "[ ]\r\n" ∷ "{\t}" ∷
    "[[],{},[[]]]" ∷ "{\"\":{\"a\":[]},\"a\":1}" ∷ "\"\"" ∷ "\"a\\\"\\\\\\/\\n\\t\"" ∷ "\"\\u00e9\\uFFFD\"" ∷ "\"\\uD83D\\ude00\"" ∷ "[1 , 2\n]" ∷
    "{\n \"Image\": {\"Width\":  800, \"IDs\": [116, 943, 234, 38793]}\n}" ∷ [])
    ≡ None ∷ None ∷ None ∷ None ∷ None ∷ None ∷ None ∷ None ∷ None ∷ None ∷ None ∷ None ∷ None ∷ None ∷ None ∷ None ∷ None ∷ None ∷ None ∷ None ∷ []
unfolding json_compute
good = refl

-- outside the grammar, at the first byte that can't stand there
bad : verdicts 32 (
    "nulL" ∷ "truee" ∷ "01" ∷ "-a" ∷ "1.e" ∷ "1e+]" ∷ "+1" ∷ ".5" ∷ "[1,]" ∷ "[,1]" ∷ "[1 2]" ∷ "[1}" ∷
    "{\"a\"}" ∷ "{\"a\":1,}" ∷ "{a:1}" ∷ "{\"a\":1]" ∷ "]" ∷ "[]]" ∷ "1,2" ∷ "\"a\tb\"" ∷ "\"\\x\"" ∷ "\"\\u00g0\"" ∷ "'a'" ∷ "[] []" ∷ [])
    ≡ Some 3 ∷ Some 4 ∷ Some 1 ∷ Some 1 ∷ Some 2 ∷ Some 3 ∷ Some 0 ∷ Some 0 ∷ Some 3 ∷ Some 1 ∷ Some 3 ∷ Some 2 ∷
    Some 4 ∷ Some 7 ∷ Some 1 ∷ Some 6 ∷ Some 0 ∷ Some 2 ∷ Some 1 ∷ Some 2 ∷ Some 2 ∷ Some 5 ∷ Some 0 ∷ Some 3 ∷ []
unfolding json_compute
bad = refl

-- cut short: the length
short : verdicts 32 (
    "" ∷ "  " ∷ "nul" ∷ "-" ∷ "1." ∷ "1e" ∷ "1e-" ∷ "[" ∷ "[1" ∷ "[1," ∷ "{" ∷ "{\"a" ∷ "{\"a\"" ∷ "{\"a\":" ∷ "{\"a\":1" ∷ "\"" ∷ "\"\\" ∷ "\"\\u00" ∷ "\"\\uD83" ∷ "[[]" ∷ [])
    ≡ Some 0 ∷ Some 2 ∷ Some 3 ∷ Some 1 ∷ Some 2 ∷ Some 2 ∷ Some 3 ∷ Some 1 ∷ Some 2 ∷ Some 3 ∷ Some 1 ∷ Some 3 ∷ Some 4 ∷ Some 5 ∷ Some 6 ∷ Some 1 ∷ Some 2 ∷ Some 5 ∷ Some 6 ∷ Some 3 ∷ []
unfolding json_compute
short = refl

-- what a string may not name: controls, CR, DEL, U+FFFE, U+FFFF, at the escape
names : verdicts 32 (
    "\"\\b\"" ∷ "[\"a\\f\"]" ∷ "\"\\r\"" ∷ "\"\\u0000\"" ∷ "\"\\u000D\"" ∷ "\"\\u001f\"" ∷ "\"a\\u007F\"" ∷ "\"\\uFFFE\"" ∷ "\"\\uffff\"" ∷
    "\"\\u0009\\u000A\\u0020\"" ∷ "{\"\\u000b\":1}" ∷ "\"\\u001" ∷ "\"\\u000x" ∷ [])
    ≡ Some 1 ∷ Some 3 ∷ Some 1 ∷ Some 1 ∷ Some 1 ∷ Some 1 ∷ Some 2 ∷ Some 1 ∷ Some 1 ∷
    None ∷ Some 2 ∷ Some 6 ∷ Some 6 ∷ []
unfolding json_compute
names = refl

-- a surrogate that is alone, at its escape, also where the text is cut short or breaks off the grammar behind it
surrogates : verdicts 32 (
    "\"\\uDC00\"" ∷ "\"\\uD800\"" ∷ "\"a\\uD800b\"" ∷ "\"\\uD800\\n\"" ∷ "\"\\uD800\\uD800\\uDC00\"" ∷ "\"\\uD800\\u0041\"" ∷ "\"\\uDBFF\\uE000\"" ∷
    "\"\\uD800" ∷ "\"\\uD800\\" ∷ "\"\\uD800\\uDC0" ∷ "\"\\uD800\\x" ∷ "\"\\uD800\\uDCxx" ∷ "\"\\uD800\\uDC00" ∷ "\"\\uD800\\uDC00\\uDC00\"" ∷ [])
    ≡ Some 1 ∷ Some 1 ∷ Some 2 ∷ Some 1 ∷ Some 1 ∷ Some 1 ∷ Some 1 ∷
    Some 1 ∷ Some 1 ∷ Some 1 ∷ Some 1 ∷ Some 1 ∷ Some 13 ∷ Some 13 ∷ []
unfolding json_compute
surrogates = refl

-- an opening past the limit, at its byte
deep : verdicts 2 ("[[]]" ∷ "[[],{}]" ∷ "[[[]]]" ∷ "[{\"a\":{}}]" ∷ "[[1,[" ∷ [])
    ≡ None ∷ None ∷ Some 2 ∷ Some 6 ∷ Some 4 ∷ []
unfolding json_compute
deep = refl

limit : verdicts 32 (
    "[[[[[[[[[[[[[[[[[[[[[[[[[[[[[[[[]]]]]]]]]]]]]]]]]]]]]]]]]]]]]]]]" ∷
    "[[[[[[[[[[[[[[[[[[[[[[[[[[[[[[[[[]" ∷ [])
    ≡ None ∷ Some 32 ∷ []
unfolding json_compute
limit = refl

-- ---- values

tree : value_of (ascii " [\"a\\n\", {\"b\" : [-1.5e2], \"c\":{}} ,true]") ≡
    array 1 39 (
    element (string 2 (ascii "a\n"))
    (element (object 9 32 (member (ascii "b") (array 16 23 (element (number 17 (ascii "-1.5e2")) no_elements)) (member (ascii "c") (object 30 31 no_members) no_members)))
    (element (literal 35 (ascii "true")) no_elements)))
unfolding json_compute
tree = refl

-- escapes: of two bytes, of a code point, of a pair (U+1F600)
strings : map (λ (t : String). value_of (ascii t)) ("\"\\\"\\\\\\/\\n\\t\"" ∷ "\"\\u00E9\\u0041\"" ∷ "\"\\uD83D\\uDE00!\"" ∷ [])
    ≡ string 0 (ascii "\"\\/\n\t") ∷ string 0 (0xC3 ∷ 0xA9 ∷ 0x41 ∷ []) ∷ string 0 (0xF0 ∷ 0x9F ∷ 0x98 ∷ 0x80 ∷ 33 ∷ []) ∷ []
unfolding json_compute
strings = refl

-- ---- writing

writes : quoted (ascii "a\"b\\\n\t/") ∷ array_of [] ∷ object_of (member_of (ascii "a") (ascii "1") ∷ member_of (ascii "b") (array_of (ascii "true" ∷ quoted [] ∷ [])) ∷ []) ∷ []
    ≡ ascii "\"a\\\"b\\\\\\n\\t/\"" ∷ ascii "[]" ∷ ascii "{\"a\":1,\"b\":[true,\"\"]}" ∷ []
unfolding json_compute
writes = refl
