-- How long elements and character data are.
--     rate                          how many bytes of XML a byte of text comes to, at most: a comma between parameter values comes to `<unknown></unknown>`
--     element_length                an element: its name twice, five bytes of tags, its content
--     escaped-length                an entity is of five bytes at most
--     text_element_length           an element of character data
use Rattle.std.specs.Prelude.{◌≡◌, List, [], ◌∷◌, ℕ, ◌+◌, ◌*◌, ◌≤◌, eqb, length}
use Rattle.std.proofs.Common.{arith}
use Rattle.octets.specs.Ascii.{ascii}
use Rattle.octets.specs.laws.Pick.{pick_either}
use Rattle.octets.specs.Append.{◌⊕◌}
use Rattle.octets.specs.laws.Append.{length_both}
use Rattle.xml.specs.Escape.{escaped_byte, escaped, start_tag, end_tag, element_of}
use Rattle.xcal.specs.WriteXml.{text_element}

abbrev pub rate : ℕ
rate = 19

pub element_length : (n c : List ℕ) → length (element_of n c) ≡ 2 * length n + 5 + length c
element_length n c =
    let outer = length_both (start_tag n) (c ⊕ end_tag n) in
    let start = length_both (ascii "<") (n ⊕ ascii ">") in
    let ending = length_both (ascii "</") (n ⊕ ascii ">") in
    omega (arith, outer, length_both c (end_tag n), start, ending, length_both n (ascii ">"))

escaped_byte_lem : (b : ℕ) → length (escaped_byte b) ≤ 5
escaped_byte_lem b =
    pick_either Short (eqb b 38) (ascii "&amp;") _ (omega arith)
    (pick_either Short (eqb b 60) (ascii "&lt;") _ (omega arith) (pick_either Short (eqb b 62) (ascii "&gt;") (b ∷ []) (omega arith) (omega arith)))
  where
    Short : List ℕ → Type 0
    Short s = length s ≤ 5

pub escaped-length : (s : List ℕ) → length (escaped s) ≤ 5 * length s
unfolding escaped
escaped-length [] = omega arith
escaped-length (b ∷ s) = omega (arith, length_both (escaped_byte b) (escaped s), escaped_byte_lem b, escaped-length s)

pub text_element_length : (n s : List ℕ) → length (text_element n s) ≤ 2 * length n + 5 + 5 * length s
text_element_length n s = omega (arith, element_length n (escaped s), escaped-length s)
