-- The length of an unfolded text's document grows no faster than the text's, whether the text is accepted or not.
--     xml_bound    `rate` bytes for each byte of the text, and 109 for the document around it;   xml_fits: an output that has them is long enough
--     text_cost    what the lines of a text come to
--     xml_short    of a text within the limit
use Rattle.std.specs.Prelude.{◌≡◌, refl, Bool, true, false, List, [], ◌∷◌, map, ℕ, zero, suc, ◌+◌, ◌-◌, ◌*◌, ◌^◌, ◌≤◌, ◌<◌, length, Option, None, Some, option_map}
use native.Mathlib.Omega.{arith}
use Rattle.octets.specs.Ascii.{ascii}
use Rattle.octets.specs.Pick.{pick}
use Rattle.octets.specs.laws.Pick.{pick_either}
use Rattle.octets.specs.Append.{◌⊕◌, joined}
use Rattle.octets.specs.laws.Append.{length_both}
use Rattle.octets.specs.Class.{upper}
use Rattle.octets.specs.Words.{same, starts, each_after, joined_by}
use Rattle.octets.specs.laws.Words.{starts-length}
use Rattle.octets.specs.laws.Letters.{upper-length}
use Rattle.calendar.specs.Calendar.{Components}
use Rattle.calendar.specs.Levels.{levels}
use Rattle.folding.specs.Unfold.{crlf}
use Rattle.folding.specs.Lines.{Line, whole, loose, longer, line_step, lines_after, lines}
use Rattle.edition.specs.Edition.{decode}
use Rattle.edition.specs.laws.Carets.{decode_short}
use Rattle.edition.specs.declared.Edition.{Edition}
use Rattle.read_text_line.specs.ContentLine.{ParamValue, RawParameter, ContentLine, content_line}
use Rattle.read_text_line.specs.Write.{write_param_value, write_parameter, write_content_line}
use Rattle.read_text_line.specs.Decoded.{decoded_value, decoded_parameter, decoded_line}
use Rattle.read_text_line.specs.laws.Accepted.{content_line_write_back}
use Rattle.text.specs.Tree.{Entry, begin, end, property, entry_by, entry_of, calendar_of}
use Rattle.xml.specs.Escape.{root_start}
use Rattle.xcal.specs.WriteXml.{components_xml, declaration, root_end, write_document}
use Rattle.lengths_xml.specs.laws.Elements.{rate}
use Rattle.lengths_xml.specs.laws.Parameters.{bytes}
use Rattle.lengths_xml.specs.laws.Properties.{line_length}
use Rattle.lengths_xml.specs.laws.Depths.{cost, costs, nested_length}

-- ---- the lines of a text

-- how many bytes the whole lines have, with the two that end each
unfoldable line_bytes : List Line → ℕ
line_bytes [] = 0
line_bytes (whole p s ∷ ls) = length s + 2 + line_bytes ls
line_bytes (loose p ∷ ls) = line_bytes ls

longer_bytes : (p a : ℕ) (ls : List Line) → line_bytes (longer p a ls) ≤ suc (line_bytes ls)
unfolding longer line_bytes
longer_bytes p a [] = omega arith
longer_bytes p a (whole q s ∷ ls) = omega arith
longer_bytes p a (loose q ∷ ls) = omega arith

after_bytes : (s : List ℕ) (p k : ℕ) → line_bytes (lines_after s p k) ≤ length s - k
unfolding lines_after line_step line_bytes
after_bytes [] p k = omega arith
after_bytes (a ∷ s) p zero = go (starts crlf (a ∷ s)) refl (after_bytes s (p + 1))
  where
    go : (t : Bool) → starts crlf (a ∷ s) ≡ t → ((k : ℕ) → line_bytes (lines_after s (p + 1) k) ≤ length s - k) → line_bytes (line_step t p a (lines_after s (p + 1))) ≤ suc (length s) - 0
    go true e ih = omega (arith, ih 1, starts-length crlf (a ∷ s) e)
    go false e ih = omega (arith, ih 0, longer_bytes p a (lines_after s (p + 1) 0))
after_bytes (a ∷ s) p (suc k) = omega (arith, after_bytes s (p + 1) k)

-- ---- what they come to

-- decoded values are not longer
value_decoded : (ed : Edition) (v : ParamValue) → length (write_param_value (decoded_value ed v)) ≤ length (write_param_value v)
unfolding write_param_value pick
value_decoded ed v = go v.quoted
  where
    go : (t : Bool) → length (pick t (34 ∷ (decode ed v.chars ⊕ 34 ∷ [])) (decode ed v.chars)) ≤ length (pick t (34 ∷ (v.chars ⊕ 34 ∷ [])) v.chars)
    go true = omega (arith, length_both (decode ed v.chars) (34 ∷ []), length_both v.chars (34 ∷ []), decode_short ed v.chars)
    go false = decode_short ed v.chars

values_decoded : (ed : Edition) (vs : List ParamValue) → length (each_after 44 (map write_param_value (map (decoded_value ed) vs))) ≤ length (each_after 44 (map write_param_value vs))
unfolding each_after
values_decoded ed [] = omega arith
values_decoded ed (v ∷ vs) =
    let a = length_both (write_param_value (decoded_value ed v)) (each_after 44 (map write_param_value (map (decoded_value ed) vs))) in
    let b = length_both (write_param_value v) (each_after 44 (map write_param_value vs)) in
    omega (arith, a, b, value_decoded ed v, values_decoded ed vs)

parameter_decoded : (ed : Edition) (r : RawParameter) → length (write_parameter (decoded_parameter ed r)) ≤ length (write_parameter r)
unfolding write_parameter joined_by
parameter_decoded ed r = go r.values
  where
    n : List ℕ
    n = r.name

    go : (vs : List ParamValue) → length (59 ∷ (n ⊕ 61 ∷ joined_by 44 (map write_param_value (map (decoded_value ed) vs)))) ≤ length (59 ∷ (n ⊕ 61 ∷ joined_by 44 (map write_param_value vs)))
    go [] = omega arith
    go (v ∷ vs) =
        let a = length_both n (61 ∷ (write_param_value (decoded_value ed v) ⊕ each_after 44 (map write_param_value (map (decoded_value ed) vs)))) in
        let b = length_both n (61 ∷ (write_param_value v ⊕ each_after 44 (map write_param_value vs))) in
        let c = length_both (write_param_value (decoded_value ed v)) (each_after 44 (map write_param_value (map (decoded_value ed) vs))) in
        let d = length_both (write_param_value v) (each_after 44 (map write_param_value vs)) in
        omega (arith, a, b, c, d, value_decoded ed v, values_decoded ed vs)

parameters_decoded : (ed : Edition) (rs : List RawParameter) → bytes (map (decoded_parameter ed) rs) ≤ bytes rs
unfolding joined
parameters_decoded ed [] = omega arith
parameters_decoded ed (r ∷ rs) =
    let a = length_both (write_parameter (decoded_parameter ed r)) (joined (map write_parameter (map (decoded_parameter ed) rs))) in
    let b = length_both (write_parameter r) (joined (map write_parameter rs)) in
    omega (arith, a, b, parameter_decoded ed r, parameters_decoded ed rs)

line_decoded : (ed : Edition) (l : ContentLine) → length (write_content_line (decoded_line ed l)) ≤ length (write_content_line l)
line_decoded ed l = omega (arith, line_length l, line_length (decoded_line ed l), parameters_decoded ed l.parameters)

entry_cost : (ed : Edition) (s : List ℕ) (o : Option ContentLine) → content_line s ≡ o → cost (entry_by (option_map (decoded_line ed) o)) ≤ rate * (length s + 2)
unfolding entry_by
entry_cost ed s None e = unfold cost in omega arith
entry_cost ed s (Some l) e = pick_either Fits (same (upper l.name) (ascii "BEGIN")) _ _ begins (pick_either Fits (same (upper l.name) (ascii "END")) end (property (decoded_line ed l)) ends states)
  where
    Fits : Entry → Type 0
    Fits x = cost x ≤ rate * (length s + 2)

    as_read : length (write_content_line l) ≡ length s
    as_read = rw (content_line_write_back s l e)

    begins : Fits (begin (upper l.value))
    begins = unfold cost in omega (arith, upper-length l.value, line_length l, as_read)

    ends : Fits end
    ends = unfold cost in omega arith

    states : Fits (property (decoded_line ed l))
    states = unfold cost in omega (arith, as_read, line_decoded ed l)

lines_cost : (ed : Edition) (ls : List Line) → costs (map (entry_of ed) ls) ≤ rate * line_bytes ls
unfolding costs entry_of line_bytes cost
lines_cost ed [] = omega arith
lines_cost ed (whole p s ∷ ls) = omega (arith, entry_cost ed s (content_line s) refl, lines_cost ed ls)
lines_cost ed (loose p ∷ ls) = omega (arith, lines_cost ed ls)

-- whether they are written as XML or as another format that a line comes to no more in
pub text_cost : (ed : Edition) (u : List ℕ) → costs (map (entry_of ed) (lines u)) ≤ rate * length u
text_cost ed u = omega (arith, lines_cost ed (lines u), after_bytes u 0 0)

-- ---- the document

document_length : (c : Components) → length (write_document c) ≤ 109 + length (components_xml c)
unfolding write_document
document_length c =
    let x : List ℕ = components_xml c in
    let z : List ℕ = 10 ∷ [] in
    let front = length_both declaration (z ⊕ root_start ⊕ x ⊕ root_end ⊕ z) in
    omega (arith, front, length_both z (root_start ⊕ x ⊕ root_end ⊕ z), length_both root_start (x ⊕ root_end ⊕ z), length_both x (root_end ⊕ z), length_both root_end z)

pub xml_bound : (ed : Edition) (u : List ℕ) → length (write_document (calendar_of ed (lines u))) ≤ rate * length u + 109
unfolding calendar_of
xml_bound ed u =
    let ls : List Line = lines u in
    omega (arith, document_length (calendar_of ed ls), nested_length (map (entry_of ed) ls) levels, text_cost ed u)

pub xml_fits : (ed : Edition) (u : List ℕ) (n : ℕ) → rate * length u + 109 ≤ n → length (write_document (calendar_of ed (lines u))) ≤ n
xml_fits ed u n h = omega (arith, xml_bound ed u, h)

pub xml_short : (ed : Edition) (u : List ℕ) → length u ≤ 65535 → length (write_document (calendar_of ed (lines u))) < 2 ^ 32
xml_short ed u h = omega (arith, xml_bound ed u, h)
