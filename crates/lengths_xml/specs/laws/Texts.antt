-- TEXT and REQUEST-STATUS: a text has no more bytes than its escaped spelling.
--     text_length
--     status_length    all parts of a REQUEST-STATUS, as elements
use Rattle.std.specs.Prelude.{◌≡◌, List, [], ◌∷◌, ℕ, suc, ◌+◌, ◌*◌, ◌≤◌, length, None, Some}
use Rattle.std.proofs.Common.{arith}
use Rattle.octets.specs.Ascii.{ascii}
use Rattle.octets.specs.Append.{◌⊕◌}
use Rattle.octets.specs.laws.Append.{length_both}
use Rattle.octets.specs.laws.Reading.{and_then-some, none-some}
use Rattle.calendar.specs.Calendar.{Value, request_status}
use Rattle.texts.specs.Text.{split_text, alone, read_text}
use Rattle.texts.specs.RequestStatus.{status_of, read_request_status}
use Rattle.xcal.specs.WriteXml.{text_element, value_xml}
use Rattle.lengths_xml.specs.laws.Elements.{rate, text_element_length}
use Rattle.lengths_xml.specs.laws.Pieces.{weight, split_weight}

alone-length : (ps : List (List ℕ)) (v : List ℕ) → alone ps ≡ Some v → suc (length v) ≤ weight ps
unfolding weight
alone-length [] v h = none-some h
alone-length (p ∷ []) v h = let q : p ≡ v = cc in rw (← q) (omega arith)
alone-length (p ∷ q ∷ ps) v h = none-some h

pub text_length : (s v : List ℕ) → read_text s ≡ Some v → length v ≤ length s
text_length s v h =
    let q = and_then-some (split_text 0 s) alone v h in
    omega (arith, alone-length q.0 v q.2, split_weight 0 s q.0 q.1)

-- ---- the parts of a REQUEST-STATUS

parts_length : (c d x : List ℕ) → length (text_element (ascii "code") c ⊕ text_element (ascii "description") d ⊕ text_element (ascii "data") x) ≤ 5 * (length c + length d + length x) + 53
parts_length c d x =
    let e : List ℕ = text_element (ascii "code") c in
    let f : List ℕ = text_element (ascii "description") d in
    let g : List ℕ = text_element (ascii "data") x in
    omega (arith, length_both e (f ⊕ g), length_both f g, text_element_length (ascii "code") c, text_element_length (ascii "description") d, text_element_length (ascii "data") x)

two_length : (c d : List ℕ) → length (text_element (ascii "code") c ⊕ text_element (ascii "description") d ⊕ []) ≤ 5 * (length c + length d) + 40
two_length c d =
    let e : List ℕ = text_element (ascii "code") c in
    let f : List ℕ = text_element (ascii "description") d in
    omega (arith, length_both e (f ⊕ []), length_both f [], text_element_length (ascii "code") c, text_element_length (ascii "description") d)

of_length : (ps : List (List ℕ)) (v : Value) → status_of ps ≡ Some v → length (value_xml v) ≤ rate * weight ps + 2
unfolding weight value_xml
of_length [] v h = none-some h
of_length (c ∷ []) v h = none-some h
of_length (c ∷ d ∷ []) v h = let q : request_status c d None ≡ v = cc in rw (← q) (omega (arith, two_length c d))
of_length (c ∷ d ∷ x ∷ []) v h = let q : request_status c d (Some x) ≡ v = cc in rw (← q) (omega (arith, parts_length c d x))
of_length (c ∷ d ∷ x ∷ p ∷ ps) v h = none-some h

pub status_length : (s : List ℕ) (v : Value) → read_request_status s ≡ Some v → length (value_xml v) ≤ rate * suc (length s) + 2
status_length s v h =
    let q = and_then-some (split_text 59 s) status_of v h in
    omega (arith, of_length q.0 v q.2, split_weight 59 s q.0 q.1)
