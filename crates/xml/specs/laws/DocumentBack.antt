-- A document that is written is within the profile and is read back (the rules, "Canonical XML", "XML profile for reading").
--     document_marks_lem    its marks
--     document_read_back    its nodes: the root, with the content
--     document_well_formed  it is within the profile, where at most 31 elements stand inside one another below the root
use Rattle.std.specs.Prelude.{◌≡◌, refl, Bool, true, false, List, [], ◌∷◌, ◌++◌, ℕ, zero, suc, ◌+◌, ◌≤◌, ◌<◌, length}
use Rattle.std.proofs.Common.{ap, ◌∙◌, arith, lt-ltb}
use Rattle.std.proofs.lemmas.Bool.{false≢true}
use Rattle.octets.specs.Ascii.{ascii}
use Rattle.octets.specs.Pick.{pick, ◌and◌, ◌or◌}
use Rattle.octets.specs.laws.Pick.{and_both}
use Rattle.octets.specs.Append.{◌⊕◌}
use Rattle.octets.specs.Words.{same}
use Rattle.octets.specs.laws.Words.{same_self}
use Rattle.calendar.specs.Refusal.{fine}
use Rattle.xml.specs.Marks.{Mark, opens, closes, char, refers, marks, document_marks}
use Rattle.xml.specs.WellFormed.{has_room, closes_top, move, followed, check, xml_verdict}
use Rattle.xml.specs.Nodes.{no_nodes, element, end_place_by, end_place, nodes_by, nodes, root_by, root_node, document_nodes}
use Rattle.xml.specs.Escape.{escaped_byte, escaped, end_tag, document_of}
use Rattle.xml.specs.Reads.{is_name, is_escaped, character_marks}
use Rattle.xml.specs.laws.Reads.{marks_end, follows_end}
use Rattle.xml.specs.Content.{Content, nothing, child, char_data, written, is_writable, inner_place, end_tag_place, next_place, placed, content_marks}
use Rattle.xml.specs.laws.ReadBack.{content_marks_lem, content_end, content_placed, element_marks_lem, characters_marks, no_marks}
use Rattle.xml.specs.Computing.{xml_compute}

-- the root's start tag stands after the declaration, which takes 39 bytes, and takes 56 bytes
root_front : (s : List ℕ) → document_marks (document_of s) ≡ opens 39 (ascii "icalendar") ∷ marks 95 (s ⊕ (end_tag (ascii "icalendar") ⊕ ascii "\n"))
unfolding xml_compute
root_front s = refl

-- what follows the content: the root's end tag at the place q, and an LF
abbrev pub last_marks : ℕ → List Mark
last_marks q = closes q (ascii "icalendar") ∷ char (q + 12) 10 ∷ []

root_name : is_name (ascii "icalendar") ≡ true
unfolding xml_compute
root_name = refl

last_line : (q : ℕ) → marks q (ascii "\n") ≡ char q 10 ∷ []
unfolding xml_compute
last_line q = refl

pub document_marks_lem : (c : Content) (d : ℕ) → is_writable c d ≡ true →
    document_marks (document_of (written c)) ≡ opens 39 (ascii "icalendar") ∷ (content_marks c 95 ⊕ last_marks (95 + length (written c)))
unfolding ◌⊕◌
document_marks_lem c d h =
    root_front (written c)
    ∙ ap (λ (ms : List Mark). opens 39 (ascii "icalendar") ∷ ms)
    (content_marks_lem c d (end_tag (ascii "icalendar") ⊕ ascii "\n") 95 h (follows_end (ascii "icalendar") (ascii "\n"))
    ∙ ap (λ (ms : List Mark). content_marks c 95 ⊕ ms)
    (marks_end (ascii "icalendar") (ascii "\n") (95 + length (written c)) root_name
    ∙ ap (λ (ms : List Mark). closes (95 + length (written c)) (ascii "icalendar") ∷ ms) (last_line _)))

pub document_read_back : (c : Content) (d : ℕ) → is_writable c d ≡ true →
    document_nodes (document_of (written c)) ≡ element 39 (ascii "icalendar") (95 + length (written c)) (placed c 95 no_nodes) no_nodes
unfolding document_nodes root_node root_by nodes nodes_by end_place end_place_by
document_read_back c d h =
    ap root_node (document_marks_lem c d h)
    ∙ λ i. element 39 (ascii "icalendar") (content_end c 95 (last_marks (95 + length (written c))) 0 i) (content_placed c 95 (last_marks (95 + length (written c))) i) no_nodes

-- ---- well formed

-- characters inside an element are no fault
check_characters : (s : List ℕ) (p : ℕ) (ms : List Mark) (e : ℕ) (top : List ℕ) (st : List (List ℕ)) → check (character_marks s p ⊕ ms) e true (top ∷ st) ≡ check ms e true (top ∷ st)
unfolding character_marks check move followed pick ◌⊕◌
check_characters [] p ms e top st = refl
check_characters (b ∷ s) p ms e top st = go (is_escaped b) (check_characters s (p + length (escaped_byte b)) ms e top st)
  where
    rest : List Mark
    rest = character_marks s (p + length (escaped_byte b)) ++ ms

    go : (t : Bool) → check rest e true (top ∷ st) ≡ check ms e true (top ∷ st) → check (pick t (refers p (b ∷ [])) (char p b) ∷ rest) e true (top ∷ st) ≡ check ms e true (top ∷ st)
    go true ih = ih
    go false ih = ih

check-opens : (p : ℕ) (nm : List ℕ) (ms : List Mark) (e : ℕ) (top : List ℕ) (st : List (List ℕ)) → suc (length st) < 32 →
    check (opens p nm ∷ ms) e true (top ∷ st) ≡ check ms e true (nm ∷ top ∷ st)
unfolding check move has_room followed pick
check-opens p nm ms e top st h = rw (lt-ltb (suc (length st)) 32 h)

check-closes : (p : ℕ) (nm : List ℕ) (ms : List Mark) (e : ℕ) (st : List (List ℕ)) → check (closes p nm ∷ ms) e true (nm ∷ st) ≡ check ms e true st
unfolding check move closes_top followed pick
check-closes p nm ms e st = rw (same_self nm)

check_content : (c : Content) (d : ℕ) (p : ℕ) (ms : List Mark) (e : ℕ) (top : List ℕ) (st : List (List ℕ)) → is_writable c d ≡ true → suc (length st) + d ≤ 32 →
    check (content_marks c p ⊕ ms) e true (top ∷ st) ≡ check ms e true (top ∷ st)
unfolding is_writable
check_content nothing d p ms e top st h l = ap (λ (m : List Mark). check m e true (top ∷ st)) (no_marks p ms)
check_content (child nm inner next) zero p ms e top st h l = absurd (false≢true h)
check_content (child nm inner next) (suc d) p ms e top st h l =
    let both : (is_writable inner d and is_writable next (suc d)) ≡ true = (and_both (is_name nm) _ h).1 in
    let after : List Mark = closes (end_tag_place nm inner p) nm ∷ (content_marks next (next_place nm inner p) ⊕ ms) in
    ap (λ (m : List Mark). check m e true (top ∷ st)) (element_marks_lem nm inner next p ms)
    ∙ check-opens p nm (content_marks inner (inner_place nm p) ⊕ after) e top st (omega arith)
    ∙ check_content inner d (inner_place nm p) after e nm (top ∷ st) (and_both _ (is_writable next (suc d)) both).0 (omega arith)
    ∙ check-closes (end_tag_place nm inner p) nm _ e (top ∷ st)
    ∙ check_content next (suc d) (next_place nm inner p) ms e top st (and_both (is_writable inner d) _ both).1 l
check_content (char_data s next) d p ms e top st h l =
    ap (λ (m : List Mark). check m e true (top ∷ st)) (characters_marks s next p ms)
    ∙ check_characters s p _ e top st
    ∙ check_content next d (p + length (escaped s)) ms e top st (and_both _ (is_writable next d) h).1 l

pub document_well_formed : (c : Content) → is_writable c 31 ≡ true → xml_verdict (document_of (written c)) ≡ fine
unfolding xml_verdict check move has_room followed closes_top pick ◌and◌ ◌or◌ same
document_well_formed c h =
    ap (λ (m : List Mark). check m (length (document_of (written c))) false []) (document_marks_lem c 31 h)
    ∙ check_content c 31 95 (last_marks (95 + length (written c))) (length (document_of (written c))) (ascii "icalendar") [] h (omega arith)
