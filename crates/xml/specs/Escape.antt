-- Writing XML (the rules, "Canonical XML"): character data with its entities, tags, elements, and the whole document.
--     escaped      character data: `&`, `<`, `>` as entities, all else as it stands
--     start_tag, end_tag, element_of
--     document_of  the declaration, LF, the root with its content, LF
use Rattle.std.specs.Prelude.{List, [], ◌∷◌, ℕ, eqb}
use Rattle.octets.specs.Ascii.{ascii}
use Rattle.octets.specs.Pick.{pick}
use Rattle.octets.specs.Append.{◌⊕◌}

abbrev pub escaped_byte : ℕ → List ℕ
escaped_byte b = pick (eqb b 38) (ascii "&amp;") (pick (eqb b 60) (ascii "&lt;") (pick (eqb b 62) (ascii "&gt;") (b ∷ [])))

unfoldable pub escaped : List ℕ → List ℕ
escaped [] = []
escaped (b ∷ s) = escaped_byte b ⊕ escaped s

abbrev pub start_tag : List ℕ → List ℕ
start_tag nm = ascii "<" ⊕ nm ⊕ ascii ">"

abbrev pub end_tag : List ℕ → List ℕ
end_tag nm = ascii "</" ⊕ nm ⊕ ascii ">"

abbrev pub element_of : List ℕ → List ℕ → List ℕ
element_of nm content = start_tag nm ⊕ content ⊕ end_tag nm

-- the XML declaration and the LF after it
abbrev pub declaration_line : List ℕ
declaration_line = ascii "<?xml version=\"1.0\" encoding=\"utf-8\"?>\n"

abbrev pub root_start : List ℕ
root_start = ascii "<icalendar xmlns=\"urn:ietf:params:xml:ns:icalendar-2.0\">"

abbrev pub document_of : List ℕ → List ℕ
document_of content = declaration_line ⊕ root_start ⊕ content ⊕ end_tag (ascii "icalendar") ⊕ ascii "\n"
