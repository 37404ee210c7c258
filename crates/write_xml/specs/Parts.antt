-- The parts of a component's element around its subcomponents.
--     has_components n empty   the component n, which has no subcomponents if it is empty, has an element `components`
--     head_xml, tail_xml       what stands before the subcomponents, and behind them; es are the entries behind its BEGIN
use Rattle.std.specs.Prelude.{Bool, true, false, List, [], ℕ}
use Rattle.octets.specs.Ascii.{ascii}
use Rattle.octets.specs.Pick.{pick}
use Rattle.octets.specs.Append.{◌⊕◌}
use Rattle.octets.specs.Class.{lower}
use Rattle.octets.specs.Words.{same}
use Rattle.xml.specs.Escape.{start_tag, end_tag, element_of}
use Rattle.text.specs.Tree.{Entry}
use Rattle.write_xml.specs.Walks.{own_xml}

abbrev pub has_components : List ℕ → Bool → Bool
has_components n empty = pick (same n (ascii "VCALENDAR")) true (pick empty false true)

abbrev pub head_xml : List ℕ → Bool → List Entry → List ℕ
head_xml n empty es = start_tag (lower n) ⊕ element_of (ascii "properties") (own_xml n es) ⊕ pick (has_components n empty) (start_tag (ascii "components")) []

abbrev pub tail_xml : List ℕ → Bool → List ℕ
tail_xml n empty = pick (has_components n empty) (end_tag (ascii "components")) [] ⊕ end_tag (lower n)
