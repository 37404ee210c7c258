-- TEXT of iCalendar text written as elements of XML.
--     texts_xml    an element `text` for each text of a list
use Rattle.std.specs.Prelude.{List, [], ◌∷◌, ℕ}
use Rattle.octets.specs.Ascii.{ascii}
use Rattle.octets.specs.Append.{◌⊕◌}
use Rattle.xml.specs.Escape.{escaped, element_of}

unfoldable pub texts_xml : List (List ℕ) → List ℕ
texts_xml [] = []
texts_xml (t ∷ ts) = element_of (ascii "text") (escaped t) ⊕ texts_xml ts
