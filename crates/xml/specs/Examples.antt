-- Documents read and each kind of fault, by computation.
use Rattle.std.specs.Prelude.{◌≡◌, refl, true, false, List, [], ◌∷◌, ◌++◌, map, ℕ}
use Rattle.octets.specs.Ascii.{ascii}
use Rattle.calendar.specs.Refusal.{XML, fine, refuse}
use Rattle.xml.specs.WellFormed.{xml_verdict}
use Rattle.xml.specs.Nodes.{Nodes, no_nodes, element, literal, referred, document_nodes, characters_of, has_element}
use Rattle.xml.specs.Escape.{escaped, document_of}
use Rattle.xml.specs.Content.{nothing, child, char_data, written}
use Rattle.xml.specs.Computing.{xml_compute}

-- a document with the root's start tag, which takes 56 bytes, some content, and the root's end tag
abbrev with_root : List ℕ → List ℕ
with_root content = ascii "<icalendar xmlns='urn:ietf:params:xml:ns:icalendar-2.0'>" ++ content ++ ascii "</icalendar>"

tree : document_nodes (with_root (ascii "<a>x&lt;<b/></a >\r\ny")) ≡
    element 0 (ascii "icalendar") 76
    (element 56 (ascii "a") 68 (literal 59 120 (referred 60 (60 ∷ []) (element 64 (ascii "b") 64 no_nodes no_nodes)))
    (literal 73 10 (literal 75 121 no_nodes)))
    no_nodes
unfolding xml_compute
tree = refl

-- of the content of `<a>`, what stands in it directly
content : Nodes
content = literal 59 120 (referred 60 (60 ∷ []) (element 64 (ascii "b") 64 no_nodes no_nodes))

direct : (characters_of content ≡ ascii "x<") × (has_element content ≡ true) × (has_element (literal 73 10 (literal 75 121 no_nodes)) ≡ false)
unfolding xml_compute content
direct = (refl, refl, refl)

escapes : map escaped (ascii "x" ∷ ascii "a < b & c > d" ∷ []) ≡ (ascii "x" ∷ ascii "a &lt; b &amp; c &gt; d" ∷ [])
unfolding xml_compute
escapes = refl

content_of_two : written (child (ascii "a") (char_data (ascii "x<y") nothing) (child (ascii "b") nothing nothing)) ≡ ascii "<a>x&lt;y</a><b></b>"
unfolding xml_compute
content_of_two = refl

-- what is fine: the declaration in each kind of quote, white space in tags, after the declaration and after the root, the root as an empty tag, references
accepted : map xml_verdict (
    document_of [] ∷
    ascii "<?xml\tversion = '1.0' encoding='UTF-8' ?>\r\n<icalendar xmlns = \"urn:ietf:params:xml:ns:icalendar-2.0\" /> \n" ∷
    with_root (ascii "<a\n></a ><b />>]]&gt;&amp;&apos;&quot;&#x0041;&#10;&#x1F600;") ∷
    with_root (ascii "<a><a><a><a><a><a><a><a><a><a><a><a><a><a><a></a></a></a></a></a></a></a></a></a></a></a></a></a></a></a>") ∷ []) ≡
    (fine ∷ fine ∷ fine ∷ fine ∷ [])
unfolding xml_compute
accepted = refl

-- before the root: no root, white space, a byte order mark, declarations that are not as they must be, something else
before_root : map xml_verdict (
    [] ∷
    ascii " " ∷
    document_of [] ∷
    (239 ∷ 187 ∷ 191 ∷ document_of []) ∷
    ascii "<?xml version='1.0'?><a/>" ∷
    ascii "<?xml encoding='utf-8' version='1.0'?><a/>" ∷
    ascii "<?xml version='1.0' encoding='utf-8'" ∷
    ascii "<?xml version='1.0' encoding='utf-8'?>\n" ∷
    ascii "<?xml version='1.0' encoding='utf-8'?>\n<!--x-->" ∷
    ascii "<?xml version='1.0' encoding='utf-8'?> &#32;" ∷ []) ≡
    (refuse XML 0 ∷ refuse XML 0 ∷ fine ∷ refuse XML 0 ∷ refuse XML 0 ∷ refuse XML 0 ∷ refuse XML 0 ∷ refuse XML 39 ∷ refuse XML 39 ∷ refuse XML 39 ∷ [])
unfolding xml_compute
before_root = refl

-- the root's tag: no namespace, another, one attribute more, a prefix, cut off
root_tags : map xml_verdict (
    ascii "<icalendar/>" ∷
    ascii "<icalendar xmlns='x'/>" ∷
    ascii "<icalendar xmlns='urn:ietf:params:xml:ns:icalendar-2.0' a='b'/>" ∷
    ascii "<x:icalendar xmlns='urn:ietf:params:xml:ns:icalendar-2.0'/>" ∷
    ascii "<icalendar xmlns='urn:ietf:params:xml:ns:icalendar-2.0'" ∷ []) ≡
    (refuse XML 0 ∷ refuse XML 0 ∷ refuse XML 0 ∷ refuse XML 0 ∷ refuse XML 0 ∷ [])
unfolding xml_compute
root_tags = refl

-- tags: a name that begins with a digit, white space before the name, an attribute, another end tag, too many open, cut off, still open
tags : map xml_verdict (
    with_root (ascii "<a><1/></a>") ∷
    with_root (ascii "< a/>") ∷
    with_root (ascii "<a/ >") ∷
    with_root (ascii "<a b='c'/>") ∷
    with_root (ascii "<a></b>") ∷
    with_root (ascii "<a><a><a><a><a><a><a><a><a><a><a><a><a><a><a><a><a><a><a><a><a><a><a><a><a><a><a><a><a><a><a><b/>") ∷
    with_root (ascii "<a") ∷
    with_root (ascii "<a>") ∷
    with_root (ascii "<!-- -->") ∷
    ascii "<icalendar xmlns='urn:ietf:params:xml:ns:icalendar-2.0'><a>" ∷
    ascii "<icalendar xmlns='urn:ietf:params:xml:ns:icalendar-2.0'><a" ∷ []) ≡
    (refuse XML 59 ∷ refuse XML 56 ∷ refuse XML 56 ∷ refuse XML 56 ∷ refuse XML 59 ∷ refuse XML 149 ∷ refuse XML 56 ∷ refuse XML 59 ∷ refuse XML 56 ∷ refuse XML 59 ∷
    refuse XML 56 ∷ [])
unfolding xml_compute
tags = refl

-- references: to CR, to a control character, a surrogate, past the last character, no digit, no entity of the five, cut off; `]]>`
references : map xml_verdict (
    with_root (ascii "a&#13;") ∷
    with_root (ascii "a&#x0;") ∷
    with_root (ascii "a&#xD800;") ∷
    with_root (ascii "a&#x110000;") ∷
    with_root (ascii "a&#;") ∷
    with_root (ascii "a&#X41;") ∷
    with_root (ascii "a&nbsp;") ∷
    with_root (ascii "a&am") ∷
    with_root (ascii "a]]]>") ∷ []) ≡
    (refuse XML 57 ∷ refuse XML 57 ∷ refuse XML 57 ∷ refuse XML 57 ∷ refuse XML 57 ∷ refuse XML 57 ∷ refuse XML 57 ∷ refuse XML 57 ∷ refuse XML 58 ∷ [])
unfolding xml_compute
references = refl

-- after the root: a character, a reference, an element, an end tag
after_root : map xml_verdict (
    (with_root [] ++ ascii " \t\r\n") ∷
    (with_root [] ++ ascii " x") ∷
    (with_root [] ++ ascii " &#32;") ∷
    (with_root [] ++ ascii "<a/>") ∷
    (with_root [] ++ ascii "</icalendar>") ∷ []) ≡
    (fine ∷ refuse XML 69 ∷ refuse XML 69 ∷ refuse XML 68 ∷ refuse XML 68 ∷ [])
unfolding xml_compute
after_root = refl
