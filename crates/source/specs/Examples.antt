-- The characters of an XML element and of a JSON string from several cursors on, computed.
use Rattle.std.specs.Prelude.{◌≡◌, refl, List, [], ◌∷◌, ℕ}
use Rattle.octets.specs.Ascii.{ascii}
use Rattle.folding.specs.Computing.{folding_compute}
use Rattle.edition.specs.Computing.{edition_compute}
use Rattle.xml.specs.Computing.{xml_compute}
use Rattle.json_text.specs.Computing.{json_compute}
use Rattle.json_text.specs.CharAt.{char_in}
use Rattle.source.specs.Mark.{mark_before}
use Rattle.source.specs.Characters.{remaining, chars_within, chars_from}
use Rattle.source.specs.Quoted.{left_of, quoted_within, quoted_from}
use Rattle.source.specs.Source.{rest}

-- a letter, `<`, é, a line break, a letter, the end tag
content : List ℕ
content = ascii "a&lt;&#xE9;\r\nb</x>"

from_start : rest 1 content 0 ≡ 97 ∷ 60 ∷ 195 ∷ 169 ∷ 10 ∷ 98 ∷ []
unfolding xml_compute content mark_before remaining chars_within chars_from rest
from_start = refl

-- after the first byte of é, whose `&` stands at 5
within_reference : rest 1 content 11 ≡ 169 ∷ 10 ∷ 98 ∷ []
unfolding xml_compute content mark_before remaining chars_within chars_from rest
within_reference = refl

-- the letter after the line break, at 13; the end tag, at 14
at_places : (rest 1 content 26 ≡ 98 ∷ []) × (rest 1 content 28 ≡ [])
unfolding xml_compute content mark_before remaining chars_within chars_from rest
at_places = (refl, refl)

-- a value with carets, as it stands and with a fold between a caret and its letter
with_carets : (rest 4 (ascii "^'a^^b") 0 ≡ ascii "\"a^b") × (rest 5 (ascii "^\r\n na^") 0 ≡ ascii "\na^")
unfolding folding_compute edition_compute rest
with_carets = (refl, refl)

-- a string of JSON, behind its quotation mark: a letter, é, a line break, a letter beyond U+FFFF, a letter
quoted : List ℕ
quoted = ascii "a\\u00e9\\n\\ud83d\\ude00b\",1"

-- from its first character, after the first byte of é, whose escape stands at 1, and after three bytes of that at 9
in_string : (rest 3 quoted 0 ≡ 97 ∷ 195 ∷ 169 ∷ 10 ∷ 240 ∷ 159 ∷ 152 ∷ 128 ∷ 98 ∷ []) × (rest 3 quoted 3 ≡ 169 ∷ rest 3 quoted 14) × (rest 3 quoted 23 ≡ 128 ∷ 98 ∷ [])
unfolding json_compute char_in quoted mark_before left_of quoted_within quoted_from rest
in_string = (refl, refl, refl)
