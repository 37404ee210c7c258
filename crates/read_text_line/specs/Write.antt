-- Content lines written, without CRLF and not folded: the grammar of RFC 5545, section 3.1, the other way.
--     write_param_value, write_parameter, write_content_line
use Rattle.std.specs.Prelude.{List, [], ◌∷◌, map, ℕ}
use Rattle.octets.specs.Pick.{pick}
use Rattle.octets.specs.Append.{◌⊕◌, joined}
use Rattle.octets.specs.Words.{joined_by}
use Rattle.read_text_line.specs.ContentLine.{ParamValue, RawParameter, ContentLine}

-- between double quotes exactly if its flag says so
unfoldable pub write_param_value : ParamValue → List ℕ
write_param_value v = pick v.quoted (34 ∷ (v.chars ⊕ 34 ∷ [])) v.chars

-- ;NAME=v1,v2
unfoldable pub write_parameter : RawParameter → List ℕ
write_parameter p = 59 ∷ (p.name ⊕ 61 ∷ joined_by 44 (map write_param_value p.values))

-- NAME, its parameters, a colon, the value
unfoldable pub write_content_line : ContentLine → List ℕ
write_content_line l = l.name ⊕ joined (map write_parameter l.parameters) ⊕ 58 ∷ l.value
