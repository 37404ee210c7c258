-- One name that opens every shut definition of this crate and of those it uses, for examples that compute: `unfolding xml_compute`.
use Rattle.std.specs.Prelude.{ℕ}
use Rattle.octets.specs.Computing.{octets_compute}
use Rattle.calendar.specs.Refusal.{◌otherwise◌}
use Rattle.utf8.specs.Computing.{utf8_compute}
use Rattle.xml.specs.Pieces.{from, first, exactly, in_any_case, some_space, any_space, xml_name, name_of, both, ◌then◌, equals_sign, quoted}
use Rattle.xml.specs.Token.{namespace_attribute, start_by, end_by, tag, root_tag, hex_value, char_ref, reference, literal_byte, token}
use Rattle.xml.specs.Prolog.{version_info, encoding_decl, xml_decl, prolog}
use Rattle.xml.specs.Marks.{marks_by, scan, root_marks, document_marks}
use Rattle.xml.specs.WellFormed.{has_room, closes_top, move, followed, check, xml_verdict}
use Rattle.xml.specs.Nodes.{end_place_by, end_place, nodes_by, nodes, root_by, root_node, document_nodes, characters_of, has_element}
use Rattle.xml.specs.NodesAt.{marks_at, nodes_at, chars_at}
use Rattle.xml.specs.CharAt.{char_token, char_in}
use Rattle.xml.specs.Digits.{worth_on, capped}
use Rattle.xml.specs.Escape.{escaped}
use Rattle.xml.specs.Reads.{is_name, character_marks}
use Rattle.xml.specs.Content.{written, is_writable, ◌beside◌, character_nodes, placed, content_marks}
use Rattle.xml.specs.CleanRuns.{run_by, run_of}

unfoldable pub xml_compute : ℕ
unfolding octets_compute ◌otherwise◌ utf8_compute from first exactly in_any_case some_space any_space xml_name name_of both ◌then◌ equals_sign quoted namespace_attribute start_by end_by tag root_tag hex_value char_ref reference literal_byte token version_info encoding_decl xml_decl prolog marks_by scan root_marks document_marks has_room closes_top move followed check xml_verdict end_place_by end_place nodes_by nodes root_by root_node document_nodes characters_of has_element marks_at nodes_at chars_at char_token char_in worth_on capped escaped is_name character_marks written is_writable ◌beside◌ character_nodes placed content_marks run_by run_of
xml_compute = 0
