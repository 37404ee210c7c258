-- One name that opens every shut definition of this crate and of those it uses, for examples that compute: `unfolding json_compute`.
use Rattle.std.specs.Prelude.{ℕ}
use Rattle.octets.specs.Computing.{octets_compute}
use Rattle.utf8.specs.Computing.{utf8_compute}
use Rattle.json_text.specs.Check.{followed, check}
use Rattle.json_text.specs.Strings.{hex_worth, escaped as escaped_char, characters_by, characters_from, length_by, length_from}
use Rattle.json_text.specs.Tree.{scan, end_by, end_place, elements_by, members_by, elements, members, value_of, element_list, member_list}
use Rattle.json_text.specs.Write.{escaped}

unfoldable pub json_compute : ℕ
unfolding octets_compute utf8_compute followed check hex_worth escaped_char characters_by characters_from length_by length_from scan end_by end_place elements_by members_by elements members value_of element_list member_list escaped
json_compute = 0
