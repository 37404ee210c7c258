-- One name that opens every shut definition of both conversions: `unfolding conversions_compute`.
use Rattle.std.specs.Prelude.{ℕ}
use Rattle.text.specs.Computing.{ical_compute}
use Rattle.xcal.specs.Computing.{xcal_compute}
use Rattle.calls.specs.Conversion.{outcome, contents}
use Rattle.calls.specs.ToXml.{to_xml, to_xml_work}
use Rattle.calls.specs.ToText.{to_text}

unfoldable pub conversions_compute : ℕ
unfolding ical_compute xcal_compute outcome contents to_xml to_xml_work to_text
conversions_compute = 0
