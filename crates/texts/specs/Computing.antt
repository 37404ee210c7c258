-- One name that opens every shut definition of this crate, for examples that compute: `unfolding texts_compute`.
use Rattle.std.specs.Prelude.{ℕ}
use Rattle.octets.specs.Computing.{octets_compute}
use Rattle.xml.specs.Escape.{escaped}
use Rattle.texts.specs.Text.{onto_read, split_from, write_text, front_read}
use Rattle.texts.specs.Unescaped.{is_split, unescaped}
use Rattle.texts.specs.Items.{item_from, behind_from}
use Rattle.texts.specs.Elements.{texts_xml}
use Rattle.texts.specs.StatusXml.{status_xml}
use Rattle.texts.specs.Uri.{uri_from, is_uri}
use Rattle.texts.specs.Binary.{binary_from, without_space}

unfoldable pub texts_compute : ℕ
unfolding octets_compute escaped onto_read split_from write_text front_read is_split unescaped item_from behind_from texts_xml status_xml uri_from is_uri binary_from without_space
texts_compute = 0
