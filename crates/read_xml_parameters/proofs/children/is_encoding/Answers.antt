-- `read_xml_parameters::children::is_encoding` meets its contract.
use borrow.Author.Rules.{rules}
use Rattle.octets.specs.Ascii.{ascii}
use Rattle.octets.specs.Words.{same}
use Rattle.read_xml_parameters.specs.laws.Children.{is_whole}
use Rattle.read_xml_parameters.proofs.children.is_encoding.Goals as goal

pub returns : goal.returns
returns c = is_whole (λ l. same l (ascii "encoding")) _ c.is_word.ensures
