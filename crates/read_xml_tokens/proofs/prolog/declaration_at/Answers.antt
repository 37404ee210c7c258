-- `read_xml_tokens::prolog::declaration_at` meets its contract.
use borrow.Author.Rules.{rules}
use Rattle.read_xml_tokens.specs.laws.Prologue.{ends_declaration}
use Rattle.read_xml_tokens.proofs.prolog.declaration_at.Goals as goal

pub returns : goal.returns
returns c = ends_declaration c.exactly_at-a.ensures c.attribute_at-b.ensures c.any_case_attribute_at-c.ensures c.blank_at-d.ensures c.exactly_at.ensures
