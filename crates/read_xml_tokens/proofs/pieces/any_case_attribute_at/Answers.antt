-- `read_xml_tokens::pieces::any_case_attribute_at` meets its contract.
use borrow.Author.Rules.{rules}
use Rattle.read_xml_tokens.specs.laws.Ends.{ends_then}
use Rattle.read_xml_tokens.proofs.pieces.any_case_attribute_at.Goals as goal

pub returns : goal.returns
returns c = ends_then c.space_at-a.ensures (ends_then c.exactly_at-b.ensures (ends_then c.eq_at-c.ensures c.quoted_any_case_at.ensures))
