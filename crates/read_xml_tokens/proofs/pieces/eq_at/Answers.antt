-- `read_xml_tokens::pieces::eq_at` meets its contract.
use borrow.Author.Rules.{rules}
use Rattle.read_xml_tokens.specs.laws.Prologue.{ends_eq}
use Rattle.read_xml_tokens.proofs.pieces.eq_at.Goals as goal

pub returns : goal.returns
returns c = ends_eq c.blank_at-a.ensures c.exactly_at-b.ensures c.blank_at.ensures
