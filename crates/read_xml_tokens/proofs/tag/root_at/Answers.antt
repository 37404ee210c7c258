-- `read_xml_tokens::tag::root_at` meets its contract.
use borrow.Author.Rules.{rules}
use Rattle.octets.specs.Ascii.{ascii}
use Rattle.read_xml_tokens.specs.laws.Tags.{root_tagged, root_piece, root_there, root_missing}
use Rattle.read_xml_tokens.specs.laws.Ends.{exact_stands}
use Rattle.read_xml_tokens.proofs.tag.root_at.Goals as goal

pub returns-then-a-s : goal.returns-then-a-s
returns-then-a-s c = record { reads = rw (← c.prolog_end-at.ensures.0) (root_there c.exactly_at-a.ensures c.if-a-s.true (c.opened_at.ensures root_piece (exact_stands (ascii "<") c.exactly_at-a.ensures c.if-a-s.true).1 (root_tagged c.if-a-s.true c.name_at-n.ensures c.attribute_at-v.ensures c.blank_at-e.ensures))); inside = rw (← c.prolog_end-at.ensures.0) c.prolog_end-at.ensures.1 }

pub returns : goal.returns
returns c = record { reads = rw (← c.prolog_end-at.ensures.0) (root_missing c.exactly_at-a.ensures c.prolog_end-at.ensures.1 c.if-a-s.false c.fault_at.ensures); inside = rw (← c.prolog_end-at.ensures.0) c.prolog_end-at.ensures.1 }
