-- `read_xml_tokens::tag::tag_at` meets its contract.
use mathlib.Core.Path.{refl}
use native.Mathlib.Omega.{arith}
use borrow.Author.Rules.{rules}
use Rattle.octets.specs.Ascii.{ascii}
use Rattle.read_xml_tokens.specs.laws.Tags.{tagged, plain_tag, tag_closed, tag_opened}
use Rattle.read_xml_tokens.specs.laws.Ends.{exact_stands}
use Rattle.read_xml_tokens.proofs.tag.tag_at.Goals as goal

pub closed_at-requires : goal.closed_at-requires
closed_at-requires c = (omega (arith, (exact_stands (ascii "/") c.exactly_at-c.ensures c.if-c-s.true).1), c.if-c-s.true)

pub returns-then-c-s : goal.returns-then-c-s
returns-then-c-s c = tag_closed c.requires c.exactly_at-c.ensures c.if-c-s.true c.closed_at.ensures

pub returns : goal.returns
returns c = tag_opened c.requires c.exactly_at-c.ensures c.if-c-s.false (c.opened_at.ensures plain_tag refl (tagged (omega (arith, c.requires)) c.name_at-n.ensures c.blank_at-e.ensures))
